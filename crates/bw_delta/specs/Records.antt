-- A delta chain as contracts see it: records over base pages, whatever the allocator.
use Rattle.std.specs.Prelude.{ℕ, ◌+◌, Option, max}
use Rattle.bw_keys.specs.declared.page.Pid.{Pid}
use Rattle.bw_keys.specs.declared.range.Fence.{Fence}
use Rattle.bw_delta.specs.declared.chain.Delta.{Delta}
use Rattle.bw_delta.specs.declared.chain.Merging.{Merging}
use Rattle.bw_delta.specs.Pages.{Page}

pub data Records : Type 0 where
  bare : Page → Records
  above : Delta → Records → Records
  merged : Merging → Records → Records → Records

-- a merge at the separator, and the fence of the page that it makes
abbrev pub merging_at : ℕ → Fence → Option Pid → Merging
merging_at separator high right = record { separator = separator; high = high; right = right }

-- how many records stand above a base, along the deepest path
abbrev pub depth : Records → ℕ
depth (bare page) = 0
depth (above delta below) = depth below + 1
depth (merged merging left right) = max (depth left) (depth right) + 1
