-- The page that the fields of a base are.
use Rattle.std.specs.Prelude.{ℕ, Option}
use Rattle.bw_keys.specs.declared.range.Fence.{Fence}
use Rattle.bw_keys.specs.declared.page.Pid.{Pid}
use Rattle.bw_delta.specs.Pages.{Page, Listed, pairs_of, routes_of}
use Rattle.bw_delta.specs.declared.base.Entries.{Entries}
use Rattle.bw_delta.specs.declared.base.Entries.TheVariants.{Pairs, Routes}

abbrev pub listed : {A : Type 0} → Entries A → Listed
listed (Pairs es) = pairs_of es
listed (Routes es) = routes_of es

abbrev pub page_of : {A : Type 0} → ℕ → Fence → Option Pid → Entries A → Page
page_of low high right entries = record { low = low; high = high; right = right; listed = listed entries }
