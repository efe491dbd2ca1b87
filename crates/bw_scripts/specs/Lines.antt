-- What a line of a script asks for.
use Rattle.std.specs.Prelude.{ℕ, Bool, ◌||◌, ◌==◌, List, length, slice_index}
use Rattle.std.specs.Str.{byte}
use Rattle.bw_delta.specs.declared.fault.BaseFault.{BaseFault}
use Rattle.bw_delta.specs.declared.fault.BaseFault.TheVariants as base
use Rattle.bw_scripts.specs.declared.line.Unread.{Unread}
use Rattle.bw_scripts.specs.declared.line.Unread.TheVariants as unread

-- a line asks for nothing where it is empty, or begins with `#`
abbrev pub asks_for_nothing : List ℕ → Bool
asks_for_nothing line = length line == 0 || slice_index line 0 == byte "#"

-- the entries make no page, or memory is short
abbrev pub unread_base : BaseFault → Unread
unread_base base.BadEntries = unread.BadEntries
unread_base base.NoMemory = unread.NoMemory
