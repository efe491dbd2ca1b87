use Rattle.std.proofs.Common.{◌≡◌, length, take}
use Rattle.std.specs.List.{zip}
use Rattle.bw_delta.proofs.entry_list.EntryList.from_entries.Given as goal

abbrev pub invariant-loop-entry : goal.invariant-loop-entry
invariant-loop-entry g l =
    record {
      even : length l.values.items ≡ length l.keys.items;
      so_far : zip l.keys.items l.values.items ≡ take l.entry-index l.entries;
    }
