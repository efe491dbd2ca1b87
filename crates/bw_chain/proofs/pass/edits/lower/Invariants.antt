use Rattle.std.proofs.Common.{◌≡◌, ◌≤◌, ◌+◌, ◌-◌, ◌++◌, length, take, drop}
use Rattle.bw_chain.proofs.pass.edits.lower.Given as goal

abbrev pub invariant-loop-i : goal.invariant-loop-i
invariant-loop-i g l =
    record {
      from_place : l.place ≤ l.i;
      as_many : length l.items ≡ length l.fn.items;
      front : take l.i l.items ≡ take l.place l.fn.items ++ take (l.i - l.place) (drop (l.place + 1) l.fn.items);
      behind : drop (l.i + 1) l.items ≡ drop (l.i + 1) l.fn.items;
    }
