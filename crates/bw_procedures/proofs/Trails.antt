-- Trails to which receipts were only added, one after the other.
use Rattle.std.proofs.Common.{◌≡◌, List, [], ◌++◌, sym, ap, ◌∙◌, append_assoc, append-nil}
use Rattle.bw_step.specs.declared.receipt.Receipt.{Receipt}
use Rattle.bw_procedures.specs.Seen.{OnlyAdds}

pub adds_by : (old new added : List Receipt) → new ≡ old ++ added → OnlyAdds old new
adds_by old new added is = record { added = added; trail = is }

pub adds_nothing : (old new : List Receipt) → new ≡ old → OnlyAdds old new
adds_nothing old new same = record { added = []; trail = same ∙ sym (append-nil old) }

pub adds_then : (a b c : List Receipt) → OnlyAdds a b → OnlyAdds b c → OnlyAdds a c
adds_then a b c p q = record { added = p.added ++ q.added; trail = q.trail ∙ (ap (λ (l : List Receipt). l ++ q.added) p.trail ∙ append_assoc a p.added q.added) }

pub ruleset adding = (adds_by, adds_nothing, adds_then)
