use Rattle.bw_tree.proofs.Trees.{begun_book}
use Rattle.bw_tree.proofs.booked.Booked.over.Goals as goal

pub invariant_of-result : goal.invariant_of-result
invariant_of-result g c = (begun_book _ _ c.law.ensures.lawful c.law.ensures.booked c.requires.stock, c.requires.made, c.requires.closes)
