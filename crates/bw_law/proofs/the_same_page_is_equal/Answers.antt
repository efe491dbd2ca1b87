use Rattle.bw_law.proofs.SameTests.{same_page, same_page_tells}
use Rattle.bw_law.proofs.the_same_page_is_equal.Goals as goal

pub returns : goal.returns
returns c = λ p q. (same_page p q, same_page_tells p q)
