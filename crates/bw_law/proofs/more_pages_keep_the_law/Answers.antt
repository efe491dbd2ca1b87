use Rattle.bw_law.proofs.MorePages.{more_pages_law}
use Rattle.bw_law.proofs.more_pages_keep_the_law.Goals as goal

pub returns : goal.returns
returns c = more_pages_law
