use Rattle.std.proofs.Common.{refl}
use Rattle.bw_tree.proofs.Trees.{is_tree}
use Rattle.nifforan_shared.proofs.sharing.share_table.Goals as goal

pub returns-in-Err-clause-back : goal.returns-in-Err-clause-back
returns-in-Err-clause-back g c =
    record { tree = is_tree _ c.config.ensures.lawful c.config.ensures.booked; config = refl; same = λ _. refl }
