use Rattle.std.proofs.Common.{refl}
use Rattle.bw_tree.proofs.Trees.{is_tree}
use Rattle.nifforan_shared.proofs.sharing.out_of_memory.Goals as goal

pub returns-clause-back : goal.returns-clause-back
returns-clause-back c =
    record { tree = is_tree _ c.law.ensures.lawful c.law.ensures.booked; config = refl; same = λ _. refl }
