use Rattle.bw_delta.specs.Slices.{list_of}
use Rattle.nifforan.proofs.Appending.{front_of_back}
use Rattle.nifforan.proofs.map.Map.append_front.Goals as goal

pub append_at_edge-requires : goal.append_at_edge-requires
append_at_edge-requires g c =
    front_of_back c.args.self.now.pairs (list_of c.split_at.result.0) (list_of c.split_at.result.1) (list_of c.args.run)
    c.split_at.ensures.parts c.requires
