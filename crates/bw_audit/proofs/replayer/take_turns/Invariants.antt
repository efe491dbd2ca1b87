use Rattle.std.proofs.Common.{◌≡◌, ◌<◌, [], length, map}
use Rattle.std.specs.Prelude.{replicate}
use Rattle.std.specs.List.{AllByRecursion}
use Rattle.bw_step.specs.Trails.{lists_of}
use Rattle.bw_audit.specs.Events.{turn_of, world_of}
use Rattle.bw_audit.specs.Explained.{Explains}
use Rattle.bw_audit.specs.Replays.{World, IsInterleaving}
use Rattle.bw_audit.proofs.replayer.take_turns.Given as goal

abbrev pub invariant-loop-event : goal.invariant-loop-event
invariant-loop-event l = record {
  -- whatever the turns to come lead to from here, all turns lead to from the start
  path : (last : World) → IsInterleaving (world_of l.table (lists_of l.trails.items)) (map turn_of l.event-iterator.rest.items) last
      → IsInterleaving (world_of l.fn.table (replicate l.workers [])) (map turn_of l.fn.events.items) last;
  explained : Explains l.table (lists_of l.trails.items);
  count : length l.trails.items ≡ l.workers;
  turns : AllByRecursion (λ event. event.worker < l.workers) l.event-iterator.rest.items;
}
