-- Events as contracts see them: turns of the workers.
use Rattle.std.specs.Prelude.{◌≡◌, List, Some, None, map}
use Rattle.bw_keys.specs.declared.config.Config.{Config}
use Rattle.bw_keys.specs.Limits.{first_bad_field}
use Rattle.bw_step.specs.declared.receipt.Receipt.{Receipt}
use Rattle.bw_step.specs.ProposalView.{proposal_of}
use Rattle.bw_step.specs.Trails.{lists_of}
use Rattle.bw_law.specs.Tables.{TableValue}
use Rattle.bw_audit.specs.declared.event.Deed.{Deed}
use Rattle.bw_audit.specs.declared.event.Deed.TheVariants.{Step, Look}
use Rattle.bw_audit.specs.declared.event.Event.{Event}
use Rattle.bw_audit.specs.declared.replayer.Replayed.{Replayed}
use Rattle.bw_audit.specs.declared.replayer.ReplayFault.{ReplayFault}
use Rattle.bw_audit.specs.declared.replayer.ReplayFault.TheVariants.{BadConfig, NoMemory}
use Rattle.bw_audit.specs.Replays.{DeedValue, proposes, looks, IsInterleaving, Turn, World}

abbrev pub deed_of : Deed → DeedValue
deed_of (Step step) = proposes (proposal_of step)
deed_of (Look key) = looks key

abbrev pub turn_of : Event → Turn
turn_of event = record { worker = event.worker; deed = deed_of event.act }

abbrev pub world_of : TableValue → List (List Receipt) → World
world_of table trails = record { table = table; trails = trails }

-- what a replay leaves
abbrev pub world_left : Replayed → World
world_left replayed = world_of replayed.table (lists_of replayed.trails.items)

-- the events lead from a world to the one that is left, one after the other
abbrev pub Replays : World → List Event → Replayed → Type 0
Replays world events replayed = IsInterleaving world (map turn_of events) (world_left replayed)

-- a bad configuration is named by its first bad field, and memory runs out only under a good one
abbrev pub IsReplayFault : Config → ReplayFault → Type 0
IsReplayFault config (BadConfig bad) = first_bad_field config ≡ Some bad.0
IsReplayFault config NoMemory = first_bad_field config ≡ None
