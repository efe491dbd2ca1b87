-- A handle may go to another thread: what it holds may, and any thread may free its box.
use Rattle.std.proofs.Common.{Bool, true, false}
use mir.Raw.{raw}
use base.Shift.{Keyless}
use denote.Memory.{lone}
use denote.RawPtr.{Ptr}
use denote.Struct.Struct.{exits_of}
use denote.Struct.Owning.{shape, fields, to}
use denote.Param.Send.{IsSend, AllSend, owning_send, struct_send, sendable}
use Rattle.std.proofs.Crossing as heap
use Rattle.std_alloc.proofs.SendSync.{quiet, lies}
use Rattle.nifforan_handle.specs.Owned.{held_row, null_or_boxed}
use Rattle.nifforan_handle.specs.declared.held.Held.TheVariants.{Closed}
use Rattle.nifforan_handle.specs.contracts.handle.Handle.{the_row, the_type}
use Rattle.nifforan_handle.proofs.Crossing.{Held-send}

either : (p : Ptr) (x : held_row.Denot) (is_null : Bool) → Keyless (null_or_boxed held_row Closed p x is_null)
either p x true = λ at is. tt
either p x false = λ alloc. (lies held_row Held-send p x, heap.frees.frees alloc (raw (lone held_row.mir)) p)

pub send : IsSend the_row
send =
    let all : AllSend (fields the_type) = (search sendable, tt) in
    owning_send the_type all (λ d. either d.at d.held) (λ k. quiet (to the_type) (exits_of k (fields the_type)) ((struct_send (shape the_type) all).leaving k))
