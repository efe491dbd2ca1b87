use Rattle.std.proofs.Common.{◌≡◌, ◌+◌, ◌≤◌, All, length}
use Rattle.std.specs.Prelude.{vec_capacity}
use Rattle.bw_crew.specs.Workers.{AreNumbered, ByNumber}
use Rattle.bw_crew.proofs.crew.join_all.Given as goal

abbrev pub invariant-loop-handle : goal.invariant-loop-handle
invariant-loop-handle g l = record {
  count : length l.outputs.items + length l.handle-iterator.rest.items ≡ length l.fn.handles.items;
  room : length l.fn.handles.items ≤ vec_capacity l.outputs;
  numbered : AreNumbered (λ handle. handle.promise.worker) (length l.outputs.items) l.handle-iterator.rest.items;
  part : All (λ handle. handle.promise.part.value ≡ l.part) l.handle-iterator.rest.items;
  promised : ByNumber (g.P.Part.promised l.part) 0 l.outputs.items;
}
