use Rattle.std.proofs.Common.{◌≡◌, ◌+◌, ◌≤◌, All, length}
use Rattle.std.specs.Prelude.{vec_capacity}
use Rattle.bw_crew.specs.Workers.{AreNumbered, ByNumber}
use Rattle.bw_crew.proofs.crew.fn.run_all.scope.Given as goal

abbrev pub invariant-loop-kit : goal.invariant-loop-kit
invariant-loop-kit g l = record {
  count : length l.handles.items + length l.kit-iterator.rest.items ≡ length l.initial.kit-iterator.rest.items;
  done : length l.handles.items ≡ length l.yielded;
  worker : l.worker ≡ length l.handles.items;
  room : length l.initial.kit-iterator.rest.items ≤ vec_capacity l.handles;
  given : ByNumber (g.P.Part.given l.part.now) l.worker l.kit-iterator.rest.items;
  numbered : AreNumbered (λ handle. handle.promise.worker) 0 l.handles.items;
  part : All (λ handle. handle.promise.part.value ≡ l.part.now) l.handles.items;
}
