use Rattle.std.proofs.Common.{rules, ◌≡◌, ◌∷◌, ◌+◌, [], length, ap, arith, length-append}
use Rattle.std.proofs.lemmas.List.Elements.{All-push}
use Rattle.bw_crew.proofs.Workers.{numbered_more}
use Rattle.bw_crew.proofs.crew.fn.run_all.scope.Goals as goal

pub loop-kit-preserved : goal.loop-kit-preserved
loop-kit-preserved g c =
    let inv = c.loop-kit.invariant in
    let rest = c.next.new.self.rest.items in
    let split : c.loop-kit.kit-iterator.rest.items ≡ c.in-Some.kit ∷ rest = search rules in
    let given = rw split at inv.given in
    let grown = c.push_reserved.ensures.items in
    let more : length c.push_reserved.new.self.items ≡ length c.loop-kit.handles.items + 1 =
    omega (arith, ap length grown, length-append c.loop-kit.handles.items (c.in-Ok.handle ∷ [])) in
    let number : c.in-Ok.handle.promise.worker ≡ c.loop-kit.worker = search rules in
    let same : c.in-Ok.handle.promise.part.value ≡ c.captures.part.now = search rules in
    record {
      count = omega (arith, more, ap length split, inv.count);
      done = omega (arith, more, length-append c.loop-kit.yielded (c.in-Some.kit ∷ []), inv.done);
      worker = omega (arith, more, inv.worker);
      room = rw c.push_reserved.ensures.capacity inv.room;
      given = given.1;
      numbered =
          numbered_more (λ handle. handle.promise.worker) c.loop-kit.handles.items c.push_reserved.new.self.items c.in-Ok.handle grown
          inv.numbered (omega (arith, number, inv.worker));
      part =
          rw grown (All-push (λ handle. handle.promise.part.value ≡ c.captures.part.now) c.loop-kit.handles.items c.in-Ok.handle inv.part
          same);
    }
