use Rattle.std.proofs.Common.{rules, ◌≡◌, ◌∷◌, ◌+◌, [], ℕ, length, ap, subst, sym, arith, length-append}
use Rattle.std.proofs.lemmas.List.Elements.{All-head, All-tail}
use Rattle.bw_crew.specs.Workers.{AreNumbered}
use Rattle.bw_crew.proofs.Workers.{by_number_more}
use Rattle.bw_crew.proofs.crew.join_all.Goals as goal

pub loop-handle-preserved : goal.loop-handle-preserved
loop-handle-preserved g c =
    let inv = c.loop-handle.invariant in
    let part = c.args.part.now in
    let handle = c.in-Some.handle in
    let rest = c.next.new.self.rest.items in
    let split : c.loop-handle.handle-iterator.rest.items ≡ handle ∷ rest = search rules in
    let numbered = rw split at inv.numbered in
    let tasks = rw split at inv.part in
    let same = All-head (λ handle. handle.promise.part.value ≡ part) handle rest tasks in
    let grown = c.push_reserved.ensures.items in
    let more : length c.push_reserved.new.self.items ≡ length c.loop-handle.outputs.items + 1 =
    omega (arith, ap length grown, length-append c.loop-handle.outputs.items (c.join.result ∷ [])) in
    record {
      count = omega (arith, more, ap length split, inv.count);
      room = rw c.push_reserved.ensures.capacity inv.room;
      numbered = subst (λ (k : ℕ). AreNumbered (λ handle. handle.promise.worker) k rest) (sym more) numbered.1;
      part = All-tail (λ handle. handle.promise.part.value ≡ part) handle rest tasks;
      promised =
          by_number_more (g.P.Part.promised part) c.loop-handle.outputs.items c.push_reserved.new.self.items c.join.result
          handle.promise.worker grown inv.promised
          (subst (λ job. g.P.Part.promised job handle.promise.worker c.join.result) same c.join.ensures) (omega (arith, numbered.0));
    }
