use Rattle.std.proofs.Common.{rules, ◌≡◌, ◌∷◌, [], ◌<◌, ◌∙◌, ap, sym, length, replicate, arith}
use Rattle.std.proofs.lemmas.List.{length-map, length-replicate}
use Rattle.bw_step.specs.Trails.{lists_of}
use Rattle.bw_audit.specs.Events.{turn_of, world_of}
use Rattle.bw_audit.proofs.Interleaved.{leads_keeps, leads_length}
use Rattle.bw_audit.proofs.replayer.take_turns.Goals as goal

pub loop-event-init : goal.loop-event-init
loop-event-init c =
    let all : c.into_iter-event-iterator.result.rest.items ≡ c.args.events.items = search rules in
    let none : lists_of c.in_ok-trails.trails.items ≡ replicate c.args.workers [] = c.in_ok-trails.ensures in
    record {
      path = λ last. rw (all, none) (λ is. is);
      explained = rw none c.requires.explained;
      count = sym (length-map c.in_ok-trails.trails.items (λ trail. trail.items)) ∙ (ap length none ∙ length-replicate c.args.workers []);
      turns = rw all c.requires.workers;
    }

pub loop-event-preserved : goal.loop-event-preserved
loop-event-preserved c =
    let inv = c.loop-event.invariant in
    let split : c.loop-event.event-iterator.rest.items ≡ c.in-Some.event ∷ c.next.new.self.rest.items = search rules in
    let old = world_of c.loop-event.table (lists_of c.loop-event.trails.items) in
    let new = world_of c.take_turn.new.table (lists_of c.take_turn.new.trails.items) in
    let turns = rw split at inv.turns in
    let leads = c.in_ok-take_turn.ensures in
    let many = leads_length old (turn_of c.in-Some.event) new leads in
    let lengths = length-map c.loop-event.trails.items (λ trail. trail.items) in
    let inside : c.in-Some.event.worker < length (lists_of c.loop-event.trails.items) = omega (arith, turns.0, inv.count, lengths) in
    record {
      path = λ last rest. inv.path last (rw split (new, leads, rest));
      explained = leads_keeps old (turn_of c.in-Some.event) new inv.explained inside leads;
      count = omega (arith, many, inv.count, lengths, length-map c.take_turn.new.trails.items (λ trail. trail.items));
      turns = turns.1;
    }
