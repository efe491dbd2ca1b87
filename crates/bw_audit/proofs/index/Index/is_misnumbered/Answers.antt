use Rattle.std.proofs.Common.{◌≡◌, ◌≤◌, rules, length, take}
use Rattle.std.specs.Prelude.{is_some, nat_lt}
use Rattle.bw_audit.specs.Changes.{bearer}
use Rattle.bw_audit.proofs.Indexing.{borne_at}
use Rattle.bw_audit.proofs.index.Index.is_misnumbered.Goals as goal

pub returns-in-Some : goal.returns-in-Some
returns-in-Some c =
    let s = c.self.inside in
    let within : c.args.number ≤ length s.changes.items = search rules in
    let borne = borne_at s.changes.items _ s.places.items c.self.invariant.0.placed c.args.number within c.index.result.now c.index.ensures c.args.before in
    let here : is_some (bearer (take c.args.before s.changes.items) c.args.number) ≡ nat_lt c.in-Some.place c.args.before = search rules in
    search rules

pub returns-in-None : goal.returns-in-None
returns-in-None c =
    let s = c.self.inside in
    let within : c.args.number ≤ length s.changes.items = search rules in
    let borne = borne_at s.changes.items _ s.places.items c.self.invariant.0.placed c.args.number within c.index.result.now c.index.ensures c.args.before in
    search rules
