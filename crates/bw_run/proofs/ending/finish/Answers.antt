use Rattle.std.proofs.Common.{rules, ◌≡◌, ◌<◌, [], length, ap, sym, subst, ◌∙◌}
use Rattle.std.specs.Prelude.{slice_index_or}
use Rattle.std.proofs.lemmas.List.{length-map}
use Rattle.bw_step.specs.Tellings.{reported_in}
use Rattle.bw_step.specs.Trails.{lists_of}
use Rattle.bw_procedures.specs.Reported.{GoWith}
use Rattle.bw_audit.specs.Legal.{IsLegal}
use Rattle.bw_run.specs.Answers.{columns_of}
use Rattle.bw_run.specs.Faults.{EndsBadly}
use Rattle.bw_run.specs.Rows.{acts_of}
use Rattle.bw_run.proofs.Runs.{verdict_found}
use Rattle.bw_run.proofs.ending.finish.Goals as goal

pub returns-in_err-judge-clause-fault : goal.returns-in_err-judge-clause-fault
returns-in_err-judge-clause-fault c =
    let trails = lists_of c.deref.result.now in
    let count : length trails ≡ length c.args.answers.items =
    length-map c.deref.result.now (λ trail. trail.items) ∙ (ap length c.deref.ensures.value ∙ c.requires.trails) in
    let fault : EndsBadly (length c.args.answers.items) c.in_err-judge.field-0.0 =
    verdict_found (length c.args.answers.items) c.args.table trails c.in_err-judge.field-0.0 count c.requires.tree c.in_err-judge.ensures.fault in
    search rules

pub returns-clause-finished : goal.returns-clause-finished
returns-clause-finished c =
    let trails = lists_of c.args.trails.items in
    let columns = columns_of c.args.answers.items in
    let many : length columns ≡ length c.args.answers.items = length-map c.args.answers.items (λ each. each.replies.items) in
    record {
      replied = c.in_ok-replies.ensures.count;
      trailed = c.requires.trails;
      reported = λ worker inside.
          let within : worker < length columns = subst (λ n. worker < n) (sym many) inside in
          subst (λ replies. GoWith (acts_of worker c.args.rows.now) replies (reported_in (slice_index_or trails worker []))) (sym (c.in_ok-replies.ensures.own worker within)) (c.requires.answered.reported worker within);
      tree = c.requires.tree;
      legal = λ pairs are. subst (λ ts. IsLegal (lists_of ts) pairs) c.deref.ensures.value (c.in_ok-judge.ensures.legal pairs are);
      count = c.requires.counted;
    }
