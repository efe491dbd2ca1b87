use Rattle.std.proofs.Common.{rules, ◌≡◌, ◌∷◌, ◌++◌, [], length, map, refl, ap, sym, ◌∙◌, append_assoc}
use Rattle.std.proofs.lemmas.List.{length-map, length-replicate, map-append}
use Rattle.std.proofs.lemmas.List.Elements.{All-tail}
use Rattle.bw_step.specs.Trails.{lists_of}
use Rattle.bw_run.specs.ForestRuns.{by_trees, with_last}
use Rattle.bw_run.proofs.ForestColumns.{by_trees_more, ok_more}
use Rattle.bw_run.proofs.Plans.{none_of}
use Rattle.bw_run.proofs.forest.trails.sort_out.Goals as goal

pub loop-worker-preserved : goal.loop-worker-preserved
loop-worker-preserved c =
    let inv = c.loop-worker.invariant in
    let worker = c.in-Some.worker in
    let rest = c.next.new.self.rest.items in
    let split : c.loop-worker.worker-iterator.rest.items ≡ worker ∷ rest = search rules in
    let done = inv.trails.0 in
    let before = rw split at inv.answers in
    let whole = rw split at inv.trails.1 in
    record {
      answers = rw c.in_ok-push.ensures.items (ok_more (λ it. it.output) c.loop-worker.answers.items c.in_ok-output.field-0 worker rest
          _ before c.in_ok-output.was);
      count = c.add_trails.ensures.count ∙ inv.count;
      each = All-tail (λ it. length it.trails.items ≡ c.args.trees) worker rest (rw split at inv.each);
      trails = (
        done ++ worker ∷ [],
        whole ∙ sym (append_assoc done (worker ∷ []) rest),
        c.in_ok-add_trails.ensures.added ∙ (ap (with_last (lists_of worker.trails.items)) inv.trails.2
            ∙ (sym (by_trees_more c.args.trees (map (λ it. lists_of it.trails.items) done) (lists_of worker.trails.items))
            ∙ ap (by_trees c.args.trees) (sym (map-append (λ it. lists_of it.trails.items) done (worker ∷ []))))),
      );
    }

pub loop-worker-init : goal.loop-worker-init
loop-worker-init c =
    let whole : c.into_iter-worker-iterator.result.rest.items ≡ c.args.workers.items = search rules in
    let many : length c.in_ok-by_tree.by_tree.items ≡ c.args.trees =
    sym (length-map c.in_ok-by_tree.by_tree.items (λ its. its.items)) ∙ (ap length c.in_ok-by_tree.ensures ∙ length-replicate c.args.trees []) in
    record {
      answers = search rules;
      count = many;
      each = rw whole c.requires.each;
      trails = ([], sym whole, none_of (λ its. its.items) (λ trails. lists_of trails) c.in_ok-by_tree.by_tree.items c.args.trees refl c.in_ok-by_tree.ensures);
    }
