use Rattle.std.proofs.Common.{Some, ap, sym, subst, ◌∙◌}
use Rattle.bw_keys.specs.declared.page.Pid.{Pid}
use Rattle.bw_law.specs.Tables.{slot_at}
use Rattle.bw_table.specs.Actions.{Takes, consolidated_behind, term_of}
use Rattle.bw_table.proofs.Actions.{low_in_view, took_both}
use Rattle.bw_table.proofs.Undone.{seen_is_there, unposted_why}
use Rattle.bw_table.proofs.table.Table.perform_post.Goals as goal

pub returns : goal.returns
returns g c =
    let table = c.args.self.now in
    let new = c.post_at_once.new.self in
    let it = c.performed.result in
    let parent = c.in-Some-page_above.parent.pid in
    let reported = c.performed.ensures in
    let child = c.args.child.0 in
    let done = c.in_default-post_at_once.ensures.posted in
    let takes = took_both table new it parent (term_of table parent.0 child) _ reported.page reported.receipt done in
    record {
      done = record {
        finds = reported.key ∙ low_in_view table c.args.child c.in-Some.under c.in-Some.ensures.view;
        takes =
            subst (λ (p : Pid). Takes table it new (consolidated_behind table p.0 (Some (term_of table p.0 child)))) (sym reported.page)
            takes;
        count = reported.count ∙ ap (λ (p : Pid). (slot_at new p.0).count) (sym reported.page);
        depth = reported.depth ∙ ap (λ (p : Pid). (slot_at new p.0).depth) (sym reported.page);
      };
      why = tt;
      unchanged = tt;
    }

pub returns-in-Err : goal.returns-in-Err
returns-in-Err g c =
    let table = c.args.self.now in
    let seen = seen_is_there table c.args.child c.in-Some.under c.in-Some.ensures.view in
    let undone = c.in-Err.ensures in
    record {
      done = tt;
      why = unposted_why table c.args.child c.in-Some.under c.in-Some-page_above.parent seen
          c.in-Some-page_above.ensures.above c.in-Err.why undone.why;
      unchanged = undone.posted;
    }
