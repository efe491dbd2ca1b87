use Rattle.std.proofs.Common.{ℕ, ◌/◌, ◌<◌, Option, unwrap_or, refl, ap, sym, subst, ◌∙◌}
use Rattle.bw_chain.specs.Pages.Halves.{listed_middle_key}
use Rattle.bw_delta.specs.Pages.{Page, listed_length}
use Rattle.bw_keys.specs.declared.page.Pid.{Pid}
use Rattle.bw_law.specs.Tables.{slot_at}
use Rattle.bw_law.proofs.Accepted.{split_accepted}
use Rattle.bw_table.proofs.Actions.{cut}
use Rattle.bw_table.proofs.Undone.{refused_is_uncut, too_small_to_cut, uncut_why}
use Rattle.bw_table.proofs.table.Table.perform_cut.Goals as goal

pub returns : goal.returns
returns g c =
    let table = c.args.self.now in
    let new = c.split_at_once.new.self in
    let reported = c.performed.ensures in
    let its_page = c.in-Ok.ensures.page in
    let key = c.in-Some.ensures.key in
    let accepted = c.in-Ok.ensures.accepted c.in-Some.middle key in
    let fresh = (split_accepted table c.args.page.0 c.args.seen.0 c.in-Some.middle _ accepted).open_page.fresh in
    let middle = ap (λ (o : Option ℕ). unwrap_or o 0) (sym key) ∙ ap (λ (p : Page). unwrap_or (listed_middle_key p.listed) 0) its_page in
    let number = ap (λ (n : ℕ). n / 2) c.len-number.ensures ∙ ap (λ (p : Page). listed_length p.listed / 2) its_page in
    record {
      done = record {
        finds = (reported.page, reported.key ∙ middle);
        takes = cut table new c.performed.result c.args.page c.args.seen.0 _ _ reported.page reported.receipt fresh number
            c.in-Ok-split_at_once.ensures.done;
        count = reported.count ∙ ap (λ (p : Pid). (slot_at new p.0).count) (sym reported.page);
        depth = reported.depth ∙ ap (λ (p : Pid). (slot_at new p.0).depth) (sym reported.page);
      };
      why = tt;
      unchanged = tt;
    }

pub returns-in_default : goal.returns-in_default
returns-in_default g c =
    record { done = tt; why = refused_is_uncut c.args.self.now c.args.page c.args.seen _ c.in_default.ensures.refused; unchanged = refl }

pub returns-in_default-middle_key : goal.returns-in_default-middle_key
returns-in_default-middle_key g c =
    let few = ap (λ (p : Page). listed_length p.listed) c.in-Ok.ensures.page in
    let its_few = subst (λ (n : ℕ). n < 2) few (c.in_default-middle_key.ensures.small.0 refl) in
    record { done = tt; why = too_small_to_cut c.args.self.now c.args.page c.args.seen its_few; unchanged = refl }

pub returns-in-Err : goal.returns-in-Err
returns-in-Err g c =
    let its_page = c.in-Ok.ensures.page in
    let key = ap (λ (p : Page). listed_middle_key p.listed) (sym its_page) ∙ c.in-Some.ensures.key in
    let number = ap (λ (n : ℕ). n / 2) c.len-number.ensures ∙ ap (λ (p : Page). listed_length p.listed / 2) its_page in
    let undone = c.in-Err.ensures in
    record {
      done = tt;
      why = uncut_why c.args.self.now c.args.page c.args.seen _ c.in-Some.middle c.in-Ok.ensures.fine number key
          c.in-Err.why undone.why;
      unchanged = undone.unchanged;
    }
