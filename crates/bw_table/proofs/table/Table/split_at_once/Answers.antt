use Rattle.std.proofs.Common.{◌≡◌}
use Rattle.bw_table.proofs.InPlaces.{split_is_inside, new_is_inside, new_is_other, new_rises, split_takes, splits_at_once, whole_both}
use Rattle.bw_table.proofs.Undone.{may_split_there, not_split_there, one_key}
use Rattle.bw_table.proofs.Whole.{has_link}
use Rattle.bw_table.proofs.table.Table.split_at_once.Goals as goal

pub cut_at-requires : goal.cut_at-requires
cut_at-requires g c =
    let may = rw (← c.self.view_is) at c.in-Some-slot_to_split_to.ensures.may in
    let last = rw (← c.self.view_is) at c.in-Some-slot_to_split_to.ensures.last in
    record {
      exists = split_is_inside c.self.invariant may;
      new_exists = new_is_inside c.self.invariant may last;
      apart = new_is_other c.self.invariant may last;
      takes = split_takes c.self.invariant may;
      link = has_link _ _ c.self.invariant.lawful (new_is_inside c.self.invariant may last);
      new_version = new_rises c.self.invariant may last;
    }

pub invariant_of-self : goal.invariant_of-self
invariant_of-self g c =
    let may = rw (← c.self.view_is) at c.in-Some-slot_to_split_to.ensures.may in
    let last = rw (← c.self.view_is) at c.in-Some-slot_to_split_to.ensures.last in
    let part = c.in-Some-upper_part.ensures in
    let key : c.in-Some-upper_part._separator ≡ c.in-Some.separator = one_key part.separator c.in-Some.ensures.key in
    let same = rw (key, ← c.self.view_is) at part.page in
    let takes = splits_at_once c.self.invariant may same last c.cut_at.ensures in
    rw (c.take_last-new.ensures.rest, c.take_last-new.ensures.room) (whole_both _ _ c.args.page.0 _ _ _ c.self.invariant takes)

pub returns-clause-done : goal.returns-clause-done
returns-clause-done g c =
    let may = rw (← c.self.view_is) at c.in-Some-slot_to_split_to.ensures.may in
    let last = rw (← c.self.view_is) at c.in-Some-slot_to_split_to.ensures.last in
    let part = c.in-Some-upper_part.ensures in
    let key : c.in-Some-upper_part._separator ≡ c.in-Some.separator = one_key part.separator c.in-Some.ensures.key in
    let same = rw (key, ← c.self.view_is) at part.page in
    let takes = splits_at_once c.self.invariant may same last c.cut_at.ensures in
    rw (← c.self.view_is)
    (record {
      separator = c.in-Some.separator;
      base = c.in-Some-upper_part.base;
      its_key = rw (← c.self.view_is) at c.in-Some.ensures.key;
      takes = rw c.take_last-new.ensures.rest takes;
    })

pub returns-in_default-slot_to_split_to-clause-why : goal.returns-in_default-slot_to_split_to-clause-why
returns-in_default-slot_to_split_to-clause-why g c =
    not_split_there c.args.self.now c.args.page.0 c.args.number c.in-Some.separator c.in-Some.ensures.key
    c.in_default-slot_to_split_to.ensures.unfit

pub returns-in_default-upper_part-clause-why : goal.returns-in_default-upper_part-clause-why
returns-in_default-upper_part-clause-why g c =
    may_split_there c.args.self.now c.args.page.0 c.args.number c.in-Some.separator c.in-Some.ensures.key
    c.in-Some-slot_to_split_to.ensures.may
