-- The pairs after a call.
use Rattle.std.proofs.Common.{◌≡◌, ℕ, ◌+◌, ◌<◌, length, Option, Some, None, Result, Ok, Err, refl, ap, ◌∙◌}
use Rattle.std.specs.Prelude.{IfOk, OnErr}
use Rattle.bw_keys.specs.Ranges.{key_count}
use Rattle.bw_delta.specs.Entries.{at, put}
use Rattle.bw_law.specs.Tables.{TableValue, Lawful, SameMap, ChangesKey}
use Rattle.bw_procedures.specs.declared.fault.Fault.{Fault}
use Rattle.bw_procedures.specs.declared.reply.Done.{Done}
use Rattle.bw_procedures.specs.declared.reply.Del.{Del}
use Rattle.bw_procedures.specs.declared.reply.Put.{Put}
use Rattle.bw_procedures.specs.declared.reply.Put.TheVariants.{Inserted, Present}
use Rattle.bw_procedures.specs.declared.reply.Set.{Set}
use Rattle.bw_table.proofs.Orders.{same_option}
use Rattle.bw_alone.specs.Clearing.{IsMapWithout}
use Rattle.nifforan.specs.Clearing.{Loses}
use Rattle.nifforan.specs.Calls.{Puts, Sets, Deletes, Clears, if_absent, put_if_absent}
use Rattle.nifforan.specs.Maps.{pairs_of, outside, before_put, value_after_put, before_set, before_delete}
use Rattle.nifforan.proofs.Listing.{pairs_are, cleared_pairs, same_outside, same_pairs, had_value, put_pairs, without_pairs, kept_pairs}

module _ (old new : TableValue) (old_law : Lawful old) (new_law : Lawful new) (key : ℕ) where
  had_is : (before after : Option ℕ) → ChangesKey old.slots new.slots key before after → before ≡ at key (pairs_of old.slots)
  had_is before after changes = had_value old new old_law new_law key before after changes

  pub unchanged_is : {T : Type 0} (result : Result (Done T) Fault) → OnErr result (SameMap old.slots new.slots) → OnErr result (pairs_of new.slots ≡ pairs_of old.slots)
  unchanged_is (Ok done) same = tt
  unchanged_is (Err fault) same = same_pairs old new old_law new_law same

  put_where : (value : ℕ) (had : Option ℕ) → had ≡ at key (pairs_of old.slots)
      → if_absent had (put key value (pairs_of old.slots)) (pairs_of old.slots) ≡ put_if_absent key value (pairs_of old.slots)
  put_where value had is = let pairs = pairs_of old.slots in ap (λ (h : Option ℕ). if_absent h (put key value pairs) pairs) is

  put_replies : (value : ℕ) → key < key_count → (reply : Put) → ChangesKey old.slots new.slots key (before_put reply) (Some (value_after_put value reply)) → Puts key value (before_put reply) (pairs_of old.slots) (pairs_of new.slots)
  put_replies value is_key Inserted changes = let had = had_is None (Some value) changes in (had, put_pairs old new old_law new_law key None (Some value) changes value is_key refl ∙ put_where value None had)
  put_replies value is_key (Present there) changes = let had = had_is (Some there) (Some there) changes in (had, kept_pairs old new old_law new_law key (Some there) (Some there) changes refl ∙ put_where value (Some there) had)

  pub put_result : (value : ℕ) → key < key_count → (result : Result (Done Put) Fault) → IfOk result (λ done. ChangesKey old.slots new.slots key (before_put done.reply) (Some (value_after_put value done.reply)))
      → IfOk result (λ done. Puts key value (before_put done.reply) (pairs_of old.slots) (pairs_of new.slots))
  put_result value is_key (Err fault) changes = tt
  put_result value is_key (Ok done) changes = put_replies value is_key done.reply changes

  pub set_result : (value : ℕ) → key < key_count → (result : Result (Done Set) Fault) → IfOk result (λ done. ChangesKey old.slots new.slots key (before_set done.reply) (Some value))
      → IfOk result (λ done. Sets key value (before_set done.reply) (pairs_of old.slots) (pairs_of new.slots))
  set_result value is_key (Err fault) changes = tt
  set_result value is_key (Ok done) changes = (had_is (before_set done.reply) (Some value) changes, put_pairs old new old_law new_law key (before_set done.reply) (Some value) changes value is_key refl)

  pub delete_result : (result : Result (Done Del) Fault) → IfOk result (λ done. ChangesKey old.slots new.slots key (before_delete done.reply) None)
      → IfOk result (λ done. Deletes key (before_delete done.reply) (pairs_of old.slots) (pairs_of new.slots))
  delete_result (Err fault) changes = tt
  delete_result (Ok done) changes = (had_is (before_delete done.reply) None changes, without_pairs old new old_law new_law key (before_delete done.reply) None changes refl)

-- the removal of a range
module _ (old new : TableValue) (old_law : Lawful old) (new_law : Lawful new) (low high : ℕ) where
  cleared_is : IsMapWithout low high old.slots new.slots → pairs_of new.slots ≡ outside low high (pairs_of old.slots)
  cleared_is is = cleared_pairs old new old_law new_law low high is

  module _ (removed : ℕ) (loses : Loses low high removed old new) where
    fewer_are : (key value : ℕ) → at key (pairs_of new.slots) ≡ Some value → at key (pairs_of old.slots) ≡ Some value
    fewer_are key value there = ((pairs_are old old_law).same key value).1 (loses.fewer key value (((pairs_are new new_law).same key value).0 there))

    others_are : outside low high (pairs_of new.slots) ≡ outside low high (pairs_of old.slots)
    others_are = same_outside low high (pairs_of new.slots) (pairs_of old.slots) (pairs_are new new_law).rise (pairs_are old old_law).rise
        (λ key out. same_option (at key (pairs_of new.slots)) (at key (pairs_of old.slots))
        (λ value. (
          (λ there. fewer_are key value there),
          (λ there. ((pairs_are new new_law).same key value).1 (loses.others key value out (((pairs_are old old_law).same key value).0 there))),
        )))

    pub clears : (Whole : Type 0) → (Whole → IsMapWithout low high old.slots new.slots) → length (pairs_of new.slots) + removed ≡ length (pairs_of old.slots)
        → Clears low high removed Whole (pairs_of old.slots) (pairs_of new.slots)
    clears Whole whole count = record { cleared = λ done. cleared_is (whole done); others = others_are; fewer = fewer_are; count = count }
