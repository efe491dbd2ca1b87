-- What a pass requires and ensures where it goes down from a record to the chain below, or to the halves of a merge.
use Rattle.std.proofs.Common.{◌≡◌, ℕ, ◌<◌, ◌≤◌, min, true, List, [], ◌++◌, append-nil, ⊎_elim, ap, sym, subst, ◌∙◌, arith}
use Rattle.std.specs.Prelude.{Option}
use Rattle.std.proofs.lemmas.Bool.{cases_lt}
use Rattle.bw_keys.specs.declared.range.Fence.{Fence}
use Rattle.bw_keys.specs.Ranges.{key_count, end_of}
use Rattle.bw_delta.specs.declared.chain.Delta.{Delta}
use Rattle.bw_delta.specs.declared.chain.Merging.{Merging}
use Rattle.bw_delta.specs.Entries.{from, rises}
use Rattle.bw_delta.specs.Fence.{fences}
use Rattle.bw_delta.specs.Pages.{Listed}
use Rattle.bw_delta.specs.Records.{Records, above, merged}
use Rattle.bw_delta.specs.Sound.{IsWellBuilt, Joins}
use Rattle.bw_delta.proofs.Rises.{rises-lower, below_all}
use Rattle.bw_delta.proofs.Stands.{range_not_empty, end_among_keys}
use Rattle.bw_chain.specs.Ascends.{IsAscending}
use Rattle.bw_chain.specs.Changes.{changed, entries_by}
use Rattle.bw_chain.specs.Laws.{RiseInRange, AreCutAtHigh}
use Rattle.bw_chain.specs.Passing.Cuts.{IsUncut}
use Rattle.bw_chain.specs.Passing.Edited.{IsFalling, NotesBelow, edited_below}
use Rattle.bw_chain.specs.declared.entries.change.Change.{Change}
use Rattle.bw_chain.specs.declared.entries.change.Change.TheVariants.{Put, Without, Below, Nothing}
use Rattle.bw_chain.proofs.Ascending.{ascend_from_rise}
use Rattle.bw_chain.proofs.Bridges.{ranges_shrink}
use Rattle.bw_chain.proofs.Passing.Passes.{edited_below-same, edited_below-left, edited_below-joined}

pub IsUncut-lower : {X : Type 0} → (end past : ℕ) (change : Change X) → end ≤ past → IsUncut past change → IsUncut end change
IsUncut-lower end past (Put key x) le uncut = tt
IsUncut-lower end past (Without key) le uncut = tt
IsUncut-lower end past (Below bound) le uncut = omega (arith, uncut)
IsUncut-lower end past Nothing le uncut = tt

module _ {X : Type 0} (own : Listed → List (ℕ × X)) (change : Delta → Change X)
    (rise : RiseInRange own change) (cut : AreCutAtHigh change) where
  pub built_ascends : (chain : Records) → IsWellBuilt chain → IsAscending (entries_by own change chain)
  built_ascends chain built = ascend_from_rise (fences chain).low (end_of (fences chain).high) (entries_by own change chain) (end_among_keys chain built) (rise chain built)

  -- up to the chain's high, under no edits, it is all its entries
  pub unedited : (chain : Records) (high : Fence) (edits : List (ℕ × Option X)) → IsWellBuilt chain → high ≡ (fences chain).high → edits ≡ [] → edited_below (end_of high) edits (entries_by own change chain) ≡ entries_by own change chain
  unedited chain high edits built same none =
      rw (none, same) (below_all (fences chain).low (end_of (fences chain).high) (entries_by own change chain) (rise chain built))

  pub record Downward (end : ℕ) (delta : Delta) (chain : Records) : Type 0 where
    pub uncut : IsUncut end (change delta)
    pub among : end ≤ key_count
    pub built : IsWellBuilt chain
    pub within : end ≤ end_of (fences chain).high
    pub ascending : IsAscending (entries_by own change chain)

  under_record : (end : ℕ) (delta : Delta) (chain : Records) → IsWellBuilt (above delta chain) → end ≤ end_of (fences (above delta chain)).high → Downward end delta chain
  under_record end delta chain built within =
      record {
        uncut = IsUncut-lower end (end_of (fences (above delta chain)).high) (change delta) within (cut delta chain);
        among = omega (arith, within, end_among_keys (above delta chain) built);
        built = built.0;
        within = omega (arith, within, ranges_shrink delta chain built);
        ascending = built_ascends chain built.0;
      }

  pub downward : (end : ℕ) (delta : Delta) (whole chain : Records) → whole ≡ above delta chain → IsWellBuilt whole → end ≤ end_of (fences whole).high → Downward end delta chain
  downward end delta whole chain is built within = under_record end delta chain (rw is at built) (rw is at within)

  -- the record's change, noted among the edits
  pub noted_above : (end : ℕ) (delta : Delta) (whole chain : Records) (by : Change X) (old new : List (ℕ × Option X)) → whole ≡ above delta chain → Downward end delta chain → by ≡ change delta → NotesBelow end (changed by) old new
      → edited_below end new (entries_by own change chain) ≡ edited_below end old (entries_by own change whole)
  noted_above end delta whole chain by old new is down same notes =
      notes (entries_by own change chain) down.ascending
      ∙ ap (λ (c : Change X). edited_below end old (changed c (entries_by own change chain))) same
      ∙ ap (λ (r : Records). edited_below end old (entries_by own change r)) (sym is)

  pub record Sideward (end : ℕ) (whole : Records) (merging : Merging) (left right : Records) (edits : List (ℕ × Option X)) : Type 0 where
    pub built_left : IsWellBuilt left
    pub within_left : min end merging.separator ≤ end_of (fences left).high
    pub built_right : IsWellBuilt right
    pub within_right : end ≤ end_of (fences right).high
    pub left_alone : end ≤ merging.separator → edited_below end edits (entries_by own change whole) ≡ edited_below (min end merging.separator) edits (entries_by own change left)
    pub both : merging.separator < end → edited_below end edits (entries_by own change whole)
        ≡ edited_below (min end merging.separator) edits (entries_by own change left) ++ edited_below end (from (min end merging.separator) edits) (entries_by own change right)
    pub begins : (rest : List (ℕ × X)) × (edited_below end edits (entries_by own change whole) ≡ edited_below (min end merging.separator) edits (entries_by own change left) ++ rest)

  under_merge : (end : ℕ) (merging : Merging) (left right : Records) (edits : List (ℕ × Option X)) → IsWellBuilt (merged merging left right) → end ≤ end_of merging.high → IsFalling edits → Sideward end (merged merging left right) merging left right edits
  under_merge end merging left right edits built within f =
      let joins : Joins merging (fences left) (fences right) = built.3 in
      let separator = merging.separator in
      let lower : rises (fences left).low separator (entries_by own change left) ≡ true = rw (ap end_of joins.left_ends) at (rise left built.0) in
      let upper : rises separator (end_of merging.high) (entries_by own change right) ≡ true = rw (ap end_of joins.same_high, joins.right_begins) at (rise right built.1) in
      let low_upto : (fences left).low ≤ separator = omega (arith, range_not_empty left built.0, ap end_of joins.left_ends) in
      let among : end_of merging.high ≤ key_count = omega (arith, end_among_keys right built.1, ap end_of joins.same_high) in
      let left_alone = alone end merging left right edits in
      let both = joined end (fences left).low merging left right edits lower upper among within f in
      record {
        built_left = built.0;
        within_left = omega (arith, ap end_of joins.left_ends);
        built_right = built.1;
        within_right = omega (arith, within, ap end_of joins.same_high);
        left_alone = left_alone;
        both = both;
        begins = ⊎_elim
            (λ inside. (edited_below end (from (min end separator) edits) (entries_by own change right), both inside))
            (λ le. ([], left_alone le ∙ sym (append-nil _)))
            (cases_lt separator end);
      }
    where
      alone : (end : ℕ) (merging : Merging) (left right : Records) (edits : List (ℕ × Option X)) → end ≤ merging.separator
          → edited_below end edits (entries_by own change (merged merging left right)) ≡ edited_below (min end merging.separator) edits (entries_by own change left)
      alone end merging left right edits le =
          let least : min end merging.separator ≡ end = omega (arith, le) in
          rw least (edited_below-same end edits _ _ (edited_below-left end merging.separator edits (entries_by own change left) (entries_by own change right) le))

      joined : (end low : ℕ) (merging : Merging) (left right : Records) (edits : List (ℕ × Option X)) → rises low merging.separator (entries_by own change left) ≡ true → rises merging.separator (end_of merging.high) (entries_by own change right) ≡ true
          → end_of merging.high ≤ key_count → end ≤ end_of merging.high → IsFalling edits → merging.separator < end
          → edited_below end edits (entries_by own change (merged merging left right))
          ≡ edited_below (min end merging.separator) edits (entries_by own change left) ++ edited_below end (from (min end merging.separator) edits) (entries_by own change right)
      joined end low merging left right edits lower upper among within f inside =
          let least : min end merging.separator ≡ merging.separator = omega (arith, inside) in
          rw least (edited_below-joined 0 (end_of merging.high) end merging.separator edits (entries_by own change left) (entries_by own change right) (omega arith) inside within among f
          (rises-lower merging.separator 0 low _ (omega arith) lower) upper)

  pub sideward : (end : ℕ) (whole : Records) (merging : Merging) (left right : Records) (edits : List (ℕ × Option X)) → whole ≡ merged merging left right → IsWellBuilt whole → end ≤ end_of (fences whole).high → IsFalling edits
      → Sideward end whole merging left right edits
  sideward end whole merging left right edits is built within f =
      subst (λ whole. Sideward end whole merging left right edits) (sym is) (under_merge end merging left right edits (rw is at built) (rw is at within) f)
