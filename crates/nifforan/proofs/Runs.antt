-- Pairs that lie side by side, taken at once: as if they were taken one by one.
use Rattle.std.proofs.Common.{◌≡◌, ℕ, ◌+◌, ◌<◌, ◌≤◌, true, [], ◌∷◌, ◌++◌, Some, refl, sym, ◌∙◌, ap, subst, arith}
use Rattle.bw_keys.specs.Ranges.{key_count, end_of}
use Rattle.bw_delta.specs.Entries.{rises, first_from, from, last_entry}
use Rattle.bw_chain.specs.Passing.Heads.{BeginsWith}
use Rattle.bw_chain.proofs.Firsts.{first_from-bound}
use Rattle.bw_law.specs.Tables.{TableValue}
use Rattle.bw_table.specs.Orders.{LeafValue, last_key}
use Rattle.nifforan.specs.Maps.{PairList, pairs_of, within}
use Rattle.nifforan.specs.Reading.{IsLeafFor, AreLent}
use Rattle.nifforan.proofs.Listing.{pairs_are}
use Rattle.nifforan.proofs.Neighbours.{next_is_first, within_first}
use Rattle.nifforan.proofs.Reading.{at_once, held_for, lent_is_first, rest_is_lent, lent_is_next}

-- where the keys begin after a run from the key on
abbrev end_behind : ℕ → PairList → ℕ
end_behind next [] = next
end_behind next (pair ∷ run) = end_behind (pair.0 + 1) run

end_is_last : (next : ℕ) (run : PairList) (last : ℕ × ℕ) → last_entry run ≡ Some last → end_behind next run ≡ last.0 + 1
end_is_last next [] last is = cc
end_is_last next (pair ∷ []) last is = let same : pair ≡ last = cc in ap (λ (p : ℕ × ℕ). p.0 + 1) same
end_is_last next (pair ∷ second ∷ run) last is = end_is_last (pair.0 + 1) (second ∷ run) last is

-- it lies after the key
end_is_later : (low end next : ℕ) (es run rest : PairList) → rises low end es ≡ true → BeginsWith (from next es) (run ++ rest) → next ≤ end_behind next run
end_is_later low end next es [] rest rise begins = omega arith
end_is_later low end next es (pair ∷ run) rest rise begins =
    let bound = first_from-bound next pair es (lent_is_first low end next es rise pair (run ++ rest) begins) in
    let later = end_is_later low end (pair.0 + 1) es run rest rise (rest_is_lent low end next es rise pair (run ++ rest) begins) in
    omega (arith, bound, later)

-- what a run that was taken leaves
pub record IsTaken (table : TableValue) (leaf : LeafValue) (next high behind : ℕ) (run rest : PairList) : Type 0 where
  pub taken : within next high (pairs_of table.slots) ≡ run ++ within behind high (pairs_of table.slots)
  pub held : IsLeafFor table leaf behind
  pub lent : AreLent leaf behind rest

run_is_taken : (table : TableValue) (leaf : LeafValue) (next high : ℕ) (run rest : PairList) → IsLeafFor table leaf next
    → BeginsWith (from next leaf.pairs) (run ++ rest)
    → end_behind next run ≤ high → end_behind next run ≤ key_count → IsTaken table leaf next high (end_behind next run) run rest
run_is_taken table leaf next high [] rest held begins under keys = record { taken = refl; held = held; lent = λ _. begins }
run_is_taken table leaf next high (pair ∷ run) rest held begins under keys =
    let rise = held.pairs.rise in
    let end = end_of leaf.high in
    let bound : next ≤ pair.0 = first_from-bound next pair leaf.pairs (lent_is_first leaf.low end next leaf.pairs rise pair (run ++ rest) begins) in
    let others : BeginsWith (from (pair.0 + 1) leaf.pairs) (run ++ rest) = rest_is_lent leaf.low end next leaf.pairs rise pair (run ++ rest) begins in
    let later : pair.0 + 1 ≤ end_behind (pair.0 + 1) run = end_is_later leaf.low end (pair.0 + 1) leaf.pairs run rest rise others in
    let search = at_once table leaf next (omega (arith, bound, later, keys)) held in
    let is_next = lent_is_next table leaf next next search pair (run ++ rest) begins in
    let first : Some pair ≡ first_from next (pairs_of table.slots) = next_is_first table held.lawful next (Some pair) is_next tt in
    let inside : pair.0 < high = omega (arith, later, under) in
    let held_on = held_for table leaf next next search (pair.0 + 1) (omega (arith, bound)) in
    let more = run_is_taken table leaf (pair.0 + 1) high run rest held_on others under keys in
    let pairs = pairs_of table.slots in
    record {
      taken = within_first 0 key_count next high pair pairs (pairs_are table held.lawful).rise (sym first) inside ∙ ap (λ (l : PairList). pair ∷ l) more.taken;
      held = more.held;
      lent = more.lent;
    }

-- a run of those lent is taken, up to a pair below the end
module _ (table : TableValue) (leaf : LeafValue) (next high behind : ℕ) (lent run rest : PairList) (last : ℕ × ℕ) where
  pub lent_run_is_taken : IsLeafFor table leaf next → AreLent leaf next lent → next ≤ last_key → lent ≡ run ++ rest → last_entry run ≡ Some last
      → last.0 < high → last.0 < key_count → behind ≡ last.0 + 1 → IsTaken table leaf next high behind run rest
  lent_run_is_taken held are_lent is_key parts ends under key_fits is =
      let begins = subst (λ (l : PairList). BeginsWith (from next leaf.pairs) l) parts (are_lent (omega (arith, is_key))) in
      let end : end_behind next run ≡ last.0 + 1 = end_is_last next run last ends in
      subst (λ (n : ℕ). IsTaken table leaf next high n run rest) (end ∙ sym is)
      (run_is_taken table leaf next high run rest held begins (omega (arith, end, under)) (omega (arith, end, key_fits)))
