-- The next pair from a key on, found leaf by leaf from the one that is held.
use Rattle.std.proofs.Common.{◌≡◌, ◌↔◌, ℕ, ◌+◌, ◌-◌, ◌<◌, ◌≤◌, Bool, true, false, IsTrue, List, [], ◌∷◌, drop, Option, Some, None, IsSome, refl, ap, sym, ◌∙◌, subst, ⊎_elim, arith}
use Rattle.std.specs.Prelude.{max, IfSome, IfNone}
use Rattle.std.proofs.lemmas.Bool.{cases_lt}
use Rattle.bw_keys.specs.Ranges.{key_count, end_of}
use Rattle.bw_delta.specs.Entries.{rises, first_entry, first_from, from}
use Rattle.bw_chain.specs.Passing.Heads.{BeginsWith}
use Rattle.bw_chain.proofs.Firsts.{first_from-bound, from_step}
use Rattle.bw_law.specs.Tables.{TableValue, slot_at}
use Rattle.bw_law.proofs.Facts.{range_is_among_keys, range_is_not_empty}
use Rattle.bw_table.specs.Orders.{HasNoKeyWithin, IsNextAt, IsRightSibling, LeafValue}
use Rattle.bw_table.proofs.Orders.{next_in_leaf, none_in_leaf}
use Rattle.nifforan.specs.Reading.{IsLeafFor}

-- Pairs that are lent.

module _ (low end key : ℕ) (es : List (ℕ × ℕ)) (rise : rises low end es ≡ true) (pair : ℕ × ℕ) (rest : List (ℕ × ℕ)) where
  -- the first of them is the leaf's first one
  begins_first : (listed : List (ℕ × ℕ)) → BeginsWith listed (pair ∷ rest) → first_entry listed ≡ Some pair
  begins_first [] begins = absurd (cc)
  begins_first (e ∷ more) begins = ap first_entry begins

  begins_rest : (listed : List (ℕ × ℕ)) → BeginsWith (pair ∷ listed) (pair ∷ rest) → BeginsWith listed rest
  begins_rest listed begins = ap (drop 1) begins

  pub lent_is_first : BeginsWith (from key es) (pair ∷ rest) → first_from key es ≡ Some pair
  lent_is_first begins = begins_first (from key es) begins

  -- the others lie after it
  pub rest_is_lent : BeginsWith (from key es) (pair ∷ rest) → BeginsWith (from (pair.0 + 1) es) rest
  rest_is_lent begins =
      begins_rest (from (pair.0 + 1) es) (subst (λ (listed : List (ℕ × ℕ)). BeginsWith listed (pair ∷ rest)) (from_step low end key pair es rise (lent_is_first begins)) begins)

-- no key of the map lies between the key and the one from which the search goes on, for which the leaf is held
pub record IsSearch (table : TableValue) (leaf : LeafValue) (key from : ℕ) : Type 0 where
  pub later : key ≤ from
  pub is_key : from < key_count
  pub none : HasNoKeyWithin table key from
  pub held : IsLeafFor table leaf from

-- how many keys are left from the leaf on
abbrev pub keys_left : LeafValue → ℕ
keys_left leaf = key_count - leaf.low

module _ (table : TableValue) (leaf : LeafValue) (key from : ℕ) (search : IsSearch table leaf key from) where
  pub next_is_here : (pair : ℕ × ℕ) → first_from from leaf.pairs ≡ Some pair → IsNextAt table key pair
  next_is_here pair first = next_in_leaf table leaf.low (end_of leaf.high) leaf.pairs search.held.pairs key from search.later search.held.begins search.none pair first

  pub none_is_here : first_from from leaf.pairs ≡ None → HasNoKeyWithin table key (end_of leaf.high)
  none_is_here first = none_in_leaf table leaf.low (end_of leaf.high) leaf.pairs search.held.pairs key from search.later search.held.begins search.none first

  pub none_before_next : first_from from leaf.pairs ≡ None → HasNoKeyWithin table key (max from (end_of leaf.high))
  none_before_next first k value from_k below maps = ⊎_elim
      (λ (before : k < from). search.none k value from_k before maps)
      (λ (past : from ≤ k). none_is_here first k value from_k (omega (arith, past, below)) maps)
      (cases_lt k from)

  -- the leaf serves for later keys too
  pub held_for : (next : ℕ) → from ≤ next → IsLeafFor table leaf next
  held_for next later = let held = search.held in
      record {
        lawful = held.lawful;
        in_row = held.in_row;
        is_leaf = held.is_leaf;
        lent = held.lent;
        pairs = held.pairs;
        begins = omega
            (arith, held.begins, later);
      }

  pub next_is_found : (found : Option (ℕ × ℕ)) → found ≡ first_from from leaf.pairs → IfSome found (IsNextAt table key)
  next_is_found None is = tt
  next_is_found (Some pair) is = next_is_here pair (sym is)

  pub found_is_held : (found : Option (ℕ × ℕ)) → found ≡ first_from from leaf.pairs → IfSome found (λ pair. IsLeafFor table leaf pair.0)
  found_is_held None is = tt
  found_is_held (Some pair) is = held_for pair.0 (first_from-bound from pair leaf.pairs (sym is))

  -- the high of the leaf is that of its page
  same_high : end_of (slot_at table leaf.pid.0).high ≡ end_of leaf.high
  same_high = sym (ap (λ (l : LeafValue). end_of l.high) search.held.lent)

  -- where nothing is left in the leaf, the search goes on in the one on its right
  pub goes_right : (sibling : LeafValue) (next : ℕ) → IsRightSibling table leaf.pid.0 sibling → next < key_count
      → next ≡ max from sibling.low → first_from from leaf.pairs ≡ None → IsSearch table sibling key next
  goes_right sibling next right is_key is first =
      let begins : sibling.low ≡ end_of leaf.high = right.begins ∙ same_high in
      let high : max from (end_of leaf.high) ≡ next = ap (max from) (sym begins) ∙ sym is in record {
        later = omega (arith, search.later, is);
        is_key = is_key;
        none = subst (HasNoKeyWithin table key) high (none_before_next first);
        held = record { lawful = search.held.lawful; in_row = right.found.in_row; is_leaf = right.found.is_leaf; lent = right.lent; pairs = right.pairs; begins = omega (arith, is) };
      }

  pub fewer_left : (sibling : LeafValue) → IsRightSibling table leaf.pid.0 sibling → keys_left sibling < keys_left leaf
  fewer_left sibling right =
      let begins : sibling.low ≡ end_of leaf.high = right.begins ∙ same_high in
      let low : leaf.low ≡ (slot_at table leaf.pid.0).low = ap (λ (l : LeafValue). l.low) search.held.lent in
      omega (
        arith,
        begins,
        low,
        same_high,
        range_is_not_empty table search.held.lawful leaf.pid.0 search.held.in_row,
        range_is_among_keys
            table search.held.lawful leaf.pid.0 search.held.in_row,
      )

  -- there is none on the right of the last leaf
  pub none_is_left : end_of (slot_at table leaf.pid.0).high ≡ key_count → first_from from leaf.pairs ≡ None
      → HasNoKeyWithin table key key_count
  none_is_left top first = subst (HasNoKeyWithin table key) (sym same_high ∙ top) (none_is_here first)

-- what has none from the key on says so
pub none_from : {X : Type 0} (answer : Bool) (first : Option X) → (IsTrue answer ↔ IsSome first) → answer ≡ false → first ≡ None
none_from answer None tells denied = refl
none_from answer (Some x) tells denied = absurd (cc (tells.1 refl, denied))

pub where_none : {X : Type 0} (P : Type 0) (found : Option X) → P → IfNone found P
where_none P None holds = holds
where_none P (Some x) holds = tt

-- a search begins at the key
pub at_once : (table : TableValue) (leaf : LeafValue) (key : ℕ) → key < key_count → IsLeafFor table leaf key → IsSearch table leaf key key
at_once table leaf key is_key held = record { later = omega arith; is_key = is_key; none = λ k value above below maps. absurd (omega (arith, above, below)); held = held }

-- the first pair that is lent is the next one, the leaf serves for those after it, and they are lent
module _ (table : TableValue) (leaf : LeafValue) (key from_key : ℕ) (search : IsSearch table leaf key from_key) (pair : ℕ × ℕ) (rest : List (ℕ × ℕ)) (lent : BeginsWith (from from_key leaf.pairs) (pair ∷ rest)) where
  lent_first : first_from from_key leaf.pairs ≡ Some pair
  lent_first = lent_is_first leaf.low (end_of leaf.high) from_key leaf.pairs search.held.pairs.rise pair rest lent

  pub lent_is_next : IsNextAt table key pair
  lent_is_next = next_is_here table leaf key from_key search pair lent_first

  pub lent_is_held : IsLeafFor table leaf pair.0
  lent_is_held = held_for table leaf key from_key search pair.0 (first_from-bound from_key pair leaf.pairs lent_first)

  pub rest_is_next : BeginsWith (from (pair.0 + 1) leaf.pairs) rest
  rest_is_next = rest_is_lent leaf.low (end_of leaf.high) from_key leaf.pairs search.held.pairs.rise pair rest lent
