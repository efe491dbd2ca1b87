-- Pairs of a range, and those among them to which a function gave another value.
use Rattle.std.proofs.Common.{◌≡◌, ℕ, ◌+◌, ◌<◌, ◌≤◌, Bool, true, false, [], ◌∷◌, ◌++◌, length, Option, Some, None, refl, sym, ◌∙◌, ap, subst, append_assoc, append-nil, arith}
use Rattle.std.specs.Prelude.{◌==◌, Result, Ok, Err, IsOk, IsErrAnd}
use Rattle.std.specs.Bool.{MatchBool}
use Rattle.std.proofs.lemmas.Bool.Decides.{nat_tests}
use Rattle.std.proofs.lemmas.List.{length-append}
use Rattle.bw_delta.specs.Entries.{rises, put}
use Rattle.nifforan.specs.Maps.{PairList, within, outside}
use Rattle.nifforan.specs.Updating.{Makes, Updates, Alters}

-- Lists.

rises_lower : (low from end : ℕ) (es : PairList) → from ≤ low → rises low end es ≡ true → rises from end es ≡ true
rises_lower low from end [] le rise = refl
rises_lower low from end (d ∷ es) le rise = grind (arith, nat_tests)

-- the pairs within a range rise in it
within_rises_from : (low past bound from end : ℕ) (es : PairList) → rises low past es ≡ true → bound ≤ low → rises bound end
    (within from end es) ≡ true
within_rises_from low past bound from end [] rise le = refl
within_rises_from low past bound from end (d ∷ es) rise le =
    let ahead = within_rises_from (d.0 + 1) past (d.0 + 1) from end es (grind (arith, nat_tests)) (omega arith) in
    let lower = rises_lower (d.0 + 1) bound end (within from end es) (grind (arith, nat_tests)) ahead in
    grind (arith, nat_tests)

pub within_rises : (low past from end : ℕ) (es : PairList) → rises low past es ≡ true → rises from end (within from end es) ≡ true
within_rises low past from end [] rise = refl
within_rises low past from end (d ∷ es) rise =
    let ahead = within_rises_from (d.0 + 1) past (d.0 + 1) from end es (grind (arith, nat_tests)) (omega arith) in
    let others = within_rises (d.0 + 1) past from end es (grind (arith, nat_tests)) in
    grind (arith, nat_tests)

-- the pairs within a part of a range
pub within_part : (low from end : ℕ) (es : PairList) → low ≤ from → within from end (within low end es) ≡ within from end es
within_part low from end [] le = refl
within_part low from end (d ∷ es) le = grind (arith, nat_tests, within_part low from end es)

pub outside_put : (low end key value : ℕ) (es : PairList) → low ≤ key → key < end → outside low end (put key value es) ≡ outside low end es
outside_put low end key value [] from under = grind (arith, nat_tests)
outside_put low end key value (d ∷ es) from under = grind (arith, nat_tests, outside_put low end key value es)

put_first : (low end key value : ℕ) (es : PairList) → rises low end es ≡ true → key < low → put key value es ≡ (key, value) ∷ es
put_first low end key value [] rise below = refl
put_first low end key value (d ∷ es) rise below = grind (arith, nat_tests)

within_put : (low past from end key value : ℕ) (es : PairList) → rises low past es ≡ true → from ≤ key → key < end → within from end
    (put key value es) ≡ put key value (within from end es)
within_put low past from end key value [] rise le under = grind (arith, nat_tests)
within_put low past from end key value (d ∷ es) rise le under =
    let later = within_put (d.0 + 1) past from end key value es (grind (arith, nat_tests)) le under in
    let ahead = within_rises_from (d.0 + 1) past (d.0 + 1) from end es (grind (arith, nat_tests)) (omega arith) in
    let first = λ (below : key < d.0 + 1). put_first (d.0 + 1) end key value (within from end es) ahead below in
    grind (arith, nat_tests)

within_rising : (from low end : ℕ) (es : PairList) → rises low end es ≡ true → from ≤ low → within from end es ≡ es
within_rising from low end [] rise le = refl
within_rising from low end (d ∷ es) rise le = grind (arith, nat_tests, within_rising from (d.0 + 1) end es)

-- a pair among others of rising keys
module _ (end : ℕ) (key had : ℕ) (rest : PairList) where
  past_key : (low : ℕ) (front : PairList) → rises low end (front ++ (key, had) ∷ rest) ≡ true → low ≤ key
  past_key low [] rise = grind (arith, nat_tests)
  past_key low (d ∷ front) rise = let behind : d.0 + 1 ≤ key = past_key (d.0 + 1) front (grind (arith, nat_tests)) in grind
      (arith, nat_tests)

  under_end : (low : ℕ) (front : PairList) → rises low end (front ++ (key, had) ∷ rest) ≡ true → key < end
  under_end low [] rise = grind (arith, nat_tests)
  under_end low (d ∷ front) rise = under_end (d.0 + 1) front (grind (arith, nat_tests))

  put_there : (value low : ℕ) (front : PairList) → rises low end (front ++ (key, had) ∷ rest) ≡ true → put key value
      (front ++ (key, had) ∷ rest) ≡ front ++ (key, value) ∷ rest
  put_there value low [] rise = grind (arith, nat_tests)
  put_there value low (d ∷ front) rise =
      let behind : d.0 + 1 ≤ key = past_key (d.0 + 1) front (grind (arith, nat_tests)) in
      let those = put_there value (d.0 + 1) front (grind (arith, nat_tests)) in grind (arith, nat_tests)

  within_past : (value low : ℕ) (front : PairList) → rises low end (front ++ (key, had) ∷ rest) ≡ true → within (key + 1) end
      (front ++ (key, value) ∷ rest) ≡ rest
  within_past value low [] rise = let those = within_rising (key + 1) (key + 1) end rest (grind (arith, nat_tests)) (omega arith) in grind
      (arith, nat_tests)
  within_past value low (d ∷ front) rise =
      let behind : d.0 + 1 ≤ key = past_key (d.0 + 1) front (grind (arith, nat_tests)) in
      let those = within_past value (d.0 + 1) front (grind (arith, nat_tests)) in grind (arith, nat_tests)

-- A function's values.

module _ {F : Type 0} (new : F → ℕ × ℕ → ℕ → F → Type 0) where
  makes_more : (f g h : F) (first made more also : PairList) → Makes new f first made g → Makes new g more also h → Makes new f
      (first ++ more) (made ++ also) h
  makes_more f g h [] made more also is then =
      subst (λ (l : PairList). Makes new f more (l ++ also) h) (sym is.0) (subst (λ (s : F). Makes new s more also h) (sym is.1) then)
  makes_more f g h (pair ∷ first) made more also (value, mid, rest, makes, those, is) then =
      (value, mid, rest ++ also, makes, makes_more mid g h first rest more also those then, ap (λ (l : PairList). l ++ also) is)

  -- the function left the first pairs as they are, and made the value of the one with the key
  pub record IsAltered (key value : ℕ) (f : F) (pairs : PairList) (g : F) : Type 0 where
    pub front : PairList
    pub had : ℕ
    pub rest : PairList
    pub mid : F
    pub is : pairs ≡ front ++ (key, had) ∷ rest
    pub before : Makes new f front front mid
    pub makes : new mid (key, had) value g

  -- the first pair is the one, or is left as it is
  pub alters_first : (f g : F) (key had value : ℕ) (pairs rest : PairList) → pairs ≡ (key, had) ∷ rest → new f (key, had) value g
      → value == had ≡ false → Alters new (Some (key, value)) f pairs g
  alters_first f g key had value pairs rest is makes differs =
      let other : MatchBool (value == had) (Alters new (Some (key, value)) g rest g)
      ((◌≡◌ {A = Option (ℕ × ℕ)} (Some (key, value)) (Some (key, value))) × (g ≡ g)) = rw differs (refl, refl) in
      subst (λ (l : PairList). Alters new (Some (key, value)) f l g) (sym is) (value, g, makes, other)

  pub alters_behind : (found : Option (ℕ × ℕ)) (f mid g : F) (key had value : ℕ) (pairs rest : PairList) → pairs ≡ (key, had) ∷ rest
      → new f (key, had) value mid → value == had ≡ true → Alters new found mid rest g → Alters new found f pairs g
  alters_behind found f mid g key had value pairs rest is makes same those =
      let more : MatchBool (value == had) (Alters new found mid rest g) ((found ≡ Some (key, value)) × (mid ≡ g)) = rw same those in
      subst (λ (l : PairList). Alters new found f l g) (sym is) (value, mid, makes, more)

  altered_next : (key made value : ℕ) (same : Bool) (f mid g : F) (pair : ℕ × ℕ) (pairs : PairList) → value == pair.1 ≡ same
      → new f pair value mid
      → ((ahead : Alters new (Some (key, made)) mid pairs g) → IsAltered key made mid pairs g)
      → MatchBool same (Alters new (Some (key, made)) mid pairs g)
      ((◌≡◌ {A = Option (ℕ × ℕ)} (Some (key, made)) (Some (pair.0, value))) × (mid ≡ g)) → IsAltered key made f (pair ∷ pairs) g
  altered_next key made value true f mid g pair pairs equal makes ahead those =
      let then = ahead those in
      let its : value ≡ pair.1 = grind (arith, nat_tests) in record {
        front = pair ∷ then.front;
        had = then.had;
        rest = then.rest;
        mid = then.mid;
        is = ap (λ (l : PairList). pair ∷ l) then.is;
        before = (value, mid, then.front, makes, then.before, ap (λ (v : ℕ). (pair.0, v) ∷ then.front) (sym its));
        makes = then.makes;
      }
  altered_next key made value false f mid g pair pairs equal makes ahead those =
      let both : ◌≡◌ {A = ℕ × ℕ} (pair.0, value) (key, made) = cc (those.0) in
      let its : pair.0 ≡ key = ap (λ (p : ℕ × ℕ). p.0) both in
      let it : value ≡ made = ap (λ (p : ℕ × ℕ). p.1) both in record {
        front = [];
        had = pair.1;
        rest = pairs;
        mid = f;
        is = ap (λ (k : ℕ). (k, pair.1) ∷ pairs) its;
        before = (refl, refl);
        makes = subst (λ (k : ℕ). new f (k, pair.1) made g) its
            (subst (λ (v : ℕ). new f pair v g) it (subst (λ (s : F). new f pair value s) those.1 makes));
      }

  pub altered : (key made : ℕ) (f g : F) (pairs : PairList) → Alters new (Some (key, made)) f pairs g → IsAltered key made f pairs g
  altered key made f g [] of = absurd (cc (of.0))
  altered key made f g (pair ∷ pairs) (value, mid, makes, those) = altered_next key made value
      (value == pair.1) f mid g pair pairs refl makes (altered key made mid g pairs) those

  none_next : (value : ℕ) (same : Bool) (f mid g : F) (pair : ℕ × ℕ) (pairs : PairList) → value == pair.1 ≡ same → new f pair value mid
      → (Alters new None mid pairs g → Makes new mid pairs pairs g)
      → MatchBool same (Alters new None mid pairs g) ((◌≡◌ {A = Option (ℕ × ℕ)} None (Some (pair.0, value))) × (mid ≡ g)) → Makes new f
      (pair ∷ pairs) (pair ∷ pairs) g
  none_next value true f mid g pair pairs equal makes ahead those =
      let its : value ≡ pair.1 = grind (arith, nat_tests) in
      (value, mid, pairs, makes, ahead those, ap (λ (v : ℕ). (pair.0, v) ∷ pairs) (sym its))
  none_next value false f mid g pair pairs equal makes ahead those = absurd (cc (those.0))

  pub none_altered : (f g : F) (pairs : PairList) → Alters new None f pairs g → Makes new f pairs pairs g
  none_altered f g [] of = (refl, of.1)
  none_altered f g (pair ∷ pairs) (value, mid, makes, those) = none_next value (value == pair.1) f mid g pair pairs refl makes
      (none_altered mid g pairs) those

  -- how far it went: the function is f now, and of the range it wasn't asked of the pairs from the next key on
  pub record IsUpdated (start f : F) (low end next : ℕ) (old pairs : PairList) : Type 0 where
    pub first : PairList
    pub made : PairList
    pub had : within low end old ≡ first ++ within next end pairs
    pub has : within low end pairs ≡ made ++ within next end pairs
    pub others : outside low end pairs ≡ outside low end old
    pub makes : Makes new start first made f
    pub ahead : low ≤ next

  pub none_updated : (f : F) (low end : ℕ) (pairs : PairList) → IsUpdated f f low end low pairs pairs
  none_updated f low end pairs = record {
    first = [];
    made = [];
    had = refl;
    has = refl;
    others = refl;
    makes =
        (refl, refl);
    ahead = omega arith;
  }

  module _ (start f g : F) (low end next : ℕ) (old pairs : PairList) (so : IsUpdated start f low end next old pairs) where
    -- all others have what the function makes of them
    pub updates_whole : (Whole : Type 0) → Alters new None f (within next end pairs) g → Updates new start low end Whole old pairs
    updates_whole Whole of =
        let left : PairList = within next end pairs in record {
          others = so.others;
          first = so.first ++ left;
          made = so.made ++ left;
          left = [];
          last = g;
          had = so.had ∙ sym (append-nil (so.first ++ left));
          has = so.has ∙ sym (append-nil (so.made ++ left));
          makes = makes_more start f g so.first so.made left left so.makes (none_altered f g left of);
          whole = λ _. refl;
        }

    module _ (key value : ℕ) (at_key : IsAltered key value f (within next end pairs) g) where
      front_first : Makes new start (so.first ++ at_key.front) (so.made ++ at_key.front) at_key.mid
      front_first = makes_more start f at_key.mid so.first so.made at_key.front at_key.front so.makes at_key.before

      split : (l : PairList) → l ++ within next end pairs ≡ (l ++ at_key.front) ++ (key, at_key.had) ∷ at_key.rest
      split l = ap (λ (left : PairList). l ++ left) at_key.is ∙ sym (append_assoc l at_key.front ((key, at_key.had) ∷ at_key.rest))

      -- the pair at the key, and those after it, stay
      pub updates_before : (Whole : Type 0) → (Whole → ⊥) → Updates new start low end Whole old pairs
      updates_before Whole not_whole = record {
        others = so.others;
        first = so.first ++ at_key.front;
        made = so.made ++ at_key.front;
        left = (key, at_key.had) ∷ at_key.rest;
        last = at_key.mid;
        had = so.had ∙ split so.first;
        has = so.has ∙ split so.made;
        makes = front_first;
        whole = λ whole. absurd (not_whole whole);
      }

      module _ (past : ℕ) (rise : rises 0 past pairs ≡ true) where
        part_rises : rises next end (at_key.front ++ (key, at_key.had) ∷ at_key.rest) ≡ true
        part_rises = subst (λ (l : PairList). rises next end l ≡ true) at_key.is (within_rises 0 past next end pairs rise)

        range_rises : rises low end ((so.made ++ at_key.front) ++ (key, at_key.had) ∷ at_key.rest) ≡ true
        range_rises = subst (λ (l : PairList). rises low end l ≡ true) (so.has ∙ split so.made) (within_rises 0 past low end pairs rise)

        from_next : next ≤ key
        from_next = past_key end key at_key.had at_key.rest next at_key.front part_rises

        under : key < end
        under = under_end end key at_key.had at_key.rest next at_key.front part_rises

        module _ (after : ℕ) (then : PairList) (sets : then ≡ put key value pairs) (behind : after ≡ key + 1) where
          range_is : within low end then ≡ (so.made ++ at_key.front) ++ (key, value) ∷ at_key.rest
          range_is =
              ap (within low end) sets
              ∙ (within_put 0 past low end key value pairs rise (omega (arith, so.ahead, from_next)) under
              ∙ (ap (put key value) (so.has ∙ split so.made) ∙ put_there end key at_key.had at_key.rest value low
              (so.made ++ at_key.front) range_rises))

          part_is : within next end then ≡ at_key.front ++ (key, value) ∷ at_key.rest
          part_is =
              ap (within next end) sets
              ∙ (within_put 0 past next end key value pairs rise from_next under
              ∙ (ap (put key value) at_key.is ∙ put_there end key at_key.had at_key.rest value next at_key.front part_rises))

          left_is : within after end then ≡ at_key.rest
          left_is =
              sym (within_part next after end then (omega (arith, from_next, behind)))
              ∙ (ap (within after end) part_is ∙ (ap (λ (n : ℕ). within n end (at_key.front ++ (key, value) ∷ at_key.rest)) behind
              ∙ within_past end key at_key.had at_key.rest value next at_key.front part_rises))

          others_are : outside low end then ≡ outside low end old
          others_are = ap (outside low end) sets ∙
              (outside_put low end key value pairs (omega (arith, so.ahead, from_next)) under ∙ so.others)

          pub fewer_left : length (within after end then) < length (within next end pairs)
          fewer_left = omega (arith, ap length left_is, ap length at_key.is, length-append at_key.front ((key, at_key.had) ∷ at_key.rest))

          with_it : Makes new start ((so.first ++ at_key.front) ++ (key, at_key.had) ∷ [])
              ((so.made ++ at_key.front) ++ (key, value) ∷ []) g
          with_it =
              let one : Makes new at_key.mid ((key, at_key.had) ∷ []) ((key, value) ∷ []) g =
              (value, g, [], at_key.makes, (refl, refl), refl) in
              makes_more start at_key.mid g (so.first ++ at_key.front) (so.made ++ at_key.front) ((key, at_key.had) ∷ [])
              ((key, value) ∷ []) front_first one

          -- it goes on after the key
          pub updates_on : IsUpdated start g low end after old then
          updates_on = record {
            first = (so.first ++ at_key.front) ++ (key, at_key.had) ∷ [];
            made = (so.made ++ at_key.front) ++ (key, value) ∷ [];
            had = so.had ∙ (split so.first ∙ (sym (append_assoc (so.first ++ at_key.front) ((key, at_key.had) ∷ []) at_key.rest) ∙ ap
                (λ (l : PairList). ((so.first ++ at_key.front) ++ (key, at_key.had) ∷ []) ++ l) (sym left_is)));
            has = range_is ∙ (sym (append_assoc (so.made ++ at_key.front) ((key, value) ∷ []) at_key.rest) ∙ ap
                (λ (l : PairList). ((so.made ++ at_key.front) ++ (key, value) ∷ []) ++ l) (sym left_is));
            others = others_are;
            makes = with_it;
            ahead = omega (arith, so.ahead, from_next, behind);
          }

pub not_done : {T E : Type 0} (result : Result T E) (P : E → Type 0) → IsErrAnd result P → IsOk result → ⊥
not_done (Ok done) P is_err is_ok = is_err
not_done (Err fault) P is_err is_ok = cc (is_ok)
