-- Pairs that a test went over, and those that it refused, deleted.
use Rattle.std.proofs.Common.{◌≡◌, ℕ, ◌+◌, ◌<◌, ◌≤◌, Bool, true, false, cond, [], ◌∷◌, ◌++◌, length, Some, None, refl, sym, ◌∙◌, ap, subst, append_assoc, append-nil, arith}
use Rattle.std.specs.List.Retain.{IsFiltered}
use Rattle.std.proofs.lemmas.Bool.Decides.{nat_tests}
use Rattle.std.proofs.lemmas.List.{length-append}
use Rattle.bw_keys.specs.Ranges.{key_count}
use Rattle.bw_delta.specs.Entries.{rises, without}
use Rattle.nifforan.specs.Maps.{PairList, within}
use Rattle.nifforan.specs.Retaining.{Refuses, Leaves}
use Rattle.nifforan.proofs.Pops.{without_behind}

-- Lists.

pub within_rising : (from low end : ℕ) (es : PairList) → rises low end es ≡ true → from ≤ low → within from end es ≡ es
within_rising from low end [] rise le = refl
within_rising from low end (d ∷ es) rise le = grind (arith, nat_tests, within_rising from (d.0 + 1) end es)

-- a pair among others of rising keys
module _ (end : ℕ) (pair : ℕ × ℕ) (rest : PairList) where
  past_pair : (low : ℕ) (front : PairList) → rises low end (front ++ pair ∷ rest) ≡ true → low ≤ pair.0
  past_pair low [] rise = grind (arith, nat_tests)
  past_pair low (d ∷ front) rise = let behind : d.0 + 1 ≤ pair.0 = past_pair (d.0 + 1) front (grind (arith, nat_tests)) in grind (arith, nat_tests)

  pub without_pair : (low : ℕ) (front : PairList) → rises low end (front ++ pair ∷ rest) ≡ true → without pair.0 (front ++ pair ∷ rest) ≡ front ++ rest
  without_pair low [] rise = let same = without_behind (pair.0 + 1) end pair.0 rest (grind (arith, nat_tests)) (omega arith) in grind (arith, nat_tests)
  without_pair low (d ∷ front) rise =
      let behind : d.0 + 1 ≤ pair.0 = past_pair (d.0 + 1) front (grind (arith, nat_tests)) in
      let those : without pair.0 (front ++ pair ∷ rest) ≡ front ++ rest = without_pair (d.0 + 1) front (grind (arith, nat_tests)) in grind (arith, nat_tests)

  pub within_behind : (low : ℕ) (front : PairList) → rises low end (front ++ pair ∷ rest) ≡ true → within (pair.0 + 1) end (front ++ rest) ≡ rest
  within_behind low [] rise = within_rising (pair.0 + 1) (pair.0 + 1) end rest (grind (arith, nat_tests)) (omega arith)
  within_behind low (d ∷ front) rise =
      let behind : d.0 + 1 ≤ pair.0 = past_pair (d.0 + 1) front (grind (arith, nat_tests)) in
      let those : within (pair.0 + 1) end (front ++ rest) ≡ rest = within_behind (d.0 + 1) front (grind (arith, nat_tests)) in grind (arith, nat_tests)

-- Tests.

module _ {F : Type 0} (test : F → ℕ × ℕ → Bool → F → Type 0) where
  -- the test went over the pairs, from f on to g, and said true of those kept
  abbrev pub Filters : F → PairList → PairList → F → Type 0
  Filters f [] kept g = (kept ≡ []) × (f ≡ g)
  Filters f (pair ∷ pairs) kept g = (stays : Bool) × (mid : F) × (rest : PairList) × test f pair stays mid × Filters mid pairs rest g × (kept ≡ cond stays (pair ∷ rest) rest)

  filters_more : (f g h : F) (tested kept more stay : PairList) → Filters f tested kept g → Filters g more stay h → Filters f (tested ++ more) (kept ++ stay) h
  filters_more f g h [] kept more stay first then =
      subst (λ (l : PairList). Filters f more (l ++ stay) h) (sym first.0) (subst (λ (s : F). Filters s more stay h) (sym first.1) then)
  filters_more f g h (pair ∷ tested) kept more stay (true, mid, rest, reported, those, is) then =
      (true, mid, rest ++ stay, reported, filters_more mid g h tested rest more stay those then, ap (λ (l : PairList). l ++ stay) is)
  filters_more f g h (pair ∷ tested) kept more stay (false, mid, rest, reported, those, is) then =
      (false, mid, rest ++ stay, reported, filters_more mid g h tested rest more stay those then, ap (λ (l : PairList). l ++ stay) is)

  is_filtered : (f g : F) (tested kept : PairList) → Filters f tested kept g → IsFiltered test f tested kept
  is_filtered f g [] kept of = ([], f, refl, refl, of.0)
  is_filtered f g (pair ∷ tested) kept (true, mid, rest, reported, those, is) =
      let of = is_filtered mid g tested rest those in
      (true ∷ of.0, of.1, omega (arith, of.2), (mid, reported, of.3), is ∙ ap (λ (l : PairList). pair ∷ l) of.4)
  is_filtered f g (pair ∷ tested) kept (false, mid, rest, reported, those, is) =
      let of = is_filtered mid g tested rest those in
      (false ∷ of.0, of.1, omega (arith, of.2), (mid, reported, of.3), is ∙ of.4)

  -- the test said true of the first pairs, and false of the one with the key
  pub record IsRefused (key : ℕ) (f : F) (pairs : PairList) (g : F) : Type 0 where
    pub front : PairList
    pub value : ℕ
    pub rest : PairList
    pub mid : F
    pub is : pairs ≡ front ++ (key, value) ∷ rest
    pub before : Filters f front front mid
    pub reported : test mid (key, value) false g

  pub refused : (key : ℕ) (f g : F) (pairs : PairList) → Refuses test (Some key) f pairs g → IsRefused key f pairs g
  refused key f g [] of = absurd (cc (of.0))
  refused key f g (pair ∷ pairs) (true, mid, reported, those) =
      let then = refused key mid g pairs those in record {
        front = pair ∷ then.front;
        value = then.value;
        rest = then.rest;
        mid = then.mid;
        is = ap (λ (l : PairList). pair ∷ l) then.is;
        before = (true, mid, then.front, reported, then.before, refl);
        reported = then.reported;
      }
  refused key f g (pair ∷ pairs) (false, mid, reported, those) =
      let its : pair.0 ≡ key = cc (those.0) in record {
        front = [];
        value = pair.1;
        rest = pairs;
        mid = f;
        is = ap (λ (k : ℕ). (k, pair.1) ∷ pairs) its;
        before = (refl, refl);
        reported = subst (λ (k : ℕ). test f (k, pair.1) false g) its (subst (λ (s : F). test f pair false s) those.1 reported);
      }

  none_refused : (f g : F) (pairs : PairList) → Refuses test None f pairs g → Filters f pairs pairs g
  none_refused f g [] of = (refl, of.1)
  none_refused f g (pair ∷ pairs) (true, mid, reported, those) = (true, mid, pairs, reported, none_refused mid g pairs those, refl)
  none_refused f g (pair ∷ pairs) (false, mid, reported, those) = absurd (cc (those.0))

  -- how far it went: the test is f now, and the pairs are those kept, and those from the low on, of which it wasn't asked
  pub record IsRetained (start f : F) (low : ℕ) (old pairs : PairList) : Type 0 where
    pub tested : PairList
    pub kept : PairList
    pub before : old ≡ tested ++ within low key_count pairs
    pub after : pairs ≡ kept ++ within low key_count pairs
    pub filters : Filters start tested kept f
    pub fewer : length pairs ≤ length old

  pub none_asked : (f : F) (pairs : PairList) → rises 0 key_count pairs ≡ true → IsRetained f f 0 pairs pairs
  none_asked f pairs rise =
      let all : pairs ≡ within 0 key_count pairs = sym (within_rising 0 0 key_count pairs rise (omega arith)) in
      record { tested = []; kept = []; before = all; after = all; filters = (refl, refl); fewer = omega arith }

  module _ (start f g : F) (low : ℕ) (old pairs : PairList) (so : IsRetained start f low old pairs) where
    -- all others stay
    pub ends_whole : (Whole : Type 0) → Refuses test None f (within low key_count pairs) g → Leaves test start Whole old pairs
    ends_whole Whole of =
        let left : PairList = within low key_count pairs in
        let both : Filters start (so.tested ++ left) (so.kept ++ left) g = filters_more start f g so.tested so.kept left left so.filters (none_refused f g left of) in record {
          tested = so.tested ++ left;
          kept = so.kept ++ left;
          left = [];
          before = so.before ∙ sym (append-nil (so.tested ++ left));
          after = so.after ∙ sym (append-nil (so.kept ++ left));
          filtered = is_filtered start g (so.tested ++ left) (so.kept ++ left) both;
          whole = λ _. refl;
        }

    module _ (key : ℕ) (past : IsRefused key f (within low key_count pairs) g) where
      was : old ≡ (so.tested ++ past.front) ++ (key, past.value) ∷ past.rest
      was = so.before ∙ (ap (λ (l : PairList). so.tested ++ l) past.is ∙ sym (append_assoc so.tested past.front ((key, past.value) ∷ past.rest)))

      all : pairs ≡ (so.kept ++ past.front) ++ (key, past.value) ∷ past.rest
      all = so.after ∙ (ap (λ (l : PairList). so.kept ++ l) past.is ∙ sym (append_assoc so.kept past.front ((key, past.value) ∷ past.rest)))

      before_it : Filters start (so.tested ++ past.front) (so.kept ++ past.front) past.mid
      before_it = filters_more start f past.mid so.tested so.kept past.front past.front so.filters past.before

      -- the pair at the key, and those after it, are left
      pub ends_at : (Whole : Type 0) → (Whole → ⊥) → Leaves test start Whole old pairs
      ends_at Whole not_whole = record {
        tested = so.tested ++ past.front;
        kept = so.kept ++ past.front;
        left = (key, past.value) ∷ past.rest;
        before = was;
        after = all;
        filtered = is_filtered start past.mid (so.tested ++ past.front) (so.kept ++ past.front) before_it;
        whole = λ whole. absurd (not_whole whole);
      }

      with_it : Filters start ((so.tested ++ past.front) ++ (key, past.value) ∷ []) (so.kept ++ past.front) g
      with_it =
          let one : Filters past.mid ((key, past.value) ∷ []) [] g = (false, g, [], past.reported, (refl, refl), refl) in
          subst (λ (l : PairList). Filters start ((so.tested ++ past.front) ++ (key, past.value) ∷ []) l g) (append-nil (so.kept ++ past.front))
          (filters_more start past.mid g (so.tested ++ past.front) (so.kept ++ past.front) ((key, past.value) ∷ []) [] before_it one)

      module _ (next : ℕ) (new : PairList) (rise : rises 0 key_count pairs ≡ true) (goes : new ≡ without key pairs) (behind : next ≡ key + 1) where
        rising : rises 0 key_count ((so.kept ++ past.front) ++ (key, past.value) ∷ past.rest) ≡ true
        rising = subst (λ (l : PairList). rises 0 key_count l ≡ true) all rise

        its : new ≡ (so.kept ++ past.front) ++ past.rest
        its = goes ∙ (ap (without key) all ∙ without_pair key_count (key, past.value) past.rest 0 (so.kept ++ past.front) rising)

        left_is : within next key_count new ≡ past.rest
        left_is =
            ap (λ (l : PairList). within next key_count l) its
            ∙ (ap (λ (n : ℕ). within n key_count ((so.kept ++ past.front) ++ past.rest)) behind ∙ within_behind key_count (key, past.value) past.rest 0 (so.kept ++ past.front) rising)

        -- there is one pair less
        pub less : length new < length pairs
        less = omega (arith, ap length its, ap length all, length-append (so.kept ++ past.front) past.rest, length-append (so.kept ++ past.front) ((key, past.value) ∷ past.rest))

        -- it goes on after the key
        pub goes_on : IsRetained start g next old new
        goes_on = record {
          tested = (so.tested ++ past.front) ++ (key, past.value) ∷ [];
          kept = so.kept ++ past.front;
          before = was ∙ (sym (append_assoc (so.tested ++ past.front) ((key, past.value) ∷ []) past.rest) ∙ ap (λ (l : PairList). ((so.tested ++ past.front) ++ (key, past.value) ∷ []) ++ l) (sym left_is));
          after = its ∙ ap (λ (l : PairList). (so.kept ++ past.front) ++ l) (sym left_is);
          filters = with_it;
          fewer = omega (arith, so.fewer, less);
        }
