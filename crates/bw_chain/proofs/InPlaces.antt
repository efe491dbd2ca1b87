-- What a change in place makes of a base page: the page of the chain with the record on top.
use Rattle.std.proofs.Common.{◌≡◌, ℕ, ◌<◌, ◌≤◌, Bool, true, false, List, [], ◌∷◌, ◌++◌, Option, refl, ap, sym, subst, ◌∙◌, arith, cond}
use Rattle.std.proofs.lemmas.Bool.Decides.{nat_tests}
use Rattle.std.specs.Prelude.{Some, None, IfSome, IfNone, is_some, Result, Ok, Err, OnOk, is_err, is_ok}
use Rattle.bw_keys.specs.declared.page.Pid.{Pid}
use Rattle.bw_keys.specs.declared.range.Fence.TheVariants.{Key}
use Rattle.bw_keys.specs.Ranges.{end_of}
use Rattle.bw_delta.specs.declared.chain.Delta.{Delta}
use Rattle.bw_delta.specs.declared.chain.Delta.TheVariants.{Insert, Modify, Delete, Split, TermAdd, TermDelete}
use Rattle.bw_delta.specs.declared.fences.Fences.{Fences}
use Rattle.bw_delta.specs.Entries.{at, put, without, below, from, rises}
use Rattle.bw_delta.specs.Fence.{page_fences, fences, fences_after}
use Rattle.bw_delta.specs.Pages.{Page, Listed, IsPage, pairs_of, routes_of, lists_pairs, listed_rises}
use Rattle.bw_delta.specs.Pairs.{pairs, pairs_listed, routes_listed, pairs_after, routes_after}
use Rattle.bw_delta.specs.Records.{Records, bare, above}
use Rattle.bw_delta.specs.Sound.{IsSound, LiesIn, MayStandOver, page_for, page_with}
use Rattle.bw_delta.proofs.At.{at-below_in}
use Rattle.bw_delta.proofs.Rises.{below_all, from_all, rises-append, rises-without}
use Rattle.bw_delta.proofs.Stands.{page_for_is_page}
use Rattle.bw_keys.specs.declared.wished.Wished.{Wished}
use Rattle.bw_keys.specs.declared.wished.Wished.TheVariants as wishes
use Rattle.bw_chain.specs.InPlaces.{delta_for, pairs_with, chain_with, page_behind_split, IsBehindSplit, joined_chain, uncovered}
use Rattle.bw_chain.proofs.Places.{below-put, below-without}

abbrev pub with_pairs : Page → List (ℕ × ℕ) → Page
with_pairs page es = record page { listed = pairs_of es }

-- the range stays
pub keeps_fences : (wished : Wished) (key : ℕ) (had : Option ℕ) (delta : Delta) (fence : Fences) → Some delta ≡ delta_for wished key had → fences_after delta fence ≡ fence
keeps_fences (wishes.Put value) key None delta fence is = let same : delta ≡ Insert key value = cc in rw same refl
keeps_fences (wishes.Put value) key (Some had) delta fence is = cc
keeps_fences (wishes.Set value) key None delta fence is = let same : delta ≡ Insert key value = cc in rw same refl
keeps_fences (wishes.Set value) key (Some had) delta fence is = let same : delta ≡ Modify key value = cc in rw same refl
keeps_fences wishes.Delete key None delta fence is = cc
keeps_fences wishes.Delete key (Some had) delta fence is = let same : delta ≡ Delete key = cc in rw same refl

module _ (page : Page) (old : List (ℕ × ℕ)) (lists : page.listed ≡ pairs_of old) where
  -- the record may stand over the base, where the key lies in its range
  pub may_stand : (wished : Wished) (key : ℕ) (had : Option ℕ) (delta : Delta) → LiesIn key (page_fences page) → had ≡ at key old → Some delta ≡ delta_for wished key had → MayStandOver delta (bare page)
  may_stand wished key had delta within found is = by_wish wished had found is
    where
      May : Delta → Type 0
      May d = MayStandOver d (bare page)

      leaf : lists_pairs page.listed ≡ true
      leaf = ap lists_pairs lists

      there : (value : ℕ) → Some value ≡ at key old → is_some (at key (pairs_listed page.listed)) ≡ true
      there value found = rw (lists, ← found) refl

      by_wish : (w : Wished) (o : Option ℕ) → o ≡ at key old → Some delta ≡ delta_for w key o → MayStandOver delta (bare page)
      by_wish (wishes.Put value) None found is = let same : delta ≡ Insert key value = cc in rw same (leaf, within)
      by_wish (wishes.Put value) (Some o) found is = cc
      by_wish (wishes.Set value) None found is = let same : delta ≡ Insert key value = cc in rw same (leaf, within)
      by_wish (wishes.Set value) (Some o) found is = let same : delta ≡ Modify key value = cc in rw same (leaf, there o found)
      by_wish wishes.Delete None found is = cc
      by_wish wishes.Delete (Some o) found is = let same : delta ≡ Delete key = cc in rw same (leaf, within)

  -- the page with the record taken in
  pub page_after : (delta : Delta) → ((fence : Fences) → fences_after delta fence ≡ fence) → page_for (above delta (bare page)) ≡ with_pairs page (pairs_after delta old)
  page_after delta keeps =
      let Lists : Listed → Listed = λ l. cond (lists_pairs l) (pairs_of (pairs_after delta (pairs_listed l))) (routes_of (routes_after delta (routes_listed l))) in
      ap (λ (f : Fences). page_with f (Lists page.listed)) (keeps (page_fences page)) ∙ ap (λ (l : Listed). page_with (page_fences page) (Lists l)) lists

  pub page_stays : (new : List (ℕ × ℕ)) → new ≡ old → with_pairs page new ≡ page
  page_stays new same =
      let WithListed : Listed → Page = λ l. record page { listed = l } in
      ap WithListed (ap pairs_of same ∙ sym lists)

  -- the base with the pairs changed is a page
  pub changed_is_page : (wished : Wished) (key : ℕ) (new : List (ℕ × ℕ)) (done : Option (Option ℕ)) → IsPage page → LiesIn key (page_fences page)
      → IfSome done (λ had. had ≡ at key old) → IfSome done (λ had. new ≡ pairs_with (delta_for wished key had) old) → IfNone done (new ≡ old)
      → IsPage (with_pairs page new)
  changed_is_page wished key new None whole within found changed unchanged = subst IsPage (sym (page_stays new unchanged)) whole
  changed_is_page wished key new (Some had) whole within found changed unchanged = by_delta (delta_for wished key had) refl changed
    where
      by_delta : (d : Option Delta) → d ≡ delta_for wished key had → new ≡ pairs_with d old → IsPage (with_pairs page new)
      by_delta None is new_is = subst IsPage (sym (page_stays new new_is)) whole
      by_delta (Some d) is new_is =
          let sound : IsSound (above d (bare page)) = record { built = (whole, may_stand wished key had d within found is); not_deep = omega arith } in
          let after : page_for (above d (bare page)) ≡ with_pairs page new = page_after d (λ fence. keeps_fences wished key had d fence is) ∙ ap (with_pairs page) (sym new_is) in
          subst IsPage after (page_for_is_page (above d (bare page)) sound)

-- an inner page with a new route
module _ (page : Page) (old : List (ℕ × Pid)) (lists : page.listed ≡ routes_of old) where
  abbrev with_routes : List (ℕ × Pid) → Page
  with_routes es = record page { listed = routes_of es }

  pub routed_page : (separator : ℕ) (child : Pid) → page_for (above (TermAdd separator child) (bare page)) ≡ with_routes (put separator child old)
  routed_page separator child =
      let Lists : Listed → Listed = λ l. cond (lists_pairs l) (pairs_of (pairs_listed l)) (routes_of (put separator child (routes_listed l))) in
      ap (λ (l : Listed). page_with (page_fences page) (Lists l)) lists

  pub routed_is_page : (separator : ℕ) (child : Pid) (new : List (ℕ × Pid)) (done : Bool) → IsPage page → LiesIn separator (page_fences page)
      → (done ≡ true → new ≡ put separator child old) → (done ≡ false → new ≡ old) → IsPage (record page { listed = routes_of new })
  routed_is_page separator child new false whole within put_there unchanged =
      let WithListed : Listed → Type 0 = λ l. IsPage (record page { listed = l }) in subst WithListed (lists ∙ ap routes_of (sym (unchanged refl))) whole
  routed_is_page separator child new true whole within put_there unchanged =
      let chain = above (TermAdd separator child) (bare page) in
      let sound : IsSound chain = record { built = (whole, (ap lists_pairs lists, within)); not_deep = omega arith } in
      let WithRoutes : List (ℕ × Pid) → Type 0 = λ es. IsPage (with_routes es) in
      subst WithRoutes (sym (put_there refl)) (subst IsPage (routed_page separator child) (page_for_is_page chain sound))

pub page_for_bare : (page : Page) → page_for (bare page) ≡ page
page_for_bare page = let WithListed : Listed → Page = λ l. record page { listed = l } in ap WithListed (by_kind page.listed)
  where
    by_kind : (l : Listed) → cond (lists_pairs l) (pairs_of (pairs_listed l)) (routes_of (routes_listed l)) ≡ l
    by_kind (pairs_of es) = refl
    by_kind (routes_of es) = refl

-- what is listed below the separator
abbrev pub listed_below : ℕ → Listed → Listed
listed_below separator (pairs_of es) = pairs_of (below separator es)
listed_below separator (routes_of es) = routes_of (below separator es)

abbrev pub page_below : ℕ → Pid → Page → Page
page_below separator right page = record { low = page.low; high = Key separator; right = Some right; listed = listed_below separator page.listed }

-- a page that is cut off at the separator
pub cut_page : (separator : ℕ) (right : Pid) (page : Page) → page_for (above (Split separator right) (bare page)) ≡ page_below separator right page
cut_page separator right page =
    let WithListed : Listed → Page = λ l. record { low = page.low; high = Key separator; right = Some right; listed = l } in ap WithListed (by_kind page.listed)
  where
    by_kind : (l : Listed) → cond (lists_pairs l) (pairs_of (below separator (pairs_listed l))) (routes_of (below separator (routes_listed l))) ≡ listed_below separator l
    by_kind (pairs_of es) = refl
    by_kind (routes_of es) = refl

pub cut_is_page : (separator : ℕ) (right : Pid) (page : Page) → IsPage page → LiesIn separator (page_fences page) → page.low < separator → IsPage (page_below separator right page)
cut_is_page separator right page whole within later =
    let chain = above (Split separator right) (bare page) in
    let sound : IsSound chain = record { built = (whole, (later, within)); not_deep = omega arith } in
    subst IsPage (cut_page separator right page) (page_for_is_page chain sound)

pub cut_lists : (separator : ℕ) (right : Pid) (page : Page) (listed : Listed) → IsPage page → LiesIn separator (page_fences page) → page.low < separator → listed_below separator page.listed ≡ listed
    → IsPage (record { low = page.low; high = Key separator; right = Some right; listed = listed })
cut_lists separator right page listed whole within later is =
    let WithListed : Listed → Type 0 = λ l. IsPage (record { low = page.low; high = Key separator; right = Some right; listed = l }) in
    subst WithListed is (cut_is_page separator right page whole within later)

-- a base page that a split ended, with a record over the split's: it makes no difference which of the two is taken in first
module _ (page : Page) (whole : IsPage page) (separator : ℕ) (right : Pid) (key : ℕ) (inside : key < separator) where
  abbrev with_listed : Listed → Page
  with_listed l = record page { listed = l }

  abbrev ComesToSame : Delta → Listed → Type 0
  ComesToSame delta l =
      page_for (above (Split separator right) (bare (page_for (above delta (bare (with_listed l)))))) ≡ page_for (above delta (above (Split separator right) (bare (with_listed l))))

  abbrev cut_off : List (ℕ × ℕ) → Page
  cut_off es = record { low = page.low; high = Key separator; right = Some right; listed = pairs_of es }

  insertion_comes : (value : ℕ) (l : Listed) → listed_rises page.low (end_of page.high) l ≡ true → ComesToSame (Insert key value) l
  insertion_comes value (pairs_of es) rise = ap cut_off (below-put page.low (end_of page.high) separator key value es rise inside)
  insertion_comes value (routes_of es) rise = refl

  modification_comes : (value : ℕ) (l : Listed) → listed_rises page.low (end_of page.high) l ≡ true → ComesToSame (Modify key value) l
  modification_comes value (pairs_of es) rise = ap cut_off (below-put page.low (end_of page.high) separator key value es rise inside)
  modification_comes value (routes_of es) rise = refl

  deletion_comes : (l : Listed) → ComesToSame (Delete key) l
  deletion_comes (pairs_of es) = ap cut_off (below-without separator key es)
  deletion_comes (routes_of es) = refl

  comes_to_same : (wished : Wished) (had : Option ℕ) (delta : Delta) → Some delta ≡ delta_for wished key had → ComesToSame delta page.listed
  comes_to_same wished had delta is = by_wish wished had is
    where
      rise : listed_rises page.low (end_of page.high) page.listed ≡ true
      rise = grind (arith, nat_tests, whole)

      Comes : Delta → Type 0
      Comes d = ComesToSame d page.listed

      by_wish : (w : Wished) (o : Option ℕ) → Some delta ≡ delta_for w key o → Comes delta
      by_wish (wishes.Put value) None is = let same : delta ≡ Insert key value = cc in subst Comes (sym same) (insertion_comes value page.listed rise)
      by_wish (wishes.Put value) (Some o) is = cc
      by_wish (wishes.Set value) None is = let same : delta ≡ Insert key value = cc in subst Comes (sym same) (insertion_comes value page.listed rise)
      by_wish (wishes.Set value) (Some o) is = let same : delta ≡ Modify key value = cc in subst Comes (sym same) (modification_comes value page.listed rise)
      by_wish wishes.Delete None is = cc
      by_wish wishes.Delete (Some o) is = let same : delta ≡ Delete key = cc in subst Comes (sym same) (deletion_comes page.listed)

  -- the page that was changed and then cut
  pub cut_behind : (wished : Wished) (had : Option ℕ) (delta : Option Delta) (mid new : Page) → delta ≡ delta_for wished key had → bare mid ≡ chain_with delta (bare page)
      → new ≡ page_for (above (Split separator right) (bare mid)) → is_some delta ≡ true → new ≡ page_behind_split separator right delta page
  cut_behind wished had None mid new is changed cut some = cc
  cut_behind wished had (Some delta) mid new is changed cut some =
      let mid_is : mid ≡ page_for (above delta (bare page)) = cc in
      cut ∙ (ap (λ (m : Page). page_for (above (Split separator right) (bare m))) mid_is ∙ comes_to_same wished had delta is)

-- what is found in the part that is left is found in the whole
pub found_behind_cut : (separator key : ℕ) (right : Pid) (page : Page) → LiesIn key (fences (above (Split separator right) (bare page))) → at key (pairs (above (Split separator right) (bare page))) ≡ at key (pairs_listed page.listed)
found_behind_cut separator key right page within = at-below_in separator key (pairs_listed page.listed) within.below_high

pub uncovered_is : (delta : Delta) (old between : Records) → IsBehindSplit (Some delta) old between → uncovered between ≡ bare (page_for (above delta old))
uncovered_is delta old between h = ap uncovered h.changed ∙ ap (λ (c : Records). bare (page_for (above delta c))) (sym h.before)

pub still_covered : (old between : Records) → IsBehindSplit None old between → between ≡ old
still_covered old between h = h.changed ∙ sym h.before

-- an inner page without a route
without_missing : {X : Type 0} → (key : ℕ) (es : List (ℕ × X)) → at key es ≡ None → without key es ≡ es
without_missing key [] absent = refl
without_missing key (e ∷ es) absent = grind (arith, nat_tests, without_missing key es)

pub without_or_same : {X : Type 0} → (key : ℕ) (old new : List (ℕ × X)) → at key old ≡ None → new ≡ old → new ≡ without key old
without_or_same key old new absent same = same ∙ sym (without_missing key old absent)

pub unrouted_leaf : (separator : ℕ) (page : Page) (es : List (ℕ × ℕ)) → page.listed ≡ pairs_of es → page ≡ page_for (above (TermDelete separator) (bare page))
unrouted_leaf separator page es lists = let WithListed : Listed → Page = λ l. record page { listed = l } in ap WithListed (sym (by_kind page.listed lists))
  where
    by_kind : (l : Listed) → l ≡ pairs_of es → cond (lists_pairs l) (pairs_of (pairs_listed l)) (routes_of (without separator (routes_listed l))) ≡ l
    by_kind (pairs_of fs) is = refl
    by_kind (routes_of fs) is = cc

module _ (page : Page) (old : List (ℕ × Pid)) (lists : page.listed ≡ routes_of old) (separator : ℕ) where
  pub unrouted_page : (new : List (ℕ × Pid)) → new ≡ without separator old → record page { listed = routes_of new } ≡ page_for (above (TermDelete separator) (bare page))
  unrouted_page new is =
      let Lists : Listed → Listed = λ l. cond (lists_pairs l) (pairs_of (pairs_listed l)) (routes_of (without separator (routes_listed l))) in
      ap (λ (es : List (ℕ × Pid)). page_with (page_fences page) (routes_of es)) is ∙ sym (ap (λ (l : Listed). page_with (page_fences page) (Lists l)) lists)

  pub unrouted_is_page : (new : List (ℕ × Pid)) → IsPage page → new ≡ without separator old → IsPage (record page { listed = routes_of new })
  unrouted_is_page new whole is =
      let Whole : Listed → Type 0 = λ l. IsPage (record page { listed = l }) in
      let own : Whole (routes_of old) = subst Whole lists whole in
      subst Whole (ap routes_of (sym is)) (grind (arith, nat_tests, own, rises-without (end_of page.high) page.low separator old))

-- what a call that succeeded did
pub done_if_ok : {T E : Type 0} {P : Type 0} (r : Result T E) → OnOk r P → is_ok r ≡ true → P
done_if_ok (Ok x) done is = done
done_if_ok (Err e) done is = cc

-- what a call that didn't fail did
pub done_unless_err : {T E : Type 0} {P : Type 0} (r : Result T E) → OnOk r P → is_err r ≡ false → P
done_unless_err (Ok x) done is = done
done_unless_err (Err e) done is = cc

-- two pages side by side, of which the left one takes in the other
abbrev pub page_joined : Page → Page → Listed → Page
page_joined left right listed = record { low = left.low; high = right.high; right = right.right; listed = listed }

lists_join : {X : Type 0} → (low middle end : ℕ) (es fs : List (ℕ × X)) → rises low middle es ≡ true → rises middle end fs ≡ true → below middle es ++ from middle fs ≡ es ++ fs
lists_join low middle end es fs h g = rw (below_all low middle es h, from_all end middle middle fs (omega arith) g) refl

module _ (left right : Page) (meets : left.high ≡ Key right.low) (whole : IsPage left) (right_whole : IsPage right) where
  left_ends : end_of left.high ≡ right.low
  left_ends = ap end_of meets

  abbrev Joined : Listed → Listed → Page
  Joined l m = page_for (joined_chain (bare (record left { listed = l })) (bare (record right { listed = m })))

  abbrev WholeLeft : Listed → Type 0
  WholeLeft l = IsPage (record left { listed = l })

  abbrev WholeRight : Listed → Type 0
  WholeRight l = IsPage (record right { listed = l })

  pub joined_leaf : (es fs new : List (ℕ × ℕ)) → left.listed ≡ pairs_of es → right.listed ≡ pairs_of fs → new ≡ es ++ fs → page_joined left right (pairs_of new) ≡ page_for (joined_chain (bare left) (bare right))
  joined_leaf es fs new lists right_lists is =
      let own : WholeLeft (pairs_of es) = subst WholeLeft lists whole in
      let others : WholeRight (pairs_of fs) = subst WholeRight right_lists right_whole in
      let first : rises left.low right.low es ≡ true = grind (arith, nat_tests, own, left_ends) in
      let second : rises right.low (end_of right.high) fs ≡ true = grind (arith, nat_tests, others) in
      ap (λ (gs : List (ℕ × ℕ)). page_joined left right (pairs_of gs)) (is ∙ sym (lists_join left.low right.low (end_of right.high) es fs first second))
      ∙ sym (ap (λ (l : Listed). Joined l right.listed) lists ∙ ap (λ (m : Listed). Joined (pairs_of es) m) right_lists)

  pub joined_leaf_is_page : (es fs new : List (ℕ × ℕ)) → left.listed ≡ pairs_of es → right.listed ≡ pairs_of fs → new ≡ es ++ fs → IsPage (page_joined left right (pairs_of new))
  joined_leaf_is_page es fs new lists right_lists is =
      let own : WholeLeft (pairs_of es) = subst WholeLeft lists whole in
      let others : WholeRight (pairs_of fs) = subst WholeRight right_lists right_whole in
      let first : rises left.low right.low es ≡ true = grind (arith, nat_tests, own, left_ends) in
      let second : rises right.low (end_of right.high) fs ≡ true = grind (arith, nat_tests, others) in
      let Whole : List (ℕ × ℕ) → Type 0 = λ gs. IsPage (page_joined left right (pairs_of gs)) in
      let later : left.low ≤ right.low = grind (arith, nat_tests, own, left_ends) in
      let some : right.low < end_of right.high = grind (arith, nat_tests, others) in
      let all = rises-append (end_of right.high) left.low right.low es fs later some first second in
      subst Whole (sym is) (grind (arith, nat_tests, own, others, all, later))

  pub joined_inner : (es fs new : List (ℕ × Pid)) → left.listed ≡ routes_of es → right.listed ≡ routes_of fs → new ≡ es ++ fs → page_joined left right (routes_of new) ≡ page_for (joined_chain (bare left) (bare right))
  joined_inner es fs new lists right_lists is =
      let own : WholeLeft (routes_of es) = subst WholeLeft lists whole in
      let others : WholeRight (routes_of fs) = subst WholeRight right_lists right_whole in
      let first : rises left.low right.low es ≡ true = grind (arith, nat_tests, own, left_ends) in
      let second : rises right.low (end_of right.high) fs ≡ true = grind (arith, nat_tests, others) in
      ap (λ (gs : List (ℕ × Pid)). page_joined left right (routes_of gs)) (is ∙ sym (lists_join left.low right.low (end_of right.high) es fs first second))
      ∙ sym (ap (λ (l : Listed). Joined l right.listed) lists ∙ ap (λ (m : Listed). Joined (routes_of es) m) right_lists)

  pub joined_inner_is_page : (es fs new : List (ℕ × Pid)) → left.listed ≡ routes_of es → right.listed ≡ routes_of fs → new ≡ es ++ fs → IsPage (page_joined left right (routes_of new))
  joined_inner_is_page es fs new lists right_lists is =
      let own : WholeLeft (routes_of es) = subst WholeLeft lists whole in
      let others : WholeRight (routes_of fs) = subst WholeRight right_lists right_whole in
      let first : rises left.low right.low es ≡ true = grind (arith, nat_tests, own, left_ends) in
      let second : rises right.low (end_of right.high) fs ≡ true = grind (arith, nat_tests, others) in
      let Whole : List (ℕ × Pid) → Type 0 = λ gs. IsPage (page_joined left right (routes_of gs)) in
      let later : left.low ≤ right.low = grind (arith, nat_tests, own, left_ends) in
      let some : right.low < end_of right.high = grind (arith, nat_tests, others) in
      let all = rises-append (end_of right.high) left.low right.low es fs later some first second in
      subst Whole (sym is) (grind (arith, nat_tests, own, others, all, later))
