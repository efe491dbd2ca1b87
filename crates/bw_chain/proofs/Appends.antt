-- Pairs behind all others of a list.
use Rattle.std.proofs.Common.{◌≡◌, ℕ, ◌+◌, ◌-◌, ◌<◌, ◌≤◌, Bool, true, false, List, [], ◌∷◌, ◌++◌, length, Option, Some, None, refl, sym, ap, subst, ◌∙◌, arith, append_assoc, append-nil}
use Rattle.std.specs.Prelude.{slice_get, unwrap_or, nat_lt, ◌==◌}
use Rattle.std.proofs.lemmas.Bool.Decides.{nat_tests}
use Rattle.bw_keys.specs.Ranges.{end_of, key_count}
use Rattle.bw_delta.specs.Entries.{at, put, rises, last_entry}
use Rattle.bw_delta.specs.Pages.{Page, Listed, IsPage, pairs_of}
use Rattle.bw_delta.specs.Records.{bare}
use Rattle.bw_delta.proofs.Rises.{rises-append, rises-lower}
use Rattle.bw_chain.specs.Ascends.{IsAscending}
use Rattle.bw_chain.specs.InPlaces.{chain_with_each}
use Rattle.bw_chain.proofs.InPlaces.{with_pairs}
use Rattle.bw_chain.proofs.Lasts.{rises-last}

abbrev Pairs : Type 0
Pairs = List (ℕ × ℕ)

-- what is said of a list that rises
record Rises (low end : ℕ) (e : ℕ × ℕ) (es : Pairs) : Type 0 where
  from_low : low ≤ e.0
  below_end : e.0 < end
  others : rises (e.0 + 1) end es ≡ true

parts_of : (low end : ℕ) (e : ℕ × ℕ) (es : Pairs) → rises low end (e ∷ es) ≡ true → Rises low end e es
parts_of low end e es rise = record
    { from_low = grind (arith, nat_tests); below_end = grind (arith, nat_tests); others = grind (arith, nat_tests) }

next_from_low : (low end : ℕ) (p : ℕ × ℕ) (es rest : Pairs) → rises low end (es ++ p ∷ rest) ≡ true → low ≤ p.0
next_from_low low end p [] rest rise = (parts_of low end p rest rise).from_low
next_from_low low end p (e ∷ es) rest rise =
    let it = parts_of low end e (es ++ p ∷ rest) rise in
    omega (arith, next_from_low (e.0 + 1) end p es rest it.others, it.from_low)

-- a pair that comes next in a list that rises isn't there yet, and is put at the end
pub put_next : (low end : ℕ) (p : ℕ × ℕ) (es rest : Pairs) → rises low end (es ++ p ∷ rest) ≡ true → put p.0 p.1 es ≡ es ++ p ∷ []
put_next low end p [] rest rise = refl
put_next low end p (e ∷ es) rest rise =
    let it = parts_of low end e (es ++ p ∷ rest) rise in
    let above : e.0 + 1 ≤ p.0 = next_from_low (e.0 + 1) end p es rest it.others in
    let less : nat_lt e.0 p.0 ≡ true = grind (arith, nat_tests, above) in
    rw less (ap (λ (l : Pairs). e ∷ l) (put_next (e.0 + 1) end p es rest it.others))

pub absent_before : (low end : ℕ) (p : ℕ × ℕ) (es rest : Pairs) → rises low end (es ++ p ∷ rest) ≡ true → at p.0 es ≡ None
absent_before low end p [] rest rise = refl
absent_before low end p (e ∷ es) rest rise =
    let it = parts_of low end e (es ++ p ∷ rest) rise in
    let above : e.0 + 1 ≤ p.0 = next_from_low (e.0 + 1) end p es rest it.others in
    let other : (e.0 == p.0) ≡ false = grind (arith, nat_tests, above) in
    rw other (absent_before (e.0 + 1) end p es rest it.others)

-- the same list, with the next pair moved from one part to the other
pub moved : (p : ℕ × ℕ) (es rest : Pairs) → (es ++ p ∷ []) ++ rest ≡ es ++ p ∷ rest
moved p es rest = append_assoc es (p ∷ []) rest

pub still_ascends : (p : ℕ × ℕ) (es rest : Pairs) → IsAscending (es ++ p ∷ rest) → IsAscending ((es ++ p ∷ []) ++ rest)
still_ascends p es rest rise = subst IsAscending (sym (moved p es rest)) rise

-- a base page with pairs inserted one after the other has them at the end
with_each : (page : Page) (es fs : Pairs) → IsAscending (es ++ fs)
    → chain_with_each fs (bare (with_pairs page es)) ≡ bare (with_pairs page (es ++ fs))
with_each page es [] rise = ap (λ (l : Pairs). bare (with_pairs page l)) (sym (append-nil es))
with_each page es (f ∷ fs) rise =
    ap (λ (l : Pairs). chain_with_each fs (bare (with_pairs page l))) (put_next 0 key_count f es fs rise)
    ∙ (with_each page (es ++ f ∷ []) fs (still_ascends f es fs rise) ∙ ap (λ (l : Pairs). bare (with_pairs page l)) (moved f es fs))

module _ (page : Page) (es fs new : Pairs) (lists : page.listed ≡ pairs_of es) where
  pub appended_page : IsAscending (es ++ fs) → new ≡ es ++ fs → bare (with_pairs page new) ≡ chain_with_each fs (bare page)
  appended_page rise is =
      ap (λ (l : Pairs). bare (with_pairs page l)) is
      ∙ (sym (with_each page es fs rise) ∙ ap (λ (l : Listed). chain_with_each fs (bare (record page { listed = l }))) (sym lists))

last_at : (e : ℕ × ℕ) (es : Pairs) → slice_get (e ∷ es) (length es) ≡ Some (unwrap_or (last_entry es) e)
last_at e [] = refl
last_at e (d ∷ ds) = last_at d ds

last_read : (e : ℕ × ℕ) (es : Pairs) → slice_get (e ∷ es) (length (e ∷ es) - 1) ≡ last_entry (e ∷ es)
last_read e es = let n : length (e ∷ es) - 1 ≡ length es = omega arith in rw n (last_at e es)

-- the first and the last key decide where a list that rises lies
from_first : (low least end : ℕ) (f : ℕ × ℕ) (fs : Pairs) → rises low end (f ∷ fs) ≡ true → least ≤ f.0 → rises least end (f ∷ fs) ≡ true
from_first low least end f fs rise le = grind (arith, nat_tests)

upto_last : (low end most : ℕ) (last : ℕ × ℕ) (e : ℕ × ℕ) (es : Pairs) → rises low end (e ∷ es) ≡ true
    → Some last ≡ slice_get (e ∷ es) (length (e ∷ es) - 1) → last.0 < most → rises low most (e ∷ es) ≡ true
upto_last low end most last e es rise is less = rises-last low end most last (e ∷ es) rise (sym (is ∙ last_read e es)) less

pub lies_inside : (low most : ℕ) (first last : ℕ × ℕ) (es : Pairs) → IsAscending es → Some first ≡ slice_get es 0
    → Some last ≡ slice_get es (length es - 1) → low ≤ first.0 → last.0 < most → rises low most es ≡ true
lies_inside low most first last [] rise is_first is_last le less = refl
lies_inside low most first last (e ∷ es) rise is_first is_last le less =
    let same : first ≡ e = cc in
    let above : low ≤ e.0 = rw (← same) le in
    from_first 0 low most e es (upto_last 0 key_count most last e es rise is_last less) above

pub ascends_with : (first last : ℕ × ℕ) (es fs : Pairs) → IsAscending es → IsAscending fs → Some last ≡ slice_get es (length es - 1)
    → Some first ≡ slice_get fs 0 → last.0 < first.0 → IsAscending (es ++ fs)
ascends_with first last [] fs rise more is_last is_first less = more
ascends_with first last (e ∷ es) [] rise more is_last is_first less = cc
ascends_with first last (e ∷ es) (f ∷ fs) rise more is_last is_first less =
    let same : first ≡ f = cc in
    let under : last.0 < f.0 = rw (← same) less in
    let few : f.0 < key_count = grind (arith, nat_tests, more) in
    rises-append key_count 0 f.0 (e ∷ es) (f ∷ fs) (omega arith) few (upto_last 0 key_count f.0 last e es rise is_last under)
    (from_first 0 f.0 key_count f fs more (omega arith))

-- nothing speaks against it where one of the lists is empty
pub ascends_after_none : (es fs : Pairs) → IsAscending fs → None ≡ slice_get es (length es - 1) → IsAscending (es ++ fs)
ascends_after_none [] fs more none = more
ascends_after_none (e ∷ es) fs more none = cc (none ∙ last_read e es)

pub ascends_before_none : (es fs : Pairs) → IsAscending es → None ≡ slice_get fs 0 → IsAscending (es ++ fs)
ascends_before_none es [] rise none = subst IsAscending (sym (append-nil es)) rise
ascends_before_none es (f ∷ fs) rise none = cc

rises_further : (low end more : ℕ) (es : Pairs) → end ≤ more → rises low end es ≡ true → rises low more es ≡ true
rises_further low end more [] le rise = refl
rises_further low end more (e ∷ es) le rise = grind (arith, nat_tests, rises_further (e.0 + 1) end more es)

-- pairs inside a page's range rise
pub ascends_inside : (page : Page) (fs : Pairs) → IsPage page → rises page.low (end_of page.high) fs ≡ true → IsAscending fs
ascends_inside page fs whole rise =
    rises-lower key_count 0 page.low fs (omega arith)
    (rises_further page.low (end_of page.high) key_count fs (grind (arith, nat_tests, whole)) rise)

ends_below : (least b low end : ℕ) (es fs : Pairs) → rises least key_count (es ++ fs) ≡ true → rises b end es ≡ true
    → rises low end fs ≡ true → rises least end (es ++ fs) ≡ true
ends_below least b low end [] [] rise left right = refl
ends_below least b low end [] (f ∷ fs) rise left right = grind (arith, nat_tests)
ends_below least b low end (e ∷ es) fs rise left right =
    let more : rises (e.0 + 1) key_count (es ++ fs) ≡ true = grind (arith, nat_tests) in
    let others : rises (e.0 + 1) end es ≡ true = grind (arith, nat_tests) in
    let all : rises (e.0 + 1) end (es ++ fs) ≡ true = ends_below (e.0 + 1) (e.0 + 1) low end es fs more others right in
    grind (arith, nat_tests)

rises_joined : (low end : ℕ) (es fs : Pairs) → IsAscending (es ++ fs) → rises low end es ≡ true → rises low end fs ≡ true
    → rises low end (es ++ fs) ≡ true
rises_joined low end [] fs rise left right = right
rises_joined low end (e ∷ es) fs rise left right =
    let above : low ≤ e.0 = grind (arith, nat_tests, left) in
    from_first 0 low end e (es ++ fs) (ends_below 0 low low end (e ∷ es) fs rise left right) above

-- the base page stays one
pub appended_is_page : (page : Page) (es fs new : Pairs) (done : Bool) → IsPage page → page.listed ≡ pairs_of es
    → rises page.low (end_of page.high) fs ≡ true
    → (done ≡ true → IsAscending (es ++ fs)) → (done ≡ true → new ≡ es ++ fs) → (done ≡ false → new ≡ es) → IsPage (with_pairs page new)
appended_is_page page es fs new false whole lists inside behind appended unchanged =
    let Whole : Listed → Type 0 = λ l. IsPage (record page { listed = l }) in
    subst Whole (lists ∙ ap pairs_of (sym (unchanged refl))) whole
appended_is_page page es fs new true whole lists inside behind appended unchanged =
    let Whole : Listed → Type 0 = λ l. IsPage (record page { listed = l }) in
    let own : Whole (pairs_of es) = subst Whole lists whole in
    let first : rises page.low (end_of page.high) es ≡ true = grind (arith, nat_tests, own) in
    let all : rises page.low (end_of page.high) (es ++ fs) ≡ true = rises_joined page.low (end_of page.high) es fs (behind refl) first
    inside in
    subst Whole (ap pairs_of (sym (appended refl))) (grind (arith, nat_tests, own, all))
