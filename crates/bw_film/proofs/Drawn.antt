-- The frames of a film with one moment more.
use Rattle.std.proofs.Common.{◌≡◌, ℕ, zero, suc, ◌+◌, ◌<◌, ◌≤◌, ◌⊎◌, inl, inr, List, [], ◌∷◌, ◌++◌, get_or, set, length, sym, ap, ◌∙◌, arith}
use Rattle.std.specs.List.{range_with_len}
use Rattle.std.proofs.Math.Seq.{map-set_same}
use Rattle.std.proofs.lemmas.List.{map-append, length-map}
use Rattle.std.proofs.lemmas.List.FromFn.{length-range_with_len}
use Rattle.bw_film.specs.declared.choice.Choice.{Choice}
use Rattle.bw_film.specs.declared.frame.Frame.{Frame}
use Rattle.bw_film.specs.Choices.{drawn_count}
use Rattle.bw_film.specs.Films.{AreDrawn, moments_of}

last : (a n j : ℕ) → a + n ≡ j → range_with_len a (suc n) ≡ range_with_len a n ++ j ∷ []
last a zero j e = let same : a ≡ j = omega arith in ap (λ k. k ∷ []) same
last a (suc n) j e = ap (λ l. a ∷ l) (last (a + 1) n j (omega arith))

-- the numbers from one on, and one more of them
range_more : (a n j : ℕ) → a + n ≡ j → range_with_len a (n + 1) ≡ range_with_len a n ++ j ∷ []
range_more a n j e = let on : n + 1 ≡ suc n = omega arith in ap (range_with_len a) on ∙ last a n j e

-- a moment that is chosen is one more, where there is room
count_more : (room from to moments : ℕ) → from ≤ moments → moments ≤ to → drawn_count room from to moments < room → drawn_count room from to (moments + 1) ≡ drawn_count room from to moments + 1
count_more room from to moments low high free = omega arith

count_at : (room from to moments : ℕ) → from ≤ moments → moments ≤ to → drawn_count room from to moments < room → from + drawn_count room from to moments ≡ moments
count_at room from to moments low high free = omega arith

-- the frames are as many as the moments that are drawn
pub drawn_length : (choice : Choice) (moments : ℕ) (frames : List Frame) → AreDrawn choice moments frames → length frames ≡ drawn_count 200 choice.from choice.to moments
drawn_length choice moments frames are =
    sym (length-map frames (λ (frame : Frame). frame.moment)) ∙ ap length are ∙ length-range_with_len choice.from (drawn_count 200 choice.from choice.to moments)

pub draws_one : (choice : Choice) (moments : ℕ) (frames : List Frame) (frame : Frame) → AreDrawn choice moments frames → frame.moment ≡ moments → choice.from ≤ moments → moments ≤ choice.to → length frames < 200
    → AreDrawn choice (moments + 1) (frames ++ frame ∷ [])
draws_one choice moments frames frame are is low high free =
    let n = drawn_count 200 choice.from choice.to moments in
    let room : n < 200 = omega (arith, drawn_length choice moments frames are, free) in
    map-append (λ (f : Frame). f.moment) frames (frame ∷ [])
    ∙ ap (λ l. l ++ frame.moment ∷ []) are
    ∙ ap (λ k. range_with_len choice.from n ++ k ∷ []) is
    ∙ sym (range_more choice.from n moments (count_at 200 choice.from choice.to moments low high room))
    ∙ ap (range_with_len choice.from) (sym (count_more 200 choice.from choice.to moments low high room))

pub draws_none : (choice : Choice) (moments : ℕ) (frames : List Frame) → AreDrawn choice moments frames → (moments < choice.from) ⊎ ((choice.to < moments) ⊎ (200 ≤ length frames)) → AreDrawn choice (moments + 1) frames
draws_none choice moments frames are why =
    let many = drawn_length choice moments frames are in
    are ∙ ap (range_with_len choice.from) (same why)
  where
    same : (moments < choice.from) ⊎ ((choice.to < moments) ⊎ (200 ≤ length frames)) → drawn_count 200 choice.from choice.to moments ≡ drawn_count 200 choice.from choice.to (moments + 1)
    same (inl before) = omega (arith, before)
    same (inr (inl behind)) = omega (arith, behind)
    same (inr (inr full)) = omega (arith, full, drawn_length choice moments frames are)

-- a frame of the same moment in place of one
pub same_moments : (frames : List Frame) (i : ℕ) (x y : Frame) → x ≡ get_or frames i x → y.moment ≡ x.moment → moments_of (set frames i y) ≡ moments_of frames
same_moments frames i x y at same = map-set_same (λ (f : Frame). f.moment) frames i y x (same ∙ ap (λ (f : Frame). f.moment) at)
