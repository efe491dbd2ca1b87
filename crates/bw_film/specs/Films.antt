-- Which moments a film has.
use Rattle.std.specs.Prelude.{◌≡◌, ℕ, List, ◌++◌, length, ◌≤◌, map}
use Rattle.std.specs.List.{All, range_with_len}
use Rattle.std.specs.String.{string_bytes}
use Rattle.bw_film.specs.declared.crew.Standing.{Standing}
use Rattle.bw_film.specs.declared.choice.Choice.{Choice}
use Rattle.bw_film.specs.declared.frame.Frame.{Frame}
use Rattle.bw_film.specs.Choices.{drawn_count}

abbrev pub moments_of : List Frame → List ℕ
moments_of frames = map (λ frame. frame.moment) frames

-- the frames are those of the moments that are drawn, one each, in their order; there are 200 of them at most
abbrev pub AreDrawn : Choice → ℕ → List Frame → Type 0
AreDrawn choice moments frames = moments_of frames ≡ range_with_len choice.from (drawn_count 200 choice.from choice.to moments)

-- a frame shows this row, and that the workers do this
pub record Shows (text : List ℕ) (workers : List Standing) (frame : Frame) : Type 0 where
  pub row : string_bytes frame.row ≡ text
  pub crew : frame.crew.items ≡ workers

-- the frames that were there stay, and one may be added, which shows this row and this crew
pub record AddsAFrame (row : List ℕ) (crew : List Standing) (old new : List Frame) : Type 0 where
  pub added : List Frame
  pub one : length added ≤ 1
  pub shown : All (Shows row crew) added
  pub kept : new ≡ old ++ added

-- the same of several
pub record AddsFrames (row : List ℕ) (crew : List Standing) (old new : List Frame) : Type 0 where
  pub added : List Frame
  pub shown : All (Shows row crew) added
  pub kept : new ≡ old ++ added
