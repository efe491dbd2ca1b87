-- What the stages of a page say.
use Rattle.std.specs.Prelude.{Bool, true, false}
use Rattle.bw_step.specs.declared.view.Stage.{Stage}
use Rattle.bw_step.specs.declared.view.Stage.TheVariants.{Free, Unposted, Posted, Marked, Merged}

-- the page is one of the row of its level
abbrev pub is_in_row : Stage → Bool
is_in_row Free = false
is_in_row Unposted = true
is_in_row Posted = true
is_in_row Marked = true
is_in_row Merged = false

-- the level above has a term for the page
abbrev pub has_term : Stage → Bool
has_term Free = false
has_term Unposted = false
has_term Posted = true
has_term Marked = true
has_term Merged = true

-- the removal of the page has begun
abbrev pub is_leaving : Stage → Bool
is_leaving Free = false
is_leaving Unposted = false
is_leaving Posted = false
is_leaving Marked = true
is_leaving Merged = true
