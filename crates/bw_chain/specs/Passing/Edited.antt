-- Entries under the newest record for each key. An edit says what the key has, or that it has nothing.
use Rattle.std.specs.Prelude.{◌≡◌, ℕ, ◌+◌, Bool, true, ◌&&◌, if◌then◌else◌, ◌==◌, nat_lt, nat_le, List, [], ◌∷◌, Option, Some, None}
use Rattle.bw_keys.specs.Ranges.{key_count}
use Rattle.bw_delta.specs.Entries.{put, without, below, from}
use Rattle.bw_chain.specs.Ascends.{IsAscending}
use Rattle.bw_chain.specs.declared.entries.change.Change.{Change}
use Rattle.bw_chain.specs.declared.entries.change.Change.TheVariants.{Put, Without, Below, Nothing}

-- what a change says of one key, if it does of no more than one
abbrev pub edit_of : {X : Type 0} → Change X → Option (ℕ × Option X)
edit_of (Put key x) = Some (key, Some x)
edit_of (Without key) = Some (key, None)
edit_of (Below bound) = None
edit_of Nothing = None

-- the entries with one edit
abbrev pub edited_at : {X : Type 0} → ℕ → Option X → List (ℕ × X) → List (ℕ × X)
edited_at key (Some x) es = put key x es
edited_at key None es = without key es

-- what an edit puts at its key, if it does
abbrev pub entry_of : {X : Type 0} → ℕ → Option X → List (ℕ × X)
entry_of key (Some x) = (key, x) ∷ []
entry_of key None = []

-- the entries with all edits
abbrev pub edited : {X : Type 0} → List (ℕ × Option X) → List (ℕ × X) → List (ℕ × X)
edited [] es = es
edited (edit ∷ edits) es = edited_at edit.0 edit.1 (edited edits es)

-- the entries below the end with the edits there
abbrev pub edited_below : {X : Type 0} → ℕ → List (ℕ × Option X) → List (ℕ × X) → List (ℕ × X)
edited_below end edits es = edited (below end edits) (below end es)

-- a change is noted below the end: there the new edits make of ascending entries what the old ones make of the changed entries
abbrev pub NotesBelow : {X : Type 0} → ℕ → (List (ℕ × X) → List (ℕ × X)) → List (ℕ × Option X) → List (ℕ × Option X) → Type 0
NotesBelow {X} end change old new = (es : List (ℕ × X)) → IsAscending es → edited_below end new es ≡ edited_below end old (change es)

-- the edits from the end on are kept
abbrev pub KeepsFrom : {X : Type 0} → ℕ → List (ℕ × Option X) → List (ℕ × Option X) → Type 0
KeepsFrom end old new = from end new ≡ from end old

-- the keys fall strictly, from below the end down to the low
abbrev pub falls : {X : Type 0} → ℕ → ℕ → List (ℕ × X) → Bool
falls low end [] = true
falls low end (e ∷ es) = nat_le low e.0 && nat_lt e.0 end && falls low e.0 es

-- the greatest key comes first
abbrev pub IsFalling : {X : Type 0} → List (ℕ × X) → Type 0
IsFalling es = falls 0 key_count es ≡ true

-- falling entries with one more in its place, unless its key is there
abbrev pub noted : {X : Type 0} → ℕ → X → List (ℕ × X) → List (ℕ × X)
noted key x [] = (key, x) ∷ []
noted key x (e ∷ es) = if nat_lt key e.0 then e ∷ noted key x es else (if e.0 == key then e ∷ es else (key, x) ∷ e ∷ es)

-- 1 for an edit that puts an entry
abbrev pub puts : {X : Type 0} → Option X → ℕ
puts (Some x) = 1
puts None = 0

-- how many of the edits put an entry
abbrev pub put_count : {X : Type 0} → List (ℕ × Option X) → ℕ
put_count [] = 0
put_count (edit ∷ edits) = put_count edits + puts edit.1
