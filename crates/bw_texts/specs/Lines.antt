-- How a record of a history reads.
use Rattle.std.specs.Prelude.{ℕ, ◌==◌, not, cond, Bool, true, List, [], ◌∷◌, length, codes, max, ◌+◌, Option, Some, None, Result, Ok, Err, ok_or, option_map, slice_index_or, is_some, nat_lt}
use Rattle.std.specs.Option.{option_eq}
use Rattle.std.specs.Bool.{nat_eq}
use Rattle.bw_delta.specs.Entries.{last_entry}
use Rattle.bw_step.specs.declared.receipt.Receipt.{Receipt}
use Rattle.bw_step.specs.declared.receipt.Receipt.TheVariants.{Inserted, Deleted, Modified, Looked}
use Rattle.bw_texts.specs.declared.history.line.Line.{Line}
use Rattle.bw_texts.specs.declared.history.line.Line.TheVariants.{Reply, Pair}
use Rattle.bw_texts.specs.declared.history.line.Form.{Form}
use Rattle.bw_texts.specs.declared.history.line.Form.TheVariants as form
use Rattle.bw_texts.specs.declared.part.Part.{Part}
use Rattle.bw_texts.specs.declared.part.Part.TheVariants as part
use Rattle.bw_texts.specs.Numbers.{number_of, worker_of, is_text}
use Rattle.bw_texts.specs.Rows.{◌>>=◌}

abbrev pub form_of : List ℕ → Option Form
form_of text =
    cond (is_text text (codes "ins")) (Some form.Inserted)
    (cond (is_text text (codes "del")) (Some form.Deleted)
    (cond (is_text text (codes "mod")) (Some form.Modified)
    (cond (is_text text (codes "hit")) (Some form.Found)
    (cond (is_text text (codes "none")) (Some form.Missing) None))))

-- a modification has the value that the key has, and then the one that it had
abbrev pub modified_read : ℕ → ℕ → List ℕ → List ℕ → Result Receipt Part
modified_read number key value old = do
  value ← ok_or (number_of value) part.Value
  old ← ok_or (number_of old) part.Old
  Ok (Modified number key old value)

-- all but a look that found nothing have a value
abbrev pub receipt_read : Form → ℕ → ℕ → List ℕ → List ℕ → Result Receipt Part
receipt_read form.Inserted at key value old = ok_or (option_map (λ v. Inserted at key v) (number_of value)) part.Value
receipt_read form.Deleted at key value old = ok_or (option_map (λ v. Deleted at key v) (number_of value)) part.Value
receipt_read form.Modified at key value old = modified_read at key value old
receipt_read form.Found at key value old = ok_or (option_map (λ v. Looked at key (Some v)) (number_of value)) part.Value
receipt_read form.Missing at key value old = ok_or (cond (length value == 0) (Some (Looked at key None)) None) part.Value

-- a test that is passed, or the part that it is of
abbrev pub check : Bool → Part → Result Bool Part
check passed faulty = cond passed (Ok true) (Err faulty)

-- a worker's row, of which none stands after an `end` row
abbrev pub reply_line : Option ℕ → List ℕ → List ℕ → List ℕ → List ℕ → List ℕ → List ℕ → Result Line Part
reply_line last first op at key value old = do
  passed ← check (not (is_some last)) part.Worker
  worker ← ok_or (worker_of 64 first) part.Worker
  form ← ok_or (form_of op) part.Op
  at ← ok_or (number_of at) part.Key
  key ← ok_or (number_of key) part.Key
  receipt ← receipt_read form at key value old
  Ok (Reply worker receipt)

-- a key above that of the `end` row before it
abbrev pub is_above : Option ℕ → ℕ → Bool
is_above None key = true
is_above (Some last) key = nat_lt last key

-- an `end` row, which has a pair of the final map
abbrev pub pair_line : Option ℕ → List ℕ → List ℕ → List ℕ → List ℕ → Result Line Part
pair_line last op zero key value = do
  passed ← check (is_text op (codes "pair")) part.Op
  passed ← check (option_eq nat_eq (number_of zero) (Some 0)) part.Key
  key ← ok_or (number_of key) part.Key
  passed ← check (is_above last key) part.Key
  value ← ok_or (number_of value) part.Value
  Ok (Pair key value)

abbrev pub line_of_fields : Option ℕ → List ℕ → List ℕ → List ℕ → List ℕ → List ℕ → List ℕ → Result Line Part
line_of_fields last first op at key value old =
    cond (is_text first (codes "end")) (pair_line last op at key value) (reply_line last first op at key value old)

-- a row of a modification has a field more than the others
abbrev pub field_count : List ℕ → ℕ
field_count op = cond (is_text op (codes "mod")) 6 5

-- the row of a record after an `end` row with this key, if there is one, or its first faulty part
abbrev pub line_of : Option ℕ → List (List ℕ) → Result Line Part
line_of last fields =
    cond (length fields == field_count (slice_index_or fields 1 []))
    (line_of_fields last (slice_index_or fields 0 []) (slice_index_or fields 1 []) (slice_index_or fields 2 []) (slice_index_or fields 3 []) (slice_index_or fields 4 []) (slice_index_or fields 5 []))
    (Err part.Fields)

-- the pairs of the final map
abbrev pub pairs_of : List Line → List (ℕ × ℕ)
pairs_of [] = []
pairs_of (Reply worker receipt ∷ lines) = pairs_of lines
pairs_of (Pair key value ∷ lines) = (key, value) ∷ pairs_of lines

abbrev pub last_key : List (ℕ × ℕ) → Option ℕ
last_key pairs = option_map (λ pair. pair.0) (last_entry pairs)

-- the receipts of a worker, in the order of their rows
abbrev pub trail_of : ℕ → List Line → List Receipt
trail_of worker [] = []
trail_of worker (Reply named receipt ∷ lines) = cond (named == worker) (receipt ∷ trail_of worker lines) (trail_of worker lines)
trail_of worker (Pair key value ∷ lines) = trail_of worker lines

-- one more than the greatest worker named
abbrev pub workers_named : List Line → ℕ
workers_named [] = 0
workers_named (Reply worker receipt ∷ lines) = max (worker + 1) (workers_named lines)
workers_named (Pair key value ∷ lines) = workers_named lines

-- a row of a history reads after the pairs of the `end` rows before it
abbrev pub history_line : List Line → List (List ℕ) → Result Line Part
history_line before fields = line_of (last_key (pairs_of before)) fields
