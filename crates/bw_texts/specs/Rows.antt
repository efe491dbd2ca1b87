-- How a record of a trace reads.
use Rattle.std.specs.Prelude.{ℕ, ◌==◌, cond, List, [], length, codes, Option, Some, None, Result, Ok, Err, ok_or, option_map, slice_index_or}
use Rattle.bw_keys.specs.declared.range.Fence.{Fence}
use Rattle.bw_keys.specs.declared.range.Fence.TheVariants as fences
use Rattle.bw_texts.specs.declared.trace.row.Row.{Row}
use Rattle.bw_procedures.specs.declared.act.Act.{Act}
use Rattle.bw_procedures.specs.declared.act.Act.TheVariants.{Put, Set, Get, Delete, Clear}
use Rattle.bw_texts.specs.declared.trace.act.Op.{Op}
use Rattle.bw_texts.specs.declared.trace.act.Op.TheVariants as ops
use Rattle.bw_texts.specs.declared.part.Part.{Part}
use Rattle.bw_texts.specs.declared.part.Part.TheVariants as part
use Rattle.bw_texts.specs.Numbers.{number_of, worker_of, is_text}

-- what a part is called
abbrev pub part_text : Part → List ℕ
part_text part.Fields = codes "fields"
part_text part.Worker = codes "worker"
part_text part.Op = codes "op"
part_text part.Key = codes "key"
part_text part.Value = codes "value"
part_text part.Old = codes "old"

-- what can be read is read on, and the first part that can't is the answer
infixl 10 ◌>>=◌
abbrev pub ◌>>=◌ : {A B : Type 0} → Result A Part → (A → Result B Part) → Result B Part
Ok a >>= next = next a
Err faulty >>= next = Err faulty

abbrev pub op_of : List ℕ → Option Op
op_of text =
    cond (is_text text (codes "put")) (Some ops.Put)
    (cond (is_text text (codes "set")) (Some ops.Set)
    (cond (is_text text (codes "get")) (Some ops.Get)
    (cond (is_text text (codes "del")) (Some ops.Delete)
    (cond (is_text text (codes "clr")) (Some ops.Clear) None))))

abbrev pub put_of : ℕ → Option ℕ → Option Act
put_of key value = option_map (λ v. Put key v) value

abbrev pub set_of : ℕ → Option ℕ → Option Act
set_of key value = option_map (λ v. Set key v) value

-- a number is the key before which a range ends, and nothing stands for Top
abbrev pub fence_of : List ℕ → Option Fence
fence_of text = cond (length text == 0) (Some fences.Top) (option_map (λ high. fences.Key high) (number_of text))

abbrev pub clear_of : ℕ → Option Fence → Option Act
clear_of low high = option_map (λ h. Clear low h) high

-- a put or a set has a value, which is a number, a get or a delete none; a removal of a range has its low for a key and its high for a value
abbrev pub act_of : Op → ℕ → List ℕ → Option Act
act_of ops.Put key value = put_of key (number_of value)
act_of ops.Set key value = set_of key (number_of value)
act_of ops.Get key value = cond (length value == 0) (Some (Get key)) None
act_of ops.Delete key value = cond (length value == 0) (Some (Delete key)) None
act_of ops.Clear key value = clear_of key (fence_of value)

-- four fields, tried in their order
abbrev pub row_of_fields : ℕ → List ℕ → List ℕ → List ℕ → List ℕ → Result Row Part
row_of_fields workers first op key value = do
  worker ← ok_or (worker_of workers first) part.Worker
  op ← ok_or (op_of op) part.Op
  key ← ok_or (number_of key) part.Key
  act ← ok_or (act_of op key value) part.Value
  Ok (record { worker = worker; act = act })

-- the row of a record, or its first faulty part
abbrev pub row_of : ℕ → List (List ℕ) → Result Row Part
row_of workers fields =
    cond (length fields == 4)
    (row_of_fields workers (slice_index_or fields 0 []) (slice_index_or fields 1 []) (slice_index_or fields 2 []) (slice_index_or fields 3 []))
    (Err part.Fields)
