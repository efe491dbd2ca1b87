-- The rows of a seeded trace.
use Rattle.std.specs.Prelude.{ℕ, zero, suc, ◌+◌, ◌%◌, ◌==◌, List, [], ◌∷◌, cond, nat_lt}
use Rattle.rand_pcg.specs.Lcg.{Lcg}
use Rattle.rand_core.specs.Pcg32Seed.{pcg32_seed}
use Rattle.rand_pcg.specs.Pcg.{pcg32, pcg32_of_seed}
use Rattle.bw_texts.specs.declared.trace.row.Row.{Row}
use Rattle.bw_procedures.specs.declared.act.Act.{Act}
use Rattle.bw_procedures.specs.declared.act.Act.TheVariants.{Put, Get, Delete}

-- half of the rows are puts, a quarter deletes and a quarter gets
abbrev pub act_drawn : ℕ → ℕ → ℕ → Act
act_drawn draw key number = cond (nat_lt draw 2) (Put key number) (cond (draw == 2) (Delete key) (Get key))

-- the next word of a generator, and the one after it
abbrev pub first_word : Lcg → ℕ
first_word random = (pcg32 random).0

abbrev pub second_word : Lcg → ℕ
second_word random = first_word (pcg32 random).1

-- a generator that has drawn two words
abbrev pub two_words_on : Lcg → Lcg
two_words_on random = (pcg32 (pcg32 random).1).1

-- the row with this number, counted from 0: its op is drawn by one word, and its key by the next
abbrev pub row_drawn : ℕ → ℕ → ℕ → Lcg → Row
row_drawn workers span number random = record {
  worker = number % workers;
  act = act_drawn (first_word random % 4) (second_word random % span) number;
}

-- rows from a number on, two words of the generator each
abbrev pub rows_drawn : ℕ → ℕ → Lcg → ℕ → ℕ → List Row
rows_drawn workers span random number zero = []
rows_drawn workers span random number (suc more) =
    row_drawn workers span number random ∷ rows_drawn workers span (two_words_on random) (number + 1) more

-- the rows that a seed makes
abbrev pub trace_drawn : ℕ → ℕ → ℕ → ℕ → List Row
trace_drawn seed rows workers span = rows_drawn workers span (pcg32_of_seed (pcg32_seed 16 seed)) 0 rows
