-- The map as its callers see it, and what a call makes of it.
use Rattle.std.specs.Prelude.{◌≡◌, ℕ, ◌+◌, ◌-◌, ◌≤◌, Result, IfOk, ◌==◌, ◌&&◌, not, Bool, nat_le, nat_lt, List, [], ◌∷◌, Option, Some, None, filter, length, refl}
use Rattle.std.specs.Coded.{Coded, code_by, coded×, coded_ℕ, coded_list}
use Rattle.std.specs.Cmp.Lexicographic.{pointwise}
use Rattle.std.specs.Range.Bound.{start_index, end_index}
use Rattle.std.specs.declared.ops.Bound.{Bound}
use Rattle.bw_keys.specs.Ranges.{key_count}
use Rattle.bw_keys.specs.declared.config.Config.{Config}
use Rattle.bw_keys.specs.contracts.config.Config as config
use Rattle.bw_delta.specs.Entries.{put}
use Rattle.bw_step.specs.declared.receipt.Receipt.{Receipt}
use Rattle.bw_law.specs.declared.pages.TheConstants.{MAX_PAGES}
use Rattle.bw_law.specs.Slots.{SlotValue}
use Rattle.bw_law.specs.Tables.{TableValue, Lawful, Booked, ChangesKey, leaf_pairs}
use Rattle.bw_table.specs.Codes.{table_code}
use Rattle.bw_procedures.specs.declared.fault.Fault.{Fault}
use Rattle.bw_procedures.specs.declared.reply.Done.{Done}
use Rattle.bw_procedures.specs.declared.reply.Del.{Del}
use Rattle.bw_procedures.specs.declared.reply.Del.TheVariants.{Removed, NoKey}
use Rattle.bw_procedures.specs.declared.reply.Put.{Put}
use Rattle.bw_procedures.specs.declared.reply.Put.TheVariants.{Inserted, Present}
use Rattle.bw_procedures.specs.declared.reply.Set.{Set}
use Rattle.bw_procedures.specs.declared.reply.Set.TheVariants as sets

abbrev pub PairList : Type 0
PairList = List (ℕ × ℕ)

-- a map: its configuration, which has the most pages that it may have, its pairs in the
-- order of their keys, how many pages it has memory for, how many pages more it has room for, and
-- its table
pub record MapValue : Type 0 where
  pub config : Config
  pub pairs : PairList
  pub pages : ℕ
  pub free : ℕ
  pub table : TableValue

abbrev pub map_code : Coded MapValue
map_code =
    code_by (Config × (PairList × (ℕ × (ℕ × TableValue))))
    (coded× config.the_row.coded
    (coded× (coded_list (coded× coded_ℕ coded_ℕ)) (coded× coded_ℕ (coded× coded_ℕ table_code))))
    (λ m. (m.config, (m.pairs, (m.pages, (m.free, m.table)))))
    (λ p. record {
      config = p.0;
      pairs = p.1.0;
      pages = p.1.1.0;
      free = p.1.1.1.0;
      table = p.1.1.1.1;
    })
    (λ _. refl)

-- pairs put into a list, each at its place
abbrev pub put_all : PairList → PairList → PairList
put_all [] es = es
put_all (pair ∷ pairs) es = put pair.0 pair.1 (put_all pairs es)

-- the pairs of all leaves, in the order of their keys
abbrev pub pairs_of : List SlotValue → PairList
pairs_of [] = []
pairs_of (slot ∷ slots) = put_all (leaf_pairs slot) (pairs_of slots)

-- the map that a table has
abbrev pub map_of : TableValue → MapValue
map_of table =
    record {
      config = table.config;
      pairs = pairs_of table.slots;
      pages = table.config.pages;
      free = length table.free;
      table = table;
    }

-- the map that it is, where it may come to have that many pages
abbrev pub map_upto : ℕ → TableValue → MapValue
map_upto most table = record {
  config = record table.config { pages = most };
  pairs = pairs_of table.slots;
  pages = table.config.pages;
  free = (most - table.config.pages) + length table.free;
  table = table;
}

-- the table is lawful and booked, and its worker has no receipts
pub record IsReady (table : TableValue) (trail : List Receipt) : Type 0 where
  pub lawful : Lawful table
  pub booked : Booked table
  pub no_receipts : trail ≡ []

-- the same, and the table has no more pages than it may come to have
pub record IsReadyUpto (most : ℕ) (table : TableValue) (trail : List Receipt) : Type 0 where
  pub lawful : Lawful table
  pub booked : Booked table
  pub no_receipts : trail ≡ []
  pub pages : table.config.pages ≤ most
  pub few : most ≤ MAX_PAGES

-- the key lies from the low on and below the end
abbrev pub is_inside : ℕ → ℕ → ℕ × ℕ → Bool
is_inside low end pair = nat_le low pair.0 && nat_lt pair.0 end

-- the pairs with keys from the low on and below the end, and the others
abbrev pub within : ℕ → ℕ → PairList → PairList
within low end pairs = filter (is_inside low end) pairs

abbrev pub outside : ℕ → ℕ → PairList → PairList
outside low end pairs = filter (λ pair. not (is_inside low end pair)) pairs

-- the pairs with keys between two bounds, each of which is in, or out, or none
abbrev pub between : Bound ℕ → Bound ℕ → PairList → PairList
between start end pairs = within (start_index start) (end_index end key_count) pairs

-- the pairs are the same
abbrev pub are_same : PairList → PairList → Bool
are_same pairs others = pointwise (λ p q. p.0 == q.0 && p.1 == q.1) pairs others

-- the value that the key had, by the reply
abbrev pub before_put : Put → Option ℕ
before_put Inserted = None
before_put (Present there) = Some there

abbrev pub before_set : Set → Option ℕ
before_set sets.Inserted = None
before_set (sets.Replaced there) = Some there

abbrev pub before_delete : Del → Option ℕ
before_delete (Removed value) = Some value
before_delete NoKey = None

-- the value that the key has after a put: one that was there stays
abbrev pub value_after_put : ℕ → Put → ℕ
value_after_put value Inserted = value
value_after_put value (Present there) = there

-- with a reply the key changed by it: from the value before it to the one after
abbrev pub Changes : {T : Type 0} → ℕ → (T → Option ℕ) → (T → Option ℕ) → Result (Done T) Fault
    → TableValue → TableValue → Type 0
Changes key before after result old new =
    IfOk result (λ done. ChangesKey old.slots new.slots key (before done.reply) (after done.reply))
