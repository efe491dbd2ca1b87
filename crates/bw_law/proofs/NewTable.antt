-- The new table is lawful, booked and empty.
use Rattle.std.proofs.Common.{◌≡◌, ℕ, zero, suc, ◌-◌, ◌<◌, ◌≤◌, ◌^◌, true, List, [], ◌∷◌, length, Some, None, refl, sym, ◌∙◌, ap, ⊎_elim, arith}
use Rattle.std.specs.Prelude.{replicate, sum_by, option_map}
use Rattle.std.proofs.lemmas.List.{length-replicate}
use Rattle.std.proofs.lemmas.List.Sums.{sum_by-cons}
use Rattle.std.proofs.lemmas.Bool.Decides.{nat_tests}
use Rattle.bw_keys.specs.declared.config.Config.{Config}
use Rattle.bw_keys.specs.declared.config.Field.TheVariants.{Fanout, Chain, Pages, Tries}
use Rattle.bw_keys.specs.Limits.{is_out_of, first_bad_field}
use Rattle.bw_keys.specs.Reasons.{when}
use Rattle.bw_keys.specs.Ranges.{key_count, end_of}
use Rattle.bw_delta.specs.Entries.{at}
use Rattle.bw_delta.specs.Records.{bare}
use Rattle.bw_step.specs.declared.view.Stage.TheVariants.{Free}
use Rattle.bw_step.specs.Stages.{is_in_row, is_leaving}
use Rattle.bw_law.specs.Slots.{SlotValue, free_slot, slot_in, empty_page, routes_in}
use Rattle.bw_law.specs.Rows.{Rows}
use Rattle.bw_law.specs.Walks.{IsAmong, RepeatsNone}
use Rattle.bw_law.specs.Tables.{id_of, outlines, first_slot, ids_down, new_table, Pages as AllPages, MergedPages, leaf_pairs}
use Rattle.bw_law.specs.Laws.{IsEmptyTable, NewLaw}
use Rattle.bw_law.proofs.Accepted.{all_none}

-- every slot of those that stand free is the free one
each_free : (n version x : ℕ) → (slot_in (replicate n (free_slot version)) x).stage ≡ Free
each_free zero version x = refl
each_free (suc n) version zero = refl
each_free (suc n) version (suc x) = each_free n version x

-- each of them has the first version
each_version : (n version x : ℕ) → version < 2 ^ 64 → (slot_in (replicate n (free_slot version)) x).version < 2 ^ 64
each_version zero version x less = omega arith
each_version (suc n) version zero less = less
each_version (suc n) version (suc x) less = each_version n version x less

-- none of them has pairs
no_share : (n version x : ℕ) → leaf_pairs (slot_in (replicate n (free_slot version)) x) ≡ []
no_share zero version x = refl
no_share (suc n) version zero = refl
no_share (suc n) version (suc x) = no_share n version x

-- nor have they all together
no_sum : (n version : ℕ) → sum_by (λ slot. length (leaf_pairs slot)) (replicate n (free_slot version)) ≡ 0
no_sum zero version = refl
no_sum (suc n) version = omega (arith, no_sum n version, sum_by-cons (λ slot. length (leaf_pairs slot)) (free_slot version) (replicate n (free_slot version)))

-- the free ids are those from 1 on
pub among_down : (n x : ℕ) → IsAmong (ids_down n) x → (0 < x) × (x < n)
among_down zero x among = absurd among
among_down (suc zero) x among = absurd among
among_down (suc (suc n)) x among = ⊎_elim
    (λ (is : x ≡ suc n). (omega arith, omega arith))
    (λ (later : IsAmong (ids_down (suc n)) x). let ih = among_down (suc n) x later in (ih.0, omega (arith, ih.1)))
    among

-- each once
down_repeats_none : (n : ℕ) → RepeatsNone (ids_down n)
down_repeats_none zero = tt
down_repeats_none (suc zero) = tt
down_repeats_none (suc (suc n)) = ((λ among. let inside = among_down (suc n) (suc n) among in omega (arith, inside.1)), down_repeats_none (suc n))

-- a good configuration has some pages, and fewer than there may come to be
pub good_pages : (config : Config) → first_bad_field config ≡ None → (8 ≤ config.pages) × (config.pages ≤ 65536)
good_pages config good =
    let (fanout, (chain, (pages, (tries, _)))) = all_none (when (is_out_of 4 64 config.fanout) Fanout ∷ when (is_out_of 1 32 config.chain) Chain ∷ when (is_out_of 8 65536 config.pages) Pages ∷ when (is_out_of 1 1000 config.tries) Tries ∷ []) good in
    (grind (arith, nat_tests), grind (arith, nat_tests))

module _ (config : Config) (good : first_bad_field config ≡ None) (version : config.first_version < 2 ^ 64) where
  abbrev spare : ℕ
  spare = config.pages - 1

  abbrev slots : List SlotValue
  slots = first_slot config.first_version ∷ replicate spare (free_slot config.first_version)

  others_free : (x : ℕ) → 0 < x → (slot_in slots x).stage ≡ Free
  others_free zero past = absurd (omega arith)
  others_free (suc x) past = each_free spare config.first_version x

  only_first : (x : ℕ) → is_in_row (slot_in slots x).stage ≡ true → x ≡ 0
  only_first zero in_row = refl
  only_first (suc x) in_row = absurd (cc (ap is_in_row (each_free spare config.first_version x), in_row))

  none_leaves : (x : ℕ) → is_leaving (slot_in slots x).stage ≡ true → ⊥
  none_leaves zero leaving = cc
  none_leaves (suc x) leaving = cc (ap is_leaving (each_free spare config.first_version x), leaving)

  is_first : (x : ℕ) → is_in_row (slot_in slots x).stage ≡ true → slot_in slots x ≡ first_slot config.first_version
  is_first x in_row = ap (slot_in slots) (only_first x in_row)

  rows : Rows key_count (outlines slots) 0
  rows = record {
    held = λ level key le lt. (0, refl, omega arith, (omega arith, lt));
    apart = λ p q key a b l h i. only_first p a ∙ sym (only_first q b);
    some_key = λ p a. omega (arith, ap (λ (s : SlotValue). s.low) (is_first p a), ap (λ (s : SlotValue). end_of s.high) (is_first p a));
    within = λ p a. omega (arith, ap (λ (s : SlotValue). end_of s.high) (is_first p a));
    linked = λ p q a r. absurd (cc (ap (λ (s : SlotValue). option_map id_of s.right) (is_first p a), r));
    ends = λ p a r. ap (λ (s : SlotValue). end_of s.high) (is_first p a);
    under_root = λ p a. omega (arith, ap (λ (s : SlotValue). s.level) (is_first p a));
    root_posted = refl;
    root_first = refl;
    others_unposted = λ p a l ne. absurd (ne (only_first p a));
    routed = λ p c key a h r. absurd (cc (ap (λ (s : SlotValue). option_map id_of (at key (routes_in s))) (is_first p a), r));
    termed = λ p c key a h r. absurd (omega (arith, r.above, ap (λ (s : SlotValue). s.level) (is_first p a)));
    own_low = λ p level a l. absurd (omega (arith, l, ap (λ (s : SlotValue). s.level) (is_first p a)));
    leaving_low = λ p c a l e same. none_leaves c l;
    leaving_under = λ c l. absurd (none_leaves c l);
  }

  pages : AllPages slots
  pages zero in_row = (
    bare empty_page,
    record { its_chain = refl; sound = record { built = refl; not_deep = omega arith }; kind = refl; fence = refl; count = refl; depth = refl; not_tall = omega arith },
  )
  pages (suc x) in_row = absurd (cc (ap is_in_row (each_free spare config.first_version x), in_row))

  merged : MergedPages slots
  merged zero is = cc
  merged (suc x) is = cc (each_free spare config.first_version x, is)

  versions : (x : ℕ) → (slot_in slots x).version < 2 ^ 64
  versions zero = version
  versions (suc x) = each_version spare config.first_version x version

  nothing : (key value x : ℕ) → at key (leaf_pairs (slot_in slots x)) ≡ Some value → ⊥
  nothing key value zero found = cc
  nothing key value (suc x) found = cc (ap (at key) (no_share spare config.first_version x), found)

  -- so the new table is lawful, booked and empty
  pub is_empty_table : IsEmptyTable (new_table config)
  is_empty_table = record {
    lawful = record {
      rows = rows;
      pages = pages;
      merged = merged;
      free_list = record {
        once = down_repeats_none config.pages;
        are_free = λ x among.
            let inside = among_down config.pages x among in
            (omega (arith, inside.1, length-replicate {A = SlotValue} spare (free_slot config.first_version)), others_free x inside.0);
      };
      bounds = record {
        versions = versions;
        number = omega arith;
        slots = omega (arith, (good_pages config good).0, length-replicate {A = SlotValue} spare (free_slot config.first_version));
        config = record { made_with = config.pages; good = good; no_fewer = omega arith; few = omega (arith, (good_pages config good).1) };
      };
    };
    booked = omega (arith, no_sum spare config.first_version, sum_by-cons (λ slot. length (leaf_pairs slot)) (first_slot config.first_version) (replicate spare (free_slot config.first_version)));
    no_pairs = λ key value maps. nothing key value maps.0 maps.1;
  }

-- for each good configuration
pub new_law : NewLaw
new_law config good version = is_empty_table config good version
