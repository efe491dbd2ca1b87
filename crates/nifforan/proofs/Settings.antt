-- What is said of the configuration of a new map's table is said of the map's.
use Rattle.std.proofs.Common.{◌≡◌, ℕ, ◌≤◌, None, refl, sym, ◌∙◌, ap, subst, arith}
use Rattle.std.specs.Prelude.{Result, Ok, Err, IfErr, IsErrAnd}
use Rattle.std.proofs.lemmas.Bool.Decides.{nat_tests}
use Rattle.bw_keys.specs.declared.config.Config.{Config}
use Rattle.bw_keys.specs.Limits.{is_out_of, first_bad_field}
use Rattle.bw_law.specs.declared.pages.TheConstants.{MAX_PAGES}
use Rattle.bw_table.specs.Answers.{IsNewFault}
use Rattle.bw_table.specs.declared.fault.NewFault.{NewFault}
use Rattle.bw_table.specs.declared.fault.NewFault.TheVariants.{BadConfig, NoMemory}
use Rattle.nifforan.specs.Settings.{first_bad_setting, first_pages, IsMapFault}

-- where the table of a new map has as many pages as a table needs, it has 8, and the map may have as many as are asked for
pub begins_with_8 : (most : ℕ) → 8 ≤ first_pages most → (first_pages most ≡ 8) × (8 ≤ most) × (most ≤ MAX_PAGES)
begins_with_8 most some = grind (arith, nat_tests)

-- the first bad field of a map's configuration is that of the table's with which the map begins
first_is_bad_too : (config : Config) → first_bad_field (record config { pages = first_pages config.pages }) ≡ first_bad_setting config
first_is_bad_too config =
    let same : is_out_of 8 65536 (first_pages config.pages) ≡ is_out_of 8 MAX_PAGES config.pages = grind (arith, nat_tests) in
    rw same refl

-- so what comes of the table's configuration comes of the map's
module _ (config : Config) (pages : ℕ) (is : pages ≡ first_pages config.pages) where
  abbrev first : Config
  first = record config { pages = pages }

  same_bad : first_bad_setting config ≡ first_bad_field first
  same_bad = sym (first_is_bad_too config) ∙ ap (λ n. first_bad_field (record config { pages = n })) (sym is)

  pub no_bad_setting : first_bad_field first ≡ None → first_bad_setting config ≡ None
  no_bad_setting fine = same_bad ∙ fine

  map_fault : (fault : NewFault) → IsNewFault first fault → IsMapFault config fault
  map_fault (BadConfig bad) reported = same_bad ∙ reported
  map_fault NoMemory reported = same_bad ∙ reported

  pub fault_passed_on : {T : Type 0} (result : Result T NewFault) (fault : NewFault) → IsErrAnd result (λ it. it ≡ fault) → IsNewFault first fault → IfErr result (IsMapFault config)
  fault_passed_on (Ok made) fault is_it reported = absurd is_it
  fault_passed_on (Err it) fault is_it reported = subst (IsMapFault config) (sym is_it) (map_fault fault reported)
