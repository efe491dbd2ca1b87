-- What one more mark and its words tell.
use Rattle.std.proofs.Common.{◌≡◌, ℕ, ◌+◌, ◌-◌, List, [], ◌∷◌, ◌++◌, reverse, length, true, false, Some, None, sym, ap, ◌∙◌, append-nil, arith}
use Rattle.std.proofs.lemmas.List.{reverse-append}
use Rattle.bw_keys.specs.declared.page.Pid.{Pid}
use Rattle.bw_step.specs.declared.receipt.Kind.TheVariants as kinds
use Rattle.bw_step.specs.declared.receipt.Receipt.{Receipt}
use Rattle.bw_step.specs.declared.receipt.Receipt.TheVariants as receipts
use Rattle.bw_procedures.specs.declared.packed.Form.{Form}
use Rattle.bw_procedures.specs.declared.packed.Form.TheVariants.{Inserted, Deleted, Modified, Found, Missed, Whole}
use Rattle.bw_procedures.specs.declared.packed.Mark.{Mark}
use Rattle.bw_procedures.specs.Packed.{told, latest, receipt_by, IsPair}

pub reverse_last : {A : Type 0} (xs : List A) (x : A) → reverse (xs ++ x ∷ []) ≡ x ∷ reverse xs
reverse_last xs x = reverse-append xs (x ∷ [])

pub reverse_first : {A : Type 0} (x : A) (xs : List A) → reverse (x ∷ xs) ≡ reverse xs ++ x ∷ []
reverse_first x xs = reverse-append (x ∷ []) xs

abbrev pub mark_of : Form → ℕ → Pid → Mark
mark_of form step page = record { form = form; is_consolidated = false; step = step; page = page }

less_step : (before step number : ℕ) → number ≡ before + step → number - step ≡ before
less_step before step number rises = omega arith

pub miss_told : (number before step key : ℕ) (page : Pid) (marks : List Mark) (words : List ℕ) (wholes : List Receipt)
    → number ≡ before + step
    → told number (marks ++ mark_of Missed step page ∷ []) (words ++ key ∷ []) wholes
    ≡ told before marks words wholes ++ receipts.Looked number key None ∷ []
unfolding told
miss_told number before step key page marks words wholes rises =
    rw (reverse_last marks (mark_of Missed step page)) (rw (reverse_last words key) (rw (less_step before step number rises)
    (reverse_first (receipts.Looked number key None) (latest before (reverse marks) (reverse words) (reverse wholes)))))

pub pair_told : (form : Form) (number before step key value : ℕ) (page : Pid) (marks : List Mark) (words : List ℕ) (wholes : List Receipt)
    → IsPair form → number ≡ before + step
    → told number (marks ++ mark_of form step page ∷ []) ((words ++ key ∷ []) ++ value ∷ []) wholes
    ≡ told before marks words wholes ++ receipt_by form number (value ∷ key ∷ []) []
unfolding told
pair_told Inserted number before step key value page marks words wholes is rises =
    rw (reverse_last marks (mark_of Inserted step page)) (rw (reverse_last (words ++ key ∷ []) value)
    (rw (reverse_last words key) (rw (less_step before step number rises)
    (reverse_first (receipts.Inserted number key value) (latest before (reverse marks) (reverse words) (reverse wholes))))))
pair_told Deleted number before step key value page marks words wholes is rises =
    rw (reverse_last marks (mark_of Deleted step page)) (rw (reverse_last (words ++ key ∷ []) value)
    (rw (reverse_last words key) (rw (less_step before step number rises)
    (reverse_first (receipts.Deleted number key value) (latest before (reverse marks) (reverse words) (reverse wholes))))))
pair_told Found number before step key value page marks words wholes is rises =
    rw (reverse_last marks (mark_of Found step page)) (rw (reverse_last (words ++ key ∷ []) value)
    (rw (reverse_last words key) (rw (less_step before step number rises)
    (reverse_first (receipts.Looked number key (Some value)) (latest before (reverse marks) (reverse words) (reverse wholes))))))
pair_told Modified number before step key value page marks words wholes is rises = elim is [ ]
pair_told Missed number before step key value page marks words wholes is rises = elim is [ ]
pair_told Whole number before step key value page marks words wholes is rises = elim is [ ]

pub modified_told : (number before step key old value : ℕ) (page : Pid) (marks : List Mark) (words : List ℕ) (wholes : List Receipt)
    → number ≡ before + step
    → told number (marks ++ mark_of Modified step page ∷ []) (((words ++ key ∷ []) ++ old ∷ []) ++ value ∷ []) wholes
    ≡ told before marks words wholes ++ receipts.Modified number key old value ∷ []
unfolding told
modified_told number before step key old value page marks words wholes rises =
    rw (reverse_last marks (mark_of Modified step page)) (rw (reverse_last ((words ++ key ∷ []) ++ old ∷ []) value)
    (rw (reverse_last (words ++ key ∷ []) old) (rw (reverse_last words key) (rw (less_step before step number rises)
    (reverse_first (receipts.Modified number key old value) (latest before (reverse marks) (reverse words) (reverse wholes)))))))

pub whole_told : (number before step : ℕ) (page : Pid) (marks : List Mark) (words : List ℕ) (wholes : List Receipt) (receipt : Receipt)
    → told number (marks ++ mark_of Whole step page ∷ []) (words ++ before ∷ []) (wholes ++ receipt ∷ [])
    ≡ told before marks words wholes ++ receipt ∷ []
unfolding told
whole_told number before step page marks words wholes receipt =
    rw (reverse_last marks (mark_of Whole step page)) (rw (reverse_last words before) (rw (reverse_last wholes receipt)
    (reverse_first receipt (latest before (reverse marks) (reverse words) (reverse wholes)))))

pub consolidation_told : (number : ℕ) (form : Form) (step : ℕ) (before page : Pid) (marks : List Mark)
    (words : List ℕ) (wholes : List Receipt)
    → told number (marks ++ record { form = form; is_consolidated = true; step = step; page = page } ∷ []) words wholes
    ≡ told number (marks ++ mark_of form step before ∷ []) words wholes ++ receipts.Shaped kinds.Consolidate page None ∷ []
unfolding told
consolidation_told number form step before page marks words wholes =
    rw (reverse_last marks (record { form = form; is_consolidated = true; step = step; page = page }))
    (rw (reverse_last marks (mark_of form step before))
    (reverse_first (receipts.Shaped kinds.Consolidate page None)
    (latest number (mark_of form step before ∷ reverse marks) (reverse words) (reverse wholes))))

pub all_read : (read : List Receipt) (number : ℕ) (marks : List Mark) (words : List ℕ) (wholes all : List Receipt) → length marks ≡ 0
    → read ++ latest number (reverse marks) words wholes ≡ all → reverse read ≡ reverse all
all_read read number [] words wholes all none is = ap reverse (sym (append-nil read) ∙ is)
all_read read number (mark ∷ marks) words wholes all none is = absurd (omega arith)
