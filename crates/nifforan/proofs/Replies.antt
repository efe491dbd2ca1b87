-- What a reply says of the map before a call and after it.
use Rattle.std.proofs.Common.{◌≡◌, ℕ, List, [], ◌∷◌, ◌++◌, Option, Some, None, Result, Ok, Err, refl, ap, sym, subst, ◌∙◌}
use Rattle.std.specs.Prelude.{IfOk, OnErr}
use Rattle.bw_step.specs.declared.receipt.Receipt.{Receipt}
use Rattle.bw_step.specs.declared.receipt.Receipt.TheVariants as receipts
use Rattle.bw_step.specs.Tellings.{Telling, change, look, shape, telling_of, unless_shape, without_shapes}
use Rattle.bw_law.specs.Slots.{SlotValue}
use Rattle.bw_law.specs.Tables.{TableValue, SameMap, IsValueAt, ChangesKey, TellsMap}
use Rattle.bw_procedures.specs.declared.fault.Fault.{Fault}
use Rattle.bw_procedures.specs.declared.reply.Del.{Del}
use Rattle.bw_procedures.specs.declared.reply.Del.TheVariants.{Removed, NoKey}
use Rattle.bw_procedures.specs.declared.reply.Done.{Done}
use Rattle.bw_procedures.specs.declared.reply.Put.{Put}
use Rattle.bw_procedures.specs.declared.reply.Put.TheVariants.{Inserted, Present}
use Rattle.bw_procedures.specs.declared.reply.Set.{Set}
use Rattle.bw_procedures.specs.declared.reply.Set.TheVariants as sets
use Rattle.bw_procedures.specs.Seen.{Seen}
use Rattle.bw_procedures.specs.Writing.{AddsReceipt, IsReceiptOfPut, IsReceiptOfSet, IsReceiptOfDelete}
use Rattle.bw_alone.specs.Leading.{Replays, Leads}
use Rattle.nifforan.specs.Maps.{Changes, before_put, value_after_put, before_set, before_delete}

same_then : (a b c : List SlotValue) → SameMap a b → SameMap b c → SameMap a c
same_then a b c first then = λ key value. ((λ maps. (first key value).0 ((then key value).0 maps)), (λ maps. (then key value).1 ((first key value).1 maps)))

value_before : (a b : List SlotValue) (key : ℕ) (found : Option ℕ) → SameMap a b → IsValueAt b key found → IsValueAt a key found
value_before a b key found same is = λ value. ((λ e. (same key value).0 ((is value).0 e)), (λ maps. (is value).1 ((same key value).1 maps)))

value_after : (a b : List SlotValue) (key : ℕ) (found : Option ℕ) → SameMap a b → IsValueAt a key found → IsValueAt b key found
value_after a b key found same is = λ value. ((λ e. (same key value).1 ((is value).0 e)), (λ maps. (is value).1 ((same key value).0 maps)))

-- the map was the same before what is reported
reported_after : (telling : Telling) (a b c : List SlotValue) → SameMap a b → TellsMap telling b c → TellsMap telling a c
reported_after (change number key before after) a b c same tells = record {
  had = value_before a b key before same tells.had;
  has = tells.has;
  others = λ k value other. (
    (λ maps. (same k value).0 ((tells.others k value other).0 maps)),
    (λ maps. (tells.others k value other).1 ((same k value).1 maps)),
  );
}
reported_after (look at key found) a b c same tells = (value_before a b key found same tells.0, same_then a b c same tells.1)
reported_after shape a b c same tells = same_then a b c same tells

-- the map is the same after what is reported
reported_before : (telling : Telling) (a b c : List SlotValue) → TellsMap telling a b → SameMap b c → TellsMap telling a c
reported_before (change number key before after) a b c tells same = record {
  had = tells.had;
  has = value_after b c key after same tells.has;
  others = λ k value other. (
    (λ maps. (tells.others k value other).0 ((same k value).0 maps)),
    (λ maps. (same k value).1 ((tells.others k value other).1 maps)),
  );
}
reported_before (look at key found) a b c tells same = (tells.0, same_then a b c tells.1 same)
reported_before shape a b c tells same = same_then a b c tells same

not_one : (r : Receipt) (rs : List Receipt) → r ∷ rs ≡ [] → ⊥
not_one r rs bad = cc bad

none_next : (x : Receipt) (telling : Telling) (xs : List Receipt) (a b c : List SlotValue) → TellsMap telling a b → (without_shapes xs ≡ [] → SameMap b c) → unless_shape x telling ++ without_shapes xs ≡ [] → SameMap a c
none_next x (change number key before after) xs a b c tells rest none = absurd (not_one x (without_shapes xs) none)
none_next x (look at key found) xs a b c tells rest none = absurd (not_one x (without_shapes xs) none)
none_next x shape xs a b c tells rest none = same_then a b c tells (rest none)

-- receipts of the tree's shape alone leave the map as it is
none_reported : (rs : List Receipt) (a b : TableValue) → Replays a rs b → without_shapes rs ≡ [] → SameMap a.slots b.slots
none_reported [] a b leads none = subst (λ (t : TableValue). SameMap a.slots t.slots) (sym leads) (λ key value. ((λ maps. maps), (λ maps. maps)))
none_reported (r ∷ rs) a b leads none =
    none_next r (telling_of r) rs a.slots leads.0.slots b.slots leads.1.map (λ more. none_reported rs leads.0 b leads.2 more) none

head_is : (x r : Receipt) (xs : List Receipt) → x ∷ xs ≡ r ∷ [] → x ≡ r
head_is x r xs same = cc same

tail_is : (x r : Receipt) (xs : List Receipt) → x ∷ xs ≡ r ∷ [] → xs ≡ []
tail_is x r xs same = cc same

one_here : (x r : Receipt) (telling : Telling) (xs : List Receipt) (a b c : List SlotValue) → telling_of x ≡ telling → TellsMap telling a b → (without_shapes xs ≡ [] → SameMap b c)
    → x ∷ without_shapes xs ≡ r ∷ [] → TellsMap (telling_of r) a c
one_here x r telling xs a b c is tells none one =
    let reported : TellsMap telling a c = reported_before telling a b c tells (none (tail_is x r (without_shapes xs) one)) in
    subst (λ (q : Receipt). TellsMap (telling_of q) a c) (head_is x r (without_shapes xs) one) (subst (λ t. TellsMap t a c) (sym is) reported)

one_next : (x r : Receipt) (telling : Telling) (xs : List Receipt) (a b c : List SlotValue) → telling_of x ≡ telling → TellsMap telling a b → (without_shapes xs ≡ [] → SameMap b c)
    → (without_shapes xs ≡ r ∷ [] → TellsMap (telling_of r) b c) → unless_shape x telling ++ without_shapes xs ≡ r ∷ [] → TellsMap (telling_of r) a c
one_next x r (change number key before after) xs a b c is tells none rest one = one_here x r (change number key before after) xs a b c is tells none one
one_next x r (look at key found) xs a b c is tells none rest one = one_here x r (look at key found) xs a b c is tells none one
one_next x r shape xs a b c is tells none rest one = reported_after (telling_of r) a b c tells (rest one)

-- where one receipt is not of the tree's shape, the map changed as it reports
pub one_reported : (rs : List Receipt) (r : Receipt) (a b : TableValue) → Replays a rs b → without_shapes rs ≡ r ∷ [] → TellsMap (telling_of r) a.slots b.slots
one_reported [] r a b leads one = absurd (not_one r [] (sym one))
one_reported (x ∷ xs) r a b leads one =
    one_next x r (telling_of x) xs a.slots leads.0.slots b.slots refl leads.1.map (λ more. none_reported xs leads.0 b leads.2 more) (λ more. one_reported xs r leads.0 b leads.2 more) one

-- a trail that was empty has all receipts that were added
pub all_lead : (a b : TableValue) (s t : List Receipt) → s ≡ [] → Leads a s b t → Replays a t b
all_lead a b s t empty leads = subst (λ (l : List Receipt). Replays a l b) (sym (leads.1 ∙ ap (λ (l : List Receipt). l ++ leads.0) empty)) leads.2

-- what is reported of the map is true still where only the tree's shape changed since
pub still_reported : (telling : Telling) (a b c : TableValue) (s t : List Receipt) → TellsMap telling a.slots b.slots → s ≡ [] → Leads b s c t → without_shapes t ≡ without_shapes s → TellsMap telling a.slots c.slots
still_reported telling a b c s t tells empty leads shapes = reported_before telling a.slots b.slots c.slots tells (none_reported t b c (all_lead b c s t empty leads) (shapes ∙ ap without_shapes empty))

-- a look changes the key from what it has to just that
look_changes : (key k : ℕ) (found there : Option ℕ) (a b : List SlotValue) → k ≡ key → found ≡ there → IsValueAt a k found → SameMap a b → ChangesKey a b key there there
look_changes key k found there a b its_key its_value is same =
    subst (λ (q : ℕ). ChangesKey a b q there there) its_key
    (subst (λ (o : Option ℕ). ChangesKey a b k o o) its_value (record { had = is; has = value_after a b k found same is; others = λ other value differs. same other value }))

pub put_changes : (key value : ℕ) (reply : Put) (r : Receipt) (a b : List SlotValue) → IsReceiptOfPut key value reply r → TellsMap (telling_of r) a b → ChangesKey a b key (before_put reply) (Some (value_after_put value reply))
put_changes key value Inserted (receipts.Inserted number k v) a b is tells =
    subst (λ (q : ℕ). ChangesKey a b q None (Some value)) is.0 (subst (λ (w : ℕ). ChangesKey a b k None (Some w)) is.1 tells)
put_changes key value (Present there) (receipts.Looked at k found) a b is tells = look_changes key k found (Some there) a b is.0 is.1 tells.0 tells.1
put_changes key value reply r a b is tells = absurd is

pub set_changes : (key value : ℕ) (reply : Set) (r : Receipt) (a b : List SlotValue) → IsReceiptOfSet key value reply r → TellsMap (telling_of r) a b → ChangesKey a b key (before_set reply) (Some value)
set_changes key value sets.Inserted (receipts.Inserted number k v) a b is tells =
    subst (λ (q : ℕ). ChangesKey a b q None (Some value)) is.0 (subst (λ (w : ℕ). ChangesKey a b k None (Some w)) is.1 tells)
set_changes key value (sets.Replaced there) (receipts.Modified number k old v) a b is tells =
    subst (λ (q : ℕ). ChangesKey a b q (Some there) (Some value)) is.0
    (subst (λ (o : ℕ). ChangesKey a b k (Some o) (Some value)) is.1 (subst (λ (w : ℕ). ChangesKey a b k (Some old) (Some w)) is.2 tells))
set_changes key value reply r a b is tells = absurd is

pub delete_changes : (key : ℕ) (reply : Del) (r : Receipt) (a b : List SlotValue) → IsReceiptOfDelete key reply r → TellsMap (telling_of r) a b → ChangesKey a b key (before_delete reply) None
delete_changes key (Removed value) (receipts.Deleted number k v) a b is tells =
    subst (λ (q : ℕ). ChangesKey a b q (Some value) None) is.0 (subst (λ (w : ℕ). ChangesKey a b k (Some w) None) is.1 tells)
delete_changes key NoKey (receipts.Looked at k found) a b is tells = look_changes key k found None a b is.0 is.1 tells.0 tells.1
delete_changes key reply r a b is tells = absurd is

changes : {T : Type 0} (key : ℕ) (before after : T → Option ℕ) (is_of : T → Receipt → Type 0) (result : Result (Done T) Fault) (old new : Seen) (a b : TableValue)
    → ((reply : T) (r : Receipt) (s t : List SlotValue) → is_of reply r → TellsMap (telling_of r) s t → ChangesKey s t key (before reply) (after reply))
    → old.trail ≡ [] → Leads a old.trail b new.trail → IfOk result (λ done. AddsReceipt is_of done.reply old new) → Changes key before after result a b
changes key before after is_of (Err fault) old new a b tells empty leads adds = tt
changes key before after is_of (Ok done) old new a b tells empty leads adds =
    tells done.reply adds.0 a.slots b.slots adds.2 (one_reported new.trail adds.0 a b (all_lead a b old.trail new.trail empty leads) (adds.1 ∙ ap (λ (l : List Receipt). without_shapes l ++ adds.0 ∷ []) empty))

pub put_is : (key value : ℕ) (result : Result (Done Put) Fault) (old new : Seen) (a b : TableValue) → old.trail ≡ [] → Leads a old.trail b new.trail
    → IfOk result (λ done. AddsReceipt (IsReceiptOfPut key value) done.reply old new) → Changes key before_put (λ reply. Some (value_after_put value reply)) result a b
put_is key value result old new a b empty leads adds = changes key before_put (λ reply. Some (value_after_put value reply)) (IsReceiptOfPut key value) result old new a b (put_changes key value) empty leads adds

pub set_is : (key value : ℕ) (result : Result (Done Set) Fault) (old new : Seen) (a b : TableValue) → old.trail ≡ [] → Leads a old.trail b new.trail
    → IfOk result (λ done. AddsReceipt (IsReceiptOfSet key value) done.reply old new) → Changes key before_set (λ reply. Some value) result a b
set_is key value result old new a b empty leads adds = changes key before_set (λ reply. Some value) (IsReceiptOfSet key value) result old new a b (set_changes key value) empty leads adds

pub delete_is : (key : ℕ) (result : Result (Done Del) Fault) (old new : Seen) (a b : TableValue) → old.trail ≡ [] → Leads a old.trail b new.trail
    → IfOk result (λ done. AddsReceipt (IsReceiptOfDelete key) done.reply old new) → Changes key before_delete (λ reply. None) result a b
delete_is key result old new a b empty leads adds = changes key before_delete (λ reply. None) (IsReceiptOfDelete key) result old new a b (delete_changes key) empty leads adds

-- with a fault in the reply's place the map is as it was
pub fault_keeps : {T : Type 0} (result : Result (Done T) Fault) (old new : Seen) (a b : TableValue) → old.trail ≡ [] → Leads a old.trail b new.trail
    → OnErr result (without_shapes new.trail ≡ without_shapes old.trail) → OnErr result (SameMap a.slots b.slots)
fault_keeps (Ok done) old new a b empty leads none = tt
fault_keeps (Err fault) old new a b empty leads none = none_reported new.trail a b (all_lead a b old.trail new.trail empty leads) (none ∙ ap without_shapes empty)
