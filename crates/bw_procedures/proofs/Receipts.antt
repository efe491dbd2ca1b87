-- What one more receipt reports.
use Rattle.std.proofs.Common.{◌≡◌, ℕ, zero, suc, ◌<◌, List, [], ◌∷◌, ◌++◌, length, get_or, Option, Ok, refl, ap, sym, ◌∙◌, append_assoc, append-nil, arith}
use Rattle.bw_step.specs.declared.receipt.Receipt.{Receipt}
use Rattle.bw_step.specs.declared.receipt.Receipt.TheVariants.{Inserted, Deleted, Modified, Looked}
use Rattle.bw_step.specs.Tellings.{Reported, looked, reported_in, without_shapes}
use Rattle.bw_step.proofs.Tellings.{reported_in-append, reported_in-without_shapes}
use Rattle.bw_procedures.specs.declared.reply.Del.{Del}
use Rattle.bw_procedures.specs.declared.reply.Del.TheVariants as dels
use Rattle.bw_procedures.specs.declared.reply.Put.{Put}
use Rattle.bw_procedures.specs.declared.reply.Put.TheVariants as puts
use Rattle.bw_procedures.specs.declared.reply.Set.{Set}
use Rattle.bw_procedures.specs.declared.reply.Set.TheVariants as sets
use Rattle.bw_procedures.specs.Calls.{AddsLook}
use Rattle.bw_procedures.specs.Seen.{Seen}
use Rattle.bw_procedures.specs.Writing.{AddsReceipt, IsReceiptOfPut, IsReceiptOfSet, IsReceiptOfDelete}
use Rattle.bw_procedures.specs.declared.reply.Reply.{Reply}
use Rattle.bw_procedures.specs.declared.act.Act.{Act}
use Rattle.bw_procedures.specs.declared.act.Act.TheVariants as acts
use Rattle.bw_procedures.specs.declared.reply.Reply.TheVariants as replies
use Rattle.bw_procedures.specs.declared.reply.Done.{Done}
use Rattle.bw_procedures.specs.Reported.{GoesWith, AddsReported, GoWith, reported_of_put, reported_of_set, reported_of_delete}

pub none_reported : (old new : List Receipt) → without_shapes new ≡ without_shapes old → reported_in new ≡ reported_in old
none_reported old new same = sym (reported_in-without_shapes new) ∙ (ap reported_in same ∙ reported_in-without_shapes old)

one_reported : (old new : List Receipt) (receipt : Receipt) → without_shapes new ≡ without_shapes old ++ receipt ∷ [] → reported_in new ≡ reported_in old ++ reported_in (receipt ∷ [])
one_reported old new receipt more =
    sym (reported_in-without_shapes new) ∙ (ap reported_in more ∙ (reported_in-append (without_shapes old) (receipt ∷ []) ∙ ap (λ (l : List Reported). l ++ reported_in (receipt ∷ [])) (reported_in-without_shapes old)))

pub adds : (old new : List Receipt) (receipt : Receipt) (reported : Reported) → without_shapes new ≡ without_shapes old ++ receipt ∷ [] → reported_in (receipt ∷ []) ≡ reported ∷ []
    → reported_in new ≡ reported_in old ++ reported ∷ []
adds old new receipt reported more is = one_reported old new receipt more ∙ ap (λ (l : List Reported). reported_in old ++ l) is

put_reported : (key value : ℕ) (reply : Put) (receipt : Receipt) → IsReceiptOfPut key value reply receipt → reported_in (receipt ∷ []) ≡ reported_of_put key value reply ∷ []
put_reported key value puts.Inserted (Inserted number k v) is = rw (is.0, is.1) refl
put_reported key value (puts.Present there) (Looked seen k found) is = rw (is.0, is.1) refl
put_reported key value reply receipt is = absurd is

set_reported : (key value : ℕ) (reply : Set) (receipt : Receipt) → IsReceiptOfSet key value reply receipt → reported_in (receipt ∷ []) ≡ reported_of_set key value reply ∷ []
set_reported key value sets.Inserted (Inserted number k v) is = rw (is.0, is.1) refl
set_reported key value (sets.Replaced there) (Modified number k old v) is = rw (is.0, is.1, is.2) refl
set_reported key value reply receipt is = absurd is

pub delete_reported : (key : ℕ) (reply : Del) (receipt : Receipt) → IsReceiptOfDelete key reply receipt → reported_in (receipt ∷ []) ≡ reported_of_delete key reply ∷ []
delete_reported key (dels.Removed value) (Deleted number k v) is = rw (is.0, is.1) refl
delete_reported key dels.NoKey (Looked seen k found) is = rw (is.0, is.1) refl
delete_reported key reply receipt is = absurd is

pub put_tells : (key value : ℕ) (done : Done Put) (old new : Seen) → AddsReceipt (IsReceiptOfPut key value) done.reply old new → AddsReported (acts.Put key value) (replies.Put done) old.trail new.trail
put_tells key value done old new more = record {
  added = reported_of_put key value done.reply ∷ [];
  trail = adds old.trail new.trail more.0 (reported_of_put key value done.reply) more.1 (put_reported key value done.reply more.0 more.2);
  answers = refl;
}

pub set_tells : (key value : ℕ) (done : Done Set) (old new : Seen) → AddsReceipt (IsReceiptOfSet key value) done.reply old new → AddsReported (acts.Set key value) (replies.Set done) old.trail new.trail
set_tells key value done old new more = record {
  added = reported_of_set key value done.reply ∷ [];
  trail = adds old.trail new.trail more.0 (reported_of_set key value done.reply) more.1 (set_reported key value done.reply more.0 more.2);
  answers = refl;
}

pub delete_tells : (key : ℕ) (done : Done Del) (old new : Seen) → AddsReceipt (IsReceiptOfDelete key) done.reply old new → AddsReported (acts.Delete key) (replies.Delete done) old.trail new.trail
delete_tells key done old new more = record {
  added = reported_of_delete key done.reply ∷ [];
  trail = adds old.trail new.trail more.0 (reported_of_delete key done.reply) more.1 (delete_reported key done.reply more.0 more.2);
  answers = refl;
}

pub get_tells : (key : ℕ) (value : Option ℕ) (old new : List Receipt) → AddsLook key (Ok value) old new → AddsReported (acts.Get key) (replies.Get value) old new
get_tells key value old new more = record { added = looked key value ∷ []; trail = ap reported_in more.1 ∙ reported_in-append old (Looked more.0 key value ∷ []); answers = refl }

-- nothing is reported of acts that have no reply
pub go_none : (acts : List Act) → GoWith acts [] []
go_none [] = refl
go_none (act ∷ acts) = refl

-- one more reply
pub go_more : (acts : List Act) (replies : List Reply) (reported : List Reported) (reply : Reply) (place : ℕ) (d : Act) (added : List Reported) → length replies ≡ place → place < length acts → GoWith acts replies reported
    → GoesWith (get_or acts place d) reply added → GoWith acts (replies ++ reply ∷ []) (reported ++ added)
go_more [] replies reported reply place d added at inside go more = absurd (omega arith)
go_more (act ∷ acts) [] reported reply zero d added at inside go more = (added, [], ap (λ (l : List Reported). l ++ added) go ∙ sym (append-nil added), more, go_none acts)
go_more (act ∷ acts) [] reported reply (suc place) d added at inside go more = absurd (omega arith)
go_more (act ∷ acts) (first ∷ replies) reported reply zero d added at inside go more = absurd (omega arith)
go_more (act ∷ acts) (first ∷ replies) reported reply (suc place) d added at inside go more =
    (go.0, go.1 ++ added, ap (λ (l : List Reported). l ++ added) go.2 ∙ append_assoc go.0 go.1 added, go.3, go_more acts replies go.1 reply place d added (omega arith) (omega arith) go.4 more)
