-- How receipts lead from one table to another: in order, they are the changes of its map and its replies, and they bear the numbers of its book.
use Rattle.std.specs.Prelude.{◌≡◌, List, [], ◌∷◌, ◌++◌, refl}
use Rattle.std.proofs.Common.{◌∙◌, ap, sym, subst, append_assoc, append-nil}
use Rattle.bw_step.specs.declared.receipt.Receipt.{Receipt}
use Rattle.bw_step.specs.declared.survey.Book.{Book}
use Rattle.bw_step.specs.Tellings.{Telling, change, look, shape, telling_of}
use Rattle.bw_law.specs.Tables.{TableValue, number_of, book_with, TellsMap}

-- a change bears the number that the book has with it, and a look the number that the book had
abbrev pub BearsNumber : Telling → Book → Type 0
BearsNumber (change number key before after) book = number ≡ number_of book
BearsNumber (look at key found) book = at ≡ number_of book
BearsNumber shape book = Unit {0}

-- what a receipt reports of the table before it and after it
pub record Tells (receipt : Receipt) (old new : TableValue) : Type 0 where
  pub map : TellsMap (telling_of receipt) old.slots new.slots
  pub book : new.book ≡ book_with old.book (telling_of receipt)
  pub number : BearsNumber (telling_of receipt) new.book

-- the receipts, one after the other, lead from the old table to the new, and where there is none nothing has changed
abbrev pub Replays : TableValue → List Receipt → TableValue → Type 0
Replays old [] new = new ≡ old
Replays old (receipt ∷ rest) new = (next : TableValue) × Tells receipt old next × Replays next rest new

-- the receipts by which the trail is longer lead from the old table to the new one
abbrev pub Leads : TableValue → List Receipt → TableValue → List Receipt → Type 0
Leads old trail new longer = (added : List Receipt) × (longer ≡ trail ++ added) × Replays old added new

replays_then : (a b c : TableValue) (rs ss : List Receipt) → Replays a rs b → Replays b ss c → Replays a (rs ++ ss) c
replays_then a b c [] ss first then = subst (λ table. Replays table ss c) first then
replays_then a b c (r ∷ rs) ss first then = (first.0, first.1, replays_then first.0 b c rs ss first.2 then)

pub leads_stay : (table : TableValue) (trail : List Receipt) → Leads table trail table trail
leads_stay table trail = ([], sym (append-nil trail), refl)

pub leads_join : (a : TableValue) (s : List Receipt) (b : TableValue) (t : List Receipt) (c : TableValue) (u : List Receipt) → Leads a s b t → Leads b t c u → Leads a s c u
leads_join a s b t c u first then = (
  first.0 ++ then.0,
  then.1 ∙ (ap (λ l. l ++ then.0) first.1 ∙ append_assoc s first.0 then.0),
  replays_then a b c first.0 then.0 first.2 then.2,
)

-- what holds a table is in its place, the table has its configuration, and the receipts by which the trail is longer lead from the old table to the
-- new one
pub record Continues {H : Type 0} (value : H → TableValue) (same : H → H → Type 0) (old : H) (trail : List Receipt) (new : H) (longer : List Receipt) : Type 0 where
  pub place : same old new
  pub config : (value new).config ≡ (value old).config
  pub leads : Leads (value old) trail (value new) longer

pub continues_stay : {H : Type 0} {value : H → TableValue} {same : H → H → Type 0} {held : H} → same held held → (trail : List Receipt) → Continues value same held trail held trail
continues_stay {H} {value} {same} {held} place trail = record { place = place; config = refl; leads = leads_stay (value held) trail }

pub continues_join : {H : Type 0} {value : H → TableValue} {same : H → H → Type 0} {a b c : H} {s t u : List Receipt} → same a c
    → Continues value same a s b t → Continues value same b t c u → Continues value same a s c u
continues_join {H} {value} {same} {a} {b} {c} {s} {t} {u} place first then = record {
  place = place;
  config = then.config ∙ first.config;
  leads = leads_join (value a) s (value b) t (value c) u first.leads then.leads;
}
