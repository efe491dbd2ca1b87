use Rattle.std.proofs.Common.{◌≡◌, ◌↔◌, List, [], ◌∷◌, ◌++◌, append-nil, length, length-append, ◌+◌, IsTrue, Bool, refl, ap, sym, ◌∙◌, arith}
use Rattle.bw_keys.specs.Ranges.{end_of}
use Rattle.bw_delta.specs.Entries.{from}
use Rattle.bw_delta.specs.Slices.{list_of}
use Rattle.bw_chain.specs.Changes.{entries_by}
use Rattle.bw_chain.proofs.Passing.Descents.{unedited}
use Rattle.bw_chain.proofs.pass.comparison.are_entries.Goals as goal

-- nothing is left exactly where the parts were all
none_left : {Y : Type 0} → (list part rest : List Y) (empty : Bool) → list ≡ part ++ rest → IsTrue empty ↔ (rest ≡ []) → IsTrue empty ↔ (list ≡ part)
none_left list part [] empty parts is = ((λ h. parts ∙ append-nil part), λ same. is.1 refl)
none_left list part (y ∷ rest) empty parts is =
    let longer : length list ≡ length part + length (y ∷ rest) = ap length parts ∙ length-append part (y ∷ rest) in
    ((λ h. absurd (let none = is.0 h in cc)), λ same. absurd (omega (arith, longer, ap length same)))

pub returns-in-Ok : goal.returns-in-Ok
returns-in-Ok g c =
    let entry = g.X.EntryValue in
    let laws = g.met.X.EntryValue in
    let chain = c.args.chain.now in
    let whole = unedited entry.own_entries entry.own_change laws.rise laws.cut chain c.args.high [] c.requires.built c.requires.high refl in
    none_left (list_of c.args.list) (from (end_of c.args.fence) (entries_by entry.own_entries entry.own_change chain)) (list_of c.pass.new.sink.rest) c.is_empty.result (rw whole at c.in-Ok.ensures.taken.0) c.is_empty.ensures

pub returns-in-Err : goal.returns-in-Err
returns-in-Err g c =
    let entry = g.X.EntryValue in
    let laws = g.met.X.EntryValue in
    let chain = c.args.chain.now in
    let whole = unedited entry.own_entries entry.own_change laws.rise laws.cut chain c.args.high [] c.requires.built c.requires.high refl in
    let other = rw whole at c.in-Err.ensures.refused in
    ((λ h. absurd (cc)), λ same. absurd (other [] (same ∙ sym (append-nil _))))
