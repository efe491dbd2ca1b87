-- Lists of accepted steps, and the tables that they lead to.
use Rattle.std.specs.Prelude.{◌≡◌, Bool, List, [], ◌∷◌, ◌++◌, None, MatchBool}
use Rattle.bw_keys.specs.declared.config.Config.{Config}
use Rattle.bw_step.specs.Proposals.{Proposal}
use Rattle.bw_law.specs.Tables.{TableValue, new_table}
use Rattle.bw_law.specs.Refusals.{refusal}
use Rattle.bw_law.specs.Effects.{after}

-- each step of the list is accepted where it stands, and the last leaves this table
abbrev pub LeadTo : TableValue → List Proposal → TableValue → Type 0
LeadTo from [] to = to ≡ from
LeadTo from (step ∷ steps) to = (refusal from step ≡ None) × LeadTo (after from step) steps to

-- the steps lead from the new table to this one
abbrev pub IsSnapshot : Config → List Proposal → TableValue → Type 0
IsSnapshot config steps table = LeadTo (new_table config) steps table

-- the list begins with the other
abbrev pub BeginsWith : List Proposal → List Proposal → Type 0
BeginsWith steps seen = (rest : List Proposal) × (steps ≡ seen ++ rest)

-- one list begins with the other, and the test says whether it is the first that does
abbrev pub GoesOn : Bool → List Proposal → List Proposal → Type 0
GoesOn test one other = MatchBool test (BeginsWith one other) (BeginsWith other one)
