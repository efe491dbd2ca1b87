-- How the logic distinguishes proposed steps: each is stored as
-- one value, from which it is read back.
use Rattle.std.specs.Prelude.{◌≡◌, ℕ}
use Rattle.std.proofs.Common.{refl, ◌⊎◌, inl, inr}
use Rattle.std.specs.Coded.{Coded, code_by, coded×, coded⊎, coded_ℕ}
use Rattle.bw_delta.specs.Codes.{page_code}
use Rattle.bw_delta.specs.Pages.{Page}
use Rattle.bw_step.specs.Proposals.{Proposal, insert, delete, modify, consolidate, split, term_add, grow, mark, merge, term_delete}

abbrev Four : Type 0
Four = ℕ × (ℕ × (ℕ × ℕ))

abbrev Three : Type 0
Three = ℕ × (ℕ × ℕ)

abbrev Parts : Type 0
Parts =
    Four ⊎ (Three ⊎ ((ℕ × (ℕ × Page)) ⊎ ((Three × Page)
    ⊎ (Four ⊎ ((ℕ × (ℕ × Page)) ⊎ (Three ⊎ (Four ⊎ (Four ⊎ Four))))))))

abbrev parts_of : Proposal → Parts
parts_of (insert page seen key value) = inl (page, (seen, (key, value)))
parts_of (delete page seen key) = inr (inl (page, (seen, key)))
parts_of (consolidate page seen base) = inr (inr (inl (page, (seen, base))))
parts_of (split page seen separator base) = inr (inr (inr (inl ((page, (seen, separator)), base))))
parts_of (term_add parent parent_seen child child_seen) =
    inr (inr (inr (inr (inl (parent, (parent_seen, (child, child_seen)))))))
parts_of (grow child seen base) = inr (inr (inr (inr (inr (inl (child, (seen, base)))))))
parts_of (mark page seen parent) = inr (inr (inr (inr (inr (inr (inl (page, (seen, parent))))))))
parts_of (merge left left_seen page page_seen) =
    inr (inr (inr (inr (inr (inr (inr (inl (left, (left_seen, (page, page_seen))))))))))
parts_of (term_delete parent parent_seen child child_seen) =
    inr (inr (inr (inr (inr (inr (inr (inr (inl (parent, (parent_seen, (child, child_seen)))))))))))
parts_of (modify page seen key value) =
    inr (inr (inr (inr (inr (inr (inr (inr (inr (page, (seen, (key, value)))))))))))

abbrev proposal_again : Parts → Proposal
proposal_again (inl p) = insert p.0 p.1.0 p.1.1.0 p.1.1.1
proposal_again (inr (inl p)) = delete p.0 p.1.0 p.1.1
proposal_again (inr (inr (inl p))) = consolidate p.0 p.1.0 p.1.1
proposal_again (inr (inr (inr (inl p)))) = split p.0.0 p.0.1.0 p.0.1.1 p.1
proposal_again (inr (inr (inr (inr (inl p))))) = term_add p.0 p.1.0 p.1.1.0 p.1.1.1
proposal_again (inr (inr (inr (inr (inr (inl p)))))) = grow p.0 p.1.0 p.1.1
proposal_again (inr (inr (inr (inr (inr (inr (inl p))))))) = mark p.0 p.1.0 p.1.1
proposal_again (inr (inr (inr (inr (inr (inr (inr (inl p)))))))) = merge p.0 p.1.0 p.1.1.0 p.1.1.1
proposal_again (inr (inr (inr (inr (inr (inr (inr (inr (inl p))))))))) =
    term_delete p.0 p.1.0 p.1.1.0 p.1.1.1
proposal_again (inr (inr (inr (inr (inr (inr (inr (inr (inr p))))))))) =
    modify p.0 p.1.0 p.1.1.0 p.1.1.1

pub proposal_again-parts_of : (step : Proposal) → proposal_again (parts_of step) ≡ step
proposal_again-parts_of (insert page seen key value) = refl
proposal_again-parts_of (delete page seen key) = refl
proposal_again-parts_of (consolidate page seen base) = refl
proposal_again-parts_of (split page seen separator base) = refl
proposal_again-parts_of (term_add parent parent_seen child child_seen) = refl
proposal_again-parts_of (grow child seen base) = refl
proposal_again-parts_of (mark page seen parent) = refl
proposal_again-parts_of (merge left left_seen page page_seen) = refl
proposal_again-parts_of (term_delete parent parent_seen child child_seen) = refl
proposal_again-parts_of (modify page seen key value) = refl

abbrev coded_four : Coded Four
coded_four = coded× coded_ℕ (coded× coded_ℕ (coded× coded_ℕ coded_ℕ))

abbrev coded_three : Coded Three
coded_three = coded× coded_ℕ (coded× coded_ℕ coded_ℕ)

abbrev coded_paged : Coded (ℕ × (ℕ × Page))
coded_paged = coded× coded_ℕ (coded× coded_ℕ page_code)

abbrev pub proposal_code : Coded Proposal
proposal_code =
    code_by Parts
    (coded⊎ coded_four (coded⊎ coded_three (coded⊎ coded_paged
    (coded⊎ (coded× coded_three page_code) (coded⊎ coded_four (coded⊎ coded_paged
    (coded⊎ coded_three (coded⊎ coded_four (coded⊎ coded_four coded_four)))))))))
    parts_of
    proposal_again
    proposal_again-parts_of
