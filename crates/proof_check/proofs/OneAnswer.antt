-- A log has one answer.
use Rattle.std.proofs.Common.{◌≡◌, ℕ, ◌+◌, ◌-◌, ◌<◌, ◌≤◌, List, length, refl, ap, ◌⊎◌, inl, inr, arith, Option, Some, None}
use Rattle.std.proofs.lemmas.Bool.{cases_lt}
use Rattle.clause_base.specs.declared.literal.Lit.{Lit}
use Rattle.clause_base.specs.declared.log.Step.{Step}
use Rattle.clause_base.specs.Acceptance.{blocks_in, IsAcceptedAt, IsAccepted, IsLeastRefused}
use Rattle.proof_check.specs.declared.claim.BadStep.{BadStep}
use Rattle.proof_check.specs.Claims.{Answers}

-- no log is accepted and has a step that is refused
accepted-refused : (form blocks : List (List Lit)) (log : List Step) (number : ℕ) → IsAccepted form blocks log → IsLeastRefused form blocks log number → ⊥
accepted-refused form blocks log number accepted is = by_case is.refused
  where
    by_case : ((number ≤ length log) × ¬ (IsAcceptedAt form blocks log (number - 1))) ⊎ ((number ≡ length log + 1) × (blocks_in log < length blocks)) → ⊥
    by_case (inl (within, refused)) = refused (accepted.each_step (number - 1) (omega (arith, within, is.counted)))
    by_case (inr (past, left)) = omega (arith, left, accepted.every_block)

-- no step before the least refused one is refused
least-le : (form blocks : List (List Lit)) (log : List Step) (one other : ℕ) → IsLeastRefused form blocks log one → IsLeastRefused form blocks log other → one ≤ other
least-le form blocks log one other is least = by_order (cases_lt other one)
  where
    by_case : other < one → ((other ≤ length log) × ¬ (IsAcceptedAt form blocks log (other - 1))) ⊎ ((other ≡ length log + 1) × (blocks_in log < length blocks))
        → ((one ≤ length log) × ¬ (IsAcceptedAt form blocks log (one - 1))) ⊎ ((one ≡ length log + 1) × (blocks_in log < length blocks)) → ⊥
    by_case below (inl (within, refused)) mine = refused (is.before (other - 1) (omega (arith, below, least.counted)))
    by_case below (inr (past, left)) (inl (within, refused)) = omega (arith, below, past, within)
    by_case below (inr (past, left)) (inr (mine, more)) = omega (arith, below, past, mine)

    by_order : (other < one) ⊎ (one ≤ other) → one ≤ other
    by_order (inl below) = absurd (by_case below least.refused is.refused)
    by_order (inr enough) = enough

same-step : (one other : BadStep) → one.n ≡ other.n → one ≡ other
same-step one other same = ap (λ (n : ℕ). record { n = n }) same

pub one-answer : (form blocks : List (List Lit)) (log : List Step) (one other : Option BadStep) → Answers form blocks log one → Answers form blocks log other → one ≡ other
one-answer form blocks log None None is same = refl
one-answer form blocks log None (Some other) is least = absurd (accepted-refused form blocks log other.n is least)
one-answer form blocks log (Some one) None least is = absurd (accepted-refused form blocks log one.n is least)
one-answer form blocks log (Some one) (Some other) is least =
    ap (λ (bad : BadStep). Some bad)
    (same-step one other (omega (arith, least-le form blocks log one.n other.n is least, least-le form blocks log other.n one.n least is)))
