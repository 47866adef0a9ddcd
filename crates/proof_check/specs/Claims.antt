-- A log that is checked after a form and blocks, whole or in pieces.
use Rattle.std.specs.Prelude.{◌≡◌, ℕ, ◌-◌, ◌≤◌, ◌<◌, List, [], ◌∷◌, length, take, Option, MatchOption}
use Rattle.clause_base.specs.declared.literal.Lit.{Lit}
use Rattle.clause_base.specs.declared.log.Step.{Step}
use Rattle.clause_base.specs.Steps.{step_at}
use Rattle.clause_base.specs.Literal.{IsWithin, AreWithin}
use Rattle.clause_base.specs.Acceptance.{clauses_of, blocks_in, IsAcceptedAt, IsAccepted, IsLeastRefused}
use Rattle.proof_check.specs.declared.claim.BadStep.{BadStep}
use Rattle.proof_check.specs.declared.claim.Piece.{Piece}

-- what a check answers: nothing where the log is accepted, else the least step that is refused
abbrev pub Answers : List (List Lit) → List (List Lit) → List Step → Option BadStep → Type 0
Answers form blocks log answer = MatchOption answer (IsAccepted form blocks log) (λ bad. IsLeastRefused form blocks log bad.n)

-- each step from one place up to another is accepted
abbrev pub AreAccepted : List (List Lit) → List (List Lit) → List Step → ℕ → ℕ → Type 0
AreAccepted form blocks log from end = (place : ℕ) → from ≤ place → place < end → IsAcceptedAt form blocks log place

-- the number, counted from 1, of the first step from one place on that isn't accepted
pub record IsFirstRefused (form blocks : List (List Lit)) (log : List Step) (from number : ℕ) : Type 0 where
  pub after : from < number
  pub within : number ≤ length log
  pub before : AreAccepted form blocks log from (number - 1)
  pub refused : ¬ (IsAcceptedAt form blocks log (number - 1))

-- nothing is found where each step from one place up to another is accepted, else the first that isn't
abbrev pub FoundIn : List (List Lit) → List (List Lit) → List Step → ℕ → ℕ → Option BadStep → Type 0
FoundIn form blocks log from end found =
    MatchOption found (AreAccepted form blocks log from end) (λ bad. IsFirstRefused form blocks log from bad.n)

-- the same, where the steps before them are accepted
abbrev pub FoundAfter : List (List Lit) → List (List Lit) → List Step → ℕ → ℕ → Option BadStep → Type 0
FoundAfter form blocks log from end found = AreAccepted form blocks log 0 from → FoundIn form blocks log from end found

-- the piece lies in the log, and so many blocks stand before it
pub record IsPiece (log : List Step) (piece : Piece) : Type 0 where
  pub ordered : piece.from ≤ piece.end
  pub within : piece.end ≤ length log
  pub seen : piece.seen ≡ blocks_in (take piece.from log)

-- the pieces have the steps from one place up to another, one piece behind the other
abbrev pub Cover : ℕ → ℕ → List Piece → Type 0
Cover from end [] = from ≡ end
Cover from end (piece ∷ pieces) = (piece.from ≡ from) × Cover piece.end end pieces

-- the clauses of the form and of so many steps are of variables up to vars, and that of the next step, if there is one, isn't
pub record AreKnown (vars : ℕ) (form : List (List Lit)) (log : List Step) (known : ℕ) : Type 0 where
  pub inside : AreWithin vars (clauses_of form (take known log))
  pub outside : known < length log → ¬ (IsWithin vars (step_at log known).clause)
