-- Private, for the functions inside this crate: a log that is checked in pieces.
use Rattle.std.specs.Prelude.{ℕ, ◌+◌, ◌<◌, ◌^◌, List, [], ◌∷◌, length, All, Option, Some, None, Result, Ok, Err}
use Rattle.loc_base.specs.declared.memory.NoMemory.{NoMemory}
use Rattle.clause_base.specs.declared.literal.Lit.{Lit}
use Rattle.clause_base.specs.declared.log.Step.{Step}
use Rattle.clause_base.specs.declared.form.Form.{Form}
use Rattle.clause_base.specs.Literal.{AreWithin}
use Rattle.proof_check.specs.declared.claim.BadStep.{BadStep}
use Rattle.proof_check.specs.declared.claim.Piece.{Piece}
use Rattle.proof_check.specs.Claims.{FoundAfter, AreKnown}

-- the first answer that isn't that nothing was found
abbrev pub first_of : List (Result (Option BadStep) NoMemory) → Result (Option BadStep) NoMemory
first_of [] = Ok None
first_of (Ok None ∷ rest) = first_of rest
first_of (Ok (Some found) ∷ rest) = Ok (Some found)
first_of (Err e ∷ rest) = Err e

-- what the check of a piece may rely on
pub record CanSearch (form : Form) (blocks : List (List Lit)) (log : List Step) (known : ℕ) : Type 0 where
  pub blocks_within : AreWithin form.vars blocks
  pub few : length log + 1 < 2 ^ 32
  pub are_known : AreKnown form.vars form.clauses log known

-- what is found in each of the pieces
abbrev pub AreFound : Form → List (List Lit) → List Step → List Piece → Option BadStep → Type 0
AreFound form blocks log pieces found = All (λ piece. FoundAfter form.clauses blocks log piece.from piece.end found) pieces
