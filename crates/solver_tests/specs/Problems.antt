-- Forms for the tests, and enumerators of one form.
use Rattle.std.specs.Prelude.{◌≡◌, ℕ, ◌<◌, ◌≤◌, List, length}
use Rattle.clause_base.specs.declared.literal.Lit.{Lit}
use Rattle.clause_base.specs.Literal.{AreWithin}
use Rattle.card_counter.specs.InForm.{HasCounter}
use Rattle.set_enum.specs.EnumState.{EnumState}

-- the clauses have the counter, and are few and over the variables
pub record IsProblem (vars : ℕ) (clauses : List (List Lit)) (n k : ℕ) : Type 0 where
  pub counter : HasCounter n k vars clauses
  pub within : AreWithin vars clauses
  pub size : k ≤ 8
  pub few : length clauses < 1000

-- the form stays, with its selectors and its counter
pub record IsOfSameForm (old new : EnumState) : Type 0 where
  pub vars : new.vars ≡ old.vars
  pub form : new.form ≡ old.form
  pub n : new.n ≡ old.n
  pub k : new.k ≡ old.k
