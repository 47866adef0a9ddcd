-- What the bound on fresh learned steps speaks of.
use Rattle.std.specs.Prelude.{ℕ, List}
use Rattle.clause_base.specs.declared.literal.Lit.{Lit}
use Rattle.clause_base.specs.declared.log.Step.{Step}

-- a log after a form over the variables from 1 to `vars`, with its blocks, and a place in it
pub record LogFrom : Type 0 where
  pub vars : ℕ
  pub form : List (List Lit)
  pub blocks : List (List Lit)
  pub log : List Step
  pub from : ℕ
