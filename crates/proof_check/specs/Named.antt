-- Which clauses the chains of a log name: of a form a check looks only at these.
use Rattle.std.specs.Prelude.{◌≡◌, ℕ, ◌≤◌, ◌==◌, Bool, true, List, length}
use Rattle.std.specs.List.{list_any}
use Rattle.clause_base.specs.declared.literal.Lit.{Lit}
use Rattle.clause_base.specs.declared.log.Step.{Step}
use Rattle.clause_base.specs.Acceptance.{numbered}

-- whether a chain has the number
abbrev pub is_in : List ℕ → ℕ → Bool
is_in chain number = list_any (λ n. n == number) chain

-- whether the chain of some step has it
abbrev pub is_named : List Step → ℕ → Bool
is_named log number = list_any (λ (step : Step). is_in step.chain number) log

-- two forms have as many clauses, and the same one at each number that the log names
pub record AgreeFor (log : List Step) (one other : List (List Lit)) : Type 0 where
  pub long : length one ≡ length other
  pub same : (number : ℕ) → 1 ≤ number → is_named log number ≡ true → numbered one number ≡ numbered other number
