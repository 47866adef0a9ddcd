-- A code has the status 3, at a limit 4, and at want of memory 7; then `memory` is printed.
use Rattle.std.proofs.Common.{ℕ, ◌≡◌, ◌⊎◌, List, refl, inl, inr}
use Rattle.command_contract.specs.Contract.{IsInputRefusal}
use Rattle.refusal.specs.declared.code.Code.{Code}
use Rattle.refusal.specs.declared.code.Code.TheVariants.{Bare, At, Line, Limit, Memory}
use Rattle.refusal.specs.Codes.{code_line, code_status}
use Rattle.refusal.specs.Lines.{memory_line}

-- a status, and a line that is `memory` where the status is 7
pub data Known (line : List ℕ) : ℕ → Type 0 where
  input : Known line 3
  limit : Known line 4
  memory : line ≡ memory_line → Known line 7

pub code-known : (code : Code) → Known (code_line code) (code_status code)
code-known (Bare code) = input
code-known (At code span) = input
code-known (Line code line) = input
code-known (Limit code) = limit
code-known Memory = memory refl

-- so that it is the status of a line that ends a run
pub code-ends : (code : Code) → IsInputRefusal (code_status code) ⊎ (code_status code ≡ 7)
code-ends (Bare code) = inl (inl refl)
code-ends (At code span) = inl (inl refl)
code-ends (Line code line) = inl (inl refl)
code-ends (Limit code) = inl (inr (inl refl))
code-ends Memory = inr refl
