-- Where a text was refused.
use Rattle.std.specs.Prelude.{ℕ, ⊤, Result, Ok, Err}
use Rattle.proof_check.specs.declared.types.LogErr.{LogErr}
use Rattle.proof_check.specs.declared.types.LogErr.TheVariants.{LogSyntax, NoMemory}

abbrev pub AtLine : (ℕ → Type 0) → LogErr → Type 0
AtLine P (LogSyntax line) = P line
AtLine P NoMemory = ⊤

-- P holds of the line that was refused, if one was
abbrev pub OnSyntax : {T : Type 0} → Result T LogErr → (ℕ → Type 0) → Type 0
OnSyntax (Ok value) P = ⊤
OnSyntax (Err error) P = AtLine P error
