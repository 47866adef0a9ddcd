-- What each part of a list or of a run is.
use Rattle.std.proofs.Common.{ℕ, List, [], ◌∷◌}
use Rattle.v_lexer.specs.Lexeme.{Lexeme}
use Rattle.v_lexer.specs.declared.types.terminal.Terminal.{Terminal}
use Rattle.v_parts.specs.Productions.{AreMore, AreListed, AreRun}
use Rattle.bind_laws.specs.Every.{Every}

more-every : {A : Type 0} (tokens : List Lexeme) (part : A → ℕ → ℕ → Type 0) (P : A → Type 0)
    → ((x : A) (a b : ℕ) → part x a b → P x)
    → (xs : List A) (a b : ℕ) → AreMore tokens part xs a b → Every P xs
more-every tokens part P each [] a b are = tt
more-every tokens part P each (x ∷ xs) a b (m, comma, here, rest) = (each x _ m here, more-every tokens part P each xs m b rest)

-- one or more with commas between
pub listed-every : {A : Type 0} (tokens : List Lexeme) (part : A → ℕ → ℕ → Type 0) (P : A → Type 0)
    → ((x : A) (a b : ℕ) → part x a b → P x)
    → (xs : List A) (a b : ℕ) → AreListed tokens part xs a b → Every P xs
listed-every tokens part P each [] a b are = absurd are
listed-every tokens part P each (x ∷ xs) a b (m, here, rest) = (each x a m here, more-every tokens part P each xs m b rest)

-- up to a closing token
pub run-every : {S A : Type 0} (tokens : List Lexeme) (last : Terminal) (part : S → A → ℕ → ℕ → Type 0)
    (next : S → A → S) (P : A → Type 0)
    → ((s : S) (x : A) (a b : ℕ) → part s x a b → P x) → (s : S) (xs : List A) (a b : ℕ)
    → AreRun tokens last part next s xs a b → Every P xs
run-every tokens last part next P each s [] a b are = tt
run-every tokens last part next P each s (x ∷ xs) a b (m, other, here, rest) = (each s x a m here, run-every tokens last part next P each (next s x) xs m b rest)
