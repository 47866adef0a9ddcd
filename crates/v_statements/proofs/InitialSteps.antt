-- The steps of reading initial blocks, as equations.
use Rattle.std.proofs.Common.{◌≡◌, ℕ, zero, suc, ◌+◌, List, refl, ap, arith}
use Rattle.v_lexer.specs.Lexeme.{Lexeme}
use Rattle.v_statements.specs.InitialReading.{initial_with, initial_at, initial_below}

pub initial_over : (t : List Lexeme) (d a : ℕ) → initial_at t d a ≡ initial_with t d (initial_below t d) a
unfolding initial_at
initial_over t zero a = refl
initial_over t (suc d) a = refl

pub initial_below_less : (t : List Lexeme) (d n : ℕ) → n + 1 ≡ d → initial_below t d ≡ initial_at t n
initial_below_less t zero n e = absurd (omega (arith, e))
initial_below_less t (suc d) n e = let one : d ≡ n = omega (arith, e) in ap (initial_at t) one
