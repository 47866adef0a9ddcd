-- The steps of reading statements, as equations.
use Rattle.std.proofs.Common.{◌≡◌, ℕ, zero, suc, ◌+◌, List, refl, ap, arith}
use Rattle.v_lexer.specs.Lexeme.{Lexeme}
use Rattle.v_statements.specs.StatementReading.{statement_with, statement_at, statement_below}

pub statement_over : (t : List Lexeme) (d a : ℕ) → statement_at t d a ≡ statement_with t d (statement_below t d) a
unfolding statement_at
statement_over t zero a = refl
statement_over t (suc d) a = refl

pub statement_below_less : (t : List Lexeme) (d n : ℕ) → n + 1 ≡ d → statement_below t d ≡ statement_at t n
statement_below_less t zero n e = absurd (omega (arith, e))
statement_below_less t (suc d) n e = let one : d ≡ n = omega (arith, e) in ap (statement_at t) one
