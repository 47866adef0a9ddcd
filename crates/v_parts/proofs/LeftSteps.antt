-- The steps of reading left sides, as equations.
use Rattle.std.proofs.Common.{◌≡◌, ℕ, zero, suc, ◌+◌, List, refl, ap, arith}
use Rattle.v_lexer.specs.Lexeme.{Lexeme}
use Rattle.v_parts.specs.Reading.{left_with, left_at, left_below}

pub left_over : (t : List Lexeme) (d a : ℕ) → left_at t d a ≡ left_with t d (left_below t d) a
unfolding left_at
left_over t zero a = refl
left_over t (suc d) a = refl

pub left_below_less : (t : List Lexeme) (d n : ℕ) → n + 1 ≡ d → left_below t d ≡ left_at t n
left_below_less t zero n e = absurd (omega (arith, e))
left_below_less t (suc d) n e = let one : d ≡ n = omega (arith, e) in ap (left_at t) one
