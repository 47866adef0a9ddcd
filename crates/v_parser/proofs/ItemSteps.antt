-- The steps of reading items, as equations.
use Rattle.std.proofs.Common.{◌≡◌, ℕ, zero, suc, ◌+◌, List, refl, ap, arith}
use Rattle.v_lexer.specs.Lexeme.{Lexeme}
use Rattle.v_parser.specs.ItemReading.{item_with, item_at, item_below}

pub item_over : (t : List Lexeme) (d a : ℕ) → item_at t d a ≡ item_with t d (item_below t d) a
unfolding item_at
item_over t zero a = refl
item_over t (suc d) a = refl

pub item_below_less : (t : List Lexeme) (d n : ℕ) → n + 1 ≡ d → item_below t d ≡ item_at t n
item_below_less t zero n e = absurd (omega (arith, e))
item_below_less t (suc d) n e = let one : d ≡ n = omega (arith, e) in ap (item_at t) one
