-- A number a number of times.
use Rattle.std.proofs.Common.{◌≡◌, ℕ, ◌+◌, ap, add-one, refl}
use Rattle.v_widths.specs.Parts.{behind, many}

pub many-none : (w a : ℕ) → many 0 w a ≡ 0
unfolding many
many-none w a = refl

pub many-one_more : (times w a : ℕ) → many (times + 1) w a ≡ behind (many times w a) w a
unfolding many
many-one_more times w a = ap (λ k. many k w a) (add-one times)
