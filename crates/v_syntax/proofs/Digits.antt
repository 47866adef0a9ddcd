-- Bytes from a place on, and the values of digits up to one.
use Rattle.std.proofs.Common.{◌≡◌, ℕ, ◌+◌, ◌*◌, ◌<◌, true, false, cond, ◌||◌, List, ◌∷◌, length, get_or, drop, refl, ap, add-one, drop-cons}
use Rattle.v_syntax.specs.Numbers.{is_hexadecimal, is_wild}
use Rattle.v_syntax.specs.Literals.{digit_value, next_value}

-- the bytes from a place on begin with what stands there
pub drop_at : (bytes : List ℕ) (i : ℕ) → i < length bytes → drop i bytes ≡ get_or bytes i 0 ∷ drop (i + 1) bytes
drop_at bytes i within = rw (add-one, drop-cons bytes i 0) refl

-- what is a digit or a wildcard counts
pub next_value_digit : (base value byte : ℕ) → (is_hexadecimal byte || is_wild byte) ≡ true → next_value base value byte ≡ value * base + digit_value byte
next_value_digit base value byte is_so = ap (λ b. cond b (value * base + digit_value byte) value) is_so

-- and nothing else
pub next_value_other : (base value byte : ℕ) → (is_hexadecimal byte || is_wild byte) ≡ false → next_value base value byte ≡ value
next_value_other base value byte not_so = ap (λ b. cond b (value * base + digit_value byte) value) not_so
