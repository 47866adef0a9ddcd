-- The bits of a level from a number on.
use Rattle.std.proofs.Common.{◌≡◌, ℕ, ◌<◌, ◌≤◌, ◌/◌, ◌^◌, sym, arith}
use Rattle.std.proofs.Math.Nat.{div-eq_of_lt, pow-le-pow_right}

-- of 128 bits none stands at 128 or a greater number
pub none_from : (bits number : ℕ) → bits < 2 ^ 128 → 128 ≤ number → 0 ≡ bits / 2 ^ number
none_from bits number below past =
    let most : 2 ^ 128 ≤ 2 ^ number = pow-le-pow_right {n = 2} (omega arith) {i = 128} {j = number} past in
    sym (div-eq_of_lt (omega (arith, below, most)))
