-- What is known of an expression that isn't refused.
use Rattle.std.proofs.Common.{◌≡◌, ℕ, zero, suc, ◌≤◌, Bool, true, false, Option, Some, None, refl, arith}
use Rattle.std.specs.Prelude.{max, ◌||◌, ◌==◌, nat_lt}
use Rattle.std.specs.Option.{option_or}
use Rattle.std.proofs.lemmas.Bool.{ltb-false}
use Rattle.std.proofs.Math.Nat.{max-le, le-max_left}
use Rattle.v_sizes.specs.declared.error.WidthErr.{WidthErr}
use Rattle.v_sizes.specs.Refusals.{when, is_bad_width, first_of}
use Rattle.v_sizes.proofs.Meant.{Within}

pub or-none : (first second : Option WidthErr) → option_or first second ≡ None → (first ≡ None) × (second ≡ None)
or-none None second h = (refl, h)
or-none (Some x) second h = cc

pub first_of-none : (left right whole : Option WidthErr) → first_of left right whole ≡ None → (left ≡ None) × (right ≡ None) × (whole ≡ None)
first_of-none left right whole h =
    let one = or-none left (option_or right whole) h in
    let two = or-none right whole one.1 in
    (one.0, two.0, two.1)

pub when-none : (holds : Bool) (wrong : WidthErr) (rest : Option WidthErr) → when holds wrong rest ≡ None → (holds ≡ false) × (rest ≡ None)
when-none true wrong rest h = cc
when-none false wrong rest h = (refl, h)

pub or_false : (a b : Bool) → (a || b) ≡ false → (a ≡ false) × (b ≡ false)
or_false true b h = cc
or_false false b h = (refl, h)

pub not_zero : (n : ℕ) → (n == 0) ≡ false → 1 ≤ n
not_zero zero h = cc
not_zero (suc n) h = omega arith

pub good-width : (n : ℕ) → is_bad_width n ≡ false → Within n
good-width n h =
    let parts = or_false (n == 0) (nat_lt 128 n) h in
    record { least = not_zero n parts.0; most = ltb-false 128 n parts.1 }

-- the larger of two widths is one
pub max-within : (a b : ℕ) → Within a → Within b → Within (max a b)
max-within a b one other = record { least = omega (arith, one.least, le-max_left a b); most = max-le one.most other.most }
