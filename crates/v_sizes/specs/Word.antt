-- The word of a width that has the lowest bits of a number; a width below 1 counts as 1, and one above 128 as 128.
use Rattle.std.proofs.Common.{ℕ, ◌%◌, ◌^◌, lit≤}
use Rattle.std.specs.Prelude.{min}
use Rattle.std.proofs.lemmas.Nat.{pow_pos}
use Rattle.std.proofs.Math.Nat.{mod-lt, max-le, le-max_left, min-le_right}
use Rattle.loc_base.specs.declared.bits.Bits.{Bits}
use Rattle.v_sizes.specs.Literal.{limited}

unfoldable pub word : ℕ → ℕ → Bits
word width value =
    record { width = limited width; value = value % 2 ^ limited width; at_least_one = le-max_left 1 (min width 128); at_most_128 = max-le (lit≤ tt) (min-le_right width 128); in_range = mod-lt value (pow_pos (limited width)) }
