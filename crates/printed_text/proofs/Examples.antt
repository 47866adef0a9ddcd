-- Worked examples of values as text.
use Rattle.std.proofs.Common.{◌≡◌, refl}
use Rattle.std.specs.Prelude.{codes}
use Rattle.printed_text.specs.Numerals.{hex, value_text}

eight_bits_have_two_digits : value_text 8 128 ≡ codes "80"
unfolding hex
eight_bits_have_two_digits = refl

five_bits_have_two_digits : value_text 5 14 ≡ codes "0e"
unfolding hex
five_bits_have_two_digits = refl

one_bit_has_one_digit : value_text 1 0 ≡ codes "0"
unfolding hex
one_bit_has_one_digit = refl

letters_are_small : value_text 16 48879 ≡ codes "beef"
unfolding hex
letters_are_small = refl
