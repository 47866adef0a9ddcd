-- Examples, computed.
use Rattle.std.proofs.Common.{◌≡◌, true, false, refl}
use Rattle.std.specs.Prelude.{codes}
use Rattle.vcd_words.specs.Codes.{code_of, code_from}
use Rattle.vcd_reading.specs.Commands.{is_end}
use Rattle.vcd_waves.specs.ReadBack.{is_plain}

-- an identifier with `$` and digits is a plain name
pub an_identifier_is_plain : is_plain (codes "data_in$1") ≡ true
unfolding is_end
an_identifier_is_plain = refl

-- a reference ends at its `[`, so a name that has one is not found again
pub a_select_is_not_plain : is_plain (codes "a[0]") ≡ false
unfolding is_end
a_select_is_not_plain = refl

-- and this one ends the declaration
pub the_end_is_not_plain : is_plain (codes "$end") ≡ false
unfolding is_end
the_end_is_not_plain = refl

-- the code behind the last that a readable wave has
pub the_next_code_is_the_end : code_of 56335895 ≡ codes "$end"
unfolding code_from
the_next_code_is_the_end = refl
