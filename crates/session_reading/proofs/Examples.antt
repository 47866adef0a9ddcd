-- Lines of sessions that aren't taken.
use Rattle.std.proofs.Common.{◌≡◌, [], ◌∷◌, refl}
use Rattle.std.specs.Prelude.{codes}
use Rattle.std.specs.Fmt.{digits}
use Rattle.hex.specs.Hex.{encode_with}
use Rattle.session_reading.specs.Refusals.{bad_line, other_line}

a_log_whose_fourth_line_is_not_of_the_form : bad_line 4 ≡ codes "input G1 4\n"
unfolding digits
a_log_whose_fourth_line_is_not_of_the_form = refl

-- (a digest has 32 bytes: one of each stands for them here)
a_session_of_other_inputs : other_line (record { bytes = 160 ∷ [] }) (record { bytes = 11 ∷ [] }) ≡ codes "input other a0 0b\n"
unfolding encode_with
a_session_of_other_inputs = refl
