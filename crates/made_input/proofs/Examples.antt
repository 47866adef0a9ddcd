-- Worked examples, computed.
use Rattle.std.proofs.Common.{◌≡◌, refl}
use Rattle.std.specs.Prelude.{codes}
use Rattle.made_input.specs.Made.{a_in, b_in, constant, cycles, drawn, held, sign, stages, width, wrong_stage, y_in, z_in}

-- ---- the input of the number 7
seven_has_ten_stages : stages 7 ≡ 10
seven_has_ten_stages = refl

seven_has_fifteen_bits : width 7 ≡ 15
seven_has_fifteen_bits = refl

seven_is_wrong_in_the_ninth : wrong_stage 7 ≡ 9
seven_is_wrong_in_the_ninth = refl

seven_has_fourteen_cycles : cycles 7 ≡ 14
seven_has_fourteen_cycles = refl

the_ninth_stage_subtracts : sign 7 9 ≡ codes " - "
the_ninth_stage_subtracts = refl

the_tenth_stage_adds : sign 7 10 ≡ codes " + "
the_tenth_stage_adds = refl

the_second_stage_adds_five : constant 2 ≡ 5
the_second_stage_adds_five = refl

-- ---- the input of the number 0: three stages of 8 bits
the_first_a : a_in 0 0 ≡ 57
unfolding drawn
the_first_a = refl

-- at first the last register holds its start value, then what the stages before it made of theirs
no_value_has_come : y_in 0 0 ≡ 0
unfolding held
no_value_has_come = refl

the_last_stage_has_added : y_in 0 1 ≡ 7
unfolding held
the_last_stage_has_added = refl

the_last_two_have_added : y_in 0 2 ≡ 12
unfolding held
the_last_two_have_added = refl

-- and then the first inputs, with what all stages add
the_first_inputs_have_come : y_in 0 3 ≡ 195
unfolding held drawn
the_first_inputs_have_come = refl

the_first_b : b_in 0 0 ≡ 126
unfolding drawn
the_first_b = refl

the_first_z : z_in 0 0 ≡ 71
unfolding drawn
the_first_z = refl
