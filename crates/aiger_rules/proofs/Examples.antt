-- Worked examples of literals that are used well or wrongly.
use Rattle.std.proofs.Common.{◌≡◌, true, false, List, [], ◌∷◌, Some, None, refl}
use Rattle.aiger_text.specs.declared.row.Row.{Row}
use Rattle.aiger_text.specs.declared.row.Row.TheVariants.{Input, Latch, Output, And}
use Rattle.aiger_rules.specs.Literals.{definer, is_misuse}

-- a gate and a latch that follows it
abbrev and_and_latch : List Row
and_and_latch = Input 2 ∷ Latch 4 7 ∷ Output 5 ∷ And 6 2 4 ∷ []

pub a_row_defines_its_first_literal : (definer and_and_latch 6 ≡ Some 3) × (definer and_and_latch 5 ≡ None)
a_row_defines_its_first_literal = (refl, refl)

pub a_later_and_may_be_read_negated : (is_misuse 3 and_and_latch 0 ≡ false) × (is_misuse 3 and_and_latch 1 ≡ false) × (is_misuse 3 and_and_latch 2 ≡ false) × (is_misuse 3 and_and_latch 3 ≡ false)
a_later_and_may_be_read_negated = (refl, refl, refl, refl)

pub a_variable_that_no_row_defines_is_not_read : (is_misuse 1 (Output 2 ∷ []) 0 ≡ true) × (is_misuse 1 (Output 1 ∷ []) 0 ≡ false)
a_variable_that_no_row_defines_is_not_read = (refl, refl)

pub an_odd_literal_defines_no_variable : (is_misuse 1 (Input 3 ∷ Output 2 ∷ []) 0 ≡ true) × (is_misuse 1 (Input 3 ∷ Output 2 ∷ []) 1 ≡ true)
an_odd_literal_defines_no_variable = (refl, refl)

pub the_later_of_two_definitions_is_wrong : (is_misuse 2 (Input 2 ∷ And 2 1 1 ∷ []) 0 ≡ false) × (is_misuse 2 (Input 2 ∷ And 2 1 1 ∷ []) 1 ≡ true)
the_later_of_two_definitions_is_wrong = (refl, refl)

pub a_literal_is_held_against_the_greatest_variable : (is_misuse 1 (Input 4 ∷ []) 0 ≡ true) × (is_misuse 2 (Input 4 ∷ []) 0 ≡ false) × (is_misuse 0 (Input 0 ∷ []) 0 ≡ true)
a_literal_is_held_against_the_greatest_variable = (refl, refl, refl)
