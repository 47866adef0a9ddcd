-- Widths that are refused (IEEE 1364-2005, 5.4.1: here a word has 1 to 128 bits), and second selects (5.2.1 and 5.2.2: one bit of one word).
use Rattle.std.proofs.Common.{◌≡◌, ℕ, ◌+◌, List, [], ◌∷◌, refl}
use Rattle.std.specs.Prelude.{Bool, true, false, pos, Option, Some, None, Result, Ok, Err, codes}
use Rattle.v_syntax.specs.Tree.{Tree, tree, no_tree, Selection, Selections, no_select, select}
use Rattle.v_syntax.specs.Tree as written
use Rattle.v_syntax.specs.PartTree.{PlainLeft, name_left, concat_left, left, no_left}
use Rattle.design_core.specs.declared.expression.Typed.{Typed}
use Rattle.design_core.specs.Valuation.{number}
use Rattle.v_sizes.specs.declared.meaning.Meaning.TheVariants as meaning
use Rattle.v_sizes.specs.Word.{word}
use Rattle.v_binding.specs.declared.error.BindErr.{BindErr}
use Rattle.v_binding.specs.declared.error.BindErr.TheVariants as fault
use Rattle.v_binding.specs.declared.known.Use.TheVariants.{Stands as stands, Outside as outside}
use Rattle.v_binding.specs.declared.left.Left.{Left}
use Rattle.v_binding.specs.Names.{Names, known}
use Rattle.v_binding.specs.Expressions.{by_itself}
use Rattle.v_binding.specs.Lefts.{target}
use Rattle.binding_examples.proofs.Scene.{at, span, names, named}

-- beside the names of the scene v [99:0], the array m [3:0] of two words, the parameter n, which is 0, and the variable i of a loop
abbrev more : Names
more =
    known (codes "v") (stands (meaning.Signal 8 100 false (pos 99) (pos 0))) ∷ known (codes "m") (stands (meaning.Array 9 2 (pos 0) 4 false (pos 3) (pos 0)))
    ∷ known (codes "n") (stands (meaning.Constant (record { bits = word 32 0; signed = true }) (pos 31) (pos 0))) ∷ known (codes "i") outside ∷ names

-- the width of what is accepted, or why it is refused
abbrev width : Result Typed BindErr → Result ℕ BindErr
width (Ok e) = Ok e.width
width (Err e) = Err e

abbrev left_width : Result Left BindErr → Result ℕ BindErr
left_width (Ok l) = Ok l.width
left_width (Err e) = Err e

-- ---- widths
-- {v, NAME}
abbrev beside_v : List ℕ → Tree
beside_v name = written.concat (at 1) (tree (named 2 (codes "v")) (tree (named 3 name) no_tree))

pub a_concatenation_of_104_bits_is_accepted : width (by_itself more (beside_v (codes "w"))) ≡ Ok 104
a_concatenation_of_104_bits_is_accepted = refl

pub a_concatenation_of_200_bits_is_refused : width (by_itself more (beside_v (codes "v"))) ≡ Err (fault.Range (span 1))
a_concatenation_of_200_bits_is_refused = refl

-- the same on the left
abbrev left_beside_v : List ℕ → PlainLeft
left_beside_v name = concat_left (at 1) (left (name_left (at 2) (codes "v") no_select) (left (name_left (at 3) name no_select) no_left))

pub a_left_side_of_104_bits_is_accepted : left_width (target more (left_beside_v (codes "w"))) ≡ Ok 104
a_left_side_of_104_bits_is_accepted = refl

pub a_left_side_of_200_bits_is_refused : left_width (target more (left_beside_v (codes "v"))) ≡ Err (fault.Range (span 1))
a_left_side_of_200_bits_is_refused = refl

-- ---- selects
abbrev bit_at : ℕ → List ℕ → Selection
bit_at token name = written.bit (at token) (named (token + 1) name)

-- NAME[a]
abbrev one : Selections
one = select (bit_at 2 (codes "a")) no_select

-- NAME[a][INDEX]
abbrev word_bit : List ℕ → Selections
word_bit index = select (bit_at 2 (codes "a")) (select (bit_at 4 index) no_select)

abbrev two : Selections
two = word_bit (codes "b")

abbrev three : Selections
three = select (bit_at 2 (codes "a")) (select (bit_at 4 (codes "n")) (select (bit_at 6 (codes "n")) no_select))

abbrev value_of : List ℕ → Selections → Result ℕ BindErr
value_of name selects = width (by_itself more (written.name (at 1) name selects))

abbrev left_of : List ℕ → Selections → Result ℕ BindErr
left_of name selects = left_width (target more (name_left (at 1) name selects))

pub a_bit_of_a_word_is_accepted : (value_of (codes "w") one ≡ Ok 1) × (left_of (codes "w") one ≡ Ok 1)
a_bit_of_a_word_is_accepted = (refl, refl)

pub a_bit_of_a_bit_is_refused :
    (value_of (codes "w") two ≡ Err (fault.UnknownName (span 1))) × (left_of (codes "w") two ≡ Err (fault.UnknownName (span 1)))
a_bit_of_a_bit_is_refused = (refl, refl)

pub a_word_of_an_array_is_accepted : (value_of (codes "m") one ≡ Ok 4) × (left_of (codes "m") one ≡ Ok 4)
a_word_of_an_array_is_accepted = (refl, refl)

-- the bit of a word of an array has a constant index: m[a][n] and m[a][b]
pub a_constant_bit_of_a_word_of_an_array_is_accepted : (value_of (codes "m") (word_bit (codes "n")) ≡ Ok 1) × (left_of (codes "m") (word_bit (codes "n")) ≡ Ok 1)
unfolding word number
a_constant_bit_of_a_word_of_an_array_is_accepted = (refl, refl)

pub a_variable_bit_of_a_word_of_an_array_is_refused :
    (value_of (codes "m") two ≡ Err (fault.NotConstant (span 5))) × (left_of (codes "m") two ≡ Err (fault.NotConstant (span 5)))
a_variable_bit_of_a_word_of_an_array_is_refused = (refl, refl)

-- m[a][n][n]
pub a_bit_of_a_bit_of_an_array_is_refused :
    (value_of (codes "m") three ≡ Err (fault.UnknownName (span 1))) × (left_of (codes "m") three ≡ Err (fault.UnknownName (span 1)))
unfolding word
a_bit_of_a_bit_of_an_array_is_refused = (refl, refl)

pub an_array_without_an_index_is_refused :
    (value_of (codes "m") no_select ≡ Err (fault.UnknownName (span 1))) × (left_of (codes "m") no_select ≡ Err (fault.UnknownName (span 1)))
an_array_without_an_index_is_refused = (refl, refl)

-- outside of its loop a loop's variable is no constant; with two selects it is as unknown as any other name
pub the_variable_of_a_loop_is_no_constant_outside :
    (value_of (codes "i") one ≡ Err (fault.NotConstant (span 1))) × (left_of (codes "i") one ≡ Err (fault.NotConstant (span 1)))
the_variable_of_a_loop_is_no_constant_outside = (refl, refl)

pub the_variable_of_a_loop_has_no_second_select :
    (value_of (codes "i") two ≡ Err (fault.UnknownName (span 1))) × (left_of (codes "i") two ≡ Err (fault.UnknownName (span 1)))
the_variable_of_a_loop_has_no_second_select = (refl, refl)
