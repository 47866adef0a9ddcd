-- Worked examples of what is read and ignored: a byte-order mark, `line` directives, attributes and real delays.
use Rattle.std.proofs.Common.{◌≡◌, true, false, ◌∷◌, refl, Some, None}
use Rattle.std.specs.Prelude.{codes}
use Rattle.v_syntax.specs.Bytes.{is_white, is_letter, is_decimal}
use Rattle.v_lexer.specs.declared.pieces.Piece.TheVariants.{Blank, OpenComment, RealDelay}
use Rattle.v_syntax.specs.Numbers.{is_decimal_or_underscore}
use Rattle.v_lexer.specs.RealDelays.{is_exponent_mark, is_plus_or_minus, is_power, is_exponent, is_fraction_rest, is_fraction, is_real_rest}
use Rattle.v_lexer.specs.Pieces.{kind_in, taken_rest, paren_rest, attribute_rest, block_rest, hash_rest}
use Rattle.v_lexer.specs.LineDirectives.{is_line_tail}
use Rattle.v_lexer.specs.Acts.{stays_fresh}
use Rattle.v_lexer.specs.Tokens.{mark_size}

-- the bytes EF BB BF before the text are passed over
pub a_mark_is_passed_over : mark_size (239 ∷ 187 ∷ 191 ∷ codes "module") ≡ 3
a_mark_is_passed_over = refl

pub a_text_without_a_mark_has_nothing_before_it : mark_size (codes "module") ≡ 0
a_text_without_a_mark_has_nothing_before_it = refl

-- behind `line` stand a number, a name and a level
pub a_line_has_a_number_a_name_and_a_level : is_line_tail (codes " 7 \"a b.v\" 2 ") ≡ true
unfolding is_line_tail is_white is_decimal
a_line_has_a_number_a_name_and_a_level = refl

pub a_line_without_a_level_is_none : is_line_tail (codes " 7 \"a b.v\"") ≡ false
unfolding is_line_tail is_white is_decimal
a_line_without_a_level_is_none = refl

pub a_line_with_a_comment_is_none : is_line_tail (codes " 7 \"a b.v\" 2 // c") ≡ false
unfolding is_line_tail is_white is_decimal
a_line_with_a_comment_is_none = refl

-- a newline begins a line, and a token ends that only white space stands on it
pub a_newline_begins_a_line : stays_fresh false (codes " \n ") ≡ true
unfolding is_white
a_newline_begins_a_line = refl

pub a_comment_over_two_lines_begins_none : stays_fresh true (codes "/*\n*/") ≡ false
unfolding is_white
a_comment_over_two_lines_begins_none = refl

-- an attribute is passed over; a star alone in parentheses is none
pub an_attribute_is_passed_over : kind_in false (codes "(* a = 1 *)") ≡ Some Blank
unfolding taken_rest paren_rest attribute_rest block_rest is_white is_letter is_decimal
an_attribute_is_passed_over = refl

pub an_attribute_may_be_open : kind_in false (codes "(* a = 1") ≡ Some OpenComment
unfolding taken_rest paren_rest attribute_rest block_rest is_white is_letter is_decimal
an_attribute_may_be_open = refl

pub a_star_in_parentheses_is_no_attribute : kind_in false (codes "(* )") ≡ None
unfolding taken_rest paren_rest attribute_rest block_rest is_white is_letter is_decimal
a_star_in_parentheses_is_no_attribute = refl

-- a real number is a delay directly behind a `#`
pub a_real_delay_has_a_fraction : kind_in false (codes "#0.5") ≡ Some RealDelay
unfolding taken_rest hash_rest is_real_rest is_fraction is_fraction_rest is_exponent_mark is_decimal_or_underscore is_white is_letter is_decimal
a_real_delay_has_a_fraction = refl

pub a_real_delay_has_an_exponent : kind_in false (codes "#1e-9") ≡ Some RealDelay
unfolding taken_rest hash_rest is_real_rest is_exponent is_power is_exponent_mark is_plus_or_minus is_decimal_or_underscore is_white is_letter is_decimal
a_real_delay_has_an_exponent = refl

pub a_real_number_behind_a_space_is_none : kind_in false (codes "# 0.5") ≡ None
unfolding taken_rest hash_rest is_white is_letter is_decimal
a_real_number_behind_a_space_is_none = refl
