-- The width and the sign that an expression has by itself (IEEE 1364-2005, 5.4.1, Table 5-22, and 5.5.1), whether it is a
-- constant, and what it means in a context: the value in whole numbers modulo 2 ^ width, where the context's width and sign go
-- down to the operands that it sizes (5.5.2) and every other operand is taken by itself.
-- Each is given for every expression. Where a part is refused, an unknown name counts as 1 bit, a width above 128 as 128,
-- and a count that is none as 1.
use Rattle.std.specs.Prelude.{ℕ, ◌+◌, ◌*◌, ◌%◌, ◌^◌, ◌==◌, Bool, true, false, ◌&&◌, if◌then◌else◌, min, max, ℤ, pos, negsuc, List, [], ◌∷◌, Option, Some, None, sum_by}
use Rattle.std.specs.Option.{option_map_or}
use Rattle.std.specs.List.{list_all}
use Rattle.loc_base.specs.Bits.{width_of, value_of}
use Rattle.loc_base.specs.Word.{extended}
use Rattle.v_syntax.specs.declared.operator.Unary.{Unary}
use Rattle.v_syntax.specs.declared.operator.SystemFunction.{SystemFunction}
use Rattle.v_syntax.specs.declared.operator.SystemFunction.TheVariants as function
use Rattle.v_syntax.specs.declared.expression.PartKind.{PartKind}
use Rattle.v_syntax.specs.declared.expression.PartKind.TheVariants as kind
use Rattle.v_syntax.specs.Tree.{Tree, Trees, no_tree, tree, Selections, no_select, select}
use Rattle.v_syntax.specs.Tree as written
use Rattle.design_core.specs.Valuation.{Valuation, number, bit, word_at, distance_of}
use Rattle.design_core.specs.Constant.{zeros}
use Rattle.design_core.specs.Operator.{is_true, integer_of, repeated}
use Rattle.design_core.specs.Operator as operator
use Rattle.v_sizes.specs.declared.meaning.Meaning.{Meaning}
use Rattle.v_sizes.specs.declared.meaning.Meaning.TheVariants as meaning
use Rattle.v_sizes.specs.Look.{Look}
use Rattle.v_sizes.specs.Literal.{limited, literal_width, literal_signed, literal_value}
use Rattle.v_sizes.specs.Selected.{part_count, base_index, part_offset, part_number, part_distance, bit_at_index, bits_within, descends}
use Rattle.v_sizes.specs.Operations.{unary_of, Class, by_context, shift, comparison, logical, quotient, remainder, power, class_of, keeps_width, quotient_of, remainder_of, power_of, ceiling_of_logarithm}

-- how many times a replication's parts stand: a count below 1 counts as 1, and one above 255 as 255
abbrev pub times_of : ℤ → ℕ
times_of (pos n) = max 1 (min n 255)
times_of (negsuc _) = 1

-- what an expression is by itself, and its value in a context
pub record Sizing : Type 0 where
  pub width : ℕ
  pub signed : Bool
  -- whether it reads no signal
  pub constant : Bool
  -- by a width and a sign
  pub value : Valuation → ℕ → Bool → ℕ

-- its value by itself, and the whole number that this means
abbrev pub own : Sizing → Valuation → ℕ
own e V = e.value V e.width e.signed

abbrev pub integer : Sizing → Valuation → ℤ
integer e V = integer_of e.signed e.width (own e V)

-- that of a constant; 0 where there is none
abbrev pub known : Sizing → ℤ
known e = if e.constant then integer e zeros else pos 0

-- what has its width and its value whatever the context is: extended by the context's sign
abbrev pub by_itself : ℕ → Bool → Bool → (Valuation → ℕ) → Sizing
by_itself width signed constant value_in =
    record { width = width; signed = signed; constant = constant; value = λ V size as_signed. extended as_signed width size (value_in V) }

-- ---- numbers
abbrev pub literal : List ℕ → Sizing
literal text = by_itself (literal_width text) (literal_signed text) true (λ _. literal_value text)

-- ---- names with their selects
pub data Chosen : Type 0 where
  one_bit : Sizing → Chosen
  some_bits : PartKind → Sizing → Sizing → Chosen

-- what a select chooses from: a word with the indexes of its leftmost and rightmost bit
pub record Word : Type 0 where
  pub width : ℕ
  pub left : ℤ
  pub right : ℤ
  pub bits : ℕ → Bool

-- whether what a select must know is constant: both bounds of a range, or the count alone
abbrev pub has_known_size : Chosen → Bool
has_known_size (one_bit _) = true
has_known_size (some_bits kind.Range one other) = one.constant && other.constant
has_known_size (some_bits kind.Up one other) = other.constant
has_known_size (some_bits kind.Down one other) = other.constant

-- the width that a select gives, and the number of its bits
abbrev pub chosen_width : Chosen → ℕ
chosen_width (one_bit _) = 1
chosen_width (some_bits kind one other) = if has_known_size (some_bits kind one other) then limited (part_count kind (known one) (known other)) else 1

-- the value of a word with its select, if there is one
abbrev pub chosen_value : Word → List Chosen → Valuation → ℕ
chosen_value w [] V = number w.width w.bits
chosen_value w (one_bit index ∷ _) V = if bit_at_index w.bits w.width w.left w.right (integer index V) then 1 else 0
chosen_value w (some_bits kind one other ∷ _) V =
    let count = chosen_width (some_bits kind one other) in
    part_number w.bits w.width w.left w.right (base_index kind (integer one V) (integer other V)) count (part_offset kind (descends w.left w.right) count)

-- whether the numbers of a select are constants
abbrev pub is_chosen_by_constants : Chosen → Bool
is_chosen_by_constants (one_bit index) = index.constant
is_chosen_by_constants (some_bits _ one other) = one.constant && other.constant

-- whether a select by constants names no bit of a word
abbrev pub has_no_bit : ℕ → ℤ → ℤ → Chosen → Bool
has_no_bit width left right (one_bit index) = bits_within width 1 (distance_of left right (known index)) == 0
has_no_bit width left right (some_bits kind one other) =
    let count = chosen_width (some_bits kind one other) in
    bits_within width count (part_distance left right kind (known one) (known other) count) == 0

-- whether the first select is by constants and names no bit of a word
abbrev pub names_no_bit : ℕ → ℤ → ℤ → List Chosen → Bool
names_no_bit width left right [] = false
names_no_bit width left right (chosen ∷ _) = is_chosen_by_constants chosen && has_no_bit width left right chosen

abbrev pub is_none : Option ℕ → Bool
is_none word = option_map_or (λ _. false) word true

-- the bits of the word of an array at an address; 0 where there is none
abbrev pub word_bits : Valuation → Option ℕ → ℕ → Bool
word_bits V word b = option_map_or (λ signal. V signal b) word false

-- a word with its selects: one that is signed is so as a whole alone
abbrev pub word_sizing : ℕ → Bool → Bool → (Valuation → Word) → List Chosen → Sizing
word_sizing width signed constant word [] = by_itself width signed constant (λ V. chosen_value (word V) [] V)
word_sizing width signed constant word (chosen ∷ rest) =
    by_itself (chosen_width chosen) false constant (λ V. chosen_value (word V) (chosen ∷ rest) V)

-- a name by what it stands for. A word of an array at a constant address that is none of its addresses reads no signal, nor do bits
-- that no word has
abbrev pub meaning_sizing : Meaning → List Chosen → Sizing
meaning_sizing (meaning.Constant value left right) chosen =
    word_sizing (width_of value.bits) value.signed (list_all is_chosen_by_constants chosen)
    (λ _. record { width = width_of value.bits; left = left; right = right; bits = bit (value_of value.bits) }) chosen
meaning_sizing (meaning.Signal signal width signed left right) chosen =
    word_sizing width signed false (λ V. record { width = width; left = left; right = right; bits = V signal }) chosen
meaning_sizing (meaning.Array first count low width signed left right) (one_bit index ∷ rest) =
    word_sizing width signed
    (if index.constant then is_none (word_at first count low (known index)) else names_no_bit width left right rest)
    (λ V. record { width = width; left = left; right = right; bits = word_bits V (word_at first count low (integer index V)) }) rest
meaning_sizing (meaning.Array _ _ _ width _ _ _) [] = by_itself width false false (λ _. 0)
meaning_sizing (meaning.Array _ _ _ width _ _ _) (some_bits _ _ _ ∷ _) = by_itself width false false (λ _. 0)

abbrev pub name_sizing : Option Meaning → List Chosen → Sizing
name_sizing None chosen = by_itself 1 false false (λ _. 0)
name_sizing (Some m) chosen = meaning_sizing m chosen

-- ---- concatenations
abbrev pub joined_width : List Sizing → ℕ
joined_width parts = sum_by (λ part. part.width) parts

-- the parts from the left, behind what stands to their left
abbrev pub joined_value : ℕ → List Sizing → Valuation → ℕ
joined_value before [] V = before
joined_value before (part ∷ rest) V = joined_value (before * 2 ^ part.width + own part V) rest V

abbrev pub are_constant : List Sizing → Bool
are_constant parts = list_all (λ part. part.constant) parts

abbrev pub joined : List Sizing → Sizing
joined parts =
    by_itself (limited (joined_width parts)) false (are_constant parts) (λ V. joined_value 0 parts V % 2 ^ limited (joined_width parts))

abbrev pub replicated : Sizing → List Sizing → Sizing
replicated count parts =
    by_itself (limited (times_of (known count) * joined_width parts)) false (are_constant parts)
    (λ V. repeated (times_of (known count)) (joined_width parts) (joined_value 0 parts V) % 2 ^ limited (times_of (known count) * joined_width parts))

-- ---- operators
abbrev pub called : SystemFunction → Sizing → Sizing
called function.Signed argument = by_itself argument.width true argument.constant (own argument)
called function.Unsigned argument = by_itself argument.width false argument.constant (own argument)
called function.Clog2 argument = by_itself 32 true argument.constant (λ V. ceiling_of_logarithm (own argument V))

abbrev pub unary_sizing : Unary → Sizing → Sizing
unary_sizing op e =
    if keeps_width op
    then record { width = e.width; signed = e.signed; constant = e.constant; value = λ V size signed. operator.unary (unary_of op) size (e.value V size signed) }
    else by_itself 1 false e.constant (λ V. operator.unary (unary_of op) e.width (own e V))

-- both operands by the context; signed where both are
abbrev pub both_by_context : Sizing → Sizing → (ℕ → Bool → ℕ → ℕ → ℕ) → Sizing
both_by_context left right of =
    record { width = max left.width right.width; signed = left.signed && right.signed; constant = left.constant && right.constant; value = λ V size signed. of size signed (left.value V size signed) (right.value V size signed) }

-- the left operand by the context, which alone decides the sign, and the right one by itself
abbrev pub left_by_context : Sizing → Sizing → (Valuation → ℕ → Bool → ℕ → ℕ) → Sizing
left_by_context left right of =
    record { width = left.width; signed = left.signed; constant = left.constant && right.constant; value = λ V size signed. of V size signed (left.value V size signed) }

-- both operands in one context of their own: the max of their widths, signed where both are (5.1.7, 5.1.8)
abbrev pub compared : Sizing → Sizing → (ℕ → Bool → ℕ → ℕ → ℕ) → Sizing
compared left right of =
    let size = max left.width right.width in
    let signed = left.signed && right.signed in
    by_itself 1 false (left.constant && right.constant) (λ V. of size signed (left.value V size signed) (right.value V size signed))

abbrev pub class_sizing : Class → Sizing → Sizing → Sizing
class_sizing (by_context op) left right = both_by_context left right (λ size signed a b. operator.binary op size signed signed a b)
class_sizing (shift op) left right = left_by_context left right (λ V size signed a. operator.binary op size signed right.signed a (own right V))
class_sizing (comparison op) left right = compared left right (λ size signed a b. operator.binary op size signed signed a b)
class_sizing (logical op) left right =
    by_itself 1 false (left.constant && right.constant) (λ V. operator.binary op left.width left.signed right.signed (own left V) (own right V))
class_sizing quotient left right = both_by_context left right (λ size signed a b. quotient_of size (integer_of signed size a) (integer_of signed size b))
class_sizing remainder left right = both_by_context left right (λ size signed a b. remainder_of size (integer_of signed size a) (integer_of signed size b))
class_sizing power left right = left_by_context left right (λ V size signed a. power_of size a (integer right V))

abbrev pub conditional : Sizing → Sizing → Sizing → Sizing
conditional condition on_true on_false =
    record { width = max on_true.width on_false.width; signed = on_true.signed && on_false.signed; constant = condition.constant && on_true.constant && on_false.constant; value = λ V size signed. if is_true (own condition V) then on_true.value V size signed else on_false.value V size signed }

-- ---- expressions
abbrev mutual
  pub sizing : Look → Tree → Sizing
  sizing look (written.number _ text) = literal text
  sizing look (written.wild _ text) = literal text
  sizing look (written.name _ text selects) = name_sizing (look text) (chosen_of look selects)
  sizing look (written.parens _ inner) = sizing look inner
  sizing look (written.concat _ parts) = joined (sizings look parts)
  sizing look (written.repeat _ count parts) = replicated (sizing look count) (sizings look parts)
  sizing look (written.system _ name argument) = called name (sizing look argument)
  sizing look (written.unary _ op operand) = unary_sizing op (sizing look operand)
  sizing look (written.binary _ op left right) = class_sizing (class_of op) (sizing look left) (sizing look right)
  sizing look (written.conditional _ condition on_true on_false) = conditional (sizing look condition) (sizing look on_true) (sizing look on_false)

  pub sizings : Look → Trees → List Sizing
  sizings look no_tree = []
  sizings look (tree one rest) = sizing look one ∷ sizings look rest

  pub chosen_of : Look → Selections → List Chosen
  chosen_of look no_select = []
  chosen_of look (select (written.bit _ index) rest) = one_bit (sizing look index) ∷ chosen_of look rest
  chosen_of look (select (written.part _ kind one other) rest) = some_bits kind (sizing look one) (sizing look other) ∷ chosen_of look rest
