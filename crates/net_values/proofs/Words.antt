-- Words that are read by their numbers.
use Rattle.std.proofs.Common.{◌≡◌, ℕ, zero, suc, ◌<◌, ◌≤◌, ◌^◌, ◌%◌, Bool, true, false, List, [], ◌∷◌, length, map, get_or, Some, refl, sym, ◌∙◌, ap, subst, arith}
use Rattle.std.specs.Prelude.{slice_get, option_map}
use Rattle.std.specs.Option.{option_map_or}
use Rattle.std.proofs.lemmas.Option.{slice_get_within, slice_get-map}
use Rattle.std.proofs.lemmas.List.{length-map}
use Rattle.loc_base.specs.declared.bits.Bits.{Bits}
use Rattle.loc_base.specs.Bits.{width_of, value_of}
use Rattle.loc_base.proofs.ShelfLists.{slice_get-at, slice_get-some}
use Rattle.loc_base.proofs.ShelfOptions.{Some-same}
use Rattle.design_core.specs.Valuation.{bit, number}
use Rattle.design_core.proofs.NumberLaws.{number-bit}
use Rattle.word_net.specs.Fits.{OperandFits}
use Rattle.word_net.specs.Given.{HasWord, number_at}
use Rattle.word_net.specs.Values.{read}
use Rattle.word_net.specs.declared.node.Operand.{Operand}

word-width : (words : List Bits) (i width : ℕ) (x : Bits) → slice_get (map width_of words) i ≡ Some width → slice_get words i ≡ Some x → width_of x ≡ width
word-width words i width x has at = Some-same (ap (option_map width_of) (sym at) ∙ sym (slice_get-map width_of words i) ∙ has)

pub word-within : (words : List Bits) (i width : ℕ) → slice_get (map width_of words) i ≡ Some width → i < length words
word-within words i width has = omega (arith, slice_get_within (map width_of words) i width has, length-map words width_of)

pub word-is : (words : List Bits) (i width : ℕ) (x : Bits) → slice_get (map width_of words) i ≡ Some width → x ≡ get_or words i x → (width_of x ≡ width) × (value_of x ≡ number_at words i)
word-is words i width x has is =
    let at = slice_get-at words i x (word-within words i width has) is in (word-width words i width x has at, ap (λ o. option_map_or value_of o 0) (sym at))

pub ruleset word_steps = (word-within, word-is)

number-read : (words : List Bits) (i : ℕ) → get_or (map value_of words) i 0 ≡ number_at words i
number-read [] i = refl
number-read (x ∷ words) zero = refl
number-read (x ∷ words) (suc i) = number-read words i

pub read-within : (words : List Bits) (operand : Operand) → OperandFits (map width_of words) operand → operand.node < length words
read-within words operand has = word-within words operand.node operand.width has

pub read-is : (words : List Bits) (operand : Operand) (x : Bits) → OperandFits (map width_of words) operand → x ≡ get_or words operand.node x → (width_of x ≡ operand.width) × (value_of x ≡ read (map value_of words) operand)
read-is words operand x has is =
    let both = word-is words operand.node operand.width x has is in (both.0, both.1 ∙ sym (number-read words operand.node))

pub ruleset read_steps = (read-within, read-is)

-- what a place assigns is as wide as the place at least
pub assigned-wide : (freed : List Bool) (chosen : List Bits) (place width : ℕ) (computed result : Bits) → place < length freed → HasWord chosen place width → width ≤ width_of computed
    → (slice_get freed place ≡ Some true → slice_get chosen place ≡ Some result) → (slice_get freed place ≡ Some false → result ≡ computed) → width ≤ width_of result
assigned-wide freed chosen place width computed result within has wide when_freed when_not =
    let (b, at) = slice_get-some freed place within in cases b at
  where
    cases : (b : Bool) → slice_get freed place ≡ Some b → width ≤ width_of result
    cases true at = let same : width_of result ≡ width = word-width chosen place width result has (when_freed at) in omega (arith, same)
    cases false at = subst (λ r. width ≤ width_of r) (sym (when_not at)) wide

pub low-bits : (width v u : ℕ) → u ≡ v % 2 ^ width → u ≡ number width (bit v)
low-bits width v u is = is ∙ sym (number-bit width v)

pub ruleset assign_steps = (word-within, assigned-wide, low-bits)
