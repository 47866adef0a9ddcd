-- What the words of the signals say about the valuation that they are.
use Rattle.std.proofs.Common.{◌≡◌, ℕ, ◌+◌, ◌/◌, ◌%◌, ◌^◌, ◌<◌, List, length, get_or, ap, ◌∙◌, sym, refl}
use Rattle.std.specs.Prelude.{false, slice_get, Option, Some, None, option_map}
use Rattle.std.specs.Option.{option_map_or}
use Rattle.std.proofs.lemmas.Option.{slice_get-map}
use Rattle.std.proofs.lemmas.List.{length-map}
use Rattle.std.proofs.Math.Nat.{mod-eq_of_lt}
use Rattle.loc_base.specs.declared.bits.Bits.{Bits}
use Rattle.loc_base.specs.Bits.{bit_of, width_of, value_of, value_of-range}
use Rattle.loc_base.proofs.ShelfLists.{slice_get-at}
use Rattle.loc_base.proofs.ShelfOptions.{Some-same}
use Rattle.design_core.specs.declared.signal.Signal.{Signal}
use Rattle.design_core.specs.Valuation.{bit, number, width_at}
use Rattle.design_core.specs.Words.{valuation_of, AreWordsOf}
use Rattle.design_core.proofs.NumberLaws.{number-same, number-bit, number-part}

-- the element that is read at a place is the one there: the shelf's law, under a name that tactics can cite
pub slice_get_at : {X : Type 0} (xs : List X) (i : ℕ) (x : X) → i < length xs → x ≡ get_or xs i x → slice_get xs i ≡ Some x
slice_get_at xs i x h e = slice_get-at xs i x h e

-- and no other is there
pub slice_get_same : {X : Type 0} (xs : List X) (i : ℕ) (x y : X) → i < length xs → x ≡ get_or xs i x → slice_get xs i ≡ Some y → x ≡ y
slice_get_same xs i x y h e is = Some-same (sym (slice_get-at xs i x h e) ∙ is)

-- a bit of a signal's word
pub valuation-bit : (words : List Bits) (s b : ℕ) (word : Bits) → slice_get words s ≡ Some word → valuation_of words s b ≡ bit (value_of word) b
valuation-bit words s b word is = ap (λ o. option_map_or (λ w. bit_of w b) o false) is

-- all bits of a word, and some
pub number-word : (words : List Bits) (s : ℕ) (word : Bits) → slice_get words s ≡ Some word →
    number (width_of word) (valuation_of words s) ≡ value_of word
number-word words s word is =
    number-same (width_of word) (valuation_of words s) (bit (value_of word)) (λ b h. valuation-bit words s b word is)
    ∙ number-bit (width_of word) (value_of word)
    ∙ mod-eq_of_lt (value_of-range word)

pub number-word_part : (words : List Bits) (s from width : ℕ) (word : Bits) → slice_get words s ≡ Some word →
    number width (λ b. valuation_of words s (from + b)) ≡ value_of word / 2 ^ from % 2 ^ width
number-word_part words s from width word is =
    number-same width (λ b. valuation_of words s (from + b)) (λ b. bit (value_of word) (from + b)) (λ b h. valuation-bit words s (from + b) word is)
    ∙ number-part width from (value_of word)

-- the words have the widths of the signals, and are as many
pub word-width : (signals : List Signal) (words : List Bits) (s : ℕ) (word : Bits) → AreWordsOf signals words
    → slice_get words s ≡ Some word → width_of word ≡ width_at signals s
word-width signals words s word fit is =
    ap (λ o. option_map_or width_of o 0) (sym is)
    ∙ mapped width_of (slice_get words s)
    ∙ ap (λ o. option_map_or (λ w. w) o 0) (sym (slice_get-map width_of words s) ∙ ap (λ ws. slice_get ws s) fit.widths ∙ slice_get-map (λ x. x.width) signals s)
    ∙ sym (mapped (λ x. x.width) (slice_get signals s))
  where
    mapped : {X : Type 0} (f : X → ℕ) (o : Option X) → option_map_or f o 0 ≡ option_map_or (λ w. w) (option_map f o) 0
    mapped f None = refl
    mapped f (Some x) = refl

pub words-length : (signals : List Signal) (words : List Bits) → AreWordsOf signals words → length words ≡ length signals
words-length signals words fit =
    sym (length-map words width_of) ∙ ap length fit.widths ∙ length-map signals (λ x. x.width)
