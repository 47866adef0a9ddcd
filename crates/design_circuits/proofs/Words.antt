-- Bits of words and of states, and the literals that mean the bits of a number.
use Rattle.std.proofs.Common.{◌≡◌, ◌⊎◌, inl, inr, ℕ, zero, suc, ◌+◌, ◌^◌, ◌<◌, ◌≤◌, ◌==◌, ◌&&◌, Bool, false, List, [], ◌∷◌, length, map, get_or, Option, Some, None, refl, sym, ◌∙◌, ap, arith}
use Rattle.std.specs.Prelude.{nat_lt, slice_get}
use Rattle.std.specs.Option.{option_map, option_map_or}
use Rattle.std.proofs.lemmas.Bool.{cases_lt, lt-ltb, le-ltb}
use Rattle.std.proofs.lemmas.List.{get_or_past}
use Rattle.std.proofs.lemmas.Nat.Bits.{bit_at_above}
use Rattle.std.proofs.lemmas.Option.{slice_get-map}
use Rattle.loc_base.proofs.ShelfOptions.{Some-same}
use Rattle.loc_base.specs.declared.bits.Bits.{Bits}
use Rattle.loc_base.specs.Bits.{bit_of, value_of}
use Rattle.gate_base.specs.declared.literal.Literal.{Literal}
use Rattle.gate_base.specs.declared.literal.Literal.TheVariants.{Known}
use Rattle.gate_base.specs.declared.node.Node.{Node}
use Rattle.gate_base.specs.Meaning.{Source, MeansAll, more, bit_value, literal_value}
use Rattle.design_core.specs.declared.design.Design.{Design}
use Rattle.design_core.specs.Valuation.{Valuation, bit, number, width_at}
use Rattle.design_core.proofs.NumberLaws.{number-below}
use Rattle.word_net.specs.Given.{number_at}
use Rattle.bit_circuit.specs.Meaning.{IsOf}
use Rattle.bit_circuit.proofs.Bits.{bits_from, word-bits}
use Rattle.synth_parts.specs.Meaning.{word_of}
use Rattle.synth_parts.proofs.Base.{bit-number}
use Rattle.v_synth.specs.Net.{states_of}
use Rattle.unroller.specs.Cycles.{sampled}
use Rattle.design_circuits.specs.Reading.{read_of}

-- ---- bits of numbers

bit-past : (v w b : ℕ) → v < 2 ^ w → w ≤ b → bit v b ≡ false
bit-past v w b less past = ap (λ n. n == 1) (bit_at_above v w b less past)

-- each bit of the number that some bits mean
pub bit-within : (w : ℕ) (f : ℕ → Bool) (b : ℕ) → bit (number w f) b ≡ (nat_lt b w && f b)
bit-within w f b = at (cases_lt b w)
  where
    at : (b < w) ⊎ (w ≤ b) → bit (number w f) b ≡ (nat_lt b w && f b)
    at (inl low) = bit-number w f b low ∙ sym (ap (λ t. t && f b) (lt-ltb b w low))
    at (inr past) = bit-past (number w f) w b (number-below w f) past ∙ sym (ap (λ t. t && f b) (le-ltb b w past))

-- a bit of a word of a list
pub word-read : (words : List Bits) (i b : ℕ) → sampled words i b ≡ bit (number_at words i) b
word-read words i b = at (slice_get words i)
  where
    at : (o : Option Bits) → option_map_or (λ w. bit_of w b) o false ≡ bit (option_map_or value_of o 0) b
    at None = sym (bit-past 0 0 b (omega arith) (omega arith))
    at (Some w) = refl

-- the number of a state
abbrev pub state_number : Design → Valuation → ℕ → ℕ
state_number d V s = option_map_or (word_of d.signals.items V) (slice_get (states_of d) s) 0

-- a bit of it
pub state-read : (d : Design) (V : Valuation) (s b : ℕ) → read_of d V s b ≡ bit (state_number d V s) b
state-read d V s b = at (slice_get (states_of d) s)
  where
    at : (o : Option ℕ) → option_map_or (λ x. nat_lt b (width_at d.signals.items x) && V x b) o false
        ≡ bit (option_map_or (word_of d.signals.items V) o 0) b
    at None = sym (bit-past 0 0 b (omega arith) (omega arith))
    at (Some x) = sym (bit-within (width_at d.signals.items x) (V x) b)

-- ---- images of lists

pub image-or : {X : Type 0} (f : X → ℕ) (xs : List X) (i : ℕ) → get_or (map f xs) i 0 ≡ option_map_or f (slice_get xs i) 0
image-or f [] i = refl
image-or f (x ∷ xs) zero = refl
image-or f (x ∷ xs) (suc i) = image-or f xs i

-- where the images of two lists are the same, so are those of what stands at a number
pub images-at : (f g : ℕ → ℕ) (xs ys : List ℕ) (i x y : ℕ) → map f xs ≡ map g ys → slice_get xs i ≡ Some x → slice_get ys i ≡ Some y
    → f x ≡ g y
images-at f g xs ys i x y same in_xs in_ys =
    Some-same
    (ap (option_map f) (sym in_xs) ∙ sym (slice_get-map f xs i) ∙ ap (λ zs. slice_get zs i) same ∙ slice_get-map g ys i
    ∙ ap (option_map g) in_ys)

-- ---- literals

pub known-false : (e : Source) (nodes : List Node) → bit_value e nodes (Known false) ≡ false
unfolding bit_value literal_value
known-false e nodes = refl

bits-mean : {e : Source} {nodes : List Node} (xs : List Literal) (f : ℕ → Bool) (from b : ℕ)
    → MeansAll e nodes xs (bits_from f from (length xs)) → b < length xs
    → bit_value e nodes (get_or xs b (Known false)) ≡ f (from + b)
unfolding bits_from
bits-mean [] f from b means low = absurd (omega (arith, low))
bits-mean (x ∷ xs) f from zero (more m ms) low = m.value ∙ ap f (omega arith)
bits-mean (x ∷ xs) f from (suc b) (more m ms) low =
    let later : from + 1 + b ≡ from + suc b = omega arith in bits-mean xs f (from + 1) b ms (omega (arith, low)) ∙ ap f later

-- the literal of a bit of a word, false where there is none
pub literal-means : {e : Source} {nodes : List Node} {xs : List Literal} (width value b : ℕ) → IsOf e nodes xs width value
    → value < 2 ^ width
    → bit_value e nodes (get_or xs b (Known false)) ≡ bit value b
literal-means {e} {nodes} {xs} width value b of less = at (cases_lt b (length xs))
  where
    at : (b < length xs) ⊎ (length xs ≤ b) → bit_value e nodes (get_or xs b (Known false)) ≡ bit value b
    at (inl low) = let same : 0 + b ≡ b = omega arith in bits-mean xs (bit value) 0 b (word-bits of.is) low ∙ ap (bit value) same
    at (inr past) =
        ap (bit_value e nodes) (get_or_past xs b (Known false) past) ∙ known-false e nodes
        ∙ sym (bit-past value width b less (omega (arith, past, of.wide)))
