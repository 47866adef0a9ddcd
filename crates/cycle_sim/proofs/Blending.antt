-- Words and valuations in which some bits are replaced.
use Rattle.std.proofs.Common.{◌≡◌, ℕ, zero, suc, ◌+◌, ◌<◌, ◌%◌, min, List, length, set, drop, map, ap, ◌∙◌, sym, refl, arith}
use Rattle.std.specs.Prelude.{Bool, true, false, not, ◌&&◌, ◌||◌, ◌==◌, if◌then◌else◌, bit_and, bit_xor, slice_get, Some, option_map}
use Rattle.std.specs.Option.{option_map_or}
use Rattle.std.specs.Int.{bit_at}
use Rattle.std.proofs.Math.Path.{fun_ext}
use Rattle.std.proofs.lemmas.Nat.Bits.{bit_at_and, bit_at_xor, bit_at-lt}
use Rattle.std.proofs.lemmas.Bool.{eqb-true}
use Rattle.std.proofs.lemmas.Bool.Decides.{nat_tests}
use Rattle.std.proofs.lemmas.Option.{slice_get_within, slice_get-map}
use Rattle.std.proofs.lemmas.List.{length-map}
use Rattle.loc_base.specs.declared.bits.Bits.{Bits}
use Rattle.loc_base.specs.Bits.{bit_of, width_of, value_of}
use Rattle.loc_base.proofs.ShelfLists.{slice_get-set_same, slice_get-set_other}
use Rattle.loc_base.proofs.ShelfOptions.{Some-same}
use Rattle.design_core.specs.Valuation.{Valuation, bit}
use Rattle.design_core.specs.Words.{valuation_of}
use Rattle.plain_sim.specs.EvaluateCycle.{blended}
use Rattle.plain_values.proofs.EvaluateWords.{valuation-bit}
use Rattle.plain_sim.proofs.EvaluateSteps.{drop-some}
use Rattle.cycle_sim.specs.declared.mask.Mask.{Mask}
use Rattle.cycle_sim.specs.Masks.{in_mask, covers}

-- ---- one bit
and_of : (a b : ℕ) → a < 2 → b < 2 → (min a b == 1) ≡ ((a == 1) && (b == 1))
and_of zero zero ha hb = refl
and_of zero (suc zero) ha hb = refl
and_of (suc zero) zero ha hb = refl
and_of (suc zero) (suc zero) ha hb = refl
and_of (suc (suc a)) b ha hb = absurd (omega (arith, ha))
and_of zero (suc (suc b)) ha hb = absurd (omega (arith, hb))
and_of (suc zero) (suc (suc b)) ha hb = absurd (omega (arith, hb))

xor_of : (a b : ℕ) → a < 2 → b < 2 → ((a + b) % 2 == 1) ≡ (if a == 1 then not (b == 1) else b == 1)
xor_of zero zero ha hb = refl
xor_of zero (suc zero) ha hb = refl
xor_of (suc zero) zero ha hb = refl
xor_of (suc zero) (suc zero) ha hb = refl
xor_of (suc (suc a)) b ha hb = absurd (omega (arith, ha))
xor_of zero (suc (suc b)) ha hb = absurd (omega (arith, hb))
xor_of (suc zero) (suc (suc b)) ha hb = absurd (omega (arith, hb))

pub bit-and : (a b p : ℕ) → bit (bit_and a b) p ≡ (bit a p && bit b p)
bit-and a b p = ap (λ n. n == 1) (bit_at_and a b p) ∙ and_of (bit_at a p) (bit_at b p) (bit_at-lt a p) (bit_at-lt b p)

bit-xor : (a b p : ℕ) → bit (bit_xor a b) p ≡ (if bit a p then not (bit b p) else bit b p)
bit-xor a b p = ap (λ n. n == 1) (bit_at_xor a b p) ∙ xor_of (bit_at a p) (bit_at b p) (bit_at-lt a p) (bit_at-lt b p)

blend_bits : (t f m : Bool) → (if t then not ((if t then not f else f) && m) else (if t then not f else f) && m) ≡ (if m then f else t)
blend_bits true true true = refl
blend_bits true true false = refl
blend_bits true false true = refl
blend_bits true false false = refl
blend_bits false true true = refl
blend_bits false true false = refl
blend_bits false false true = refl
blend_bits false false false = refl

clear_bits_of : (t m : Bool) → (if t then not (t && m) else t && m) ≡ (if m then false else t)
clear_bits_of true true = refl
clear_bits_of true false = refl
clear_bits_of false true = refl
clear_bits_of false false = refl

-- ---- one word
pub blended_number : (t f m p : ℕ) → bit (bit_xor t (bit_and (bit_xor t f) m)) p ≡ (if bit m p then bit f p else bit t p)
blended_number t f m p =
    bit-xor t (bit_and (bit_xor t f) m) p
    ∙ ap (λ x. if bit t p then not x else x) (bit-and (bit_xor t f) m p ∙ ap (λ x. x && bit m p) (bit-xor t f p))
    ∙ blend_bits (bit t p) (bit f p) (bit m p)

pub cleared_number : (t m p : ℕ) → bit (bit_xor t (bit_and t m)) p ≡ (if bit m p then false else bit t p)
cleared_number t m p =
    bit-xor t (bit_and t m) p ∙ ap (λ x. if bit t p then not x else x) (bit-and t m p) ∙ clear_bits_of (bit t p) (bit m p)

pub ruleset bits_blended = (blended_number)

pub ruleset bits_cleared = (cleared_number)

-- ---- the words of a signal that is replaced
-- a mask's signal has a word
pub mask-within : (words : List Bits) (m : Mask) → slice_get (map width_of words) m.signal ≡ Some (width_of m.bits)
    → m.signal < length words
mask-within words m fits = omega (arith, slice_get_within (map width_of words) m.signal (width_of m.bits) fits, length-map words width_of)

-- the mask has the word's width
pub mask-width : (words : List Bits) (m : Mask) (word : Bits) → slice_get (map width_of words) m.signal ≡ Some (width_of m.bits)
    → slice_get words m.signal ≡ Some word → width_of m.bits ≡ width_of word
mask-width words m word fits at = Some-same (sym fits ∙ slice_get-map width_of words m.signal ∙ ap (option_map width_of) at)

pub eq-swap : (x y : ℕ) → (x == y) ≡ false → y ≡ x → ⊥
eq-swap x y e same = grind (arith, nat_tests)

-- one word replaced by another whose bits are chosen between two
pub replaced-bits : (words : List Bits) (F : Valuation) (m : Mask) (word new : Bits) → m.signal < length words
    → slice_get words m.signal ≡ Some word
    → ((b : ℕ) → bit_of new b ≡ (if bit_of m.bits b then F m.signal b else bit_of word b))
    → valuation_of (set words m.signal new) ≡ blended (in_mask m) F (valuation_of words)
replaced-bits words F m word new within at bits = fun_ext (λ s. fun_ext (λ b. by_signal s b (m.signal == s) refl))
  where
    by_signal : (s b : ℕ) (t : Bool) → (m.signal == s) ≡ t
        → valuation_of (set words m.signal new) s b ≡ blended (in_mask m) F (valuation_of words) s b
    by_signal s b true e =
        let same : m.signal ≡ s = eqb-true m.signal s e in
        ap (λ n. valuation_of (set words m.signal new) n b) (sym same)
        ∙ ap (λ o. option_map_or (λ w. bit_of w b) o false) (slice_get-set_same words m.signal new within)
        ∙ bits b
        ∙ ap (λ x. if bit_of m.bits b then F m.signal b else x) (sym (valuation-bit words m.signal b word at))
        ∙ ap (λ n. if bit_of m.bits b then F n b else valuation_of words n b) same
        ∙ sym (ap (λ t. if t && bit_of m.bits b then F s b else valuation_of words s b) e)
    by_signal s b false e =
        ap (λ o. option_map_or (λ w. bit_of w b) o false) (slice_get-set_other words m.signal s new (λ same. eq-swap m.signal s e same))
        ∙ sym (ap (λ t. if t && bit_of m.bits b then F s b else valuation_of words s b) e)

-- ---- masks one after another
later-first : (later own f t : Bool) (F : Bool) → (if later then F else (if own then F else t)) ≡ (if own || later then F else t)
later-first true true f t F = refl
later-first true false f t F = refl
later-first false true f t F = refl
later-first false false f t F = refl

pub blended-next : (masks : List Mask) (k : ℕ) (m : Mask) (F T : Valuation) → slice_get masks k ≡ Some m
    → blended (covers (drop (k + 1) masks)) F (blended (in_mask m) F T) ≡ blended (covers (drop k masks)) F T
blended-next masks k m F T at =
    fun_ext (λ s. fun_ext (λ b.
    later-first (covers (drop (k + 1) masks) s b) (in_mask m s b) false (T s b) (F s b)
    ∙ ap (λ ms. if covers ms s b then F s b else T s b) (sym (drop-some masks k m at))))

-- a mask with the bits alone that a word has
pub within-bits : (words : List Bits) (m narrower : Mask) (word : Bits) → slice_get words m.signal ≡ Some word → narrower.signal ≡ m.signal
    → value_of narrower.bits ≡ bit_and (value_of m.bits) (value_of word) → (s b : ℕ)
    → in_mask narrower s b ≡ (in_mask m s b && valuation_of words s b)
within-bits words m narrower word at signal value s b =
    ap (λ n. n == s && bit_of narrower.bits b) signal
    ∙ ap (λ x. m.signal == s && x) (ap (λ n. bit n b) value ∙ bit-and (value_of m.bits) (value_of word) b)
    ∙ by_signal (m.signal == s) refl
  where
    by_signal : (t : Bool) → (m.signal == s) ≡ t
        → (m.signal == s && (bit (value_of m.bits) b && bit (value_of word) b))
        ≡ ((m.signal == s && bit_of m.bits b) && valuation_of words s b)
    by_signal true e =
        let same : m.signal ≡ s = eqb-true m.signal s e in
        ap (λ t. t && (bit (value_of m.bits) b && bit (value_of word) b)) e
        ∙ ap (λ x. bit (value_of m.bits) b && x)
        (sym (ap (λ n. valuation_of words n b) (sym same) ∙ valuation-bit words m.signal b word at))
        ∙ sym (ap (λ t. (t && bit_of m.bits b) && valuation_of words s b) e)
    by_signal false e =
        ap (λ t. t && (bit (value_of m.bits) b && bit (value_of word) b)) e
        ∙ sym (ap (λ t. (t && bit_of m.bits b) && valuation_of words s b) e)
