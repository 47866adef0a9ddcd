-- A left side stored from the left, seen from its last part; and what is known of a part that fits.
use Rattle.std.proofs.Common.{◌≡◌, ℕ, ◌+◌, ◌-◌, ◌/◌, ◌^◌, ◌<◌, ◌≤◌, List, [], ◌∷◌, ◌++◌, ap, arith, ◌∙◌, sym, refl, zero-add, ◌+ℤ◌}
use Rattle.std.specs.Prelude.{Bool, true, false, ◌&&◌, ◌==◌, nat_le, nat_lt, IsTrue, ℤ, slice_get, Option, Some, None, option_map}
use Rattle.std.specs.Option.{option_map_or, option_and_then}
use Rattle.std.proofs.Math.Path.{fun_ext}
use Rattle.std.proofs.lemmas.Option.{slice_get-map}
use Rattle.std.proofs.lemmas.Bool.Decides.{nat_tests}
use Rattle.loc_base.specs.declared.bits.Bits.{Bits}
use Rattle.loc_base.specs.Bits.{width_of}
use Rattle.design_core.specs.declared.signal.Signal.{Signal}
use Rattle.design_core.specs.declared.statement.Part.{Part}
use Rattle.design_core.specs.declared.statement.Part.TheVariants.{Whole}
use Rattle.design_core.specs.Valuation.{Valuation, bit, width_at, distance_of, position_of}
use Rattle.design_core.specs.Store.{part_width, parts_width, with_bits, with_bit, with_picked, store_part, store}
use Rattle.design_core.specs.After.{Updates, after_set}
use Rattle.design_core.specs.WellFormed.{slice_fits}
use Rattle.design_core.specs.Words.{AreWordsOf}
use Rattle.plain_values.proofs.EvaluateValue.{within-place}
use Rattle.plain_values.proofs.EvaluateWords.{word-width}
use Rattle.plain_values.proofs.EvaluateWrite.{bit-shr}

-- ---- what fits
pub word-within : (signals : List Signal) (words : List Bits) (s most : ℕ) → AreWordsOf signals words → most ≤ width_at signals s
    → (word : Bits) → slice_get words s ≡ Some word → most ≤ width_of word
word-within signals words s most fit h word is = omega (arith, word-width signals words s word fit is)

pub signal-width : (signals : List Signal) (s : ℕ) (declared : Signal) → slice_get signals s ≡ Some declared → width_at signals s ≡ declared.width
signal-width signals s declared is = ap (λ o. option_map_or (λ d. d.width) o 0) is

pub part_slice-within : (signals : List Signal) (s from size : ℕ) → IsTrue (slice_fits signals s from size) → from + size ≤ width_at signals s
part_slice-within signals s from size fits = grind (arith, nat_tests)

pub signal-most : (signals : List Signal) (words : List Bits) (s : ℕ) (declared : Signal) → AreWordsOf signals words → slice_get signals s ≡ Some declared → declared.width ≤ 128
signal-most signals words s declared fit is =
    found (slice_get words s)
    (sym (slice_get-map width_of words s) ∙ ap (λ ws. slice_get ws s) fit.widths ∙ slice_get-map (λ x. x.width) signals s ∙ ap (option_map (λ x. x.width)) is)
  where
    found : (o : Option Bits) → option_map width_of o ≡ Some declared.width → declared.width ≤ 128
    found None e = absurd cc
    found (Some word) e = let same : width_of word ≡ declared.width = cc in omega arith

pub first_test : (a b : Bool) → IsTrue (a && b) → IsTrue a
first_test a b h = grind (arith, nat_tests)

pub position-within : (signal : Signal) (index : ℤ) (p : ℕ) → position_of signal index ≡ Some p → p < signal.width
position-within signal index p h = within-place signal.width p (distance_of signal.left signal.right index) h

-- ---- the last part of a left side
parts_width-last : (signals : List Signal) (left : List Part) (last : Part) → parts_width signals (left ++ last ∷ []) ≡ parts_width signals left + part_width signals last
parts_width-last signals [] last = omega arith
parts_width-last signals (part ∷ left) last = omega (arith, parts_width-last signals left last)

pub store-last : (signals : List Signal) (E M : Valuation) (left : List Part) (last : Part) (bits : ℕ → Bool)
    → store signals E M (left ++ last ∷ []) bits ≡ store_part signals E (store signals E M left (λ b. bits (part_width signals last + b))) last bits
store-last signals E M [] last bits = ap (store_part signals E M last) (fun_ext (λ b. ap bits (zero-add b)))
store-last signals E M (part ∷ left) last bits =
    ap (λ f. store signals E (store_part signals E M part f) (left ++ last ∷ []) bits) (fun_ext (λ b. ap bits (omega (arith, parts_width-last signals left last))))
    ∙ store-last signals E (store_part signals E M part (λ b. bits (part_width signals last + (parts_width signals left + b)))) left last bits

shifted-bits : (v w high : ℕ) → high ≡ v / 2 ^ w → bit high ≡ (λ b. bit v (w + b))
shifted-bits v w high h = ap bit h ∙ fun_ext (λ b. bit-shr v w b)

-- the last part stored after those to its left, into one valuation
pub stored-last : (signals : List Signal) (E M M' S : Valuation) (parts left : List Part) (last : Part) (v w high : ℕ) → parts ≡ left ++ last ∷ [] → w ≡ part_width signals last
    → high ≡ v / 2 ^ w → M' ≡ store signals E M left (bit high) → S ≡ store_part signals E M' last (bit v) → S ≡ store signals E M parts (bit v)
stored-last signals E M M' S parts left last v w high whole width shifted before after =
    after
    ∙ ap (λ m. store_part signals E m last (bit v)) (before ∙ ap (store signals E M left) (shifted-bits v w high shifted ∙ ap (λ k. λ b. bit v (k + b)) width))
    ∙ sym (store-last signals E M left last (bit v))
    ∙ ap (λ ps. store signals E M ps (bit v)) (sym whole)

-- and into the one of two that a kind of assignment stores into
abbrev pub updates : Valuation → Valuation → Updates
updates now later = record { now = now; later = later }

same_updates : (m : Updates) (now later : Valuation) → now ≡ m.now → later ≡ m.later → updates now later ≡ m
same_updates m now later p q = λ i. record { now = p i; later = q i }

pub assigned_later : (signals : List Signal) (now later now' later' S : Valuation) (parts left : List Part) (last : Part) (v w high : ℕ) (is_later : Bool) → is_later ≡ true
    → parts ≡ left ++ last ∷ [] → w ≡ part_width signals last → high ≡ v / 2 ^ w
    → updates now' later' ≡ after_set signals left (bit high) is_later (updates now later) → S ≡ store_part signals now later' last (bit v)
    → updates now' S ≡ after_set signals parts (bit v) is_later (updates now later)
assigned_later signals now later now' later' S parts left last v w high true e whole width shifted before after =
    same_updates (after_set signals parts (bit v) true (updates now later)) now' S (ap (λ m. m.now) before)
    (stored-last signals now later later' S parts left last v w high whole width shifted (ap (λ m. m.later) before) after)
assigned_later signals now later now' later' S parts left last v w high false e whole width shifted before after = absurd cc

pub assigned_now : (signals : List Signal) (now later now' later' S : Valuation) (parts left : List Part) (last : Part) (v w high : ℕ) (is_later : Bool) → is_later ≡ false
    → parts ≡ left ++ last ∷ [] → w ≡ part_width signals last → high ≡ v / 2 ^ w
    → updates now' later' ≡ after_set signals left (bit high) is_later (updates now later) → S ≡ store_part signals now now' last (bit v)
    → updates S later' ≡ after_set signals parts (bit v) is_later (updates now later)
assigned_now signals now later now' later' S parts left last v w high true e whole width shifted before after = absurd cc
assigned_now signals now later now' later' S parts left last v w high false e whole width shifted before after =
    same_updates (after_set signals parts (bit v) false (updates now later)) S later'
    (stored-last signals now now now' S parts left last v w high whole width shifted (ap (λ m. m.now) before) after) (ap (λ m. m.later) before)

-- a whole signal alone
pub whole_later : (signals : List Signal) (now later S : Valuation) (s v width : ℕ) (is_later : Bool) → is_later ≡ true → width ≡ width_at signals s
    → S ≡ with_bits later s 0 width (bit v) → updates now S ≡ after_set signals (Whole s ∷ []) (bit v) is_later (updates now later)
whole_later signals now later S s v width true e same stored =
    same_updates (after_set signals (Whole s ∷ []) (bit v) true (updates now later)) now S refl
    (stored ∙ ap (λ w. with_bits later s 0 w (bit v)) same ∙ sym (store-last signals now later [] (Whole s) (bit v)))
whole_later signals now later S s v width false e same stored = absurd cc

pub whole_now : (signals : List Signal) (now later S : Valuation) (s v width : ℕ) (is_later : Bool) → is_later ≡ false → width ≡ width_at signals s
    → S ≡ with_bits now s 0 width (bit v) → updates S later ≡ after_set signals (Whole s ∷ []) (bit v) is_later (updates now later)
whole_now signals now later S s v width true e same stored = absurd cc
whole_now signals now later S s v width false e same stored =
    same_updates (after_set signals (Whole s ∷ []) (bit v) false (updates now later)) S later
    (stored ∙ ap (λ w. with_bits now s 0 w (bit v)) same ∙ sym (store-last signals now now [] (Whole s) (bit v))) refl

-- ---- bits by a variable index
one_bit : (M : Valuation) (signal position : ℕ) (bits : ℕ → Bool) → with_bits M signal position 1 bits ≡ with_bits M signal position 1 (λ _. bits 0)
one_bit M signal position bits = fun_ext (λ s. fun_ext (λ p. at s p (s == signal && nat_le position p && nat_lt p (position + 1)) refl))
  where
    place : (s p : ℕ) → IsTrue (s == signal && nat_le position p && nat_lt p (position + 1)) → p - position ≡ 0
    place s p h = grind (arith, nat_tests)

    at : (s p : ℕ) (b : Bool) → (s == signal && nat_le position p && nat_lt p (position + 1)) ≡ b → with_bits M signal position 1 bits s p ≡ with_bits M signal position 1 (λ _. bits 0) s p
    at s p true e = rw e (ap bits (place s p e))
    at s p false e = rw e refl

bit_shifted : (v by : ℕ) → bit (v / 2 ^ by) 0 ≡ bit v by
bit_shifted v by = bit-shr v by 0 ∙ ap (bit v) (omega arith)

-- one more of the bits, where it is there
pub picked_some : (signals : List Signal) (M M' : Valuation) (signal b : ℕ) (declared : Signal) (index offset : ℤ) (position : ℕ) (offsets : List ℤ) (v v' : ℕ)
    → slice_get signals signal ≡ Some declared → Some position ≡ position_of declared (index +ℤ offset) → v' ≡ v / 2 ^ b
    → M' ≡ with_bits M signal position 1 (bit v')
    → with_picked signals M' signal index (b + 1) offsets (bit v) ≡ with_picked signals M signal index b (offset ∷ offsets) (bit v)
picked_some signals M M' signal b declared index offset position offsets v v' is found shifted stored =
    ap (λ m. with_picked signals m signal index (b + 1) offsets (bit v))
    (stored
    ∙ one_bit M signal position (bit v')
    ∙ ap (λ n. with_bits M signal position 1 (λ _. n)) (ap (λ n. bit n 0) shifted ∙ bit_shifted v b)
    ∙ ap (λ o. with_bit M signal o (bit v b)) (found ∙ ap (λ o. option_and_then (λ s. position_of s (index +ℤ offset)) o) (sym is)))

-- and where it isn't
pub picked_none : (signals : List Signal) (M : Valuation) (signal b : ℕ) (declared : Signal) (index offset : ℤ) (offsets : List ℤ) (v : ℕ)
    → slice_get signals signal ≡ Some declared → None ≡ position_of declared (index +ℤ offset)
    → with_picked signals M signal index (b + 1) offsets (bit v) ≡ with_picked signals M signal index b (offset ∷ offsets) (bit v)
picked_none signals M signal b declared index offset offsets v is none =
    ap (λ o. with_picked signals (with_bit M signal o (bit v b)) signal index (b + 1) offsets (bit v))
    (none ∙ ap (λ o. option_and_then (λ s. position_of s (index +ℤ offset)) o) (sym is))
