-- Masks as whole words of some signals and other masks, and words that are copied by these.
use Rattle.std.proofs.Common.{◌≡◌, ℕ, zero, suc, ◌+◌, ◌-◌, ◌^◌, ◌<◌, ◌≤◌, Bool, true, false, ◌&&◌, ◌||◌, List, [], ◌∷◌, ◌++◌, length, get_or, set, take, drop, map, refl, ap, sym, subst, ◌∙◌, arith, ◌⊎◌, inl, inr}
use Rattle.std.specs.Prelude.{◌==◌, if◌then◌else◌, slice_get, Option, Some, None, option_map}
use Rattle.std.specs.Option.{option_map_or}
use Rattle.std.proofs.Math.Path.{fun_ext}
use Rattle.std.proofs.Math.Nat.{mod-eq_of_lt}
use Rattle.std.proofs.Math.ListN.{get_or-map}
use Rattle.std.proofs.Math.Seq.{map-set_same}
use Rattle.std.proofs.lemmas.Bool.{cases_lt, lt-ltb}
use Rattle.std.proofs.lemmas.List.{length-map}
use Rattle.std.proofs.lemmas.List.Elements.{All-append}
use Rattle.std.proofs.lemmas.List.Folds.{list_any-append}
use Rattle.std.proofs.lemmas.Option.{get_or_from_slice_get, slice_get-get_or, slice_get-map, slice_get_within}
use Rattle.loc_base.specs.declared.bits.Bits.{Bits}
use Rattle.loc_base.specs.Bits.{width_of, value_of, bit_of, value_of-range}
use Rattle.loc_base.proofs.ShelfBools.{or-assoc, equal-true}
use Rattle.loc_base.proofs.ShelfLists.{take-at, slice_get-at, slice_get-set_same, slice_get-set_other}
use Rattle.loc_base.proofs.ShelfOptions.{Some-same}
use Rattle.design_core.specs.Valuation.{Valuation, bit}
use Rattle.design_core.specs.Words.{valuation_of}
use Rattle.design_core.proofs.NumberLaws.{number-same, number-bit}
use Rattle.plain_sim.specs.EvaluateCycle.{blended}
use Rattle.plain_sim.proofs.EvaluateSteps.{drop-some}
use Rattle.plain_sim.proofs.EvaluateSweep.{word-high}
use Rattle.plain_sim.proofs.EvaluateSamples.{get_or-default}
use Rattle.cycle_sim.specs.declared.mask.Mask.{Mask}
use Rattle.cycle_sim.specs.Masks.{AreMasksOf, IsFull, IsSplit, covers, in_mask, is_among}
use Rattle.cycle_sim.specs.Planned.{Splits}
use Rattle.cycle_sim.proofs.Blending.{eq-swap}
use Rattle.cycle_sim.proofs.Planning.{covers-push, ones-bit, widths-add}

-- ---- words of ones
ones_have : (w b : ℕ) → b < w → bit (2 ^ w - 1 - 0) b ≡ true
ones_have w b low = ones-bit w b ∙ lt-ltb b w low

-- a word whose complement is 0 has each bit
pub full-all : (bits : Bits) → (2 ^ width_of bits - 1) - value_of bits ≡ 0 → IsFull bits
full-all bits none b low =
    let all : value_of bits ≡ 2 ^ width_of bits - 1 - 0 = omega (arith, none, value_of-range bits) in
    ap (λ n. bit n b) all ∙ ones_have (width_of bits) b low

-- and no other word has
pub full-none : (bits : Bits) → IsFull bits → (2 ^ width_of bits - 1) - value_of bits ≡ 0
full-none bits full =
    let below : value_of bits < 2 ^ width_of bits = value_of-range bits in
    let all : value_of bits ≡ 2 ^ width_of bits - 1 - 0 =
    sym (mod-eq_of_lt below)
    ∙ sym (number-bit (width_of bits) (value_of bits))
    ∙ number-same (width_of bits) (bit (value_of bits)) (bit (2 ^ width_of bits - 1 - 0))
    (λ b low. full b low ∙ sym (ones_have (width_of bits) b low))
    ∙ number-bit (width_of bits) (2 ^ width_of bits - 1 - 0)
    ∙ mod-eq_of_lt (omega (arith, below)) in
    omega (arith, all)

-- ---- one more mask
pub split-none : (widths : List ℕ) → IsSplit widths [] [] []
split-none widths = record {
  whole = λ k d low. absurd (omega (arith, low));
  parts = record { each = λ i m at. absurd (none at) };
  same = λ s b width at low. refl;
}
  where
    none : {m : Mask} → None ≡ Some m → ⊥
    none e = cc

-- of other masks
pub split-part : (m : Mask) (whole : List ℕ) (parts : List Mask) → Splits m whole parts whole (parts ++ m ∷ [])
split-part m whole parts widths masks fits before = record {
  whole = before.whole;
  parts = widths-add widths parts m fits before.parts;
  same = λ s b width at low.
      covers-push masks m s b
      ∙ ap (λ x. x || in_mask m s b) (before.same s b width at low)
      ∙ or-assoc (is_among whole s) (covers parts s b) (in_mask m s b)
      ∙ ap (λ x. is_among whole s || x) (sym (covers-push parts m s b));
}

-- that has each bit of its signal
pub split-whole : (m : Mask) (signal : ℕ) (whole : List ℕ) (parts : List Mask) → signal ≡ m.signal → IsFull m.bits
    → Splits m whole parts (whole ++ signal ∷ []) parts
split-whole m signal whole parts is full widths masks fits before = record {
  whole = All-append (λ s. s < length widths) whole (signal ∷ []) before.whole within;
  parts = before.parts;
  same = λ s b width at low.
      covers-push masks m s b
      ∙ ap (λ x. x || in_mask m s b) (before.same s b width at low)
      ∙ ap (λ x. (is_among whole s || covers parts s b) || x) (filled s b width at low (m.signal == s) refl)
      ∙ swapped (is_among whole s) (covers parts s b) (m.signal == s)
      ∙ ap (λ n. (is_among whole s || (n == s || false)) || covers parts s b) (sym is)
      ∙ ap (λ x. x || covers parts s b) (sym (list_any-append (λ n. n == s) whole (signal ∷ [])));
}
  where
    within : (k d : ℕ) → k < 1 → get_or (signal ∷ []) k d < length widths
    within zero d low = omega (arith, slice_get_within widths m.signal (width_of m.bits) fits, is)
    within (suc k) d low = absurd (omega (arith, low))

    swapped : (x y z : Bool) → ((x || y) || z) ≡ ((x || (z || false)) || y)
    swapped true y z = refl
    swapped false true true = refl
    swapped false true false = refl
    swapped false false true = refl
    swapped false false false = refl

    filled : (s b width : ℕ) → slice_get widths s ≡ Some width → b < width → (t : Bool) → (m.signal == s) ≡ t
        → in_mask m s b ≡ (m.signal == s)
    filled s b width at low false e = ap (λ t. t && bit_of m.bits b) e ∙ sym e
    filled s b width at low true e =
        let same : width_of m.bits ≡ width = Some-same (sym fits ∙ ap (slice_get widths) (equal-true m.signal s e) ∙ at) in
        ap (λ t. t && bit_of m.bits b) e ∙ full b (omega (arith, low, same)) ∙ sym e

-- the masks up to the next one
pub split-next : (widths : List ℕ) (masks : List Mask) (k : ℕ) (m : Mask) (whole whole' : List ℕ) (parts parts' : List Mask)
    → slice_get masks k ≡ Some m
    → Splits m whole parts whole' parts' → AreMasksOf widths masks → IsSplit widths (take k masks) whole parts
    → IsSplit widths (take (k + 1) masks) whole' parts'
split-next widths masks k m whole whole' parts parts' at more fits before =
    subst (λ ms. IsSplit widths ms whole' parts')
    (sym (take-at masks k m (slice_get_within masks k m at) (sym (get_or_from_slice_get masks k m m at))))
    (more widths (take k masks) (fits.each k m at) before)

-- ---- words copied
-- one after another
pub blended-again : (first later : ℕ → ℕ → Bool) (F T : Valuation)
    → blended later F (blended first F T) ≡ blended (λ s b. first s b || later s b) F T
blended-again first later F T = fun_ext (λ s. fun_ext (λ b. either (later s b) (first s b) (F s b) (T s b)))
  where
    either : (later first f t : Bool) → (if later then f else (if first then f else t)) ≡ (if first || later then f else t)
    either true true f t = refl
    either true false f t = refl
    either false true f t = refl
    either false false f t = refl

-- the word of a signal replaced by another one
word_replaced : (words from : List Bits) (k : ℕ) (word : Bits) → k < length words → slice_get from k ≡ Some word
    → valuation_of (set words k word) ≡ blended (λ s b. k == s) (valuation_of from) (valuation_of words)
word_replaced words from k word within at = fun_ext (λ s. fun_ext (λ b. by_signal s b (k == s) refl))
  where
    by_signal : (s b : ℕ) (t : Bool) → (k == s) ≡ t
        → valuation_of (set words k word) s b ≡ (if k == s then valuation_of from s b else valuation_of words s b)
    by_signal s b true e =
        let same : k ≡ s = equal-true k s e in
        ap (λ n. valuation_of (set words k word) n b) (sym same)
        ∙ ap (λ o. option_map_or (λ w. bit_of w b) o false) (slice_get-set_same words k word within ∙ sym at)
        ∙ ap (λ n. valuation_of from n b) same
        ∙ sym (ap (λ t. if t then valuation_of from s b else valuation_of words s b) e)
    by_signal s b false e =
        ap (λ o. option_map_or (λ w. bit_of w b) o false) (slice_get-set_other words k s word (λ same. eq-swap k s e same))
        ∙ sym (ap (λ t. if t then valuation_of from s b else valuation_of words s b) e)

-- the words at one place of two lists of the same widths have one width
pub width-alike : (words from : List Bits) (k : ℕ) (old word : Bits) → map width_of from ≡ map width_of words → k < length words
    → old ≡ get_or words k old → word ≡ get_or from k word → width_of old ≡ width_of word
width-alike words from k old word same within one other =
    let there : k < length from = omega (arith, within, length-map from width_of, length-map words width_of, ap length same) in
    ap width_of one
    ∙ sym (get_or-map width_of words k old)
    ∙ ap (λ ws. get_or ws k (width_of old)) (sym same)
    ∙ get_or-map width_of from k old
    ∙ ap width_of (get_or-default from k old word there ∙ sym other)

-- that has the same width
pub copied-widths : (words from : List Bits) (k : ℕ) (word : Bits) → map width_of from ≡ map width_of words → word ≡ get_or from k word
    → map width_of (set words k word) ≡ map width_of words
copied-widths words from k word same is =
    map-set_same width_of words k word word
    (ap width_of is ∙ sym (get_or-map width_of from k word) ∙ ap (λ ws. get_or ws k (width_of word)) same
    ∙ get_or-map width_of words k word)

-- the signals from i on are still to be copied
pub copied-next : (signals : List ℕ) (words from : List Bits) (i : ℕ) (word : Bits) → map width_of from ≡ map width_of words
    → i < length signals
    → get_or signals i 0 < length words → word ≡ get_or from (get_or signals i 0) word
    → blended (λ s b. is_among (drop (i + 1) signals) s) (valuation_of from) (valuation_of (set words (get_or signals i 0) word))
    ≡ blended (λ s b. is_among (drop i signals) s) (valuation_of from) (valuation_of words)
copied-next signals words from i word same more within is =
    ap (blended (λ s b. is_among (drop (i + 1) signals) s) (valuation_of from))
    (word_replaced words from k word within (slice_get-at from k word there is))
    ∙ blended-again (λ s b. k == s) (λ s b. is_among (drop (i + 1) signals) s) (valuation_of from) (valuation_of words)
    ∙ ap (λ ks. blended (λ s b. is_among ks s) (valuation_of from) (valuation_of words))
    (sym (drop-some signals i k (slice_get-get_or signals i 0 more)))
  where
    k : ℕ
    k = get_or signals i 0

    there : k < length from
    there = omega (arith, within, length-map from width_of, length-map words width_of, ap length same)

-- ---- the words and the parts
-- a bit that a word does not have
past : (words : List Bits) (s b : ℕ) → ((width : ℕ) → slice_get (map width_of words) s ≡ Some width → width ≤ b)
    → valuation_of words s b ≡ false
past words s b high = at (slice_get words s) refl
  where
    at : (o : Option Bits) → slice_get words s ≡ o → valuation_of words s b ≡ false
    at None e = ap (λ o. option_map_or (λ w. bit_of w b) o false) e
    at (Some word) e = word-high words s b word e (high (width_of word) (slice_get-map width_of words s ∙ ap (option_map width_of) e))

-- both copied are the bits of all masks
pub split-copied : (to from : List Bits) (masks : List Mask) (signals : List ℕ) (others : List Mask) → map width_of from ≡ map width_of to
    → IsSplit (map width_of to) masks signals others
    → blended (λ s b. is_among signals s || covers others s b) (valuation_of from) (valuation_of to)
    ≡ blended (covers masks) (valuation_of from) (valuation_of to)
split-copied to from masks signals others same split = fun_ext (λ s. fun_ext (λ b. at s b (slice_get (map width_of to) s) refl))
  where
    none : {x : ℕ} → None ≡ Some x → ⊥
    none e = cc

    outside : (s b : ℕ) → ((width : ℕ) → slice_get (map width_of to) s ≡ Some width → width ≤ b)
        → (if is_among signals s || covers others s b then valuation_of from s b else valuation_of to s b)
        ≡ (if covers masks s b then valuation_of from s b else valuation_of to s b)
    outside s b high =
        let one : valuation_of from s b ≡ false = past from s b (λ width is. high width (ap (λ ws. slice_get ws s) (sym same) ∙ is)) in
        let other : valuation_of to s b ≡ false = past to s b high in
        either (is_among signals s || covers others s b) _ _ one other ∙ sym (either (covers masks s b) _ _ one other)
      where
        either : (t x y : Bool) → x ≡ false → y ≡ false → (if t then x else y) ≡ false
        either true x y p q = p
        either false x y p q = q

    at : (s b : ℕ) (o : Option ℕ) → slice_get (map width_of to) s ≡ o
        → (if is_among signals s || covers others s b then valuation_of from s b else valuation_of to s b)
        ≡ (if covers masks s b then valuation_of from s b else valuation_of to s b)
    at s b None e = outside s b (λ width is. absurd (none (sym e ∙ is)))
    at s b (Some width) e = by_place (cases_lt b width)
      where
        by_place : (b < width) ⊎ (width ≤ b)
            → (if is_among signals s || covers others s b then valuation_of from s b else valuation_of to s b)
            ≡ (if covers masks s b then valuation_of from s b else valuation_of to s b)
        by_place (inl low) = ap (λ t. if t then valuation_of from s b else valuation_of to s b) (sym (split.same s b width e low))
        by_place (inr high) = outside s b (λ other is. omega (arith, high, Some-same (sym e ∙ is)))
