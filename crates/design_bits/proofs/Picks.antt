-- The bit of a signal that has an index.
use Rattle.std.proofs.Common.{ℕ, zero, suc, ◌≡◌, ◌<◌, ◌≤◌, ◌+◌, List, [], ◌∷◌, length, get_or, take, pos, Bool, refl, sym, ◌∙◌, ap, arith, Some, None}
use Rattle.std.specs.Prelude.{◌==◌, ◌||◌, ℤ, slice_get, Option}
use Rattle.std.specs.Option.{option_and_then}
use Rattle.std.proofs.lemmas.Bool.Decides.{nat_tests}
use Rattle.loc_base.proofs.ShelfBools.{equal-false, or-false}
use Rattle.std.specs.List.{list_any}
use Rattle.std.proofs.lemmas.List.{take_more}
use Rattle.std.proofs.lemmas.List.Folds.{list_any-append}
use Rattle.design_core.specs.declared.signal.Signal.{Signal}
use Rattle.design_core.specs.Drives.{is_among}
use Rattle.design_core.specs.Pick.{is_at}
use Rattle.design_core.specs.Valuation.{bit, position_at, position_of}
use Rattle.design_bits.proofs.Masks.{bit-zero}

-- no bit has an index where there is no signal, or no such position
pub at-none : (b : ℕ) (signals : List Signal) (signal : ℕ) (index : ℤ) → slice_get signals signal ≡ None → bit 0 b ≡ is_at b (position_at signals signal index)
at-none b signals signal index none = bit-zero b ∙ sym (ap (λ o. is_at b (option_and_then (λ s. position_of s index) o)) none)

pub at-position : (b : ℕ) (signals : List Signal) (signal : ℕ) (declared : Signal) (index : ℤ) (found : Option ℕ) → slice_get signals signal ≡ Some declared
    → found ≡ position_of declared index → is_at b found ≡ is_at b (position_at signals signal index)
at-position b signals signal declared index found at is = ap (is_at b) (is ∙ sym (ap (option_and_then (λ s. position_of s index)) at))

pub one-bit : (p b : ℕ) → is_among p 1 b ≡ (p == b)
one-bit p b = grind (arith, nat_tests)

pub far-bit : (p b : ℕ) → b < 128 → 128 ≤ p → bit 0 b ≡ (p == b)
far-bit p b below far = bit-zero b ∙ sym (equal-false p b (λ e. omega (arith, e, below, far)))

-- behind the last element there is none
pub slice_get-past : {X : Type 0} (xs : List X) (i : ℕ) → length xs ≤ i → slice_get xs i ≡ None
slice_get-past [] i past = refl
slice_get-past (x ∷ xs) zero past = absurd (omega (arith, past))
slice_get-past (x ∷ xs) (suc i) past = slice_get-past xs i (omega (arith, past))

-- one offset more
pub offsets-more : (test : ℤ → Bool) (offsets : List ℤ) (i : ℕ) → i < length offsets
    → (list_any test (take i offsets) || test (get_or offsets i (pos 0))) ≡ list_any test (take (i + 1) offsets)
offsets-more test offsets i below =
    sym (ap (list_any test) (take_more offsets i (pos 0) below) ∙ list_any-append test (take i offsets) (get_or offsets i (pos 0) ∷ [])
    ∙ ap (λ v. list_any test (take i offsets) || v) (or-false (test (get_or offsets i (pos 0)))))

pub ruleset at_bits = (one-bit, far-bit, bit-zero)
