-- Masks with a common bit.
use Rattle.std.proofs.Common.{ℕ, zero, suc, ◌≡◌, ◌<◌, ◌^◌, Bool, true, false, refl, sym, ◌∙◌, ap, ap₂, arith, ◌⊎◌, inl, inr}
use Rattle.std.specs.Prelude.{◌==◌, ◌&&◌, not, bit_and}
use Rattle.std.specs.Int.{w128, bit_not, trailing_zeros}
use Rattle.std.specs.Int.Bits.{and_lt}
use Rattle.std.proofs.lemmas.Bool.{false≢true, cases_eq, cases_order, and_parts, eq-eqb}
use Rattle.std.proofs.lemmas.Nat.Bits.{bit_at-trailing_zeros}
use Rattle.loc_base.proofs.ShelfBools.{equal-false, and-false, not-true, not-false}
use Rattle.design_core.specs.FullCase.{all_below}
use Rattle.design_core.specs.Valuation.{bit}
use Rattle.design_bits.specs.Masks.{exceeds, share_bit}
use Rattle.design_bits.proofs.Masks.{bit-zero, bit-and, bit-not}
use Rattle.design_bits.proofs.FullLaws.{all_below-true, all_below-false}

-- a number below a bound that fails a test, where not all pass
below-found : (n : ℕ) (t : ℕ → Bool) → all_below n t ≡ false → (k : ℕ) × (k < n) × (t k ≡ false)
unfolding all_below
below-found zero t none = absurd (false≢true (sym none))
below-found (suc n) t none = at (t n) refl (λ rest. below-found n t rest)
  where
    at : (b : Bool) → t n ≡ b → (all_below n t ≡ false → (k : ℕ) × (k < n) × (t k ≡ false)) → (k : ℕ) × (k < suc n) × (t k ≡ false)
    at false is rest = (n, omega arith, is)
    at true is rest =
        let lower = rest (sym (ap (λ v. v && all_below n t) is) ∙ none) in
        let below = lower.1 in (lower.0, omega (arith, below), lower.2)

pub share-found : (one other : ℕ) → share_bit one other ≡ true → (b : ℕ) × (b < 128) × (bit one b ≡ true) × (bit other b ≡ true)
share-found one other shared =
    let found = below-found 128 (λ b. not (bit one b && bit other b)) (not-true (all_below 128 (λ b. not (bit one b && bit other b))) shared) in
    let both = and_parts (bit one found.0) (bit other found.0) (not-false (bit one found.0 && bit other found.0) found.2) in
    (found.0, found.1, both.0, both.1)

pub share-bit : (one other b : ℕ) → b < 128 → bit one b ≡ true → bit other b ≡ true → share_bit one other ≡ true
share-bit one other b below first second =
    ap not (all_below-false 128 (λ b. not (bit one b && bit other b)) b below (ap₂ (λ x y. not (x && y)) first second))

-- masks share a bit exactly where their meeting is not 0
pub share-meeting : (one other : ℕ) → one < 2 ^ 128 → other < 2 ^ 128 → share_bit one other ≡ not (bit_and one other == 0)
share-meeting one other small less = at (cases_eq (bit_and one other) 0)
  where
    at : (bit_and one other ≡ 0) ⊎ (bit_and one other ≡ 0 → ⊥) → share_bit one other ≡ not (bit_and one other == 0)
    at (inl none) =
        ap not
        (all_below-true 128 (λ b. not (bit one b && bit other b))
        (λ b below. ap not (sym (bit-and one other b) ∙ ap (λ n. bit n b) none ∙ bit-zero b)))
        ∙ ap not (sym (eq-eqb (bit_and one other) 0 none))
    at (inr some) =
        let found = bit_at-trailing_zeros w128 (bit_and one other) (omega (arith, some)) (and_lt 128 one other small less) in
        let p : ℕ = trailing_zeros w128 (bit_and one other) in
        let here : bit (bit_and one other) p ≡ true = ap (λ b. b == 1) found.1 in
        let both = and_parts (bit one p) (bit other p) (sym (bit-and one other p) ∙ here) in
        share-bit one other p found.0 both.0 both.1 ∙ ap not (sym (equal-false (bit_and one other) 0 some))

pub ruleset share_steps = (share-meeting)

-- ---- a bit that another mask lacks
below-same : (n : ℕ) (t u : ℕ → Bool) → ((k : ℕ) → k < n → t k ≡ u k) → all_below n t ≡ all_below n u
unfolding all_below
below-same zero t u same = refl
below-same (suc n) t u same = ap₂ (λ a b. a && b) (same n (omega arith)) (below-same n t u (λ k below. same k (omega (arith, below))))

pub exceeds-share : (one other : ℕ) → other < 2 ^ 128 → share_bit one (bit_not w128 other) ≡ exceeds one other
exceeds-share one other small =
    ap not
    (below-same 128 (λ b. not (bit one b && bit (bit_not w128 other) b)) (λ b. not (bit one b && not (bit other b)))
    (λ b below. ap (λ x. not (bit one b && x)) (bit-not other b small below)))

pub exceeds-found : (one other : ℕ) → exceeds one other ≡ true → (b : ℕ) × (b < 128) × (bit one b ≡ true) × (bit other b ≡ false)
exceeds-found one other some =
    let found = below-found 128 (λ b. not (bit one b && not (bit other b))) (not-true (all_below 128 (λ b. not (bit one b && not (bit other b)))) some) in
    let both = and_parts (bit one found.0) (not (bit other found.0)) (not-false (bit one found.0 && not (bit other found.0)) found.2) in
    (found.0, found.1, both.0, not-true (bit other found.0) both.1)

pub exceeds-bit : (one other b : ℕ) → b < 128 → bit one b ≡ true → bit other b ≡ false → exceeds one other ≡ true
exceeds-bit one other b below first second =
    ap not (all_below-false 128 (λ b. not (bit one b && not (bit other b))) b below (ap₂ (λ x y. not (x && not y)) first second))

pub ruleset exceed_steps = (exceeds-share)
