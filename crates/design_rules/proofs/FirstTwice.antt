-- The first signal that breaks the rule, from the masks of the bits that are driven too often.
use Rattle.std.proofs.Common.{ℕ, ◌≡◌, ◌≢◌, ◌<◌, ◌≤◌, ◌^◌, List, length, get_or, Bool, true, false, sym, ◌∙◌, ap, arith, Some, None}
use Rattle.std.specs.Prelude.{◌==◌, if◌then◌else◌, Option, IfNone, IfSome}
use Rattle.std.specs.Int.{w128, trailing_zeros}
use Rattle.std.proofs.lemmas.Bool.{false≢true, leb-true, le-leb}
use Rattle.std.proofs.lemmas.Nat.Bits.{bit_at-trailing_zeros}
use Rattle.design_core.specs.declared.design.Design.{Design}
use Rattle.design_core.specs.Valuation.{bit}
use Rattle.design_core.specs.Given.{CanRun}
use Rattle.design_core.specs.WellFormed.{input_fits}
use Rattle.design_bits.proofs.Masks.{bit-zero}
use Rattle.design_rules.specs.Entries.{driven_times}
use Rattle.design_rules.specs.First.{IsFirst}
use Rattle.design_rules.specs.OneDriver.{IsDrivenTwice}
use Rattle.design_rules.specs.Tallies.{AreTooOften}
use Rattle.design_bits.proofs.DrivesWithin.{width-within}
use Rattle.design_rules.proofs.DrivenWithin.{driven-below}

least-one : (b : Bool) (n : ℕ) → (if b then 1 else 2) ≤ n → 1 ≤ n
least-one true n h = h
least-one false n h = omega (arith, h)

-- a signal whose mask is 0 does not break the rule
not-twice : (d : Design) (twice : List ℕ) (k : ℕ) → CanRun d → AreTooOften d twice → get_or twice k 0 ≡ 0 → IsDrivenTwice d k → ⊥
not-twice d twice k well t none r =
    let some = least-one (input_fits d.signals.items k) (driven_times d k r.position) r.driven in
    let within = width-within d.signals.items k r.position well.signals (driven-below d k r.position well some) in
    false≢true (
    sym (bit-zero r.position) ∙ ap (λ m. bit m r.position) (sym none)
    ∙ t.bits k r.position within.0 within.1
    ∙ le-leb (if input_fits d.signals.items k then 1 else 2) (driven_times d k r.position) r.driven)

-- and one whose mask is not does
is-twice : (d : Design) (twice : List ℕ) (s : ℕ) → AreTooOften d twice → s < length twice → get_or twice s 0 ≢ 0 → get_or twice s 0 < 2 ^ 128 → IsDrivenTwice d s
is-twice d twice s t within some small =
    let m : ℕ = get_or twice s 0 in
    let found = bit_at-trailing_zeros w128 m (omega (arith, some)) small in
    let p : ℕ = trailing_zeros w128 m in
    let here : bit m p ≡ true = ap (λ b. b == 1) found.1 in
    record { position = p; driven = leb-true _ _ (sym (t.bits s p (omega (arith, within, t.long)) found.0) ∙ here) }

pub first-twice : (d : Design) (twice : List ℕ) (found : Option ℕ) → CanRun d → AreTooOften d twice
    → IfNone found ((k : ℕ) → get_or twice k 0 ≡ 0) → IfSome found (λ s. s < length twice) → IfSome found (λ s. get_or twice s 0 ≢ 0) → IfSome found (λ s. get_or twice s 0 < 2 ^ 128)
    → IfSome found (λ s. (k : ℕ) → k < s → get_or twice k 0 ≡ 0) → IsFirst (IsDrivenTwice d) found
first-twice d twice None well t none within some small first = λ k r. not-twice d twice k well t (none k) r
first-twice d twice (Some s) well t none within some small first = (is-twice d twice s t within some small, λ k below r. not-twice d twice k well t (first k below) r)
