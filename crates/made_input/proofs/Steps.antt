-- The values, step by step.
use Rattle.std.proofs.Common.{ℕ, zero, suc, ◌≡◌, ◌≢◌, ◌+◌, ◌-◌, ◌*◌, ◌%◌, ◌^◌, true, false, ◌∙◌, ap, refl, arith, add-one}
use Rattle.std.specs.Prelude.{◌==◌}
use Rattle.std.proofs.Math.Nat.{add-mod-mod}
use Rattle.made_input.specs.Made.{a_in, b_in, constant, drawn, held, width}

-- ---- the numbers that are drawn
pub drawn-none : (n : ℕ) → n ≡ drawn n 0
unfolding drawn
drawn-none n = refl

pub drawn-next : (n count last next : ℕ) → last ≡ drawn n count → next ≡ (1103515245 * last + 12345) % 2 ^ 31
    → next ≡ drawn n (count + 1)
unfolding drawn
drawn-next n count last next is drawn_is =
    rw (add-one count) (drawn_is ∙ ap (λ x. (1103515245 * x + 12345) % 2 ^ 31) is)

pub ruleset drawn_steps = (drawn-none, drawn-next)

-- ---- what a register holds
pub held-first : (n cycle stage value : ℕ) → cycle ≡ 0 → value ≡ 0 → value ≡ held n cycle stage
unfolding held
held-first n zero stage value first none = none
held-first n (suc cycle) stage value first none = absurd (omega (arith, first))

equal-test : (a b : ℕ) → a ≡ b → (a == b) ≡ true
equal-test a b e = grind arith

other-test : (a b : ℕ) → a ≢ b → (a == b) ≡ false
other-test a b ne = grind arith

pub held-one : (n cycle stage a b bits value : ℕ) → cycle ≢ 0 → stage ≡ 1 → a ≡ a_in n (cycle - 1) → b ≡ b_in n (cycle - 1)
    → bits ≡ width n → value ≡ (a + b) % 2 ^ bits → value ≡ held n cycle stage
unfolding held
held-one n zero stage a b bits value some one is_a is_b is_bits is = absurd (some refl)
held-one n (suc cycle) stage a b bits value some one is_a is_b is_bits is =
    rw (equal-test stage 1 one) (grind (arith, is, is_a, is_b, is_bits))

pub held-next : (n cycle stage before added bits value : ℕ) → cycle ≢ 0 → stage ≢ 1 → before ≡ held n (cycle - 1) (stage - 1)
    → added ≡ constant stage % 2 ^ width n → bits ≡ width n → value ≡ (before + added) % 2 ^ bits → value ≡ held n cycle stage
unfolding held
held-next n zero stage before added bits value some other is_before is_added is_bits is = absurd (some refl)
held-next n (suc cycle) stage before added bits value some other is_before is_added is_bits is =
    let back : suc cycle - 1 ≡ cycle = omega arith in
    rw (other-test stage 1 other)
    (is ∙ ap (λ w. (before + added) % 2 ^ w) is_bits
    ∙ ap (λ x. (x + added) % 2 ^ width n) (is_before ∙ ap (λ m. held n m (stage - 1)) back)
    ∙ ap (λ x. (held n cycle (stage - 1) + x) % 2 ^ width n) is_added
    ∙ add-mod-mod (held n cycle (stage - 1)) (constant stage) (2 ^ width n))

pub ruleset held_steps = (held-first, held-one, held-next)
