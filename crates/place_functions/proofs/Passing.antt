-- The bits that pass a test are in the list of those that do.
use Rattle.std.proofs.Common.{ℕ, zero, suc, ◌+◌, ◌≡◌, ◌<◌, ◌≤◌, Bool, true, false, List, [], ◌∷◌, ap, ◌∙◌, subst, arith, ◌⊎◌, inl, inr}
use Rattle.std.specs.Prelude.{if◌then◌else◌}
use Rattle.std.specs.List.{list_any}
use Rattle.std.proofs.lemmas.Bool.{cases_eq, or_left, or_right}
use Rattle.std.proofs.lemmas.List.Folds.{list_any-append}
use Rattle.design_core.specs.declared.signal.Signal.{Signal}
use Rattle.design_core.specs.Valuation.{width_at}
use Rattle.place_functions.specs.declared.signal_bit.SignalBit.{SignalBit}
use Rattle.place_functions.specs.Operands.{bits_passing, all_passing}

abbrev pub bit_at : ℕ → ℕ → SignalBit
bit_at s b = record { signal = s; position = b }

-- a bit of a signal that passes
pub bits-any : (test : ℕ → Bool) (q : SignalBit → Bool) (s from more b : ℕ) → from ≤ b → b < from + more → test b ≡ true → q (bit_at s b) ≡ true
    → list_any q (bits_passing test s from more) ≡ true
bits-any test q s from zero b least below pass holds = absurd (omega (arith, least, below))
bits-any test q s from (suc more) b least below pass holds =
    by (cases_eq from b)
    (λ apart. bits-any test q s (from + 1) more b (omega (arith, least, apart)) (omega (arith, below)) pass holds)
  where
    rest : List SignalBit
    rest = bits_passing test s (from + 1) more

    behind : (t : Bool) → list_any q rest ≡ true → list_any q (if t then bit_at s from ∷ rest else rest) ≡ true
    behind true later = or_right (q (bit_at s from)) (list_any q rest) later
    behind false later = later

    here : (t : Bool) → t ≡ true → q (bit_at s from) ≡ true → list_any q (if t then bit_at s from ∷ rest else rest) ≡ true
    here true e first = or_left (q (bit_at s from)) (list_any q rest) first
    here false e first = absurd cc

    by : (from ≡ b) ⊎ (from ≡ b → ⊥) → ((from ≡ b → ⊥) → list_any q rest ≡ true) → list_any q (bits_passing test s from (suc more)) ≡ true
    by (inl same) later = here (test from) (ap test same ∙ pass) (ap (λ n. q (bit_at s n)) same ∙ holds)
    by (inr apart) later = behind (test from) (later apart)

-- a bit of one of some signals that passes
pub all-any : (test : ℕ → ℕ → Bool) (q : SignalBit → Bool) (first : ℕ) (signals : List Signal) (i b : ℕ) → b < width_at signals i
    → test (first + i) b ≡ true → q (bit_at (first + i) b) ≡ true → list_any q (all_passing test first signals) ≡ true
all-any test q first [] i b below pass holds = absurd (omega (arith, below))
all-any test q first (signal ∷ signals) zero b below pass holds =
    list_any-append q (bits_passing (test first) first 0 signal.width) (all_passing test (first + 1) signals)
    ∙ or_left (list_any q (bits_passing (test first) first 0 signal.width)) (list_any q (all_passing test (first + 1) signals))
    (bits-any (test first) q first 0 signal.width b (omega arith) (omega (arith, below))
    (subst (λ n. test n b ≡ true) here pass) (subst (λ n. q (bit_at n b) ≡ true) here holds))
  where
    here : first + 0 ≡ first
    here = omega arith
all-any test q first (signal ∷ signals) (suc i) b below pass holds =
    list_any-append q (bits_passing (test first) first 0 signal.width) (all_passing test (first + 1) signals)
    ∙ or_right (list_any q (bits_passing (test first) first 0 signal.width)) (list_any q (all_passing test (first + 1) signals))
    (all-any test q (first + 1) signals i b below (subst (λ n. test n b ≡ true) next pass) (subst (λ n. q (bit_at n b) ≡ true) next holds))
  where
    next : first + suc i ≡ first + 1 + i
    next = omega arith
