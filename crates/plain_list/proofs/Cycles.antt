-- The cycles of a network's trace do not depend on each other: a trace is right where each of its cycles is.
use Rattle.std.proofs.Common.{◌≡◌, ℕ, zero, suc, ◌+◌, ◌<◌, Bool, false, List, [], ◌∷◌, refl, ap, sym, ◌∙◌, arith}
use Rattle.std.specs.Prelude.{slice_get, Some}
use Rattle.loc_base.proofs.ShelfOptions.{Some-same}
use Rattle.design_core.specs.declared.design.Design.{Design}
use Rattle.design_core.specs.declared.trace.Trace.{Trace}
use Rattle.design_core.specs.declared.trace.Checked.{Checked}
use Rattle.design_core.specs.Valuation.{Valuation}
use Rattle.design_core.specs.Run.{Choices, choice_at, samples_at, expected_at, start_state, IsRunFrom, IsRight, Meets}
use Rattle.plain_list.specs.Network.{IsNetwork, settled}
use Rattle.plain_list.proofs.OneCycle.{settled-cycle, settled-unique}

-- the valuation of cycle t
abbrev pub valuation_at : Design → List ℕ → Trace → (ℕ → Bool) → Choices → ℕ → Valuation
valuation_at d order trace freed c t = settled d order (samples_at d trace t) (choice_at freed c t)

pub IsRight-same : (d : Design) (expected : List Checked) (V W : Valuation) → ((s b : ℕ) → V s b ≡ W s b) → IsRight d expected V → IsRight d expected W
IsRight-same d expected V W same right i output checked b o e m = sym (same output b) ∙ right i output checked b o e m

-- the cycles from one on
abbrev pub run_from : Design → List ℕ → Trace → (ℕ → Bool) → Choices → ℕ → ℕ → List Valuation
run_from d order trace freed c t zero = []
run_from d order trace freed c t (suc left) = valuation_at d order trace freed c t ∷ run_from d order trace freed c (t + 1) left

pub run_from-IsRunFrom : (d : Design) (order : List ℕ) (trace : Trace) (freed : ℕ → Bool) (c : Choices) (t left : ℕ) (state : Valuation) → IsNetwork d order → t + left ≡ trace.cycles
    → IsRunFrom d trace freed c t state (run_from d order trace freed c t left)
run_from-IsRunFrom d order trace freed c t zero state n e = omega (arith, e)
run_from-IsRunFrom d order trace freed c t (suc left) state n e = (
  omega (arith, e),
  (
    (λ _ _. false),
    settled-cycle d order (samples_at d trace t) state (choice_at freed c t) n,
    run_from-IsRunFrom d order trace freed c (t + 1) left (λ _ _. false) n (omega (arith, e)),
  ),
)

pub run_from-at : (d : Design) (order : List ℕ) (trace : Trace) (freed : ℕ → Bool) (c : Choices) (t left j : ℕ) (V : Valuation)
    → slice_get (run_from d order trace freed c t left) j ≡ Some V → (j < left) × (V ≡ valuation_at d order trace freed c (t + j))
run_from-at d order trace freed c t zero j V e = absurd (cc)
run_from-at d order trace freed c t (suc left) zero V e =
    let first : V ≡ valuation_at d order trace freed c t = Some-same (sym e) in
    (omega arith, first ∙ ap (valuation_at d order trace freed c) (add_none t))
  where
    add_none : (n : ℕ) → n ≡ n + 0
    add_none n = omega arith
run_from-at d order trace freed c t (suc left) (suc j) V e =
    let rest : (j < left) × (V ≡ valuation_at d order trace freed c (t + 1 + j)) = run_from-at d order trace freed c (t + 1) left j V e in
    (omega (arith, rest.0), rest.1 ∙ ap (valuation_at d order trace freed c) (add_next t j))
  where
    add_next : (m n : ℕ) → m + 1 + n ≡ m + suc n
    add_next m n = omega arith

-- a trace is right where each cycle is
pub meets-by-cycles : (d : Design) (order : List ℕ) (trace : Trace) (freed : ℕ → Bool) (c : Choices) → IsNetwork d order
    → ((t : ℕ) → t < trace.cycles → IsRight d (expected_at d trace t) (valuation_at d order trace freed c t)) → Meets d trace freed c
meets-by-cycles d order trace freed c n right = (
  run_from d order trace freed c 0 trace.cycles,
  run_from-IsRunFrom d order trace freed c 0 trace.cycles (start_state d) n (omega arith),
  λ t V at. right_at t V (run_from-at d order trace freed c 0 trace.cycles t V at),
)
  where
    right_at : (t : ℕ) (V : Valuation) → (t < trace.cycles) × (V ≡ valuation_at d order trace freed c (0 + t)) → IsRight d (expected_at d trace t) V
    right_at t V (h, e) =
        let same : V ≡ valuation_at d order trace freed c t = e ∙ ap (valuation_at d order trace freed c) (none_add t) in
        IsRight-same d (expected_at d trace t) (valuation_at d order trace freed c t) V (λ s b. sym (ap (λ W. W s b) same)) (right t h)
      where
        none_add : (n : ℕ) → 0 + n ≡ n
        none_add n = omega arith

-- the valuations of any run are those
pub run-each : (d : Design) (order : List ℕ) (trace : Trace) (freed : ℕ → Bool) (c : Choices) (t : ℕ) (state : Valuation) (run : List Valuation) (j : ℕ) → IsNetwork d order
    → IsRunFrom d trace freed c t state run → t + j < trace.cycles
    → (V : Valuation) × (slice_get run j ≡ Some V) × ((s b : ℕ) → V s b ≡ valuation_at d order trace freed c (t + j) s b)
run-each d order trace freed c t state [] j n r h = absurd (omega (arith, r, h))
run-each d order trace freed c t state (V ∷ rest) zero n (l, (next, cycle, later)) h =
    (V, refl, λ s b. settled-unique d order (samples_at d trace t) state (choice_at freed c t) V next n cycle s b ∙ ap (λ m. valuation_at d order trace freed c m s b) (add_none t))
  where
    add_none : (m : ℕ) → m ≡ m + 0
    add_none m = omega arith
run-each d order trace freed c t state (V ∷ rest) (suc j) n (l, (next, cycle, later)) h =
    found (run-each d order trace freed c (t + 1) next rest j n later (omega (arith, h)))
  where
    add_next : (m n : ℕ) → m + 1 + n ≡ m + suc n
    add_next m n = omega arith

    found : (W : Valuation) × (slice_get rest j ≡ Some W) × ((s b : ℕ) → W s b ≡ valuation_at d order trace freed c (t + 1 + j) s b)
        → (W : Valuation) × (slice_get (V ∷ rest) (suc j) ≡ Some W) × ((s b : ℕ) → W s b ≡ valuation_at d order trace freed c (t + suc j) s b)
    found (W, at, same) = (W, at, λ s b. same s b ∙ ap (λ m. valuation_at d order trace freed c m s b) (add_next t j))

-- and each cycle is right where the trace is
pub cycles-by-meets : (d : Design) (order : List ℕ) (trace : Trace) (freed : ℕ → Bool) (c : Choices) → IsNetwork d order → Meets d trace freed c
    → (t : ℕ) → t < trace.cycles → IsRight d (expected_at d trace t) (valuation_at d order trace freed c t)
cycles-by-meets d order trace freed c n (run, is_run, right) t h =
    found (run-each d order trace freed c 0 (start_state d) run t n is_run (omega (arith, h)))
  where
    none_add : (n : ℕ) → 0 + n ≡ n
    none_add n = omega arith

    found : (V : Valuation) × (slice_get run t ≡ Some V) × ((s b : ℕ) → V s b ≡ valuation_at d order trace freed c (0 + t) s b) → IsRight d (expected_at d trace t) (valuation_at d order trace freed c t)
    found (V, at, same) =
        IsRight-same d (expected_at d trace t) V (valuation_at d order trace freed c t)
        (λ s b. same s b ∙ ap (λ m. valuation_at d order trace freed c m s b) (none_add t)) (right t V at)
