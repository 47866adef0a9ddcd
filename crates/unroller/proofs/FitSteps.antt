-- Steps of the loop over traces that are tested.
use Rattle.std.proofs.Common.{◌≡◌, ℕ, zero, suc, ◌+◌, ◌<◌, ◌≤◌, List, [], ◌∷◌, ◌++◌, length, get_or, take, ◌∙◌, ap, arith}
use Rattle.std.proofs.lemmas.List.{take_all, take_more}
use Rattle.design_core.specs.declared.trace.Trace.{Trace}
use Rattle.unroller.specs.Unrolls.{cycles_of}

cycles-append : (a b : List Trace) → cycles_of (a ++ b) ≡ cycles_of a + cycles_of b
cycles-append [] b = omega arith
cycles-append (trace ∷ a) b = omega (arith, cycles-append a b)

-- the cycles of one more trace
pub cycles_of-take : (traces : List Trace) (i : ℕ) (trace : Trace) → i < length traces → trace ≡ get_or traces i trace
    → cycles_of (take (i + 1) traces) ≡ cycles_of (take i traces) + trace.cycles
cycles_of-take traces i trace within is =
    ap cycles_of (take_more traces i trace within) ∙ cycles-append (take i traces) (get_or traces i trace ∷ [])
    ∙ omega (arith, ap (λ t. t.cycles) is)

pub cycles_of-all : (traces : List Trace) (i : ℕ) → length traces ≤ i → cycles_of (take i traces) ≡ cycles_of traces
cycles_of-all traces i past = ap cycles_of (take_all i traces past)

-- the cycles of a trace and of those before it are no more than those of all traces
pub cycles_of-within : (traces : List Trace) (i : ℕ) (trace : Trace) → i < length traces → trace ≡ get_or traces i trace
    → cycles_of (take i traces) + trace.cycles ≤ cycles_of traces
cycles_of-within [] i trace within is = absurd (omega (arith, within))
cycles_of-within (first ∷ traces) zero trace within is = omega (arith, ap (λ t. t.cycles) is)
cycles_of-within (first ∷ traces) (suc i) trace within is = omega (arith, cycles_of-within traces i trace (omega (arith, within)) is)

pub ruleset traces = (cycles_of-take, cycles_of-all)
