-- A trace of a design whose drivers depend on each other in no circle has one run at most, for given choices; so the
-- choices make the trace right where a run of theirs is right. It has one where each bit gets its value once.
use Rattle.std.proofs.Common.{ℕ, zero, suc, ◌+◌, ◌≡◌, Bool, List, [], ◌∷◌, refl, sym, subst, arith}
use Rattle.loc_base.specs.declared.bits.Bits.{Bits}
use Rattle.design_core.specs.declared.design.Design.{Design}
use Rattle.design_core.specs.declared.trace.Trace.{Trace}
use Rattle.design_core.specs.Valuation.{Valuation}
use Rattle.design_core.specs.After.{Choice}
use Rattle.design_core.specs.Run.{samples_at, start_state, Choices, choice_at, IsRunFrom, IsRun, IsRightThroughout, Meets}
use Rattle.design_core.specs.WellFormed.{IsWellFormed}
use Rattle.design_core.specs.Reads.{IsOrder}
use Rattle.design_core.specs.DrivenOnce.{IsDrivenOnce}
use Rattle.design_core.specs.Steps.{computed_now, computed_next}
use Rattle.design_core.proofs.CycleLaws.{cycle-unique}
use Rattle.design_core.proofs.CycleExists.{cycle-exists}

pub run_from-unique : (d : Design) (order : List ℕ) → IsWellFormed d → IsOrder d order → (trace : Trace) (freed : ℕ → Bool) (c : Choices)
    → (t : ℕ) (state : Valuation) (one other : List Valuation)
    → IsRunFrom d trace freed c t state one → IsRunFrom d trace freed c t state other → one ≡ other
run_from-unique d order well h trace freed c t state [] [] a b = refl
run_from-unique d order well h trace freed c t state [] (W ∷ other) a (lt, b) = absurd (omega (arith, a, lt))
run_from-unique d order well h trace freed c t state (V ∷ one) [] (lt, a) b = absurd (omega (arith, b, lt))
run_from-unique d order well h trace freed c t state (V ∷ one) (W ∷ other) (lt, (next, cycle, rest)) (lt', (next', cycle', rest')) =
    let (same, after) = cycle-unique d order well h (samples_at d trace t) state (choice_at freed c t) V next W next' cycle cycle' in
    let P : Valuation → Type 0 = λ state. IsRunFrom d trace freed c (t + 1) state other in
    let behind : one ≡ other = run_from-unique d order well h trace freed c (t + 1) next one other rest (subst P (sym after) rest') in
    cc

pub run-unique : (d : Design) (order : List ℕ) → IsWellFormed d → IsOrder d order → (trace : Trace) (freed : ℕ → Bool) (c : Choices)
    → (one other : List Valuation) → IsRun d trace freed c one → IsRun d trace freed c other → one ≡ other
run-unique d order well h trace freed c one other a b = run_from-unique d order well h trace freed c 0 (start_state d) one other a b

-- where choices make a trace right, each run of theirs is right
pub run-right : (d : Design) (order : List ℕ) → IsWellFormed d → IsOrder d order → (trace : Trace) (freed : ℕ → Bool) (c : Choices) (run : List Valuation)
    → IsRun d trace freed c run → Meets d trace freed c → IsRightThroughout d trace run
run-right d order well h trace freed c run is_run (other, other_run, right) =
    let P : List Valuation → Type 0 = λ r. IsRightThroughout d trace r in
    subst P (run-unique d order well h trace freed c other run other_run is_run) right

-- where each bit gets its value once, a trace has a run: so many cycles from cycle t on
run_from-exists : (d : Design) (order : List ℕ) → IsWellFormed d → IsDrivenOnce d → IsOrder d order → (trace : Trace) (freed : ℕ → Bool) (c : Choices)
    → (n t : ℕ) (state : Valuation) → t + n ≡ trace.cycles → (run : List Valuation) × IsRunFrom d trace freed c t state run
run_from-exists d order well once h trace freed c zero t state e = ([], omega (arith, e))
run_from-exists d order well once h trace freed c (suc n) t state e =
    let samples : List Bits = samples_at d trace t in
    let choice : Choice = choice_at freed c t in
    let V : Valuation = computed_now d order samples state choice in
    let next : Valuation = computed_next d state choice V in
    let (rest, is_run) = run_from-exists d order well once h trace freed c n (t + 1) next (omega (arith, e)) in
    (V ∷ rest, (omega (arith, e), (next, cycle-exists d order well once h samples state choice, is_run)))

pub run-exists : (d : Design) (order : List ℕ) → IsWellFormed d → IsDrivenOnce d → IsOrder d order → (trace : Trace) (freed : ℕ → Bool) (c : Choices)
    → (run : List Valuation) × IsRun d trace freed c run
run-exists d order well once h trace freed c = run_from-exists d order well once h trace freed c trace.cycles 0 (start_state d) (omega arith)
