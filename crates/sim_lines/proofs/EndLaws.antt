-- Where a trace first is not right, cycle by cycle, and that it ends in one way.
use Rattle.std.proofs.Common.{ℕ, ◌+◌, ◌≡◌, ◌<◌, ◌≤◌, List, [], ◌∷◌, ◌++◌, length, ap, sym, refl, subst, ◌∙◌, arith, ◌⊎◌, inl, inr, Option, Some, None}
use Rattle.std.specs.Prelude.{IfSome}
use Rattle.std.specs.Option.{option_map}
use Rattle.std.proofs.lemmas.Bool.{cases_lt}
use Rattle.std.proofs.lemmas.Option.{slice_get_within}
use Rattle.design_core.specs.declared.design.Design.{Design}
use Rattle.design_core.specs.declared.trace.Trace.{Trace}
use Rattle.design_core.specs.Valuation.{Valuation}
use Rattle.design_core.specs.Cycle.{Cycle}
use Rattle.design_core.specs.Run.{choice_at, expected_at, samples_at, start_state}
use Rattle.cycle_sim.specs.Simulated.{IsSimulable, Simulated, Steps}
use Rattle.cycle_sim.proofs.Running.{RunTo, meets-no_miss, run-begin, run-end, run-misses, run-next}
use Rattle.sim_lines.specs.declared.lines.Wrong.{Wrong}
use Rattle.sim_lines.specs.Lines.{IsEnd, no_place, no_values}
use Rattle.sim_lines.specs.Running.{EndAfter, no_choice, place_of}
use Rattle.sim_lines.proofs.CycleLaws.{made}

-- so many cycles of a trace were made, and where they first are not right is known
abbrev pub EndTo : Design → Trace → ℕ → Valuation → Option Wrong → Type 0
EndTo d trace t state None = (front : List Valuation) × RunTo d trace no_place no_values t state front
EndTo d trace t state (Some miss) = IsEnd d trace (Some (miss.cycle, miss.output))

pub end-begin : (d : Design) (trace : Trace) (state : Valuation) → state ≡ start_state d → EndTo d trace 0 state None
end-begin d trace state start = ([], run-begin d trace no_place no_values state start)

-- one cycle more
next-end : (d : Design) (order : List ℕ) → IsSimulable d order → (trace : Trace) (t : ℕ) (state V next : Valuation) (one other : Option Wrong) → t < trace.cycles
    → Cycle d (samples_at d trace t) state (choice_at no_place no_values t) V next → EndAfter d (expected_at d trace t) V t one other
    → EndTo d trace t state one → EndTo d trace (t + 1) next other
next-end d order k trace t state V next (Some miss) other low cycle after is = subst (λ o. EndTo d trace (t + 1) next o) (sym after) is
next-end d order k trace t state V next None None low cycle after (front, to) = (front ++ V ∷ [], run-next d trace no_place no_values t state V next front low to cycle after)
next-end d order k trace t state V next None (Some miss) low cycle (now, wrong) (front, to) =
    subst (λ u. IsEnd d trace (Some (u, miss.output))) (sym now) (run-misses d order k trace no_place no_values t miss.output state V next front low to cycle wrong)

pub end-next : (d : Design) (order : List ℕ) → IsSimulable d order → (trace : Trace) (t : ℕ) (before after : Simulated) (one other : Option Wrong) → before.design ≡ d → before.order ≡ order
    → t < trace.cycles → Steps (samples_at before.design trace t) no_choice before after
    → (now : Design) → now ≡ d → EndAfter now (expected_at now trace t) after.values t one other
    → EndTo d trace t before.state one → EndTo d trace (t + 1) after.state other
end-next d order k trace t before after one other design ordered low steps now same checked is =
    next-end d order k trace t before.state after.values after.state one other low (made d order k trace t before after design ordered steps)
    (subst (λ (D : Design). EndAfter D (expected_at D trace t) after.values t one other) same checked) is

-- all cycles were made
pub end-last : (d : Design) (trace : Trace) (t : ℕ) (state : Valuation) (end : Option Wrong) → t ≡ trace.cycles → EndTo d trace t state end → IsEnd d trace (option_map place_of end)
end-last d trace t state None all (front, to) = run-end d trace no_place no_values t state front all to
end-last d trace t state (Some miss) all is = is

-- the output of a miss is one
pub miss-within : (d : Design) (trace : Trace) (t i : ℕ) → IsEnd d trace (Some (t, i)) → i < length d.outputs.items
miss-within d trace t i is = slice_get_within d.outputs.items i is.0.output is.0.is_output

pub output-within : (d : Design) (trace : Trace) (answer : Option Wrong) → IsEnd d trace (option_map place_of answer)
    → IfSome answer (λ m. m.output < length d.outputs.items)
output-within d trace None is = tt
output-within d trace (Some miss) is = miss-within d trace miss.cycle miss.output is

-- a trace ends in one way
first-only : (t i u j : ℕ) → ((u < t) ⊎ ((u ≡ t) × (j < i)) → ⊥) → ((t < u) ⊎ ((t ≡ u) × (i < j)) → ⊥) → (t ≡ u) × (i ≡ j)
first-only t i u j one other = by_cycle (cases_lt u t) (cases_lt t u)
  where
    by_output : t ≡ u → (j < i) ⊎ (i ≤ j) → (i < j) ⊎ (j ≤ i) → i ≡ j
    by_output same (inl low) b = absurd (one (inr (sym same, low)))
    by_output same (inr high) (inl low) = absurd (other (inr (same, low)))
    by_output same (inr high) (inr higher) = omega (arith, high, higher)

    by_cycle : (u < t) ⊎ (t ≤ u) → (t < u) ⊎ (u ≤ t) → (t ≡ u) × (i ≡ j)
    by_cycle (inl low) b = absurd (one (inl low))
    by_cycle (inr high) (inl low) = absurd (other (inl low))
    by_cycle (inr high) (inr higher) = let same : t ≡ u = omega (arith, high, higher) in (same, by_output same (cases_lt j i) (cases_lt i j))

pub end-unique : (d : Design) (order : List ℕ) → IsSimulable d order → (trace : Trace) (one other : Option (ℕ × ℕ)) → IsEnd d trace one → IsEnd d trace other → one ≡ other
end-unique d order k trace None None a b = refl
end-unique d order k trace None (Some (t, i)) a b = absurd (meets-no_miss d order k trace no_place no_values t i a b.0)
end-unique d order k trace (Some (t, i)) None a b = absurd (meets-no_miss d order k trace no_place no_values t i b a.0)
end-unique d order k trace (Some (t, i)) (Some (u, j)) a b =
    let same = first-only t i u j (a.1 u j b.0) (b.1 t i a.0) in
    ap (λ n. Some (n, i)) same.0 ∙ ap (λ n. Some (u, n)) same.1
