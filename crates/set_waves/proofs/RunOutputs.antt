-- The outputs of a run, one cycle after another.
use Rattle.std.proofs.Common.{◌≡◌, ℕ, ◌+◌, ◌<◌, ◌≤◌, Bool, List, [], ◌∷◌, ◌++◌, map, refl, ap, sym, subst, ◌∙◌, arith, append_assoc}
use Rattle.std.proofs.lemmas.List.{append-nil}
use Rattle.design_core.specs.declared.design.Design.{Design}
use Rattle.design_core.specs.declared.trace.Trace.{Trace}
use Rattle.design_core.specs.Valuation.{Valuation}
use Rattle.design_core.specs.Run.{Choices, IsRun, IsRunFrom, choice_at, samples_at, start_state}
use Rattle.design_core.specs.Cycle.{Cycle}
use Rattle.design_core.proofs.CycleLaws.{cycle-unique}
use Rattle.cycle_sim.specs.Simulated.{IsSimulable, Simulated, Steps}
use Rattle.vcd_waves.specs.Lines.{Shown}
use Rattle.set_waves.specs.Making.{given_in}
use Rattle.set_waves.specs.Scenes.{given}

-- so many cycles of a run were made, and what is left of it begins in the present state
pub record Stands (d : Design) (trace : Trace) (freed : ℕ → Bool) (c : Choices) (run : List Valuation) (t : ℕ) (state : Valuation)
    (outputs : List Shown) : Type 0 where
  pub rest : List Valuation
  pub left : IsRunFrom d trace freed c t state rest
  pub whole : given_in d run ≡ outputs ++ given_in d rest

pub stands-first : (d : Design) (trace : Trace) (freed : ℕ → Bool) (c : Choices) (run : List Valuation) (state : Valuation)
    → state ≡ start_state d → IsRun d trace freed c run → Stands d trace freed c run 0 state []
stands-first d trace freed c run state start is = record {
  rest = run;
  left = subst (λ (s : Valuation). IsRunFrom d trace freed c 0 s run) (sym start) is;
  whole = refl;
}

pub stands-next : (d : Design) (order : List ℕ) → IsSimulable d order → (trace : Trace) (freed : ℕ → Bool) (c : Choices)
    (run : List Valuation) (t : ℕ) (before after : Simulated) (outputs now : List Shown)
    → before.design ≡ d → before.order ≡ order → t < trace.cycles
    → Stands d trace freed c run t before.state outputs
    → Steps (samples_at d trace t) (choice_at freed c t) before after
    → now ≡ outputs ++ map (given d after.values) d.outputs.items
    → Stands d trace freed c run (t + 1) after.state now
stands-next d order k trace freed c run t before after outputs now design ordered low stands steps is = at stands.rest stands.left stands.whole
  where
    made : IsSimulable before.design before.order
    made = subst (λ (D : Design). IsSimulable D before.order) (sym design)
        (subst (λ (O : List ℕ). IsSimulable d O) (sym ordered) k)

    at : (rest : List Valuation) → IsRunFrom d trace freed c t before.state rest → given_in d run ≡ outputs ++ given_in d rest
        → Stands d trace freed c run (t + 1) after.state now
    at [] left whole = absurd (omega (arith, low, left))
    at (W ∷ later) (within, (next, cycle, more)) whole =
        let own = subst (λ (D : Design). Cycle D (samples_at d trace t) before.state (choice_at freed c t) after.values after.state) design
        (steps.cycle made) in
        let same = cycle-unique d order k.well_formed k.ordered (samples_at d trace t) before.state (choice_at freed c t)
        W next after.values after.state cycle own in
        record {
          rest = later;
          left = subst (λ (s : Valuation). IsRunFrom d trace freed c (t + 1) s later) same.1 more;
          whole = whole ∙ ap (λ (V : Valuation). outputs ++ (map (given d V) d.outputs.items ++ given_in d later)) same.0
              ∙ sym (append_assoc outputs (map (given d after.values) d.outputs.items) (given_in d later))
              ∙ ap (λ xs. xs ++ given_in d later) (sym is);
        }

pub stands-last : (d : Design) (trace : Trace) (freed : ℕ → Bool) (c : Choices) (run : List Valuation) (t : ℕ) (state : Valuation)
    (outputs : List Shown) → trace.cycles ≤ t → Stands d trace freed c run t state outputs → outputs ≡ given_in d run
stands-last d trace freed c run t state outputs past stands = at stands.rest stands.left stands.whole
  where
    at : (rest : List Valuation) → IsRunFrom d trace freed c t state rest → given_in d run ≡ outputs ++ given_in d rest
        → outputs ≡ given_in d run
    at [] left whole = sym (whole ∙ append-nil outputs)
    at (W ∷ later) left whole = absurd (omega (arith, past, left.0))
