-- The lines of a run, one cycle after another.
use Rattle.std.proofs.Common.{◌≡◌, ℕ, ◌+◌, ◌<◌, ◌≤◌, List, [], ◌∷◌, ◌++◌, map, refl, ap, sym, subst, ◌∙◌, arith, append_assoc}
use Rattle.std.proofs.lemmas.List.{append-nil, map-append}
use Rattle.design_core.specs.declared.design.Design.{Design}
use Rattle.design_core.specs.declared.trace.Trace.{Trace}
use Rattle.design_core.specs.Explained.{is_one_of}
use Rattle.design_core.specs.Valuation.{Valuation}
use Rattle.design_core.specs.Run.{IsRunFrom, samples_at, start_state}
use Rattle.design_core.specs.Cycle.{Cycle}
use Rattle.design_core.proofs.CycleLaws.{cycle-unique}
use Rattle.cycle_sim.specs.Replaying.{choices_from}
use Rattle.cycle_sim.specs.Simulated.{IsSimulable, Simulated, Steps}
use Rattle.change_lines.specs.Lines.{Told, change_text, chosen_in, cycle_changes, run_changes, site_of}

-- the lines of a cycle
abbrev pub cycle_texts : Told → ℕ → ℕ → ℕ → Valuation → List (List ℕ)
cycle_texts s number first t V = map change_text (cycle_changes (site_of s number t) (chosen_in s first t) V s.values.places.items)

-- those of the cycles of a run from one on
abbrev pub run_texts : Told → ℕ → ℕ → ℕ → List Valuation → List (List ℕ)
run_texts s number first t run = map change_text (run_changes s number first t run)

-- so many cycles of a run were made, and what is left of it begins in the present state
pub record Stands (s : Told) (number first : ℕ) (trace : Trace) (run : List Valuation) (t : ℕ) (state : Valuation) (old lines : List (List ℕ)) : Type 0 where
  pub rest : List Valuation
  pub left : IsRunFrom s.design trace (is_one_of s.values.places.items) (choices_from s.values first) t state rest
  pub whole : old ++ run_texts s number first 0 run ≡ lines ++ run_texts s number first t rest

pub stands-first : (s : Told) (number first : ℕ) (trace : Trace) (run : List Valuation) (state : Valuation) (old : List (List ℕ))
    → state ≡ start_state s.design
    → IsRunFrom s.design trace (is_one_of s.values.places.items) (choices_from s.values first) 0 (start_state s.design) run
    → Stands s number first trace run 0 state old old
stands-first s number first trace run state old start is = record {
  rest = run;
  left = subst (λ (q : Valuation). IsRunFrom s.design trace (is_one_of s.values.places.items) (choices_from s.values first) 0 q run) (sym start) is;
  whole = refl;
}

pub stands-next : (s : Told) (number first : ℕ) (order : List ℕ) → IsSimulable s.design order → (trace : Trace) (run : List Valuation) (t : ℕ)
    (before after : Simulated) (old lines now : List (List ℕ))
    → before.design ≡ s.design → before.order ≡ order → t < trace.cycles
    → Stands s number first trace run t before.state old lines
    → Steps (samples_at s.design trace t) (chosen_in s first t) before after
    → now ≡ lines ++ cycle_texts s number first t after.values
    → Stands s number first trace run (t + 1) after.state old now
stands-next s number first order k trace run t before after old lines now design ordered low stands steps is = at stands.rest stands.left stands.whole
  where
    made : IsSimulable before.design before.order
    made = subst (λ (D : Design). IsSimulable D before.order) (sym design)
        (subst (λ (O : List ℕ). IsSimulable s.design O) (sym ordered) k)

    at : (rest : List Valuation) → IsRunFrom s.design trace (is_one_of s.values.places.items) (choices_from s.values first) t before.state rest
        → old ++ run_texts s number first 0 run ≡ lines ++ run_texts s number first t rest
        → Stands s number first trace run (t + 1) after.state old now
    at [] left whole = absurd (omega (arith, low, left))
    at (W ∷ later) (within, (next, cycle, more)) whole =
        let own = subst (λ (D : Design). Cycle D (samples_at s.design trace t) before.state (chosen_in s first t) after.values after.state) design
        (steps.cycle made) in
        let same = cycle-unique s.design order k.well_formed k.ordered (samples_at s.design trace t) before.state (chosen_in s first t)
        W next after.values after.state cycle own in
        record {
          rest = later;
          left = subst (λ (q : Valuation). IsRunFrom s.design trace (is_one_of s.values.places.items) (choices_from s.values first) (t + 1) q later) same.1 more;
          whole = whole
              ∙ ap (λ (V : Valuation). lines ++ map change_text
              (cycle_changes (site_of s number t) (chosen_in s first t) V s.values.places.items ++ run_changes s number first (t + 1) later)) same.0
              ∙ ap (λ ls. lines ++ ls)
              (map-append change_text (cycle_changes (site_of s number t) (chosen_in s first t) after.values s.values.places.items)
              (run_changes s number first (t + 1) later))
              ∙ sym (append_assoc lines (cycle_texts s number first t after.values) (run_texts s number first (t + 1) later))
              ∙ ap (λ ls. ls ++ run_texts s number first (t + 1) later) (sym is);
        }

pub stands-last : (s : Told) (number first : ℕ) (trace : Trace) (run : List Valuation) (t : ℕ) (state : Valuation) (old lines : List (List ℕ))
    → trace.cycles ≤ t → Stands s number first trace run t state old lines → lines ≡ old ++ run_texts s number first 0 run
stands-last s number first trace run t state old lines past stands = at stands.rest stands.left stands.whole
  where
    at : (rest : List Valuation) → IsRunFrom s.design trace (is_one_of s.values.places.items) (choices_from s.values first) t state rest
        → old ++ run_texts s number first 0 run ≡ lines ++ run_texts s number first t rest → lines ≡ old ++ run_texts s number first 0 run
    at [] left whole = sym (whole ∙ append-nil lines)
    at (W ∷ later) left whole = absurd (omega (arith, past, left.0))
