-- The lines of a run, one cycle after another.
use Rattle.std.proofs.Common.{ℕ, ◌+◌, ◌≡◌, ◌<◌, ◌≤◌, List, [], ◌∷◌, ◌++◌, ap, sym, refl, subst, ◌∙◌, arith, Err}
use Rattle.design_core.specs.declared.design.Design.{Design}
use Rattle.design_core.specs.declared.trace.Trace.{Trace}
use Rattle.design_core.specs.Valuation.{Valuation}
use Rattle.design_core.specs.Cycle.{Cycle}
use Rattle.design_core.specs.Run.{samples_at, start_state, choice_at, IsRunFrom, IsRun}
use Rattle.cycle_sim.specs.Simulated.{IsSimulable, Simulated, Steps}
use Rattle.io_ports.specs.Sink.{SinkAppends}
use Rattle.io_ports.specs.declared.errors.SinkFault.{SinkFault}
use Rattle.sim_lines.specs.Lines.{Line, cycle_line, cycle_lines, line_text, text_of, no_place, no_values}
use Rattle.sim_lines.specs.Shows.{Shows}
use Rattle.sim_lines.specs.Running.{no_choice}
use Rattle.sim_lines.proofs.ShowsLaws.{shows-none, shows-one, shows-stopped, shows-then, text-next}
use Rattle.design_core.proofs.CycleLaws.{cycle-unique}

append-one : {X : Type 0} (xs : List X) (x : X) (ys : List X) → (xs ++ x ∷ []) ++ ys ≡ xs ++ x ∷ ys
append-one [] x ys = refl
append-one (y ∷ xs) x ys = ap (λ zs. y ∷ zs) (append-one xs x ys)

append-none : {X : Type 0} (xs : List X) → xs ++ [] ≡ xs
append-none [] = refl
append-none (x ∷ xs) = ap (λ zs. x ∷ zs) (append-none xs)

-- so many cycles of a run were made and printed, and what is left of it begins in the present state
pub record Stands (d : Design) (trace : Trace) (number : ℕ) (run : List Valuation) (t : ℕ) (state : Valuation) (old now : List ℕ) : Type 0 where
  pub front : List Line
  pub rest : List Valuation
  pub lines : cycle_lines d number 0 run ≡ front ++ cycle_lines d number t rest
  pub left : IsRunFrom d trace no_place no_values t state rest
  pub printed : now ≡ old ++ text_of front

pub stands-first : (d : Design) (trace : Trace) (number : ℕ) (run : List Valuation) (state : Valuation) (old : List ℕ) → state ≡ start_state d
    → IsRun d trace no_place no_values run → Stands d trace number run 0 state old old
stands-first d trace number run state old start is = record {
  front = [];
  rest = run;
  lines = refl;
  left = subst (λ (s : Valuation). IsRunFrom d trace no_place no_values 0 s run) (sym start) is;
  printed = shows-none old;
}

-- the next cycle of the run is the one that is made
record Next (d : Design) (trace : Trace) (number t : ℕ) (rest : List Valuation) (V next : Valuation) : Type 0 where
  later : List Valuation
  lines : cycle_lines d number t rest ≡ cycle_line d number t V ∷ cycle_lines d number (t + 1) later
  left : IsRunFrom d trace no_place no_values (t + 1) next later

next-is : (d : Design) (order : List ℕ) → IsSimulable d order → (trace : Trace) (number t : ℕ) (state V next : Valuation) (rest : List Valuation) → t < trace.cycles
    → IsRunFrom d trace no_place no_values t state rest → Cycle d (samples_at d trace t) state (choice_at no_place no_values t) V next → Next d trace number t rest V next
next-is d order k trace number t state V next [] low left made = absurd (omega (arith, low, left))
next-is d order k trace number t state V next (W ∷ later) low (within, (after, cycle, more)) made =
    let same = cycle-unique d order k.well_formed k.ordered (samples_at d trace t) state (choice_at no_place no_values t) W after V next cycle made in
    record {
      later = later;
      lines = ap (λ (X : Valuation). cycle_line d number t X ∷ cycle_lines d number (t + 1) later) same.0;
      left = subst (λ (s : Valuation). IsRunFrom d trace no_place no_values (t + 1) s later) same.1 more;
    }

pub stands-next : (d : Design) (order : List ℕ) → IsSimulable d order → (trace : Trace) (number : ℕ) (run : List Valuation) (t : ℕ) (state V next : Valuation) (old now new : List ℕ)
    → t < trace.cycles → Stands d trace number run t state old now → Cycle d (samples_at d trace t) state (choice_at no_place no_values t) V next
    → new ≡ now ++ line_text (cycle_line d number t V) → Stands d trace number run (t + 1) next old new
stands-next d order k trace number run t state V next old now new low before made is =
    let n = next-is d order k trace number t state V next before.rest low before.left made in
    record {
      front = before.front ++ cycle_line d number t V ∷ [];
      rest = n.later;
      lines = before.lines ∙ ap (λ ls. before.front ++ ls) n.lines ∙ sym (append-one before.front (cycle_line d number t V) (cycle_lines d number (t + 1) n.later));
      left = n.left;
      printed = text-next before.front (cycle_line d number t V) old now new before.printed is;
    }

-- a cycle's line that isn't printed whole
pub stands-stopped : (X Y : Type 0) (d : Design) (order : List ℕ) → IsSimulable d order → (trace : Trace) (number : ℕ) (run : List Valuation) (t : ℕ) (state V next : Valuation) (old now new : List ℕ)
    → (e : SinkFault) → t < trace.cycles → Stands d trace number run t state old now → Cycle d (samples_at d trace t) state (choice_at no_place no_values t) V next
    → SinkAppends {X = X} (line_text (cycle_line d number t V)) now new (Err e) → Shows {X = Y} (cycle_lines d number 0 run) old new (Err e)
stands-stopped X Y d order k trace number run t state V next old now new e low before made is =
    let n = next-is d order k trace number t state V next before.rest low before.left made in
    let line : Line = cycle_line d number t V in
    let later : List Line = cycle_lines d number (t + 1) n.later in
    let all : before.front ++ (line ∷ []) ++ later ≡ cycle_lines d number 0 run =
    append-one before.front line later ∙ ap (λ ls. before.front ++ ls) (sym n.lines) ∙ sym before.lines in
    let one : Shows {X = X} (line ∷ []) now new (Err e) = shows-one X line now new (Err e) is in
    let some : Shows {X = X} (before.front ++ line ∷ []) old new (Err e) = shows-then X before.front (line ∷ []) old now new (Err e) before.printed one in
    subst (λ ls. Shows {X = Y} ls old new (Err e)) all (shows-stopped X Y (before.front ++ line ∷ []) later old new e some)

-- what a step makes is a cycle of the design
pub made : (d : Design) (order : List ℕ) → IsSimulable d order → (trace : Trace) (t : ℕ) (before after : Simulated) → before.design ≡ d → before.order ≡ order
    → Steps (samples_at before.design trace t) no_choice before after
    → Cycle d (samples_at d trace t) before.state (choice_at no_place no_values t) after.values after.state
made d order k trace t before after design ordered steps =
    subst (λ (D : Design). Cycle D (samples_at D trace t) before.state no_choice after.values after.state) design
    (steps.cycle (subst (λ (D : Design). IsSimulable D before.order) (sym design) (subst (λ (O : List ℕ). IsSimulable d O) (sym ordered) k)))

-- a cycle that is made and printed
pub stands-shown : (d : Design) (order : List ℕ) → IsSimulable d order → (trace : Trace) (number : ℕ) (run : List Valuation) (t : ℕ) (before after : Simulated) (old now new : List ℕ)
    → before.design ≡ d → before.order ≡ order → t < trace.cycles → Stands d trace number run t before.state old now
    → Steps (samples_at before.design trace t) no_choice before after
    → new ≡ now ++ line_text (cycle_line before.design number t after.values) → Stands d trace number run (t + 1) after.state old new
stands-shown d order k trace number run t before after old now new design ordered low stands steps is =
    stands-next d order k trace number run t before.state after.values after.state old now new low stands (made d order k trace t before after design ordered steps)
    (is ∙ ap (λ (D : Design). now ++ line_text (cycle_line D number t after.values)) design)

-- and one whose line isn't
pub stands-failed : (X Y : Type 0) (d : Design) (order : List ℕ) → IsSimulable d order → (trace : Trace) (number : ℕ) (run : List Valuation) (t : ℕ) (before after : Simulated) (old now new : List ℕ)
    → (e : SinkFault) → before.design ≡ d → before.order ≡ order → t < trace.cycles → Stands d trace number run t before.state old now
    → Steps (samples_at before.design trace t) no_choice before after
    → SinkAppends {X = X} (line_text (cycle_line before.design number t after.values)) now new (Err e) → Shows {X = Y} (cycle_lines d number 0 run) old new (Err e)
stands-failed X Y d order k trace number run t before after old now new e design ordered low stands steps is =
    stands-stopped X Y d order k trace number run t before.state after.values after.state old now new e low stands (made d order k trace t before after design ordered steps)
    (subst (λ (D : Design). SinkAppends {X = X} (line_text (cycle_line D number t after.values)) now new (Err e)) design is)

-- all cycles were printed
pub stands-last : (d : Design) (trace : Trace) (number : ℕ) (run : List Valuation) (t : ℕ) (state : Valuation) (old now : List ℕ) → trace.cycles ≤ t
    → Stands d trace number run t state old now → now ≡ old ++ text_of (cycle_lines d number 0 run)
stands-last d trace number run t state old now all s = at s.rest s.left s.lines
  where
    at : (rest : List Valuation) → IsRunFrom d trace no_place no_values t state rest → cycle_lines d number 0 run ≡ s.front ++ cycle_lines d number t rest
        → now ≡ old ++ text_of (cycle_lines d number 0 run)
    at [] left lines = s.printed ∙ ap (λ ls. old ++ text_of ls) (sym (append-none s.front) ∙ sym lines)
    at (V ∷ rest) left lines = absurd (omega (arith, left.0, all))
