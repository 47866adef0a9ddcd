-- Continuous assignments that were pushed.
use Rattle.std.proofs.Common.{◌≡◌, ℕ, ◌+◌, ◌<◌, ◌≤◌, length, arith, sym, refl, ◌∙◌, ap, subst}
use Rattle.std.specs.Prelude.{Bool, false, Option, Some, None}
use Rattle.design_core.specs.declared.design.Design.{Design}
use Rattle.design_core.specs.declared.expression.Typed.{Typed}
use Rattle.design_core.specs.Valuation.{Valuation, bit, width_at}
use Rattle.design_core.specs.Store.{with_bits}
use Rattle.design_core.specs.After.{Choice, assigned}
use Rattle.design_core.specs.Cycle.{cont_assigned}
use Rattle.cycle_code.specs.declared.instruction.Instruction.TheVariants as instruction
use Rattle.cycle_code.specs.Program.{Program, count_of, signals_of, Grown, with_instruction}
use Rattle.cycle_code.specs.Cells.{width_in}
use Rattle.cycle_code.specs.Effects.{held_in}
use Rattle.cycle_code.specs.Fitting.{IsSound}
use Rattle.cycle_code.proofs.GrowthLaws.{Grown-trans, width_in-grown}
use Rattle.cycle_code.proofs.SoundLaws.{sound-cells}
use Rattle.cycle_compile.specs.Compiling.{is_leaf, value_in, Values}
use Rattle.cycle_compile.proofs.Leading.{Leads-on, Leads-at, count-grown, Keeps-placed, widths-grown}
use Rattle.cycle_compile.proofs.Placing.{width_in-signal}
use Rattle.cycle_sim.specs.Compiled.{now_in, Turned, Pushes, put_now, whole_now, none}
use Rattle.cycle_sim.proofs.Pushing.{Pushes-one, Turned-put, Turned-kept, Turned-on}
use Rattle.std.proofs.lemmas.Bool.{lt-ltb}

-- the width of a signal's cell as the program grows
signal-width : (old p : Program) (signal : ℕ) → IsSound old → Grown old p → signal < count_of old
    → width_in p.widths signal ≡ width_at (signals_of p) signal
signal-width old p signal sound grown low =
    let most : count_of old + count_of old + count_of old ≤ length old.widths = sound-cells old sound in
    width_in-grown old p signal grown (lt-ltb signal (length old.widths) (omega arith))
    ∙ width_in-signal old signal sound low
    ∙ sym (ap (λ (d : Design). width_at d.signals.items signal) grown.design)

-- ---- a whole signal
pub Pushes-set : (old new : Program) (signal place cell : ℕ) → IsSound old → signal < count_of old
    → new ≡ with_instruction (instruction.Set place cell signal) old
    → IsSound new → Grown old new → Pushes old new (put_now signal (Some place) cell) none
Pushes-set old new signal place cell sound low made fine grown =
    Pushes-one (instruction.Set place cell signal) old new (put_now signal (Some place) cell) made fine grown (λ p q V. refl)
    (λ p choice V more has.
    let from : Grown old p = Grown-trans old new p grown more in
    let same : count_of p ≡ count_of old = count-grown old p from in
    Turned-put p signal (assigned choice place (held_in p V cell)) (length old.widths) V
    (put_now signal (Some place) cell p choice V) (omega arith)
    (ap (λ n. with_bits (now_in p V) signal 0 n (bit (assigned choice place (held_in p V cell))))
    (signal-width old p signal sound from low)))

pub Pushes-put : (old new : Program) (signal cell : ℕ) → IsSound old → signal < count_of old
    → new ≡ with_instruction (instruction.Put cell signal) old
    → IsSound new → Grown old new → Pushes old new (put_now signal None cell) none
Pushes-put old new signal cell sound low made fine grown =
    Pushes-one (instruction.Put cell signal) old new (put_now signal None cell) made fine grown (λ p q V. refl) (λ p choice V more has.
    let from : Grown old p = Grown-trans old new p grown more in
    let same : count_of p ≡ count_of old = count-grown old p from in
    Turned-put p signal (held_in p V cell) (length old.widths) V (put_now signal None cell p choice V) (omega arith)
    (ap (λ n. with_bits (now_in p V) signal 0 n (bit (held_in p V cell))) (signal-width old p signal sound from low)))

-- where cells alone were new before
pub Pushes-earlier : (before old new : Program) (now : Program → Choice → Valuation → Valuation) (drives : ℕ → ℕ → Bool) → Grown before old
    → old.instructions ≡ before.instructions → Pushes old new now drives → Pushes before new now drives
Pushes-earlier before old new now drives grown same pushes = record {
  grown = Grown-trans before old new grown pushes.grown;
  leaves = λ p choice V more has.
      let left = pushes.leaves p choice V more has in
      let fewer = widths-grown before old grown in
      record {
        W = left.W;
        leads = Leads-at (length new.instructions) (length before.instructions) refl (ap length same) left.leads;
        turned = record {
          now = left.turned.now;
          later = left.turned.later;
          keeps = λ cell b from to. left.turned.keeps cell b from (omega arith);
        };
      };
}

-- once the value of an expression is computed into a cell that was given for it
pub Pushes-computed : (before middle new : Program) (e : Typed) (cell : ℕ)
    (second whole : Program → Choice → Valuation → Valuation) → IsSound before
    → (is_leaf e.node ≡ false → length before.widths ≤ cell) → Pushes before middle second none → Values middle new e cell
    → ((p : Program) (choice : Choice) (V W : Valuation) → now_in p W ≡ now_in p V → held_in p W cell ≡ value_in p V e
    → second p choice W ≡ whole p choice V)
    → Pushes before new whole none
Pushes-computed before middle new e cell second whole sound fresh lower values join = record {
  grown = Grown-trans before middle new lower.grown values.grown;
  leaves = λ p choice V grown has.
      let begin = values.leaves p choice V grown has in
      let rest = lower.leaves p choice begin.W (Grown-trans middle new p values.grown grown) begin.leads.constants in
      let most : count_of before + count_of before + count_of before ≤ length before.widths = sound-cells before sound in
      let same : count_of p ≡ count_of before =
      count-grown before p (Grown-trans before middle p lower.grown (Grown-trans middle new p values.grown grown)) in
      let first = Turned-kept p (length before.widths) V begin.W (omega arith) (Keeps-placed before lower.grown fresh begin) in
      record {
        W = rest.W;
        leads = Leads-on begin.leads rest.leads;
        turned = subst (λ N. Turned p (length before.widths) N none V rest.W) (join p choice V begin.W first.now begin.value)
            (Turned-on p (length before.widths) (length before.widths) (now_in p V) (second p choice begin.W) none none none V
            begin.W rest.W
            (omega arith) first rest.turned (λ s b off. (refl, refl)));
      };
}

-- an assignment to a whole signal
pub Pushes-whole : (before placed middle new : Program) (signal cell : ℕ) (place : Option ℕ) (e : Typed) → IsSound before
    → Grown before placed
    → placed.instructions ≡ before.instructions → (is_leaf e.node ≡ false → length before.widths ≤ cell)
    → Pushes placed middle (put_now signal place cell) none
    → Values middle new e cell → Pushes before new (whole_now signal place e) none
Pushes-whole before placed middle new signal cell place e sound grown same fresh lower values =
    Pushes-computed before middle new e cell (put_now signal place cell) (whole_now signal place e) sound fresh
    (Pushes-earlier before placed middle (put_now signal place cell) none grown same lower) values (λ p choice V W now held.
    ap (λ N. with_bits N signal 0 (width_at (signals_of p) signal) (bit (cont_assigned choice place (held_in p W cell)))) now
    ∙ ap (λ n. with_bits (now_in p V) signal 0 (width_at (signals_of p) signal) (bit (cont_assigned choice place n))) held)
