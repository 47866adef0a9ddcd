use Rattle.std.proofs.Common.{◌≡◌, ◌-◌, ◌<◌, ◌≤◌, length, sym, ap, ◌∙◌, arith}
use Rattle.std.specs.Prelude.{slice_get, Some}
use Rattle.loc_base.proofs.ShelfLists.{slice_get-at}
use Rattle.design_core.specs.Valuation.{Valuation}
use Rattle.design_core.specs.After.{Choice}
use Rattle.design_core.specs.Words.{valuation_of}
use Rattle.cycle_code.specs.Choosing.{as_choice}
use Rattle.cycle_code.specs.declared.instruction.Instruction.{Instruction}
use Rattle.cycle_code.specs.Program.{Program, program_of}
use Rattle.cycle_code.specs.Effects.{next}
use Rattle.cycle_code.specs.Running.{run}
use Rattle.cycle_code.proofs.RunSteps.{run-step, run-end, next-below}
use Rattle.cycle_code.proofs.running.run.Goals as goal

pub loop-at-preserved : goal.loop-at-preserved
loop-at-preserved c =
    let p : Program = program_of c.args.code.now in
    let choice : Choice = as_choice c.args.choices.now in
    let V : Valuation = valuation_of c.loop-at.cells in
    let at = c.loop-at.at in
    let i : Instruction = c.index.result.now in
    let within : at - 1 < length p.instructions = omega (arith, c.loop-at.invariant.within, c.loop-at-test.true) in
    let is : slice_get p.instructions (at - 1) ≡ Some i = slice_get-at p.instructions (at - 1) i within c.index.ensures in
    let lower : next p i (at - 1) V ≤ at - 1 = next-below p i (at - 1) V in
    record {
      widths = c.perform-at.ensures.widths;
      within = omega (arith, c.perform-at.ensures.next, lower, within);
      value = ap (λ q. run p choice c.args.range.to q (valuation_of c.perform-at.new.cells)) c.perform-at.ensures.next
          ∙ ap (run p choice c.args.range.to (next p i (at - 1) V)) c.perform-at.ensures.value
          ∙ sym (run-step p choice c.args.range.to at i V c.loop-at-test.true is)
          ∙ c.loop-at.invariant.value;
    }

pub returns-clause-value : goal.returns-clause-value
returns-clause-value c =
    let p : Program = program_of c.args.code.now in
    let choice : Choice = as_choice c.args.choices.now in
    sym (run-end p choice c.args.range.to c.loop-at.at (valuation_of c.loop-at.cells) c.loop-at-test.false) ∙ c.loop-at.invariant.value
