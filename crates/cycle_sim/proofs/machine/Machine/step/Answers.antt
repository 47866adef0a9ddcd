use Rattle.std.proofs.Common.{refl, arith}
use Rattle.std.proofs.lemmas.List.{with_items_is}
use Rattle.design_core.specs.declared.design.Design.{Design}
use Rattle.design_core.specs.Valuation.{Valuation}
use Rattle.design_core.specs.After.{Choice}
use Rattle.design_core.specs.Cycle.{Cycle}
use Rattle.design_core.specs.Words.{valuation_of}
use Rattle.cycle_code.specs.Choosing.{as_choice}
use Rattle.design_core.specs.Steps.{kept}
use Rattle.cycle_code.specs.Program.{Program, program_of}
use Rattle.cycle_sim.specs.Compiled.{now_in, later_in}
use Rattle.cycle_sim.specs.Simulated.{IsSimulable}
use Rattle.cycle_sim.proofs.Held.{cells-many, cycle-held}
use Rattle.cycle_sim.proofs.Stepping.{cycle-quiet}
use Rattle.cycle_sim.proofs.machine.Machine.step.Goals as goal

pub returns : goal.returns
returns c =
    let machine = c.args.self.now in
    let p : Program = program_of machine.compiled.code in
    let d : Design = machine.design.now in
    let choice : Choice = as_choice c.args.choices.now in
    let O : Valuation = now_in p (valuation_of machine.cells.items) in
    let S : Valuation = later_in p (valuation_of machine.cells.items) in
    let V : Valuation = now_in p (valuation_of c.make_cycle.new.cells) in
    let N : Valuation = later_in p (valuation_of c.make_cycle.new.cells) in
    let many = cells-many p machine.cells.items c.make_cycle.new.cells
    c.requires.holding.cells c.make_cycle.ensures.cells in
    let cells = with_items_is machine.cells c.make_cycle.new.cells (omega (arith, many, machine.cells.ok.0)) in
    let cycle : IsSimulable d machine.order.now → Cycle d c.args.samples.now (kept d S) choice V (kept d N) =
    λ k. cycle-held d machine.compiled.code.design.now machine.order.now c.args.samples.now choice O S V N
    c.requires.holding.compiled.design (rw c.deref_mut.ensures.value at c.make_cycle.ensures.cycle) k
    (c.requires.holding.quiet k) in
    record {
      holding = record {
        can = c.requires.holding.can;
        plan = c.requires.holding.plan;
        compiled = c.requires.holding.compiled;
        cells = rw cells c.make_cycle.ensures.cells;
        quiet = λ k. rw cells (cycle-quiet d c.args.samples.now (kept d S) choice V (kept d N) (cycle k));
      };
      step = record {
        design = refl;
        order = refl;
        cycle = λ k. rw cells (cycle k);
      };
    }
