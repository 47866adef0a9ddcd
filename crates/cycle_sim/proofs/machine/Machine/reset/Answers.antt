use Rattle.std.proofs.Common.{ap, arith}
use Rattle.std.proofs.lemmas.List.{with_items_is}
use Rattle.design_core.specs.Valuation.{Valuation}
use Rattle.cycle_code.specs.Program.{program_of}
use Rattle.cycle_sim.proofs.Held.{cells-many, seen-start}
use Rattle.cycle_sim.proofs.machine.Machine.reset.Goals as goal

pub returns : goal.returns
returns c =
    let machine = c.args.self.now in
    let many = cells-many (program_of machine.compiled.code) machine.cells.items c.restart_cells.new.cells
    c.requires.cells c.restart_cells.ensures.cells in
    let cells = with_items_is machine.cells c.restart_cells.new.cells (omega (arith, many, machine.cells.ok.0)) in
    record {
      holding = record {
        can = c.requires.can;
        plan = c.requires.plan;
        compiled = c.requires.compiled;
        cells = rw cells c.restart_cells.ensures.cells;
        quiet = λ k. rw cells
            (λ s b unlisted other undriven. ap (λ (V : Valuation). V s b) c.restart_cells.ensures.now);
      };
      start = rw cells
          (seen-start machine.design.now machine.compiled.code.design.now machine.order.now _ _
          c.requires.compiled.design c.restart_cells.ensures.now c.restart_cells.ensures.later);
    }
