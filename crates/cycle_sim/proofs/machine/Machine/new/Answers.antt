use Rattle.std.proofs.Common.{◌∙◌, length, ap, arith}
use Rattle.std.proofs.lemmas.List.{with_items_is}
use Rattle.design_core.specs.Valuation.{Valuation}
use Rattle.cycle_code.specs.Program.{program_of}
use Rattle.cycle_sim.proofs.Held.{cells-start, cells-many, seen-start}
use Rattle.cycle_sim.proofs.machine.Machine.new.Goals as goal

pub restart_cells-requires-clause-cells : goal.restart_cells-requires-clause-cells
restart_cells-requires-clause-cells c =
    cells-start c.in_ok-compiled.compiled.code c.deref_mut.result.now
    (c.deref_mut.ensures.value ∙ c.in_ok-cells.ensures ∙ c.deref.ensures.value)

pub returns : goal.returns
returns c =
    let start = cells-start c.in_ok-compiled.compiled.code c.deref_mut.result.now
    (c.deref_mut.ensures.value ∙ c.in_ok-cells.ensures ∙ c.deref.ensures.value) in
    let many = cells-many (program_of c.in_ok-compiled.compiled.code) c.deref_mut.result.now c.restart_cells.new.cells
    start c.restart_cells.ensures.cells in
    let cells = with_items_is c.in_ok-cells.cells c.restart_cells.new.cells
    (omega (arith, many, ap length c.deref_mut.ensures.value, c.in_ok-cells.cells.ok.0)) in
    record {
      holding = record {
        can = rw c.as_slice-2.ensures c.requires;
        plan = c.in_ok-plan.ensures;
        compiled = rw c.as_slice-2.ensures (rw c.as_slice.ensures at c.in_ok-compiled.ensures);
        cells = rw cells c.restart_cells.ensures.cells;
        quiet = λ k. rw cells
            (λ s b unlisted other undriven. ap (λ (V : Valuation). V s b) c.restart_cells.ensures.now);
      };
      start = rw (c.as_slice-2.ensures, cells)
          (seen-start c.args.design.now c.in_ok-compiled.compiled.code.design.now c.args.order.now _ _
          c.in_ok-compiled.ensures.design c.restart_cells.ensures.now c.restart_cells.ensures.later);
    }
