use Rattle.std.proofs.Common.{[], ◌∷◌, ◌++◌, ◌∙◌, ap, arith}
use Rattle.design_core.specs.declared.driver.Clocked.{Clocked}
use Rattle.aiger_text.specs.Rows.{first_latch}
use Rattle.aiger_design.specs.Drivers.{latch_block}
use Rattle.aiger_rules.proofs.PortSteps.{push-range}
use Rattle.aiger_design.proofs.file.File.blocks.Goals as goal

pub loop-row-preserved : goal.loop-row-preserved
loop-row-preserved c = record {
  made = push-range (latch_block c.args.self.now.rows.now c.args.self.now.numbering) (first_latch c.args.self.now.numbering.counts) c.loop-row.row c.new-blocks.result.items c.loop-row.blocks.items c.push.new.self.items c.loop-row.invariant.from c.loop-row.invariant.made
      (c.in_ok-push.ensures.items ∙ ap (λ (x : Clocked). c.loop-row.blocks.items ++ x ∷ []) (c.in_ok-latch_block.ensures));
  from = omega arith;
  few = omega arith;
}
