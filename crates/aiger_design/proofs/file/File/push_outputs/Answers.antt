use Rattle.std.proofs.Common.{[], ◌∷◌, ◌++◌, ◌∙◌, ap, arith}
use Rattle.design_core.specs.declared.driver.Driver.{Driver}
use Rattle.aiger_text.specs.Rows.{first_output}
use Rattle.aiger_design.specs.Drivers.{output_driver}
use Rattle.aiger_rules.proofs.PortSteps.{push-range}
use Rattle.aiger_design.proofs.file.File.push_outputs.Goals as goal

pub loop-row-preserved : goal.loop-row-preserved
loop-row-preserved c = record {
  made = push-range (output_driver c.args.self.now.rows.now c.args.self.now.numbering) (first_output c.args.self.now.numbering.counts) c.loop-row.row c.args.drivers.now.items c.loop-row.drivers.items c.push.new.self.items c.loop-row.invariant.from c.loop-row.invariant.made
      (c.in_ok-push.ensures.items ∙ ap (λ (x : Driver). c.loop-row.drivers.items ++ x ∷ []) (c.in_ok-output_driver.ensures));
  from = omega arith;
  few = omega arith;
}
