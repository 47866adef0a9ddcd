use Rattle.std.proofs.Common.{[], ◌∷◌, ◌++◌, ◌∙◌, ap, arith}
use Rattle.design_core.specs.declared.signal.Signal.{Signal}
use Rattle.aiger_design.specs.Signals.{row_signal_of, signal}
use Rattle.aiger_rules.proofs.PortSteps.{push-range}
use Rattle.aiger_design.proofs.file.File.push_rows.Goals as goal

pub loop-number-preserved : goal.loop-number-preserved
loop-number-preserved c = record {
  made = push-range (row_signal_of c.args.self.now.rows.now c.args.of.kind c.args.of.letter) (c.args.of.from) c.loop-number.number c.args.signals.now.items c.loop-number.signals.items c.push.new.self.items c.loop-number.invariant.from c.loop-number.invariant.made
      (c.in_ok-push.ensures.items ∙ ap (λ (x : Signal). c.loop-number.signals.items ++ x ∷ []) (c.signal.ensures ∙ ap (signal c.args.of.kind) c.in_ok-path.ensures));
  from = omega arith;
  few = omega arith;
}
