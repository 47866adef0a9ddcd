use Rattle.std.proofs.Common.{[], ◌∷◌, ◌++◌, ◌∙◌, ap, arith}
use Rattle.design_core.specs.declared.signal.Signal.{Signal}
use Rattle.aiger_design.specs.Signals.{port_signal, signal}
use Rattle.aiger_rules.proofs.PortSteps.{push-range}
use Rattle.aiger_design.proofs.file.File.push_ports.Goals as goal

pub loop-place-preserved : goal.loop-place-preserved
loop-place-preserved c = record {
  made = push-range (port_signal c.args.names.now c.args.of.kind) (c.args.of.from) c.loop-place.place c.args.signals.now.items c.loop-place.signals.items c.push.new.self.items c.loop-place.invariant.from c.loop-place.invariant.made
      (c.in_ok-push.ensures.items ∙ ap (λ (x : Signal). c.loop-place.signals.items ++ x ∷ []) (c.signal.ensures ∙ ap (signal c.args.of.kind) (c.in_ok-path.ensures ∙ c.row.ensures)));
  from = omega arith;
  few = omega arith;
}
