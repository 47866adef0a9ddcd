use Rattle.std.proofs.Common.{ℕ, [], ◌∷◌, ◌++◌, ◌∙◌, ap, arith}
use Rattle.aiger_text.specs.Content.{content_of}
use Rattle.aiger_rules.specs.Ports.{port_line}
use Rattle.aiger_rules.proofs.PortSteps.{push-range}
use Rattle.aiger_rules.proofs.names.Named.push_lines.Goals as goal

pub loop-row-preserved : goal.loop-row-preserved
loop-row-preserved c = record {
  pushed = push-range (port_line (content_of c.args.self.now.content.now)) c.args.from c.loop-row.row c.args.lines.now.items c.loop-row.lines.items c.push.new.self.items c.loop-row.auto.row c.loop-row.invariant.pushed
      (c.in_ok-push.ensures.items ∙ ap (λ (line : ℕ). c.loop-row.lines.items ++ line ∷ []) c.port_line.ensures);
  few = omega arith;
}
