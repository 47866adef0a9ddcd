use Rattle.std.proofs.Common.{ℕ, List, [], ◌∷◌, ◌++◌, ◌∙◌, ap, arith}
use Rattle.aiger_text.specs.Content.{content_of}
use Rattle.aiger_rules.specs.Names.{port_name}
use Rattle.aiger_rules.proofs.PortSteps.{push-range}
use Rattle.aiger_rules.proofs.names.Named.push_names.Goals as goal

pub loop-row-preserved : goal.loop-row-preserved
loop-row-preserved c = record {
  pushed = push-range (port_name (content_of c.args.self.now.content.now)) c.args.from c.loop-row.row c.args.names.now c.loop-row.names c.push.new.self c.loop-row.auto.row c.loop-row.invariant.pushed
      (c.in_ok-push.ensures.ok ∙ ap (λ (name : List ℕ). c.loop-row.names ++ name ∷ []) (c.as_slice.ensures ∙ c.in_ok-name.ensures));
  few = omega arith;
}
