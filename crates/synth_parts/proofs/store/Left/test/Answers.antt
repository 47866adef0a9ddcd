use Rattle.std.proofs.Common.{◌≡◌, ℕ, ◌<◌, List, length, ap₂, ◌∙◌}
use Rattle.design_core.specs.declared.signal.Signal.{Signal}
use Rattle.design_core.specs.declared.expression.BinaryOp.TheVariants as binary_op
use Rattle.design_core.specs.declared.statement.Label.{Label}
use Rattle.word_net.specs.declared.node.Operand.{Operand}
use Rattle.word_net.specs.declared.node.Operation.TheVariants as operation
use Rattle.word_net.specs.declared.node.WordNode.{WordNode}
use Rattle.word_net.specs.Build.{made, pushed}
use Rattle.synth_parts.specs.Expression.{unsigned}
use Rattle.synth_parts.specs.Statement.{label_made}
use Rattle.synth_parts.proofs.StatementSteps.{labels-next, label_fits-next}
use Rattle.synth_parts.proofs.store.Left.test.Goals as goal

pub loop-i-preserved : goal.loop-i-preserved
loop-i-preserved c =
    let S : List Signal = c.args.self.now.signals.now in
    let M : List ℕ = c.args.map.now in
    let L : List Label = c.args.labels.now in
    let subject : Operand = c.args.subject in
    let i : ℕ = c.loop-i.i in
    let label : Label = c.index-labels-i.result in
    let within : i < length L = c.loop-i-test.true in
    let below : List WordNode = c.label.new.nodes in
    let is : ℕ = c.in_ok-is.is' in
    let l : made below is ≡ label_made S M c.loop-i.nodes subject label = c.in_ok-is.ensures in
    let m : made c.push-in-loop-i.new.nodes c.in_ok-so_far-2.so_far ≡ pushed below 1 (operation.Binary binary_op.Or (unsigned c.loop-i.so_far 1) (unsigned is 1)) =
    c.in_ok-so_far-2.ensures ∙ ap₂ (λ x y. pushed below 1 (operation.Binary binary_op.Or x y)) c.unsigned.ensures c.unsigned-in-loop-i.ensures in
    record {
      fits = (label_fits-next S subject.width L i label within c.index-labels-i.is c.loop-i.invariant.fits).1;
      rest = c.loop-i.invariant.rest
          ∙ labels-next S M c.loop-i.nodes below c.push-in-loop-i.new.nodes c.loop-i.so_far is c.in_ok-so_far-2.so_far subject i L label within c.index-labels-i.is l m;
    }
