use Rattle.std.proofs.Common.{◌≡◌, ℕ, ◌<◌, List, length, get_or, ap, ap₂, ◌∙◌, arith}
use Rattle.design_core.specs.declared.design.Design.{Design}
use Rattle.design_core.specs.Valuation.{width_at}
use Rattle.word_net.specs.declared.node.Operation.TheVariants as operation
use Rattle.word_net.specs.declared.node.WordNode.{WordNode}
use Rattle.word_net.specs.Build.{made, pushed}
use Rattle.std.proofs.lemmas.Grind.{get_or_default_zero}
use Rattle.v_synth.proofs.BeginSteps.{inputs-next}
use Rattle.v_synth.proofs.begin.inputs.Goals as goal

pub loop-place-preserved : goal.loop-place-preserved
loop-place-preserved c =
    let d : Design = c.args.design.now in
    let I : List ℕ = d.inputs.items in
    let nodes : List WordNode = c.loop-place.nodes in
    let place : ℕ = c.loop-place.place in
    let n : ℕ = c.in_ok-push.field-0 in
    let after : List WordNode = c.push.new.nodes in
    let within : place < length I = omega (arith, c.loop-place-test.true, c.len-place-end.ensures) in
    let w : c.width-width.result ≡ width_at d.signals.items (get_or I place 0) = c.width-width.ensures ∙ ap₂ width_at c.deref.ensures.value c.index-input.ensures ∙ ap (width_at d.signals.items) (get_or_default_zero I place c.index-input.result.now within) in
    let is : made after n ≡ pushed nodes (width_at d.signals.items (get_or I place 0)) (operation.Input place) = c.in_ok-push.ensures ∙ ap (λ v. pushed nodes v (operation.Input place)) w in
    c.loop-place.invariant ∙ inputs-next d nodes after place n I within is
