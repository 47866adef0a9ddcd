use Rattle.std.proofs.Common.{◌≡◌, ℕ, List, [], ap, ap₂, sym, ◌∙◌, subst}
use Rattle.std.specs.Prelude.{IfOk}
use Rattle.design_core.specs.declared.driver.Clocked.{Clocked}
use Rattle.design_core.specs.declared.design.Design.{Design}
use Rattle.word_net.specs.declared.node.Operation.TheVariants as operation
use Rattle.word_net.specs.declared.node.WordNode.{WordNode}
use Rattle.word_net.specs.Build.{Made, made, pushed}
use Rattle.v_synth.specs.declared.clocked.Turn.{Turn}
use Rattle.synth_parts.specs.Expression.{unsigned}
use Rattle.synth_parts.specs.Statement.{Maps, maps}
use Rattle.v_synth.specs.Clocked.{left_at, turned_made, own_made}
use Rattle.v_synth.proofs.OwnSteps.{own-here}
use Rattle.v_synth.proofs.block.Own.signal.Goals as goal

pub returns : goal.returns
returns c =
    let d : Design = c.args.self.now.design.now in
    let block : Clocked = c.args.self.now.block.now in
    let m : Maps = maps [] c.args.self.now.assigned.now.both.current.now c.args.self.now.assigned.now.both.later.now in
    let N : List WordNode = c.args.nodes.now in
    let s : ℕ = c.args.s in
    let so_far : ℕ = c.args.so_far in
    let turn : Turn = c.args.turn in
    let mask : ℕ = c.mask-mask.result in
    let w : ℕ = c.width-width.result in
    let left : ℕ = c.in_ok-left.left in
    let after : List WordNode = c.push.new.nodes in
    let b : made after left ≡ pushed N w (operation.Blend mask (unsigned (left_at block m s) w) (unsigned so_far w)) =
    c.in_ok-left.ensures ∙ ap₂ (λ x y. pushed N w (operation.Blend mask x y)) (c.unsigned.ensures ∙ ap (λ l. unsigned l w) c.left_for.ensures) c.unsigned-2.ensures in
    let same : turned_made turn after w left so_far ≡ own_made d block turn m N s so_far =
    ap (λ (k : Made). turned_made turn k.nodes w k.node so_far) b
    ∙ ap (λ v. let k = pushed N v (operation.Blend mask (unsigned (left_at block m s) v) (unsigned so_far v)) in turned_made turn k.nodes v k.node so_far) c.width-width.ensures
    ∙ sym (own-here d block turn m N s so_far mask c.if-mask-eq0.false c.mask-mask.ensures) in
    subst (λ k. IfOk c.turned.result (λ n. made c.turned.new.nodes n ≡ k)) same c.turned.ensures
