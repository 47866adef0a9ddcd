use Rattle.std.proofs.Common.{◌≡◌, ℕ, ◌<◌, length, get_or, arith, ap, ◌∙◌}
use Rattle.design_core.specs.declared.design.Design.{Design}
use Rattle.word_net.specs.Build.{made}
use Rattle.v_synth.specs.Clocked.{first_made}
use Rattle.v_synth.proofs.FirstSteps.{begun-next}
use Rattle.v_synth.proofs.rows.Blocks.begin.Goals as goal

pub loop-s-preserved : goal.loop-s-preserved
loop-s-preserved c =
    let d : Design = c.args.self.now.design.now in
    let s : ℕ = c.loop-s.s in
    let mask : ℕ = get_or c.args.self.now.registers.now s 0 in
    let within : s < length d.signals.items = omega (arith, c.loop-s-test.true, c.len-count.ensures) in
    let is : made c.signal.new.nodes c.in_ok-node.node ≡ first_made d c.loop-s.nodes s (length c.loop-s.first.states) =
    c.in_ok-node.ensures ∙ ap (first_made d c.loop-s.nodes s) c.len-state.ensures in
    begun-next d c.loop-s.nodes c.signal.new.nodes c.loop-s.first.map c.loop-s.first.states c.add.new.self.map c.add.new.self.states s c.in_ok-node.node mask c.loop-s.invariant within is
    (c.requires.registers.each s within) c.in_ok-add.ensures.map c.in_ok-add.ensures.states
