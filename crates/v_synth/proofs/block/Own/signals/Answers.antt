use Rattle.std.proofs.Common.{◌≡◌, ℕ, ◌+◌, ◌-◌, ◌<◌, List, [], length, get_or, ap, sym, ◌∙◌, refl}
use Rattle.std.proofs.lemmas.List.{length-set}
use Rattle.design_core.specs.declared.driver.Clocked.{Clocked}
use Rattle.design_core.specs.declared.design.Design.{Design}
use Rattle.word_net.specs.declared.node.WordNode.{WordNode}
use Rattle.word_net.specs.Build.{made}
use Rattle.v_synth.specs.declared.clocked.Turn.{Turn}
use Rattle.synth_parts.specs.Statement.{maps}
use Rattle.v_synth.specs.Clocked.{own_made, owns_made}
use Rattle.v_synth.proofs.OwnSteps.{gone, owns-driven}
use Rattle.v_synth.proofs.block.Own.signals.Goals as goal

pub loop-i-preserved : goal.loop-i-preserved
loop-i-preserved c =
    let d : Design = c.args.self.now.design.now in
    let block : Clocked = c.args.self.now.block.now in
    let C : List ℕ = c.args.self.now.assigned.now.both.current.now in
    let L : List ℕ = c.args.self.now.assigned.now.both.later.now in
    let start : List WordNode = c.args.nodes.now in
    let turn : Turn = c.args.turn in
    let nodes : List WordNode = c.loop-i.nodes in
    let map : List ℕ = c.loop-i.map in
    let driven : List ℕ = c.args.driven.now in
    let i : ℕ = c.loop-i.i in
    let s : ℕ = get_or driven i 0 in
    let node : ℕ = c.in_ok-node.node in
    let after : List WordNode = c.signal.new.nodes in
    let within : i < length driven = c.loop-i-test.true in
    let is : made after node ≡ own_made d block turn (maps [] C L) nodes s (get_or map s 0) =
    c.in_ok-node.ensures ∙ ap (λ (ns : List ℕ). own_made d block turn (maps [] C L) nodes s (get_or ns s 0)) c.as_slice.ensures in
    record {
      each = ap length c.set.ensures ∙ length-set map s node ∙ c.loop-i.invariant.each;
      rest = c.loop-i.invariant.rest ∙ owns-driven d block turn start nodes after C L map driven i s node c.requires.driven within refl is
          ∙ ap (λ (ns : List ℕ). owns_made d block turn (maps start C L) after ns (gone driven (i + 1)) (length d.signals.items - gone driven (i + 1))) (sym c.set.ensures);
    }
