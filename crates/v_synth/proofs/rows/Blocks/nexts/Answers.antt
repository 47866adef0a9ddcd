use Rattle.std.proofs.Common.{ℕ, ◌+◌, ◌<◌, List, length, get_or, drop, ap, sym, ◌∙◌}
use Rattle.std.proofs.lemmas.List.{get_or_default}
use Rattle.design_core.specs.declared.design.Design.{Design}
use Rattle.v_synth.specs.Net.{nexts_made}
use Rattle.v_synth.proofs.NetSteps.{nexts-next}
use Rattle.v_synth.proofs.rows.Blocks.nexts.Goals as goal

pub loop-k-preserved : goal.loop-k-preserved
loop-k-preserved c =
    let d : Design = c.args.self.now.design.now in
    let left : List ℕ = c.args.left.now in
    let states : List ℕ = c.args.states.now in
    let k : ℕ = c.loop-k.k in
    let s : ℕ = get_or states k 0 in
    let within : k < length states = c.loop-k-test.true in
    c.loop-k.invariant
    ∙ nexts-next d left c.loop-k.nodes c.masked.new.nodes c.loop-k.next k c.in_ok-node.node s states within (get_or_default states k 0 s within) c.in_ok-node.ensures
    ∙ ap (λ ns. nexts_made d left c.masked.new.nodes ns (drop (k + 1) states)) (sym c.in_ok-push.ensures.ok)
