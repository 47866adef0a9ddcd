use Rattle.std.proofs.Common.{ℕ, ◌+◌, List, drop, ap, sym, ◌∙◌}
use Rattle.design_core.specs.declared.signal.Signal.{Signal}
use Rattle.design_core.specs.declared.statement.Part.{Part}
use Rattle.word_net.specs.declared.node.WordNode.{WordNode}
use Rattle.synth_parts.specs.Store.{indexes_made}
use Rattle.synth_parts.proofs.StoreSteps.{indexes-next, fits-next}
use Rattle.synth_parts.proofs.store.indexes.Goals as goal

pub loop-i-preserved : goal.loop-i-preserved
loop-i-preserved c =
    let S : List Signal = c.args.at.now.signals.now in
    let M : List ℕ = c.args.at.now.nodes_of.now in
    let P : List Part = c.args.parts.now in
    let part : Part = c.index-parts-i.result in
    let after : List WordNode = c.index.new.nodes in
    record {
      made = c.loop-i.invariant.made
          ∙ indexes-next S M c.loop-i.nodes after c.loop-i.all c.in_ok-node.node c.loop-i.i P part c.loop-i-test.true c.index-parts-i.is c.in_ok-node.ensures
          ∙ ap (λ (xs : List ℕ). indexes_made S M after xs (drop (c.loop-i.i + 1) P)) (sym c.in_ok-push.ensures.ok);
      fits = (fits-next S P c.loop-i.i part c.loop-i-test.true c.index-parts-i.is c.loop-i.invariant.fits).1;
    }
