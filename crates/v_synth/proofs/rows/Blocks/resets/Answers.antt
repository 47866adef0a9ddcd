use Rattle.std.proofs.Common.{◌≡◌, ℕ, ◌<◌, List, length, arith, ap, ◌∙◌}
use Rattle.design_core.specs.declared.driver.Clocked.{Clocked}
use Rattle.design_core.specs.declared.design.Design.{Design}
use Rattle.node_map.specs.declared.pair.Pair.{Pair}
use Rattle.synth_parts.specs.Store.{nodes_made}
use Rattle.v_synth.specs.Clocked.{reset_made}
use Rattle.v_synth.proofs.BlockSteps.{block-fits, resets-next}
use Rattle.v_synth.proofs.rows.Blocks.resets.Goals as goal

pub loop-i-preserved : goal.loop-i-preserved
loop-i-preserved c =
    let d : Design = c.args.self.now.design.now in
    let blocks : List Clocked = d.clocked.items in
    let i : ℕ = c.loop-i.i in
    let block : Clocked = c.index.result.now in
    let within : i < length blocks = omega (arith, c.loop-i-test.true, c.len-i-end.ensures) in
    let is : nodes_made c.reset.new.nodes c.reset.new.map ≡ reset_made d c.args.from.now block block.reset c.loop-i.nodes c.loop-i.map =
    c.in_ok-reset.ensures.ok ∙ ap (λ from. reset_made d from block block.reset c.loop-i.nodes c.loop-i.map) c.loop-i.invariant.from in
    record {
      blank = c.in_ok-reset.ensures.blank;
      from = ap (λ (both : Pair). both.current.now) c.in_ok-reset.ensures.both ∙ c.loop-i.invariant.from;
      each = c.in_ok-reset.ensures.each;
      fits = (block-fits d blocks i block within c.index.ensures c.loop-i.invariant.fits).1;
      rest = c.loop-i.invariant.rest
          ∙ resets-next d c.args.from.now c.loop-i.nodes c.reset.new.nodes c.loop-i.map c.reset.new.map i blocks block within c.index.ensures is;
    }
