use Rattle.std.proofs.Common.{◌≡◌, ℕ, ◌<◌, List, length, arith, ap, ◌∙◌}
use Rattle.design_core.specs.declared.driver.Clocked.{Clocked}
use Rattle.design_core.specs.declared.design.Design.{Design}
use Rattle.node_map.specs.declared.pair.Pair.{Pair}
use Rattle.synth_parts.specs.Store.{nodes_made}
use Rattle.v_synth.specs.Clocked.{body_made}
use Rattle.v_synth.proofs.BlockSteps.{block-fits, bodies-next}
use Rattle.v_synth.proofs.rows.Blocks.bodies.Goals as goal

pub loop-i-preserved : goal.loop-i-preserved
loop-i-preserved c =
    let d : Design = c.args.self.now.design.now in
    let blocks : List Clocked = d.clocked.items in
    let i : ℕ = c.loop-i.i in
    let block : Clocked = c.index.result.now in
    let within : i < length blocks = omega (arith, c.loop-i-test.true, c.len-i-end.ensures) in
    let is : nodes_made c.body.new.nodes c.body.new.map ≡ body_made d c.args.from.now block block.reset c.loop-i.nodes c.loop-i.map =
    c.in_ok-body.ensures.ok ∙ ap (λ from. body_made d from block block.reset c.loop-i.nodes c.loop-i.map) c.loop-i.invariant.from in
    record {
      blank = c.in_ok-body.ensures.blank;
      from = ap (λ (both : Pair). both.current.now) c.in_ok-body.ensures.both ∙ c.loop-i.invariant.from;
      each = c.in_ok-body.ensures.each;
      fits = (block-fits d blocks i block within c.index.ensures c.loop-i.invariant.fits).1;
      rest = c.loop-i.invariant.rest
          ∙ bodies-next d c.args.from.now c.loop-i.nodes c.body.new.nodes c.loop-i.map c.body.new.map i blocks block within c.index.ensures is;
    }
