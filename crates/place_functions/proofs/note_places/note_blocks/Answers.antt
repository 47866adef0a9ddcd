use Rattle.place_functions.specs.Operands.{block_uses}
use Rattle.place_functions.proofs.NoteSteps.{each-more}
use Rattle.place_functions.proofs.note_places.note_blocks.Goals as goal

pub loop-block-preserved : goal.loop-block-preserved
loop-block-preserved c =
    let S = c.args.signals.now in
    each-more _ _ _ (λ y p s k. block_uses S p s k y) c.args.blocks.now c.loop-block.block-index c.block-item.result c.loop-block-test.true c.block-item.is
    c.loop-block.invariant c.in_ok-note_block.ensures
