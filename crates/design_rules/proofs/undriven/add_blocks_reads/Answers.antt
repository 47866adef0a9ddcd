use Rattle.std.proofs.Common.{◌≡◌, ◌<◌, ◌∙◌, ap, subst, arith, length, get_or, take}
use Rattle.std.specs.Prelude.{◌&&◌, not}
use Rattle.std.specs.List.{list_any}
use Rattle.std.proofs.lemmas.List.{take_all}
use Rattle.design_core.specs.Mentions.{block_mentions}
use Rattle.design_bits.specs.Masks.{Adds, has}
use Rattle.design_bits.proofs.ReadsAdded.{each-more}
use Rattle.design_rules.proofs.undriven.add_blocks_reads.Goals as goal

pub loop-block-preserved : goal.loop-block-preserved
loop-block-preserved c =
    let S = c.args.design.now.signals.items in
    let xs = c.args.design.now.clocked.items in
    let i = c.loop-block.block-index in
    let x = c.block-item.result in
    let value = c.deref-block-items.ensures.value in
    let below = subst (λ ys. i < length ys) value c.loop-block-test.true in
    let is = c.block-item.is ∙ ap (λ ys. get_or ys i x) value in
    let adds = subst (λ T. Adds c.loop-block.used c.add_block_mentions.new.set (λ s b. block_mentions T s b x && not (has c.args.driven.now s b))) c.deref.ensures.value c.in_ok-add_block_mentions.ensures in
    each-more c.args.used.now c.loop-block.used c.add_block_mentions.new.set c.args.driven.now (λ y s b. block_mentions S s b y) xs i x below is c.loop-block.invariant adds

pub returns : goal.returns
returns c =
    let S = c.args.design.now.signals.items in
    let xs = c.args.design.now.clocked.items in
    let whole : take c.loop-block.block-index xs ≡ xs = take_all c.loop-block.block-index xs (omega (arith, c.loop-block-test.false, ap length c.deref-block-items.ensures.value)) in
    subst (λ ys. Adds c.args.used.now c.loop-block.used (λ s b. list_any (λ y. block_mentions S s b y) ys && not (has c.args.driven.now s b))) whole c.loop-block.invariant
