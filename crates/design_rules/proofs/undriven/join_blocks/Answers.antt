use Rattle.std.proofs.Common.{◌≡◌, ◌<◌, ◌∙◌, ap, sym, subst, arith, length, get_or, take}
use Rattle.std.specs.List.{list_any}
use Rattle.std.proofs.lemmas.List.{take_all}
use Rattle.design_core.specs.Drives.{block_drives}
use Rattle.design_bits.specs.Masks.{Adds}
use Rattle.design_rules.proofs.UsedLaws.{join-entry}
use Rattle.design_rules.proofs.undriven.join_blocks.Goals as goal

pub loop-block-preserved : goal.loop-block-preserved
loop-block-preserved c =
    let S = c.args.design.now.signals.items in
    let xs = c.args.design.now.clocked.items in
    let i = c.loop-block.block-index in
    let x = c.block-item.result in
    let value = c.deref-block-items.ensures.value in
    let below = subst (λ ys. i < length ys) value c.loop-block-test.true in
    let is = c.block-item.is ∙ ap (λ ys. get_or ys i x) value in
    let adds = subst (λ T. Adds c.clear.new.self c.add_block.new.set (λ s b. block_drives T s b x)) c.deref.ensures.value c.in_ok-add_block.ensures in
    let own : length c.add_block.new.set ≡ length c.loop-block.own = adds.long ∙ c.clear.ensures.long in (
      own ∙ c.loop-block.invariant.0,
      c.join_own.ensures.long ∙ c.loop-block.invariant.1 ∙ sym own,
      join-entry (λ y s b. block_drives S s b y) c.args.table.now.items c.loop-block.table.items c.join_own.new.table.items c.clear.new.self c.add_block.new.set xs i x below is
          c.loop-block.invariant.2 (c.clear.ensures.long ∙ sym c.loop-block.invariant.1) c.clear.ensures.none adds c.join_own.ensures,
    )

pub returns : goal.returns
returns c =
    let S = c.args.design.now.signals.items in
    let xs = c.args.design.now.clocked.items in
    let whole : take c.loop-block.block-index xs ≡ xs = take_all c.loop-block.block-index xs (omega (arith, c.loop-block-test.false, ap length c.deref-block-items.ensures.value)) in
    subst (λ ys. Adds c.args.table.now.items c.loop-block.table.items (λ s b. list_any (λ y. block_drives S s b y) ys)) whole c.loop-block.invariant.2
