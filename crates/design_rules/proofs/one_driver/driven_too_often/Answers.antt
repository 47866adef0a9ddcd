use Rattle.std.proofs.Common.{◌≡◌, ◌<◌, ◌+◌, ◌∙◌, ap, subst, arith, length, get_or, take, count_by}
use Rattle.std.specs.Prelude.{nat_le, if◌then◌else◌}
use Rattle.std.proofs.lemmas.List.{take_all}
use Rattle.design_core.specs.Drives.{driver_drives, block_drives}
use Rattle.design_core.specs.WellFormed.{input_fits}
use Rattle.design_bits.specs.Masks.{Adds}
use Rattle.design_rules.proofs.TallyLaws.{entry-step, count_by-more}
use Rattle.design_rules.proofs.one_driver.driven_too_often.Goals as goal

pub loop-driver-preserved : goal.loop-driver-preserved
loop-driver-preserved c =
    let S = c.args.design.now.signals.items in
    let ds = c.args.design.now.drivers.items in
    let i = c.loop-driver.driver-index in
    let x = c.driver-item.result in
    let value = c.deref-driver-items.ensures.value in
    let below = subst (λ xs. i < length xs) value c.loop-driver-test.true in
    let is = c.driver-item.is ∙ ap (λ xs. get_or xs i x) value in
    let adds = subst (λ T. Adds c.clear.new.self c.add_driver.new.set (λ s b. driver_drives T s b x)) c.deref-in-loop-driver.ensures.value c.in_ok-add_driver.ensures in
    entry-step (input_fits S) (λ s b. count_by (driver_drives S s b) (take i ds)) _ (length S) c.loop-driver.once.items c.loop-driver.twice.items _ _
    c.clear.new.self c.add_driver.new.set (λ s b. driver_drives S s b x)
    c.loop-driver.invariant.1 (c.clear.ensures.long ∙ c.loop-driver.invariant.0) c.clear.ensures.none adds c.count.ensures.twice c.count.ensures.once
    (λ s b. count_by-more (driver_drives S s b) ds i x below is)

pub loop-block-preserved : goal.loop-block-preserved
loop-block-preserved c =
    let S = c.args.design.now.signals.items in
    let ds = c.args.design.now.drivers.items in
    let bs = c.args.design.now.clocked.items in
    let i = c.loop-block.block-index in
    let x = c.block-item.result in
    let value = c.deref-block-items.ensures.value in
    let below = subst (λ xs. i < length xs) value c.loop-block-test.true in
    let is = c.block-item.is ∙ ap (λ xs. get_or xs i x) value in
    let adds = subst (λ T. Adds c.clear-in-loop-block.new.self c.add_block.new.set (λ s b. block_drives T s b x)) c.deref-in-loop-block.ensures.value c.in_ok-add_block.ensures in
    entry-step (input_fits S) (λ s b. count_by (driver_drives S s b) ds + count_by (block_drives S s b) (take i bs)) _ (length S) c.loop-block.once.items c.loop-block.twice.items _ _
    c.clear-in-loop-block.new.self c.add_block.new.set (λ s b. block_drives S s b x)
    c.loop-block.invariant.1 (c.clear-in-loop-block.ensures.long ∙ c.loop-block.invariant.0) c.clear-in-loop-block.ensures.none adds c.count-in-loop-block.ensures.twice c.count-in-loop-block.ensures.once
    (λ s b. omega (arith, count_by-more (block_drives S s b) bs i x below is))

pub returns : goal.returns
returns c =
    let S = c.args.design.now.signals.items in
    let bs = c.args.design.now.clocked.items in
    let value = c.deref-block-items.ensures.value in
    let whole : take c.loop-block.block-index bs ≡ bs = take_all c.loop-block.block-index bs (omega (arith, c.loop-block-test.false, ap length value)) in
    record {
      long = c.loop-block.invariant.1.twice_long;
      bits = λ s b below inside.
          c.loop-block.invariant.1.twice_bits s b below inside
          ∙ ap (λ xs. nat_le (if input_fits S s then 1 else 2) (count_by (driver_drives S s b) c.args.design.now.drivers.items + count_by (block_drives S s b) xs)) whole;
    }
