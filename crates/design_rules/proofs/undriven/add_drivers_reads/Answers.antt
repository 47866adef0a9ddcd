use Rattle.std.proofs.Common.{◌≡◌, ◌<◌, ◌∙◌, ap, subst, arith, length, get_or, take}
use Rattle.std.specs.Prelude.{◌&&◌, not}
use Rattle.std.specs.List.{list_any}
use Rattle.std.proofs.lemmas.List.{take_all}
use Rattle.design_core.specs.Mentions.{driver_mentions}
use Rattle.design_bits.specs.Masks.{Adds, has}
use Rattle.design_bits.proofs.ReadsAdded.{each-more}
use Rattle.design_rules.proofs.undriven.add_drivers_reads.Goals as goal

pub loop-driver-preserved : goal.loop-driver-preserved
loop-driver-preserved c =
    let S = c.args.design.now.signals.items in
    let xs = c.args.design.now.drivers.items in
    let i = c.loop-driver.driver-index in
    let x = c.driver-item.result in
    let value = c.deref-driver-items.ensures.value in
    let below = subst (λ ys. i < length ys) value c.loop-driver-test.true in
    let is = c.driver-item.is ∙ ap (λ ys. get_or ys i x) value in
    let adds = subst (λ T. Adds c.loop-driver.used c.add_driver_mentions.new.set (λ s b. driver_mentions T s b x && not (has c.args.driven.now s b))) c.deref.ensures.value c.in_ok-add_driver_mentions.ensures in
    each-more c.args.used.now c.loop-driver.used c.add_driver_mentions.new.set c.args.driven.now (λ y s b. driver_mentions S s b y) xs i x below is c.loop-driver.invariant adds

pub returns : goal.returns
returns c =
    let S = c.args.design.now.signals.items in
    let xs = c.args.design.now.drivers.items in
    let whole : take c.loop-driver.driver-index xs ≡ xs = take_all c.loop-driver.driver-index xs (omega (arith, c.loop-driver-test.false, ap length c.deref-driver-items.ensures.value)) in
    subst (λ ys. Adds c.args.used.now c.loop-driver.used (λ s b. list_any (λ y. driver_mentions S s b y) ys && not (has c.args.driven.now s b))) whole c.loop-driver.invariant
