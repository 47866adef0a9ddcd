use Rattle.std.proofs.Common.{◌≡◌, ◌<◌, ◌∙◌, ap, subst, length, get_or}
use Rattle.design_core.specs.Drives.{driver_drives}
use Rattle.design_bits.specs.Masks.{Adds}
use Rattle.design_bits.proofs.Touched.{owned}
use Rattle.design_order.proofs.SourceLaws.{sources-step}
use Rattle.design_order.proofs.sources.sources_of.Goals as goal

pub loop-number-preserved : goal.loop-number-preserved
loop-number-preserved c =
    let S = c.args.design.now.signals.items in
    let ds = c.args.design.now.drivers.items in
    let i = c.loop-number.number in
    let x = c.driver-item.result in
    let value = c.deref-driver-items.ensures.value in
    let below = subst (λ xs. i < length xs) value c.loop-number-test.true in
    let is = c.driver-item.is ∙ ap (λ xs. get_or xs i x) value in
    let adds = subst (λ T. Adds c.clear.new.self c.add_driver.new.set (λ s b. driver_drives T s b x)) c.deref.ensures.value c.in_ok-add_driver.ensures in
    let long : length c.clear.new.self ≡ length S = c.clear.ensures.long ∙ c.loop-number.invariant.0 in (
      adds.long ∙ long,
      sources-step S ds i x c.loop-number.sources.items c.add_source.new.sources.items c.add_driver.new.set below is c.loop-number.invariant.1 c.in_ok-add_source.ensures
          (owned c.clear.new.self c.add_driver.new.set (λ s b. driver_drives S s b x) (length S) long c.clear.ensures.none adds),
    )
