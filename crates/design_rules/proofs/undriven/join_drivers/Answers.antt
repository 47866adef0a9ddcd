use Rattle.std.proofs.Common.{◌≡◌, ◌<◌, ◌∙◌, ap, sym, subst, arith, length, get_or, take}
use Rattle.std.specs.List.{list_any}
use Rattle.std.proofs.lemmas.List.{take_all}
use Rattle.design_core.specs.Drives.{driver_drives}
use Rattle.design_bits.specs.Masks.{Adds}
use Rattle.design_rules.proofs.UsedLaws.{join-entry}
use Rattle.design_rules.proofs.undriven.join_drivers.Goals as goal

pub loop-driver-preserved : goal.loop-driver-preserved
loop-driver-preserved c =
    let S = c.args.design.now.signals.items in
    let xs = c.args.design.now.drivers.items in
    let i = c.loop-driver.driver-index in
    let x = c.driver-item.result in
    let value = c.deref-driver-items.ensures.value in
    let below = subst (λ ys. i < length ys) value c.loop-driver-test.true in
    let is = c.driver-item.is ∙ ap (λ ys. get_or ys i x) value in
    let adds = subst (λ T. Adds c.clear.new.self c.add_driver.new.set (λ s b. driver_drives T s b x)) c.deref.ensures.value c.in_ok-add_driver.ensures in
    let own : length c.add_driver.new.set ≡ length c.loop-driver.own = adds.long ∙ c.clear.ensures.long in (
      own ∙ c.loop-driver.invariant.0,
      c.join_own.ensures.long ∙ c.loop-driver.invariant.1 ∙ sym own,
      join-entry (λ y s b. driver_drives S s b y) c.args.table.now.items c.loop-driver.table.items c.join_own.new.table.items c.clear.new.self c.add_driver.new.set xs i x below is
          c.loop-driver.invariant.2 (c.clear.ensures.long ∙ sym c.loop-driver.invariant.1) c.clear.ensures.none adds c.join_own.ensures,
    )

pub returns-clause-adds : goal.returns-clause-adds
returns-clause-adds c =
    let S = c.args.design.now.signals.items in
    let xs = c.args.design.now.drivers.items in
    let whole : take c.loop-driver.driver-index xs ≡ xs = take_all c.loop-driver.driver-index xs (omega (arith, c.loop-driver-test.false, ap length c.deref-driver-items.ensures.value)) in
    subst (λ ys. Adds c.args.table.now.items c.loop-driver.table.items (λ s b. list_any (λ y. driver_drives S s b y) ys)) whole c.loop-driver.invariant.2
