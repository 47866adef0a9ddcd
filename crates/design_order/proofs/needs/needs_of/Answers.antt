use Rattle.std.proofs.Common.{◌≡◌, ◌<◌, ◌+◌, ◌++◌, ◌∷◌, [], ◌∙◌, ap, sym, subst, arith, length, get_or}
use Rattle.design_order.proofs.NeedLaws.{needs-step}
use Rattle.design_order.specs.Sources.{AreNeeds, IsRow}
use Rattle.design_order.proofs.needs.needs_of.Goals as goal

pub loop-driver-preserved : goal.loop-driver-preserved
loop-driver-preserved c =
    let d = c.args.design.now in
    let i = c.loop-driver.driver-index in
    let x = c.driver-item.result in
    let value = c.deref-driver-items.ensures.value in
    let below = subst (λ xs. i < length xs) value c.loop-driver-test.true in
    let is = c.driver-item.is ∙ ap (λ xs. get_or xs i x) value in
    let long : length c.in_ok-reads-2.reads ≡ length d.signals.items = c.in_ok-reads-2.ensures.long ∙ c.loop-driver.invariant.0 in
    let row = c.in_ok-row.row.items in
    let own : IsRow c.in_ok-sources.sources.items c.in_ok-reads-2.reads row =
    subst (λ r. IsRow c.in_ok-sources.sources.items r row) c.bits.ensures (subst (λ s. IsRow s c.bits.result.now row) c.deref.ensures.value c.in_ok-row.ensures) in
    let pushed : c.push.new.self ≡ c.loop-driver.rows ++ row ∷ [] = c.in_ok-push.ensures.ok ∙ ap (λ r. c.loop-driver.rows ++ r ∷ []) c.deref-in-loop-driver.ensures.value in (
      long,
      subst (AreNeeds d (i + 1)) (sym pushed)
          (needs-step d i x c.in_ok-sources.sources.items c.in_ok-reads-2.reads row c.loop-driver.rows c.requires.fits below is c.in_ok-sources.ensures long
          (λ s b within inside. c.in_ok-reads-2.ensures.bits s b (subst (λ n. s < n) (sym c.loop-driver.invariant.0) within) inside) own c.loop-driver.invariant.1),
    )

pub returns : goal.returns
returns c =
    let same : c.loop-driver.driver-index ≡ length c.args.design.now.drivers.items =
    omega (arith, c.loop-driver-test.false, c.loop-driver.auto.driver-index-end, ap length c.deref-driver-items.ensures.value) in
    subst (λ n. AreNeeds c.args.design.now n c.loop-driver.rows) same c.loop-driver.invariant.1
