use Rattle.std.proofs.Common.{◌≡◌, ◌<◌, ◌∙◌, ap, sym, subst, arith, length, get_or}
use Rattle.design_bits.specs.Masks.{Adds}
use Rattle.design_bits.proofs.Touched.{owned}
use Rattle.design_rules.specs.Held.{HasMore, comb_drives}
use Rattle.design_rules.proofs.FirstLatch.{is-latch, not-latch, latch-more, no-latches}
use Rattle.design_rules.proofs.latch.first_latch.Goals as goal

pub returns-then-has_more : goal.returns-then-has_more
returns-then-has_more c =
    let d = c.args.design.now in
    let S = d.signals.items in
    let i = c.loop-number.number in
    let x = c.driver-item.result in
    let value = c.deref-driver-items.ensures.value in
    let below = subst (λ xs. i < length xs) value c.loop-number-test.true in
    let is = c.driver-item.is ∙ ap (λ xs. get_or xs i x) value in
    let adds = subst (λ T. Adds c.clear.new.self c.add_comb.new.set (λ s b. comb_drives T s b x)) c.deref.ensures.value c.in_ok-add_comb.ensures in
    let long : length c.clear.new.self ≡ length S = c.clear.ensures.long ∙ c.loop-number.invariant.0 in
    let more = subst (HasMore c.add_comb.new.set) c.bits.ensures (c.has_more.ensures.yes c.if-has_more.true) in (
      is-latch d i x c.add_comb.new.set c.in_ok-sure-2.sure below is (adds.long ∙ long)
          (owned c.clear.new.self c.add_comb.new.set (λ s b. comb_drives S s b x) (length S) long c.clear.ensures.none adds)
          (λ s b within inside. c.in_ok-sure-2.ensures.bits s b (subst (λ n. s < n) (sym c.loop-number.invariant.1) within) inside) more,
      c.loop-number.invariant.2,
    )

pub loop-number-preserved : goal.loop-number-preserved
loop-number-preserved c =
    let d = c.args.design.now in
    let S = d.signals.items in
    let i = c.loop-number.number in
    let x = c.driver-item.result in
    let value = c.deref-driver-items.ensures.value in
    let below = subst (λ xs. i < length xs) value c.loop-number-test.true in
    let is = c.driver-item.is ∙ ap (λ xs. get_or xs i x) value in
    let adds = subst (λ T. Adds c.clear.new.self c.add_comb.new.set (λ s b. comb_drives T s b x)) c.deref.ensures.value c.in_ok-add_comb.ensures in
    let long : length c.clear.new.self ≡ length S = c.clear.ensures.long ∙ c.loop-number.invariant.0 in (
      adds.long ∙ long,
      c.in_ok-sure-2.ensures.long ∙ c.loop-number.invariant.1,
      latch-more d i c.loop-number.invariant.2
          (not-latch d i x c.add_comb.new.set c.in_ok-sure-2.sure c.requires below is (adds.long ∙ long)
          (owned c.clear.new.self c.add_comb.new.set (λ s b. comb_drives S s b x) (length S) long c.clear.ensures.none adds)
          (λ s b within inside. c.in_ok-sure-2.ensures.bits s b (subst (λ n. s < n) (sym c.loop-number.invariant.1) within) inside)
          (subst (λ m. HasMore c.add_comb.new.set m → ⊥) c.bits.ensures (c.has_more.ensures.no c.if-has_more.false))),
    )

pub returns : goal.returns
returns c =
    no-latches c.args.design.now c.loop-number.number (omega (arith, c.loop-number-test.false, ap length c.deref-driver-items.ensures.value)) c.loop-number.invariant.2
