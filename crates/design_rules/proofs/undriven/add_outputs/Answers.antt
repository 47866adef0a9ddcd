use Rattle.std.proofs.Common.{◌≡◌, ◌<◌, ◌∙◌, ap, sym, subst, arith, length, get_or, take}
use Rattle.std.specs.Prelude.{◌&&◌, nat_lt}
use Rattle.std.specs.List.{list_any}
use Rattle.std.proofs.lemmas.List.{take_all}
use Rattle.design_core.specs.Drives.{is_among}
use Rattle.design_core.specs.Valuation.{width_at}
use Rattle.design_bits.specs.Masks.{Adds}
use Rattle.design_bits.proofs.Added.{adds-more}
use Rattle.design_bits.proofs.Touched.{get_or-same}
use Rattle.design_rules.specs.Used.{output_has}
use Rattle.design_rules.proofs.undriven.add_outputs.Goals as goal

pub loop-output-preserved : goal.loop-output-preserved
loop-output-preserved c =
    let d = c.args.design.now in
    let xs = d.outputs.items in
    let i = c.loop-output.output-index in
    let ys = c.deref-output-items.result.now in
    let x = get_or ys i 0 in
    let value = c.deref-output-items.ensures.value in
    let below = subst (λ zs. i < length zs) value c.loop-output-test.true in
    let is = sym (get_or-same ys i 0 c.loop-output-test.true) ∙ ap (λ zs. get_or zs i x) value in
    let adds = subst (λ T. Adds c.loop-output.used c.add_whole.new.set (λ s b. is_among x 1 s && nat_lt b (width_at T s))) c.deref.ensures.value c.in_ok-add_whole.ensures in
    adds-more c.args.used.now c.loop-output.used c.add_whole.new.set (λ y s b. output_has d s b y) xs i x below is c.loop-output.invariant adds

pub returns : goal.returns
returns c =
    let d = c.args.design.now in
    let whole : take c.loop-output.output-index d.outputs.items ≡ d.outputs.items =
    take_all c.loop-output.output-index d.outputs.items (omega (arith, c.loop-output-test.false, ap length c.deref-output-items.ensures.value)) in
    subst (λ ys. Adds c.args.used.now c.loop-output.used (λ s b. list_any (λ y. output_has d s b y) ys)) whole c.loop-output.invariant
