use Rattle.std.proofs.Common.{◌<◌, ◌∙◌, ap, ap₂, sym, arith, length, get_or}
use Rattle.std.specs.Prelude.{◌&&◌}
use Rattle.std.proofs.lemmas.Bool.{and_parts}
use Rattle.design_core.specs.Valuation.{bit}
use Rattle.design_bits.specs.Masks.{has}
use Rattle.design_bits.proofs.Added.{adds-step}
use Rattle.design_bits.proofs.Touched.{join-more, join-all, get_or-same}
use Rattle.assign_rules.specs.UsedBy.{is_used_at}
use Rattle.assign_rules.proofs.races.add_used.Goals as goal

pub loop-home-preserved : goal.loop-home-preserved
loop-home-preserved c =
    let ys = c.signals-home-items.result.now in
    let i = c.loop-home.home-index in
    let home = get_or ys i 0 in
    let own = c.args.own.now in
    let table = c.args.table.now in
    let number = c.args.number in
    let below : home < length c.loop-home.racing = omega (arith, c.signals-home-items.ensures.within i 0 c.loop-home-test.true, c.loop-home.invariant.long, c.requires.own) in
    adds-step c.args.racing.now c.loop-home.racing _ _ _ home c.mask_if.result c.loop-home.invariant below c.in_ok-add.ensures.ok
    (λ h b inside.
    join-more ys i home h (λ q. has own q b && is_used_at table q number) (bit c.mask_if.result b) c.loop-home-test.true (sym (get_or-same ys i 0 c.loop-home-test.true))
    (c.mask_if.ensures b ∙ ap₂ (λ x y. x && y) (ap (λ n. bit n b) c.mask.ensures) c.is_used_at-is_used.ensures))
