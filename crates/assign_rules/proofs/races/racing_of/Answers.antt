use Rattle.std.proofs.Common.{◌≡◌, ◌<◌, ◌∙◌, ap, subst, length, get_or, false}
use Rattle.design_bits.proofs.Touched.{owned}
use Rattle.design_rules.specs.Assignments.{clocked_sets}
use Rattle.assign_rules.specs.Ways.{by_way}
use Rattle.assign_rules.proofs.RaceLaws.{more-racing}
use Rattle.assign_rules.proofs.races.racing_of.Goals as goal

pub loop-number-preserved : goal.loop-number-preserved
loop-number-preserved c =
    let d = c.args.design.now in
    let homes = c.args.homes.list.now in
    let n = c.args.homes.count in
    let i = c.loop-number.number in
    let x = c.block-item.result in
    let value = c.deref-block-items.ensures.value in
    let below = subst (λ xs. i < length xs) value c.loop-number-test.true in
    let is = c.block-item.is ∙ ap (λ xs. get_or xs i x) value in
    let adds = c.in_ok-add_clocked.ensures in
    let long : length c.clear.new.self ≡ n = c.clear.ensures.long ∙ c.loop-number.invariant.1 in (
      c.in_ok-add_used.ensures.long ∙ c.loop-number.invariant.0,
      adds.long ∙ long,
      more-racing d homes c.args.table.now i x c.loop-number.racing c.add_clocked.new.set c.add_used.new.racing below is c.loop-number.invariant.2
          (λ h b within inside.
          owned c.clear.new.self c.add_clocked.new.set (λ s k. clocked_sets (by_way false homes s) x) n long c.clear.ensures.none adds h b
          (subst (λ m. h < m) c.loop-number.invariant.0 within) inside)
          c.in_ok-add_used.ensures,
    )
