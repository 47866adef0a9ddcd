use Rattle.std.proofs.Common.{◌≡◌, ◌<◌, ◌∙◌, ap, sym, subst, length, get_or}
use Rattle.design_core.specs.Mentions.{block_mentions}
use Rattle.assign_rules.specs.UsedBy.{Reads}
use Rattle.assign_rules.proofs.UserLaws.{nobody-long, first-users, more-blocks}
use Rattle.assign_rules.proofs.users.users_of.Goals as goal

pub loop-number-init : goal.loop-number-init
loop-number-init c =
    let start = c.in_ok-table.ensures.items_if_clones_equal (λ _ same. same) in (
      c.in_ok-own.ensures.long,
      c.note.ensures.long ∙ ap length start ∙ nobody-long c.args.homes.count,
      first-users c.args.design.now c.args.homes.list.now c.in_ok-own.own c.args.homes.count c.in_ok-table.table.items c.note.new.table.items start c.in_ok-own.ensures c.note.ensures,
    )

pub loop-number-preserved : goal.loop-number-preserved
loop-number-preserved c =
    let d = c.args.design.now in
    let homes = c.args.homes.list.now in
    let i = c.loop-number.number in
    let x = c.block-item.result in
    let own = c.look_in.new.own in
    let value = c.deref-block-items.ensures.value in
    let below = subst (λ xs. i < length xs) value c.loop-number-test.true in
    let is = c.block-item.is ∙ ap (λ xs. get_or xs i x) value in
    let reads = subst (λ signals. Reads own (λ s b. block_mentions signals s b x)) c.deref-in-loop-number-2.ensures.value c.in_ok-look_in.ensures.bits in
    let long : length own ≡ length d.signals.items = c.in_ok-look_in.ensures.long ∙ c.loop-number.invariant.0 in (
      long,
      c.note-in-loop-number.ensures.long ∙ c.loop-number.invariant.1,
      more-blocks d homes own i x c.loop-number.table.items c.note-in-loop-number.new.table.items below is c.loop-number.invariant.2 long
          (λ s b within inside. reads.bits s b (subst (λ n. s < n) (sym long) within) inside) c.note-in-loop-number.ensures,
    )
