use Rattle.assign_rules.proofs.UserLaws.{noted-all}
use Rattle.assign_rules.proofs.users.note.Goals as goal

pub returns : goal.returns
returns c =
    noted-all c.args.table.now.items c.loop-signal.table.items c.args.more c.args.homes.now c.args.own.now c.signals-signal-items.result.now c.loop-signal.signal-index
    c.loop-signal-test.false c.loop-signal.invariant.0 c.signals-signal-items.ensures.within c.signals-signal-items.ensures.all c.loop-signal.invariant.1
