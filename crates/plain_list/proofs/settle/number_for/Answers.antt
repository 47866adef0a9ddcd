use Rattle.plain_list.proofs.Numbers.{found_at}
use Rattle.plain_list.proofs.settle.number_for.Goals as goal

pub returns-then-places-i-clause-some : goal.returns-then-places-i-clause-some
returns-then-places-i-clause-some c =
    found_at c.args.places.now c.args.numbers.now c.loop-i.i c.args.place c.loop-i-test.true c.requires c.loop-i.invariant c.if-places-i.true
