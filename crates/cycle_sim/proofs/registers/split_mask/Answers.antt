use Rattle.std.proofs.Common.{refl}
use Rattle.cycle_sim.proofs.WholeRegisters.{split-part, split-whole}
use Rattle.cycle_sim.proofs.registers.split_mask.Goals as goal

pub returns-in_ok-push-in-Some : goal.returns-in_ok-push-in-Some
returns-in_ok-push-in-Some c =
    rw c.in_ok-push-in-Some.ensures.items
    (split-whole c.args.mask c.in-Some.signal c.args.whole.now.items c.args.parts.now.items c.in-Some.ensures.signal
    (c.in-Some.ensures.some.0 refl).0)

pub returns-in_ok-push-in-None : goal.returns-in_ok-push-in-None
returns-in_ok-push-in-None c = rw c.in_ok-push-in-None.ensures.items (split-part c.args.mask c.args.whole.now.items c.args.parts.now.items)
