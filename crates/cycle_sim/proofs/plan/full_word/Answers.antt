use Rattle.cycle_sim.proofs.Planning.{ones-bit}
use Rattle.cycle_sim.proofs.plan.full_word.Goals as goal

pub returns-in-Reg-clause-bits : goal.returns-in-Reg-clause-bits
returns-in-Reg-clause-bits c b =
    rw (c.not.ensures.value, c.zero-none.ensures.value, c.zero-none.ensures.width, c.in-Reg.is) (ones-bit c.args.signal.now.width b)
