use Rattle.bind_clocks.proofs.ReadLaws.{read-without}
use Rattle.bind_clocks.proofs.driven.carries_clock.Goals as goal

pub returns-in-None : goal.returns-in-None
returns-in-None c = rw c.in-None.is (read-without c.args.set.now c.args.roots.now)
