use Rattle.std.proofs.Common.{arith}
use Rattle.sat_core.proofs.Unmarking.{clean_each}
use Rattle.sat_core.proofs.analysis.unmark_all.Goals as goal

pub returns-clause-clean : goal.returns-clause-clean
returns-clause-clean c = clean_each c.loop-place.marked.items (λ k l. c.loop-place.invariant.each k (omega (arith, l, c.loop-place.invariant.end, c.loop-place.invariant.size, c.loop-place-test.false)))
