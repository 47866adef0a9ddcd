use Rattle.cycle_sim.specs.Planned.{is_full_bit}
use Rattle.cycle_sim.proofs.Filling.{Filled}
use Rattle.cycle_sim.proofs.plan.full_words.Given as goal

abbrev pub invariant-loop-k : goal.invariant-loop-k
invariant-loop-k l = Filled (is_full_bit l.signals) l.signals l.words.items l.k
