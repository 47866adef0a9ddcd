use Rattle.std.proofs.Common.{◌+◌, ◌-◌}
use Rattle.set_enum.specs.Outcome.{Adds}
use Rattle.set_enum.proofs.Adding.{HasMoved}
use Rattle.set_enum.proofs.enumerator.Enumerator.next.Given as goal

abbrev pub invariant-loop-self : goal.invariant-loop-self
invariant-loop-self l = record {
  adds : Adds l.fn.self l.self l.fn.budget l.budget;
  moved : HasMoved l.fn.self l.self l.budget;
}

abbrev pub decreases-loop-self : goal.decreases-loop-self
decreases-loop-self l = l.self.k + 1 - l.self.size
