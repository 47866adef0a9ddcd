use Rattle.std.proofs.Common.{◌≡◌, ◌++◌}
use Rattle.card_counter.specs.Counter.{pairs}
use Rattle.card_counter.proofs.step.Step.push_row.Given as goal

abbrev pub invariant-loop-done : goal.invariant-loop-done
invariant-loop-done l = l.clauses ≡ l.initial.clauses ++ pairs l.self.first l.self.k l.self.counted l.selector 1 l.done
