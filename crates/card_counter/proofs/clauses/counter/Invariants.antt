use Rattle.std.proofs.Common.{◌≡◌, ◌+◌, ◌++◌, drop}
use Rattle.card_counter.specs.Places.{starts}
use Rattle.card_counter.specs.Counter.{counter_clauses, counter_from}
use Rattle.card_counter.proofs.clauses.counter.Given as goal

abbrev pub invariant-loop-counted : goal.invariant-loop-counted
invariant-loop-counted l = record {
  before_is : l.before ≡ l.first + starts l.k l.counted;
  here_is : l.here ≡ l.first + starts l.k (l.counted + 1);
  clauses_are : l.clauses ++ counter_from l.first l.k l.counted (drop l.counted l.selectors) ≡ counter_clauses l.selectors l.k l.first;
}
