use Rattle.plain_list.specs.Search.{IsSearch}
use Rattle.list_tests.proofs.searches.searched.Given as goal

abbrev pub invariant-loop-step : goal.invariant-loop-step
invariant-loop-step l = IsSearch l.ordered.design l.traces l.search
