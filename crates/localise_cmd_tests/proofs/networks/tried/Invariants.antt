use Rattle.plain_list.specs.Search.{IsSearch}
use Rattle.localise_cmd_tests.proofs.networks.tried.Given as goal

abbrev pub invariant-loop-step : goal.invariant-loop-step
invariant-loop-step l = IsSearch l.ordered.design l.traces l.search
