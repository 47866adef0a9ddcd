use Rattle.std.specs.Prelude.{All}
use Rattle.design_core.specs.TraceFits.{IsTraceOf}
use Rattle.small_networks.proofs.letters.traces.Given as goal

abbrev pub invariant-loop-cycles : goal.invariant-loop-cycles
invariant-loop-cycles l = All (IsTraceOf l.d) l.traces.items
