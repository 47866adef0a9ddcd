use Rattle.std.proofs.Common.{◌≡◌, drop}
use Rattle.bind_rules.specs.Rules.{initial_span}
use Rattle.bind_rules.proofs.initial.initial_span.Given as goal

abbrev pub invariant-loop-start : goal.invariant-loop-start
invariant-loop-start l = initial_span l.signal (drop l.start-index l.starts) ≡ initial_span l.signal l.starts
