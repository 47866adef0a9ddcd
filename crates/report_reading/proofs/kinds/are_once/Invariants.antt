use Rattle.report_reading.proofs.Once.{AreSeen}
use Rattle.report_reading.proofs.kinds.are_once.Given as goal

abbrev pub invariant-loop-name : goal.invariant-loop-name
invariant-loop-name l = AreSeen l.names l.seen l.name-index
