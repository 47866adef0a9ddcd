use Rattle.aiger_rules.specs.Doubles.{AreShared}
use Rattle.aiger_rules.proofs.naming.shared_names.Given as goal

abbrev pub invariant-loop-place : goal.invariant-loop-place
invariant-loop-place l = AreShared l.rows l.names l.lines l.place l.table
