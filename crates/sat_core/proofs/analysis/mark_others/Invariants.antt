use Rattle.std.proofs.Common.{take}
use Rattle.sat_core.specs.Derivation.{MarksOthers}
use Rattle.sat_core.proofs.analysis.mark_others.Given as goal

abbrev pub invariant-loop-l : goal.invariant-loop-l
invariant-loop-l l = MarksOthers l.fn.marked.items l.marked.items (take l.l-index l.literals) l.skip
