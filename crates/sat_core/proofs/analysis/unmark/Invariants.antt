use Rattle.std.proofs.Common.{take}
use Rattle.sat_core.specs.Derivation.{Unmarks}
use Rattle.sat_core.proofs.analysis.unmark.Given as goal

abbrev pub invariant-loop-l : goal.invariant-loop-l
invariant-loop-l l = Unmarks l.fn.marked.items l.marked.items (take l.l-index l.literals)
