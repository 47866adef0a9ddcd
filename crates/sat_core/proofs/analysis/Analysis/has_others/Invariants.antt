use Rattle.std.proofs.Common.{◌≡◌, ◌≢◌, true, take}
use Rattle.clause_base.specs.declared.literal.Lit.{Lit}
use Rattle.clause_base.specs.Literal.{has}
use Rattle.sat_core.specs.Derivation.{marked}
use Rattle.sat_core.proofs.analysis.Analysis.has_others.Given as goal

abbrev pub invariant-loop-other : goal.invariant-loop-other
invariant-loop-other l = (m : Lit) → has (take l.other-index l.literals) m ≡ true → m.var ≢ l.skip → marked l.self.marked.items m.var ≡ true
