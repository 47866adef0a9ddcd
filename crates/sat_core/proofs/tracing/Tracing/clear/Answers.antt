use Rattle.std.proofs.Common.{subst}
use Rattle.sat_core.specs.Derivation.{Unmarks}
use Rattle.sat_core.proofs.Unmarking.{unmarked_all}
use Rattle.sat_core.proofs.tracing.Tracing.clear.Goals as goal

pub returns-clause-clean : goal.returns-clause-clean
returns-clause-clean c =
    unmarked_all c.args.self.now.marked.items c.unmark.new.marked.items c.args.self.now.met.items c.requires.cover
    (subst (λ ls. Unmarks c.args.self.now.marked.items c.unmark.new.marked.items ls) c.deref.ensures.value c.unmark.ensures)
