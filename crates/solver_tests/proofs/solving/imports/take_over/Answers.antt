use Rattle.std.proofs.Common.{sym, subst}
use Rattle.sat_core.specs.Calls.{MayFollow}
use Rattle.sat_core.proofs.Importing.{MayFollow-copy}
use Rattle.solver_tests.proofs.solving.imports.take_over.Goals as goal

pub import-requires : goal.import-requires
import-requires c = record {
  may = subst (MayFollow c.args.solver.now) (sym c.log.ensures.value)
      (MayFollow-copy c.args.other.now c.args.solver.now c.log.ensures.solver c.requires.vars c.requires.form c.requires.no_step);
}
