use Rattle.sat_core.proofs.SolverLemmas.{seen_untold, solver_of}
use Rattle.std.proofs.Common.{None}
use Rattle.sat_core.proofs.solver.Solver.settle.Goals as goal

pub returns-clause-same : goal.returns-clause-same
returns-clause-same c = seen_untold c.self.inside.engine c.settle.new.self c.self.inside.log c.self.inside.told c.args.self.now c.self.view_is c.settle.ensures.same

pub returns-clause-solver : goal.returns-clause-solver
returns-clause-solver c = solver_of c.settle.new.self c.self.inside.log None c.settle.ensures.ready
