use Rattle.std.proofs.Common.{drop, subst}
use Rattle.debug_core.specs.Debugging.{IsDebugger}
use Rattle.debug_core.specs.Standing.{problem_in}
use Rattle.debug_core.proofs.Debuggers.{is-debugger}
use Rattle.debug_core.proofs.debugger.Debugger.log.Goals as goal

pub returns-clause-holds : goal.returns-clause-holds
returns-clause-holds c =
    let inside = c.self.inside in
    subst IsDebugger c.self.view_is
    (is-debugger (problem_in inside.encoding) inside.encoding.form inside.encoding.unrolled inside.search.enumerator
    (drop inside.search.appended inside.search.certificate) inside.search.finished inside.search.imported c.self.invariant)
