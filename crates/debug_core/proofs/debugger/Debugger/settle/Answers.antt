use Rattle.std.proofs.Common.{drop, subst, sym}
use Rattle.debug_core.specs.Debugging.{IsDebugger}
use Rattle.debug_core.specs.Standing.{IsStanding, problem_in}
use Rattle.debug_core.proofs.Debuggers.{is-debugger, stands-untold}
use Rattle.debug_core.proofs.debugger.Debugger.settle.Goals as goal

pub returns-in_err-literals-clause-holds : goal.returns-in_err-literals-clause-holds
returns-in_err-literals-clause-holds c =
    let e = c.self.inside.encoding in
    let s = c.self.inside.search in
    subst IsDebugger c.self.view_is
    (is-debugger (problem_in e) e.form e.unrolled s.enumerator (drop s.appended s.certificate) s.finished s.imported c.self.invariant)

stands : (c : goal.After-drop-literals)
    → IsStanding (problem_in c.self.inside.encoding) c.self.inside.encoding.form c.self.inside.encoding.unrolled c.settle.new.self
    (drop c.self.inside.search.appended c.self.inside.search.certificate) c.self.inside.search.finished c.self.inside.search.imported
stands c =
    stands-untold _ _ _ _ _ _ _ _ c.self.invariant c.settle.ensures.holds c.settle.ensures.same

pub returns-clause-holds : goal.returns-clause-holds
returns-clause-holds c =
    let e = c.self.inside.encoding in
    let s = c.self.inside.search in
    is-debugger (problem_in e) e.form e.unrolled c.settle.new.self (drop s.appended s.certificate) s.finished s.imported (stands c)
