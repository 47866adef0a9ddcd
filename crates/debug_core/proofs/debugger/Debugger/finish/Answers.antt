use Rattle.std.proofs.Common.{◌≡◌, ◌+◌, ◌-◌, drop, length, ap, arith, subst}
use Rattle.std.proofs.lemmas.List.{length-drop}
use Rattle.debug_core.specs.Debugging.{DebugState, IsDebugger}
use Rattle.debug_core.specs.Standing.{problem_in}
use Rattle.debug_core.proofs.Counting.{counted}
use Rattle.debug_core.proofs.Debuggers.{is-debugger}
use Rattle.debug_core.proofs.Finishing.{finishing-done, finishing-more, finishing-none}
use Rattle.debug_core.proofs.debugger.Debugger.finish.Goals as goal

pub loop-init : goal.loop-init
loop-init c =
    let e = c.self.inside.encoding in
    let s = c.self.inside.search in
    let rest : length (drop s.appended s.certificate) ≡ length c.args.self.now.certificate = ap (λ (d : DebugState). length d.certificate) c.self.view_is in
    finishing-none c.args.self.now (c.len-end.result - s.appended)
    (subst IsDebugger c.self.view_is
    (is-debugger (problem_in e) e.form e.unrolled s.enumerator (drop s.appended s.certificate) s.finished s.imported c.self.invariant))
    (omega (arith, c.len-end.ensures.value, length-drop s.appended s.certificate, rest))

pub loop-preserved : goal.loop-preserved
loop-preserved c =
    finishing-more c.args.self.now c.loop.self (c.len-end.result - c.loop.counter) c.loop.invariant c.append_step.new.self
    (c.len-end.result - (c.loop.counter + 1)) (omega (arith, c.loop-test.true)) c.in_ok-append_step.ensures.ok c.append_step.ensures.holds

pub returns-clause-counted : goal.returns-clause-counted
returns-clause-counted c =
    let e = c.self.inside.encoding in
    let s = c.self.inside.search in
    let before : IsDebugger c.args.self.now = subst IsDebugger c.self.view_is
    (is-debugger (problem_in e) e.form e.unrolled s.enumerator (drop s.appended s.certificate) s.finished s.imported c.self.invariant) in
    counted c.args.self.now before c.loop.self
    (finishing-done c.args.self.now c.loop.self (c.len-end.result - c.loop.counter) c.loop.invariant (omega (arith, c.loop-test.false)))
    c.loop.invariant.holds
