use Rattle.std.proofs.Common.{◌+◌, true, drop, refl, subst, sym}
use Rattle.debug_core.specs.declared.debugger.Search.{Search}
use Rattle.debug_core.specs.Debugging.{IsDebugger}
use Rattle.debug_core.specs.Standing.{problem_in, state_of}
use Rattle.debug_core.proofs.Debuggers.{is-debugger}
use Rattle.debug_core.proofs.Finishing.{may-be-next, next-stands, next-state}
use Rattle.debug_core.proofs.debugger.Debugger.append_step.Goals as goal

pub take_over-requires-clause-may : goal.take_over-requires-clause-may
take_over-requires-clause-may c =
    let e = c.self.inside.encoding in
    may-be-next (problem_in e) e.form e.unrolled c.self.inside.search c.args.self.now c.self.view_is c.self.invariant c.requires.goes_on
    c.requires.some

pub returns-in_err-take_over-clause-holds : goal.returns-in_err-take_over-clause-holds
returns-in_err-take_over-clause-holds c =
    let e = c.self.inside.encoding in
    let s = c.self.inside.search in
    subst (λ x. IsDebugger (state_of (problem_in e) e.form x (drop s.appended s.certificate) s.finished s.imported)) (sym c.in_err-take_over.ensures.err)
    (is-debugger (problem_in e) e.form e.unrolled s.enumerator (drop s.appended s.certificate) s.finished s.imported c.self.invariant)

pub invariant_of-self-2 : goal.invariant_of-self-2
invariant_of-self-2 c =
    let e = c.self.inside.encoding in
    let s = c.self.inside.search in
    let after : Search = record { enumerator = c.take_over.new.self; certificate = s.certificate; appended = s.appended + 1; finished = true; imported = s.imported } in
    next-stands (problem_in e) e.form e.unrolled s c.args.self.now c.self.view_is c.self.invariant c.requires.goes_on c.requires.some after
    c.in_ok-take_over.ensures.ok refl refl refl refl c.take_over.ensures.holds

pub returns-clause-holds : goal.returns-clause-holds
returns-clause-holds c =
    let e = c.self.inside.encoding in
    let s = c.self.inside.search in
    let after : Search = record { enumerator = c.take_over.new.self; certificate = s.certificate; appended = s.appended + 1; finished = true; imported = s.imported } in
    is-debugger (problem_in e) e.form e.unrolled c.take_over.new.self (drop (s.appended + 1) s.certificate) true s.imported
    (next-stands (problem_in e) e.form e.unrolled s c.args.self.now c.self.view_is c.self.invariant c.requires.goes_on c.requires.some after
    c.in_ok-take_over.ensures.ok refl refl refl refl c.take_over.ensures.holds)

pub returns-clause-ok : goal.returns-clause-ok
returns-clause-ok c =
    let e = c.self.inside.encoding in
    let s = c.self.inside.search in
    let after : Search = record { enumerator = c.take_over.new.self; certificate = s.certificate; appended = s.appended + 1; finished = true; imported = s.imported } in
    next-state (problem_in e) e.form e.unrolled s c.args.self.now c.self.view_is c.self.invariant c.requires.goes_on c.requires.some after
    c.in_ok-take_over.ensures.ok refl refl refl refl
