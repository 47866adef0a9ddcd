use Rattle.std.proofs.Common.{ℕ, List, [], false, drop, length, subst, sym}
use Rattle.clause_base.specs.declared.log.Step.{Step}
use Rattle.set_enum.specs.EnumState.{EnumState, IsEnum, with_imported}
use Rattle.debug_core.specs.Debugging.{DebugState}
use Rattle.debug_core.specs.Sessions.{GoesOnFrom, MayGoOn}
use Rattle.debug_core.specs.Standing.{IsStanding, problem_in, state_of}
use Rattle.debug_core.proofs.Debuggers.{is-debugger}
use Rattle.debug_core.proofs.Sessions.{goes-on-from, goes-on-standing, may-be-imported}
use Rattle.debug_core.proofs.debugger.Debugger.resume.Goals as goal

pub import-requires : goal.import-requires
import-requires c =
    let e = c.self.inside.encoding in
    let s = c.self.inside.search in
    may-be-imported (problem_in e) e.form e.unrolled s.enumerator (drop s.appended s.certificate) s.finished s.imported c.self.invariant c.args.log.now
    (subst (λ (d : DebugState). MayGoOn d c.args.log.now) (sym c.self.view_is) c.requires)

pub invariant_of-result : goal.invariant_of-result
invariant_of-result c =
    let e = c.self.inside.encoding in
    let s = c.self.inside.search in
    let log = c.args.log.now in
    let may = subst (λ (d : DebugState). MayGoOn d log) (sym c.self.view_is) c.requires in
    subst (λ (count : ℕ). IsStanding (problem_in e) e.form e.unrolled c.import.new.self c.new.result false count) (sym c.len.ensures.value)
    (subst (λ (steps : List Step). IsStanding (problem_in e) e.form e.unrolled c.import.new.self steps false (length log)) (sym c.new.ensures)
    (subst (λ (x : EnumState). IsEnum x → IsStanding (problem_in e) e.form e.unrolled x [] false (length log)) (sym c.in_ok-import.ensures.ok)
    (goes-on-standing (problem_in e) e.form e.unrolled s.enumerator (drop s.appended s.certificate) s.finished s.imported c.self.invariant log may)
    c.import.ensures.holds))

pub returns-clause-goes_on : goal.returns-clause-goes_on
returns-clause-goes_on c =
    let e = c.self.inside.encoding in
    let s = c.self.inside.search in
    let log = c.args.log.now in
    let may = subst (λ (d : DebugState). MayGoOn d log) (sym c.self.view_is) c.requires in
    subst (λ (count : ℕ). GoesOnFrom c.args.self log (state_of (problem_in e) e.form c.import.new.self c.new.result false count)) (sym c.len.ensures.value)
    (subst (λ (steps : List Step). GoesOnFrom c.args.self log (state_of (problem_in e) e.form c.import.new.self steps false (length log))) (sym c.new.ensures)
    (subst (λ (x : EnumState). GoesOnFrom c.args.self log (state_of (problem_in e) e.form x [] false (length log))) (sym c.in_ok-import.ensures.ok)
    (subst (λ (d : DebugState). GoesOnFrom d log (state_of (problem_in e) e.form (with_imported s.enumerator log) [] false (length log))) c.self.view_is
    (goes-on-from (problem_in e) e.form e.unrolled s.enumerator (drop s.appended s.certificate) s.finished s.imported c.self.invariant log may))))

pub returns-clause-holds : goal.returns-clause-holds
returns-clause-holds c =
    let e = c.self.inside.encoding in
    let s = c.self.inside.search in
    let log = c.args.log.now in
    let may = subst (λ (d : DebugState). MayGoOn d log) (sym c.self.view_is) c.requires in
    is-debugger (problem_in e) e.form e.unrolled c.import.new.self c.new.result false c.len.result
    (subst (λ (count : ℕ). IsStanding (problem_in e) e.form e.unrolled c.import.new.self c.new.result false count) (sym c.len.ensures.value)
    (subst (λ (steps : List Step). IsStanding (problem_in e) e.form e.unrolled c.import.new.self steps false (length log)) (sym c.new.ensures)
    (subst (λ (x : EnumState). IsEnum x → IsStanding (problem_in e) e.form e.unrolled x [] false (length log)) (sym c.in_ok-import.ensures.ok)
    (goes-on-standing (problem_in e) e.form e.unrolled s.enumerator (drop s.appended s.certificate) s.finished s.imported c.self.invariant log may)
    c.import.ensures.holds)))
