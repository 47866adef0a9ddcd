use Rattle.std.proofs.Common.{◌-◌, ◌∙◌, Some, map, sym, ap, subst}
use Rattle.std.specs.Borrow.{Bor}
use Rattle.v_scopes.specs.declared.units.Units.{Units}
use Rattle.v_scopes.specs.Units.{units_of}
use Rattle.v_scopes.proofs.GivenLaws.{passed_on}
use Rattle.v_hierarchy.specs.Frames.{Refuses}
use Rattle.v_hierarchy.specs.Instances.{children, walked}
use Rattle.v_hierarchy.specs.Views.{child_of, copied_of, copies_of, instance_of}
use Rattle.v_elaborate.specs.Met.{met_of}
use Rattle.v_elaborate.specs.Walking.{found_of}
use Rattle.v_elaborate.proofs.WalkSteps.{length-mapped, walked-begins, each-ended, each-refuses}
use Rattle.v_elaborate.proofs.walk.Walk.+walked.Goals as goal

pub returns-in_err-walked-clause-err : goal.returns-in_err-walked-clause-err
returns-in_err-walked-clause-err t c =
    let units = units_of c.args.self.now.units.now in
    let levels = c.args.levels in
    let child = child_of c.args.child.now in
    let found = found_of c.args.self.now in
    let items = c.as_slice-child-items.result.now in
    let number = c.len-number.result in
    let whole = walked units levels c.args.parent child found in
    let begins = walked-begins units c.args.parent child found (found_of c.add.new.self) levels (met_of c.in_ok-met.met) number (map child_of items) c.if-levels-eq0.false
    c.in_ok-met.ensures.ok (c.len-number.ensures ∙ sym (length-mapped instance_of c.args.self.now.list))
    (ap (map child_of) c.as_slice-child-items.ensures ∙ c.in_ok-below.ensures ∙ ap (λ cs. children (copies_of (map copied_of cs))) c.as_slice.ensures) c.in_ok-add.ensures.ok in
    passed_on (Refuses whole) _ _ c.from_residual-in_err-walked.ensures.1
    (each-refuses (walked units (levels - 1) (Some number)) items c.loop-child.child-index c.child-item.result c.loop-child-test.true c.child-item.is (found_of c.loop-child.self) whole
    (c.loop-child.invariant.rest ∙ sym begins) c.in_err-walked.field-0.0
    (subst (λ (u : Bor Units). Refuses (walked (units_of u.now) (levels - 1) (Some number) (child_of c.child-item.result) (found_of c.loop-child.self)) c.in_err-walked.field-0.0)
    c.loop-child.invariant.units c.in_err-walked.ensures.err))

pub returns-clause-ok : goal.returns-clause-ok
returns-clause-ok t c =
    let units = units_of c.args.self.now.units.now in
    let levels = c.args.levels in
    let items = c.as_slice-child-items.result.now in
    let number = c.len-number.result in
    walked-begins units c.args.parent (child_of c.args.child.now) (found_of c.args.self.now) (found_of c.add.new.self) levels (met_of c.in_ok-met.met) number (map child_of items) c.if-levels-eq0.false
    c.in_ok-met.ensures.ok (c.len-number.ensures ∙ sym (length-mapped instance_of c.args.self.now.list))
    (ap (map child_of) c.as_slice-child-items.ensures ∙ c.in_ok-below.ensures ∙ ap (λ cs. children (copies_of (map copied_of cs))) c.as_slice.ensures) c.in_ok-add.ensures.ok
    ∙ sym c.loop-child.invariant.rest
    ∙ each-ended (walked units (levels - 1) (Some number)) items c.loop-child.child-index c.loop-child-test.false (found_of c.loop-child.self)
