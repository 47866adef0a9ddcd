use Rattle.std.proofs.Common.{◌≡◌, ◌≤◌, subst, sym, ◌∙◌, false, map, inr}
use Rattle.v_syntax.specs.Tree.{selection_of, selections_of}
use Rattle.v_sizes.specs.Scopes.{look_of}
use Rattle.v_widths.specs.declared.measured.Measured.{Measured}
use Rattle.v_widths.proofs.Answered.{name-least, name-most, closed-name}
use Rattle.v_widths.proofs.sizes.typed_name.Goals as goal

pub in_context-requires-clause-least : goal.in_context-requires-clause-least
in_context-requires-clause-least c =
    subst (λ (m : Measured). 1 ≤ m.width) (sym c.in_ok-open.ensures)
    (name-least (look_of c.args.scope.now) false c.args.scope.now.stands c.args.site c.args.name.now (selections_of (map selection_of c.args.selects.now)))

pub in_context-requires-clause-most : goal.in_context-requires-clause-most
in_context-requires-clause-most c =
    subst (λ (m : Measured). m.width ≤ 128) (sym c.in_ok-open.ensures)
    (name-most (look_of c.args.scope.now) false c.args.scope.now.stands c.args.site c.args.name.now (selections_of (map selection_of c.args.selects.now)))

pub returns-in-Some-clause-refused : goal.returns-in-Some-clause-refused
returns-in-Some-clause-refused c =
    let done = c.in_ok-typed in
    let all = closed-name (look_of c.args.scope.now) c.args.scope.now.stands c.args.site c.args.name.now
    (selections_of (map selection_of c.args.selects.now)) done.field-0 c.in_ok-open.open done.ensures c.in_ok-open.ensures in
    inr (sym all.0 ∙ cc (done.fault-is, c.in-Some.is))

pub returns-in-None-clause-ok : goal.returns-in-None-clause-ok
returns-in-None-clause-ok c =
    let done = c.in_ok-typed in
    let all = closed-name (look_of c.args.scope.now) c.args.scope.now.stands c.args.site c.args.name.now
    (selections_of (map selection_of c.args.selects.now)) done.field-0 c.in_ok-open.open done.ensures c.in_ok-open.ensures in
    all.1 (sym all.0 ∙ cc (done.fault-is, c.in-None.is))

pub returns-in-None-clause-accepted : goal.returns-in-None-clause-accepted
returns-in-None-clause-accepted c =
    let done = c.in_ok-typed in
    let all = closed-name (look_of c.args.scope.now) c.args.scope.now.stands c.args.site c.args.name.now
    (selections_of (map selection_of c.args.selects.now)) done.field-0 c.in_ok-open.open done.ensures c.in_ok-open.ensures in
    sym all.0 ∙ cc (done.fault-is, c.in-None.is)
