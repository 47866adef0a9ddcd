use Rattle.std.proofs.Common.{◌∙◌, map, sym, ap}
use Rattle.v_syntax.specs.ModuleTree.{module_of, source_of}
use Rattle.v_scopes.specs.Units.{units_of}
use Rattle.v_scopes.proofs.GivenLaws.{passed_on}
use Rattle.v_hierarchy.specs.Frames.{Refuses}
use Rattle.v_hierarchy.specs.Instances.{instances}
use Rattle.v_hierarchy.specs.Views.{child_of}
use Rattle.v_elaborate.specs.Walking.{listed_from}
use Rattle.v_elaborate.proofs.WalkSteps.{instances-through, refuses-through}
use Rattle.v_elaborate.proofs.elaborate.instances.Goals as goal

pub returns-in_err-list-clause-err : goal.returns-in_err-list-clause-err
returns-in_err-list-clause-err c =
    let source = map module_of c.as_slice-modules.result.now in
    let units = units_of c.in_ok-units.units in
    let child = child_of c.in_ok-child.child in
    let same = ap (λ ms. instances (map module_of ms) c.args.top.now) (sym c.as_slice-modules.ensures.value)
    ∙ instances-through source units c.in_ok-units.ensures c.args.top.now (module_of c.in-Some.unit.now) (sym c.in-Some.ensures) c.in_ok-names_differ.field-0 c.in_ok-names_differ.ensures.ok
    child c.in_ok-child.ensures in
    passed_on (Refuses (instances (source_of c.args.tree.now) c.args.top.now)) _ _ c.from_residual-in_err-list.ensures.1
    (refuses-through (listed_from units child) (instances (source_of c.args.tree.now) c.args.top.now) c.in_err-list.field-0.0 same c.in_err-list.ensures.err)

pub returns-clause-ok : goal.returns-clause-ok
returns-clause-ok c =
    let source = map module_of c.as_slice-modules.result.now in
    let units = units_of c.in_ok-units.units in
    let child = child_of c.in_ok-child.child in
    ap (λ ms. instances (map module_of ms) c.args.top.now) (sym c.as_slice-modules.ensures.value)
    ∙ instances-through source units c.in_ok-units.ensures c.args.top.now (module_of c.in-Some.unit.now) (sym c.in-Some.ensures) c.in_ok-names_differ.field-0 c.in_ok-names_differ.ensures.ok
    child c.in_ok-child.ensures
    ∙ c.in_ok-list.ensures.ok
