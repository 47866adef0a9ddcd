use Rattle.std.proofs.Common.{◌+◌, [], map, drop, get_or, sym, ap, ◌∙◌, arith}
use Rattle.std.proofs.lemmas.Option.{slice_get_within, get_or_from_slice_get}
use Rattle.v_hierarchy.specs.Views.{instance_of}
use Rattle.v_binding.specs.Steps.{◌>>=◌}
use Rattle.v_binding.specs.Binding.{bound_from, instance_items}
use Rattle.bind_scopes.specs.Views.{scope_of, socket_of}
use Rattle.bind_scopes.specs.Children.{numbers_from}
use Rattle.v_design.proofs.WalkLaws.{children_is, bound_next, bound_end, stand_next, ports_long}
use Rattle.v_design.proofs.BindingLaws.{refused_from}
use Rattle.v_design.proofs.walk.bound_all.Goals as goal

pub bounds-children-at : goal.bounds-children-at
bounds-children-at c =
    slice_get_within c.args.whole.children.now c.loop-at.at (numbers_from c.loop-at.at 0 (map instance_of c.args.whole.instances.now))
    (c.requires.all.children c.loop-at.at c.loop-at-test.true)

pub instance_items-requires : goal.instance_items-requires
instance_items-requires c =
    (stand_next c.args.whole.instances.now c.loop-at.at (c.loop-at.at + 1) c.index-instances-at.result (omega arith) c.loop-at-test.true c.index-instances-at.is c.loop-at.invariant.stand).0

pub loop-at-preserved : goal.loop-at-preserved
loop-at-preserved c =
    let list = c.args.whole.instances.now in
    let scopes = c.args.whole.scopes.now in
    let ports = c.args.whole.ports.now in
    let at = c.loop-at.at in
    let all = map instance_of list in
    let ported = ports_long ports list scopes c.requires.all.ports c.requires.all.scopes in
    let row = c.as_slice.ensures ∙ c.index-children-at.is
    ∙ get_or_from_slice_get c.args.whole.children.now at (numbers_from at 0 all) c.index-children-at.result (c.requires.all.children at c.loop-at-test.true) in
    let kids = map (λ number. map socket_of (get_or ports number [])) c.as_slice.result.now in
    let own = ap (λ ns. map (λ number. map socket_of (get_or ports number [])) ns) row ∙ children_is (map socket_of) at all ports ported in
    let rest = bound_from c.args.frame.now all (map (map socket_of) ports) (at + 1) (map instance_of (drop (at + 1) list)) (map scope_of (drop (at + 1) scopes)) in
    record {
      stand = (stand_next list at (at + 1) c.index-instances-at.result (omega arith) c.loop-at-test.true c.index-instances-at.is c.loop-at.invariant.stand).1;
      rest = sym (bound_next c.args.frame.now all (map (map socket_of) ports) list scopes at (at + 1) c.index-instances-at.result c.index-scopes-at.result kids c.loop-at.bound
          (omega arith) c.loop-at-test.true (omega (arith, c.loop-at-test.true, c.requires.all.scopes)) c.index-instances-at.is c.index-scopes-at.is own
          ∙ ap (λ r. r >>= rest) c.in-Ok.ensures.ok) ∙ c.loop-at.invariant.rest;
    }

pub returns-in-Err-clause-err : goal.returns-in-Err-clause-err
returns-in-Err-clause-err c =
    let list = c.args.whole.instances.now in
    let scopes = c.args.whole.scopes.now in
    let ports = c.args.whole.ports.now in
    let at = c.loop-at.at in
    let all = map instance_of list in
    let ported = ports_long ports list scopes c.requires.all.ports c.requires.all.scopes in
    let row = c.as_slice.ensures ∙ c.index-children-at.is
    ∙ get_or_from_slice_get c.args.whole.children.now at (numbers_from at 0 all) c.index-children-at.result (c.requires.all.children at c.loop-at-test.true) in
    let kids = map (λ number. map socket_of (get_or ports number [])) c.as_slice.result.now in
    let own = ap (λ ns. map (λ number. map socket_of (get_or ports number [])) ns) row ∙ children_is (map socket_of) at all ports ported in
    let rest = bound_from c.args.frame.now all (map (map socket_of) ports) (at + 1) (map instance_of (drop (at + 1) list)) (map scope_of (drop (at + 1) scopes)) in
    refused_from _ (instance_items c.args.frame.now (instance_of c.index-instances-at.result) (scope_of c.index-scopes-at.result) kids c.loop-at.bound) c.in-Err.fault
    (λ is. sym c.loop-at.invariant.rest
    ∙ bound_next c.args.frame.now all (map (map socket_of) ports) list scopes at (at + 1) c.index-instances-at.result c.index-scopes-at.result kids c.loop-at.bound
    (omega arith) c.loop-at-test.true (omega (arith, c.loop-at-test.true, c.requires.all.scopes)) c.index-instances-at.is c.index-scopes-at.is own
    ∙ ap (λ r. r >>= rest) is)
    c.in-Err.ensures.err

pub returns-clause-ok : goal.returns-clause-ok
returns-clause-ok c =
    sym c.loop-at.invariant.rest
    ∙ bound_end c.args.frame.now (map instance_of c.args.whole.instances.now) (map (map socket_of) c.args.whole.ports.now) c.args.whole.instances.now c.args.whole.scopes.now c.loop-at.at c.loop-at.bound
    c.loop-at-test.false
