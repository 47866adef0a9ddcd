use Rattle.std.proofs.Common.{◌≡◌, ◌<◌, ◌∙◌, length, map, arith}
use Rattle.std.specs.Prelude.{option_map}
use Rattle.v_syntax.specs.Tree.{tree_of}
use Rattle.v_hierarchy.specs.Frames.{Refuses}
use Rattle.v_hierarchy.specs.Names.{look_in}
use Rattle.v_hierarchy.specs.Parameters.{given_by_order}
use Rattle.v_hierarchy.specs.Views.{given_of}
use Rattle.v_scopes.specs.Around.{frames_of}
use Rattle.v_scopes.specs.Listed.{listed}
use Rattle.v_scopes.proofs.GivenLaws.{order-next, order-refuses, passed_on}
use Rattle.v_scopes.proofs.scope_stack.Scopes.given_by_order.Goals as goal

pub returns-in_err-give_at-clause-err : goal.returns-in_err-give_at-clause-err
returns-in_err-give_at-clause-err c =
    let look = look_in (frames_of c.args.self.now) in
    let all = given_by_order look (listed c.args.names.now) (map (option_map tree_of) c.args.values.now) in
    let within : c.loop-at.at < length c.args.values.now = omega arith in
    passed_on (Refuses all) _ _ c.from_residual.ensures.1
    (order-refuses look (listed c.args.names.now) c.args.values.now c.loop-at.at c.index-values-at.result within c.index-values-at.is (map given_of c.loop-at.done)
    (option_map (λ n. n.now) c.get.result) c.in_err-give_at.field-0.0 all c.get.ensures c.loop-at.invariant c.in_err-give_at.ensures.err)

pub loop-at-preserved : goal.loop-at-preserved
loop-at-preserved c =
    let look = look_in (frames_of c.args.self.now) in
    let within : c.loop-at.at < length c.args.values.now = omega arith in
    order-next look (listed c.args.names.now) c.args.values.now c.loop-at.at c.index-values-at.result within c.index-values-at.is (map given_of c.loop-at.done)
    (option_map (λ n. n.now) c.get.result) (map given_of c.give_at.new.done) c.get.ensures c.in_ok-give_at.ensures.ok
    ∙ c.loop-at.invariant
