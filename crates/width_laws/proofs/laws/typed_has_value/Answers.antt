use Rattle.std.proofs.Common.{ap, ◌∙◌}
use Rattle.v_syntax.specs.Tree.{tree_of}
use Rattle.design_core.specs.declared.expression.Typed.{Typed}
use Rattle.design_core.specs.Value.{value}
use Rattle.design_core.specs.WellFormed.{typed_fits}
use Rattle.v_sizes.specs.Scopes.{look_of}
use Rattle.width_laws.proofs.Answers.{typed-meant, typed-size}
use Rattle.width_laws.proofs.laws.typed_has_value.Goals as goal

pub returns-clause-width : goal.returns-clause-width
returns-clause-width c =
    ap (λ (t : Typed). t.width) c.requires.ok
    ∙ (typed-size (look_of c.args.scope.now) (tree_of c.args.e.now) c.args.context c.args.unsigned c.args.scope.now.stands c.requires.most c.requires.accepted).0

pub returns-clause-sign : goal.returns-clause-sign
returns-clause-sign c =
    ap (λ (t : Typed). t.signed) c.requires.ok
    ∙ (typed-size (look_of c.args.scope.now) (tree_of c.args.e.now) c.args.context c.args.unsigned c.args.scope.now.stands c.requires.most c.requires.accepted).1

pub returns-clause-value : goal.returns-clause-value
returns-clause-value c signals of_design V =
    ap (value signals V) c.requires.ok
    ∙ (typed-meant signals (look_of c.args.scope.now) (tree_of c.args.e.now) c.args.context c.args.unsigned c.args.scope.now.stands of_design c.requires.most c.requires.accepted).means V

pub returns-clause-fits : goal.returns-clause-fits
returns-clause-fits c signals of_design =
    ap (typed_fits signals) c.requires.ok
    ∙ (typed-meant signals (look_of c.args.scope.now) (tree_of c.args.e.now) c.args.context c.args.unsigned c.args.scope.now.stands of_design c.requires.most c.requires.accepted).fits
