use Rattle.std.proofs.Common.{ap, ◌∙◌}
use Rattle.loc_base.specs.Bits.{value_of}
use Rattle.v_syntax.specs.Tree.{tree_of}
use Rattle.v_sizes.specs.declared.meaning.Const.{Const}
use Rattle.v_sizes.specs.Scopes.{look_of}
use Rattle.width_laws.proofs.Answers.{constant-alone, constant-meant}
use Rattle.width_laws.proofs.laws.constant_has_value.Goals as goal

pub returns-clause-no_signal : goal.returns-clause-no_signal
returns-clause-no_signal c = constant-alone (look_of c.args.scope.now) (tree_of c.args.e.now) c.args.context c.requires.accepted

pub returns-clause-value : goal.returns-clause-value
returns-clause-value c signals of_design V =
    ap (λ (k : Const). value_of k.bits) c.requires.ok
    ∙ constant-meant signals (look_of c.args.scope.now) (tree_of c.args.e.now) c.args.context c.args.scope.now.stands of_design c.requires.most c.requires.accepted V
