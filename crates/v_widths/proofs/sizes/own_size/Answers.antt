use Rattle.std.proofs.Common.{◌≡◌, ap, ◌∙◌, false}
use Rattle.v_syntax.specs.Tree.{tree_of}
use Rattle.v_sizes.specs.Scopes.{look_of}
use Rattle.v_widths.specs.declared.measured.Measured.{Measured}
use Rattle.v_widths.proofs.Answered.{opened-width, opened-signed}
use Rattle.v_widths.proofs.sizes.own_size.Goals as goal

pub returns-clause-width : goal.returns-clause-width
returns-clause-width c =
    ap (λ (m : Measured). m.width) (c.deref.ensures ∙ c.in_ok-open.ensures)
    ∙ opened-width (look_of c.args.scope.now) false c.args.scope.now.stands (tree_of c.args.e.now)

pub returns-clause-signed : goal.returns-clause-signed
returns-clause-signed c =
    ap (λ (m : Measured). m.signed) (c.deref-2.ensures ∙ c.in_ok-open.ensures)
    ∙ opened-signed (look_of c.args.scope.now) false c.args.scope.now.stands (tree_of c.args.e.now)
