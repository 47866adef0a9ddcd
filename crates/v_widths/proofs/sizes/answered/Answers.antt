use Rattle.std.proofs.Common.{◌≡◌, ◌≤◌, subst, sym}
use Rattle.v_syntax.specs.Tree.{tree_of}
use Rattle.v_sizes.specs.Scopes.{look_of}
use Rattle.v_widths.specs.declared.measured.Measured.{Measured}
use Rattle.v_widths.proofs.Answered.{opened-least, opened-most}
use Rattle.v_widths.proofs.sizes.answered.Goals as goal

pub in_context-requires-clause-least : goal.in_context-requires-clause-least
in_context-requires-clause-least c =
    subst (λ (m : Measured). 1 ≤ m.width) (sym c.in_ok-open.ensures)
    (opened-least (look_of c.args.scope.now) c.args.asked.only c.args.scope.now.stands (tree_of c.args.e.now))

pub in_context-requires-clause-most : goal.in_context-requires-clause-most
in_context-requires-clause-most c =
    subst (λ (m : Measured). m.width ≤ 128) (sym c.in_ok-open.ensures)
    (opened-most (look_of c.args.scope.now) c.args.asked.only c.args.scope.now.stands (tree_of c.args.e.now))
