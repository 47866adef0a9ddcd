use Rattle.std.proofs.Common.{◌∙◌, ap, sym, subst}
use Rattle.loc_base.specs.Bits.{width_of}
use Rattle.v_sizes.specs.declared.meaning.Const.{Const}
use Rattle.v_sizes.specs.Context.{HasRange}
use Rattle.v_hierarchy.specs.Constants.{assigned}
use Rattle.v_hierarchy.proofs.AssignedLaws.{assigned_range}
use Rattle.v_hierarchy.proofs.kind.ranged.Goals as goal

pub returns-clause-stands : goal.returns-clause-stands
returns-clause-stands c =
    subst (λ (x : Const). HasRange (width_of x.bits) c.args.bounds.left c.args.bounds.right)
    (sym (c.assigned-value.ensures ∙ ap (λ w. assigned w c.args.signed c.args.value) c.width.ensures))
    (assigned_range c.args.bounds c.args.signed c.args.value c.requires)
