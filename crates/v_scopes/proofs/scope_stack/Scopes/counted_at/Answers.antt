use Rattle.std.proofs.Common.{◌∙◌, ap, true}
use Rattle.loc_base.specs.Bits.{width_of}
use Rattle.v_sizes.specs.declared.meaning.Const.{Const}
use Rattle.v_hierarchy.proofs.AssignedLaws.{counted_width}
use Rattle.v_scopes.proofs.scope_stack.Scopes.counted_at.Goals as goal

pub returns-clause-fits : goal.returns-clause-fits
returns-clause-fits c = ap (λ (x : Const). width_of x.bits) c.assigned.ensures ∙ counted_width true c.in_ok-value.value
