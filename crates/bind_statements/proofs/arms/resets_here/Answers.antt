use Rattle.std.proofs.Common.{◌∙◌, ap, sym}
use Rattle.design_core.specs.WellFormed.{is_reset_values}
use Rattle.v_binding.specs.Clocks.{arms_here}
use Rattle.bind_statements.proofs.ArmLaws.{has_values, arms-if}
use Rattle.bind_statements.proofs.arms.resets_here.Goals as goal

pub returns-in-If : goal.returns-in-If
returns-in-If c =
    c.is_reset_values.ensures ∙ ap is_reset_values c.deref.ensures ∙ sym (ap has_values (arms-if c.in-If.cond c.in-If.yes c.in-If.no))
    ∙ ap (λ s. has_values (arms_here s)) (sym c.in-If.is)
