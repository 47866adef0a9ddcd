use Rattle.std.proofs.Common.{Some, ◌∙◌, ap, ap₂, sym}
use Rattle.v_binding.specs.Clocks.{arms_here}
use Rattle.bind_statements.proofs.ArmLaws.{two_arms, arms-if}
use Rattle.bind_statements.proofs.arms.arms_here.Goals as goal

pub returns-in-If : goal.returns-in-If
returns-in-If c =
    ap₂ (λ v b. Some (two_arms v b)) c.into_inner.ensures c.into_inner-in-If.ensures ∙ sym (arms-if c.in-If.cond c.in-If.yes c.in-If.no) ∙ ap arms_here (sym c.in-If.is)
