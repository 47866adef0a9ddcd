use Rattle.std.proofs.Common.{Some, refl, sym, subst, ◌∙◌}
use Rattle.v_binding.specs.declared.error.BindErr.TheVariants as fault
use Rattle.bind_rules.specs.Rules.{AtSize, Driven, IsFirstBroken}
use Rattle.bind_rules.specs.Views.{beside_of}
use Rattle.bind_rules.proofs.FirstLaws.{if-ok}
use Rattle.bind_rules.proofs.rules.first_broken.Goals as goal

pub returns-then-is_too_large : goal.returns-then-is_too_large
returns-then-is_too_large c =
    subst (λ t. AtSize t (Driven c.args.design.now (beside_of c.args.beside)) (Some fault.Places)) (sym c.if-is_too_large.true ∙ c.is_too_large.ensures) refl

pub returns-else-is_too_large : goal.returns-else-is_too_large
returns-else-is_too_large c =
    let d = c.args.design.now in
    let b = beside_of c.args.beside in
    if-ok c.driven.result (Driven d b) (IsFirstBroken d b)
    (λ answer rest. subst (λ t. AtSize t (Driven d b) answer) (sym c.if-is_too_large.false ∙ c.is_too_large.ensures) rest) c.driven.ensures
