use Rattle.std.proofs.Common.{Some, refl, sym, subst}
use Rattle.v_binding.specs.declared.error.BindErr.TheVariants as fault
use Rattle.bind_rules.specs.Rules.{AtClock, Assigns, Clocks}
use Rattle.bind_rules.specs.Views.{beside_of}
use Rattle.bind_rules.proofs.FirstLaws.{if-ok}
use Rattle.bind_rules.proofs.rules.clocks.Goals as goal

pub returns-in-Some : goal.returns-in-Some
returns-in-Some c =
    subst (λ o. AtClock o (Assigns c.args.design.now (beside_of c.args.beside)) (Some (fault.Clock c.in-Some.span))) (sym c.in-Some.is) refl

pub returns-in-None : goal.returns-in-None
returns-in-None c =
    let d = c.args.design.now in
    let b = beside_of c.args.beside in
    if-ok c.assigns.result (Assigns d b) (Clocks d b) (λ answer rest. subst (λ o. AtClock o (Assigns d b) answer) (sym c.in-None.is) rest) c.assigns.ensures
