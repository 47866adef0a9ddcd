use Rattle.std.proofs.Common.{Some, None, refl, sym, ap, subst, ◌∙◌, inl, inr}
use Rattle.v_binding.specs.declared.error.BindErr.TheVariants as fault
use Rattle.design_rules.specs.First.{IsFirst}
use Rattle.design_rules.specs.DrivenReads.{IsUndriven}
use Rattle.bind_rules.specs.Rules.{Undriven, Latches}
use Rattle.bind_rules.specs.Views.{beside_of}
use Rattle.bind_rules.proofs.FirstLaws.{if-ok}
use Rattle.bind_rules.proofs.rules.undriven.Goals as goal

pub returns-in-Some : goal.returns-in-Some
returns-in-Some c =
    inl (c.in-Some.signal, subst (IsFirst (IsUndriven c.args.design.now)) c.in-Some.is c.in_ok-signal.ensures, ap (λ s. Some (fault.Undriven s)) c.span_at.ensures)

pub returns-in-None : goal.returns-in-None
returns-in-None c =
    let d = c.args.design.now in
    let b = beside_of c.args.beside in
    if-ok c.latches.result (Latches d b) (Undriven d b) (λ answer rest. inr (subst (IsFirst (IsUndriven c.args.design.now)) c.in-None.is c.in_ok-signal.ensures, rest)) c.latches.ensures
