use Rattle.std.proofs.Common.{◌≡◌, Some, true, sym, ap, subst, inl, inr}
use Rattle.std.specs.Prelude.{option_map, IfSome}
use Rattle.v_binding.specs.declared.error.BindErr.TheVariants as fault
use Rattle.design_rules.specs.First.{IsFirst}
use Rattle.bind_rules.specs.Rules.{is_mixed, mixed_span, Races, Assigns}
use Rattle.bind_rules.specs.Views.{beside_of}
use Rattle.bind_rules.proofs.FirstLaws.{if-ok}
use Rattle.bind_rules.proofs.rules.assigns.Goals as goal

pub returns-in-Some : goal.returns-in-Some
returns-in-Some c =
    let d = c.args.design.now in
    let b = beside_of c.args.beside in
    inl (
      c.in-Some.mixed.signal,
      subst (λ f. IsFirst (λ s. is_mixed d b s ≡ true) (option_map (λ m. m.signal) f)) c.in-Some.is c.in_ok-mixed.ensures.first,
      ap (λ s. Some (fault.MixedAssign s)) (subst (λ f. IfSome f (λ m. m.span ≡ mixed_span d b m.signal)) c.in-Some.is c.in_ok-mixed.ensures.span),
    )

pub returns-in-None : goal.returns-in-None
returns-in-None c =
    let d = c.args.design.now in
    let b = beside_of c.args.beside in
    if-ok c.races.result (Races d b) (Assigns d b)
    (λ answer rest. inr (subst (λ f. IsFirst (λ s. is_mixed d b s ≡ true) (option_map (λ m. m.signal) f)) c.in-None.is c.in_ok-mixed.ensures.first, rest)) c.races.ensures
