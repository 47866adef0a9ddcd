use Rattle.std.proofs.Common.{Some, None, refl, sym, ap, subst, ◌∙◌, inl, inr}
use Rattle.v_binding.specs.declared.error.BindErr.TheVariants as fault
use Rattle.design_rules.specs.First.{IsFirst}
use Rattle.design_rules.specs.Races.{IsRace}
use Rattle.bind_rules.proofs.rules.races.Goals as goal

pub returns-in-Some : goal.returns-in-Some
returns-in-Some c =
    inl (c.in-Some.signal, subst (IsFirst (IsRace c.args.design.now c.args.beside.homes.now)) c.in-Some.is c.in_ok-signal.ensures, ap (λ s. Some (fault.RaceRead s)) c.span_at.ensures)

pub returns-in-None : goal.returns-in-None
returns-in-None c = inr (subst (IsFirst (IsRace c.args.design.now c.args.beside.homes.now)) c.in-None.is c.in_ok-signal.ensures, refl)
