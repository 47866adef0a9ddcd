-- A design that breaks no rule, asked one after another, is sound by each of them.
use Rattle.std.proofs.Common.{◌≡◌, ℕ, inl, inr, Bool, true, false, refl, Option, Some, None}
use Rattle.std.specs.Prelude.{◌||◌}
use Rattle.std.proofs.lemmas.Option.{none-some}
use Rattle.loc_base.specs.declared.span.Span.{Span}
use Rattle.design_core.specs.declared.design.Design.{Design}
use Rattle.v_binding.specs.declared.error.BindErr.{BindErr}
use Rattle.v_binding.specs.declared.error.BindErr.TheVariants as fault
use Rattle.design_rules.specs.Size.{is_too_large}
use Rattle.design_rules.specs.OneDriver.{IsDrivenTwice}
use Rattle.design_rules.specs.DrivenReads.{IsUndriven}
use Rattle.design_rules.specs.Latches.{IsLatch}
use Rattle.design_rules.specs.Assignments.{is_misassigned}
use Rattle.design_rules.specs.Races.{IsRace}
use Rattle.design_rules.specs.Sound.{IsSound}
use Rattle.bind_rules.specs.Beside.{Beside}
use Rattle.bind_rules.specs.Rules.{First, AtSize, AtClock, Driven, Undriven, Latches, Clocks, Assigns, Races, is_set_first, is_mixed, IsFirstBroken}

size-next : (large : Bool) (Next : Option BindErr → Type 0) → AtSize large Next None → (large ≡ false) × Next None
size-next true Next is = absurd (none-some fault.Places is)
size-next false Next rest = (refl, rest)

clock-next : (c : Option Span) (Next : Option BindErr → Type 0) → AtClock c Next None → Next None
clock-next None Next rest = rest
clock-next (Some span) Next is = absurd (none-some (fault.Clock span) is)

first-next : (P : ℕ → Type 0) (refusal : ℕ → BindErr) (Next : Option BindErr → Type 0) → First P refusal Next None → ((n : ℕ) → ¬ P n) × Next None
first-next P refusal Next (inl broken) = absurd (none-some (refusal broken.0) broken.2)
first-next P refusal Next (inr fine) = fine

not-left : (a c : Bool) → ¬ ((a || c) ≡ true) → a ≡ false
not-left false c not_true = refl
not-left true c not_true = absurd (not_true refl)

pub sound : (d : Design) (b : Beside) → IsFirstBroken d b None → IsSound d b.homes
sound d b is =
    let sized = size-next (is_too_large d) (Driven d b) is in
    let driven = first-next (IsDrivenTwice d) _ (Undriven d b) sized.1 in
    let undriven = first-next (IsUndriven d) _ (Latches d b) driven.1 in
    let latches = first-next (IsLatch d) _ (Clocks d b) undriven.1 in
    let assigns = first-next (λ s. is_mixed d b s ≡ true) _ (Races d b) (clock-next b.clock_fault (Assigns d b) latches.1) in
    let races = first-next (IsRace d b.homes) _ (λ answer. answer ≡ None) assigns.1 in
    record {
      size = sized.0;
      one_driver = driven.0;
      driven_reads = undriven.0;
      no_latch = latches.0;
      one_kind = λ h. not-left (is_misassigned d b.homes h) (is_set_first d b h) (assigns.0 h);
      no_race = races.0;
    }
