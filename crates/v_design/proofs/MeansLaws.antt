-- A design that is no larger than it may be can be carried out; one that breaks no rule is well formed, and its bits driven once.
use Rattle.std.proofs.Common.{◌≡◌, ℕ, ◌<◌, ◌^◌, inl, inr, Bool, true, false, List, length, Option, Some, None, refl, sym, ◌∙◌, subst, arith}
use Rattle.std.specs.Prelude.{◌||◌, nat_lt, Ok}
use Rattle.std.proofs.lemmas.Bool.{ltb-false, true≢false}
use Rattle.std.proofs.lemmas.Option.{none-some}
use Rattle.design_core.specs.declared.design.Design.{Design}
use Rattle.design_core.specs.Given.{CanRun}
use Rattle.design_core.specs.WellFormed.{IsWellFormed}
use Rattle.design_core.specs.DrivenOnce.{IsDrivenOnce}
use Rattle.loc_base.specs.declared.span.Span.{Span}
use Rattle.v_hierarchy.specs.Instances.{Instance}
use Rattle.v_binding.specs.declared.error.BindErr.{BindErr}
use Rattle.v_binding.specs.declared.error.BindErr.TheVariants as fault
use Rattle.v_binding.specs.Binding.{Binding, binding}
use Rattle.v_binding.specs.Starts.{Initial}
use Rattle.design_rules.specs.Size.{is_too_large}
use Rattle.design_rules.specs.OneDriver.{IsDrivenTwice}
use Rattle.design_rules.proofs.OneDriverLaws.{driven-once}
use Rattle.v_binding.specs.Standing.{InstancesStand}
use Rattle.bind_laws.specs.OfText.{OfText}
use Rattle.bind_laws.specs.Whole.{IsDesignOf}
use Rattle.bind_laws.proofs.Designs.{lists-fit, design-runs, design-well_formed}
use Rattle.bind_rules.specs.Beside.{Beside}
use Rattle.bind_rules.specs.Rules.{First, Driven, Undriven, AtSize, IsFirstBroken}
use Rattle.v_design.specs.declared.listed.Listed.{Listed}
use Rattle.v_design.specs.Means.{beside_binding, IsBound, IsMeant, IsBroken}
use Rattle.v_design.specs.Made.{listed_beside, IsMade}

-- ---- size
neither : (a b : Bool) → (a || b) ≡ false → (a ≡ false) × (b ≡ false)
neither false b is = (refl, is)
neither true b is = absurd (true≢false is)

few-signals : (d : Design) → is_too_large d ≡ false → length d.signals.items < 2 ^ 32
few-signals d small =
    let rest = (neither (nat_lt 65536 (length d.places.items) || nat_lt 1048576 (length d.signals.items)) _ small).0 in
    let most = ltb-false 1048576 (length d.signals.items) (neither (nat_lt 65536 (length d.places.items)) _ rest).1 in
    omega (arith, most)

few-of : (b : Binding) (d : Design) → IsDesignOf b d → is_too_large d ≡ false → length b.signals < 2 ^ 32
few-of b d of small = subst (λ xs. length xs < 2 ^ 32) of.signals (few-signals d small)

pub can-run : (instances : List Instance) (clock : Option (List ℕ)) (b : Binding) (d : Design) → InstancesStand instances → OfText instances
    → binding instances clock ≡ Ok b → IsDesignOf b d → is_too_large d ≡ false → CanRun d
can-run instances clock b d stand text bound of small =
    let lists = lists-fit instances clock b stand text (few-of b d of small) bound in design-runs b d lists.0 of lists.1

-- ---- a design that breaks no rule
at-size : (d : Design) (b : Beside) → is_too_large d ≡ false → IsFirstBroken d b None → Driven d b None
at-size d b small first = subst (λ large. AtSize large (Driven d b) None) small first

first-none : (P : ℕ → Type 0) (refusal : ℕ → BindErr) (Next : Option BindErr → Type 0) → First P refusal Next None → (n : ℕ) → ¬ P n
first-none P refusal Next (inl broken) n = absurd (none-some (refusal broken.0) broken.2)
first-none P refusal Next (inr fine) n = fine.0 n

-- what is known of a design that is meant
pub record Known (d : Design) : Type 0 where
  pub well_formed : IsWellFormed d
  pub once : IsDrivenOnce d

pub known : (instances : List Instance) (clock : Option (List ℕ)) (d : Design) → InstancesStand instances → OfText instances → is_too_large d ≡ false
    → IsMeant instances clock d → Known d
known instances clock d stand text small meant =
    let lists = lists-fit instances clock meant.is.lists stand text (few-of meant.is.lists d meant.is.of small) meant.is.bound in
    let well : IsWellFormed d = design-well_formed meant.is.lists d lists.0 meant.is.of lists.1 in
    record {
      well_formed = well;
      once = driven-once d well (first-none (IsDrivenTwice d) _ (Undriven d (beside_binding meant.is.lists)) (at-size d (beside_binding meant.is.lists) small meant.sound));
    }

-- a design of a size that breaks the rule
pub too-large : (instances : List Instance) (clock : Option (List ℕ)) (d : Design) (is : IsBound instances clock d) → is_too_large d ≡ true
    → IsBroken instances clock fault.Places
too-large instances clock d is large =
    record { design = d; is = is; first = subst (λ l. AtSize l (Driven d (beside_binding is.lists)) (Some fault.Places)) (sym large) refl }

-- ---- with what its rules want to know beside it
pub broken : (instances : List Instance) (clock : Option (List ℕ)) (l : Listed) (b : Beside) (o : Option BindErr) (e : BindErr) → IsMade instances clock l
    → b ≡ listed_beside l → o ≡ Some e → IsFirstBroken l.design b o → IsBroken instances clock e
broken instances clock l b o e made beside is first =
    record {
      design = l.design;
      is = made.is;
      first = subst (λ x. IsFirstBroken l.design x (Some e)) (beside ∙ made.beside) (subst (IsFirstBroken l.design b) is first);
    }

pub fine : (instances : List Instance) (clock : Option (List ℕ)) (l : Listed) (b : Beside) (o : Option BindErr) → IsMade instances clock l
    → b ≡ listed_beside l → o ≡ None → IsFirstBroken l.design b o → IsMeant instances clock l.design
fine instances clock l b o made beside is first =
    record { is = made.is; sound = subst (λ x. IsFirstBroken l.design x None) (beside ∙ made.beside) (subst (IsFirstBroken l.design b) is first) }

pub same-beside : {homes other_homes : List ℕ} {spans other_spans : List Span} {initial other_initial : List Initial} {fault other_fault : Option Span}
    → homes ≡ other_homes → spans ≡ other_spans → initial ≡ other_initial → fault ≡ other_fault
    → ◌≡◌ {A = Beside} (record { homes = homes; spans = spans; initial = initial; clock_fault = fault })
    (record { homes = other_homes; spans = other_spans; initial = other_initial; clock_fault = other_fault })
same-beside one two three four = cc
