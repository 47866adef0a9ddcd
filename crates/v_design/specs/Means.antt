-- Which design the instances of a text mean, or why they mean none.
use Rattle.std.specs.Prelude.{ℕ, ◌≡◌, ◌⊎◌, List, map, Option, Some, None, Ok, Err}
use Rattle.design_core.specs.declared.design.Design.{Design}
use Rattle.v_hierarchy.specs.Instances.{Instance}
use Rattle.v_binding.specs.declared.error.BindErr.{BindErr}
use Rattle.v_binding.specs.Binding.{Binding, binding}
use Rattle.bind_laws.specs.Whole.{IsDesignOf}
use Rattle.bind_rules.specs.Beside.{Beside, clock_fault}
use Rattle.bind_rules.specs.Rules.{IsFirstBroken}

-- what the rules want to know beside the lists
abbrev pub beside_binding : Binding → Beside
beside_binding b = record {
  homes = map (λ n. n.home) b.numbered;
  spans = map (λ n. n.span) b.numbered;
  initial = b.bound.initial;
  clock_fault = clock_fault b.misnamed b.bound.misclocked b.bound.clock_read;
}

-- a design of what the instances bind
pub record IsBound (instances : List Instance) (clock : Option (List ℕ)) (d : Design) : Type 0 where
  pub lists : Binding
  pub bound : binding instances clock ≡ Ok lists
  pub of : IsDesignOf lists d

-- it breaks no rule
pub record IsMeant (instances : List Instance) (clock : Option (List ℕ)) (d : Design) : Type 0 where
  pub is : IsBound instances clock d
  pub sound : IsFirstBroken d (beside_binding is.lists) None

-- it breaks a rule
pub record IsBroken (instances : List Instance) (clock : Option (List ℕ)) (e : BindErr) : Type 0 where
  pub design : Design
  pub is : IsBound instances clock design
  pub first : IsFirstBroken design (beside_binding is.lists) (Some e)

-- binding refuses the instances, or what they bind breaks a rule
abbrev pub IsRefused : List Instance → Option (List ℕ) → BindErr → Type 0
IsRefused instances clock e = (binding instances clock ≡ Err e) ⊎ IsBroken instances clock e
