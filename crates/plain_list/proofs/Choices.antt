-- What a cycle of a network gives depends on the freed places and their values alone.
use Rattle.std.proofs.Common.{◌≡◌, ℕ, inl, inr, Bool, true, false, List, [], ◌∷◌, map, refl, ap, sym, ◌∙◌, arith}
use Rattle.std.specs.Prelude.{slice_get, Option, Some, None}
use Rattle.std.specs.Option.{option_map_or}
use Rattle.std.proofs.lemmas.Grind.{common_steps}
use Rattle.loc_base.specs.declared.bits.Bits.{Bits}
use Rattle.design_core.specs.declared.signal.Signal.{Signal}
use Rattle.design_core.specs.declared.driver.Driver.{Driver}
use Rattle.design_core.specs.declared.driver.Driver.TheVariants.{Cont, Comb}
use Rattle.design_core.specs.declared.design.Design.{Design}
use Rattle.design_core.specs.Valuation.{Valuation, bit}
use Rattle.design_core.specs.Value.{value}
use Rattle.design_core.specs.After.{Choice}
use Rattle.design_core.specs.Cycle.{cont_assigned, before}
use Rattle.plain_list.specs.Network.{with_net, whole_of, assign, settled_from, settled}
use Rattle.design_core.specs.Explained.{number_for, is_one_of}
use Rattle.plain_list.proofs.Settled.{same_or_not}

-- two choices that free the same places and choose the same for them
pub record Same (one other : Choice) : Type 0 where
  pub frees : (p : ℕ) → one.frees p ≡ other.frees p
  pub chosen : (p : ℕ) → one.frees p ≡ true → one.chosen p ≡ other.chosen p

pub cont_assigned-same : (one other : Choice) (place : Option ℕ) (computed : ℕ) → Same one other → cont_assigned one place computed ≡ cont_assigned other place computed
cont_assigned-same one other None computed s = refl
cont_assigned-same one other (Some p) computed s = by_test (one.frees p) refl
  where
    by_test : (b : Bool) → one.frees p ≡ b → cont_assigned one (Some p) computed ≡ cont_assigned other (Some p) computed
    by_test true e = rw (e, sym (s.frees p) ∙ e) (s.chosen p e)
    by_test false e = rw (e, sym (s.frees p) ∙ e) refl

pub assign-same : (signals : List Signal) (one other : Choice) (V : Valuation) (driver : Driver) → Same one other → assign signals one V driver ≡ assign signals other V driver
assign-same signals one other V (Cont target computed place span) s =
    ap (λ n. with_net signals V (whole_of target.parts) (bit n)) (cont_assigned-same one other place (value signals V computed) s)
assign-same signals one other V (Comb _ _) s = refl

pub settled_from-same : (d : Design) (one other : Choice) (V : Valuation) (order : List ℕ) → Same one other → settled_from d one V order ≡ settled_from d other V order
settled_from-same d one other V [] s = refl
settled_from-same d one other V (i ∷ rest) s =
    ap (λ W. settled_from d one W rest) (step (slice_get d.drivers.items i)) ∙ settled_from-same d one other (option_map_or (assign d.signals.items other V) (slice_get d.drivers.items i) V) rest s
  where
    step : (o : Option Driver) → option_map_or (assign d.signals.items one V) o V ≡ option_map_or (assign d.signals.items other V) o V
    step None = refl
    step (Some driver) = assign-same d.signals.items one other V driver s

pub settled-same : (d : Design) (order : List ℕ) (samples : List Bits) (one other : Choice) → Same one other → settled d order samples one ≡ settled d order samples other
settled-same d order samples one other s = settled_from-same d one other (before d samples (λ _ _. false)) order s

-- the numbers that some choices give some places
abbrev pub numbers_of : (ℕ → ℕ) → List ℕ → List ℕ
numbers_of chosen places = map chosen places

pub number_for-numbers_of : (chosen : ℕ → ℕ) (places : List ℕ) (p : ℕ) → is_one_of places p ≡ true → number_for places (numbers_of chosen places) p ≡ chosen p
number_for-numbers_of chosen [] p h = absurd (cc)
number_for-numbers_of chosen (place ∷ places) p h = elim (same_or_not place p) [
  | inl e ↦ first e
  | inr apart ↦ grind (arith, common_steps, number_for-numbers_of chosen places p, apart, h)
]
  where
    first : place ≡ p → number_for (place ∷ places) (numbers_of chosen (place ∷ places)) p ≡ chosen p
    first e = grind (arith, common_steps)
