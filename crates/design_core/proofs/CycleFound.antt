-- A cycle that there is, built from the definitions alone: a held register whose place is freed.
use Rattle.std.proofs.Common.{◌≡◌, ℕ, [], ◌∷◌, ap, ◌∙◌, refl, subst, ◌⊎◌, inl, inr}
use Rattle.std.specs.Prelude.{Bool, true, false, not, ◌&&◌, ◌||◌, ◌==◌, nat_lt, nat_le, if◌then◌else◌, Some, None, Contains}
use Rattle.std.proofs.lemmas.Bool.{both_ways}
use Rattle.loc_base.proofs.ShelfLists.{Contains-cons, Contains-empty}
use Rattle.design_core.specs.declared.driver.Clocked.{Clocked}
use Rattle.design_core.specs.Valuation.{Valuation}
use Rattle.design_core.specs.After.{Choice}
use Rattle.design_core.specs.Drives.{is_register_bit}
use Rattle.design_core.specs.Cycle.{Cycle, left_from}
use Rattle.design_core.proofs.Examples.{Any}
use Rattle.design_core.proofs.CycleExamples.{held, held_block}

-- its values are its states, and its next states what its block leaves
abbrev values : Any → Valuation → Valuation
values any state s b = is_register_bit (held any) s b && state s b

abbrev next_states : Any → Choice → Valuation → Valuation
next_states any choice state s b =
    is_register_bit (held any) s b && left_from (held any).signals.items choice (held_block any) (values any state) (held_block any).body s b

only_block : (any : Any) (block : Clocked) → Contains (held_block any ∷ []) block → held_block any ≡ block
only_block any block member = at (Contains-cons (held_block any) [] block member)
  where
    at : (held_block any ≡ block) ⊎ Contains [] block → held_block any ≡ block
    at (inl same) = same
    at (inr none) = absurd (Contains-empty block none)

pub a_held_register_has_a_cycle : (any : Any) (choice : Choice) (state : Valuation) → Cycle (held any) [] state choice (values any state) (next_states any choice state)
a_held_register_has_a_cycle any choice state =
    record {
      input = λ s b listed. absurd (both_ways false refl listed);
      reset = λ block r s b member at active drives register.
          absurd (no_reset block r member at);
      register = λ s b register quiet. ap (λ t. t && state s b) register;
      driver = λ driver s b member drives. absurd (Contains-empty driver member);
      other = λ s b none. outside s b none;
      next_clocked = λ block s b member quiet drives register.
          subst (λ (x : Clocked). next_states any choice state s b ≡ left_from (held any).signals.items choice x (values any state) x.body s b) (only_block any block member)
          (ap (λ t. t && left_from (held any).signals.items choice (held_block any) (values any state) (held_block any).body s b) register);
      next_reset = λ s b register active. absurd (both_ways false refl active);
      next_kept = λ s b register kept.
          ap (λ t. t && left_from (held any).signals.items choice (held_block any) (values any state) (held_block any).body s b) register
          ∙ kept_bit (s == 1) (nat_le 0 b) (nat_lt b 1) _ (values any state s b) kept ∙ ap (λ t. t && state s b) register;
      next_other = λ s b none.
          ap (λ t. t && left_from (held any).signals.items choice (held_block any) (values any state) (held_block any).body s b) (not_true (is_register_bit (held any) s b) none);
    }
  where
    no_reset : (block : Clocked) (r : _) → Contains (held_block any ∷ []) block → block.reset ≡ Some r → ⊥
    no_reset block r member at = none (ap (λ (x : Clocked). x.reset) (only_block any block member) ∙ at)
      where
        none : None ≡ Some r → ⊥
        none e = cc

    outside : (s b : ℕ) → not (false || is_register_bit (held any) s b || false) ≡ true → values any state s b ≡ false
    outside s b none = ap (λ t. t && state s b) (middle (is_register_bit (held any) s b) none)
      where
        middle : (y : Bool) → not (false || y || false) ≡ true → y ≡ false
        middle true e = cc
        middle false e = refl

    not_true : (x : Bool) → not x ≡ true → x ≡ false
    not_true true e = cc
    not_true false e = refl

    kept_bit : (x z y A B : Bool) → not ((((x && y) || false) || false) || false) ≡ true
        → (if (true && (x || false)) || false then (if x && z && y then A else B) else B) ≡ B
    kept_bit true z true A B e = cc
    kept_bit true true false A B e = refl
    kept_bit true false false A B e = refl
    kept_bit false z y A B e = refl
