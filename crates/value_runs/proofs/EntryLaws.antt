-- Entries one more.
use Rattle.std.proofs.Common.{◌≡◌, ℕ, zero, suc, Bool, false, List, [], ◌∷◌, ◌++◌, refl}
use Rattle.loc_base.specs.declared.bits.Bits.{Bits}
use Rattle.loc_base.specs.Bits.{value_of}
use Rattle.design_core.specs.Given.{freed_of}
use Rattle.cycle_sim.specs.Replaying.{chosen_at}

pub freed-push : (freed : List Bool) → ((p : ℕ) → freed_of freed p ≡ false) → (p : ℕ) → freed_of (freed ++ false ∷ []) p ≡ false
freed-push [] none zero = refl
freed-push [] none (suc p) = refl
freed-push (b ∷ freed) none zero = none 0
freed-push (b ∷ freed) none (suc p) = freed-push freed (λ q. none (suc q)) p

pub chosen-push : (choice : List Bits) (word : Bits) → value_of word ≡ 0 → ((p : ℕ) → chosen_at choice p ≡ 0) → (p : ℕ)
    → chosen_at (choice ++ word ∷ []) p ≡ 0
chosen-push [] word is_zero zeros zero = is_zero
chosen-push [] word is_zero zeros (suc p) = refl
chosen-push (b ∷ choice) word is_zero zeros zero = zeros 0
chosen-push (b ∷ choice) word is_zero zeros (suc p) = chosen-push choice word is_zero (λ q. zeros (suc q)) p
