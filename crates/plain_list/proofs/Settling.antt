-- The drivers of an order carried out one after another.
use Rattle.std.proofs.Common.{◌≡◌, ℕ, zero, suc, ◌+◌, ◌<◌, Bool, true, false, ◌==◌, if◌then◌else◌, List, [], ◌∷◌, ◌++◌, length, take, get_or, refl, ap, sym, ◌∙◌, arith}
use Rattle.std.specs.List.{list_any}
use Rattle.std.proofs.Math.Path.{fun_ext}
use Rattle.loc_base.specs.declared.bits.Bits.{Bits}
use Rattle.design_core.specs.declared.design.Design.{Design}
use Rattle.design_core.specs.Valuation.{Valuation}
use Rattle.design_core.specs.After.{Choice}
use Rattle.design_core.specs.Drives.{is_listed}
use Rattle.design_core.specs.Cycle.{before, sampled}
use Rattle.plain_list.specs.Network.{IsNetwork, step, settled_from}
use Rattle.plain_list.proofs.OneCycle.{before-state}

pub settled_from-push : (d : Design) (choice : Choice) (V : Valuation) (order : List ℕ) (i : ℕ) → settled_from d choice V (order ++ i ∷ []) ≡ step d choice (settled_from d choice V order) i
settled_from-push d choice V [] i = refl
settled_from-push d choice V (j ∷ order) i = settled_from-push d choice (step d choice V j) order i

unlisted : (inputs : List ℕ) (samples : List Bits) (s b : ℕ) → list_any (λ input. input == s) inputs ≡ false → sampled inputs samples s b ≡ false
unlisted [] samples s b h = refl
unlisted (input ∷ inputs) [] s b h = refl
unlisted (input ∷ inputs) (sample ∷ samples) s b h = by_test (λ rest. unlisted inputs samples s b rest) (input == s) refl
  where
    by_test : (list_any (λ input. input == s) inputs ≡ false → sampled inputs samples s b ≡ false) → (x : Bool) → (input == s) ≡ x → sampled (input ∷ inputs) (sample ∷ samples) s b ≡ false
    by_test later true e = absurd (bad (rw e at h))
      where
        bad : true ≡ false → ⊥
        bad e = cc
    by_test later false e = rw e (later (rw e at h))

-- before anything is computed, the bits of a network are its samples
pub sampled-before : (d : Design) (order : List ℕ) (samples : List Bits) → IsNetwork d order → sampled d.inputs.items samples ≡ before d samples (λ _ _. false)
sampled-before d order samples n = fun_ext (λ s. fun_ext (λ b. sym (before-state d order samples (λ _ _. false) s b n ∙ by_listed s b (is_listed d s) refl)))
  where
    by_listed : (s b : ℕ) (x : Bool) → is_listed d s ≡ x → (if is_listed d s then sampled d.inputs.items samples s b else false) ≡ sampled d.inputs.items samples s b
    by_listed s b true e = rw e refl
    by_listed s b false e = rw e (sym (unlisted d.inputs.items samples s b e))

take-next : (order : List ℕ) (i : ℕ) → i < length order → take (i + 1) order ≡ take i order ++ get_or order i 0 ∷ []
take-next [] i h = absurd (omega (arith, h))
take-next (x ∷ order) zero h = refl
take-next (x ∷ order) (suc i) h = ap (λ n. take n (x ∷ order)) (next i) ∙ ap (λ xs. x ∷ xs) (take-next order i (omega (arith, h)))
  where
    next : (n : ℕ) → suc n + 1 ≡ suc (n + 1)
    next n = omega arith

-- one more driver carried out
pub settled-next : (d : Design) (choice : Choice) (V : Valuation) (order : List ℕ) (i driver : ℕ) (old new : Valuation) → i < length order → driver ≡ get_or order i 0
    → old ≡ settled_from d choice V (take i order) → new ≡ step d choice old driver → new ≡ settled_from d choice V (take (i + 1) order)
settled-next d choice V order i driver old new h is o n =
    n ∙ ap (λ W. step d choice W driver) o ∙ ap (λ j. step d choice (settled_from d choice V (take i order)) j) is
    ∙ sym (ap (settled_from d choice V) (take-next order i h) ∙ settled_from-push d choice V (take i order) (get_or order i 0))
