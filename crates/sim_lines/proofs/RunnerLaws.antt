-- What a runner that frees no place is known by.
use Rattle.std.proofs.Common.{ℕ, zero, suc, ◌≡◌, ◌<◌, Bool, true, false, List, [], ◌∷◌, ◌++◌, length, ap, refl, subst, ◌∙◌, arith, Option, Some, None}
use Rattle.std.specs.Prelude.{All, slice_get, nat_lt}
use Rattle.std.specs.List.{list_all}
use Rattle.std.specs.Option.{option_map_or}
use Rattle.std.proofs.Math.Path.{fun_ext}
use Rattle.std.proofs.lemmas.Bool.{and_parts, ltb-true}
use Rattle.std.proofs.lemmas.Option.{slice_get_within, get_or_from_slice_get}
use Rattle.loc_base.specs.declared.bits.Bits.{Bits}
use Rattle.loc_base.specs.Bits.{value_of}
use Rattle.design_core.specs.declared.design.Design.{Design}
use Rattle.design_core.specs.Words.{choice_of}
use Rattle.design_core.specs.WellFormed.{IsWellFormed}
use Rattle.sim_lines.specs.Lines.{no_place}
use Rattle.sim_lines.specs.Running.{AreSignals, FreesNone, no_choice}

-- an entry of a list all of whose entries pass
all-at : {X : Type 0} (P : X → Type 0) (xs : List X) (p : ℕ) (x : X) → All P xs → slice_get xs p ≡ Some x → P x
all-at P xs p x all at = subst P (get_or_from_slice_get xs p x x at) (all p x (slice_get_within xs p x at))

-- no place is freed, and no value chosen
frees-none : (freed : List Bool) (p : ℕ) → All (λ b. b ≡ false) freed → (o : Option Bool) → slice_get freed p ≡ o → option_map_or (λ b. b) o false ≡ false
frees-none freed p all None at = refl
frees-none freed p all (Some b) at = all-at (λ b. b ≡ false) freed p b all at

chosen-zero : (choice : List Bits) (p : ℕ) → All (λ w. value_of w ≡ 0) choice → (o : Option Bits) → slice_get choice p ≡ o → option_map_or value_of o 0 ≡ 0
chosen-zero choice p all None at = refl
chosen-zero choice p all (Some w) at = all-at (λ w. value_of w ≡ 0) choice p w all at

pub none-chosen : (d : Design) (freed : List Bool) (choice : List Bits) → FreesNone d freed choice → choice_of freed choice ≡ no_choice
none-chosen d freed choice none =
    ap (λ (f : ℕ → Bool). record { frees = f; chosen = λ p. option_map_or value_of (slice_get choice p) 0 }) (fun_ext (λ p. frees-none freed p none.none (slice_get freed p) refl))
    ∙ ap (λ (g : ℕ → ℕ). record { frees = no_place; chosen = g }) (fun_ext (λ p. chosen-zero choice p none.zeros (slice_get choice p) refl))

-- one entry more
more : {X : Type 0} (P : X → Type 0) (xs : List X) (x : X) → All P xs → P x → All P (xs ++ x ∷ [])
more P [] x all holds zero y low = holds
more P [] x all holds (suc i) y low = absurd (omega (arith, low))
more P (first ∷ rest) x all holds zero y low = all zero y (omega arith)
more P (first ∷ rest) x all holds (suc i) y low = more P rest x (λ j z h. all (suc j) z (omega (arith, h))) holds i y (omega (arith, low))

pub freed-none : All (λ b. b ≡ false) []
freed-none i x low = absurd (omega (arith, low))

pub freed-more : (freed : List Bool) → All (λ b. b ≡ false) freed → All (λ b. b ≡ false) (freed ++ false ∷ [])
freed-more freed all = more (λ b. b ≡ false) freed false all refl

pub zeros-none : All (λ w. value_of w ≡ 0) []
zeros-none i x low = absurd (omega (arith, low))

pub zeros-more : (choice : List Bits) (w : Bits) → All (λ w. value_of w ≡ 0) choice → value_of w ≡ 0 → All (λ w. value_of w ≡ 0) (choice ++ w ∷ [])
zeros-more choice w all none = more (λ (w : Bits). value_of w ≡ 0) choice w all none

pub ruleset entry_rules = (freed-none, freed-more, zeros-none, zeros-more)

-- the outputs of a well formed design are signals
outputs-below : (n : ℕ) (xs : List ℕ) → list_all (λ s. nat_lt s n) xs ≡ true → All (λ s. s < n) xs
outputs-below n [] h i d low = absurd (omega (arith, low))
outputs-below n (x ∷ xs) h zero d low = ltb-true x n (and_parts (nat_lt x n) (list_all (λ s. nat_lt s n) xs) h).0
outputs-below n (x ∷ xs) h (suc i) d low = outputs-below n xs (and_parts (nat_lt x n) (list_all (λ s. nat_lt s n) xs) h).1 i d (omega (arith, low))

pub outputs-are : (d : Design) → IsWellFormed d → AreSignals d d.outputs.items
outputs-are d well = outputs-below (length d.signals.items) d.outputs.items well.outputs
