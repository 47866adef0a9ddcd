-- Entries of lists, where there are any.
use Rattle.std.proofs.Common.{◌≡◌, ℕ, zero, suc, List, [], ◌∷◌, get_or, Some, None, refl}
use Rattle.std.specs.Prelude.{slice_get}

-- an entry that is there, at any default
pub get-some : {X : Type 0} (xs : List X) (i : ℕ) (x d : X) → slice_get xs i ≡ Some x → get_or xs i d ≡ x
get-some [] i x d is = cc
get-some (y ∷ xs) zero x d is = cc
get-some (y ∷ xs) (suc i) x d is = get-some xs i x d is

-- the default, where there is none
pub get-none : {X : Type 0} (xs : List X) (i : ℕ) (d : X) → slice_get xs i ≡ None → get_or xs i d ≡ d
get-none [] i d is = refl
get-none (y ∷ xs) zero d is = cc
get-none (y ∷ xs) (suc i) d is = get-none xs i d is

pub ruleset reads = (get-some, get-none)
