-- Lists and what stands at their places.
use Rattle.std.proofs.Common.{ℕ, zero, suc, ◌≡◌, ◌<◌, List, [], ◌∷◌, length, get_or, map, Some, refl, ap, subst, arith}
use Rattle.std.specs.Prelude.{All, AllPairs, slice_get}
use Rattle.std.proofs.lemmas.Option.{slice_get_within}
use Rattle.loc_base.proofs.ShelfLists.{All-member, Contains-at}

some-same : {X : Type 0} (x y : X) → Some x ≡ Some y → x ≡ y
some-same x y e = cc

got-or : {X : Type 0} (xs : List X) (i : ℕ) (x d : X) → slice_get xs i ≡ Some x → get_or xs i d ≡ x
got-or [] i x d there = cc
got-or (y ∷ xs) zero x d there = some-same y x there
got-or (y ∷ xs) (suc i) x d there = got-or xs i x d there

pub got-all : {X : Type 0} (P : X → Type 0) (xs : List X) (i : ℕ) (x : X) → All P xs → slice_get xs i ≡ Some x → P x
got-all P xs i x all there = All-member P xs x all (Contains-at xs i x there)

-- two elements, one behind the other
pub got-pair : {X : Type 0} (R : X → X → Type 0) (xs : List X) (i j : ℕ) (x y : X) → AllPairs R xs → i < j
    → slice_get xs i ≡ Some x → slice_get xs j ≡ Some y → R x y
got-pair R xs i j x y all less here there =
    subst (λ a. R a y) (got-or xs i x x here)
    (subst (λ b. R (get_or xs i x) b) (got-or xs j y x there) (all i j x less (slice_get_within xs j y there)))

-- an element of a list that is made of another
pub got-map : {X Y : Type 0} (f : X → Y) (xs : List X) (i : ℕ) (x : X) → slice_get xs i ≡ Some x → slice_get (map f xs) i ≡ Some (f x)
got-map f [] i x there = cc
got-map f (y ∷ xs) zero x there = ap (λ z. Some (f z)) (some-same y x there)
got-map f (y ∷ xs) (suc i) x there = got-map f xs i x there

pub got-from : {X Y : Type 0} (f : X → Y) (xs : List X) (i : ℕ) (y : Y) → slice_get (map f xs) i ≡ Some y
    → (x : X) × (slice_get xs i ≡ Some x) × (f x ≡ y)
got-from f [] i y there = cc
got-from f (x ∷ xs) zero y there = (x, refl, some-same (f x) y there)
got-from f (x ∷ xs) (suc i) y there = got-from f xs i y there
