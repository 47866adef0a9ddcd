-- Two lists, item by item.
use Rattle.std.proofs.Common.{ℕ, zero, suc, ◌+◌, ◌≡◌, List, [], ◌∷◌, take, sym, refl, ap, ap₂, subst, add-one}
use Rattle.std.specs.Prelude.{slice_get}
use Rattle.std.proofs.lemmas.Option.{none-some, same_Some}

-- lists with the same items before a place, and at it, have the same items up to it
take-more : {T : Type 0} (xs ys : List T) (n : ℕ) → take n xs ≡ take n ys → slice_get xs n ≡ slice_get ys n
    → take (suc n) xs ≡ take (suc n) ys
take-more [] [] n same at = refl
take-more [] (y ∷ ys) zero same at = absurd (none-some y at)
take-more [] (y ∷ ys) (suc n) same at = absurd (cc)
take-more (x ∷ xs) [] zero same at = absurd (none-some x (sym at))
take-more (x ∷ xs) [] (suc n) same at = absurd (cc)
take-more (x ∷ xs) (y ∷ ys) zero same at = ap (λ z. z ∷ []) (same_Some x y at)
take-more (x ∷ xs) (y ∷ ys) (suc n) same at = ap₂ (λ z zs. z ∷ zs) (cc) (take-more xs ys n (cc) at)

pub take-next : {T : Type 0} (xs ys : List T) (n : ℕ) → take n xs ≡ take n ys → slice_get xs n ≡ slice_get ys n
    → take (n + 1) xs ≡ take (n + 1) ys
take-next xs ys n same at = subst (λ m. take m xs ≡ take m ys) (sym (add-one n)) (take-more xs ys n same at)
