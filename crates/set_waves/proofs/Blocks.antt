-- Flat lists of blocks of one length.
use Rattle.std.proofs.Common.{◌≡◌, ℕ, zero, suc, ◌+◌, ◌-◌, ◌*◌, ◌≤◌, List, [], ◌∷◌, ◌++◌, length, take, drop, Some}
use Rattle.std.proofs.Common.{refl, ap, sym, ◌∙◌, arith}
use Rattle.std.specs.Prelude.{slice_get, slice_range}
use Rattle.std.specs.List.{flat_map}
use Rattle.std.proofs.Math.Seq.{take-append_seam, drop-append-add}
use Rattle.std.proofs.lemmas.List.{drop-take}
use Rattle.loc_base.proofs.ShelfOptions.{Some-same}

-- a part of a list, by its length
pub range-is : {X : Type 0} (xs : List X) (from count : ℕ) → slice_range xs from (from + count) ≡ take count (drop from xs)
range-is xs from count = ap (λ n. take n (drop from xs)) (more from count)
  where
    more : (a b : ℕ) → (a + b) - a ≡ b
    more a b = omega arith

drop-none : {X : Type 0} (n : ℕ) → drop {A = X} n [] ≡ []
drop-none zero = refl
drop-none (suc n) = refl

drop-drop : {X : Type 0} (a b : ℕ) (xs : List X) → drop b (drop a xs) ≡ drop (a + b) xs
drop-drop zero b xs = ap (λ n. drop n xs) (same b)
  where
    same : (n : ℕ) → n ≡ 0 + n
    same n = omega arith
drop-drop (suc a) b [] = drop-none b ∙ sym (drop-none (suc a + b))
drop-drop (suc a) b (x ∷ xs) = drop-drop a b xs ∙ ap (λ n. drop n (x ∷ xs)) (one a b)
  where
    one : (m n : ℕ) → suc (m + n) ≡ suc m + n
    one m n = omega arith

take-take : {X : Type 0} (a b : ℕ) (xs : List X) → a ≤ b → take a (take b xs) ≡ take a xs
take-take zero b xs less = refl
take-take (suc a) zero xs less = absurd (omega (arith, less))
take-take (suc a) (suc b) [] less = refl
take-take (suc a) (suc b) (x ∷ xs) less = ap (λ ys. x ∷ ys) (take-take a b xs (omega (arith, less)))

-- a part of a part
pub part-of-part : {X : Type 0} (xs : List X) (a m b n : ℕ) → b + n ≤ m
    → take n (drop b (take m (drop a xs))) ≡ take n (drop (a + b) xs)
part-of-part xs a m b n within =
    ap (λ k. take n (drop b (take k (drop a xs)))) (split b m (omega (arith, within)))
    ∙ ap (take n) (drop-take b (m - b) (drop a xs))
    ∙ take-take n (m - b) (drop b (drop a xs)) (omega (arith, within))
    ∙ ap (take n) (drop-drop a b xs)
  where
    split : (p q : ℕ) → p ≤ q → q ≡ p + (q - p)
    split p q less = omega (arith, less)

-- a block among others
pub block-at : {Y X : Type 0} (f : Y → List X) (m : ℕ) → ((y : Y) → length (f y) ≡ m) → (ys : List Y) (t : ℕ) (y : Y)
    → slice_get ys t ≡ Some y → take m (drop (t * m) (flat_map f ys)) ≡ f y
block-at f m each [] t y at = absurd (cc)
block-at f m each (z ∷ ys) zero y at =
    ap (λ k. take m (drop k (f z ++ flat_map f ys))) (nothing m)
    ∙ ap (λ n. take n (f z ++ flat_map f ys)) (sym (each z)) ∙ take-append_seam (f z) (flat_map f ys) ∙ ap f (Some-same at)
  where
    nothing : (k : ℕ) → 0 * k ≡ 0
    nothing k = omega arith
block-at f m each (z ∷ ys) (suc t) y at =
    ap (λ n. take m (drop n (f z ++ flat_map f ys))) (ahead m t ∙ ap (λ k. k + t * m) (sym (each z)))
    ∙ ap (take m) (drop-append-add (f z) (flat_map f ys) (t * m)) ∙ block-at f m each ys t y at
  where
    ahead : (k n : ℕ) → suc n * k ≡ k + n * k
    ahead k n = omega arith
