-- A number above some others.
use Rattle.std.proofs.Common.{ℕ, zero, suc, ◌≡◌, ◌<◌, ◌≤◌, ◌+◌, List, [], ◌∷◌, ◌++◌, length, get_or, take, sym, subst, arith}
use Rattle.std.specs.Prelude.{All}
use Rattle.std.proofs.lemmas.List.{take_all}
use Rattle.std.proofs.lemmas.List.Elements.{All-append}
use Rattle.loc_base.proofs.ShelfLists.{take-at}
use Rattle.design_bits.proofs.Touched.{get_or-same}

alone-below : (x n : ℕ) → x < n → All (λ h. h < n) (x ∷ [])
alone-below x n below = λ k d inside. at k d inside
  where
    at : (k : ℕ) (d : ℕ) → k < 1 → get_or (x ∷ []) k d < n
    at zero d inside = below
    at (suc k) d inside = absurd (omega (arith, inside))

pub above-more : (xs : List ℕ) (i n m : ℕ) → i < length xs → All (λ h. h < n) (take i xs) → n ≤ m → get_or xs i 0 < m → All (λ h. h < m) (take (i + 1) xs)
above-more xs i n m below all more here =
    subst (λ ys. All (λ h. h < m) ys) (sym (take-at xs i (get_or xs i 0) below (sym (get_or-same xs i 0 below))))
    (All-append (λ h. h < m) (take i xs) (get_or xs i 0 ∷ [])
    (λ k d inside.
    let low = all k d inside in omega (arith, low, more))
    (alone-below (get_or xs i 0) m here))

pub above-all : (xs : List ℕ) (i n : ℕ) → length xs ≤ i → All (λ h. h < n) (take i xs) → All (λ h. h < n) xs
above-all xs i n past all = subst (λ ys. All (λ h. h < n) ys) (take_all i xs past) all
