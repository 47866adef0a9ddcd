-- Lists that have the same elements, and what stands at an end.
use Rattle.std.proofs.Common.{◌≡◌, ◌≢◌, ℕ, zero, suc, ◌+◌, ◌<◌, true, List, [], ◌∷◌, ◌++◌, length, Option, Some, None, refl, sym, ◌∙◌, ap₂, ap, arith, inl, inr}
use Rattle.std.specs.Prelude.{codes, slice_get}
use Rattle.std.proofs.lemmas.Bool.{false≢true, cases_lt}
use Rattle.std.proofs.lemmas.Option.{none-some}
use Rattle.std.proofs.lemmas.Slice.Eq.{bytes_eq-Decides}
use Rattle.loc_base.proofs.ShelfOptions.{Some-same}
use Rattle.loc_base.proofs.ShelfLists.{slice_get-some}
use Rattle.aiger_text.specs.Symbols.{first_symbol, symbol_in, is_end}

-- lists of one length with the same element at each place
pub slice_get-same : {X : Type 0} (xs ys : List X) → length xs ≡ length ys → ((k : ℕ) → k < length xs → slice_get xs k ≡ slice_get ys k) → xs ≡ ys
slice_get-same [] [] long each = refl
slice_get-same [] (y ∷ ys) long each = absurd (omega arith)
slice_get-same (x ∷ xs) [] long each = absurd (omega arith)
slice_get-same (x ∷ xs) (y ∷ ys) long each =
    ap₂ (λ z zs. z ∷ zs) (Some-same (each 0 (omega arith))) (slice_get-same xs ys (omega arith) (λ k below. each (suc k) (omega arith)))

-- no symbol stands at an end
pub first_symbol-end : (front : List (List ℕ)) → is_end front ≡ true → first_symbol front ≡ None
first_symbol-end [] end = absurd (false≢true end)
first_symbol-end (line ∷ []) end = refl
first_symbol-end (line ∷ next ∷ rest) end = ap symbol_in ((bytes_eq-Decides line (codes "c")).0 end)

-- one more element at the end: those before it stay
pub slice_get-push_before : {X : Type 0} (xs : List X) (y : X) (k : ℕ) → k < length xs → slice_get (xs ++ y ∷ []) k ≡ slice_get xs k
slice_get-push_before [] y k below = absurd (omega arith)
slice_get-push_before (x ∷ xs) y zero below = refl
slice_get-push_before (x ∷ xs) y (suc k) below = slice_get-push_before xs y k (omega arith)

-- and it stands behind them
pub slice_get-push_last : {X : Type 0} (xs : List X) (y : X) → slice_get (xs ++ y ∷ []) (length xs) ≡ Some y
slice_get-push_last [] y = refl
slice_get-push_last (x ∷ xs) y = slice_get-push_last xs y

-- a function of the place that gives the elements of a list gives those of the list with one more
pub each-push : {X : Type 0} (f : ℕ → Option X) (xs : List X) (y : X) → ((k : ℕ) → k < length xs → f k ≡ slice_get xs k) → f (length xs) ≡ Some y
    → (k : ℕ) → k < length xs + 1 → f k ≡ slice_get (xs ++ y ∷ []) k
each-push f xs y each here k below =
    elim (cases_lt k (length xs)) [
      | inl before ↦ each k before ∙ sym (slice_get-push_before xs y k before)
      | inr last ↦
          let is : k ≡ length xs = omega arith in
          ap f is ∙ here ∙ sym (slice_get-push_last xs y) ∙ ap (slice_get (xs ++ y ∷ [])) (sym is)
    ]

-- it gives one at each place
pub each-some : {X : Type 0} (f : ℕ → Option X) (xs : List X) (k : ℕ) → f k ≡ slice_get xs k → k < length xs → f k ≢ None
each-some f xs k is below none =
    let (x, some) = slice_get-some xs k below in
    none-some x (sym none ∙ is ∙ some)
