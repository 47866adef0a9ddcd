-- The list of an instance's children, among those of all.
use Rattle.std.proofs.Common.{◌≡◌, ℕ, zero, suc, ◌<◌, ◌≤◌, Bool, true, false, List, [], ◌∷◌, ◌++◌, length, get_or, replicate, Option, Some, None, refl, sym, ap, ◌∙◌, append_assoc, append-nil, arith, eqb-true}
use Rattle.std.specs.Prelude.{if◌then◌else◌, nat_lt, ◌==◌, slice_get, slice_set}
use Rattle.std.specs.Option.{option_map_or}
use Rattle.std.proofs.lemmas.Bool.{eq-eqb, ltb-true, ltb-false}
use Rattle.std.proofs.lemmas.List.{get_or-set_same, get_or-set_other, length-set, length-replicate}
use Rattle.std.proofs.lemmas.Option.{slice_get-get_or}
use Rattle.v_hierarchy.specs.Instances.{Instance}
use Rattle.v_binding.specs.Binding.{is_in}
use Rattle.bind_scopes.specs.Children.{Rows, numbers_from, with_child, rows_from, rows_of}

-- a list that is put in its place
set-row : (rows : Rows) (parent n : ℕ) (new : List ℕ) → parent < length rows
    → get_or (slice_set rows parent new) n [] ≡ (if parent == n then new else get_or rows n [])
set-row rows parent n new within = step (parent == n) refl
  where
    step : (same : Bool) → (parent == n) ≡ same → get_or (slice_set rows parent new) n [] ≡ (if same then new else get_or rows n [])
    step true same =
        let is : parent ≡ n = eqb-true parent n same in
        ap (λ k. get_or (slice_set rows parent new) k []) (sym is) ∙ get_or-set_same rows parent new [] within
    step false other = get_or-set_other rows parent n new [] (λ is. apart (sym (eq-eqb parent n (sym is)) ∙ other))
      where
        apart : true ≡ false → ⊥
        apart e = cc

child-row : (parent : Option ℕ) (at n : ℕ) (rows : Rows) → n < length rows
    → get_or (with_child parent at rows) n [] ≡ (if option_map_or (λ p. p == n) parent false then get_or rows n [] ++ at ∷ [] else get_or rows n [])
child-row None at n rows within = refl
child-row (Some parent) at n rows within = step (nat_lt parent (length rows)) refl
  where
    appended : (same : Bool) → (parent == n) ≡ same
        → (if same then get_or rows parent [] ++ at ∷ [] else get_or rows n []) ≡ (if same then get_or rows n [] ++ at ∷ [] else get_or rows n [])
    appended true same = ap (λ k. get_or rows k [] ++ at ∷ []) (eqb-true parent n same)
    appended false same = refl

    past : (same : Bool) → (parent == n) ≡ same → length rows ≤ parent → get_or rows n [] ≡ (if same then get_or rows n [] ++ at ∷ [] else get_or rows n [])
    past true same far = absurd (omega (arith, eqb-true parent n same))
    past false same far = refl

    step : (within : Bool) → nat_lt parent (length rows) ≡ within
        → get_or (if within then slice_set rows parent (get_or rows parent [] ++ at ∷ []) else rows) n []
        ≡ (if parent == n then get_or rows n [] ++ at ∷ [] else get_or rows n [])
    step true inside = set-row rows parent n (get_or rows parent [] ++ at ∷ []) (ltb-true parent (length rows) inside) ∙ appended (parent == n) refl
    step false far = past (parent == n) refl (ltb-false parent (length rows) far)

child-length : (parent : Option ℕ) (at : ℕ) (rows : Rows) → length (with_child parent at rows) ≡ length rows
child-length None at rows = refl
child-length (Some parent) at rows = step (nat_lt parent (length rows))
  where
    step : (within : Bool) → length (if within then slice_set rows parent (get_or rows parent [] ++ at ∷ []) else rows) ≡ length rows
    step true = length-set rows parent (get_or rows parent [] ++ at ∷ [])
    step false = refl

rows-length : (at : ℕ) (is : List Instance) (rows : Rows) → length (rows_from at is rows) ≡ length rows
rows-length at [] rows = refl
rows-length at (i ∷ is) rows = rows-length (suc at) is (with_child i.parent at rows) ∙ child-length i.parent at rows

rows-row : (at : ℕ) (is : List Instance) (rows : Rows) (n : ℕ) → n < length rows
    → get_or (rows_from at is rows) n [] ≡ get_or rows n [] ++ numbers_from n at is
rows-row at [] rows n within = sym (append-nil (get_or rows n []))
rows-row at (i ∷ rest) rows n within =
    rows-row (suc at) rest (with_child i.parent at rows) n (omega (arith, within, child-length i.parent at rows))
    ∙ ap (λ row. row ++ numbers_from n (suc at) rest) (child-row i.parent at n rows within) ∙ step (is_in n i)
  where
    step : (here : Bool) → (if here then get_or rows n [] ++ at ∷ [] else get_or rows n []) ++ numbers_from n (suc at) rest
        ≡ get_or rows n [] ++ (if here then at ∷ numbers_from n (suc at) rest else numbers_from n (suc at) rest)
    step true = append_assoc (get_or rows n []) (at ∷ []) (numbers_from n (suc at) rest)
    step false = refl

pub one_row : (count : ℕ) → replicate {A = List ℕ} count [] ++ [] ∷ [] ≡ replicate (suc count) []
one_row zero = refl
one_row (suc count) = ap (λ xs. [] ∷ xs) (one_row count)

empty-row : (count n : ℕ) → get_or (replicate {A = List ℕ} count []) n [] ≡ []
empty-row zero n = refl
empty-row (suc count) zero = refl
empty-row (suc count) (suc n) = empty-row count n

pub each_row : (is : List Instance) (n : ℕ) → n < length is → slice_get (rows_of is) n ≡ Some (numbers_from n 0 is)
each_row is n within =
    slice_get-get_or (rows_of is) n [] (omega (arith, within, rows-length 0 is (replicate (length is) []), length-replicate {A = List ℕ} (length is) []))
    ∙ ap Some (rows-row 0 is (replicate (length is) []) n (omega (arith, within, length-replicate {A = List ℕ} (length is) []))
    ∙ ap (λ row. row ++ numbers_from n 0 is) (empty-row (length is) n))
