-- The values of a row put into the entries of their places, from the last place to the first.
use Rattle.std.proofs.Common.{◌≡◌, ℕ, ◌+◌, ◌<◌, ◌≤◌, ◌⊎◌, inl, inr, List, ◌∷◌, length, get_or, set, drop, map, add-one, ap, ◌∙◌, sym, refl, arith}
use Rattle.std.specs.Prelude.{Bool, true, false, ◌==◌, ◌||◌, if◌then◌else◌}
use Rattle.std.specs.Option.{option_map_or}
use Rattle.std.proofs.Math.Seq.{drop-length, drop-cons}
use Rattle.std.proofs.lemmas.Bool.{eqb-true, cases_lt, cases_order}
use Rattle.std.proofs.lemmas.List.{drop_all}
use Rattle.std.proofs.lemmas.Option.{slice_get_past}
use Rattle.loc_base.specs.declared.bits.Bits.{Bits}
use Rattle.loc_base.specs.Bits.{value_of}
use Rattle.loc_base.proofs.ShelfLists.{slice_get-set_same, slice_get-set_other}
use Rattle.loc_base.proofs.ShelfBools.{or-true}
use Rattle.design_core.specs.Explained.{is_one_of, number_for}
use Rattle.design_core.specs.Given.{freed_of}
use Rattle.cycle_sim.specs.Replaying.{chosen_at}
use Rattle.cycle_sim.proofs.Blending.{eq-swap}

-- the values of the places from k on are in the entries, and the other entries are as before
abbrev pub ChosenSoFar : List ℕ → List Bits → List Bits → List Bits → ℕ → Type 0
ChosenSoFar places row old choice k =
    (p : ℕ) → chosen_at choice p ≡ (if is_one_of (drop k places) p then number_for (drop k places) (map value_of (drop k row))
    p else chosen_at old p)

pub chosen-none : (places : List ℕ) (row choice : List Bits) (k : ℕ) → k ≡ length places → ChosenSoFar places row choice choice k
chosen-none places row choice k all p =
    sym (ap (λ xs. if is_one_of xs p then number_for xs (map value_of (drop k row)) p else chosen_at choice p)
    (ap (λ n. drop n places) all ∙ drop-length places))

pub chosen-next : (places : List ℕ) (row old choice : List Bits) (k : ℕ) (word : Bits) → k < length places → k < length row
    → word ≡ get_or row k word
    → get_or places k 0 < length choice → ChosenSoFar places row old choice (k + 1)
    → ChosenSoFar places row old (set choice (get_or places k 0) word) k
chosen-next places row old choice k word below within is inside before p = at (q == p) refl
  where
    q : ℕ
    q = get_or places k 0

    rest : List ℕ
    rest = drop (k + 1) places

    numbers : List ℕ
    numbers = map value_of (drop (k + 1) row)

    places_are : drop k places ≡ q ∷ rest
    places_are = drop-cons places k 0 below ∙ ap (λ n. q ∷ drop n places) (sym (add-one k))

    row_is : map value_of (drop k row) ≡ value_of word ∷ numbers
    row_is =
        ap (map value_of) (drop-cons row k word within ∙ ap (λ n. get_or row k word ∷ drop n row) (sym (add-one k))
        ∙ ap (λ x. x ∷ drop (k + 1) row) (sym is))

    first : (if is_one_of (drop k places) p then number_for (drop k places) (map value_of (drop k row)) p else chosen_at old p)
        ≡ (if q == p || is_one_of rest p then (if q == p then value_of word else number_for rest numbers p) else chosen_at old p)
    first =
        ap (λ xs. if is_one_of xs p then number_for xs (map value_of (drop k row)) p else chosen_at old p) places_are
        ∙ ap (λ ys. if is_one_of (q ∷ rest) p then number_for (q ∷ rest) ys p else chosen_at old p) row_is

    at : (t : Bool) → (q == p) ≡ t
        → chosen_at (set choice q word) p ≡ (if is_one_of (drop k places) p then number_for (drop k places)
        (map value_of (drop k row)) p else chosen_at old p)
    at true e =
        ap (λ n. chosen_at (set choice q word) n) (sym (eqb-true q p e))
        ∙ ap (λ o. option_map_or value_of o 0) (slice_get-set_same choice q word inside)
        ∙ sym (first ∙ ap (λ t. if t || is_one_of rest p then (if t then value_of word else number_for rest numbers p) else
        chosen_at old p) e)
    at false e =
        ap (λ o. option_map_or value_of o 0) (slice_get-set_other choice q p word (λ same. eq-swap q p e same))
        ∙ before p
        ∙ sym (first ∙ ap (λ t. if t || is_one_of rest p then (if t then value_of word else number_for rest numbers p) else
        chosen_at old p) e)

-- ---- the places that are freed
pub freed-next : (places : List ℕ) (freed : List Bool) (k q : ℕ) → k < length places → q ≡ get_or places k q → q < length freed → (p : ℕ)
    → (is_one_of (drop (k + 1) places) p || freed_of (set freed q true) p) ≡ (is_one_of (drop k places) p || freed_of freed p)
freed-next places freed k q below is inside p = at (q == p) refl
  where
    rest : Bool
    rest = is_one_of (drop (k + 1) places) p

    places_are : drop k places ≡ q ∷ drop (k + 1) places
    places_are = drop-cons places k q below ∙ ap (λ n. get_or places k q ∷ drop n places) (sym (add-one k))
        ∙ ap (λ n. n ∷ drop (k + 1) places) (sym is)

    at : (t : Bool) → (q == p) ≡ t → (rest || freed_of (set freed q true) p) ≡ (is_one_of (drop k places) p || freed_of freed p)
    at true e =
        ap (λ x. rest || x) (ap (λ n. freed_of (set freed q true) n) (sym (eqb-true q p e))
        ∙ ap (λ o. option_map_or (λ (b : Bool). b) o false) (slice_get-set_same freed q true inside))
        ∙ or-true rest
        ∙ sym (ap (λ xs. is_one_of xs p || freed_of freed p) places_are ∙ ap (λ t. (t || rest) || freed_of freed p) e)
    at false e =
        ap (λ x. rest || x) (ap (λ o. option_map_or (λ (b : Bool). b) o false)
        (slice_get-set_other freed q p true (λ same. eq-swap q p e same)))
        ∙ sym (ap (λ xs. is_one_of xs p || freed_of freed p) places_are ∙ ap (λ t. (t || rest) || freed_of freed p) e)

pub freed-end : (places : List ℕ) (freed : List Bool) (k : ℕ) (p : ℕ) (x : Bool) → length places ≤ k
    → (is_one_of (drop k places) p || freed_of freed p) ≡ x → freed_of freed p ≡ x
freed-end places freed k p x past e = sym (ap (λ xs. is_one_of xs p || freed_of freed p) (drop_all k places past)) ∙ e

-- ---- none
pub none-freed : (freed : List Bool) (k : ℕ) → k < length freed → ((p : ℕ) → p < k → freed_of freed p ≡ false) → (p : ℕ)
    → p < k + 1 → freed_of (set freed k false) p ≡ false
none-freed freed k inside before p low = at (cases_order p k)
  where
    at : (p ≡ k) ⊎ ((p < k) ⊎ (k < p)) → freed_of (set freed k false) p ≡ false
    at (inl same) = ap (λ n. freed_of (set freed k false) n) same ∙ ap (λ o. option_map_or (λ (b : Bool). b) o false)
        (slice_get-set_same freed k false inside)
    at (inr (inl less)) = ap (λ o. option_map_or (λ (b : Bool). b) o false)
        (slice_get-set_other freed k p false (λ same. omega (arith, same, less))) ∙ before p less
    at (inr (inr more)) = absurd (omega (arith, low, more))

pub none-chosen : (choice : List Bits) (k : ℕ) (word : Bits) → k < length choice → value_of word ≡ 0
    → ((p : ℕ) → p < k → chosen_at choice p ≡ 0) → (p : ℕ) → p < k + 1
    → chosen_at (set choice k word) p ≡ 0
none-chosen choice k word inside is_zero before p low = at (cases_order p k)
  where
    at : (p ≡ k) ⊎ ((p < k) ⊎ (k < p)) → chosen_at (set choice k word) p ≡ 0
    at (inl same) = ap (λ n. chosen_at (set choice k word) n) same
        ∙ ap (λ o. option_map_or value_of o 0) (slice_get-set_same choice k word inside) ∙ is_zero
    at (inr (inl less)) =
        ap (λ o. option_map_or value_of o 0) (slice_get-set_other choice k p word (λ same. omega (arith, same, less))) ∙ before p less
    at (inr (inr more)) = absurd (omega (arith, low, more))

pub all-none : (n : ℕ) (freed : List Bool) → length freed ≤ n → ((p : ℕ) → p < n → freed_of freed p ≡ false) → (p : ℕ)
    → freed_of freed p ≡ false
all-none n freed past h p = at (cases_lt p n)
  where
    at : (p < n) ⊎ (n ≤ p) → freed_of freed p ≡ false
    at (inl low) = h p low
    at (inr high) = ap (λ o. option_map_or (λ (b : Bool). b) o false) (slice_get_past freed p (omega (arith, past, high)))

pub all-zero : (n : ℕ) (choice : List Bits) → length choice ≤ n → ((p : ℕ) → p < n → chosen_at choice p ≡ 0) → (p : ℕ)
    → chosen_at choice p ≡ 0
all-zero n choice past h p = at (cases_lt p n)
  where
    at : (p < n) ⊎ (n ≤ p) → chosen_at choice p ≡ 0
    at (inl low) = h p low
    at (inr high) = ap (λ o. option_map_or value_of o 0) (slice_get_past choice p (omega (arith, past, high)))
