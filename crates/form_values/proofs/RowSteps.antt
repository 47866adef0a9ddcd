-- Steps of the loop over the cycles, and what is known of the places of a set.
use Rattle.std.proofs.Common.{◌≡◌, ◌⊎◌, inl, inr, ℕ, zero, suc, ◌+◌, ◌<◌, ◌≤◌, Bool, List, [], ◌∷◌, ◌++◌, length, map, get_or, refl, sym, ◌∙◌, ap, ap₂, arith, add-one, length-append}
use Rattle.std.specs.Prelude.{All}
use Rattle.std.proofs.lemmas.Bool.{cases_lt}
use Rattle.std.proofs.lemmas.List.Elements.{All-nil, All-cons, All-head, All-tail}
use Rattle.design_core.specs.Valuation.{number}
use Rattle.design_core.proofs.NumberLaws.{number-same}
use Rattle.unroller.specs.declared.free_bit.FreeBit.{FreeBit}
use Rattle.unroller.specs.Unrolls.{Unrolling}
use Rattle.unroller.specs.Reads.{free_at}
use Rattle.unroller.proofs.ReadSteps.{column-within}
use Rattle.form_laws.specs.Models.{column_of, value_in}
use Rattle.form_laws.proofs.Columns.{column-there}
use Rattle.form_values.specs.ModelValues.{IsPlace, model_bit, model_number, model_numbers, width_in, widths_of}
use Rattle.form_values.specs.Places.{AreColumns, column_bit, columns_number, columns_of, columns_to}

-- ---- the columns of a place

columns-length : (bits : List FreeBit) (place n : ℕ) → length (columns_to bits place n) ≡ n
columns-length bits place zero = refl
columns-length bits place (suc n) =
    omega (arith, length-append (columns_to bits place n) (column_of bits place n ∷ []), columns-length bits place n)

get_or-before : (xs : List ℕ) (x b : ℕ) → b < length xs → get_or (xs ++ x ∷ []) b 0 ≡ get_or xs b 0
get_or-before [] x b less = absurd (omega (arith, less))
get_or-before (y ∷ xs) x zero less = refl
get_or-before (y ∷ xs) x (suc b) less = get_or-before xs x b (omega (arith, less))

get_or-last : (xs : List ℕ) (x : ℕ) → get_or (xs ++ x ∷ []) (length xs) 0 ≡ x
get_or-last [] x = refl
get_or-last (y ∷ xs) x = get_or-last xs x

columns-at : (bits : List FreeBit) (place n b : ℕ) → b < n → get_or (columns_to bits place n) b 0 ≡ column_of bits place b
columns-at bits place zero b less = absurd (omega (arith, less))
columns-at bits place (suc n) b less = at (cases_lt b n) (λ low. columns-at bits place n b low)
  where
    at : (b < n) ⊎ (n ≤ b) → (b < n → get_or (columns_to bits place n) b 0 ≡ column_of bits place b)
        → get_or (columns_to bits place n ++ column_of bits place n ∷ []) b 0 ≡ column_of bits place b
    at (inl low) rest =
        get_or-before (columns_to bits place n) (column_of bits place n) b (omega (arith, low, columns-length bits place n)) ∙ rest low
    at (inr past) rest =
        let here : b ≡ n = omega (arith, past, less) in
        let last : b ≡ length (columns_to bits place n) = omega (arith, here, columns-length bits place n) in
        ap (λ k. get_or (columns_to bits place n ++ column_of bits place n ∷ []) k 0) last
        ∙ get_or-last (columns_to bits place n) (column_of bits place n) ∙ ap (column_of bits place) (sym here)

number-is : (a : ℕ → Bool) (u : Unrolling) (moment place : ℕ)
    → columns_number a u moment (columns_of u.bits place) ≡ model_number a u moment place
number-is a u moment place =
    let w = width_in u.bits place in
    ap (λ n. number n (column_bit a u moment (columns_of u.bits place))) (columns-length u.bits place w)
    ∙ number-same w (column_bit a u moment (columns_of u.bits place)) (model_bit a u moment place)
    (λ b less. ap (λ c. value_in a (free_at u moment c)) (columns-at u.bits place w b less))

are-columns : (u : Unrolling) (place : ℕ) → IsPlace u place → AreColumns u (columns_of u.bits place)
are-columns u place is =
    let w = width_in u.bits place in
    let long : length (columns_of u.bits place) ≡ w = columns-length u.bits place w in
    record {
      some = omega (arith, long, is.some);
      few = omega (arith, long, is.few);
      within = λ b less.
          let low : b < w = omega (arith, long, less) in
          let there = is.bits b low in
          let first = column-there u.bits there.column place b there.is in
          omega (arith, columns-at u.bits place w b low, column-within u (column_of u.bits place b) place b first);
    }

-- ---- one cycle more

pub numbers-more : (a : ℕ → Bool) (u : Unrolling) (places : List ℕ) (moment : ℕ) (rows : List ℕ) → rows ≡ model_numbers a u places moment
    → rows ++ map (columns_number a u moment) (map (columns_of u.bits) places) ≡ model_numbers a u places (moment + 1)
numbers-more a u places moment rows is =
    ap₂ (λ xs ys. xs ++ ys) is (images places) ∙ ap (model_numbers a u places) (sym (add-one moment))
  where
    images : (places : List ℕ) → map (columns_number a u moment) (map (columns_of u.bits) places) ≡ map (model_number a u moment) places
    images [] = refl
    images (p ∷ places) = ap₂ (λ n ns. n ∷ ns) (number-is a u moment p) (images places)

pub widths-more : (u : Unrolling) (places : List ℕ) (moment : ℕ) (rows : List ℕ) → rows ≡ widths_of u places moment
    → rows ++ map length (map (columns_of u.bits) places) ≡ widths_of u places (moment + 1)
widths-more u places moment rows is =
    ap₂ (λ xs ys. xs ++ ys) is (images places) ∙ ap (widths_of u places) (sym (add-one moment))
  where
    images : (places : List ℕ) → map length (map (columns_of u.bits) places) ≡ map (width_in u.bits) places
    images [] = refl
    images (p ∷ places) = ap₂ (λ n ns. n ∷ ns) (columns-length u.bits p (width_in u.bits p)) (images places)

-- the columns of places
pub places-columns : (u : Unrolling) (places : List ℕ) → All (IsPlace u) places → All (AreColumns u) (map (columns_of u.bits) places)
places-columns u [] all = All-nil (AreColumns u)
places-columns u (p ∷ places) all =
    All-cons (AreColumns u) (columns_of u.bits p) (map (columns_of u.bits) places)
    (are-columns u p (All-head (IsPlace u) p places all))
    (places-columns u places (All-tail (IsPlace u) p places all))

pub ruleset cycles = (numbers-more, widths-more, places-columns)
