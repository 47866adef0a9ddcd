-- Every number for a place tried in turn.
use Rattle.std.proofs.Common.{◌≡◌, ◌≢◌, ℕ, zero, suc, ◌+◌, ◌-◌, ◌<◌, ◌≤◌, ◌^◌, ◌⊎◌, inl, inr, List, [], ◌∷◌, length, take, get_or, refl, ap, sym, ◌∙◌, subst, arith}
use Rattle.std.specs.Prelude.{slice_set, slice_index, slice_get, Some}
use Rattle.design_core.specs.declared.design.Design.{Design}
use Rattle.design_core.specs.declared.place.Place.{Place}
use Rattle.plain_list.specs.Trial.{AreNumbersFor}
use Rattle.design_core.specs.Explained.{place_width}
use Rattle.std.specs.Option.{option_map_or}
use Rattle.std.proofs.Math.Nat.{eq-or-lt_of_le}
use Rattle.std.proofs.Common.{true, nat_le, pow_pos}
use Rattle.loc_base.proofs.ShelfLists.{slice_get-at}
use Rattle.design_core.specs.WellFormed.{IsWellFormed, is_width}
use Rattle.plain_list.proofs.Assigning.{AreNumbersFor-length, both_true, list_all-at, le_test}

pub AreNumbersFor-set : (d : Design) (places numbers : List ℕ) (i number : ℕ) → AreNumbersFor d places numbers → number < 2 ^ place_width d (get_or places i 0) → AreNumbersFor d places (slice_set numbers i number)
AreNumbersFor-set d [] [] i number a h = tt
AreNumbersFor-set d [] (n ∷ numbers) i number a h = absurd a
AreNumbersFor-set d (p ∷ places) [] i number a h = absurd a
AreNumbersFor-set d (p ∷ places) (n ∷ numbers) zero number a h = (h, a.1)
AreNumbersFor-set d (p ∷ places) (n ∷ numbers) (suc i) number a h = (a.0, AreNumbersFor-set d places numbers i number a.1 h)

-- a number for a place is of the place's width
pub number-range : (d : Design) (places numbers : List ℕ) (i : ℕ) → AreNumbersFor d places numbers → i < length places → get_or numbers i 0 < 2 ^ place_width d (get_or places i 0)
number-range d [] [] i a h = absurd (omega (arith, h))
number-range d [] (n ∷ numbers) i a h = absurd a
number-range d (p ∷ places) [] i a h = absurd a
number-range d (p ∷ places) (n ∷ numbers) zero a h = a.0
number-range d (p ∷ places) (n ∷ numbers) (suc i) a h = number-range d places numbers i a.1 (omega (arith, h))

pub take-set : (xs : List ℕ) (i x : ℕ) → take i (slice_set xs i x) ≡ take i xs
take-set [] i x = refl
take-set (y ∷ xs) zero x = refl
take-set (y ∷ xs) (suc i) x = ap (λ ys. y ∷ ys) (take-set xs i x)

take-suc : (y : ℕ) (xs : List ℕ) (i : ℕ) → take (suc i + 1) (y ∷ xs) ≡ y ∷ take (i + 1) xs
take-suc y xs i = let next : suc i + 1 ≡ suc (i + 1) = omega arith in ap (λ n. take n (y ∷ xs)) next

-- the numbers tried and the numbers now are the same up to one more place
pub take-next : (tried numbers : List ℕ) (i x : ℕ) → i < length numbers → i < length tried → take i tried ≡ take i numbers → get_or tried i 0 ≡ x → take (i + 1) tried ≡ take (i + 1) (slice_set numbers i x)
take-next [] numbers i x h k e g = absurd (omega (arith, k))
take-next (y ∷ tried) [] i x h k e g = absurd (omega (arith, h))
take-next (y ∷ tried) (z ∷ numbers) zero x h k e g = ap (λ n. n ∷ []) g
take-next (y ∷ tried) (z ∷ numbers) (suc i) x h k e g =
    take-suc y tried i ∙ ap (λ ys. y ∷ ys) (take-next tried numbers i x (omega (arith, h)) (omega (arith, k)) (tails e) g) ∙ ap (λ n. n ∷ take (i + 1) (slice_set numbers i x)) (heads e)
    ∙ sym (take-suc z (slice_set numbers i x) i)
  where
    heads : y ∷ take i tried ≡ z ∷ take i numbers → y ≡ z
    heads e = cc

    tails : y ∷ take i tried ≡ z ∷ take i numbers → take i tried ≡ take i numbers
    tails e = cc

take-nil : (n : ℕ) → take {A = ℕ} n [] ≡ []
take-nil zero = refl
take-nil (suc n) = refl

pub take-fewer : (xs ys : List ℕ) (i : ℕ) → take (i + 1) xs ≡ take (i + 1) ys → take i xs ≡ take i ys
take-fewer [] [] i e = refl
take-fewer [] (y ∷ ys) zero e = refl
take-fewer [] (y ∷ ys) (suc i) e = absurd (bad (sym (take-nil (suc i + 1)) ∙ e ∙ take-suc y ys i))
  where
    bad : [] ≡ y ∷ take (i + 1) ys → ⊥
    bad e = cc
take-fewer (x ∷ xs) [] zero e = refl
take-fewer (x ∷ xs) [] (suc i) e = absurd (bad (sym (take-suc x xs i) ∙ e ∙ take-nil (suc i + 1)))
  where
    bad : x ∷ take (i + 1) xs ≡ [] → ⊥
    bad e = cc
take-fewer (x ∷ xs) (y ∷ ys) zero e = refl
take-fewer (x ∷ xs) (y ∷ ys) (suc i) e = parts (λ t. take-fewer xs ys i t) (sym (take-suc x xs i) ∙ e ∙ take-suc y ys i)
  where
    tails : x ∷ take (i + 1) xs ≡ y ∷ take (i + 1) ys → take (i + 1) xs ≡ take (i + 1) ys
    tails e = cc

    heads : x ∷ take (i + 1) xs ≡ y ∷ take (i + 1) ys → x ≡ y
    heads e = cc

    parts : (take (i + 1) xs ≡ take (i + 1) ys → take i xs ≡ take i ys) → x ∷ take (i + 1) xs ≡ y ∷ take (i + 1) ys → x ∷ take i xs ≡ y ∷ take i ys
    parts fewer e = ap (λ n. n ∷ take i xs) (heads e) ∙ ap (λ zs. y ∷ zs) (fewer (tails e))

pub take-all : (xs : List ℕ) (n : ℕ) → length xs ≡ n → take n xs ≡ xs
take-all [] zero h = refl
take-all [] (suc n) h = refl
take-all (x ∷ xs) zero h = absurd (omega (arith, h))
take-all (x ∷ xs) (suc n) h = ap (λ ys. x ∷ ys) (take-all xs n (omega (arith, h)))

-- the numbers for all places are the numbers
pub tried-all : (d : Design) (places tried numbers : List ℕ) (n : ℕ) → n ≡ length places → AreNumbersFor d places tried → AreNumbersFor d places numbers → take n tried ≡ take n numbers → tried ≡ numbers
tried-all d places tried numbers n h a b e =
    sym (take-all tried n (sym (AreNumbersFor-length d places tried a) ∙ sym h)) ∙ e ∙ take-all numbers n (sym (AreNumbersFor-length d places numbers b) ∙ sym h)

-- a place of a well-formed design has 1 to 128 bits
pub place-width : (d : Design) (p : ℕ) (place : Place) → IsWellFormed d → p < length d.places.items → place ≡ get_or d.places.items p place
    → (1 ≤ place.width) × (place.width ≤ 128) × (place.width ≡ place_width d p)
place-width d p place w h e =
    (le_test 1 place.width bounds.0, le_test place.width 128 bounds.1, sym (ap (λ o. option_map_or (λ x. x.width) o 0) at))
  where
    at : slice_get d.places.items p ≡ Some place
    at = slice_get-at d.places.items p place h e

    bounds : (nat_le 1 place.width ≡ true) × (nat_le place.width 128 ≡ true)
    bounds = both_true (nat_le 1 place.width) (nat_le place.width 128) (list_all-at (λ place. is_width place.width) d.places.items p place w.places at)

pub one_less : (w : ℕ) → (2 ^ w - 1) + 1 ≡ 2 ^ w
one_less w = omega (arith, pow_pos w)

pub AreNumbersFor-chosen : (d : Design) (places numbers : List ℕ) (i number : ℕ) → AreNumbersFor d places numbers → number < 2 ^ place_width d (slice_index places i) → AreNumbersFor d places (slice_set numbers i number)
AreNumbersFor-chosen d places numbers i number a h = AreNumbersFor-set d places numbers i number a h

pub within-places : (d : Design) (places numbers : List ℕ) (i : ℕ) → AreNumbersFor d places numbers → i ≤ length numbers → i ≢ length numbers → i < length places
within-places d places numbers i a h ne = omega (arith, AreNumbersFor-length d places numbers a, h, ne)

pub ruleset choose_rules = (AreNumbersFor-chosen)

pub ruleset try_rules = (AreNumbersFor-length, within-places, take-set, take-fewer, take-next, tried-all)

-- no numbers that begin as these do are right, up to one more number for the next place
pub none-next : (d : Design) (places initial numbers chosen : List ℕ) (next number : ℕ) (R : List ℕ → Type 0) → AreNumbersFor d places numbers → next < length numbers
    → take next numbers ≡ take next initial → chosen ≡ slice_set numbers next number
    → ((tried : List ℕ) → AreNumbersFor d places tried → take next tried ≡ take next initial → get_or tried next 0 < number → ¬ R tried)
    → ((tried : List ℕ) → AreNumbersFor d places tried → take (next + 1) tried ≡ take (next + 1) chosen → ¬ R tried)
    → (tried : List ℕ) → AreNumbersFor d places tried → take next tried ≡ take next initial → get_or tried next 0 < number + 1 → ¬ R tried
none-next d places initial numbers chosen next number R a l begin set before here tried t same h = by_number (eq-or-lt_of_le le)
  where
    le : get_or tried next 0 ≤ number
    le = omega (arith, h)

    within : next < length tried
    within = subst (λ n. next < n) (sym (AreNumbersFor-length d places numbers a) ∙ AreNumbersFor-length d places tried t) l

    by_number : (get_or tried next 0 ≡ number) ⊎ (get_or tried next 0 < number) → ¬ R tried
    by_number (inl e) = here tried t (take-next tried numbers next number l within (same ∙ sym begin) e ∙ ap (take (next + 1)) (sym set))
    by_number (inr less) = before tried t same less

-- and where that number is the largest, none at all
pub below-largest : (d : Design) (places tried : List ℕ) (next number largest : ℕ) → AreNumbersFor d places tried → next < length places → largest + 1 ≡ 2 ^ place_width d (get_or places next 0) → number ≡ largest
    → get_or tried next 0 < number + 1
below-largest d places tried next number largest t l e n =
    subst (λ m. get_or tried next 0 < m) (sym e ∙ ap (λ m. m + 1) (sym n)) (number-range d places tried next t l)
