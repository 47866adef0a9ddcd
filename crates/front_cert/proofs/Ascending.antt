-- Ascending lists: one within another, and the order of those of one length.
use Rattle.std.proofs.Common.{◌≡◌, ◌⊎◌, inl, inr, ℕ, suc, ◌<◌, ◌≤◌, ◌==◌, true, ◌&&◌, ◌||◌, List, [], ◌∷◌, length, get_or}
use Rattle.std.proofs.Common.{refl, ap, ap₂, sym, ◌∙◌, subst, arith}
use Rattle.std.specs.Prelude.{All, Contains, nat_lt}
use Rattle.std.specs.List.Sorted.{IsStrictlyIncreasing}
use Rattle.std.proofs.lemmas.Bool.{and_from, and_parts, eq-eqb, lt-ltb, ltb-true, or_cases, or_left, or_right, false≢true}
use Rattle.std.proofs.lemmas.List.Elements.{All-contains_itself, All-head, All-tail}
use Rattle.loc_base.proofs.ShelfBools.{equal-true, suc-add_one}
use Rattle.loc_base.proofs.ShelfLists.{Contains-cons, Contains-empty, Contains-first, Contains-later}
use Rattle.loc_base.specs.Sets.{is_before, is_lower}
use Rattle.design_core.specs.Works.{IsWithin}

-- the numbers ascend from above one on
abbrev pub Rises : ℕ → List ℕ → Type 0
Rises low [] = Unit {0}
Rises low (x ∷ xs) = (low < x) × Rises x xs

rest-ascends : (x : ℕ) (xs : List ℕ) → IsStrictlyIncreasing (x ∷ xs) → IsStrictlyIncreasing xs
rest-ascends x xs ascends place within =
    subst (λ (next : ℕ). get_or (x ∷ xs) (suc place) 0 < get_or (x ∷ xs) next 0) (sym (suc-add_one place)) (ascends (suc place) (omega (arith, within)))

pub rises-from : (low : ℕ) (xs : List ℕ) → IsStrictlyIncreasing xs → ((x : ℕ) (rest : List ℕ) → xs ≡ x ∷ rest → low < x) → Rises low xs
rises-from low [] ascends above = tt
rises-from low (x ∷ xs) ascends above = (above x xs refl, rises-from x xs (rest-ascends x xs ascends) next)
  where
    next : (y : ℕ) (rest : List ℕ) → xs ≡ y ∷ rest → x < y
    next y rest is =
        let first : IsStrictlyIncreasing (x ∷ (y ∷ rest)) = subst (λ (ys : List ℕ). IsStrictlyIncreasing (x ∷ ys)) is ascends in
        first 0 (omega arith)

-- a set of numbers from 1 on
pub rises-set : (n : ℕ) (xs : List ℕ) → IsStrictlyIncreasing xs → All (λ x. (1 ≤ x) × (x ≤ n)) xs → Rises 0 xs
rises-set n xs ascends range = rises-from 0 xs ascends above
  where
    above : (x : ℕ) (rest : List ℕ) → xs ≡ x ∷ rest → 0 < x
    above x rest is = let first = All-head (λ (y : ℕ). (1 ≤ y) × (y ≤ n)) x rest (subst (All (λ (y : ℕ). (1 ≤ y) × (y ≤ n))) is range) in omega (arith, first.0)

pub rises-above : (low : ℕ) (xs : List ℕ) → Rises low xs → (x : ℕ) → Contains xs x → low < x
rises-above low [] rise x member = absurd (Contains-empty x member)
rises-above low (y ∷ ys) rise x member =
    at (Contains-cons y ys x member) (λ later. rises-above y ys rise.1 x later)
  where
    at : (y ≡ x) ⊎ Contains ys x → (Contains ys x → y < x) → low < x
    at (inl same) rest = omega (arith, rise.0, same)
    at (inr later) rest = let more = rest later in omega (arith, rise.0, more)

-- ---- one within another
-- what is within a list and above its first number is within the rest
within-rest : (y : ℕ) (ys xs : List ℕ) → ((x : ℕ) → Contains xs x → y < x) → IsWithin xs (y ∷ ys) → IsWithin xs ys
within-rest y ys xs above within place default inside =
    (elim (Contains-cons y ys (get_or xs place default) (within place default inside)) [ inl same ↦ absurd (let more = above (get_or xs place default) (All-contains_itself xs place default inside) in omega (arith, more, same)) | inr later ↦ later ])

-- it has fewer numbers, or is the same
abbrev FewerOrSame : List ℕ → List ℕ → Type 0
FewerOrSame xs ys = (length xs < length ys) ⊎ (xs ≡ ys)

pub fewer-or-same : (ys : List ℕ) (high : ℕ) → Rises high ys → (xs : List ℕ) (low : ℕ) → Rises low xs → IsWithin xs ys → FewerOrSame xs ys
fewer-or-same [] high other [] low one within = inr refl
fewer-or-same [] high other (x ∷ xs) low one within = absurd (Contains-empty x (All-head (Contains []) x xs within))
fewer-or-same (y ∷ ys) high other [] low one within = inl (omega arith)
fewer-or-same (y ∷ ys) high other (x ∷ xs) low one within =
    at (Contains-cons y ys x (All-head (Contains (y ∷ ys)) x xs within))
    (λ same. fewer-or-same ys y other.1 xs x one.1 (within-rest y ys xs (behind same) (All-tail (Contains (y ∷ ys)) x xs within)))
    (λ member. fewer-or-same ys y other.1 (x ∷ xs) low one (within-rest y ys (x ∷ xs) (λ z inside. past member z (Contains-cons x xs z inside)) within))
  where
    behind : y ≡ x → (z : ℕ) → Contains xs z → y < z
    behind same z member = let above = rises-above x xs one.1 z member in omega (arith, above, same)

    past : Contains ys x → (z : ℕ) → (x ≡ z) ⊎ Contains xs z → y < z
    past member z (inl same) = let above = rises-above y ys other.1 x member in omega (arith, above, same)
    past member z (inr later) = let above = rises-above y ys other.1 x member in let further = rises-above x xs one.1 z later in omega (arith, above, further)

    shorter : FewerOrSame (x ∷ xs) ys → length (x ∷ xs) < length (y ∷ ys)
    shorter (inl fewer) = omega (arith, fewer)
    shorter (inr equal) = omega (arith, ap length equal)

    longer : y ≡ x → FewerOrSame xs ys → FewerOrSame (x ∷ xs) (y ∷ ys)
    longer same (inl fewer) = inl (omega (arith, fewer))
    longer same (inr equal) = inr (ap₂ (λ (z : ℕ) (zs : List ℕ). z ∷ zs) (sym same) equal)

    at : (y ≡ x) ⊎ Contains ys x → (y ≡ x → FewerOrSame xs ys) → (Contains ys x → FewerOrSame (x ∷ xs) ys) → FewerOrSame (x ∷ xs) (y ∷ ys)
    at (inl same) rest later = longer same (rest same)
    at (inr member) rest later = inl (shorter (later member))

-- ---- the order
-- where one list stands before another of its length: it has a number less than one of the other, which lacks it, and all of the other below it
pub record Differs (xs ys : List ℕ) : Type 0 where
  pub number : ℕ
  pub member : Contains xs number
  pub lacks : Contains ys number → ⊥
  pub greater : (m : ℕ) × Contains ys m × (number < m)
  pub below : (m : ℕ) → Contains ys m → m < number → Contains xs m

pub differs : (low high : ℕ) (xs ys : List ℕ) → Rises low xs → Rises high ys → is_lower xs ys ≡ true → Differs xs ys
differs low high [] ys one other lower = absurd (false≢true lower)
differs low high (x ∷ xs) [] one other lower = absurd (false≢true lower)
differs low high (x ∷ xs) (y ∷ ys) one other lower =
    (elim (or_cases (nat_lt x y) ((x == y) && is_lower xs ys) lower) [ inl first ↦ here (ltb-true x y first) | inr both ↦ there (equal-true x y (and_parts (x == y) (is_lower xs ys) both).0) (differs x y xs ys one.1 other.1 (and_parts (x == y) (is_lower xs ys) both).1) ])
  where
    none-below : x < y → (m : ℕ) → (y ≡ m) ⊎ Contains ys m → m < x → ⊥
    none-below first m (inl same) small = omega (arith, first, same, small)
    none-below first m (inr later) small = let above = rises-above y ys other.1 m later in omega (arith, first, above, small)

    here : x < y → Differs (x ∷ xs) (y ∷ ys)
    here first = record {
      number = x;
      member = Contains-first x xs;
      lacks = λ inside. (elim (Contains-cons y ys x inside) [ inl same ↦ omega (arith, first, same) | inr later ↦ let above = rises-above y ys other.1 x later in omega (arith, first, above) ]);
      greater = (y, Contains-first y ys, first);
      below = λ m inside small. absurd (none-below first m (Contains-cons y ys m inside) small);
    }

    there : x ≡ y → Differs xs ys → Differs (x ∷ xs) (y ∷ ys)
    there same d = record {
      number = d.number;
      member = Contains-later x xs d.number d.member;
      lacks = λ inside.
          (elim (Contains-cons y ys d.number inside) [ inl equal ↦ let above = rises-above x xs one.1 d.number d.member in omega (arith, above, same, equal) | inr two ↦ d.lacks two ]);
      greater = let (m, inside, less) = d.greater in (m, Contains-later y ys m inside, less);
      below = λ m inside small.
          (elim (Contains-cons y ys m inside) [ inl equal ↦ subst (Contains (x ∷ xs)) (same ∙ equal) (Contains-first x xs) | inr later ↦ Contains-later x xs m (d.below m later small) ]);
    }

-- a set stands before another where it is smaller, or as large and lower
pub before-cases : (one other : List ℕ) → is_before one other ≡ true → (length one < length other) ⊎ ((length one ≡ length other) × (is_lower one other ≡ true))
before-cases one other before =
    (elim (or_cases (nat_lt (length one) (length other)) ((length one == length other) && is_lower one other) before) [
      | inl fewer ↦ inl (ltb-true (length one) (length other) fewer)
      | inr both ↦ let parts = and_parts (length one == length other) (is_lower one other) both in
          inr (equal-true (length one) (length other) parts.0, parts.1)
    ])

pub before-fewer : (one other : List ℕ) → length one < length other → is_before one other ≡ true
before-fewer one other fewer = or_left (nat_lt (length one) (length other)) ((length one == length other) && is_lower one other) (lt-ltb (length one) (length other) fewer)

before-lower : (one other : List ℕ) → length one ≡ length other → is_lower one other ≡ true → is_before one other ≡ true
before-lower one other same lower =
    or_right (nat_lt (length one) (length other)) ((length one == length other) && is_lower one other)
    (and_from (length one == length other) (is_lower one other) (eq-eqb (length one) (length other) same) lower)

lower-trans : (xs ys zs : List ℕ) → is_lower xs ys ≡ true → is_lower ys zs ≡ true → is_lower xs zs ≡ true
lower-trans [] ys zs first second = absurd (false≢true first)
lower-trans (x ∷ xs) [] zs first second = absurd (false≢true first)
lower-trans (x ∷ xs) (y ∷ ys) [] first second = absurd (false≢true second)
lower-trans (x ∷ xs) (y ∷ ys) (z ∷ zs) first second =
    at (or_cases (nat_lt x y) ((x == y) && is_lower xs ys) first) (or_cases (nat_lt y z) ((y == z) && is_lower ys zs) second) (λ one other. lower-trans xs ys zs one other)
  where
    less : x < z → (nat_lt x z || ((x == z) && is_lower xs zs)) ≡ true
    less small = or_left (nat_lt x z) ((x == z) && is_lower xs zs) (lt-ltb x z small)

    at : (nat_lt x y ≡ true) ⊎ (((x == y) && is_lower xs ys) ≡ true) → (nat_lt y z ≡ true) ⊎ (((y == z) && is_lower ys zs) ≡ true)
        → (is_lower xs ys ≡ true → is_lower ys zs ≡ true → is_lower xs zs ≡ true) → (nat_lt x z || ((x == z) && is_lower xs zs)) ≡ true
    at (inl one) (inl other) rest = less (omega (arith, ltb-true x y one, ltb-true y z other))
    at (inl one) (inr other) rest = less (omega (arith, ltb-true x y one, equal-true y z (and_parts (y == z) (is_lower ys zs) other).0))
    at (inr one) (inl other) rest = less (omega (arith, equal-true x y (and_parts (x == y) (is_lower xs ys) one).0, ltb-true y z other))
    at (inr one) (inr other) rest =
        let left = and_parts (x == y) (is_lower xs ys) one in
        let right = and_parts (y == z) (is_lower ys zs) other in
        or_right (nat_lt x z) ((x == z) && is_lower xs zs)
        (and_from (x == z) (is_lower xs zs) (eq-eqb x z (equal-true x y left.0 ∙ equal-true y z right.0)) (rest left.1 right.1))

pub before-trans : (one middle other : List ℕ) → is_before one middle ≡ true → is_before middle other ≡ true → is_before one other ≡ true
before-trans one middle other first second = at (before-cases one middle first) (before-cases middle other second)
  where
    at : (length one < length middle) ⊎ ((length one ≡ length middle) × (is_lower one middle ≡ true)) → (length middle < length other) ⊎ ((length middle ≡ length other) × (is_lower middle other ≡ true))
        → is_before one other ≡ true
    at (inl fewer) (inl less) = before-fewer one other (omega (arith, fewer, less))
    at (inl fewer) (inr (same, lower)) = before-fewer one other (omega (arith, fewer, same))
    at (inr (same, lower)) (inl less) = before-fewer one other (omega (arith, same, less))
    at (inr (same, lower)) (inr (equal, least)) = before-lower one other (same ∙ equal) (lower-trans one middle other lower least)
