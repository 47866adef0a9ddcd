-- Lists in order that are the same up to a number that isn't in another list, and share its gap there: none between them is within it.
use Rattle.std.proofs.Common.{◌≡◌, ◌⊎◌, inl, inr, ℕ, ◌<◌, ◌≤◌, ◌==◌, Bool, true, false, cond, ◌&&◌, List, [], ◌∷◌, length, refl, arith}
use Rattle.std.specs.Prelude.{Contains, nat_lt}
use Rattle.std.specs.List.Sorted.{IsStrictlyIncreasing}
use Rattle.std.proofs.lemmas.Bool.{and_parts, ltb-false, ltb-true}
use Rattle.loc_base.proofs.ShelfBools.{equal-true}
use Rattle.loc_base.proofs.ShelfLists.{All-member, Contains-cons, Contains-empty, Contains-first, Contains-later}
use Rattle.loc_base.specs.Sets.{is_before, is_lower}
use Rattle.suspect_map.proofs.Ascending.{ascending-head, ascending-tail}
use Rattle.list_verdict.specs.Judging.{shares_gap}
use Rattle.list_verdict.proofs.Comparing.{compared}

-- a list is another, or stands before it by the first number that differs
abbrev pub Upto : List ℕ → List ℕ → Type 0
Upto [] ys = Unit {0}
Upto (x ∷ xs) [] = ⊥
Upto (x ∷ xs) (y ∷ ys) = (x < y) ⊎ ((x ≡ y) × Upto xs ys)

pub upto-self : (xs : List ℕ) → Upto xs xs
upto-self [] = tt
upto-self (x ∷ xs) = inr (refl, upto-self xs)

lower-upto : (xs ys : List ℕ) → is_lower xs ys ≡ true → Upto xs ys
lower-upto [] ys is = tt
lower-upto (x ∷ xs) [] is = cc
lower-upto (x ∷ xs) (y ∷ ys) is = at (compared x y (is_lower xs ys) is) (lower-upto xs ys)
  where
    at : (x < y) ⊎ ((x ≡ y) × (is_lower xs ys ≡ true)) → (is_lower xs ys ≡ true → Upto xs ys) → (x < y) ⊎ ((x ≡ y) × Upto xs ys)
    at (inl less) rest = inl less
    at (inr (same, more)) rest = inr (same, rest more)

-- a list before another that has no more numbers
pub before-upto : (xs ys : List ℕ) → is_before xs ys ≡ true → length ys ≤ length xs → Upto xs ys
before-upto xs ys is few = at (compared (length xs) (length ys) (is_lower xs ys) is)
  where
    at : (length xs < length ys) ⊎ ((length xs ≡ length ys) × (is_lower xs ys ≡ true)) → Upto xs ys
    at (inl less) = absurd (omega (arith, less, few))
    at (inr (same, lower)) = lower-upto xs ys lower

-- the first of one is at most that of the other
upto-first : (x y : ℕ) (xs ys : List ℕ) → Upto (x ∷ xs) (y ∷ ys) → x ≤ y
upto-first x y xs ys (inl less) = omega (arith, less)
upto-first x y xs ys (inr (same, rest)) = omega (arith, same)

-- where the firsts are equal, the rest are in that order
upto-rest : (x y : ℕ) (xs ys : List ℕ) → Upto (x ∷ xs) (y ∷ ys) → y ≤ x → Upto xs ys
upto-rest x y xs ys (inl less) most = absurd (omega (arith, less, most))
upto-rest x y xs ys (inr (same, rest)) most = rest

abbrev Among : List ℕ → List ℕ → Type 0
Among inner outer = (v : ℕ) → Contains inner v → Contains outer v

-- each member of an ascending list is at least the first
from-first : (b : ℕ) (bs : List ℕ) → IsStrictlyIncreasing (b ∷ bs) → (v : ℕ) → Contains (b ∷ bs) v → b ≤ v
from-first b bs ascends v member = at (Contains-cons b bs v member)
  where
    at : (b ≡ v) ⊎ Contains bs v → b ≤ v
    at (inl same) = omega (arith, same)
    at (inr later) = let above : b < v = All-member (λ y. b < y) bs v (ascending-head b bs ascends) later in omega (arith, above)

-- a first number that no member is, isn't needed
not-first : (z v : ℕ) (zs : List ℕ) → z < v → Contains (z ∷ zs) v → Contains zs v
not-first z v zs less member = at (Contains-cons z zs v member)
  where
    at : (z ≡ v) ⊎ Contains zs v → Contains zs v
    at (inl same) = absurd (omega (arith, same, less))
    at (inr later) = later

among-later : (z b : ℕ) (zs bs : List ℕ) → IsStrictlyIncreasing (b ∷ bs) → z < b → Among (b ∷ bs) (z ∷ zs) → Among (b ∷ bs) zs
among-later z b zs bs ascends less among v member =
    not-first z v zs (omega (arith, less, from-first b bs ascends v member)) (among v member)

among-rest : (z b : ℕ) (zs bs : List ℕ) → IsStrictlyIncreasing (b ∷ bs) → z ≤ b → Among (b ∷ bs) (z ∷ zs) → Among bs zs
among-rest z b zs bs ascends least among v member =
    let above : b < v = All-member (λ y. b < y) bs v (ascending-head b bs ascends) member in
    not-first z v zs (omega (arith, least, above)) (among v (Contains-later b bs v member))

-- a list between two that share a gap has a number in it
pub gap-outside : (zs xs bs ys : List ℕ) → IsStrictlyIncreasing zs → IsStrictlyIncreasing bs → Upto xs bs → Upto bs ys
    → shares_gap zs xs ys ≡ true → Among bs zs → ⊥
gap-outside zs [] bs ys outer ascends low high shares among = cc
gap-outside zs (x ∷ xs) [] ys outer ascends low high shares among = low
gap-outside [] (x ∷ xs) (b ∷ bs) ys outer ascends low high shares among = Contains-empty b (among b (Contains-first b bs))
gap-outside (z ∷ zs) (x ∷ xs) (b ∷ bs) [] outer ascends low high shares among = high
gap-outside (z ∷ zs) (x ∷ xs) (b ∷ bs) (y ∷ ys) outer ascends low high shares among =
    at (nat_lt z x) (nat_lt x z) (ltb-true z x) (ltb-true x z) (ltb-false z x) (ltb-false x z) shares
    (gap-outside zs (x ∷ xs) (b ∷ bs) (y ∷ ys) (ascending-tail z zs outer) ascends low high)
    (gap-outside zs xs bs ys (ascending-tail z zs outer) (ascending-tail b bs ascends))
  where
    least : x ≤ b
    least = upto-first x b xs bs low

    most : b ≤ y
    most = upto-first b y bs ys high

    at : (below above : Bool) → (below ≡ true → z < x) → (above ≡ true → x < z) → (below ≡ false → x ≤ z) → (above ≡ false → z ≤ x)
        → cond below (shares_gap zs (x ∷ xs) (y ∷ ys)) (cond above (nat_lt y z) ((x == y) && shares_gap zs xs ys)) ≡ true
        → (shares_gap zs (x ∷ xs) (y ∷ ys) ≡ true → Among (b ∷ bs) zs → ⊥)
        → (Upto xs bs → Upto bs ys → shares_gap zs xs ys ≡ true → Among bs zs → ⊥) → ⊥
    at true above less more most_x least_x is skip rest = skip is (among-later z b zs bs ascends (omega (arith, less refl, least)) among)
    at false true less more most_x least_x is skip rest = out (Contains-cons z zs b (among b (Contains-first b bs)))
      where
        under : y < z
        under = ltb-true y z is

        out : (z ≡ b) ⊎ Contains zs b → ⊥
        out (inl same) = omega (arith, same, under, most)
        out (inr later) =
            let over : z < b = All-member (λ v. z < v) zs b (ascending-head z zs outer) later in omega (arith, over, under, most)
    at false false less more most_x least_x is skip rest =
        let (same, shares_on) = and_parts (x == y) (shares_gap zs xs ys) is in
        let equal : x ≡ y = equal-true x y same in
        rest (upto-rest x b xs bs low (omega (arith, equal, most))) (upto-rest b y bs ys high (omega (arith, equal, least))) shares_on
        (among-rest z b zs bs ascends (omega (arith, least_x refl, least)) among)
