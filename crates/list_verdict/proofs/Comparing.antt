-- The order of sets is transitive, and no set comes before itself.
use Rattle.std.proofs.Common.{◌≡◌, ◌⊎◌, inl, inr, ℕ, ◌<◌, ◌≤◌, ◌==◌, Bool, true, ◌&&◌, ◌||◌, List, [], ◌∷◌, length, ◌∙◌, arith}
use Rattle.std.specs.Prelude.{nat_lt}
use Rattle.std.proofs.lemmas.Bool.{and_from, and_parts, eq-eqb, lt-ltb, ltb-true, or_cases, or_left, or_right}
use Rattle.loc_base.proofs.ShelfBools.{equal-true}
use Rattle.loc_base.specs.Sets.{is_before, is_lower}

below : (x y : ℕ) (rest : Bool) → x < y → (nat_lt x y || ((x == y) && rest)) ≡ true
below x y rest less = or_left (nat_lt x y) ((x == y) && rest) (lt-ltb x y less)

level : (x y : ℕ) (rest : Bool) → x ≡ y → rest ≡ true → (nat_lt x y || ((x == y) && rest)) ≡ true
level x y rest same is = or_right (nat_lt x y) ((x == y) && rest) (and_from (x == y) rest (eq-eqb x y same) is)

-- a number is below another, or the same and a fact of what follows
pub compared : (x y : ℕ) (rest : Bool) → (nat_lt x y || ((x == y) && rest)) ≡ true → (x < y) ⊎ ((x ≡ y) × (rest ≡ true))
compared x y rest is = at (or_cases (nat_lt x y) ((x == y) && rest) is)
  where
    at : (nat_lt x y ≡ true) ⊎ (((x == y) && rest) ≡ true) → (x < y) ⊎ ((x ≡ y) × (rest ≡ true))
    at (inl less) = inl (ltb-true x y less)
    at (inr both) = let (same, more) = and_parts (x == y) rest both in inr (equal-true x y same, more)

joined : (x y z : ℕ) (a b c : Bool) → (a ≡ true → b ≡ true → c ≡ true) → (x < y) ⊎ ((x ≡ y) × (a ≡ true))
    → (y < z) ⊎ ((y ≡ z) × (b ≡ true)) → (nat_lt x z || ((x == z) && c)) ≡ true
joined x y z a b c then (inl less) (inl more) = below x z c (omega (arith, less, more))
joined x y z a b c then (inl less) (inr (same, rest)) = below x z c (omega (arith, less, same))
joined x y z a b c then (inr (same, rest)) (inl more) = below x z c (omega (arith, same, more))
joined x y z a b c then (inr (same, rest)) (inr (again, other)) = level x z c (same ∙ again) (then rest other)

lower-trans : (xs ys zs : List ℕ) → is_lower xs ys ≡ true → is_lower ys zs ≡ true → is_lower xs zs ≡ true
lower-trans [] ys zs one other = cc
lower-trans (x ∷ xs) [] zs one other = cc
lower-trans (x ∷ xs) (y ∷ ys) [] one other = cc
lower-trans (x ∷ xs) (y ∷ ys) (z ∷ zs) one other =
    joined x y z (is_lower xs ys) (is_lower ys zs) (is_lower xs zs) (lower-trans xs ys zs) (compared x y (is_lower xs ys) one)
    (compared y z (is_lower ys zs) other)

pub before-trans : (xs ys zs : List ℕ) → is_before xs ys ≡ true → is_before ys zs ≡ true → is_before xs zs ≡ true
before-trans xs ys zs one other =
    joined (length xs) (length ys) (length zs) (is_lower xs ys) (is_lower ys zs) (is_lower xs zs) (lower-trans xs ys zs)
    (compared (length xs) (length ys) (is_lower xs ys) one) (compared (length ys) (length zs) (is_lower ys zs) other)

lower-self : (xs : List ℕ) → is_lower xs xs ≡ true → ⊥
lower-self [] is = cc
lower-self (x ∷ xs) is = at (compared x x (is_lower xs xs) is) (lower-self xs)
  where
    at : (x < x) ⊎ ((x ≡ x) × (is_lower xs xs ≡ true)) → (is_lower xs xs ≡ true → ⊥) → ⊥
    at (inl less) rest = omega (arith, less)
    at (inr (same, more)) rest = rest more

pub before-self : (xs : List ℕ) → is_before xs xs ≡ true → ⊥
before-self xs is = at (compared (length xs) (length xs) (is_lower xs xs) is)
  where
    at : (length xs < length xs) ⊎ ((length xs ≡ length xs) × (is_lower xs xs ≡ true)) → ⊥
    at (inl less) = omega (arith, less)
    at (inr (same, more)) = lower-self xs more

-- a set before another has no more members
pub before-few : (xs ys : List ℕ) → is_before xs ys ≡ true → length xs ≤ length ys
before-few xs ys is = at (compared (length xs) (length ys) (is_lower xs ys) is)
  where
    at : (length xs < length ys) ⊎ ((length xs ≡ length ys) × (is_lower xs ys ≡ true)) → length xs ≤ length ys
    at (inl less) = omega (arith, less)
    at (inr (same, more)) = omega (arith, same)
