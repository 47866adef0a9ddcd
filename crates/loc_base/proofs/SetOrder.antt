-- The order of sets: any two are the same, or one stands before the other, and not both.
use Rattle.std.proofs.Common.{◌≡◌, ◌⊎◌, inl, inr, ℕ, ◌<◌, ◌≤◌, ◌==◌, Bool, true, ◌&&◌, ◌||◌, List, [], ◌∷◌, length}
use Rattle.std.proofs.Common.{refl, ap, ap₂, sym, arith}
use Rattle.std.specs.Prelude.{IsTrue, nat_lt}
use Rattle.std.proofs.lemmas.Bool.{cases_lt, and_from, and_parts, eq-eqb, eqb-true, lt-ltb, ltb-true, or_cases, or_left, or_right}
use Rattle.loc_base.specs.Sets.{is_before, is_lower}

-- three cases of two numbers
compared : (x y : ℕ) → (x < y) ⊎ ((x ≡ y) ⊎ (y < x))
compared x y = at (cases_lt x y) (cases_lt y x)
  where
    at : (x < y) ⊎ (y ≤ x) → (y < x) ⊎ (x ≤ y) → (x < y) ⊎ ((x ≡ y) ⊎ (y < x))
    at (inl less) other = inl less
    at (inr most) (inl more) = inr (inr more)
    at (inr most) (inr least) = inr (inl (omega (arith, most, least)))

-- a number below another, or the same and a fact of what follows
below : (x y : ℕ) (rest : Bool) → x < y → (nat_lt x y || ((x == y) && rest)) ≡ true
below x y rest less = or_left (nat_lt x y) ((x == y) && rest) (lt-ltb x y less)

level : (x y : ℕ) (rest : Bool) → x ≡ y → rest ≡ true → (nat_lt x y || ((x == y) && rest)) ≡ true
level x y rest same is = or_right (nat_lt x y) ((x == y) && rest) (and_from (x == y) rest (eq-eqb x y same) is)

abbrev Compares : List ℕ → List ℕ → Type 0
Compares xs ys = (is_lower xs ys ≡ true) ⊎ ((xs ≡ ys) ⊎ (is_lower ys xs ≡ true))

lower-total : (xs ys : List ℕ) → length xs ≡ length ys → Compares xs ys
lower-total [] [] long = inr (inl refl)
lower-total [] (y ∷ ys) long = absurd (omega (arith, long))
lower-total (x ∷ xs) [] long = absurd (omega (arith, long))
lower-total (x ∷ xs) (y ∷ ys) long = at (compared x y) (lower-total xs ys (omega (arith, long)))
  where
    at : (x < y) ⊎ ((x ≡ y) ⊎ (y < x)) → Compares xs ys → Compares (x ∷ xs) (y ∷ ys)
    at (inl less) rest = inl (below x y (is_lower xs ys) less)
    at (inr (inr more)) rest = inr (inr (below y x (is_lower ys xs) more))
    at (inr (inl same)) (inl lower) = inl (level x y (is_lower xs ys) same lower)
    at (inr (inl same)) (inr (inl equal)) = inr (inl (ap₂ (λ (z : ℕ) (zs : List ℕ). z ∷ zs) same equal))
    at (inr (inl same)) (inr (inr higher)) = inr (inr (level y x (is_lower ys xs) (sym same) higher))

-- a set with fewer members stands before
pub before-fewer : (one other : List ℕ) → length one < length other → is_before one other ≡ true
before-fewer one other fewer = below (length one) (length other) (is_lower one other) fewer

pub before-total : (one other : List ℕ) → (is_before one other ≡ true) ⊎ ((one ≡ other) ⊎ (is_before other one ≡ true))
before-total one other = at (compared (length one) (length other))
  where
    as_long : length one ≡ length other → Compares one other → (is_before one other ≡ true) ⊎ ((one ≡ other) ⊎ (is_before other one ≡ true))
    as_long same (inl lower) = inl (level (length one) (length other) (is_lower one other) same lower)
    as_long same (inr (inl equal)) = inr (inl equal)
    as_long same (inr (inr higher)) = inr (inr (level (length other) (length one) (is_lower other one) (sym same) higher))

    at : (length one < length other) ⊎ ((length one ≡ length other) ⊎ (length other < length one))
        → (is_before one other ≡ true) ⊎ ((one ≡ other) ⊎ (is_before other one ≡ true))
    at (inl less) = inl (before-fewer one other less)
    at (inr (inl same)) = as_long same (lower-total one other same)
    at (inr (inr more)) = inr (inr (before-fewer other one more))

-- a number below another, or the same and a fact of what follows
below_or_same : (x y : ℕ) (t : Bool) → (nat_lt x y || ((x == y) && t)) ≡ true → (x < y) ⊎ ((x ≡ y) × (t ≡ true))
below_or_same x y t h = split (or_cases (nat_lt x y) ((x == y) && t) h)
  where
    split : (nat_lt x y ≡ true) ⊎ (((x == y) && t) ≡ true) → (x < y) ⊎ ((x ≡ y) × (t ≡ true))
    split (inl e) = inl (ltb-true x y e)
    split (inr e) = inr (eqb-true x y (and_parts (x == y) t e).0, (and_parts (x == y) t e).1)

-- two numbers in both orders, where what follows is apart
apart : (x y : ℕ) (P Q : Type 0) → (P → Q → ⊥) → (x < y) ⊎ ((x ≡ y) × P) → (y < x) ⊎ ((y ≡ x) × Q) → ⊥
apart x y P Q rest (inl a) (inl b) = omega arith
apart x y P Q rest (inl a) (inr (e, b)) = omega arith
apart x y P Q rest (inr (e, a)) (inl b) = omega arith
apart x y P Q rest (inr (e, a)) (inr (e', b)) = rest a b

-- no two lists of numbers stand before each other
is_lower-strict : (xs ys : List ℕ) → is_lower xs ys ≡ true → is_lower ys xs ≡ true → ⊥
is_lower-strict [] ys one other = cc
is_lower-strict (x ∷ xs) [] one other = cc
is_lower-strict (x ∷ xs) (y ∷ ys) one other = apart x y (is_lower xs ys ≡ true) (is_lower ys xs ≡ true) (is_lower-strict xs ys) (below_or_same x y (is_lower xs ys) one) (below_or_same y x (is_lower ys xs) other)

pub is_before-strict : (one other : List ℕ) → IsTrue (is_before one other) → IsTrue (is_before other one) → ⊥
is_before-strict one other before after =
    apart (length one) (length other) (is_lower one other ≡ true) (is_lower other one ≡ true) (is_lower-strict one other)
    (below_or_same (length one) (length other) (is_lower one other) before) (below_or_same (length other) (length one) (is_lower other one) after)
