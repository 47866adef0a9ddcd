-- Laws of Booleans, and of tests of numbers.
use Rattle.std.proofs.Common.{◌≡◌, ◌≢◌, ℕ, zero, suc, ◌+◌, ◌<◌, Bool, true, false, not, cond, ◌&&◌, ◌||◌, ◌==◌, if◌then◌else◌, refl, sym, ◌⊎◌, inl, inr, arith}
use Rattle.std.proofs.lemmas.Bool.{false≢true, true≢false}
use Rattle.std.proofs.lemmas.Grind.{common_steps}

-- nothing is added by what is false
pub or-false : (b : Bool) → (b || false) ≡ b
or-false true = refl
or-false false = refl

-- what is true on the right is true
pub or-true : (b : Bool) → (b || true) ≡ true
or-true true = refl
or-true false = refl

-- either order
pub or-comm : (a b : Bool) → (a || b) ≡ (b || a)
or-comm true true = refl
or-comm true false = refl
or-comm false true = refl
or-comm false false = refl

-- either grouping
pub or-assoc : (a b c : Bool) → ((a || b) || c) ≡ (a || (b || c))
or-assoc true b c = refl
or-assoc false b c = refl

-- what is false on the right is false
pub and-false : (b : Bool) → (b && false) ≡ false
and-false true = refl
and-false false = refl

-- either grouping
pub and-assoc : (a b c : Bool) → ((a && b) && c) ≡ (a && (b && c))
and-assoc true b c = refl
and-assoc false b c = refl

-- nothing is lost by what is true
pub and-true : (b : Bool) → (b && true) ≡ b
and-true true = refl
and-true false = refl

-- a conjunction with one of two
pub and-or : (a b c : Bool) → ((a || b) && c) ≡ ((a && c) || (b && c))
and-or true b true = refl
and-or true b false = sym (and-false b)
and-or false b c = refl

-- twice the opposite
pub not-not : (b : Bool) → not (not b) ≡ b
not-not true = refl
not-not false = refl

-- the opposite of what holds not
pub not-false : (b : Bool) → not b ≡ false → b ≡ true
not-false true is = refl
not-false false is = absurd (true≢false is)

-- and of what holds
pub not-true : (b : Bool) → not b ≡ true → b ≡ false
not-true true is = absurd (false≢true is)
not-true false is = refl

-- a choice whose test is true
pub if-true : {A : Type 0} (b : Bool) (x y z : A) → b ≡ true → x ≡ z → (if b then x else y) ≡ z
if-true true x y z test is = is
if-true false x y z test is = absurd (false≢true test)

-- a choice whose test is false
pub if-false : {A : Type 0} (b : Bool) (x y z : A) → b ≡ false → y ≡ z → (if b then x else y) ≡ z
if-false true x y z test is = absurd (true≢false test)
if-false false x y z test is = is

-- what was chosen, and why
pub if-cases : {A : Type 0} (b : Bool) (x y z : A) → (if b then x else y) ≡ z → ((b ≡ true) × (x ≡ z)) ⊎ ((b ≡ false) × (y ≡ z))
if-cases true x y z is = inl (refl, is)
if-cases false x y z is = inr (refl, is)

-- what a test that is true counts
pub count-true : (b : Bool) → b ≡ true → cond b 1 0 ≡ suc zero
count-true b test = rw test refl

-- what a test that is false counts
pub count-false : (b : Bool) → b ≡ false → cond b 1 0 ≡ zero
count-false b test = rw test refl

-- numbers that a test finds equal
pub equal-true : (m n : ℕ) → (m == n) ≡ true → m ≡ n
equal-true m n test = grind (arith, common_steps)

-- numbers that differ
pub equal-false : (m n : ℕ) → m ≢ n → (m == n) ≡ false
equal-false m n apart = grind (arith, common_steps)

-- a number of one bit
pub below_two : (n : ℕ) → n < 2 → (n ≡ 0) ⊎ (n ≡ 1)
below_two zero below = inl refl
below_two (suc n) below = inr (omega (arith, below))

-- the next number, counted at either end
pub suc-add_one : (n : ℕ) → suc (n + 1) ≡ suc n + 1
suc-add_one n = omega arith
