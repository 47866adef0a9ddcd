-- Blocks of ascending members, and the bound that closes.
use Rattle.std.proofs.Common.{◌≡◌, ℕ, cond, zero, suc, ◌+◌, ◌<◌, ◌≤◌, false, not, ◌&&◌, ◌||◌, List, [], ◌∷◌, length, get_or, take, Some, refl, sym, ap, ap₂, ◌∙◌, subst, arith}
use Rattle.std.specs.Prelude.{All, IfNone, IfSome, IsTrue, None, Option}
use Rattle.std.specs.List.Sorted.{IsStrictlyIncreasing}
use Rattle.std.proofs.lemmas.Bool.{ne_eqb, le-ltb}
use Rattle.std.proofs.lemmas.List.{take_all}
use Rattle.std.proofs.lemmas.List.Elements.{All-head, All-tail}
use Rattle.clause_base.specs.declared.literal.Lit.{Lit}
use Rattle.clause_base.specs.Literal.{IsWithin, has_distinct_variables, has_variable, positive}
use Rattle.card_counter.specs.Places.{at_least}
use Rattle.set_enum.specs.Bounds.{bound_at, bound_of}
use Rattle.set_enum.specs.Sets.{block_of}
use Rattle.set_enum.proofs.Bounding.{bound-some}

-- ---- blocks
rest-up : (x : ℕ) (xs : List ℕ) → IsStrictlyIncreasing (x ∷ xs) → IsStrictlyIncreasing xs
rest-up x xs up k low = let next : suc k + 1 ≡ suc (k + 1) = omega arith in subst (λ n. get_or xs k 0 < get_or (x ∷ xs) n 0) next (up (suc k) (omega (arith, low)))

lower-head : (x : ℕ) (xs : List ℕ) → IsStrictlyIncreasing (x ∷ xs) → All (λ y. x < y) xs
lower-head x [] up k d low = absurd (omega (arith, low))
lower-head x (y ∷ xs) up zero d low = up 0 (omega arith)
lower-head x (y ∷ xs) up (suc k) d low =
    let first : x < y = up 0 (omega arith) in
    let rest : y < get_or xs k d = lower-head y xs (rest-up x (y ∷ xs) up) k d (omega (arith, low)) in
    omega (arith, first, rest)

no-variable : (x : ℕ) (xs : List ℕ) → All (λ y. x < y) xs → has_variable (block_of xs) x ≡ false
no-variable x [] above = refl
no-variable x (y ∷ xs) above =
    let first : x < y = All-head (λ z. x < z) y xs above in
    ap₂ (λ a b. a || b) (ne_eqb y x (λ same. omega (arith, same, first))) (no-variable x xs (All-tail (λ z. x < z) y xs above))

-- the block of ascending members is of distinct variables
pub block-distinct : (members : List ℕ) → IsStrictlyIncreasing members → IsTrue (has_distinct_variables (block_of members))
block-distinct [] up = refl
block-distinct (x ∷ xs) up =
    ap₂ (λ a b. not a && b) (no-variable x xs (lower-head x xs up)) (block-distinct xs (rest-up x xs up))

-- and so are the literals that are collected of all of them
pub block-collected : (members : List ℕ) (literals : List Lit) (at : ℕ) → length members ≤ at → literals ≡ block_of (take at members)
    → IsStrictlyIncreasing members → IsTrue (has_distinct_variables literals)
block-collected members literals at past are up =
    ap has_distinct_variables (are ∙ ap block_of (take_all at members past)) ∙ block-distinct members up

-- the block of numbers up to n is over variables from 1 to n
pub block-within : (vars n : ℕ) (members : List ℕ) → n ≤ vars → All (λ m. (1 ≤ m) × (m ≤ n)) members → IsWithin vars (block_of members)
block-within vars n [] few all k d low = absurd (omega (arith, low))
block-within vars n (m ∷ members) few all zero d low =
    let (least, most) = All-head (λ x. (1 ≤ x) × (x ≤ n)) m members all in (least, omega (arith, most, few))
block-within vars n (m ∷ members) few all (suc k) d low =
    block-within vars n members few (All-tail (λ x. (1 ≤ x) × (x ≤ n)) m members all) k d (omega (arith, low))

-- ---- the bound
pub bound-is : (n k : ℕ) (r : Option Lit) → IfSome r (λ bound. (k < n) × (bound ≡ positive (at_least (n + 1) k n (k + 1)))) → IfNone r (n ≤ k)
    → r ≡ bound_of n k k
bound-is n k (Some bound) (less, is) none = ap Some is ∙ sym (bound-some n k k less)
bound-is n k None some most = sym (ap (λ b. cond b (Some (bound_at n k k)) None) (le-ltb k n most))

pub ruleset block_rules = (block-distinct, block-within)
