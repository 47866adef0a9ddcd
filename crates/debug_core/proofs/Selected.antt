-- What an assignment selects, as a set of numbers; sets within others.
use Rattle.std.proofs.Common.{◌≡◌, ◌⊎◌, inl, inr, ℕ, ◌+◌, ◌-◌, ◌<◌, ◌≤◌, ◌==◌, Bool, true, false, cond, List, [], ◌∷◌, length}
use Rattle.std.proofs.Common.{refl, ap, sym, ◌∙◌, subst, arith}
use Rattle.std.specs.Prelude.{All, Contains, filter, count_by}
use Rattle.std.specs.List.Sorted.{IsStrictlyIncreasing}
use Rattle.std.proofs.lemmas.Bool.{cases_lt, eq-eqb}
use Rattle.std.proofs.lemmas.List.Elements.{All-contains_itself, All-cons, All-nil}
use Rattle.std.proofs.lemmas.List.Kept.{IsStrictlyIncreasing-filter}
use Rattle.std.proofs.lemmas.List.Sums.{count_by-le-length, length-filter, sum_by-cons}
use Rattle.loc_base.proofs.ShelfBools.{equal-true}
use Rattle.loc_base.proofs.ShelfLists.{All-member, list_any-found, list_any-member}
use Rattle.design_core.specs.Works.{IsWithin}
use Rattle.suspect_map.proofs.SuspectLaws.{numbers-equal}
use Rattle.form_laws.specs.Models.{Selects, is_member}
use Rattle.set_enum.specs.Sets.{IsSetOf, selected}
use Rattle.set_enum.proofs.Selecting.{filter-has, filter-passes, selected-has, selected-true, selected-IsSetOf}

-- membership by its test
pub member-is : (set : List ℕ) (v : ℕ) → Contains set v → is_member set v ≡ true
member-is set v member = list_any-member (λ m. m == v) set v member (eq-eqb v v refl)

pub is-member : (set : List ℕ) (v : ℕ) → is_member set v ≡ true → Contains set v
is-member set v is =
    let (m, member, same) = list_any-found (λ m. m == v) set is in
    subst (Contains set) (equal-true m v same) member

-- an assignment selects the set whose selectors alone it makes true
pub selects-selected : (n : ℕ) (a : ℕ → Bool) (set : List ℕ) → IsSetOf n set → Selects a n set → selected n a ≡ set
selects-selected n a set of selects =
    numbers-equal (selected n a) set (selected-IsSetOf n a).ascending of.ascending
    (λ v member.
    let (low, high) = All-member (λ m. (1 ≤ m) × (m ≤ n)) (selected n a) v (selected-IsSetOf n a).members member in
    is-member set v (sym (selects v low high) ∙ selected-true n a v member))
    (λ v member.
    let (low, high) = All-member (λ m. (1 ≤ m) × (m ≤ n)) set v of.members member in
    selected-has n a v low high (selects v low high ∙ member-is set v member))

-- two truth values of which each makes the other true
both-true : (a b : Bool) → (a ≡ true → b ≡ true) → (b ≡ true → a ≡ true) → a ≡ b
both-true true b to from = sym (to refl)
both-true false true to from = from refl
both-true false false to from = refl

-- it makes the selectors of what it selects true, and no other
pub selected-selects : (n : ℕ) (a : ℕ → Bool) → Selects a n (selected n a)
selected-selects n a v low high =
    both-true (a v) (is_member (selected n a) v)
    (λ is. member-is (selected n a) v (selected-has n a v low high is))
    (λ is. selected-true n a v (is-member (selected n a) v is))

-- ---- sets within others

one-if : (b : Bool) → cond b 1 0 ≤ 1
one-if true = omega arith
one-if false = omega arith

counted : (b : Bool) → 1 ≤ cond b 1 0 → b ≡ true
counted true most = refl
counted false most = absurd (omega (arith, most))

-- where as many pass as there are, all do
count-full : (p : ℕ → Bool) (xs : List ℕ) → count_by p xs ≡ length xs → All (λ x. p x ≡ true) xs
count-full p [] full = All-nil (λ x. p x ≡ true)
count-full p (x ∷ xs) full =
    let sum : count_by p (x ∷ xs) ≡ cond (p x) 1 0 + count_by p xs = sum_by-cons (λ y. cond (p y) 1 0) x xs in
    let most : count_by p xs ≤ length xs = count_by-le-length p xs in
    let one : cond (p x) 1 0 ≤ 1 = one-if (p x) in
    let here : 1 ≤ cond (p x) 1 0 = omega (arith, full, sum, most, one) in
    let rest : count_by p xs ≡ length xs = omega (arith, full, sum, most, one) in
    All-cons (λ y. p y ≡ true) x xs (counted (p x) here) (count-full p xs rest)

module _ (inner outer : List ℕ) (one : IsStrictlyIncreasing inner) (other : IsStrictlyIncreasing outer)
    (within : IsWithin inner outer) where
  -- the inner set is what of the outer one is its member
  inner-filters : inner ≡ filter (is_member inner) outer
  inner-filters =
      numbers-equal inner (filter (is_member inner) outer) one (IsStrictlyIncreasing-filter (is_member inner) outer other)
      (λ v member. filter-has (is_member inner) outer v (All-member (Contains outer) inner v within member) (member-is inner v member))
      (λ v member.
      let passes = filter-passes (is_member inner) outer in
      is-member inner v (All-member (λ x. is_member inner x ≡ true) (filter (is_member inner) outer) v passes member))

  inner-count : length inner ≡ count_by (is_member inner) outer
  inner-count = ap length inner-filters ∙ length-filter (is_member inner) outer

  -- it has no more members
  pub within-few : length inner ≤ length outer
  within-few = omega (arith, inner-count, count_by-le-length (is_member inner) outer)

  -- and with as many it is that one
  pub within-same : length outer ≤ length inner → inner ≡ outer
  within-same as_many =
      let full : count_by (is_member inner) outer ≡ length outer =
      omega (arith, inner-count, count_by-le-length (is_member inner) outer, as_many) in
      numbers-equal inner outer one other (λ v member. All-member (Contains outer) inner v within member)
      (λ v member. is-member inner v (All-member (λ x. is_member inner x ≡ true) outer v (count-full (is_member inner) outer full) member))

  -- where the outer one isn't within it, it has fewer
  pub within-fewer : ¬ IsWithin outer inner → length inner < length outer
  within-fewer proper = at (cases_lt (length inner) (length outer))
    where
      at : (length inner < length outer) ⊎ (length outer ≤ length inner) → length inner < length outer
      at (inl fewer) = fewer
      at (inr as_many) = absurd (proper (subst (IsWithin outer) (sym (within-same as_many)) (All-contains_itself outer)))
