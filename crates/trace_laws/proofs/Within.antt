-- Sets within others: by the tests, how many members they have, and what of a set passes a test.
use Rattle.std.proofs.Common.{◌≡◌, ◌⊎◌, inl, inr, ℕ, ◌<◌, ◌≤◌, ◌==◌, Bool, true, false, cond, List, [], ◌∷◌, length, refl, ap, sym, ◌∙◌, subst, arith}
use Rattle.std.specs.Prelude.{AllPairs, Contains, filter}
use Rattle.std.specs.List.{list_all}
use Rattle.std.proofs.lemmas.Bool.{and_from, eq-eqb, eqb-true}
use Rattle.std.proofs.lemmas.List.Elements.{All-cons, All-nil}
use Rattle.loc_base.proofs.ShelfLists.{list_all-member, list_any-found, list_any-member}
use Rattle.design_core.specs.Works.{IsWithin}
use Rattle.design_core.proofs.Lists.{All-later, All-member, AllPairs-first, AllPairs-later, Contains-cons, Contains-empty, Contains-first, Contains-later}
use Rattle.trace_laws.specs.Joined.{has, is_within}

-- ---- by the tests

-- a test that each member passes
pub list_all-each : {X : Type 0} (test : X → Bool) (xs : List X) → ((x : X) → Contains xs x → test x ≡ true)
    → list_all test xs ≡ true
list_all-each test [] each = refl
list_all-each test (x ∷ xs) each =
    and_from (test x) (list_all test xs) (each x (Contains-first x xs))
    (list_all-each test xs (λ y member. each y (Contains-later x xs y member)))

pub has-member : (set : List ℕ) (m : ℕ) → Contains set m → has set m ≡ true
has-member set m member = list_any-member (λ n. n == m) set m member (eq-eqb m m refl)

pub member-has : (set : List ℕ) (m : ℕ) → has set m ≡ true → Contains set m
member-has set m is =
    let (n, member, same) = list_any-found (λ n. n == m) set is in subst (Contains set) (eqb-true n m same) member

-- what is within a set, by its members
pub within-each : (inner outer : List ℕ) → ((m : ℕ) → Contains inner m → Contains outer m) → IsWithin inner outer
within-each [] outer each = All-nil (Contains outer)
within-each (x ∷ xs) outer each =
    All-cons (Contains outer) x xs (each x (Contains-first x xs))
    (within-each xs outer (λ m member. each m (Contains-later x xs m member)))

pub within-member : (inner outer : List ℕ) → IsWithin inner outer → (m : ℕ) → Contains inner m → Contains outer m
within-member inner outer within m member = All-member (Contains outer) inner m within member

pub within-is : (inner outer : List ℕ) → is_within inner outer ≡ true → IsWithin inner outer
within-is inner outer is = within-each inner outer
    (λ m member. member-has outer m (list_all-member (has outer) inner m is member))

pub is-within : (inner outer : List ℕ) → IsWithin inner outer → is_within inner outer ≡ true
is-within inner outer within = list_all-each (has outer) inner
    (λ m member. has-member outer m (within-member inner outer within m member))

-- a set that is within one which is within a third
pub within-within : (one two three : List ℕ) → IsWithin one two → IsWithin two three → IsWithin one three
within-within one two three first second =
    within-each one three (λ m member. within-member two three second m (within-member one two first m member))

-- ---- how many members

abbrev pub Ascends : List ℕ → Type 0
Ascends set = AllPairs (λ x y. x < y) set

-- what is within a list and hasn't its first is within the rest
past-first : (inner : List ℕ) (y : ℕ) (ys : List ℕ) → IsWithin inner (y ∷ ys) → ((m : ℕ) → Contains inner m → y < m)
    → IsWithin inner ys
past-first inner y ys within above =
    within-each inner ys
    (λ m member. at m (above m member) (Contains-cons y ys m (within-member inner (y ∷ ys) within m member)))
  where
    at : (m : ℕ) → y < m → (y ≡ m) ⊎ Contains ys m → Contains ys m
    at m more (inl same) = absurd (omega (arith, more, same))
    at m more (inr later) = later

-- each member of an ascending list is at least its first
from-first : (x : ℕ) (xs : List ℕ) → Ascends (x ∷ xs) → (m : ℕ) → Contains (x ∷ xs) m → x ≤ m
from-first x xs ascends m member = at (Contains-cons x xs m member)
  where
    at : (x ≡ m) ⊎ Contains xs m → x ≤ m
    at (inl same) = omega (arith, same)
    at (inr later) = let more : x < m = AllPairs-first (λ a b. a < b) x xs m ascends later in omega (arith, more)

module _ (x y : ℕ) (xs ys : List ℕ) (one : Ascends (x ∷ xs)) (other : Ascends (y ∷ ys))
    (within : IsWithin (x ∷ xs) (y ∷ ys)) where
  -- where the firsts are one, the rest is within the rest
  rest-within : y ≡ x → IsWithin xs ys
  rest-within same =
      past-first xs y ys (All-later (Contains (y ∷ ys)) x xs within)
      (λ m member. let more : x < m = AllPairs-first (λ a b. a < b) x xs m one member in omega (arith, more, same))

  -- and else all of it
  all-within : Contains ys x → IsWithin (x ∷ xs) ys
  all-within later =
      let below : y < x = AllPairs-first (λ a b. a < b) y ys x other later in
      past-first (x ∷ xs) y ys within
      (λ m member. let least : x ≤ m = from-first x xs one m member in omega (arith, below, least))

-- a set has no more members than one that it is within
pub within-few : (outer inner : List ℕ) → Ascends outer → Ascends inner → IsWithin inner outer
    → length inner ≤ length outer
within-few [] [] other one within = omega arith
within-few [] (x ∷ xs) other one within = absurd
    (Contains-empty x (within-member (x ∷ xs) [] within x (Contains-first x xs)))
within-few (y ∷ ys) [] other one within = omega arith
within-few (y ∷ ys) (x ∷ xs) other one within =
    at (Contains-cons y ys x (within-member (x ∷ xs) (y ∷ ys) within x (Contains-first x xs)))
    (λ inner ascends part. within-few ys inner (AllPairs-later (λ a b. a < b) y ys other) ascends part)
  where
    Rest : Type 0
    Rest = (inner : List ℕ) → Ascends inner → IsWithin inner ys → length inner ≤ length ys

    at : (y ≡ x) ⊎ Contains ys x → Rest → length (x ∷ xs) ≤ length (y ∷ ys)
    at (inl same) rest =
        let few : length xs ≤ length ys =
        rest xs (AllPairs-later (λ a b. a < b) x xs one) (rest-within x y xs ys one other within same) in
        omega (arith, few)
    at (inr later) rest =
        let few : length (x ∷ xs) ≤ length ys = rest (x ∷ xs) one
        (all-within x y xs ys one other within later) in omega (arith, few)

-- and fewer where the other isn't within it
pub within-fewer : (outer inner : List ℕ) → Ascends outer → Ascends inner → IsWithin inner outer
    → ¬ IsWithin outer inner
    → length inner < length outer
within-fewer [] inner other one within proper = absurd (proper (All-nil (Contains inner)))
within-fewer (y ∷ ys) [] other one within proper = omega arith
within-fewer (y ∷ ys) (x ∷ xs) other one within proper =
    at (Contains-cons y ys x (within-member (x ∷ xs) (y ∷ ys) within x (Contains-first x xs)))
    (λ part less. within-fewer ys xs tail (AllPairs-later (λ a b. a < b) x xs one) part less)
  where
    tail : Ascends ys
    tail = AllPairs-later (λ a b. a < b) y ys other

    longer : y ≡ x → IsWithin ys xs → IsWithin (y ∷ ys) (x ∷ xs)
    longer same back =
        All-cons (Contains (x ∷ xs)) y ys (subst (Contains (x ∷ xs)) (sym same) (Contains-first x xs))
        (within-each ys (x ∷ xs) (λ m member. Contains-later x xs m (within-member ys xs back m member)))

    at : (y ≡ x) ⊎ Contains ys x → (IsWithin xs ys → ¬ IsWithin ys xs → length xs < length ys)
        → length (x ∷ xs) < length (y ∷ ys)
    at (inl same) rest =
        let fewer : length xs < length ys =
        rest (rest-within x y xs ys one other within same) (λ back. proper (longer same back)) in omega (arith, fewer)
    at (inr later) rest =
        let few : length (x ∷ xs) ≤ length ys = within-few ys (x ∷ xs) tail one
        (all-within x y xs ys one other within later) in
        omega (arith, few)

-- ---- those that pass a test

-- a member that passes is among those that pass
pub filter-has : (p : ℕ → Bool) (xs : List ℕ) (x : ℕ) → Contains xs x → p x ≡ true → Contains (filter p xs) x
filter-has p [] x member passes = member
filter-has p (y ∷ xs) x member passes = at (Contains-cons y xs x member) (p y) refl
    (λ later. filter-has p xs x later passes)
  where
    at : (y ≡ x) ⊎ Contains xs x → (b : Bool) → p y ≡ b → (Contains xs x → Contains (filter p xs) x)
        → Contains (cond b (y ∷ filter p xs) (filter p xs)) x
    at (inl same) true is rest = subst (Contains (y ∷ filter p xs)) same (Contains-first y (filter p xs))
    at (inl same) false is rest = let wrong : true ≡ false = sym passes ∙ (ap p (sym same) ∙ is) in cc
    at (inr later) true is rest = Contains-later y (filter p xs) x (rest later)
    at (inr later) false is rest = rest later

-- and those that pass are members that do
pub filter-from : (p : ℕ → Bool) (xs : List ℕ) (x : ℕ) → Contains (filter p xs) x → Contains xs x × (p x ≡ true)
filter-from p [] x member = absurd (Contains-empty x member)
filter-from p (y ∷ xs) x member = at (p y) refl member (λ later. filter-from p xs x later)
  where
    among : (y ≡ x) ⊎ (Contains xs x × (p x ≡ true)) → p y ≡ true → Contains (y ∷ xs) x × (p x ≡ true)
    among (inl same) passes = (subst (Contains (y ∷ xs)) same (Contains-first y xs), sym (ap p same) ∙ passes)
    among (inr (later, is)) passes = (Contains-later y xs x later, is)

    first : (y ≡ x) ⊎ Contains (filter p xs) x → (Contains (filter p xs) x → Contains xs x × (p x ≡ true))
        → (y ≡ x) ⊎ (Contains xs x × (p x ≡ true))
    first (inl same) rest = inl same
    first (inr later) rest = inr (rest later)

    at : (b : Bool) → p y ≡ b → Contains (cond b (y ∷ filter p xs) (filter p xs)) x
        → (Contains (filter p xs) x → Contains xs x × (p x ≡ true)) → Contains (y ∷ xs) x × (p x ≡ true)
    at true is here rest = among (first (Contains-cons y (filter p xs) x here) rest) is
    at false is here rest = let (later, passes) = rest here in (Contains-later y xs x later, passes)
