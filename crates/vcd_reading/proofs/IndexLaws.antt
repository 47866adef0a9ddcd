-- Variables are numbered by scope and name, and scopes are tried in their order.
use Rattle.std.proofs.Common.{◌≡◌, ℕ, zero, suc, ◌+◌, ◌<◌, ◌≤◌, ◌==◌, Bool, true, false, ◌&&◌, if◌then◌else◌, List, [], ◌∷◌, ◌++◌, length, map, take, get_or, refl, sym, ◌∙◌, ap, subst, inl, inr, arith, Option, Some, None, is_some}
use Rattle.std.specs.List.{list_all, find}
use Rattle.std.specs.Option.{option_map, option_map_or, option_or, option_and_then}
use Rattle.std.specs.Prelude.{slice_get}
use Rattle.std.proofs.lemmas.Bool.{cases_Bool, cond-true, cond-false, and_from}
use Rattle.std.proofs.lemmas.Bool.Decides.{nat_tests}
use Rattle.std.proofs.lemmas.List.{map_more, length-map, length-take-le}
use Rattle.std.proofs.lemmas.List.Folds.{list_all-append}
use Rattle.loc_base.proofs.ShelfBools.{equal-true, and-false}
use Rattle.vcd_reading.specs.declared.header as code
use Rattle.vcd_reading.specs.declared.names.Names.{Names}
use Rattle.vcd_reading.specs.Commands.{same_bytes}
use Rattle.vcd_reading.specs.Header.{Header, Variable}
use Rattle.vcd_reading.specs.HeaderView.{variable_of}
use Rattle.vcd_reading.specs.NameView.{number_at, with_first}
use Rattle.vcd_reading.specs.Scopes.{least_below, is_named, place_of, variable_in}
use Rattle.vcd_reading.specs.Found.{IsIndex}

shifted : (test : Bool) (o : Option ℕ) (n : ℕ)
    → option_map suc (option_or o (if test then Some n else None)) ≡ option_or (option_map suc o) (if test then Some (suc n) else None)
shifted test (Some k) n = refl
shifted true None n = refl
shifted false None n = refl

-- one more element
pub place_more : {X : Type 0} (test : X → Bool) (xs : List X) (y : X)
    → place_of test (xs ++ y ∷ []) ≡ option_or (place_of test xs) (if test y then Some (length xs) else None)
place_more test [] y = refl
place_more test (x ∷ xs) y =
    elim (cases_Bool (test x)) [
      | inl here ↦ cond-true _ _ _ here ∙ sym (ap (λ o. option_or o (if test y then Some (suc (length xs)) else None)) (cond-true _ _ _ here))
      | inr away ↦
          cond-false _ _ _ away ∙ ap (option_map suc) (place_more test xs y) ∙ shifted (test y) (place_of test xs) (length xs)
          ∙ sym (ap (λ o. option_or o (if test y then Some (suc (length xs)) else None)) (cond-false _ _ _ away))
    ]

-- the element at the place of the first that passes is that one
found_shifted : {X : Type 0} (x : X) (xs : List X) (o : Option ℕ) → option_and_then (slice_get (x ∷ xs)) (option_map suc o) ≡ option_and_then (slice_get xs) o
found_shifted x xs None = refl
found_shifted x xs (Some k) = refl

pub place_finds : {X : Type 0} (test : X → Bool) (xs : List X) → option_and_then (slice_get xs) (place_of test xs) ≡ find test xs
place_finds test [] = refl
place_finds test (x ∷ xs) =
    elim (cases_Bool (test x)) [
      | inl here ↦ ap (option_and_then (slice_get (x ∷ xs))) (cond-true _ _ _ here) ∙ sym (cond-true _ _ _ here)
      | inr away ↦
          ap (option_and_then (slice_get (x ∷ xs))) (cond-false _ _ _ away) ∙ found_shifted x xs (place_of test xs) ∙ place_finds test xs
          ∙ sym (cond-false _ _ _ away)
    ]

-- there is one where its place is
pub place_some : {X : Type 0} (test : X → Bool) (xs : List X) → is_some (place_of test xs) ≡ is_some (find test xs)
place_some test [] = refl
place_some test (x ∷ xs) =
    elim (cases_Bool (test x)) [
      | inl here ↦ ap is_some (cond-true _ _ _ here) ∙ sym (ap is_some (cond-true _ _ _ here))
      | inr away ↦
          ap is_some (cond-false _ _ _ away) ∙ some_shifted (place_of test xs) ∙ place_some test xs ∙ sym (ap is_some (cond-false _ _ _ away))
    ]
  where
    some_shifted : (o : Option ℕ) → is_some (option_map suc o) ≡ is_some o
    some_shifted None = refl
    some_shifted (Some k) = refl

-- the least number that passes stays the least
least_here : (test : ℕ → Bool) (n : ℕ) → least_below test n ≡ None → test n ≡ true → least_below test (suc n) ≡ Some n
least_here test n none passes = ap (λ o. option_or o (if test n then Some n else None)) none ∙ cond-true _ _ _ passes

pub least_more : (test : ℕ → Bool) (n : ℕ) → least_below test n ≡ None → test n ≡ false → least_below test (suc n) ≡ None
least_more test n none fails = ap (λ o. option_or o (if test n then Some n else None)) none ∙ cond-false _ _ _ fails

least_stays : (test : ℕ → Bool) (n k m : ℕ) → n ≤ m → least_below test n ≡ Some k → least_below test m ≡ Some k
least_stays test n k zero within is =
    let none : n ≡ 0 = omega (arith, within) in
    let P : ℕ → Type 0 = λ j. least_below test j ≡ Some k in
    subst P none is
least_stays test n k (suc m) within is =
    elim (cases_Bool (n == suc m)) [
      | inl all ↦ let P : ℕ → Type 0 = λ j. least_below test j ≡ Some k in subst P (equal-true n (suc m) all) is
      | inr fewer ↦
          let below : n ≤ m = lower n m within fewer in
          ap (λ o. option_or o (if test m then Some m else None)) (least_stays test n k m below is)
    ]
  where
    lower : (n m : ℕ) → n ≤ suc m → (n == suc m) ≡ false → n ≤ m
    lower n m within other = grind (arith, nat_tests)

pub least_found : (test : ℕ → Bool) (n m : ℕ) → n < m → least_below test n ≡ None → test n ≡ true → least_below test m ≡ Some n
least_found test n m within none passes = least_stays test (suc n) n m (omega (arith, within)) (least_here test n none passes)

-- variables are found by their numbers
pub named_some : (h : Header) (names : Names) → IsIndex h.variables names → (scope : ℕ) (name : List ℕ)
    → is_some (number_at names scope name) ≡ is_some (variable_in h scope name)
named_some h names index scope name = ap is_some (index scope name) ∙ place_some (is_named scope name) h.variables

-- an element that doesn't pass, and one more that does
pub missing : {X Y : Type 0} (f : X → Y) (p : Y → Bool) (xs : List X) (i : ℕ) (d : X) → i < length xs → p (f (get_or xs i d)) ≡ false
    → list_all p (map f xs) ≡ false
missing f p [] i d within fails = absurd (omega (arith, within))
missing f p (x ∷ xs) zero d within fails = ap (λ b. b && list_all p (map f xs)) fails
missing f p (x ∷ xs) (suc i) d within fails =
    ap (λ b. p (f x) && b) (missing f p xs i d (omega (arith, within)) fails) ∙ and-false (p (f x))

pub present : {X Y : Type 0} (f : X → Y) (p : Y → Bool) (xs : List X) (i : ℕ) (d : X) → i < length xs → list_all p (map f (take i xs)) ≡ true
    → p (f (get_or xs i d)) ≡ true → list_all p (map f (take (i + 1) xs)) ≡ true
present f p xs i d within all passes =
    ap (list_all p) (map_more f xs i d within) ∙ list_all-append p (map f (take i xs)) (f (get_or xs i d) ∷ []) ∙ and_from _ _ all (and_from _ _ passes refl)

-- one more variable
or_none : (o : Option ℕ) → o ≡ option_or o None
or_none None = refl
or_none (Some n) = refl

one_more : (test : Variable → Bool) (variables : List code.Variable.Variable) (i : ℕ) (d : code.Variable.Variable) (here : Bool) → i < length variables
    → test (variable_of (get_or variables i d)) ≡ here
    → place_of test (map variable_of (take (i + 1) variables))
    ≡ option_or (place_of test (map variable_of (take i variables))) (if here then Some i else None)
one_more test variables i d here within is =
    let xs = map variable_of (take i variables) in
    let size : length xs ≡ i = length-map (take i variables) variable_of ∙ length-take-le i variables (omega (arith, within)) in
    ap (place_of test) (map_more variable_of variables i d within) ∙ place_more test xs (variable_of (get_or variables i d))
    ∙ ap (λ b. option_or (place_of test xs) (if b then Some (length xs) else None)) is
    ∙ ap (λ n. option_or (place_of test xs) (if here then Some n else None)) size

pub index_some : (variables : List code.Variable.Variable) (i : ℕ) (d : code.Variable.Variable) (numbers : ℕ → List ℕ → Option ℕ) (at scope : ℕ) (name : List ℕ)
    → i < length variables → numbers scope name ≡ place_of (is_named scope name) (map variable_of (take i variables))
    → (get_or variables i d).scope ≡ Some at
    → with_first at (get_or variables i d).name.now i numbers scope name ≡ place_of (is_named scope name) (map variable_of (take (i + 1) variables))
index_some variables i d numbers at scope name within before is =
    let v = get_or variables i d in
    let here : Bool = at == scope && same_bytes v.name.now name in
    let named : is_named scope name (variable_of v) ≡ here = ap (λ o. option_map_or (λ s. s == scope) o false && same_bytes v.name.now name) is in
    ap (λ o. option_or o (if here then Some i else None)) before ∙ sym (one_more (is_named scope name) variables i d here within named)

pub index_none : (variables : List code.Variable.Variable) (i : ℕ) (d : code.Variable.Variable) (scope : ℕ) (name : List ℕ) (number : Option ℕ)
    → i < length variables → number ≡ place_of (is_named scope name) (map variable_of (take i variables))
    → (get_or variables i d).scope ≡ None → number ≡ place_of (is_named scope name) (map variable_of (take (i + 1) variables))
index_none variables i d scope name number within before is =
    let v = get_or variables i d in
    let named : is_named scope name (variable_of v) ≡ false = ap (λ o. option_map_or (λ s. s == scope) o false && same_bytes v.name.now name) is in
    before ∙ or_none _ ∙ sym (one_more (is_named scope name) variables i d false within named)
