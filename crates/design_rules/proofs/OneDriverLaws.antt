-- Where no bit has two drivers, each gets its value once.
use Rattle.std.proofs.Common.{ℕ, zero, suc, ◌≡◌, ◌<◌, ◌≤◌, ◌+◌, List, [], ◌∷◌, length, get_or, Bool, true, false, cond, refl, sym, ◌∙◌, ap, arith, ◌⊎◌, inl, inr}
use Rattle.std.specs.Prelude.{◌==◌, not, slice_get, Some, count_by, if◌then◌else◌}
use Rattle.std.specs.List.{list_any, list_all}
use Rattle.std.proofs.lemmas.List.Sums.{sum_by-cons}
use Rattle.std.proofs.lemmas.Bool.{false≢true, cases_order, and_parts, or_cases}
use Rattle.loc_base.proofs.ShelfBools.{equal-true, count-true}
use Rattle.loc_base.proofs.ShelfLists.{slice_get-at}
use Rattle.design_core.specs.declared.design.Design.{Design}
use Rattle.design_core.specs.declared.driver.Driver.{Driver}
use Rattle.design_core.specs.declared.driver.Clocked.{Clocked}
use Rattle.design_core.specs.Drives.{driver_drives, block_drives, is_listed}
use Rattle.design_core.specs.DrivenOnce.{IsDrivenOnce}
use Rattle.design_core.specs.WellFormed.{IsWellFormed, input_fits}
use Rattle.design_rules.specs.Entries.{driven_times}
use Rattle.design_rules.specs.OneDriver.{IsDrivenTwice}

-- how many of a list pass, by its first element
pub count_by-cons : {X : Type 0} (test : X → Bool) (x : X) (xs : List X) → count_by test (x ∷ xs) ≡ cond (test x) 1 0 + count_by test xs
count_by-cons test x xs = sum_by-cons (λ y. cond (test y) 1 0) x xs

-- one element that passes is counted
count_by-one : {X : Type 0} (test : X → Bool) (xs : List X) (i : ℕ) (x : X) → slice_get xs i ≡ Some x → test x ≡ true → 1 ≤ count_by test xs
count_by-one test [] i x is passes = absurd cc
count_by-one test (y ∷ ys) zero x is passes =
    let same : test y ≡ true = cc in
    let first = count-true (test y) same in
    omega (arith, first, count_by-cons test y ys)
count_by-one test (y ∷ ys) (suc i) x is passes = omega (arith, count_by-cons test y ys, count_by-one test ys i x is passes)

-- two that pass at two places are counted twice
count_by-two : {X : Type 0} (test : X → Bool) (xs : List X) (i j : ℕ) (x y : X) → slice_get xs i ≡ Some x → slice_get xs j ≡ Some y → test x ≡ true → test y ≡ true → i < j → 2 ≤ count_by test xs
count_by-two test [] i j x y is also one other below = absurd cc
count_by-two test (z ∷ zs) zero zero x y is also one other below = absurd (omega (arith, below))
count_by-two test (z ∷ zs) zero (suc j) x y is also one other below =
    let same : test z ≡ true = cc in
    let first = count-true (test z) same in
    omega (arith, first, count_by-cons test z zs, count_by-one test zs j y also other)
count_by-two test (z ∷ zs) (suc i) zero x y is also one other below = absurd (omega (arith, below))
count_by-two test (z ∷ zs) (suc i) (suc j) x y is also one other below =
    omega (arith, count_by-cons test z zs, count_by-two test zs i j x y is also one other (omega (arith, below)))

-- one is enough at an input, and two anywhere
two-enough : (b : Bool) (n : ℕ) → 2 ≤ n → (if b then 1 else 2) ≤ n
two-enough true n h = omega (arith, h)
two-enough false n h = h

one-enough : (b : Bool) (n : ℕ) → b ≡ true → 1 ≤ n → (if b then 1 else 2) ≤ n
one-enough true n is h = h
one-enough false n is h = absurd (false≢true is)

-- what all members pass, a member passes
listed-passes : (test : ℕ → Bool) (xs : List ℕ) (s : ℕ) → list_all test xs ≡ true → list_any (λ x. x == s) xs ≡ true → test s ≡ true
listed-passes test [] s all some = absurd (false≢true some)
listed-passes test (x ∷ xs) s all some =
    let parts = and_parts (test x) (list_all test xs) all in
    at parts.0 (or_cases (x == s) (list_any (λ y. y == s) xs) some) (λ later. listed-passes test xs s parts.1 later)
  where
    at : test x ≡ true → ((x == s) ≡ true) ⊎ (list_any (λ y. y == s) xs ≡ true) → (list_any (λ y. y == s) xs ≡ true → test s ≡ true) → test s ≡ true
    at first (inl here) behind = ap test (sym (equal-true x s here)) ∙ first
    at first (inr later) behind = behind later

-- two places that are not apart are one
same-place : (i j : ℕ) → (i < j → ⊥) → (j < i → ⊥) → i ≡ j
same-place i j below above = at (cases_order i j)
  where
    at : (i ≡ j) ⊎ ((i < j) ⊎ (j < i)) → i ≡ j
    at (inl same) = same
    at (inr (inl lt)) = absurd (below lt)
    at (inr (inr gt)) = absurd (above gt)

-- the element at the place of a member
member-at : {X : Type 0} (xs : List X) (k : ℕ) (x : X) → k < length xs → get_or xs k x ≡ x → slice_get xs k ≡ Some x
member-at xs k x below at = slice_get-at xs k x below (sym at)

twice-bad : (d : Design) (s b : ℕ) → ((s : ℕ) → ¬ IsDrivenTwice d s) → 2 ≤ driven_times d s b → ⊥
twice-bad d s b one times = one s (record { position = b; driven = two-enough (input_fits d.signals.items s) (driven_times d s b) times })

not-true : (b : Bool) → (b ≡ true → ⊥) → not b ≡ true
not-true true none = absurd (none refl)
not-true false none = refl

pub driven-once : (d : Design) → IsWellFormed d → ((s : ℕ) → ¬ IsDrivenTwice d s) → IsDrivenOnce d
driven-once d well one =
    let signals = d.signals.items in
    record {
      drivers = λ i j x y s b is also drives other.
          let two = λ (p q : ℕ) (v w : Driver) (at : slice_get d.drivers.items p ≡ Some v) (too : slice_get d.drivers.items q ≡ Some w)
          (first : driver_drives signals s b v ≡ true) (second : driver_drives signals s b w ≡ true) (below : p < q).
          count_by-two (driver_drives signals s b) d.drivers.items p q v w at too first second below in
          same-place i j
          (λ below. twice-bad d s b one (omega (arith, two i j x y is also drives other below)))
          (λ above. twice-bad d s b one (omega (arith, two j i y x also is other drives above)));
      inputs = λ driver s b (k, below, at) drives.
          not-true (is_listed d s) (λ listed.
          let input : input_fits signals s ≡ true = listed-passes (input_fits signals) d.inputs.items s well.inputs listed in
          let once : 1 ≤ count_by (driver_drives signals s b) d.drivers.items =
          count_by-one (driver_drives signals s b) d.drivers.items k driver (member-at d.drivers.items k driver below at) drives in
          one s (record { position = b; driven = one-enough (input_fits signals s) (driven_times d s b) input (omega (arith, once)) }));
      blocks = λ i j x y s b is also register drives other.
          let two = λ (p q : ℕ) (v w : Clocked) (at : slice_get d.clocked.items p ≡ Some v) (too : slice_get d.clocked.items q ≡ Some w)
          (first : block_drives signals s b v ≡ true) (second : block_drives signals s b w ≡ true) (below : p < q).
          count_by-two (block_drives signals s b) d.clocked.items p q v w at too first second below in
          same-place i j
          (λ below. twice-bad d s b one (omega (arith, two i j x y is also drives other below)))
          (λ above. twice-bad d s b one (omega (arith, two j i y x also is other drives above)));
    }
