-- Laws of the first that passes a test.
use Rattle.std.proofs.Common.{◌≡◌, ℕ, ◌+◌, ◌<◌, ◌≤◌, Bool, true, false, List, [], ◌∷◌, ◌++◌, length, map, Option, Some, None, if◌then◌else◌, refl, sym, ◌∙◌, ap, arith, inl, inr}
use Rattle.std.specs.Prelude.{unwrap_or}
use Rattle.std.specs.List.{list_any}
use Rattle.std.proofs.lemmas.Bool.{cases_Bool, cond-true, cond-false, false≢true}
use Rattle.std.proofs.lemmas.Option.{same_Some, none-some}
use Rattle.suspect_map.specs.Grouping.{first_at}

-- the first of a list and one more
abbrev pub first_or : Option ℕ → Bool → ℕ → Option ℕ
first_or (Some first) passes number = Some first
first_or None passes number = if passes then Some number else None

pub first_or-false : (first : Option ℕ) (number : ℕ) → first_or first false number ≡ first
first_or-false (Some first) number = refl
first_or-false None number = refl

pub first_or-true : (first : Option ℕ) (number : ℕ) → first_or first true number ≡ Some (unwrap_or first number)
first_or-true (Some first) number = refl
first_or-true None number = refl

-- one more
pub first_at-push : {A : Type 0} (test : A → Bool) (at : ℕ) (xs : List A) (x : A) → first_at test at (xs ++ x ∷ []) ≡ first_or (first_at test at xs) (test x) (at + length xs)
first_at-push test at [] x = ap (λ n. if test x then Some n else None) (omega arith)
first_at-push test at (y ∷ ys) x =
    elim (cases_Bool (test y)) [
      | inl e ↦ rw e refl
      | inr e ↦ rw e (first_at-push test (at + 1) ys x ∙ ap (first_or (first_at test (at + 1) ys) (test x)) (omega arith))
    ]

-- the first, one that passes being given
pub first_at-found : {A : Type 0} (test : A → Bool) (at : ℕ) (xs : List A) (x : A) (ys : List A) → test x ≡ true
    → first_at test at (xs ++ x ∷ ys) ≡ Some (unwrap_or (first_at test at xs) (at + length xs))
first_at-found test at [] x ys passes = rw passes (ap Some (omega arith))
first_at-found test at (y ∷ rest) x ys passes =
    elim (cases_Bool (test y)) [
      | inl e ↦ rw e refl
      | inr e ↦ rw e (first_at-found test (at + 1) rest x ys passes ∙ ap (λ n. Some (unwrap_or (first_at test (at + 1) rest) n)) (omega arith))
    ]

-- where none passes there is no first
pub first_at-none : {A : Type 0} (test : A → Bool) (at : ℕ) (xs : List A) → list_any test xs ≡ false → first_at test at xs ≡ None
first_at-none test at [] none = refl
first_at-none test at (y ∷ ys) none =
    elim (cases_Bool (test y)) [
      | inl e ↦ absurd (false≢true (sym none ∙ rw e refl))
      | inr e ↦ rw e (first_at-none test (at + 1) ys (sym (rw e refl) ∙ none))
    ]

-- a first that is found, and where
pub record IsFirst (first : Option ℕ) (least most : ℕ) : Type 0 where
  pub number : ℕ
  pub is : first ≡ Some number
  pub from : least ≤ number
  pub below : number < most

-- where one passes there is a first, within the list
pub first_at-some : {A : Type 0} (test : A → Bool) (at : ℕ) (xs : List A) → list_any test xs ≡ true → IsFirst (first_at test at xs) at (at + length xs)
first_at-some test at [] some = absurd (false≢true some)
first_at-some test at (y ∷ ys) some =
    elim (cases_Bool (test y)) [
      | inl e ↦ record { number = at; is = cond-true _ _ _ e; from = omega arith; below = omega arith }
      | inr e ↦
          let rest : IsFirst (first_at test (at + 1) ys) (at + 1) (at + 1 + length ys) = first_at-some test (at + 1) ys (sym (rw e refl) ∙ some) in
          record { number = rest.number; is = cond-false _ _ _ e ∙ rest.is; from = omega (arith, rest.from); below = omega (arith, rest.below) }
    ]

-- a first is none of the numbers before the list's
pub first_at-least : {A : Type 0} (test : A → Bool) (at : ℕ) (xs : List A) (number : ℕ) → first_at test at xs ≡ Some number → at ≤ number
first_at-least test at [] number is = absurd (none-some number is)
first_at-least test at (y ∷ ys) number is =
    elim (cases_Bool (test y)) [
      | inl e ↦
          let same : at ≡ number = same_Some _ _ (sym (rw e refl) ∙ is) in
          omega (arith, same)
      | inr e ↦
          let later : at + 1 ≤ number = first_at-least test (at + 1) ys number (sym (rw e refl) ∙ is) in
          omega (arith, later)
    ]

-- what is first passes
pub first_at-passes : {A : Type 0} (test : A → Bool) (at : ℕ) (xs : List A) (x : A) (ys : List A) (number : ℕ) → number ≡ at + length xs
    → first_at test at (xs ++ x ∷ ys) ≡ Some number → test x ≡ true
first_at-passes test at [] x ys number there is =
    elim (cases_Bool (test x)) [
      | inl e ↦ e
      | inr e ↦
          let later : at + 1 ≤ number = first_at-least test (at + 1) ys number (sym (rw e refl) ∙ is) in
          absurd (omega (arith, later, there))
    ]
first_at-passes test at (y ∷ rest) x ys number there is =
    elim (cases_Bool (test y)) [
      | inl e ↦
          let same : at ≡ number = same_Some _ _ (sym (rw e refl) ∙ is) in
          absurd (omega (arith, same, there))
      | inr e ↦ first_at-passes test (at + 1) rest x ys number (omega (arith, there)) (sym (rw e refl) ∙ is)
    ]

-- the first of images
pub first_at-map : {A B : Type 0} (test : B → Bool) (f : A → B) (at : ℕ) (xs : List A) → first_at test at (map f xs) ≡ first_at (λ x. test (f x)) at xs
first_at-map test f at [] = refl
first_at-map test f at (x ∷ xs) = ap (λ later. if test (f x) then Some at else later) (first_at-map test f (at + 1) xs)
