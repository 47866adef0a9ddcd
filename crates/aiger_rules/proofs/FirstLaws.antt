-- The first key that is a given one, key by key.
use Rattle.std.proofs.Common.{◌≡◌, ℕ, ◌+◌, ◌<◌, ◌==◌, Bool, true, false, List, [], ◌∷◌, ◌++◌, length, take, map, get_or, Option, Some, None, if◌then◌else◌, refl, sym, ◌∙◌, ap, arith, ◌⊎◌, inl, inr}
use Rattle.std.specs.Prelude.{unwrap_or}
use Rattle.std.proofs.lemmas.Bool.{cases_Bool, cond-true, cond-false}
use Rattle.loc_base.proofs.ShelfBools.{equal-true}
use Rattle.std.proofs.lemmas.List.{length-take-le, length-map}
use Rattle.loc_base.proofs.ShelfLists.{map-take_at}
use Rattle.aiger_rules.specs.First.{first_at, is_key, first_of, with_place}

-- a first among some keys, or at one more
abbrev pub first_or : Option ℕ → Bool → ℕ → Option ℕ
first_or first passes place = if passes then Some (unwrap_or first place) else first

-- one more element
pub first_at-push : {A : Type 0} (test : A → Bool) (at : ℕ) (xs : List A) (x : A)
    → first_at test at (xs ++ x ∷ []) ≡ first_or (first_at test at xs) (test x) (at + length xs)
first_at-push test at [] x = ap (λ n. if test x then Some n else None) (omega arith)
first_at-push test at (y ∷ ys) x =
    elim (cases_Bool (test y)) [
      | inl e ↦ rw e (known (test x))
      | inr e ↦ rw e (first_at-push test (at + 1) ys x ∙ ap (first_or (first_at test (at + 1) ys) (test x)) (omega arith))
    ]
  where
    known : (passes : Bool) → Some at ≡ first_or (Some at) passes (at + length (y ∷ ys))
    known true = refl
    known false = refl

-- the first of some keys, one element more being looked at
pub first_of-more : {A : Type 0} (key_of : A → Option ℕ) (xs : List A) (number : ℕ) (x : A) (key : ℕ) → number < length xs → x ≡ get_or xs number x
    → first_of (map key_of (take (number + 1) xs)) key ≡ first_or (first_of (map key_of (take number xs)) key) (is_key key (key_of x)) number
first_of-more key_of xs number x key within is =
    let long : length (map key_of (take number xs)) ≡ number = length-map (take number xs) key_of ∙ length-take-le number xs (omega arith) in
    ap (λ keys. first_of keys key) (map-take_at key_of xs number x within is)
    ∙ first_at-push (is_key key) 0 (map key_of (take number xs)) (key_of x)
    ∙ ap (first_or (first_of (map key_of (take number xs)) key) (is_key key (key_of x))) (omega (arith, long))

-- a table of first places, one element more being met
pub with_place-first : {A : Type 0} (key_of : A → Option ℕ) (xs : List A) (number : ℕ) (x : A) (key : ℕ) (old : ℕ → Option ℕ) → number < length xs
    → x ≡ get_or xs number x → ((k : ℕ) → old k ≡ first_of (map key_of (take number xs)) k)
    → with_place old (key_of x) number key ≡ first_of (map key_of (take (number + 1) xs)) key
with_place-first key_of xs number x key old within is same =
    at (key_of x) ∙ sym (first_of-more key_of xs number x key within is)
  where
    met : (own : ℕ) → ((own == key) ≡ true) ⊎ ((own == key) ≡ false)
        → with_place old (Some own) number key ≡ first_or (first_of (map key_of (take number xs)) key) (is_key key (Some own)) number
    met own (inl e) =
        let own_is : own ≡ key = equal-true own key e in
        cond-true _ _ _ e ∙ ap (λ o. Some (unwrap_or o number)) (same own ∙ ap (first_of (map key_of (take number xs))) own_is) ∙ sym (cond-true _ _ _ e)
    met own (inr e) = cond-false _ _ _ e ∙ same key ∙ sym (cond-false _ _ _ e)

    at : (one : Option ℕ) → with_place old one number key ≡ first_or (first_of (map key_of (take number xs)) key) (is_key key one) number
    at None = same key
    at (Some own) = met own (cases_Bool (own == key))

pub ruleset first_steps = (with_place-first)
