-- Steps of the loops that find the first of each key.
use Rattle.std.proofs.Common.{◌≡◌, ℕ, ◌+◌, ◌<◌, Bool, List, ◌∷◌, ◌++◌, length, get_or, take, drop, map, Option, Some, None, refl, sym, ◌∙◌, ap, arith, inl, inr, nat_eq}
use Rattle.std.specs.Prelude.{unwrap_or, Decides}
use Rattle.std.proofs.lemmas.Bool.{cases_Bool, eqb-true, eq-eqb}
use Rattle.std.proofs.lemmas.List.{take-append-drop, length-take-le}
use Rattle.std.proofs.lemmas.Slice.Eq.{bytes_eq-Decides}
use Rattle.std.specs.Cmp.Lexicographic.{pointwise}
use Rattle.loc_base.proofs.ShelfLists.{take-at, drop-at}
use Rattle.suspect_map.specs.Grouping.{first_at, is_same, first_by, met, after}
use Rattle.suspect_map.proofs.FirstLaws.{first_or, first_or-false, first_or-true, first_at-push, first_at-found}

-- a list, parted at one of its elements
pub parted : {A : Type 0} (xs : List A) (i : ℕ) (x : A) → i < length xs → x ≡ get_or xs i x → take i xs ++ x ∷ drop (i + 1) xs ≡ xs
parted xs i x within is = ap (λ rest. take i xs ++ rest) (sym (drop-at xs i x within is)) ∙ take-append-drop i xs

-- numbers are the same where their test says so
pub same_number : (a b : ℕ) → Decides (nat_eq a b) (a ≡ b)
same_number a b = (eqb-true a b, eq-eqb a b)

module _ {K : Type 0} (same : K → K → Bool) (decides : (a b : K) → Decides (same a b) (a ≡ b)) where
  -- the number of a key that is met is that of the first that is the same
  pub met-first : (keys : List (Option K)) (i : ℕ) (key : Option K) (numbers : K → Option ℕ) → i < length keys → key ≡ get_or keys i key
      → ((q : K) → numbers q ≡ first_at (is_same same q) 0 (take i keys)) → met numbers i key ≡ first_by same keys key
  met-first keys i None numbers within is table = refl
  met-first keys i (Some k) numbers within is table =
      let long : length (take i keys) ≡ i = length-take-le i keys (omega (arith, within)) in
      let found : first_at (is_same same k) 0 (take i keys ++ Some k ∷ drop (i + 1) keys) ≡ Some (unwrap_or (first_at (is_same same k) 0 (take i keys)) (0 + length (take i keys))) =
      first_at-found (is_same same k) 0 (take i keys) (Some k) (drop (i + 1) keys) ((decides k k).1 refl) in
      let whole : first_at (is_same same k) 0 (take i keys ++ Some k ∷ drop (i + 1) keys) ≡ first_at (is_same same k) 0 keys =
      ap (first_at (is_same same k) 0) (parted keys i (Some k) within is) in
      let number : 0 + length (take i keys) ≡ i = omega (arith, long) in
      ap (λ first. Some (unwrap_or first i)) (table k) ∙ ap (λ n. Some (unwrap_or (first_at (is_same same k) 0 (take i keys)) n)) (sym number) ∙ sym found ∙ whole

  after-key : (i : ℕ) (key : Option K) (numbers : K → Option ℕ) (q : K) → after same numbers i key q ≡ first_or (numbers q) (is_same same q key) i
  after-key i None numbers q = sym (first_or-false (numbers q) i)
  after-key i (Some k) numbers q =
      elim (cases_Bool (same k q)) [
        | inl e ↦ rw e (ap (λ x. Some (unwrap_or (numbers x) i)) ((decides k q).0 e) ∙ sym (first_or-true (numbers q) i))
        | inr e ↦ rw e (sym (first_or-false (numbers q) i))
      ]

  -- and the table is that of one key more
  pub after-first : (keys : List (Option K)) (i : ℕ) (key : Option K) (numbers : K → Option ℕ) (q : K) → i < length keys → key ≡ get_or keys i key
      → numbers q ≡ first_at (is_same same q) 0 (take i keys) → after same numbers i key q ≡ first_at (is_same same q) 0 (take (i + 1) keys)
  after-first keys i key numbers q within is table =
      let long : length (take i keys) ≡ i = length-take-le i keys (omega (arith, within)) in
      let number : i ≡ 0 + length (take i keys) = omega (arith, long) in
      after-key i key numbers q ∙ ap (λ first. first_or first (is_same same q key) i) table
      ∙ ap (first_or (first_at (is_same same q) 0 (take i keys)) (is_same same q key)) number
      ∙ sym (first_at-push (is_same same q) 0 (take i keys) key) ∙ ap (first_at (is_same same q) 0) (sym (take-at keys i key within is))

-- names are the same where their bytes are
pub same_name : (a b : List ℕ) → Decides (pointwise nat_eq a b) (a ≡ b)
same_name a b = bytes_eq-Decides a b
