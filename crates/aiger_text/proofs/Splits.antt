-- A list of bytes cut at the first byte of a kind, and split at each of them.
use Rattle.std.proofs.Common.{◌≡◌, ℕ, suc, ◌+◌, ◌<◌, ◌≤◌, ◌==◌, Bool, true, false, not, cond, List, [], ◌∷◌, length, Some, None, refl, sym, ◌∙◌, ap, arith, inl, inr}
use Rattle.std.specs.Prelude.{nat_lt}
use Rattle.std.specs.List.{slice_split, onto_first, position_or_len, before_first, after_first}
use Rattle.std.proofs.lemmas.Bool.{cases_lt, cond-true}
use Rattle.std.proofs.lemmas.Bool.Decides.{nat_tests}
use Rattle.std.proofs.lemmas.Option.{cond_some, none-some}
use Rattle.std.proofs.lemmas.List.Splits.{slice_split_first}
use Rattle.aiger_text.specs.Lines.{Parts, cut_at}

-- some part is there
pub slice_split-some : (p : ℕ → Bool) (xs : List ℕ) → (part : List ℕ) × (parts : List (List ℕ)) × (slice_split p xs ≡ part ∷ parts)
slice_split-some p [] = ([], [], refl)
slice_split-some p (x ∷ xs) = at (p x) (slice_split p xs) (slice_split-some p xs)
  where
    at : (b : Bool) (rest : List (List ℕ)) → (part : List ℕ) × (parts : List (List ℕ)) × (rest ≡ part ∷ parts)
        → (part : List ℕ) × (parts : List (List ℕ)) × (cond b ([] ∷ rest) (onto_first x rest) ≡ part ∷ parts)
    at true rest some = ([], rest, refl)
    at false rest (part, parts, is) = (x ∷ part, parts, ap (onto_first x) is)

-- the list is the one part where no element passes
pub slice_split-whole : (p : ℕ → Bool) (xs : List ℕ) → length xs ≤ position_or_len p xs → slice_split p xs ≡ xs ∷ []
slice_split-whole p [] none = refl
slice_split-whole p (x ∷ xs) none = at (p x) none (λ few. slice_split-whole p xs few)
  where
    at : (b : Bool) → suc (length xs) ≤ cond (not b) (1 + position_or_len p xs) 0 → (length xs ≤ position_or_len p xs → slice_split p xs ≡ xs ∷ [])
        → cond b ([] ∷ slice_split p xs) (onto_first x (slice_split p xs)) ≡ (x ∷ xs) ∷ []
    at true few rest = absurd (omega (arith, few))
    at false few rest = ap (onto_first x) (rest (omega (arith, few)))

-- a list that is cut
pub split-cut : (byte : ℕ) (xs : List ℕ) (p : Parts) → cut_at byte xs ≡ Some p → slice_split (λ b. b == byte) xs ≡ p.front ∷ slice_split (λ b. b == byte) p.back
split-cut byte xs p is =
    let whole : Parts = record { front = before_first (λ b. b == byte) xs; back = after_first (λ b. b == byte) xs } in
    let parts : (nat_lt (position_or_len (λ b. b == byte) xs) (length xs) ≡ true) × (whole ≡ p) = cond_some _ whole p is in
    let test : nat_lt (position_or_len (λ b. b == byte) xs) (length xs) ≡ true = parts.0 in
    let within : position_or_len (λ b. b == byte) xs < length xs = grind (arith, nat_tests) in
    slice_split_first (λ b. b == byte) xs 0 within ∙ ap (λ (q : Parts). q.front ∷ slice_split (λ b. b == byte) q.back) parts.1

-- a list that isn't
pub split-uncut : (byte : ℕ) (xs : List ℕ) → cut_at byte xs ≡ None → slice_split (λ b. b == byte) xs ≡ xs ∷ []
split-uncut byte xs is =
    elim (cases_lt (position_or_len (λ b. b == byte) xs) (length xs)) [
      | inl within ↦
          let test : nat_lt (position_or_len (λ b. b == byte) xs) (length xs) ≡ true = grind (arith, nat_tests) in
          absurd (none-some _ (sym is ∙ cond-true _ _ _ test))
      | inr past ↦ slice_split-whole (λ b. b == byte) xs past
    ]
