-- The first byte of a kind, byte by byte, and what stands around it.
use Rattle.std.proofs.Common.{◌≡◌, ℕ, ◌+◌, ◌<◌, ◌==◌, true, false, List, length, get_or, take, drop, Some, None, sym, ◌∙◌, ap, arith}
use Rattle.std.specs.Prelude.{nat_lt, slice_range}
use Rattle.std.specs.List.{position_or_len, before_first, after_first}
use Rattle.std.proofs.lemmas.Bool.{cond-true, cond-false}
use Rattle.std.proofs.lemmas.Bool.Decides.{nat_tests}
use Rattle.std.proofs.lemmas.List.Sums.{position_or_len_is}
use Rattle.std.proofs.lemmas.Slice.{between_from_start, between_to_end}
use Rattle.aiger_text.specs.Lines.{Parts, cut_at}

-- a place before which no byte is of the kind, and at which one is
pub place-found : (byte i : ℕ) (xs : List ℕ) → i < length xs → ((k : ℕ) → k < i → (get_or xs k 0 == byte) ≡ false)
    → (get_or xs i 0 == byte) ≡ true → i ≡ position_or_len (λ b. b == byte) xs
place-found byte i xs within before here = sym (position_or_len_is (λ b. b == byte) xs i 0 (omega arith) before (λ below. here))

-- no byte is of the kind
pub place-none : (byte i : ℕ) (xs : List ℕ) → i ≡ length xs → ((k : ℕ) → k < i → (get_or xs k 0 == byte) ≡ false)
    → i ≡ position_or_len (λ b. b == byte) xs
place-none byte i xs all before = sym (position_or_len_is (λ b. b == byte) xs i 0 (omega arith) before (λ below. absurd (omega arith)))

pub ruleset place_steps = (place-found, place-none)

-- a list cut at the place of its first byte of a kind
pub cut-some : (byte place : ℕ) (xs front back : List ℕ) → place ≡ position_or_len (λ b. b == byte) xs → place < length xs
    → front ≡ slice_range xs 0 place → back ≡ slice_range xs (place + 1) (length xs) → cut_at byte xs ≡ Some (record { front = front; back = back })
cut-some byte place xs front back is within before behind =
    let test : nat_lt (position_or_len (λ b. b == byte) xs) (length xs) ≡ true = grind (arith, nat_tests) in
    let first : before_first (λ b. b == byte) xs ≡ front = ap (λ n. take n xs) (sym is) ∙ sym (between_from_start xs place) ∙ sym before in
    let rest : after_first (λ b. b == byte) xs ≡ back = ap (λ n. drop (n + 1) xs) (sym is) ∙ sym (between_to_end xs (place + 1) (length xs) (omega arith)) ∙ sym behind in
    let made : List ℕ → List ℕ → Parts = λ front back. record { front = front; back = back } in
    cond-true _ _ _ test ∙ ap (λ f. Some (made f (after_first (λ b. b == byte) xs))) first ∙ ap (λ b. Some (made front b)) rest

-- a list without one
pub cut-none : (byte place : ℕ) (xs : List ℕ) → place ≡ position_or_len (λ b. b == byte) xs → place ≡ length xs → cut_at byte xs ≡ None
cut-none byte place xs is past =
    let test : nat_lt (position_or_len (λ b. b == byte) xs) (length xs) ≡ false = grind (arith, nat_tests) in
    cond-false _ _ _ test

pub ruleset cut_steps = (cut-some, cut-none)
