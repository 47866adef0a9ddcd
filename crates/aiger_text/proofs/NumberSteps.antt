-- Numbers, digit by digit, and lines, number by number.
use Rattle.std.proofs.Common.{◌≡◌, ℕ, ◌+◌, ◌*◌, ◌^◌, ◌<◌, ◌≤◌, Bool, false, List, [], ◌∷◌, ◌++◌, length, get_or, Option, Some, None, refl, sym, ◌∙◌, ap, arith, add-one, append_assoc}
use Rattle.std.specs.List.{list_all}
use Rattle.std.specs.Option.{option_map, option_and_then}
use Rattle.std.proofs.Math.Nat.{pow-suc, pow-le-pow_right}
use Rattle.std.proofs.lemmas.List.Sums.{fold_more}
use Rattle.std.proofs.lemmas.List.Folds.{list_all_more}
use Rattle.std.proofs.lemmas.List.Recursion.{and_fails_at}
use Rattle.aiger_text.specs.Lines.{Parts, cut_at, words}
use Rattle.aiger_text.specs.Numbers.{number_in, each_number, numbers_in}
use Rattle.aiger_text.proofs.Splits.{split-cut, split-uncut}

-- one byte that is no digit
pub all_breaks : {X : Type 0} (p : X → Bool) (xs : List X) (i : ℕ) (d : X) → i < length xs → p (get_or xs i d) ≡ false → list_all p xs ≡ false
all_breaks p xs i d within fails = and_fails_at (list_all p) p refl (λ x rest. refl) xs i d within fails

-- a number of at most nine digits
pub few_digits : (number i : ℕ) → number < 10 ^ i → i < 10 → number < 1000000000
few_digits number i low few =
    let most : 10 ^ i ≤ 10 ^ 9 = pow-le-pow_right {n = 10} (omega arith) {i = i} {j = 9} (omega (arith, few)) in
    omega (arith, low, most)

-- one more digit
pub one_more : (number digit i : ℕ) → number < 10 ^ i → digit < 10 → number * 10 + digit < 10 ^ (i + 1)
one_more number digit i low small =
    let more : 10 ^ (i + 1) ≡ 10 ^ i * 10 = ap (λ k. 10 ^ k) (add-one i) ∙ pow-suc 10 i in
    omega (arith, low, small, more)

pub ruleset number_steps = (fold_more, list_all_more, all_breaks, few_digits, one_more)

-- the numbers that stand before the words of the rest, with those that these say
abbrev pub joined : List ℕ → List ℕ → Option (List ℕ)
joined numbers rest = option_map (λ more. numbers ++ more) (each_number (words rest))

joined-words : (numbers : List ℕ) (rest : List ℕ) (ws : List (List ℕ)) → words rest ≡ ws → joined numbers rest ≡ option_map (λ more. numbers ++ more) (each_number ws)
joined-words numbers rest ws is = ap (λ ws. option_map (λ more. numbers ++ more) (each_number ws)) is

-- one number more
pub joined-more : (numbers rest : List ℕ) (p : Parts) (n : ℕ) → cut_at 32 rest ≡ Some p → number_in p.front ≡ Some n
    → joined numbers rest ≡ joined (numbers ++ n ∷ []) p.back
joined-more numbers rest p n cut is =
    joined-words numbers rest _ (split-cut 32 rest p cut)
    ∙ ap (λ o. option_map (λ more. numbers ++ more) (option_and_then (λ k. option_map (λ ks. k ∷ ks) (each_number (words p.back))) o)) is
    ∙ at (each_number (words p.back))
  where
    at : (o : Option (List ℕ)) → option_map (λ more. numbers ++ more) (option_map (λ ks. n ∷ ks) o) ≡ option_map (λ more. (numbers ++ n ∷ []) ++ more) o
    at None = refl
    at (Some ks) = ap Some (sym (append_assoc numbers (n ∷ []) ks))

-- a word that is no number
pub joined-stops : (numbers rest : List ℕ) (p : Parts) → cut_at 32 rest ≡ Some p → number_in p.front ≡ None → joined numbers rest ≡ None
joined-stops numbers rest p cut is =
    joined-words numbers rest _ (split-cut 32 rest p cut)
    ∙ ap (λ o. option_map (λ more. numbers ++ more) (option_and_then (λ k. option_map (λ ks. k ∷ ks) (each_number (words p.back))) o)) is

-- the last word
pub joined-last : (numbers rest : List ℕ) (n : ℕ) → cut_at 32 rest ≡ None → number_in rest ≡ Some n → joined numbers rest ≡ Some (numbers ++ n ∷ [])
joined-last numbers rest n cut is =
    joined-words numbers rest _ (split-uncut 32 rest cut)
    ∙ ap (λ o. option_map (λ more. numbers ++ more) (option_and_then (λ k. option_map (λ ks. k ∷ ks) (Some [])) o)) is

pub joined-fails : (numbers rest : List ℕ) → cut_at 32 rest ≡ None → number_in rest ≡ None → joined numbers rest ≡ None
joined-fails numbers rest cut is =
    joined-words numbers rest _ (split-uncut 32 rest cut)
    ∙ ap (λ o. option_map (λ more. numbers ++ more) (option_and_then (λ k. option_map (λ ks. k ∷ ks) (Some [])) o)) is

-- all words are left at first
pub joined-none : (line : List ℕ) → numbers_in line ≡ joined [] line
joined-none line = at (numbers_in line)
  where
    at : (o : Option (List ℕ)) → o ≡ option_map (λ more. [] ++ more) o
    at None = refl
    at (Some ks) = refl

pub ruleset line_steps = (joined-more, joined-stops, joined-last, joined-fails, joined-none)
