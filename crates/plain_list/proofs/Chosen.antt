-- How the combinations of some numbers are made of those without the first.
use Rattle.std.proofs.Common.{◌≡◌, ◌≢◌, ℕ, zero, suc, ◌+◌, ◌-◌, List, [], ◌∷◌, ◌++◌, refl, ap, sym, ◌∙◌, append_assoc, append-nil, arith, sub-one}
use Rattle.plain_list.specs.Candidates.{combinations, numbers_from, candidates_of, behind}

pub behind-append : (members : List ℕ) (one other : List (List ℕ)) → behind members (one ++ other) ≡ behind members one ++ behind members other
behind-append members [] other = refl
behind-append members (set ∷ one) other = ap (λ sets. (members ++ set) ∷ sets) (behind-append members one other)

pub behind-behind : (members : List ℕ) (x : ℕ) (sets : List (List ℕ)) → behind (members ++ x ∷ []) sets ≡ behind members (behind (x ∷ []) sets)
behind-behind members x [] = refl
behind-behind members x (set ∷ sets) = cc_step (append_assoc members (x ∷ []) set) (behind-behind members x sets)
  where
    cc_step : (members ++ x ∷ []) ++ set ≡ members ++ ((x ∷ []) ++ set) → behind (members ++ x ∷ []) sets ≡ behind members (behind (x ∷ []) sets)
        → ((members ++ x ∷ []) ++ set) ∷ behind (members ++ x ∷ []) sets ≡ (members ++ ((x ∷ []) ++ set)) ∷ behind members (behind (x ∷ []) sets)
    cc_step h t = cc

pub numbers_from-none : (first : ℕ) → numbers_from first 0 ≡ []
unfolding numbers_from
numbers_from-none first = refl

pub numbers_from-some : (first count : ℕ) → count ≢ 0 → numbers_from first count ≡ first ∷ numbers_from (first + 1) (count - 1)
unfolding numbers_from
numbers_from-some first zero h = absurd (h refl)
numbers_from-some first (suc count) h = rw sub-one refl

pub behind-nil : (sets : List (List ℕ)) → behind [] sets ≡ sets
behind-nil [] = refl
behind-nil (set ∷ sets) = ap (λ rest. set ∷ rest) (behind-nil sets)

-- nothing more is chosen
pub chosen-done : (sets : List (List ℕ)) (members numbers : List ℕ) → sets ++ members ∷ [] ≡ sets ++ behind members (combinations 0 numbers)
chosen-done sets members numbers = rw (append-nil members) refl

-- there is nothing left to choose from
pub chosen-none : (sets : List (List ℕ)) (members : List ℕ) (size first : ℕ) → size ≢ 0
    → sets ≡ sets ++ behind members (combinations size (numbers_from first 0))
chosen-none sets members zero first h = absurd (h refl)
chosen-none sets members (suc size) first h = rw (numbers_from-none first, append-nil sets) refl

-- first the sets that have the first number, then the others
pub chosen-some : (old mid new : List (List ℕ)) (members : List ℕ) (size first count rest : ℕ) → size ≢ 0 → count ≢ 0 → rest ≡ count - 1
    → mid ≡ old ++ behind (members ++ first ∷ []) (combinations (size - 1) (numbers_from (first + 1) rest))
    → new ≡ mid ++ behind members (combinations size (numbers_from (first + 1) rest))
    → new ≡ old ++ behind members (combinations size (numbers_from first count))
chosen-some old mid new members zero first count rest s c r m n = absurd (s refl)
chosen-some old mid new members (suc size) first count rest s c r m n = split (m ∙ ap (λ k. old ++ behind (members ++ first ∷ []) (combinations k numbers)) less)
  where
    numbers : List ℕ
    numbers = numbers_from (first + 1) rest

    less : suc size - 1 ≡ size
    less = omega arith

    all : numbers_from first count ≡ first ∷ numbers
    all = numbers_from-some first count c ∙ ap (λ k. first ∷ numbers_from (first + 1) k) (sym r)

    split : mid ≡ old ++ behind (members ++ first ∷ []) (combinations size numbers)
        → new ≡ old ++ behind members (combinations (suc size) (numbers_from first count))
    split m' =
        rw (n, m', all, behind-behind members first (combinations size numbers), behind-append members (behind (first ∷ []) (combinations size numbers)) (combinations (suc size) numbers))
        (append_assoc old (behind members (behind (first ∷ []) (combinations size numbers))) (behind members (combinations (suc size) numbers)))

-- the candidates of a size after those of the sizes below it
pub candidates_of-next : (n size : ℕ) → size ≢ 0 → candidates_of n size ≡ candidates_of n (size - 1) ++ behind [] (combinations size (numbers_from 1 n))
unfolding candidates_of
candidates_of-next n zero h = absurd (h refl)
candidates_of-next n (suc size) h =
    let less : suc size - 1 ≡ size = omega arith in
    rw (less, behind-nil (combinations (suc size) (numbers_from 1 n))) refl

pub candidates_of-first : (n : ℕ) → candidates_of n 0 ≡ [] ++ behind [] (combinations 0 (numbers_from 1 n))
unfolding candidates_of
candidates_of-first n = refl

pub ruleset chosen_rules = (chosen-done, chosen-none, chosen-some)

pub ruleset candidate_rules = (candidates_of-next, candidates_of-first)
