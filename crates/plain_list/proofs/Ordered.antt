-- The candidates are all sets of at most k of the numbers 1 to n, in order.
use Rattle.std.proofs.Common.{◌≡◌, ℕ, zero, suc, ◌+◌, ◌<◌, ◌≤◌, inl, inr, true, List, [], ◌∷◌, length, refl, sym, ◌∙◌, subst, arith, get_or}
use Rattle.std.specs.Prelude.{slice_index}
use Rattle.std.proofs.Math.Nat.{eq-or-lt_of_le}
use Rattle.std.specs.Prelude.{All, AllPairs, Contains}
use Rattle.std.specs.List.Sorted.{IsStrictlyIncreasing}
use Rattle.std.proofs.lemmas.List.Elements.{All-nil, All-cons, All-head, All-tail, All-append, Contains-append_left, Contains-append_right}
use Rattle.std.proofs.lemmas.Grind.{common_steps}
use Rattle.loc_base.proofs.ShelfBools.{suc-add_one}
use Rattle.loc_base.specs.Sets.{is_lower, is_before}
use Rattle.plain_list.specs.Candidates.{combinations, numbers_from, candidates_of}
use Rattle.plain_list.proofs.Rising.{Rises, IsChosen, IsLower, All-implied, AllPairs-append, combinations-each, combinations-ordered, combinations-complete}

-- a set of at most so many of the numbers 1 to n
abbrev pub IsCandidate : ℕ → ℕ → List ℕ → Type 0
IsCandidate n size set = Rises 1 (1 + n) set × (length set ≤ size)

pub candidates-each : (n size : ℕ) → All (IsCandidate n size) (candidates_of n size)
unfolding candidates_of
candidates-each n zero = All-implied (IsChosen 1 (1 + n) 0) (IsCandidate n 0) (combinations 0 (numbers_from 1 n)) (λ set h. (h.0, omega (arith, h.1))) (combinations-each 0 1 n)
candidates-each n (suc size) =
    All-append (IsCandidate n (suc size)) (candidates_of n size) (combinations (suc size) (numbers_from 1 n))
    (All-implied (IsCandidate n size) (IsCandidate n (suc size)) (candidates_of n size) (λ set h. (h.0, omega (arith, h.1))) (candidates-each n size))
    (All-implied (IsChosen 1 (1 + n) (suc size)) (IsCandidate n (suc size)) (combinations (suc size) (numbers_from 1 n)) (λ set h. (h.0, omega (arith, h.1))) (combinations-each (suc size) 1 n))

abbrev pub IsBefore : List ℕ → List ℕ → Type 0
IsBefore one other = is_before one other ≡ true

pub is_before-shorter : (one other : List ℕ) → length one < length other → is_before one other ≡ true
is_before-shorter one other h = grind (arith, common_steps)

pub is_before-lower : (one other : List ℕ) → length one ≡ length other → is_lower one other ≡ true → is_before one other ≡ true
is_before-lower one other e h = grind (arith, common_steps)

pub AllPairs-implied : {X : Type 0} (R S : X → X → Type 0) (P : X → Type 0) (xs : List X) → ((a b : X) → P a → P b → R a b → S a b) → All P xs → AllPairs R xs → AllPairs S xs
AllPairs-implied R S P xs f a r i j d h k = f (get_or xs i d) (get_or xs j d) (a i d (omega (arith, h, k))) (a j d k) (r i j d h k)

pub combinations-before : (size n : ℕ) → AllPairs IsBefore (combinations size (numbers_from 1 n))
combinations-before size n =
    AllPairs-implied IsLower IsBefore (IsChosen 1 (1 + n) size) (combinations size (numbers_from 1 n))
    (λ a b p q h. is_before-lower a b (p.1 ∙ sym q.1) h) (combinations-each size 1 n) (combinations-ordered size 1 n)

pub candidates-ordered : (n size : ℕ) → AllPairs IsBefore (candidates_of n size)
unfolding candidates_of
candidates-ordered n zero = combinations-before 0 n
candidates-ordered n (suc size) =
    AllPairs-append IsBefore (candidates_of n size) (combinations (suc size) (numbers_from 1 n))
    (candidates-ordered n size)
    (combinations-before (suc size) n)
    (All-implied (IsCandidate n size) (λ one. All (IsBefore one) (combinations (suc size) (numbers_from 1 n))) (candidates_of n size)
    (λ one h. All-implied (IsChosen 1 (1 + n) (suc size)) (IsBefore one) (combinations (suc size) (numbers_from 1 n)) (λ other g. is_before-shorter one other (omega (arith, h.1, g.1))) (combinations-each (suc size) 1 n))
    (candidates-each n size))

pub candidates-complete : (n size : ℕ) (set : List ℕ) → IsCandidate n size set → Contains (candidates_of n size) set
unfolding candidates_of
candidates-complete n zero set h =
    let chosen : IsChosen 1 (1 + n) 0 set = (h.0, omega (arith, h.1)) in combinations-complete 0 1 n set chosen
candidates-complete n (suc size) set h =
    elim (eq-or-lt_of_le h.1) [
      | inl same ↦ Contains-append_right (candidates_of n size) (combinations (suc size) (numbers_from 1 n)) set (combinations-complete (suc size) 1 n set (largest same))
      | inr less ↦ Contains-append_left (candidates_of n size) (combinations (suc size) (numbers_from 1 n)) set (candidates-complete n size set (smaller less))
    ]
  where
    largest : length set ≡ suc size → IsChosen 1 (1 + n) (suc size) set
    largest same = (h.0, same)

    smaller : length set < suc size → IsCandidate n size set
    smaller less = (h.0, omega (arith, less))

-- a set of suspects is a rising list of their numbers, and the other way round
pub Rises-IsStrictlyIncreasing : (low high : ℕ) (set : List ℕ) → Rises low high set → IsStrictlyIncreasing set
Rises-IsStrictlyIncreasing low high [] r k h = absurd (omega (arith, h))
Rises-IsStrictlyIncreasing low high (x ∷ []) r k h = absurd (omega (arith, h))
Rises-IsStrictlyIncreasing low high (x ∷ y ∷ set) r zero h = omega (arith, r.2.0)
Rises-IsStrictlyIncreasing low high (x ∷ y ∷ set) r (suc k) h =
    subst (λ m. slice_index (x ∷ y ∷ set) (suc k) < slice_index (x ∷ y ∷ set) m) (suc-add_one k)
    (Rises-IsStrictlyIncreasing (x + 1) high (y ∷ set) r.2 k (omega (arith, h)))

abbrev pub IsNumber : ℕ → ℕ → Type 0
IsNumber high suspect = (1 ≤ suspect) × (suspect ≤ high)

pub Rises-numbers : (low n : ℕ) (set : List ℕ) → 1 ≤ low → Rises low (1 + n) set → All (IsNumber n) set
Rises-numbers low n [] h r = All-nil (IsNumber n)
Rises-numbers low n (x ∷ set) h r =
    let number : IsNumber n x = (omega (arith, h, r.0), omega (arith, r.1)) in
    All-cons (IsNumber n) x set number (Rises-numbers (x + 1) n set (omega arith) r.2)

pub IsStrictlyIncreasing-tail : (x : ℕ) (set : List ℕ) → IsStrictlyIncreasing (x ∷ set) → IsStrictlyIncreasing set
IsStrictlyIncreasing-tail x set h k l =
    subst (λ m. slice_index (x ∷ set) (suc k) < slice_index (x ∷ set) m) (sym (suc-add_one k)) (h (suc k) (omega (arith, l)))

pub Rises-made : (low n : ℕ) (set : List ℕ) → IsStrictlyIncreasing set → All (IsNumber n) set → ((x : ℕ) (rest : List ℕ) → set ≡ x ∷ rest → low ≤ x) → Rises low (1 + n) set
Rises-made low n [] up all from = tt
Rises-made low n (x ∷ []) up all from = (from x [] refl, omega (arith, (All-head (IsNumber n) x [] all).1), tt)
Rises-made low n (x ∷ y ∷ set) up all from = (
  from x (y ∷ set) refl,
  omega (arith, (All-head (IsNumber n) x (y ∷ set) all).1),
  Rises-made (x + 1) n (y ∷ set) (IsStrictlyIncreasing-tail x (y ∷ set) up) (All-tail (IsNumber n) x (y ∷ set) all)
      (λ z rest e. next z rest e),
)
  where
    next : (z : ℕ) (rest : List ℕ) → y ∷ set ≡ z ∷ rest → x + 1 ≤ z
    next z rest e = let first : y ≡ z = cc in omega (arith, up 0 (omega arith), first)
