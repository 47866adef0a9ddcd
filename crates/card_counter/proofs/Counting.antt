-- An assignment that counts satisfies the counter's clauses, and there is one for any selectors.
use Rattle.std.proofs.Common.{◌≡◌, ℕ, zero, suc, ◌+◌, ◌<◌, ◌≤◌, Bool, true, false, ◌&&◌, not, List, [], ◌∷◌, ◌++◌, length, take, if◌then◌else◌, refl, sym, ◌∙◌, ap, ap₂, subst, arith, inl, inr, add-one, append_assoc}
use Rattle.std.specs.Prelude.{◌-◌, ◌*◌, ◌⊎◌, cond, count_by, nat_le, nat_lt, All}
use Rattle.std.proofs.lemmas.Bool.{cases_Bool, cases_lt, cond-true, cond-false, false≢true, leb-true, leb-false, le-leb, lt-leb, ltb-true, ltb-false, lt-ltb, le-ltb, and_from, and_left, and_right}
use Rattle.std.proofs.lemmas.List.{take_at, length_push, take_all}
use Rattle.std.proofs.lemmas.List.Sums.{sum_by-append}
use Rattle.std.proofs.lemmas.List.Elements.{All-nil, All-cons, All-head, All-tail}
use Rattle.clause_base.specs.declared.literal.Lit.{Lit}
use Rattle.clause_base.specs.Satisfaction.{value_of, Satisfies, SatisfiesClause}
use Rattle.card_counter.specs.Places.{width, starts, at_least, IsNoCounter}
use Rattle.card_counter.specs.Counter.{pairs, counter_from, counter_clauses}
use Rattle.card_counter.specs.Means.{true_count, Counts, CountsAs, AreBefore, IsCounter, Bounded, MeetsBound}
use Rattle.card_counter.proofs.Said.{PairSays, pairs-hold, satisfies-both}
use Rattle.card_counter.proofs.AtMost.{one_if, one_if-true, true_count-cons, bounded}

-- one more selector
true_count-push : (a : ℕ → Bool) (xs : List Lit) (x : Lit) → true_count a (xs ++ x ∷ []) ≡ true_count a xs + one_if (value_of a x)
true_count-push a xs x =
    let both : true_count a (xs ++ x ∷ []) ≡ true_count a xs + true_count a (x ∷ []) = sum_by-append (λ y. one_if (value_of a y)) xs (x ∷ []) in
    let alone : true_count a (x ∷ []) ≡ one_if (value_of a x) + true_count a [] = true_count-cons a x [] in
    let none : true_count a [] ≡ 0 = refl in
    omega (arith, both, alone, none)

module _ (a : ℕ → Bool) (first k : ℕ) (selectors : List Lit) (counts : Counts a first k selectors) where
  -- what stands before the rest, and the next one
  record Parts (before : List Lit) (x : Lit) (rest : List Lit) (i : ℕ) : Type 0 where
    is : before ++ x ∷ rest ≡ selectors
    there : i ≡ length before

  module _ (before : List Lit) (x : Lit) (rest : List Lit) (i : ℕ) (p : Parts before x rest i) where
    long : i < length selectors
    long = omega (arith, ap (λ (xs : List Lit). length xs) p.is, p.there, length-behind before)
      where
        length-behind : (ys : List Lit) → length (ys ++ x ∷ rest) ≡ length ys + suc (length rest)
        length-behind [] = omega arith
        length-behind (y ∷ ys) = omega (arith, length-behind ys)

    row : (m : ℕ) → 1 ≤ m → m ≤ width k i → a (at_least first k i m) ≡ nat_le m (true_count a before)
    row m positive within =
        counts i m (omega (arith, long)) positive within
        ∙ ap (λ (xs : List Lit). nat_le m (true_count a xs)) (ap (take i) (sym p.is) ∙ take_at before (x ∷ rest) i (sym p.there))

    row-next : (m : ℕ) → 1 ≤ m → m ≤ width k (i + 1) → a (at_least first k (i + 1) m) ≡ nat_le m (true_count a before + one_if (value_of a x))
    row-next m positive within =
        let more : length (before ++ x ∷ []) ≡ i + 1 = omega (arith, length_push before x, p.there) in
        let front : take (i + 1) selectors ≡ before ++ x ∷ [] =
        ap (take (i + 1)) (sym p.is ∙ sym (append_assoc before (x ∷ []) rest)) ∙ take_at (before ++ x ∷ []) rest (i + 1) more in
        counts (i + 1) m (omega (arith, long)) positive within
        ∙ ap (λ (xs : List Lit). nat_le m (true_count a xs)) front ∙ ap (nat_le m) (true_count-push a before x)

    says : (m : ℕ) → 1 ≤ m → m < 1 + width k (i + 1) → PairSays a first k i x m
    says m positive below =
        let within : m ≤ width k (i + 1) = omega (arith, below) in
        record {
          carry = λ there is.
              let reached : m ≤ true_count a before = leb-true m (true_count a before) (sym (row m positive there) ∙ is) in
              row-next m positive within ∙ le-leb m (true_count a before + one_if (value_of a x)) (omega (arith, reached));
          begin = λ small is.
              let h : one_if (value_of a x) ≡ 1 = one_if-true (value_of a x) is in
              row-next m positive within ∙ le-leb m (true_count a before + one_if (value_of a x)) (omega (arith, small, h));
          next = λ more is also.
              let h : one_if (value_of a x) ≡ 1 = one_if-true (value_of a x) is in
              let reached : m - 1 ≤ true_count a before = leb-true (m - 1) (true_count a before) (sym (row (m - 1) (omega (arith, more)) (omega (arith, within))) ∙ also) in
              row-next m positive within ∙ le-leb m (true_count a before + one_if (value_of a x)) (omega (arith, reached, h));
        }

  met-from : (before rest : List Lit) (i : ℕ) → before ++ rest ≡ selectors → i ≡ length before → Satisfies a (counter_from first k i rest)
  met-from before [] i is there = All-nil (SatisfiesClause a)
  met-from before (x ∷ rest) i is there =
      satisfies-both a (pairs first k i x 1 (width k (i + 1))) (counter_from first k (i + 1) rest)
      (pairs-hold a first k i x 1 (width k (i + 1)) (says before x rest i (record { is = is; there = there })))
      (met-from (before ++ x ∷ []) rest (i + 1) (append_assoc before (x ∷ []) rest ∙ is) (omega (arith, there, length_push before x)))

  -- an assignment that counts satisfies the clauses
  pub meets : Satisfies a (counter_clauses selectors k first)
  meets = met-from [] selectors 0 refl refl

-- as many are true where two assignments agree on the selectors
true_count-same : (first : ℕ) (a b : ℕ → Bool) → ((v : ℕ) → v < first → a v ≡ b v) → (xs : List Lit) → AreBefore first xs → true_count a xs ≡ true_count b xs
true_count-same first a b same [] before = refl
true_count-same first a b same (x ∷ xs) before =
    let here : one_if (value_of a x) ≡ one_if (value_of b x) =
    ap (λ (v : Bool). one_if (cond x.negated (not v) v)) (same x.var (All-head (λ y. y.var < first) x xs before)) in
    let later : true_count a xs ≡ true_count b xs = true_count-same first a b same xs (All-tail (λ y. y.var < first) x xs before) in
    omega (arith, here, later, true_count-cons a x xs, true_count-cons b x xs)

-- the fronts of selectors that stand before
AreBefore-take : (first n : ℕ) (xs : List Lit) → AreBefore first xs → AreBefore first (take n xs)
AreBefore-take first zero xs before = All-nil (λ x. x.var < first)
AreBefore-take first (suc n) [] before = All-nil (λ x. x.var < first)
AreBefore-take first (suc n) (x ∷ xs) before =
    All-cons (λ y. y.var < first) x (take n xs) (All-head (λ y. y.var < first) x xs before) (AreBefore-take first n xs (All-tail (λ y. y.var < first) x xs before))

-- the value of a counter so many places behind the first one of i + 1 selectors
count_value : (ℕ → Bool) → ℕ → ℕ → ℕ → List Lit → ℕ → Bool
count_value a k i below [] place = false
count_value a k i below (x ∷ xs) place =
    if nat_lt place (width k (i + 1)) then nat_le (place + 1) (below + one_if (value_of a x))
    else count_value a k (i + 1) (below + one_if (value_of a x)) xs (place - width k (i + 1))

-- how many counters stand behind the first one of i + 1 selectors, before those of so many more
behind : ℕ → ℕ → ℕ → ℕ
behind k i zero = 0
behind k i (suc more) = width k (i + 1) + behind k (i + 1) more

pub starts-next : (k i : ℕ) → starts k (i + 1) ≡ starts k i + width k i
starts-next k i = ap (starts k) (add-one i)

starts-behind : (k i more : ℕ) → starts k (i + more + 1) ≡ starts k (i + 1) + behind k i more
unfolding behind
starts-behind k i zero =
    let number : i + 0 + 1 ≡ i + 1 = omega arith in
    let same : starts k (i + 0 + 1) ≡ starts k (i + 1) = ap (starts k) number in
    omega (arith, same)
starts-behind k i (suc more) =
    let number : i + suc more + 1 ≡ i + 1 + more + 1 = omega arith in
    let shift : starts k (i + suc more + 1) ≡ starts k (i + 1 + more + 1) = ap (starts k) number in
    let later : starts k (i + 1 + more + 1) ≡ starts k (i + 1 + 1) + behind k (i + 1) more = starts-behind k (i + 1) more in
    omega (arith, shift, later, starts-next k (i + 1))

-- rows follow each other
pub starts-ascend : (k i more : ℕ) → starts k i ≤ starts k (i + more)
starts-ascend k i zero =
    let number : i ≡ i + 0 = omega arith in
    let same : starts k i ≡ starts k (i + 0) = ap (starts k) number in
    omega (arith, same)
starts-ascend k i (suc more) =
    let number : i + suc more ≡ i + more + 1 = omega arith in
    let later : starts k i ≤ starts k (i + more) = starts-ascend k i more in
    let shift : starts k (i + suc more) ≡ starts k (i + more + 1) = ap (starts k) number in
    omega (arith, later, shift, starts-next k (i + more))

-- a row and the next one are no later than the last
pub starts-within : (k i n : ℕ) → i < n → starts k i + width k i ≤ starts k n
starts-within k i n below =
    let number : i + 1 + (n - (i + 1)) ≡ n = omega (arith, below) in
    let same : starts k (i + 1 + (n - (i + 1))) ≡ starts k n = ap (starts k) number in
    omega (arith, starts-ascend k (i + 1) (n - (i + 1)), same, starts-next k i)

-- so many selectors have few counters
pub starts-few : (k n most : ℕ) → n ≤ most + 1 → starts k n ≤ n * most
starts-few k zero most few = omega arith
starts-few k (suc n) most few = let before : starts k n ≤ n * most = starts-few k n most (omega (arith, few)) in omega (arith, before, few)

-- a counter's value
row-value : (a : ℕ → Bool) (k : ℕ) (xs : List Lit) (i below more p : ℕ) → more < length xs → p < width k (i + more + 1)
    → count_value a k i below xs (behind k i more + p) ≡ nat_le (p + 1) (below + true_count a (take (suc more) xs))
unfolding count_value behind
row-value a k [] i below more p there within = absurd (omega (arith, there))
row-value a k (x ∷ xs) i below zero p there within =
    let row : i + 0 + 1 ≡ i + 1 = omega arith in
    let own : p < width k (i + 1) = subst (λ n. p < width k n) row within in
    let here : nat_lt (0 + p) (width k (i + 1)) ≡ true = lt-ltb (0 + p) (width k (i + 1)) (omega (arith, own)) in
    let place : 0 + p + 1 ≡ p + 1 = omega arith in
    let none : true_count a [] ≡ 0 = refl in
    let count : below + one_if (value_of a x) ≡ below + true_count a (x ∷ []) = omega (arith, true_count-cons a x [], none) in
    cond-true _ _ _ here ∙ ap₂ nat_le place count
row-value a k (x ∷ xs) i below (suc more) p there within =
    let past : nat_lt (width k (i + 1) + behind k (i + 1) more + p) (width k (i + 1)) ≡ false = le-ltb (width k (i + 1) + behind k (i + 1) more + p) (width k (i + 1)) (omega arith) in
    let place : width k (i + 1) + behind k (i + 1) more + p - width k (i + 1) ≡ behind k (i + 1) more + p = omega arith in
    let row : i + suc more + 1 ≡ i + 1 + more + 1 = omega arith in
    let own : p < width k (i + 1 + more + 1) = subst (λ n. p < width k n) row within in
    let count : below + one_if (value_of a x) + true_count a (take (suc more) xs) ≡ below + true_count a (x ∷ take (suc more) xs) =
    omega (arith, true_count-cons a x (take (suc more) xs)) in
    cond-false _ _ _ past ∙ ap (count_value a k (i + 1) (below + one_if (value_of a x)) xs) place
    ∙ row-value a k xs (i + 1) (below + one_if (value_of a x)) more p (omega (arith, there)) own
    ∙ ap (nat_le (p + 1)) count

module _ (a : ℕ → Bool) (first k : ℕ) (selectors : List Lit) where
  inside : ℕ → Bool
  inside v = nat_le first v && nat_lt v (first + starts k (length selectors + 1))

  -- the assignment that counts
  counting : ℕ → Bool
  counting v = if inside v then count_value a k 0 0 selectors (v - first) else a v

  counting-outside : (v : ℕ) → IsNoCounter first k (length selectors) v → counting v ≡ a v
  unfolding counting inside
  counting-outside v (inl below) = cond-false _ _ _ (and_left (nat_le first v) (nat_lt v (first + starts k (length selectors + 1))) (lt-leb first v below))
  counting-outside v (inr past) = cond-false _ _ _ (and_right (nat_le first v) (nat_lt v (first + starts k (length selectors + 1))) (le-ltb v (first + starts k (length selectors + 1)) past))

  counting-inside : (v : ℕ) → first ≤ v → v < first + starts k (length selectors + 1) → counting v ≡ count_value a k 0 0 selectors (v - first)
  unfolding counting inside
  counting-inside v from below = cond-true _ _ _ (and_from (nat_le first v) (nat_lt v (first + starts k (length selectors + 1))) (le-leb first v from) (lt-ltb v (first + starts k (length selectors + 1)) below))

  module _ (before : AreBefore first selectors) where
    counts-row : (more m : ℕ) → suc more ≤ length selectors → 1 ≤ m → m ≤ width k (suc more)
        → counting (at_least first k (suc more) m) ≡ nat_le m (true_count counting (take (suc more) selectors))
    counts-row more m there positive within =
        let number : suc more ≡ 0 + more + 1 = omega arith in
        let place : starts k (0 + more + 1) ≡ starts k (0 + 1) + behind k 0 more = starts-behind k 0 more in
        let row : starts k (suc more) ≡ starts k (0 + more + 1) = ap (starts k) number in
        let begin : starts k (0 + 1) ≡ starts k 0 + width k 0 = starts-next k 0 in
        let zero_start : starts k 0 ≡ 0 = refl in
        let wide : width k (suc more) ≡ width k (0 + more + 1) = ap (width k) number in
        let last : starts k (suc more) + width k (suc more) ≤ starts k (length selectors + 1) = starts-within k (suc more) (length selectors + 1) (omega (arith, there)) in
        let from : first ≤ at_least first k (suc more) m = omega arith in
        let below : at_least first k (suc more) m < first + starts k (length selectors + 1) = omega (arith, last, within, positive) in
        let offset : at_least first k (suc more) m - first ≡ behind k 0 more + (m - 1) = omega (arith, place, row, begin, zero_start) in
        let own : m - 1 < width k (0 + more + 1) = omega (arith, wide, within, positive) in
        let same : true_count counting (take (suc more) selectors) ≡ true_count a (take (suc more) selectors) =
        true_count-same first counting a (λ v lower. counting-outside v (inl lower)) (take (suc more) selectors) (AreBefore-take first (suc more) selectors before) in
        let m_is : m - 1 + 1 ≡ m = omega (arith, positive) in
        let count : 0 + true_count a (take (suc more) selectors) ≡ true_count counting (take (suc more) selectors) = omega (arith, same) in
        counting-inside (at_least first k (suc more) m) from below ∙ ap (count_value a k 0 0 selectors) offset
        ∙ row-value a k selectors 0 0 more (m - 1) (omega (arith, there)) own
        ∙ ap₂ nat_le m_is count

    counts-each : Counts counting first k selectors
    counts-each zero m there positive within = absurd (omega (arith, positive, within))
    counts-each (suc more) m there positive within = counts-row more m there positive within

    -- whatever the selectors are, there is an assignment that counts
    pub counts-as : CountsAs a first k selectors
    counts-as = record { other = counting; counts = counts-each; same = counting-outside }

-- the clauses of a counter count
pub is-counter : (first k : ℕ) (selectors : List Lit) → AreBefore first selectors → IsCounter first k selectors (counter_clauses selectors k first)
is-counter first k selectors before = record {
  at_most = λ a satisfied. bounded a first k selectors satisfied;
  met = λ a counts. meets a first k selectors counts;
  exists = λ a. counts-as a first k selectors before;
}

-- where few are true, the bound is false in an assignment that counts
pub few-bound : (first k : ℕ) (selectors : List Lit) (a : ℕ → Bool) → AreBefore first selectors → (c : CountsAs a first k selectors) (j : ℕ) → j ≤ k
    → j < length selectors → true_count a selectors ≤ j → c.other (at_least first k (length selectors) (j + 1)) ≡ false
few-bound first k selectors a before c j size more few =
    let same : true_count c.other selectors ≡ true_count a selectors = true_count-same first c.other a (λ v lower. c.same v (inl lower)) selectors before in
    let all : take (length selectors) selectors ≡ selectors = take_all (length selectors) selectors (omega arith) in
    let told : c.other (at_least first k (length selectors) (j + 1)) ≡ nat_le (j + 1) (true_count c.other (take (length selectors) selectors)) =
    c.counts (length selectors) (j + 1) (omega arith) (omega arith) (omega (arith, size, more)) in
    let counted : true_count c.other (take (length selectors) selectors) ≡ true_count a selectors = ap (true_count c.other) all ∙ same in
    told ∙ lt-leb (j + 1) (true_count c.other (take (length selectors) selectors)) (omega (arith, counted, few))

module _ (of : Bounded) (before : AreBefore of.first of.selectors) (size : of.j ≤ of.k) (more : of.j < length of.selectors) where
  -- where few are true the bound can be met
  pub few-meet : true_count of.assignment of.selectors ≤ of.j → MeetsBound of (counter_clauses of.selectors of.k of.first)
  few-meet few =
      let c : CountsAs of.assignment of.first of.k of.selectors = counts-as of.assignment of.first of.k of.selectors before in
      record {
        other = c.other;
        same = c.same;
        satisfies = meets c.other of.first of.k of.selectors c.counts;
        bound = few-bound of.first of.k of.selectors of.assignment before c of.j size more few;
      }

  -- and only there
  pub met-by-few : MeetsBound of (counter_clauses of.selectors of.k of.first) → true_count of.assignment of.selectors ≤ of.j
  met-by-few met =
      let same : true_count met.other of.selectors ≡ true_count of.assignment of.selectors =
      true_count-same of.first met.other of.assignment (λ v lower. met.same v (inl lower)) of.selectors before in
      let few : true_count met.other of.selectors ≤ of.j = bounded met.other of.first of.k of.selectors met.satisfies of.j size more met.bound in
      omega (arith, same, few)
