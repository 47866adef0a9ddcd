-- Bits in order, each once: two such lists with the same bits are one.
use Rattle.std.proofs.Common.{ℕ, zero, suc, ◌≡◌, ◌<◌, ◌≤◌, ◌+◌, ◌-◌, Bool, true, false, ◌&&◌, ◌||◌, List, [], ◌∷◌, ◌++◌, refl, sym, ◌∙◌, ap, ap₂, arith, ◌⊎◌, inl, inr, append_assoc, append-nil}
use Rattle.std.specs.Prelude.{◌==◌, nat_lt, nat_le, cond, if◌then◌else◌, All}
use Rattle.std.specs.List.{list_any, AllByRecursion}
use Rattle.std.specs.List as seq
use Rattle.std.specs.List.Sorted.{IsStrictlySortedBy}
use Rattle.std.specs.declared.cmp.Ordering.{Ordering}
use Rattle.std.specs.declared.cmp.Ordering.TheVariants.{Less, Equal, Greater}
use Rattle.std.specs.Ordering.{nat_cmp, ordering_then, eq_by_cmp}
use Rattle.std.specs.Cmp.{IsTotalOrder, nat_cmp_total, on_total, then_total, both_tied, unsigned_ties}
use Rattle.std.proofs.lemmas.Bool.{cases_lt, cases_eq, eqb-true, eq-eqb, lt-ltb, and_parts, and_from, or_cases}
use Rattle.std.proofs.lemmas.Bool.Decides.{nat_tests}
use Rattle.std.proofs.lemmas.List.Elements.{All-nil, All-cons, All-head, All-tail, All-weaker, All-from_recursion}
use Rattle.std.proofs.lemmas.Map.Keys.{sorted_head, sorted_tail}
use Rattle.loc_base.proofs.ShelfLists.{All-member, list_any-found}
use Rattle.loc_base.proofs.ShelfBools.{or-false, and-false}
use Rattle.design_core.specs.declared.signal.Signal.{Signal}
use Rattle.design_core.specs.Valuation.{width_at}
use Rattle.place_functions.specs.declared.signal_bit.SignalBit.{SignalBit}
use Rattle.place_functions.specs.Operands.{bits_passing, all_passing}
use Rattle.place_functions.specs.Notes.{between, is_bit, lists}

abbrev bit_at : ℕ → ℕ → SignalBit
bit_at s b = record { signal = s; position = b }

-- ---- the order

abbrev pub bit_cmp : SignalBit → SignalBit → Ordering
bit_cmp x y = ordering_then (nat_cmp x.signal y.signal) (nat_cmp x.position y.position)

pub bit_total : IsTotalOrder bit_cmp
bit_total = then_total (on_total (λ (x : SignalBit). x.signal) nat_cmp_total) (on_total (λ (x : SignalBit). x.position) nat_cmp_total)

pub bit_ties : (x y : SignalBit) → ((x.signal == y.signal) && (x.position == y.position)) ≡ eq_by_cmp bit_cmp x y
bit_ties x y = both_tied _ _ _ _ (unsigned_ties x.signal y.signal) (unsigned_ties x.position y.position)

cmp-less : (m n : ℕ) → m < n → nat_cmp m n ≡ Less
cmp-less m n less = ap (λ b. cond b Less (cond (m == n) Equal Greater)) (lt-ltb m n less)

cmp-same : (m n : ℕ) → m ≡ n → nat_cmp m n ≡ Equal
cmp-same m n same = ap₂ (λ b c. cond b Less (cond c Equal Greater)) (not-less m n same) (eq-eqb m n same)
  where
    not-less : (m n : ℕ) → m ≡ n → nat_lt m n ≡ false
    not-less m n same = grind (arith, nat_tests)

less-signal : (x y : SignalBit) → x.signal < y.signal → bit_cmp x y ≡ Less
less-signal x y less = ap (λ o. ordering_then o (nat_cmp x.position y.position)) (cmp-less x.signal y.signal less)

less-position : (x y : SignalBit) → x.signal ≡ y.signal → x.position < y.position → bit_cmp x y ≡ Less
less-position x y same less =
    ap (λ o. ordering_then o (nat_cmp x.position y.position)) (cmp-same x.signal y.signal same) ∙ cmp-less x.position y.position less

not-itself : (x : SignalBit) → bit_cmp x x ≡ Less → ⊥
not-itself x less = apart (sym (ap (λ o. ordering_then o (nat_cmp x.position x.position)) (cmp-same x.signal x.signal refl) ∙ cmp-same x.position x.position refl) ∙ less)
  where
    apart : Equal ≡ Less → ⊥
    apart e = cc

not-both : (x y : SignalBit) → bit_cmp x y ≡ Less → bit_cmp y x ≡ Less → ⊥
not-both x y one other = not-itself x (bit_total.trans x y x one other)

-- ---- rising lists

abbrev pub Rises : List SignalBit → Type 0
Rises [] = Unit {0}
Rises (x ∷ xs) = All (λ y. bit_cmp x y ≡ Less) xs × Rises xs

pub rises-sorted : (xs : List SignalBit) → IsStrictlySortedBy bit_cmp xs → Rises xs
rises-sorted [] sorted = tt
rises-sorted (x ∷ xs) sorted =
    (All-from_recursion (λ y. bit_cmp x y ≡ Less) xs (sorted_head bit_cmp x xs sorted), rises-sorted xs (sorted_tail bit_cmp x xs sorted))

-- a bit that a rising list has behind its first
is-bit : (s b : ℕ) (x : SignalBit) → is_bit s b x ≡ true → x ≡ bit_at s b
is-bit s b x is =
    let both = and_parts (x.signal == s) (x.position == b) is in
    ap₂ bit_at (eqb-true x.signal s both.0) (eqb-true x.position b both.1)

itself : (x : SignalBit) → is_bit x.signal x.position x ≡ true
itself x = and_from (x.signal == x.signal) (x.position == x.position) (eq-eqb x.signal x.signal refl) (eq-eqb x.position x.position refl)

behind : (x : SignalBit) (xs : List SignalBit) (s b : ℕ) → All (λ y. bit_cmp x y ≡ Less) xs → lists xs s b ≡ true → bit_cmp x (bit_at s b) ≡ Less
behind x xs s b above has =
    let found = list_any-found (is_bit s b) xs has in
    ap (bit_cmp x) (sym (is-bit s b found.0 found.2)) ∙ All-member (λ y. bit_cmp x y ≡ Less) xs found.0 above found.1

not-behind : (x : SignalBit) (xs : List SignalBit) (s b : ℕ) → All (λ y. bit_cmp x y ≡ Less) xs → is_bit s b x ≡ true → lists xs s b ≡ false
not-behind x xs s b above is = by (lists xs s b) refl
  where
    by : (v : Bool) → lists xs s b ≡ v → lists xs s b ≡ false
    by false none = none
    by true has = absurd (not-itself x (ap (bit_cmp x) (is-bit s b x is) ∙ behind x xs s b above has))

first-of : (x y : SignalBit) (ys : List SignalBit) → All (λ z. bit_cmp y z ≡ Less) ys → lists (y ∷ ys) x.signal x.position ≡ true → (y ≡ x) ⊎ (bit_cmp y x ≡ Less)
first-of x y ys above has = by (or_cases (is_bit x.signal x.position y) (lists ys x.signal x.position) has)
  where
    by : (is_bit x.signal x.position y ≡ true) ⊎ (lists ys x.signal x.position ≡ true) → (y ≡ x) ⊎ (bit_cmp y x ≡ Less)
    by (inl is) = inl (is-bit x.signal x.position y is)
    by (inr later) = inr (behind y ys x.signal x.position above later)

or-itself : (b c : Bool) → b ≡ true → (b || c) ≡ true
or-itself true c is = refl
or-itself false c is = absurd cc

same-first : (x y : SignalBit) → (y ≡ x) ⊎ (bit_cmp y x ≡ Less) → (x ≡ y) ⊎ (bit_cmp x y ≡ Less) → x ≡ y
same-first x y (inl is) other = sym is
same-first x y (inr less) (inl is) = is
same-first x y (inr less) (inr more) = absurd (not-both x y more less)

no-more : (e l m : Bool) → (e || l) ≡ (e || m) → (e ≡ true → l ≡ false) → (e ≡ true → m ≡ false) → l ≡ m
no-more true l m same one other = one refl ∙ sym (other refl)
no-more false l m same one other = same

pub same-lists : (xs ys : List SignalBit) → Rises xs → Rises ys → ((s b : ℕ) → lists xs s b ≡ lists ys s b) → xs ≡ ys
same-lists [] [] one other same = refl
same-lists [] (y ∷ ys) one other same = absurd (none (same y.signal y.position ∙ or-itself (is_bit y.signal y.position y) (lists ys y.signal y.position) (itself y)))
  where
    none : false ≡ true → ⊥
    none e = cc
same-lists (x ∷ xs) [] one other same = absurd (none (sym (same x.signal x.position) ∙ or-itself (is_bit x.signal x.position x) (lists xs x.signal x.position) (itself x)))
  where
    none : false ≡ true → ⊥
    none e = cc
same-lists (x ∷ xs) (y ∷ ys) one other same =
    let here : x ≡ y = same-first x y
    (first-of x y ys other.0 (sym (same x.signal x.position) ∙ or-itself (is_bit x.signal x.position x) (lists xs x.signal x.position) (itself x)))
    (first-of y x xs one.0 (same y.signal y.position ∙ or-itself (is_bit y.signal y.position y) (lists ys y.signal y.position) (itself y))) in
    ap₂ (λ (z : SignalBit) zs. z ∷ zs) here
    (same-lists xs ys one.1 other.1
    (λ s b.
    no-more (is_bit s b y) (lists xs s b) (lists ys s b) (ap (λ z. is_bit s b z || lists xs s b) (sym here) ∙ same s b)
    (λ is. not-behind x xs s b one.0 (ap (is_bit s b) here ∙ is))
    (λ is. not-behind y ys s b other.0 is)))

-- ---- the bits that pass a test rise

abbrev From : ℕ → ℕ → SignalBit → Type 0
From s from y = ((s ≡ y.signal) × (from ≤ y.position)) ⊎ (s < y.signal)

abbrev RisesFrom : ℕ → ℕ → List SignalBit → Type 0
RisesFrom s from xs = Rises xs × All (From s from) xs

bits-rise : (test : ℕ → Bool) (s from more : ℕ) (rest : List SignalBit) → Rises rest → All (λ y. s < y.signal) rest
    → RisesFrom s from (bits_passing test s from more ++ rest)
bits-rise test s from zero rest rises above = (rises, All-weaker (λ y. s < y.signal) (From s from) (λ y less. inr less) rest above)
bits-rise test s from (suc more) rest rises above = by (test from) (bits-rise test s (from + 1) more rest rises above)
  where
    later : List SignalBit
    later = bits_passing test s (from + 1) more

    less : (y : SignalBit) → From s (from + 1) y → bit_cmp (bit_at s from) y ≡ Less
    less y (inl (same, least)) = less-position (bit_at s from) y same (omega arith)
    less y (inr more') = less-signal (bit_at s from) y more'

    weaker : (y : SignalBit) → From s (from + 1) y → From s from y
    weaker y (inl (same, least)) = inl (same, omega arith)
    weaker y (inr more') = inr more'

    by : (t : Bool) → RisesFrom s (from + 1) (later ++ rest) → RisesFrom s from ((if t then bit_at s from ∷ later else later) ++ rest)
    by true (up, all) = (
      (All-weaker (From s (from + 1)) (λ y. bit_cmp (bit_at s from) y ≡ Less) less (later ++ rest) all, up),
      All-cons (From s from) (bit_at s from) (later ++ rest) (inl (refl, omega arith)) (All-weaker (From s (from + 1)) (From s from) weaker (later ++ rest) all),
    )
    by false (up, all) = (up, All-weaker (From s (from + 1)) (From s from) weaker (later ++ rest) all)

pub all-rise : (test : ℕ → ℕ → Bool) (first : ℕ) (signals : List Signal) → Rises (all_passing test first signals) × All (λ y. first ≤ y.signal) (all_passing test first signals)
all-rise test first [] = (tt, All-nil (λ (y : SignalBit). first ≤ y.signal))
all-rise test first (signal ∷ signals) =
    let rest = all_passing test (first + 1) signals in
    let later = all-rise test (first + 1) signals in
    let up = bits-rise (test first) first 0 signal.width rest later.0 (All-weaker (λ y. first + 1 ≤ y.signal) (λ y. first < y.signal) (λ y least. omega arith) rest later.1) in
    (up.0, All-weaker (From first 0) (λ y. first ≤ y.signal) weaker (bits_passing (test first) first 0 signal.width ++ rest) up.1)
  where
    weaker : (y : SignalBit) → From first 0 y → first ≤ y.signal
    weaker y (inl (same, least)) = omega arith
    weaker y (inr less) = omega arith

-- ---- which bits pass

bits-listed : (test : ℕ → Bool) (s from more : ℕ) (rest : List SignalBit) (u b : ℕ)
    → lists (bits_passing test s from more ++ rest) u b ≡ ((((s == u) && between from (from + more) b) && test b) || lists rest u b)
bits-listed test s from zero rest u b = sym (ap (λ w. (((s == u) && w) && test b) || lists rest u b) (none from b) ∙ ap (λ w. (w && test b) || lists rest u b) (and-false (s == u)))
  where
    none : (from b : ℕ) → between from (from + 0) b ≡ false
    none from b = grind (arith, nat_tests)
bits-listed test s from (suc more) rest u b =
    by (test from) refl (bits-listed test s (from + 1) more rest u b) ∙ ap (λ w. (((s == u) && w) && test b) || lists rest u b) (sym (wider from more b))
  where
    wider : (from more b : ℕ) → between from (from + suc more) b ≡ ((from == b) || between (from + 1) (from + 1 + more) b)
    wider from more b = grind (arith, nat_tests)

    w : Bool
    w = between (from + 1) (from + 1 + more) b

    on : (e q w t l : Bool) → (q ≡ true → t ≡ true) → ((e && q) || (((e && w) && t) || l)) ≡ (((e && (q || w)) && t) || l)
    on true true w true l same = refl
    on true true w false l same = absurd (no (same refl))
      where
        no : false ≡ true → ⊥
        no e = cc
    on true false w t l same = refl
    on false q w t l same = refl

    off : (e q w t l : Bool) → (q ≡ true → t ≡ false) → (((e && w) && t) || l) ≡ (((e && (q || w)) && t) || l)
    off true true w true l same = absurd (no (same refl))
      where
        no : true ≡ false → ⊥
        no e = cc
    off true true true false l same = refl
    off true true false false l same = refl
    off true false w t l same = refl
    off false q w t l same = refl

    later : List SignalBit
    later = bits_passing test s (from + 1) more

    by : (v : Bool) → test from ≡ v → lists (later ++ rest) u b ≡ ((((s == u) && w) && test b) || lists rest u b)
        → lists (bits_passing test s from (suc more) ++ rest) u b ≡ ((((s == u) && ((from == b) || w)) && test b) || lists rest u b)
    by true is behind' =
        ap (λ t. lists ((if t then bit_at s from ∷ bits_passing test s (from + 1) more else bits_passing test s (from + 1) more) ++ rest) u b) is
        ∙ ap (λ l. is_bit u b (bit_at s from) || l) behind'
        ∙ on (s == u) (from == b) w (test b) (lists rest u b) (λ e. ap test (sym (eqb-true from b e)) ∙ is)
    by false is behind' =
        ap (λ t. lists ((if t then bit_at s from ∷ bits_passing test s (from + 1) more else bits_passing test s (from + 1) more) ++ rest) u b) is
        ∙ behind'
        ∙ off (s == u) (from == b) w (test b) (lists rest u b) (λ e. ap test (sym (eqb-true from b e)) ∙ is)

pub all-listed : (test : ℕ → ℕ → Bool) (first : ℕ) (signals : List Signal) (u b : ℕ)
    → lists (all_passing test first signals) u b ≡ (nat_le first u && (test u b && nat_lt b (width_at signals (u - first))))
all-listed test first [] u b = sym (ap (λ w. nat_le first u && (test u b && w)) (none b) ∙ ap (λ w. nat_le first u && w) (and-false (test u b)) ∙ and-false (nat_le first u))
  where
    none : (b : ℕ) → nat_lt b 0 ≡ false
    none b = grind (arith, nat_tests)
all-listed test first (signal ∷ signals) u b =
    bits-listed (test first) first 0 signal.width (all_passing test (first + 1) signals) u b
    ∙ ap (λ l. (((first == u) && between 0 (0 + signal.width) b) && test first b) || l) (all-listed test (first + 1) signals u b)
    ∙ by (cases_eq first u) (cases_lt first u)
  where
    W : ℕ → Bool
    W n = nat_lt b (width_at (signal ∷ signals) n)

    goal-left : Bool
    goal-left = (((first == u) && between 0 (0 + signal.width) b) && test first b)
        || (nat_le (first + 1) u && (test u b && nat_lt b (width_at signals (u - (first + 1)))))

    whole : (w b : ℕ) → between 0 (0 + w) b ≡ nat_lt b w
    whole w b = grind (arith, nat_tests)

    le-true : (m n : ℕ) → m ≤ n → nat_le m n ≡ true
    le-true m n is = grind (arith, nat_tests)

    le-false : (m n : ℕ) → n < m → nat_le m n ≡ false
    le-false m n is = grind (arith, nat_tests)

    eq-false : (m n : ℕ) → (m ≡ n → ⊥) → (m == n) ≡ false
    eq-false m n is = grind (arith, nat_tests)

    here : (e w t r n t' v : Bool) → e ≡ true → r ≡ false → n ≡ true → w ≡ v → t ≡ t' → (((e && w) && t) || (r && (t' && n))) ≡ (t' && v)
    here true w t false n true v e r x is same = ap₂ (λ y z. (y && z) || false) is same ∙ or-false (v && true) ∙ and-one v
      where
        and-one : (x : Bool) → (x && true) ≡ x
        and-one true = refl
        and-one false = refl
    here true w t false n false v e r x is same = ap₂ (λ y z. (y && z) || false) is same ∙ or-false (v && false) ∙ and-false v
    here true w t true n t' v e r x is same = absurd cc
    here false w t r n t' v e r' x is same = absurd cc

    by : (first ≡ u) ⊎ (first ≡ u → ⊥) → (first < u) ⊎ (u ≤ first) → goal-left ≡ (nat_le first u && (test u b && W (u - first)))
    by (inl same) _ =
        let at : u - first ≡ 0 = omega (arith, same) in
        ap₂ (λ x y. ((x && between 0 (0 + signal.width) b) && test first b) || (y && (test u b && nat_lt b (width_at signals (u - (first + 1))))))
        (eq-eqb first u same) (le-false (first + 1) u (omega (arith, same)))
        ∙ or-false (between 0 (0 + signal.width) b && test first b)
        ∙ ap₂ (λ x y. x && y) (whole signal.width b) (ap (λ n. test n b) same)
        ∙ flip (nat_lt b signal.width) (test u b)
        ∙ sym (ap₂ (λ x n. x && (test u b && W n)) (le-true first u (omega (arith, same))) at)
      where
        flip : (x y : Bool) → (x && y) ≡ (y && x)
        flip true true = refl
        flip true false = refl
        flip false true = refl
        flip false false = refl
    by (inr apart) (inl less) =
        let at : u - first ≡ suc (u - (first + 1)) = omega (arith, less) in
        ap₂ (λ x y. ((x && between 0 (0 + signal.width) b) && test first b) || (y && (test u b && nat_lt b (width_at signals (u - (first + 1))))))
        (eq-false first u apart) (le-true (first + 1) u (omega (arith, less)))
        ∙ sym (ap₂ (λ x n. x && (test u b && W n)) (le-true first u (omega (arith, less))) at)
    by (inr apart) (inr past) =
        let more : u < first = before first u past apart in
        ap₂ (λ x y. ((x && between 0 (0 + signal.width) b) && test first b) || (y && (test u b && nat_lt b (width_at signals (u - (first + 1))))))
        (eq-false first u apart) (le-false (first + 1) u (omega (arith, more)))
        ∙ sym (ap (λ x. x && (test u b && W (u - first))) (le-false first u more))
      where
        before : (m n : ℕ) → n ≤ m → (m ≡ n → ⊥) → n < m
        before m n most apart = case (cases_lt n m)
          where
            case : (n < m) ⊎ (m ≤ n) → n < m
            case (inl less) = less
            case (inr least) = absurd (apart (omega (arith, most, least)))

-- ---- after a sort and a `dedup`

abbrev pub same_bit : SignalBit → SignalBit → Bool
same_bit x y = (x.signal == y.signal) && (x.position == y.position)

kept-alike : (s b : ℕ) (x y : SignalBit) → same_bit x y ≡ true → is_bit s b x ≡ is_bit s b y
kept-alike s b x y same =
    let both = and_parts (x.signal == y.signal) (x.position == y.position) same in
    ap₂ (λ m n. (m == s) && (n == b)) (eqb-true x.signal y.signal both.0) (eqb-true x.position y.position both.1)

kept-from : (s b : ℕ) (k : SignalBit) (xs : List SignalBit) → lists (seq.dedup_from same_bit k xs) s b ≡ (is_bit s b k || lists xs s b)
kept-from s b k [] = refl
kept-from s b k (x ∷ xs) = by (same_bit x k) refl (kept-from s b k xs) (kept-from s b x xs)
  where
    twice : (x y l : Bool) → x ≡ y → (y || l) ≡ (y || (x || l))
    twice true true l same = refl
    twice false false l same = refl
    twice true false l same = absurd cc
    twice false true l same = refl

    by : (v : Bool) → same_bit x k ≡ v → lists (seq.dedup_from same_bit k xs) s b ≡ (is_bit s b k || lists xs s b)
        → lists (seq.dedup_from same_bit x xs) s b ≡ (is_bit s b x || lists xs s b)
        → lists (seq.dedup_from same_bit k (x ∷ xs)) s b ≡ (is_bit s b k || (is_bit s b x || lists xs s b))
    by true is one other =
        ap (λ t. lists (cond t (seq.dedup_from same_bit k xs) (k ∷ seq.dedup_from same_bit x xs)) s b) is
        ∙ one ∙ twice (is_bit s b x) (is_bit s b k) (lists xs s b) (kept-alike s b x k is)
    by false is one other =
        ap (λ t. lists (cond t (seq.dedup_from same_bit k xs) (k ∷ seq.dedup_from same_bit x xs)) s b) is
        ∙ ap (λ l. is_bit s b k || l) other

pub kept-listed : (s b : ℕ) (xs : List SignalBit) → lists (seq.dedup same_bit xs) s b ≡ lists xs s b
kept-listed s b [] = refl
kept-listed s b (x ∷ xs) = kept-from s b x xs

-- a rising list of the bits that pass a test is the list of these
pub passing-is : (test : ℕ → ℕ → Bool) (signals : List Signal) (xs : List SignalBit) → Rises xs
    → ((s b : ℕ) → lists xs s b ≡ (test s b && nat_lt b (width_at signals s))) → xs ≡ all_passing test 0 signals
passing-is test signals xs rises has =
    same-lists xs (all_passing test 0 signals) rises (all-rise test 0 signals).0
    (λ s b. has s b ∙ sym (all-listed test 0 signals s b ∙ ap₂ (λ x n. x && (test s b && nat_lt b (width_at signals n))) (least s) (itself' s)))
  where
    least : (s : ℕ) → nat_le 0 s ≡ true
    least s = grind (arith, nat_tests)

    itself' : (s : ℕ) → s - 0 ≡ s
    itself' s = omega arith
