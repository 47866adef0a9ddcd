-- A number that is taken is the next one of the least order, and what holds while numbers are taken goes on to hold.
use Rattle.std.proofs.Common.{ℕ, zero, suc, ◌≡◌, ◌<◌, ◌≤◌, ◌+◌, List, [], ◌∷◌, ◌++◌, length, get_or, replicate, cond, count_by, Bool, true, false, refl, sym, ◌∙◌, ap, subst, append_assoc, arith, eq-eqb, ◌⊎◌, inl, inr}
use Rattle.std.proofs.Math.ListN.{set}
use Rattle.std.specs.Prelude.{◌==◌, not, ◌&&◌, ◌||◌, nat_lt}
use Rattle.std.specs.Ordering.{nat_cmp}
use Rattle.std.specs.BTreeSet.{contains}
use Rattle.std.proofs.lemmas.Bool.{cases_eq, cases_lt, or_cases, false≢true, ltb-true, lt-ltb, and_parts}
use Rattle.std.proofs.lemmas.List.{get_or-set_same, get_or-set_other, length-set, append-nil, get_or_past, length-replicate}
use Rattle.std.proofs.lemmas.List.Sums.{sum_by-set}
use Rattle.loc_base.proofs.ShelfLists.{All-member}
use Rattle.loc_base.proofs.ShelfBools.{equal-true, equal-false, or-false, or-true, and-true, and-false, count-true}
use Rattle.design_core.specs.Order.{IsReady, IsNext, AreNext, IsLeastOrderOf}
use Rattle.design_order.specs.declared.least.State.{State}
use Rattle.design_order.specs.Rows.{AreUsers, Listed, row, has, times, left}
use Rattle.design_order.specs.Running.{IsRunning}
use Rattle.design_order.proofs.Counting.{count_by-cons, has-push, has-member, member-has, times-has, times-none, left-all, left-none, left-same, left-take, row-past}

-- the next number behind those that were taken
next-push : (D : ℕ → ℕ → Type 0) (n : ℕ) (taken xs : List ℕ) (d : ℕ) → AreNext D n taken xs → IsNext D n (taken ++ xs) d → AreNext D n taken (xs ++ d ∷ [])
next-push D n taken [] d before next = (subst (λ t. IsNext D n t d) (append-nil taken) next, tt)
next-push D n taken (x ∷ xs) d (first, rest) next =
    (first, next-push D n (taken ++ x ∷ []) xs d rest (subst (λ t. IsNext D n t d) (sym (append_assoc taken (x ∷ []) xs)) next))

not-true : (b : Bool) → (b ≡ true → ⊥) → b ≡ false
not-true true none = absurd (none refl)
not-true false none = refl

out : (b : Bool) → not b ≡ true → b ≡ false
out true h = absurd (false≢true h)
out false h = refl

-- what a number is that is ready
pub ready-is : (needs : List (List ℕ)) (s : State) (d : ℕ) → IsRunning needs s → contains nat_cmp s.ready d ≡ true
    → (d < length needs) × (has s.order.items d ≡ false) × (get_or s.counts.items d 0 ≡ 0)
ready-is needs s d r is =
    let parts = and_parts (nat_lt d (length needs)) (not (has s.order.items d) && get_or s.counts.items d 0 == 0) (sym (r.ready d) ∙ is) in
    let more = and_parts (not (has s.order.items d)) (get_or s.counts.items d 0 == 0) parts.1 in
    (ltb-true d (length needs) parts.0, out (has s.order.items d) more.0, equal-true (get_or s.counts.items d 0) 0 more.1)

-- and one that is ready by the definition is so
is-ready : (needs : List (List ℕ)) (s : State) (k : ℕ) → IsRunning needs s → k < length needs → IsReady (Listed needs) s.order.items k → contains nat_cmp s.ready k ≡ true
is-ready needs s k r within ready =
    let untaken : has s.order.items k ≡ false = untaken_at (has s.order.items k) refl in
    let none : left (has s.order.items) (row needs k) ≡ 0 =
    left-none (has s.order.items) (row needs k) (λ j listed. member-has s.order.items j (ready.met j (has-member (row needs k) j listed))) in
    let zero_count : (get_or s.counts.items k 0 == 0) ≡ true = eq-eqb (get_or s.counts.items k 0) 0 (r.counts k ∙ none) in
    r.ready k ∙ rw (lt-ltb k (length needs) within) (rw untaken (rw zero_count refl))
  where
    untaken_at : (b : Bool) → has s.order.items k ≡ b → has s.order.items k ≡ false
    untaken_at true is = absurd (ready.untaken (has-member s.order.items k is))
    untaken_at false is = is

pub is-next : (needs : List (List ℕ)) (s : State) (d : ℕ) → IsRunning needs s → contains nat_cmp s.ready d ≡ true → ((k : ℕ) → k < d → contains nat_cmp s.ready k ≡ false)
    → IsNext (Listed needs) (length needs) s.order.items d
is-next needs s d r is least =
    let known = ready-is needs s d r is in
    record {
      within = known.0;
      ready = record {
        untaken = λ member. absurd (false≢true (sym known.1 ∙ member-has s.order.items d member));
        met = λ j listed.
            has-member s.order.items j (left-all (has s.order.items) (row needs d) j (sym (r.counts d) ∙ known.2) (member-has (row needs d) j listed));
      };
      least = λ k below ready. false≢true (sym (least k below) ∙ is-ready needs s k r (omega (arith, below, known.0)) ready);
    }

-- each user of a number that is taken has a need left
pub enough : (needs users : List (List ℕ)) (s : State) (d k : ℕ) → AreUsers needs users → IsRunning needs s → has s.order.items d ≡ false
    → times k (row users d) ≤ get_or s.counts.items k 0
enough needs users s d k u r untaken = omega (arith, u.times k d, r.counts k, left-take (has s.order.items) d (row needs k) untaken)

pub running-step : (needs users : List (List ℕ)) (s t : State) (d : ℕ) → AreUsers needs users → IsRunning needs s
    → contains nat_cmp s.ready d ≡ true → ((k : ℕ) → k < d → contains nat_cmp s.ready k ≡ false)
    → t.order.items ≡ s.order.items ++ d ∷ [] → t.taken.items ≡ set s.taken.items d true → length t.counts.items ≡ length s.counts.items
    → ((k : ℕ) → get_or t.counts.items k 0 + times k (row users d) ≡ get_or s.counts.items k 0)
    → ((k : ℕ) → contains nat_cmp t.ready k ≡ ((contains nat_cmp s.ready k && not (d == k)) || (has (row users d) k && get_or t.counts.items k 0 == 0)))
    → IsRunning needs t
running-step needs users s t d u r is least order taken long counts ready =
    record {
      next = subst (AreNext (Listed needs) (length needs) []) (sym order) (next-push (Listed needs) (length needs) [] s.order.items d r.next (is-next needs s d r is least));
      taken_long = ap length taken ∙ length-set s.taken.items d true ∙ r.taken_long;
      counts_long = long ∙ r.counts_long;
      taken = λ k. ap (λ xs. get_or xs k false) taken ∙ taken_at k (cases_eq k d) ∙ sym (has-order k);
      counts = λ k. counts_at k;
      done = λ k some. done_at k (or_cases (has s.order.items k) (d == k) (sym (has-order k) ∙ some));
      ready = λ k. ready_at k (cases_eq k d);
    }
  where
    known : (d < length needs) × (has s.order.items d ≡ false) × (get_or s.counts.items d 0 ≡ 0)
    known = ready-is needs s d r is

    has-order : (k : ℕ) → has t.order.items k ≡ (has s.order.items k || d == k)
    has-order k = ap (λ xs. has xs k) order ∙ has-push s.order.items d k

    taken_at : (k : ℕ) → (k ≡ d) ⊎ (k ≡ d → ⊥) → get_or (set s.taken.items d true) k false ≡ (has s.order.items k || d == k)
    taken_at k (inl same) =
        ap (λ q. get_or (set s.taken.items d true) q false) same
        ∙ get_or-set_same s.taken.items d true false (subst (λ n. d < n) (sym r.taken_long) known.0)
        ∙ sym (ap (λ b. has s.order.items k || b) (eq-eqb d k (sym same)) ∙ or-true (has s.order.items k))
    taken_at k (inr apart) =
        get_or-set_other s.taken.items d k true false apart ∙ r.taken k
        ∙ sym (ap (λ b. has s.order.items k || b) (equal-false d k (λ e. apart (sym e))) ∙ or-false (has s.order.items k))

    counts_at : (k : ℕ) → get_or t.counts.items k 0 ≡ left (has t.order.items) (row needs k)
    counts_at k =
        let same = left-same (has t.order.items) (λ j. has s.order.items j || d == j) (row needs k) has-order in
        omega (arith, same, counts k, u.times k d, r.counts k, left-take (has s.order.items) d (row needs k) known.1)

    done_at : (k : ℕ) → (has s.order.items k ≡ true) ⊎ ((d == k) ≡ true) → get_or t.counts.items k 0 ≡ 0
    done_at k (inl before) = omega (arith, counts k, r.done k before)
    done_at k (inr here) = omega (arith, counts k, ap (λ q. get_or s.counts.items q 0) (sym (equal-true d k here)), known.2)

    no_user : (k : ℕ) → get_or s.counts.items k 0 ≡ 0 → has (row users d) k ≡ false
    no_user k none = not-true (has (row users d) k) (λ some. omega (arith, none, counts k, times-has k (row users d) some))

    not_done : (k : ℕ) → 1 ≤ get_or s.counts.items k 0 → has s.order.items k ≡ false
    not_done k some = not-true (has s.order.items k) (λ was. omega (arith, some, r.done k was))

    other_at : (k : ℕ) → (k ≡ d → ⊥) → (user : Bool) → has (row users d) k ≡ user
        → contains nat_cmp t.ready k ≡ (nat_lt k (length needs) && (not (has t.order.items k) && get_or t.counts.items k 0 == 0))
    other_at k apart true user =
        let here : (d == k) ≡ false = equal-false d k (λ e. apart (sym e)) in
        let some : 1 ≤ get_or s.counts.items k 0 = omega (arith, counts k, times-has k (row users d) user) in
        let zero_count : (get_or s.counts.items k 0 == 0) ≡ false = equal-false (get_or s.counts.items k 0) 0 (λ e. omega (arith, some, e)) in
        let untaken : has s.order.items k ≡ false = not_done k some in
        let order_has : has t.order.items k ≡ false = has-order k ∙ ap (λ b. b || d == k) untaken ∙ here in
        let within : nat_lt k (length needs) ≡ true = lt-ltb k (length needs) (All-member (λ x. x < length needs) (row users d) k (u.within d) (has-member (row users d) k user)) in
        let was : contains nat_cmp s.ready k ≡ false =
        r.ready k ∙ ap (λ b. nat_lt k (length needs) && (not (has s.order.items k) && b)) zero_count
        ∙ ap (λ b. nat_lt k (length needs) && b) (and-false (not (has s.order.items k))) ∙ and-false (nat_lt k (length needs)) in
        ready k
        ∙ ap (λ b. (b && not (d == k)) || (has (row users d) k && get_or t.counts.items k 0 == 0)) was
        ∙ ap (λ b. b && get_or t.counts.items k 0 == 0) user
        ∙ sym (
        ap (λ b. b && (not (has t.order.items k) && get_or t.counts.items k 0 == 0)) within
        ∙ ap (λ b. not b && get_or t.counts.items k 0 == 0) order_has)
    other_at k apart false user =
        let here : (d == k) ≡ false = equal-false d k (λ e. apart (sym e)) in
        let same_count : get_or t.counts.items k 0 ≡ get_or s.counts.items k 0 = omega (arith, counts k, times-none k (row users d) user) in
        let order_has : has t.order.items k ≡ has s.order.items k = has-order k ∙ ap (λ b. has s.order.items k || b) here ∙ or-false (has s.order.items k) in
        ready k
        ∙ ap (λ b. (contains nat_cmp s.ready k && not b) || (has (row users d) k && get_or t.counts.items k 0 == 0)) here
        ∙ ap (λ b. (contains nat_cmp s.ready k && true) || (b && get_or t.counts.items k 0 == 0)) user
        ∙ or-false (contains nat_cmp s.ready k && true) ∙ and-true (contains nat_cmp s.ready k) ∙ r.ready k
        ∙ sym (
        ap (λ b. nat_lt k (length needs) && (not b && get_or t.counts.items k 0 == 0)) order_has
        ∙ ap (λ n. nat_lt k (length needs) && (not (has s.order.items k) && n == 0)) same_count)

    ready_at : (k : ℕ) → (k ≡ d) ⊎ (k ≡ d → ⊥)
        → contains nat_cmp t.ready k ≡ (nat_lt k (length needs) && (not (has t.order.items k) && get_or t.counts.items k 0 == 0))
    ready_at k (inl same) =
        let here : (d == k) ≡ true = eq-eqb d k (sym same) in
        let none : get_or s.counts.items k 0 ≡ 0 = ap (λ q. get_or s.counts.items q 0) same ∙ known.2 in
        let user : has (row users d) k ≡ false = no_user k none in
        let order_has : has t.order.items k ≡ true = has-order k ∙ ap (λ b. has s.order.items k || b) here ∙ or-true (has s.order.items k) in
        ready k
        ∙ ap (λ b. (contains nat_cmp s.ready k && not b) || (has (row users d) k && get_or t.counts.items k 0 == 0)) here
        ∙ ap (λ b. (contains nat_cmp s.ready k && false) || (b && get_or t.counts.items k 0 == 0)) user
        ∙ ap (λ b. b || false) (and-false (contains nat_cmp s.ready k))
        ∙ sym (ap (λ b. nat_lt k (length needs) && (not b && get_or t.counts.items k 0 == 0)) order_has ∙ and-false (nat_lt k (length needs)))
    ready_at k (inr apart) = other_at k apart (has (row users d) k) refl

-- where all were taken, they are in the least order
pub all-taken : (needs : List (List ℕ)) (s : State) → IsRunning needs s → ((k : ℕ) → k < length needs → get_or s.taken.items k false ≡ true)
    → IsLeastOrderOf (Listed needs) (length needs) s.order.items
all-taken needs s r all = record { next = r.next; complete = λ i below. has-member s.order.items i (sym (r.taken i) ∙ all i below) }

-- where none is ready, one that was not taken has a need left
pub stuck-left : (needs : List (List ℕ)) (s : State) (k : ℕ) → IsRunning needs s → ((k : ℕ) → contains nat_cmp s.ready k ≡ false) → k < length needs → get_or s.taken.items k false ≡ false
    → 0 < left (λ j. get_or s.taken.items j false) (row needs k)
stuck-left needs s k r none within untaken = at (cases_eq (left (λ j. get_or s.taken.items j false) (row needs k)) 0)
  where
    same : left (λ j. get_or s.taken.items j false) (row needs k) ≡ get_or s.counts.items k 0
    same = left-same (λ j. get_or s.taken.items j false) (has s.order.items) (row needs k) r.taken ∙ sym (r.counts k)

    at : (left (λ j. get_or s.taken.items j false) (row needs k) ≡ 0) ⊎ (left (λ j. get_or s.taken.items j false) (row needs k) ≡ 0 → ⊥) → 0 < left (λ j. get_or s.taken.items j false) (row needs k)
    at (inl nothing) =
        let ready : contains nat_cmp s.ready k ≡ true =
        r.ready k ∙ rw (lt-ltb k (length needs) within) (rw (sym (r.taken k) ∙ untaken) (eq-eqb (get_or s.counts.items k 0) 0 (sym same ∙ nothing))) in
        absurd (false≢true (sym (none k) ∙ ready))
    at (inr some) = omega (arith, some)

-- ---- before any is taken
replicate-false : (n k : ℕ) → get_or (replicate n false) k false ≡ false
replicate-false zero k = refl
replicate-false (suc n) zero = refl
replicate-false (suc n) (suc k) = replicate-false n k

left-empty : (taken : ℕ → Bool) (xs : List ℕ) → ((k : ℕ) → taken k ≡ false) → left taken xs ≡ length xs
left-empty taken [] none = refl
left-empty taken (x ∷ xs) none =
    omega (arith, count_by-cons (λ y. not (taken y)) x xs, count-true (not (taken x)) (ap not (none x)), left-empty taken xs none)

pub begin-running : (needs : List (List ℕ)) (s : State) → s.order.items ≡ [] → s.taken.items ≡ replicate (length needs) false → length s.counts.items ≡ length needs
    → ((k : ℕ) → k < length needs → get_or s.counts.items k 0 ≡ length (row needs k))
    → ((k : ℕ) → contains nat_cmp s.ready k ≡ (nat_lt k (length needs) && get_or s.counts.items k 0 == 0))
    → IsRunning needs s
begin-running needs s order taken long counts ready =
    record {
      next = subst (AreNext (Listed needs) (length needs) []) (sym order) tt;
      taken_long = ap length taken ∙ length-replicate (length needs) false;
      counts_long = long;
      taken = λ k. ap (λ xs. get_or xs k false) taken ∙ replicate-false (length needs) k ∙ sym (none k);
      counts = λ k. counts_at k (cases_lt k (length needs));
      done = λ k some. absurd (false≢true (sym (none k) ∙ some));
      ready = λ k. ready k ∙ sym (ap (λ b. nat_lt k (length needs) && (not b && get_or s.counts.items k 0 == 0)) (none k));
    }
  where
    none : (k : ℕ) → has s.order.items k ≡ false
    none k = ap (λ xs. has xs k) order

    counts_at : (k : ℕ) → (k < length needs) ⊎ (length needs ≤ k) → get_or s.counts.items k 0 ≡ left (has s.order.items) (row needs k)
    counts_at k (inl below) = counts k below ∙ sym (left-empty (has s.order.items) (row needs k) none)
    counts_at k (inr past) =
        get_or_past s.counts.items k 0 (omega (arith, past, long)) ∙ sym (ap (left (has s.order.items)) (row-past needs k past))

-- one number is taken more
pub untaken-less : (taken : List Bool) (d : ℕ) → d < length taken → get_or taken d false ≡ false → count_by not (set taken d true) < count_by not taken
untaken-less taken d below was =
    omega (arith, sum_by-set (λ b. cond (not b) 1 0) taken d true false below, count-true (not (get_or taken d false)) (ap not was))
