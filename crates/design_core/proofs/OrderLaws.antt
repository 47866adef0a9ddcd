-- The least order is an order in which nothing depends on itself or on a later number, it is the only one, and there is
-- none where numbers depend on each other in a circle.
use Rattle.std.proofs.Common.{ℕ, ◌≡◌, ◌<◌, List, [], ◌∷◌, ◌++◌, length, refl, sym, subst, arith, ◌⊎◌, inl, inr}
use Rattle.std.specs.Prelude.{◌≢◌, All, AllPairs, Contains}
use Rattle.std.proofs.lemmas.Bool.{cases_order}
use Rattle.std.proofs.lemmas.List.{append-nil, append_assoc}
use Rattle.std.proofs.lemmas.List.Elements.{Contains-append_left, Contains-append_right, Contains-append_cases, All-nil, All-cons}
use Rattle.std.proofs.lemmas.List.Kept.{AllPairs-cons}
use Rattle.loc_base.proofs.ShelfLists.{Contains-cons, Contains-empty, Contains-first, Contains-later}
use Rattle.design_core.specs.declared.design.Design.{Design}
use Rattle.design_core.specs.Reads.{Depends, IsOrder}
use Rattle.design_core.specs.Order.{IsReady, IsNext, AreNext, IsLeastOrderOf, Leads, HasCircleOf, IsLeastOrder}

-- what holds of each member
All-from : {X : Type 0} (P : X → Type 0) (xs : List X) → ((x : X) → Contains xs x → P x) → All P xs
All-from P [] h = All-nil P
All-from P (x ∷ xs) h = All-cons P x xs (h x (Contains-first x xs)) (All-from P xs (λ y member. h y (Contains-later x xs y member)))

AllPairs-none : {X : Type 0} (R : X → X → Type 0) → AllPairs R []
AllPairs-none R i j d before below = absurd (omega (arith, below))

-- one more that is taken
longer : (taken rest : List ℕ) (i : ℕ) → (taken ++ i ∷ []) ++ rest ≡ taken ++ i ∷ rest
longer taken rest i = append_assoc taken (i ∷ []) rest

taken-last : (taken : List ℕ) (i : ℕ) → Contains (taken ++ i ∷ []) i
taken-last taken i = Contains-append_right taken (i ∷ []) i (Contains-first i [])

taken-before : (taken : List ℕ) (i j : ℕ) → Contains taken j → Contains (taken ++ i ∷ []) j
taken-before taken i j was = Contains-append_left taken (i ∷ []) j was

-- ---- an order
-- what comes was not taken
untaken-all : (D : ℕ → ℕ → Type 0) (n : ℕ) (taken order : List ℕ) → AreNext D n taken order → (j : ℕ) → Contains order j → Contains taken j → ⊥
untaken-all D n taken [] next j member was = Contains-empty j member
untaken-all D n taken (i ∷ rest) (first, later) j member was = elim (Contains-cons i rest j member) [
  | inl same ↦ first.ready.untaken (subst (Contains taken) (sym same) was)
  | inr behind ↦ untaken-all D n (taken ++ i ∷ []) rest later j behind (taken-before taken i j was)
]

numbers-next : (D : ℕ → ℕ → Type 0) (n : ℕ) (taken order : List ℕ) → AreNext D n taken order → All (λ i. i < n) order
numbers-next D n taken [] next = All-nil (λ i. i < n)
numbers-next D n taken (i ∷ rest) (first, later) = All-cons (λ i. i < n) i rest first.within (numbers-next D n (taken ++ i ∷ []) rest later)

itself-next : (D : ℕ → ℕ → Type 0) (n : ℕ) (taken order : List ℕ) → AreNext D n taken order → All (λ i. ¬ D i i) order
itself-next D n taken [] next = All-nil (λ i. ¬ D i i)
itself-next D n taken (i ∷ rest) (first, later) =
    All-cons (λ i. ¬ D i i) i rest (λ on. first.ready.untaken (first.ready.met i on)) (itself-next D n (taken ++ i ∷ []) rest later)

distinct-next : (D : ℕ → ℕ → Type 0) (n : ℕ) (taken order : List ℕ) → AreNext D n taken order → AllPairs (λ i j. i ≢ j) order
distinct-next D n taken [] next = AllPairs-none (λ i j. i ≢ j)
distinct-next D n taken (i ∷ rest) (first, later) =
    AllPairs-cons (λ i j. i ≢ j) i rest
    (All-from (λ j. i ≢ j) rest (λ j member same. untaken-all D n (taken ++ i ∷ []) rest later j member (subst (Contains (taken ++ i ∷ [])) same (taken-last taken i))))
    (distinct-next D n (taken ++ i ∷ []) rest later)

later-next : (D : ℕ → ℕ → Type 0) (n : ℕ) (taken order : List ℕ) → AreNext D n taken order → AllPairs (λ i j. ¬ D i j) order
later-next D n taken [] next = AllPairs-none (λ i j. ¬ D i j)
later-next D n taken (i ∷ rest) (first, later) =
    AllPairs-cons (λ i j. ¬ D i j) i rest
    (All-from (λ j. ¬ D i j) rest (λ j member on. untaken-all D n (taken ++ i ∷ []) rest later j member (taken-before taken i j (first.ready.met j on))))
    (later-next D n (taken ++ i ∷ []) rest later)

-- the least order is one in which no driver depends on itself or on a later one
pub least-is_order : (d : Design) (order : List ℕ) → IsLeastOrder d order → IsOrder d order
least-is_order d order least =
    let n : ℕ = length d.drivers.items in
    record {
      numbers = numbers-next (Depends d) n [] order least.next;
      complete = least.complete;
      distinct = distinct-next (Depends d) n [] order least.next;
      not_itself = itself-next (Depends d) n [] order least.next;
      not_later = later-next (Depends d) n [] order least.next;
    }

-- ---- the only one
next-same : (D : ℕ → ℕ → Type 0) (n : ℕ) (taken : List ℕ) (i j : ℕ) → IsNext D n taken i → IsNext D n taken j → i ≡ j
next-same D n taken i j one other = at (cases_order i j)
  where
    at : (i ≡ j) ⊎ ((i < j) ⊎ (j < i)) → i ≡ j
    at (inl same) = same
    at (inr (inl below)) = absurd (other.least i below one.ready)
    at (inr (inr above)) = absurd (one.least j above other.ready)

-- a list that has all numbers is followed by none
ended : (D : ℕ → ℕ → Type 0) (n : ℕ) (taken : List ℕ) (i : ℕ) → ((k : ℕ) → k < n → Contains (taken ++ []) k) → IsNext D n taken i → ⊥
ended D n taken i all next = next.ready.untaken (subst (λ xs. Contains xs i) (append-nil taken) (all i next.within))

pub next-unique : (D : ℕ → ℕ → Type 0) (n : ℕ) (taken one other : List ℕ) → AreNext D n taken one → AreNext D n taken other
    → ((k : ℕ) → k < n → Contains (taken ++ one) k) → ((k : ℕ) → k < n → Contains (taken ++ other) k) → one ≡ other
next-unique D n taken [] [] a b all_one all_other = refl
next-unique D n taken [] (j ∷ other) a (second, b) all_one all_other = absurd (ended D n taken j all_one second)
next-unique D n taken (i ∷ one) [] (first, a) b all_one all_other = absurd (ended D n taken i all_other first)
next-unique D n taken (i ∷ one) (j ∷ other) (first, a) (second, b) all_one all_other =
    let same : i ≡ j = next-same D n taken i j first second in
    let rest : one ≡ other =
    next-unique D n (taken ++ i ∷ []) one other a (subst (λ k. AreNext D n (taken ++ k ∷ []) other) (sym same) b)
    (λ k below. subst (λ xs. Contains xs k) (sym (longer taken one i)) (all_one k below))
    (λ k below. subst (λ xs. Contains xs k) (sym (longer taken other i)) (subst (λ l. Contains (taken ++ l ∷ other) k) (sym same) (all_other k below))) in
    cc

pub least-unique : (D : ℕ → ℕ → Type 0) (n : ℕ) (one other : List ℕ) → IsLeastOrderOf D n one → IsLeastOrderOf D n other → one ≡ other
least-unique D n one other a b = next-unique D n [] one other a.next b.next a.complete b.complete

-- ---- circles
-- all on which one that was taken depends were taken, and no path leads from one back to it
record IsClosed (D : ℕ → ℕ → Type 0) (taken : List ℕ) : Type 0 where
  down : (i j : ℕ) → Contains taken i → D i j → Contains taken j
  no_return : (i : ℕ) (path : List ℕ) → Contains taken i → Leads D i path i → ⊥

reached : (D : ℕ → ℕ → Type 0) (taken : List ℕ) → IsClosed D taken → (path : List ℕ) (i last : ℕ) → Contains taken i → Leads D i path last → Contains taken last
reached D taken c [] i last was leads = c.down i last was leads
reached D taken c (j ∷ path) i last was (first, rest) = reached D taken c path j last (c.down i j was first) rest

closed-next : (D : ℕ → ℕ → Type 0) (n : ℕ) (taken : List ℕ) (i : ℕ) → IsClosed D taken → IsNext D n taken i → IsClosed D (taken ++ i ∷ [])
closed-next D n taken i c next =
    record {
      down = λ k j was on. down k j on (Contains-append_cases taken (i ∷ []) k was);
      no_return = λ k path was leads. no_return k path leads (Contains-append_cases taken (i ∷ []) k was);
    }
  where
    is_last : (k : ℕ) → Contains (i ∷ []) k → i ≡ k
    is_last k member = elim (Contains-cons i [] k member) [ inl same ↦ same | inr none ↦ absurd (Contains-empty k none) ]

    down : (k j : ℕ) → D k j → Contains taken k ⊎ Contains (i ∷ []) k → Contains (taken ++ i ∷ []) j
    down k j on (inl was) = taken-before taken i j (c.down k j was on)
    down k j on (inr new) = taken-before taken i j (next.ready.met j (subst (λ l. D l j) (sym (is_last k new)) on))

    own : (path : List ℕ) → Leads D i path i → ⊥
    own [] leads = next.ready.untaken (next.ready.met i leads)
    own (j ∷ path) (first, rest) = next.ready.untaken (reached D taken c path j i (next.ready.met j first) rest)

    no_return : (k : ℕ) (path : List ℕ) → Leads D k path k → Contains taken k ⊎ Contains (i ∷ []) k → ⊥
    no_return k path leads (inl was) = c.no_return k path was leads
    no_return k path leads (inr new) = own path (subst (λ l. Leads D l path l) (sym (is_last k new)) leads)

closed-all : (D : ℕ → ℕ → Type 0) (n : ℕ) (taken order : List ℕ) → IsClosed D taken → AreNext D n taken order → IsClosed D (taken ++ order)
closed-all D n taken [] c next = subst (IsClosed D) (sym (append-nil taken)) c
closed-all D n taken (i ∷ rest) c (first, later) =
    subst (IsClosed D) (longer taken rest i) (closed-all D n (taken ++ i ∷ []) rest (closed-next D n taken i c first) later)

pub circle-no_least : (D : ℕ → ℕ → Type 0) (n : ℕ) (order : List ℕ) → HasCircleOf D n → IsLeastOrderOf D n order → ⊥
circle-no_least D n order circle least =
    let none : IsClosed D [] = record {
      down = λ i j was on. absurd (Contains-empty i was);
      no_return = λ i path was leads. Contains-empty i was;
    } in
    (closed-all D n [] order none least.next).no_return circle.number circle.path (least.complete circle.number circle.within) circle.leads

-- ---- two relations that say the same
ready-alike : (D E : ℕ → ℕ → Type 0) (taken : List ℕ) (i : ℕ) → ((i j : ℕ) → E i j → D i j) → IsReady D taken i → IsReady E taken i
ready-alike D E taken i back ready = record { untaken = ready.untaken; met = λ j on. ready.met j (back i j on) }

next-alike : (D E : ℕ → ℕ → Type 0) (n : ℕ) (taken order : List ℕ) → ((i j : ℕ) → D i j → E i j) → ((i j : ℕ) → E i j → D i j) → AreNext D n taken order → AreNext E n taken order
next-alike D E n taken [] on back next = tt
next-alike D E n taken (i ∷ rest) on back (first, later) = (
  record {
    within = first.within;
    ready = ready-alike D E taken i back first.ready;
    least = λ k below ready. first.least k below (ready-alike E D taken k on ready);
  },
  next-alike D E n (taken ++ i ∷ []) rest on back later,
)

-- they have the same least order, and the same circles
pub least-alike : (D E : ℕ → ℕ → Type 0) (n : ℕ) (order : List ℕ) → ((i j : ℕ) → D i j → E i j) → ((i j : ℕ) → E i j → D i j)
    → IsLeastOrderOf D n order → IsLeastOrderOf E n order
least-alike D E n order on back least = record { next = next-alike D E n [] order on back least.next; complete = least.complete }

leads-alike : (D E : ℕ → ℕ → Type 0) (path : List ℕ) (i last : ℕ) → ((i j : ℕ) → D i j → E i j) → Leads D i path last → Leads E i path last
leads-alike D E [] i last on leads = on i last leads
leads-alike D E (j ∷ path) i last on (first, rest) = (on i j first, leads-alike D E path j last on rest)

pub circle-alike : (D E : ℕ → ℕ → Type 0) (n : ℕ) → ((i j : ℕ) → D i j → E i j) → HasCircleOf D n → HasCircleOf E n
circle-alike D E n on circle = record {
  number = circle.number;
  path = circle.path;
  within = circle.within;
  leads = leads-alike D E circle.path circle.number circle.number on circle.leads;
}
