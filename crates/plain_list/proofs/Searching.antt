-- Why the search finds the minimal sets, all of them, in order.
use Rattle.std.proofs.Common.{◌≡◌, ℕ, zero, suc, ◌+◌, ◌<◌, ◌≤◌, ◌⊎◌, inl, inr, List, [], ◌∷◌, ◌++◌, length, take, get_or, refl, ap, sym, ◌∙◌, subst, arith}
use Rattle.std.specs.Prelude.{All, AllPairs, Contains, IsTrue, slice_get, Some}
use Rattle.std.proofs.lemmas.List.{get_or_default, take_more, map-append}
use Rattle.std.proofs.lemmas.List.Elements.{All-nil, All-push, Contains-append_left, Contains-push}
use Rattle.std.proofs.lemmas.List.Quantifiers.{all_pairs_push}
use Rattle.std.proofs.lemmas.Option.{slice_get-get_or}
use Rattle.design_core.specs.declared.design.Design.{Design}
use Rattle.design_core.specs.declared.trace.Trace.{Trace}
use Rattle.design_core.specs.declared.values.SetWithValues.{SetWithValues}
use Rattle.design_core.specs.Works.{IsSet, IsWithin, Works}
use Rattle.loc_base.specs.Sets.{is_before}
use Rattle.design_core.specs.Listing.{IsEntry, IsFront, IsList}
use Rattle.design_core.proofs.Lists.{All-member}
use Rattle.loc_base.proofs.SetOrder.{is_before-strict}
use Rattle.design_core.proofs.ListingLaws.{front-list}
use Rattle.plain_list.specs.declared.search.PlainSearch.{PlainSearch}
use Rattle.plain_list.specs.Candidates.{candidates_of}
use Rattle.plain_list.specs.Groups.{groups_of}
use Rattle.design_core.specs.Explained.{choices_in, Explains}
use Rattle.design_core.specs.Explained.{AreValuesOf}
use Rattle.plain_list.specs.Search.{found_of, members_of, passed_of, IsPassed, IsFresh, IsSearch}
use Rattle.plain_list.proofs.Rising.{Rises, All-implied, AllPairs-nil}
use Rattle.plain_list.proofs.Ordered.{IsCandidate, IsBefore, IsNumber, candidates-each, candidates-ordered, candidates-complete, is_before-shorter, Rises-IsStrictlyIncreasing, Rises-numbers, Rises-made}
use Rattle.plain_list.proofs.Grouping.{groups_of-length, set-numbers}
use Rattle.plain_list.proofs.Inclusion.{within-itself, within-through, within-cases}

-- an element among the first so many
pub taken-at : {X : Type 0} (xs : List X) (n i : ℕ) (d : X) → i < n → i < length xs → Contains (take n xs) (get_or xs i d)
taken-at [] n i d h l = absurd (omega (arith, l))
taken-at (x ∷ xs) zero i d h l = absurd (omega (arith, h))
taken-at (x ∷ xs) (suc n) zero d h l = (0, omega arith, refl)
taken-at (x ∷ xs) (suc n) (suc i) d h l = later (taken-at xs n i d (omega (arith, h)) (omega (arith, l)))
  where
    later : Contains (take n xs) (get_or xs i d) → Contains (x ∷ take n xs) (get_or xs i d)
    later (k, below, at) = (suc k, omega (arith, below), at)

pub taken-index : {X : Type 0} (xs : List X) (n : ℕ) (x : X) → Contains (take n xs) x → (i : ℕ) × (i < n) × (i < length xs) × (get_or xs i x ≡ x)
taken-index [] zero x (k, below, at) = absurd (omega (arith, below))
taken-index [] (suc n) x (k, below, at) = absurd (omega (arith, below))
taken-index (y ∷ xs) zero x (k, below, at) = absurd (omega (arith, below))
taken-index (y ∷ xs) (suc n) x (zero, below, at) = (0, omega arith, omega arith, at)
taken-index (y ∷ xs) (suc n) x (suc k, below, at) = later (taken-index xs n x (k, omega (arith, below), at))
  where
    later : (i : ℕ) × (i < n) × (i < length xs) × (get_or xs i x ≡ x) → (i : ℕ) × (i < suc n) × (i < length (y ∷ xs)) × (get_or (y ∷ xs) i x ≡ x)
    later (i, h, l, e) = (suc i, omega (arith, h), omega (arith, l), e)

three : (i j : ℕ) → (i < j) ⊎ ((i ≡ j) ⊎ (j < i))
three zero zero = inr (inl refl)
three zero (suc j) = inl (omega arith)
three (suc i) zero = inr (inr (omega arith))
three (suc i) (suc j) = next (three i j)
  where
    next : (i < j) ⊎ ((i ≡ j) ⊎ (j < i)) → (suc i < suc j) ⊎ ((suc i ≡ suc j) ⊎ (suc j < suc i))
    next (inl h) = inl (omega (arith, h))
    next (inr (inl e)) = inr (inl (ap suc e))
    next (inr (inr h)) = inr (inr (omega (arith, h)))

-- in a list in order, what is before another stands before it
pub before-index : (sets : List (List ℕ)) (one other : List ℕ) (i j : ℕ) → AllPairs IsBefore sets → i < length sets → j < length sets
    → get_or sets i one ≡ one → get_or sets j other ≡ other → IsBefore one other → i < j
before-index sets one other i j ordered h l at at' before = by_place (three i j)
  where
    one_at : (d : List ℕ) → get_or sets i d ≡ one
    one_at d = get_or_default sets i d one h ∙ at

    other_at : (d : List ℕ) → get_or sets j d ≡ other
    other_at d = get_or_default sets j d other l ∙ at'

    by_place : (i < j) ⊎ ((i ≡ j) ⊎ (j < i)) → i < j
    by_place (inl less) = less
    by_place (inr (inl e)) =
        let same : one ≡ other = sym (one_at one) ∙ ap (λ n. get_or sets n one) e ∙ other_at one in
        let again : IsBefore one one = subst (IsBefore one) (sym same) before in
        absurd (is_before-strict one one again again)
    by_place (inr (inr more)) =
        let back : IsBefore other one = subst (λ x. IsBefore x one) (other_at one) (subst (IsBefore (get_or sets j one)) (one_at one) (ordered j i one more h)) in
        absurd (is_before-strict one other before back)

-- a candidate is a set of suspects, and the other way round
pub candidate-set : (d : Design) (k : ℕ) (set : List ℕ) → IsCandidate (length d.places.items) k set → IsSet (groups_of d) set
candidate-set d k set c =
    record {
      ascending = Rises-IsStrictlyIncreasing 1 (1 + length d.places.items) set c.0;
      numbers = All-implied (IsNumber (length d.places.items)) (IsNumber (length (groups_of d))) set (λ x h. (h.0, subst (λ n. x ≤ n) (sym (groups_of-length d)) h.1))
          (Rises-numbers 1 (length d.places.items) set (omega arith) c.0);
    }

pub set-rises : (d : Design) (set : List ℕ) → IsSet (groups_of d) set → Rises 1 (1 + length d.places.items) set
set-rises d set s = Rises-made 1 (length d.places.items) set s.ascending (set-numbers d set s) (λ x rest e. (All-member (IsNumber (length d.places.items)) set x (set-numbers d set s) (subst (λ xs. Contains xs x) (sym e) (0, omega arith, refl))).0)

pub set-listed : (d : Design) (k : ℕ) (set : List ℕ) → IsSet (groups_of d) set → length set ≤ k → Contains (candidates_of (length d.places.items) k) set
set-listed d k set s h = candidates-complete (length d.places.items) k set (set-rises d set s, h)

-- one set within another is that one, or has fewer members
pub sets-within : (d : Design) (inner outer : List ℕ) → IsSet (groups_of d) inner → IsSet (groups_of d) outer → IsWithin inner outer → (inner ≡ outer) ⊎ (length inner < length outer)
sets-within d inner outer s t w = within-cases 1 (1 + length d.places.items) 1 (1 + length d.places.items) inner outer (set-rises d inner s) (set-rises d outer t) w

pub proper-shorter : (d : Design) (inner outer : List ℕ) → IsSet (groups_of d) inner → IsSet (groups_of d) outer → IsWithin inner outer → ¬ IsWithin outer inner → length inner < length outer
proper-shorter d inner outer s t w proper = by_case (sets-within d inner outer s t w)
  where
    by_case : (inner ≡ outer) ⊎ (length inner < length outer) → length inner < length outer
    by_case (inl e) = absurd (proper (subst (IsWithin outer) (sym e) (within-itself outer)))
    by_case (inr less) = less

pub shorter-proper : (d : Design) (inner outer : List ℕ) → IsSet (groups_of d) inner → IsSet (groups_of d) outer → length inner < length outer → ¬ IsWithin outer inner
shorter-proper d inner outer s t less w = by_case (sets-within d outer inner t s w)
  where
    by_case : (outer ≡ inner) ⊎ (length outer < length inner) → ⊥
    by_case (inl e) = omega (arith, less, ap length e)
    by_case (inr more) = omega (arith, less, more)

-- the candidates of a search
pub search-ordered : (d : Design) (traces : List Trace) (search : PlainSearch) → IsSearch d traces search → AllPairs IsBefore search.candidates.items
search-ordered d traces search s = subst (AllPairs IsBefore) (sym s.candidates) (candidates-ordered (length d.places.items) search.size)

pub search-each : (d : Design) (traces : List Trace) (search : PlainSearch) → IsSearch d traces search → All (IsCandidate (length d.places.items) search.size) search.candidates.items
search-each d traces search s = subst (All (IsCandidate (length d.places.items) search.size)) (sym s.candidates) (candidates-each (length d.places.items) search.size)

pub search-listed : (d : Design) (traces : List Trace) (search : PlainSearch) (set : List ℕ) → IsSearch d traces search → IsSet (groups_of d) set → length set ≤ search.size → Contains search.candidates.items set
search-listed d traces search set s t h = subst (λ xs. Contains xs set) (sym s.candidates) (set-listed d search.size set t h)

-- a minimal set that is passed is listed
pub passed-entry : (d : Design) (traces : List Trace) (k : ℕ) (sets : List (List ℕ)) (set : List ℕ) → All (IsEntry d traces (groups_of d) k) sets → IsPassed d traces sets set
    → IsEntry d traces (groups_of d) k set → Contains sets set
passed-entry d traces k sets set all (inr idle) e = absurd (idle e.minimal.works)
passed-entry d traces k sets set all (inl (listed, c, w)) e = by_case (sets-within d listed set own.suspects e.suspects w)
  where
    own : IsEntry d traces (groups_of d) k listed
    own = All-member (IsEntry d traces (groups_of d) k) sets listed all c

    by_case : (listed ≡ set) ⊎ (length listed < length set) → Contains sets set
    by_case (inl same) = subst (Contains sets) same c
    by_case (inr less) = absurd (e.minimal.least listed own.suspects w (shorter-proper d listed set own.suspects e.suspects less) own.minimal.works)

-- a candidate before one that is passed is passed
pub earlier-passed : (d : Design) (traces : List Trace) (search : PlainSearch) (one other : List ℕ) → IsSearch d traces search → Contains search.candidates.items one → Contains (passed_of search) other → IsBefore one other
    → Contains (passed_of search) one
earlier-passed d traces search one other s (i, h, at) c before = found (taken-index search.candidates.items search.at other c)
  where
    found : (j : ℕ) × (j < search.at) × (j < length search.candidates.items) × (get_or search.candidates.items j other ≡ other) → Contains (passed_of search) one
    found (j, below, within, at') =
        subst (Contains (passed_of search)) at
        (taken-at search.candidates.items search.at i one (omega (arith, below, before-index search.candidates.items one other i j (search-ordered d traces search s) h within at at' before)) h)

pub search-front : (d : Design) (traces : List Trace) (search : PlainSearch) → IsSearch d traces search → IsFront d traces (groups_of d) search.size (members_of (found_of search))
search-front d traces search s =
    record {
      entries = s.entries;
      ordered = s.ordered;
      none_missing = λ set listed e c before.
          passed-entry d traces search.size (members_of (found_of search)) set s.entries
          (All-member (IsPassed d traces (members_of (found_of search))) (passed_of search) set s.passed
          (earlier-passed d traces search set listed s (search-listed d traces search set s e.suspects e.size)
          (All-member (Contains (passed_of search)) (members_of (found_of search)) listed s.among c) before))
          e;
    }

take-long : {X : Type 0} (xs : List X) (n : ℕ) → length xs ≤ n → take n xs ≡ xs
take-long [] zero h = refl
take-long [] (suc n) h = refl
take-long (x ∷ xs) zero h = absurd (omega (arith, h))
take-long (x ∷ xs) (suc n) h = ap (λ ys. x ∷ ys) (take-long xs n (omega (arith, h)))

-- where no candidate is left, all minimal sets are found
pub search-list : (d : Design) (traces : List Trace) (search : PlainSearch) → IsSearch d traces search → length search.candidates.items ≤ search.at
    → IsList d traces (groups_of d) search.size (members_of (found_of search))
search-list d traces search s h =
    front-list (Works d traces (groups_of d)) (groups_of d) search.size (members_of (found_of search)) (search-front d traces search s)
    (λ set e. passed-entry d traces search.size (members_of (found_of search)) set s.entries
    (All-member (IsPassed d traces (members_of (found_of search))) (passed_of search) set s.passed
    (subst (λ xs. Contains xs set) (sym (take-long search.candidates.items search.at h)) (search-listed d traces search set s e.suspects e.size)))
    e)

-- a set that has values works
pub explained-works : (d : Design) (traces : List Trace) (set : List ℕ) (new : SetWithValues) → Explains d traces (groups_of d) set new.values → Works d traces (groups_of d) set
explained-works d traces set new x trace (j, h, e) =
    let at : slice_get traces j ≡ Some trace = slice_get-get_or traces j trace h ∙ ap Some e in
    (choices_in traces new.values j, x.widths j trace at, x.meets j trace at)

-- the candidate that is next
abbrev pub IsNext : PlainSearch → List ℕ → Type 0
IsNext search set = (search.at < length search.candidates.items) × (get_or search.candidates.items search.at set ≡ set)

pub next-candidate : (d : Design) (traces : List Trace) (search : PlainSearch) (set : List ℕ) → IsSearch d traces search → IsNext search set → IsCandidate (length d.places.items) search.size set
next-candidate d traces search set s n = All-member (IsCandidate (length d.places.items) search.size) search.candidates.items set (search-each d traces search s) (search.at, n.0, n.1)

pub next-set : (d : Design) (traces : List Trace) (search : PlainSearch) (set : List ℕ) → IsSearch d traces search → IsNext search set → IsSet (groups_of d) set
next-set d traces search set s n = candidate-set d search.size set (next-candidate d traces search set s n)

-- a candidate that is fresh is minimal
pub fresh-minimal : (d : Design) (traces : List Trace) (search : PlainSearch) (set : List ℕ) (new : SetWithValues) → IsSearch d traces search → IsNext search set
    → IsFresh d traces (members_of (found_of search)) set new → IsEntry d traces (groups_of d) search.size set
fresh-minimal d traces search set new s n f =
    record {
      suspects = own;
      size = (next-candidate d traces search set s n).1;
      minimal = record { works = explained-works d traces set new f.values; least = λ inner t w proper. idle inner w (passed inner t w proper) };
    }
  where
    own : IsSet (groups_of d) set
    own = next-set d traces search set s n

    before : (inner : List ℕ) → IsSet (groups_of d) inner → IsWithin inner set → ¬ IsWithin set inner → IsBefore inner set
    before inner t w proper = is_before-shorter inner set (proper-shorter d inner set t own w proper)

    among : (inner : List ℕ) → IsBefore inner set → Contains search.candidates.items inner → Contains (passed_of search) inner
    among inner b (i, h, at) =
        subst (Contains (passed_of search)) at
        (taken-at search.candidates.items search.at i inner (before-index search.candidates.items inner set i search.at (search-ordered d traces search s) h n.0 at n.1 b) h)

    passed : (inner : List ℕ) → IsSet (groups_of d) inner → IsWithin inner set → ¬ IsWithin set inner → IsPassed d traces (members_of (found_of search)) inner
    passed inner t w proper =
        All-member (IsPassed d traces (members_of (found_of search))) (passed_of search) inner s.passed
        (among inner (before inner t w proper)
        (search-listed d traces search inner s t (omega (arith, proper-shorter d inner set t own w proper, (next-candidate d traces search set s n).1))))

    idle : (inner : List ℕ) → IsWithin inner set → IsPassed d traces (members_of (found_of search)) inner → ¬ Works d traces (groups_of d) inner
    idle inner w (inl (listed, c, v)) works = f.apart (listed, c, within-through listed inner set v w)
    idle inner w (inr none) works = none works

passed_of-next : (search new : PlainSearch) (set : List ℕ) → IsNext search set → new.candidates.items ≡ search.candidates.items → new.at ≡ search.at + 1 → passed_of new ≡ passed_of search ++ set ∷ []
passed_of-next search new set n e a =
    ap (λ m. take m new.candidates.items) a ∙ ap (take (search.at + 1)) e ∙ take_more search.candidates.items search.at set n.0 ∙ ap (λ x. passed_of search ++ x ∷ []) n.1

-- a search that has passed one more candidate
pub search-passed : (d : Design) (traces : List Trace) (search new : PlainSearch) (set : List ℕ) → IsSearch d traces search → IsNext search set
    → IsPassed d traces (members_of (found_of search)) set
    → found_of new ≡ found_of search → new.candidates.items ≡ search.candidates.items → new.at ≡ search.at + 1 → new.size ≡ search.size
    → IsSearch d traces new
search-passed d traces search new set s n p f e a z =
    record {
      candidates = e ∙ s.candidates ∙ ap (candidates_of (length d.places.items)) (sym z);
      at = subst (λ m. new.at ≤ length m) (sym e) (subst (λ m. m ≤ length search.candidates.items) (sym a) (omega (arith, n.0)));
      passed = subst (λ xs. All (IsPassed d traces (members_of (found_of new))) xs) (sym more)
          (subst (λ fs. All (IsPassed d traces (members_of fs)) (passed_of search ++ set ∷ [])) (sym f)
          (All-push (IsPassed d traces (members_of (found_of search))) (passed_of search) set s.passed p));
      among = subst (λ xs. All (Contains xs) (members_of (found_of new))) (sym more)
          (subst (λ fs. All (Contains (passed_of search ++ set ∷ [])) (members_of fs)) (sym f)
          (All-implied (Contains (passed_of search)) (Contains (passed_of search ++ set ∷ [])) (members_of (found_of search)) (λ x c. Contains-append_left (passed_of search) (set ∷ []) x c) s.among));
      entries = subst (λ k. All (IsEntry d traces (groups_of d) k) (members_of (found_of new))) (sym z)
          (subst (λ fs. All (IsEntry d traces (groups_of d) search.size) (members_of fs)) (sym f) s.entries);
      ordered = subst (λ fs. AllPairs (λ one other. IsTrue (is_before one other)) (members_of fs)) (sym f) s.ordered;
      values = subst (λ fs. All (λ (x : SetWithValues). Explains d traces (groups_of d) x.members x.values) fs) (sym f) s.values;
      shapes = subst (λ fs. All (λ (x : SetWithValues). AreValuesOf d traces (groups_of d) x.members x.values) fs) (sym f) s.shapes;
    }
  where
    more : passed_of new ≡ passed_of search ++ set ∷ []
    more = passed_of-next search new set n e a

-- a search that has found nothing more stays one
pub search-kept : (d : Design) (traces : List Trace) (search new : PlainSearch) → IsSearch d traces search
    → found_of new ≡ found_of search → new.candidates.items ≡ search.candidates.items → new.at ≡ search.at → new.size ≡ search.size
    → IsSearch d traces new
search-kept d traces search new s f e a z =
    record {
      candidates = e ∙ s.candidates ∙ ap (candidates_of (length d.places.items)) (sym z);
      at = subst (λ m. new.at ≤ length m) (sym e) (subst (λ m. m ≤ length search.candidates.items) (sym a) s.at);
      passed = subst (λ xs. All (IsPassed d traces (members_of (found_of new))) xs) (sym same)
          (subst (λ fs. All (IsPassed d traces (members_of fs)) (passed_of search)) (sym f) s.passed);
      among = subst (λ xs. All (Contains xs) (members_of (found_of new))) (sym same) (subst (λ fs. All (Contains (passed_of search)) (members_of fs)) (sym f) s.among);
      entries = subst (λ k. All (IsEntry d traces (groups_of d) k) (members_of (found_of new))) (sym z)
          (subst (λ fs. All (IsEntry d traces (groups_of d) search.size) (members_of fs)) (sym f) s.entries);
      ordered = subst (λ fs. AllPairs (λ one other. IsTrue (is_before one other)) (members_of fs)) (sym f) s.ordered;
      values = subst (λ fs. All (λ (x : SetWithValues). Explains d traces (groups_of d) x.members x.values) fs) (sym f) s.values;
      shapes = subst (λ fs. All (λ (x : SetWithValues). AreValuesOf d traces (groups_of d) x.members x.values) fs) (sym f) s.shapes;
    }
  where
    same : passed_of new ≡ passed_of search
    same = ap (λ m. take m new.candidates.items) a ∙ ap (take search.at) e

-- what was passed is passed where more is listed
passed-more : (d : Design) (traces : List Trace) (sets : List (List ℕ)) (more set : List ℕ) → IsPassed d traces sets set → IsPassed d traces (sets ++ more ∷ []) set
passed-more d traces sets more set (inl (listed, c, w)) = inl (listed, Contains-append_left sets (more ∷ []) listed c, w)
passed-more d traces sets more set (inr none) = inr none

-- a search that has found one more
pub search-found : (d : Design) (traces : List Trace) (search new : PlainSearch) (set : List ℕ) (one : SetWithValues) → IsSearch d traces search → IsNext search set
    → IsFresh d traces (members_of (found_of search)) set one
    → found_of new ≡ found_of search ++ one ∷ [] → new.candidates.items ≡ search.candidates.items → new.at ≡ search.at + 1 → new.size ≡ search.size
    → IsSearch d traces new
search-found d traces search new set one s n fresh f e a z =
    record {
      candidates = e ∙ s.candidates ∙ ap (candidates_of (length d.places.items)) (sym z);
      at = subst (λ m. new.at ≤ length m) (sym e) (subst (λ m. m ≤ length search.candidates.items) (sym a) (omega (arith, n.0)));
      passed = subst (λ xs. All (IsPassed d traces (members_of (found_of new))) xs) (sym more)
          (subst (λ sets. All (IsPassed d traces sets) (passed_of search ++ set ∷ [])) (sym listed)
          (All-push (IsPassed d traces (old ++ set ∷ [])) (passed_of search) set
          (All-implied (IsPassed d traces old) (IsPassed d traces (old ++ set ∷ [])) (passed_of search) (λ x p. passed-more d traces old set x p) s.passed)
          (inl (set, Contains-push old set, within-itself set))));
      among = subst (λ xs. All (Contains xs) (members_of (found_of new))) (sym more)
          (subst (All (Contains (passed_of search ++ set ∷ []))) (sym listed)
          (All-push (Contains (passed_of search ++ set ∷ [])) old set
          (All-implied (Contains (passed_of search)) (Contains (passed_of search ++ set ∷ [])) old (λ x c. Contains-append_left (passed_of search) (set ∷ []) x c) s.among)
          (Contains-push (passed_of search) set)));
      entries = subst (λ k. All (IsEntry d traces (groups_of d) k) (members_of (found_of new))) (sym z)
          (subst (All (IsEntry d traces (groups_of d) search.size)) (sym listed)
          (All-push (IsEntry d traces (groups_of d) search.size) old set s.entries (fresh-minimal d traces search set one s n fresh)));
      ordered = subst (AllPairs IsBefore) (sym listed) (all_pairs_push IsBefore old set s.ordered (λ k x h. before (get_or old k x) (s.among k x h)));
      values = subst (All (λ (x : SetWithValues). Explains d traces (groups_of d) x.members x.values)) (sym f)
          (All-push (λ (x : SetWithValues). Explains d traces (groups_of d) x.members x.values) (found_of search) one s.values
          (subst (λ xs. Explains d traces (groups_of d) xs one.values) (sym fresh.members) fresh.values));
      shapes = subst (All (λ (x : SetWithValues). AreValuesOf d traces (groups_of d) x.members x.values)) (sym f)
          (All-push (λ (x : SetWithValues). AreValuesOf d traces (groups_of d) x.members x.values) (found_of search) one s.shapes
          (subst (λ xs. AreValuesOf d traces (groups_of d) xs one.values) (sym fresh.members) fresh.shape));
    }
  where
    old : List (List ℕ)
    old = members_of (found_of search)

    more : passed_of new ≡ passed_of search ++ set ∷ []
    more = passed_of-next search new set n e a

    listed : members_of (found_of new) ≡ old ++ set ∷ []
    listed = ap members_of f ∙ map-append (λ (x : SetWithValues). x.members) (found_of search) (one ∷ []) ∙ ap (λ x. old ++ x ∷ []) fresh.members

    before : (x : List ℕ) → Contains (passed_of search) x → IsBefore x set
    before x c = at (taken-index search.candidates.items search.at x c)
      where
        at : (i : ℕ) × (i < search.at) × (i < length search.candidates.items) × (get_or search.candidates.items i x ≡ x) → IsBefore x set
        at (i, h, l, e) =
            subst (IsBefore x) (get_or_default search.candidates.items search.at x set n.0 ∙ n.1)
            (subst (λ y. IsBefore y (get_or search.candidates.items search.at x)) e (search-ordered d traces search s i search.at x h n.0))

-- a search that begins
pub search-new : (d : Design) (traces : List Trace) (search : PlainSearch) → search.candidates.items ≡ candidates_of (length d.places.items) search.size → search.at ≡ 0 → found_of search ≡ []
    → IsSearch d traces search
search-new d traces search e a f =
    record {
      candidates = e;
      at = subst (λ m. m ≤ length search.candidates.items) (sym a) (omega arith);
      passed = subst (λ m. All (IsPassed d traces (members_of (found_of search))) (take m search.candidates.items)) (sym a) (All-nil (IsPassed d traces (members_of (found_of search))));
      among = subst (λ fs. All (Contains (passed_of search)) (members_of fs)) (sym f) (All-nil (Contains (passed_of search)));
      entries = subst (λ fs. All (IsEntry d traces (groups_of d) search.size) (members_of fs)) (sym f) (All-nil (IsEntry d traces (groups_of d) search.size));
      ordered = subst (λ fs. AllPairs IsBefore (members_of fs)) (sym f) (AllPairs-nil IsBefore);
      values = subst (All (λ (x : SetWithValues). Explains d traces (groups_of d) x.members x.values)) (sym f) (All-nil (λ (x : SetWithValues). Explains d traces (groups_of d) x.members x.values));
      shapes = subst (All (λ (x : SetWithValues). AreValuesOf d traces (groups_of d) x.members x.values)) (sym f) (All-nil (λ (x : SetWithValues). AreValuesOf d traces (groups_of d) x.members x.values));
    }

-- what a search says of the sets that it has found
pub search-values : (d : Design) (traces : List Trace) (search : PlainSearch) → IsSearch d traces search → All (λ (x : SetWithValues). Explains d traces (groups_of d) x.members x.values) (found_of search)
search-values d traces search s = s.values

pub search-shapes : (d : Design) (traces : List Trace) (search : PlainSearch) → IsSearch d traces search → All (λ (x : SetWithValues). AreValuesOf d traces (groups_of d) x.members x.values) (found_of search)
search-shapes d traces search s = s.shapes

pub ruleset search_rules = (search-front, search-list, search-values, search-shapes)
