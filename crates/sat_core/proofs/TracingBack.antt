-- Tracing a true literal back, the last literal that waits first.
use Rattle.std.proofs.Common.{◌≡◌, ℕ, ◌+◌, ◌-◌, ◌<◌, ◌≤◌, Bool, true, false, not, cond, ◌&&◌, ◌||◌, max, eqb, List, [], ◌∷◌, ◌++◌, map, length, get_or, set, take, Option, Some, None, refl, sym, ap, ◌∙◌, subst, arith, ◌⊎◌, inl, inr, ⊎_elim}
use Rattle.std.specs.Prelude.{is_none, IsSome, All, count_by, slice_get}
use Rattle.std.specs.BinaryHeap.{IsUpperBound}
use Rattle.std.specs.List.{AllZip}
use Rattle.std.specs.Option.{option_and_then, option_map}
use Rattle.std.specs.Ordering.{nat_cmp}
use Rattle.std.specs.List.Sorted.{IsPermutation}
use Rattle.std.proofs.lemmas.Bool.{false≢true, both_ways, cases_Bool, cases_eq, cases_lt, eqb-true, eq-eqb, ne_eqb, and_parts, and_from, or_left, or_right, false_from_ne_true, not_from_false, not-true}
use Rattle.std.proofs.lemmas.List.{length-set, get_or-set_same, get_or-set_other, get_or_default, take_more}
use Rattle.std.proofs.lemmas.List.Elements.{All-cons, All-head, All-nil, All-push, All-tail}
use Rattle.std.proofs.lemmas.List.Sorted.{All-permutation, le_from_greatest, sum_by-IsPermutation}
use Rattle.std.proofs.lemmas.List.Sums.{get_or-le-sum_by, sum_by-cons}
use Rattle.loc_base.proofs.ShelfBools.{and-false, and-true, or-comm, or-false, count-false, count-true}
use Rattle.clause_base.specs.declared.literal.Lit.{Lit}
use Rattle.clause_base.specs.Literal.{positive, negative, opposite, same_lit, has, has_variable, has_distinct_variables, IsWithin}
use Rattle.clause_base.specs.declared.log.Step.{Step}
use Rattle.clause_base.specs.declared.log.StepKind.TheVariants.{Derived}
use Rattle.clause_base.specs.Resolution.{IsResult}
use Rattle.clause_base.specs.Acceptance.{numbered}
use Rattle.clause_base.proofs.Sets.{has-push, has_variable-push, has_either, same_lit_itself}
use Rattle.trail_core.specs.declared.entry.Entry.{Entry}
use Rattle.trail_core.specs.Values.{IsVariable, IsFalseIn, IsTrueIn}
use Rattle.trail_core.specs.TrailState.{TrailState, IsTrail, entry_of, values_of, reason_in, is_decision}
use Rattle.trail_core.proofs.Looks.{has_at, variable_of}
use Rattle.trail_core.proofs.Truth.{mapped}
use Rattle.sat_core.specs.Derivation.{is_false, marked, set_of, opposites_of, AreFalse, AreOf, Denies, IsPast, Refutes, RefutesAt, RestsBefore, Starts}
use Rattle.sat_core.specs.Searching.{DerivesStep}
use Rattle.sat_core.specs.Tracing.{AreDue, Gathers, HasPlaces, IsDerivedFor, waits}
use Rattle.sat_core.proofs.Sets.{Gives-same}
use Rattle.sat_core.proofs.Marks.{marked-set_same, marked-set_other}
use Rattle.sat_core.proofs.Tracking.{distinct_push, entries_differ, entry_at, false_same, no_zero, same_lit_other, set_other}
use Rattle.sat_core.proofs.Resolving.{among, entry_of_place, forced_at, no_entry, place_lit, reason_at}
use Rattle.sat_core.proofs.Refuting.{Refutes-step}
use Rattle.sat_core.proofs.Denying.{collected, collected_set, Denies-from}

-- one more than the greatest of the numbers, 0 where there is none
abbrev pub top : List ℕ → ℕ
top [] = 0
top (x ∷ xs) = max (x + 1) (top xs)

pub top-low : (xs : List ℕ) (n : ℕ) → All (λ q. q < n) xs → top xs ≤ n
top-low [] n all = omega arith
top-low (x ∷ xs) n all = omega (arith, All-head (λ q. q < n) x xs all, top-low xs n (All-tail (λ q. q < n) x xs all))

pub top-high : (xs : List ℕ) → All (λ q. q < top xs) xs
top-high [] = All-nil (λ q. q < 0)
top-high (x ∷ xs) = All-cons (λ q. q < max (x + 1) (top xs)) x xs (omega arith) (λ i d l. omega (arith, top-high xs i d l))

-- the row of places, one entry more gone over
pub record PlacesTo (t : TrailState) (n : ℕ) (places : List ℕ) : Type 0 where
  pub size : length places ≡ t.vars
  pub each : (i : ℕ) (d : Entry) → i < n → get_or places ((get_or t.entries i d).lit.var - 1) 0 ≡ i

pub PlacesTo-more : (t : TrailState) (n : ℕ) (places after : List ℕ) (l : Lit) → IsTrail t → n < length t.entries → (get_or t.entries n no_entry).lit ≡ l → PlacesTo t n places → after ≡ set places (l.var - 1) n → PlacesTo t (n + 1) after
PlacesTo-more t n places after l h k e r q = subst (PlacesTo t (n + 1)) (sym q) record {
  size = length-set places (l.var - 1) n ∙ r.size;
  each = λ i d b. elim (cases_lt i n) [ inl c ↦ earlier i d c | inr c ↦ let same : n ≡ i = omega (arith, b, c) in subst (λ j. get_or (set places (l.var - 1) n) ((get_or t.entries j d).lit.var - 1) 0 ≡ j) same (here d) ];
}
  where
    lit_is : (d : Entry) → (get_or t.entries n d).lit ≡ l
    lit_is d = ap (λ (x : Entry). x.lit) (get_or_default t.entries n d no_entry k) ∙ e

    variable : IsVariable t.vars l.var
    variable = subst (λ (x : Lit). IsVariable t.vars x.var) e (h.justified n no_entry k).variable

    here : (d : Entry) → get_or (set places (l.var - 1) n) ((get_or t.entries n d).lit.var - 1) 0 ≡ n
    here d =
        let low : l.var - 1 < length places = omega (arith, r.size, variable.above, variable.within) in
        ap (λ (x : Lit). get_or (set places (l.var - 1) n) (x.var - 1) 0) (lit_is d) ∙ get_or-set_same places (l.var - 1) n 0 low

    earlier : (i : ℕ) (d : Entry) → i < n → get_or (set places (l.var - 1) n) ((get_or t.entries i d).lit.var - 1) 0 ≡ i
    earlier i d c =
        let w = (h.justified i d (omega (arith, c, k))).variable in
        get_or-set_other places (l.var - 1) ((get_or t.entries i d).lit.var - 1) n 0
        (λ same. entries_differ t i n d d h (omega (arith, c, k)) k (λ z. absurd (omega (arith, c, z))) (omega (arith, same, w.above, variable.above, ap (λ (x : Lit). x.var) (lit_is d))))
        ∙ r.each i d c

-- ---- what waits
pub AreDue-permutation : (t : TrailState) (marks : List Bool) (xs ys : List ℕ) → IsPermutation xs ys → AreDue t marks xs → AreDue t marks ys
AreDue-permutation t marks xs ys p a = record {
  within = All-permutation (λ i. i < length t.entries) xs ys p a.within;
  once = λ i d l. sum_by-IsPermutation (λ q. cond (eqb q i) 1 0) xs ys p ∙ a.once i d l;
}

pub AreDue-none : (t : TrailState) (marks : List Bool) (due : List ℕ) → due ≡ [] → ((v : ℕ) → marked marks v ≡ false) → AreDue t marks due
AreDue-none t marks due e clean = subst (AreDue t marks) (sym e) record {
  within = All-nil (λ i. i < length t.entries);
  once = λ i d l. sym (ap (λ b. cond (b && not (is_decision (get_or t.entries i d))) 1 0) (clean (get_or t.entries i d).lit.var));
}

-- an entry that is marked and isn't due is a decision
pub due_decides : (t : TrailState) (marks : List Bool) (due : List ℕ) (p : ℕ) → AreDue t marks due → All (λ q. q < p) due → (i : ℕ) (d : Entry) → p ≤ i → i < length t.entries → marked marks (get_or t.entries i d).lit.var ≡ true → is_decision (get_or t.entries i d) ≡ true
due_decides t marks due p a all i d low l y = ⊎_elim (λ z. z) (λ z. absurd (no z)) (cases_Bool (is_decision (get_or t.entries i d)))
  where
    no : is_decision (get_or t.entries i d) ≡ false → ⊥
    no z =
        let w : waits marks (get_or t.entries i d) ≡ true = and_from (marked marks (get_or t.entries i d).lit.var) (not (is_decision (get_or t.entries i d))) y (not_from_false (is_decision (get_or t.entries i d)) z) in
        let one : count_by (λ q. eqb q i) due ≡ 1 = a.once i d l ∙ ap (λ b. cond b 1 0) w in
        let m = among (λ q. eqb q i) due (omega (arith, one)) in
        let at : get_or due m.place 0 ≡ i = eqb-true (get_or due m.place 0) i (m.passes 0) in
        omega (arith, at, low, all m.place 0 m.within)

-- where the entries from a place on that are marked are decisions, what is due stands before it
pub due_low : (t : TrailState) (marks : List Bool) (due : List ℕ) (p : ℕ) → AreDue t marks due → ((i : ℕ) (d : Entry) → p ≤ i → i < length t.entries → marked marks (get_or t.entries i d).lit.var ≡ true → is_decision (get_or t.entries i d) ≡ true) → All (λ q. q < p) due
due_low t marks due p a f j d l = elim (cases_lt (get_or due j d) p) [ inl b ↦ b | inr b ↦ absurd (no b) ]
  where
    q : ℕ
    q = get_or due j d

    no : p ≤ get_or due j d → ⊥
    no b =
        let inside : q < length t.entries = a.within j d l in
        let w : waits marks (get_or t.entries q no_entry) ≡ false = false_from_ne_true (waits marks (get_or t.entries q no_entry)) (λ y.
        let parts = and_parts (marked marks (get_or t.entries q no_entry).lit.var) (not (is_decision (get_or t.entries q no_entry))) y in
        both_ways (is_decision (get_or t.entries q no_entry)) (not-true (is_decision (get_or t.entries q no_entry)) parts.1) (f q no_entry b inside parts.0)) in
        let none : count_by (λ x. eqb x q) due ≡ 0 = a.once q no_entry inside ∙ ap (λ b. cond b 1 0) w in
        let here : cond (eqb q q) 1 0 ≡ 1 = count-true (eqb q q) (eq-eqb q q refl) in
        omega (arith, none, here, get_or-le-sum_by (λ x. cond (eqb x q) 1 0) due j d l)

-- what waits is marked, and has a reason
pub due_waits : (t : TrailState) (marks : List Bool) (place : ℕ) (due : List ℕ) (d : Entry) → AreDue t marks (place ∷ due) → waits marks (get_or t.entries place d) ≡ true
due_waits t marks place due d a = ⊎_elim (λ y. y) (λ n. absurd (no n)) (cases_Bool (waits marks (get_or t.entries place d)))
  where
    no : waits marks (get_or t.entries place d) ≡ false → ⊥
    no n =
        let none : count_by (λ q. eqb q place) (place ∷ due) ≡ 0 = a.once place d (All-head (λ i. i < length t.entries) place due a.within) ∙ ap (λ b. cond b 1 0) n in
        let here : cond (eqb place place) 1 0 ≡ 1 = count-true (eqb place place) (eq-eqb place place refl) in
        omega (arith, none, here, sum_by-cons (λ q. cond (eqb q place) 1 0) place due)

-- the mark of an entry's variable is set anew
module _ (t : TrailState) (marks : List Bool) (place v : ℕ) (h : IsTrail t) (size : length marks ≡ t.vars) (k : place < length t.entries) (e : (get_or t.entries place no_entry).lit.var ≡ v) where
  var_at : (d : Entry) → (get_or t.entries place d).lit.var ≡ v
  var_at d = ap (λ (x : Entry). x.lit.var) (get_or_default t.entries place d no_entry k) ∙ e

  inside : IsVariable (length marks) v
  inside = subst (λ n. IsVariable n v) (sym size) (subst (IsVariable t.vars) e (h.justified place no_entry k).variable)

  elsewhere_same : (b : Bool) (i : ℕ) (d : Entry) → i < length t.entries → (i ≡ place → ⊥) → waits (set marks (v - 1) b) (get_or t.entries i d) ≡ waits marks (get_or t.entries i d)
  elsewhere_same b i d m n =
      ap (λ c. c && not (is_decision (get_or t.entries i d)))
      (marked-set_other marks v (get_or t.entries i d).lit.var b inside.above (h.justified i d m).variable.above
      (λ q. entries_differ t i place d d h m k n (q ∙ sym (var_at d))))

  waits_here : (b : Bool) (d : Entry) → waits (set marks (v - 1) b) (get_or t.entries place d) ≡ (b && not (is_decision (get_or t.entries place d)))
  waits_here b d =
      ap (λ c. c && not (is_decision (get_or t.entries place d)))
      (ap (marked (set marks (v - 1) b)) (var_at d) ∙ marked-set_same marks v b inside)

  -- an entry that waited waits no longer
  pub AreDue-unmarked : (due : List ℕ) → AreDue t marks (place ∷ due) → AreDue t (set marks (v - 1) false) due
  AreDue-unmarked due a = record {
    within = All-tail (λ i. i < length t.entries) place due a.within;
    once = λ i d m. elim (cases_eq i place) [
      | inl q ↦ subst (λ j. count_by (λ x. eqb x j) due ≡ cond (waits (set marks (v - 1) false) (get_or t.entries j d)) 1 0) (sym q) (here d)
      | inr n ↦
          let split = sum_by-cons (λ x. cond (eqb x i) 1 0) place due in
          let other : cond (eqb place i) 1 0 ≡ 0 = count-false (eqb place i) (ne_eqb place i (λ z. n (sym z))) in
          let same : count_by (λ x. eqb x i) due ≡ count_by (λ x. eqb x i) (place ∷ due) = omega (arith, split, other) in
          same ∙ (a.once i d m ∙ ap (λ b. cond b 1 0) (sym (elsewhere_same false i d m n)))
    ];
  }
    where
      here : (d : Entry) → count_by (λ x. eqb x place) due ≡ cond (waits (set marks (v - 1) false) (get_or t.entries place d)) 1 0
      here d =
          let one : count_by (λ x. eqb x place) (place ∷ due) ≡ 1 = a.once place d k ∙ ap (λ b. cond b 1 0) (due_waits t marks place due d a) in
          let first : cond (eqb place place) 1 0 ≡ 1 = count-true (eqb place place) (eq-eqb place place refl) in
          let split = sum_by-cons (λ x. cond (eqb x place) 1 0) place due in
          let none : count_by (λ x. eqb x place) due ≡ 0 = omega (arith, one, first, split) in
          none ∙ sym (ap (λ b. cond b 1 0) (waits_here false d))

  -- an entry is marked that has a reason
  pub AreDue-marked : (due : List ℕ) → AreDue t marks due → marked marks v ≡ false → is_decision (get_or t.entries place no_entry) ≡ false → AreDue t (set marks (v - 1) true) (place ∷ due)
  AreDue-marked due a u r = record {
    within = All-cons (λ i. i < length t.entries) place due k a.within;
    once = λ i d m. elim (cases_eq i place) [
      | inl q ↦ subst (λ j. count_by (λ x. eqb x j) (place ∷ due) ≡ cond (waits (set marks (v - 1) true) (get_or t.entries j d)) 1 0) (sym q) (here d)
      | inr n ↦
          let split = sum_by-cons (λ x. cond (eqb x i) 1 0) place due in
          let other : cond (eqb place i) 1 0 ≡ 0 = count-false (eqb place i) (ne_eqb place i (λ z. n (sym z))) in
          let same : count_by (λ x. eqb x i) (place ∷ due) ≡ count_by (λ x. eqb x i) due = omega (arith, split, other) in
          same ∙ (a.once i d m ∙ ap (λ b. cond b 1 0) (sym (elsewhere_same true i d m n)))
    ];
  }
    where
      here : (d : Entry) → count_by (λ x. eqb x place) (place ∷ due) ≡ cond (waits (set marks (v - 1) true) (get_or t.entries place d)) 1 0
      here d =
          let unmarked : waits marks (get_or t.entries place d) ≡ false = ap (λ w. marked marks w && not (is_decision (get_or t.entries place d))) (var_at d) ∙ ap (λ b. b && not (is_decision (get_or t.entries place d))) u in
          let none : count_by (λ x. eqb x place) due ≡ 0 = a.once place d k ∙ ap (λ b. cond b 1 0) unmarked in
          let first : cond (eqb place place) 1 0 ≡ 1 = count-true (eqb place place) (eq-eqb place place refl) in
          let split = sum_by-cons (λ x. cond (eqb x place) 1 0) place due in
          let one : count_by (λ x. eqb x place) (place ∷ due) ≡ 1 = omega (arith, none, first, split) in
          let reasoned : is_decision (get_or t.entries place d) ≡ false = ap is_decision (get_or_default t.entries place d no_entry k) ∙ r in
          one ∙ sym (ap (λ b. cond b 1 0) (waits_here true d ∙ not_from_false (is_decision (get_or t.entries place d)) reasoned))

  -- a decision is marked
  pub AreDue-decision : (due : List ℕ) → AreDue t marks due → is_decision (get_or t.entries place no_entry) ≡ true → AreDue t (set marks (v - 1) true) due
  AreDue-decision due a r = record {
    within = a.within;
    once = λ i d m. elim (cases_eq i place) [
      | inl q ↦ subst (λ j. count_by (λ x. eqb x j) due ≡ cond (waits (set marks (v - 1) true) (get_or t.entries j d)) 1 0) (sym q) (here d)
      | inr n ↦ a.once i d m ∙ ap (λ b. cond b 1 0) (sym (elsewhere_same true i d m n))
    ];
  }
    where
      here : (d : Entry) → count_by (λ x. eqb x place) due ≡ cond (waits (set marks (v - 1) true) (get_or t.entries place d)) 1 0
      here d =
          let decided : not (is_decision (get_or t.entries place d)) ≡ false = ap not (ap is_decision (get_or_default t.entries place d no_entry k) ∙ r) in
          let before : waits marks (get_or t.entries place d) ≡ false = ap (λ b. marked marks (get_or t.entries place d).lit.var && b) decided ∙ and-false (marked marks (get_or t.entries place d).lit.var) in
          let after : waits (set marks (v - 1) true) (get_or t.entries place d) ≡ false = waits_here true d ∙ decided in
          a.once place d k ∙ (ap (λ b. cond b 1 0) before ∙ sym (ap (λ b. cond b 1 0) after))

-- ---- the literals without a reason
abbrev decided : TrailState → ℕ → Bool
decided t v = is_none (reason_in t.entries v)

pub Gathers-none : (t : TrailState) (marks : List Bool) (literals : List Lit) → literals ≡ [] → ((v : ℕ) → marked marks v ≡ false) → Gathers t marks literals
Gathers-none t marks literals e clean = subst (Gathers t marks) (sym e) record {
  members = λ l. sym (ap (λ b. (b && is_false (values_of t.entries) l) && decided t l.var) (clean l.var));
  distinct = refl;
}

-- a variable of the literals is marked
pub gathered_marked : (t : TrailState) (marks : List Bool) (literals : List Lit) (v : ℕ) → Gathers t marks literals → has_variable literals v ≡ true → marked marks v ≡ true
gathered_marked t marks literals v g h = ⊎_elim (λ p. from (positive v) p) (λ p. from (opposite (positive v)) p) (has_either literals (positive v) h)
  where
    from : (l : Lit) → has literals l ≡ true → marked marks l.var ≡ true
    from l p = (and_parts (marked marks l.var) (is_false (values_of t.entries) l) (and_parts (set_of marks (values_of t.entries) l) (decided t l.var) (sym (g.members l) ∙ p)).0).0

module _ (t : TrailState) (marks : List Bool) (literals : List Lit) (l : Lit) (h : IsTrail t) (size : length marks ≡ t.vars) (g : Gathers t marks literals) (k : IsVariable t.vars l.var) where
  own : IsVariable (length marks) l.var
  own = subst (λ v. IsVariable v l.var) (sym size) k

  unmarked_none : marked marks l.var ≡ false → (m : Lit) → m.var ≡ l.var → has literals m ≡ false
  unmarked_none u m e = g.members m ∙ ap (λ b. (b && is_false (values_of t.entries) m) && decided t m.var) (ap (marked marks) e ∙ u)

  elsewhere_kept : (m : Lit) → (m.var ≡ l.var → ⊥) → has literals m ≡ (set_of (set marks (l.var - 1) true) (values_of t.entries) m && decided t m.var)
  elsewhere_kept m n = g.members m ∙ sym (ap (λ b. b && decided t m.var) (set_other marks (values_of t.entries) l m t.vars k n (no_zero t h)))

  -- a decision's literal is taken in
  pub Gathers-decision : (after : List Lit) → IsFalseIn (values_of t.entries) l → marked marks l.var ≡ false → reason_in t.entries l.var ≡ None → after ≡ literals ++ l ∷ [] → Gathers t (set marks (l.var - 1) true) after
  Gathers-decision after f u r e = subst (Gathers t (set marks (l.var - 1) true)) (sym e) record {
    members = λ m. has-push literals l m ∙ ⊎_elim (here m) (there m) (cases_eq m.var l.var);
    distinct = distinct_push literals l g.distinct (false_from_ne_true (has_variable literals l.var) (λ p. both_ways (marked marks l.var) u (gathered_marked t marks literals l.var g p)));
  }
    where
      here : (m : Lit) → m.var ≡ l.var → (has literals m || same_lit l m) ≡ (set_of (set marks (l.var - 1) true) (values_of t.entries) m && decided t m.var)
      here m q =
          let set_is : set_of (set marks (l.var - 1) true) (values_of t.entries) m ≡ same_lit l m =
          ap (λ b. b && is_false (values_of t.entries) m) (ap (marked (set marks (l.var - 1) true)) q ∙ marked-set_same marks l.var true own) ∙ false_same (values_of t.entries) l m f q in
          let none : decided t m.var ≡ true = ap (decided t) q ∙ ap is_none r in
          ap (λ b. b || same_lit l m) (unmarked_none u m q)
          ∙ sym (ap (λ b. set_of (set marks (l.var - 1) true) (values_of t.entries) m && b) none ∙ (and-true (set_of (set marks (l.var - 1) true) (values_of t.entries) m) ∙ set_is))

      there : (m : Lit) → (m.var ≡ l.var → ⊥) → (has literals m || same_lit l m) ≡ (set_of (set marks (l.var - 1) true) (values_of t.entries) m && decided t m.var)
      there m n = ap (λ b. has literals m || b) (same_lit_other l m n) ∙ (or-false (has literals m) ∙ elsewhere_kept m n)

  -- a literal with a reason is marked
  pub Gathers-marked : (n : ℕ) → marked marks l.var ≡ false → reason_in t.entries l.var ≡ Some n → Gathers t (set marks (l.var - 1) true) literals
  Gathers-marked n u r = record {
    members = λ m. ⊎_elim (λ q. unmarked_none u m q ∙ sym (ap (λ b. set_of (set marks (l.var - 1) true) (values_of t.entries) m && b) (ap (decided t) q ∙ ap is_none r) ∙ and-false (set_of (set marks (l.var - 1) true) (values_of t.entries) m))) (elsewhere_kept m) (cases_eq m.var l.var);
    distinct = g.distinct;
  }

  -- a literal with a reason is unmarked
  pub Gathers-unmarked : (n : ℕ) → reason_in t.entries l.var ≡ Some n → Gathers t (set marks (l.var - 1) false) literals
  Gathers-unmarked n r = record {
    members = λ m. ⊎_elim (here m) (there m) (cases_eq m.var l.var);
    distinct = g.distinct;
  }
    where
      here : (m : Lit) → m.var ≡ l.var → has literals m ≡ (set_of (set marks (l.var - 1) false) (values_of t.entries) m && decided t m.var)
      here m q =
          let none : decided t m.var ≡ false = ap (decided t) q ∙ ap is_none r in
          g.members m ∙ (ap (λ b. set_of marks (values_of t.entries) m && b) none ∙ (and-false (set_of marks (values_of t.entries) m)
          ∙ sym (ap (λ b. set_of (set marks (l.var - 1) false) (values_of t.entries) m && b) none ∙ and-false (set_of (set marks (l.var - 1) false) (values_of t.entries) m))))

      there : (m : Lit) → (m.var ≡ l.var → ⊥) → has literals m ≡ (set_of (set marks (l.var - 1) false) (values_of t.entries) m && decided t m.var)
      there m n = g.members m ∙ ap (λ b. b && decided t m.var) (sym (same_set (cases_lt 0 m.var)))
        where
          same_set : (0 < m.var) ⊎ (m.var ≤ 0) → set_of (set marks (l.var - 1) false) (values_of t.entries) m ≡ set_of marks (values_of t.entries) m
          same_set (inl p) = ap (λ b. b && is_false (values_of t.entries) m) (marked-set_other marks l.var m.var false k.above (omega (arith, p)) n)
          same_set (inr p) =
              let zero_var : m.var ≡ 0 = omega (arith, p) in
              let none : is_false (values_of t.entries) m ≡ false = ap (λ o. is_false (λ v. o) m) (ap (values_of t.entries) zero_var ∙ no_zero t h) in
              ap (λ b. marked (set marks (l.var - 1) false) m.var && b) none ∙ (and-false (marked (set marks (l.var - 1) false) m.var) ∙ sym (ap (λ b. marked marks m.var && b) none ∙ and-false (marked marks m.var)))

-- ---- the literals that were met
pub AreOf-none : (marks : List Bool) (met : List Lit) → ((v : ℕ) → marked marks v ≡ false) → AreOf marks met
AreOf-none marks met clean v low high y = absurd (both_ways (marked marks v) (clean v) y)

pub AreOf-marked : (marks : List Bool) (met after : List Lit) (l : Lit) → AreOf marks met → IsVariable (length marks) l.var → after ≡ met ++ l ∷ [] → AreOf (set marks (l.var - 1) true) after
AreOf-marked marks met after l a k e v low high y =
    ap (λ ls. has_variable ls v) e ∙ (has_variable-push met l v ∙ ⊎_elim
    (λ q. or_right (has_variable met v) (eqb l.var v) (eq-eqb l.var v (sym q)))
    (λ n. or_left (has_variable met v) (eqb l.var v) (a v low (omega (arith, high, length-set marks (l.var - 1) true)) (sym (marked-set_other marks l.var v true k.above low n) ∙ y)))
    (cases_eq v l.var))

pub AreOf-unmarked : (marks : List Bool) (met : List Lit) (l : Lit) → AreOf marks met → IsVariable (length marks) l.var → AreOf (set marks (l.var - 1) false) met
AreOf-unmarked marks met l a k v low high y = ⊎_elim
    (λ q. absurd (both_ways (marked (set marks (l.var - 1) false) v) (ap (marked (set marks (l.var - 1) false)) q ∙ marked-set_same marks l.var false k) y))
    (λ n. a v low (omega (arith, high, length-set marks (l.var - 1) false)) (sym (marked-set_other marks l.var v false k.above low n) ∙ y))
    (cases_eq v l.var)

-- ---- the refutation
-- another place from which on the marked entries are decisions
pub Refutes-at : (t : TrailState) (old new : List Bool) (before after : List ℕ) (p q : ℕ) → Refutes t old new before after p → ((i : ℕ) (d : Entry) → q ≤ i → i < length t.entries → marked new (get_or t.entries i d).lit.var ≡ true → is_decision (get_or t.entries i d) ≡ true) → Refutes t old new before after q
Refutes-at t old new before after p q r f = record { size = r.size; added = r.added; is = r.is; numbers = r.numbers; gives = r.gives; above = f; without = r.without; unmarked = r.unmarked }

-- ---- the clause
result_same : (clauses : List (List Lit)) (literals other : List Lit) → IsResult clauses literals → ((m : Lit) → has other m ≡ has literals m) → IsResult clauses other
result_same [] literals other r e = r
result_same (c ∷ cs) literals other r e = Gives-same (has c) cs (has literals) (has other) r (λ m. sym (e m))

-- the same literals in another order
pub Denies-same : (t : TrailState) (head literals other : List Lit) (chain : List ℕ) → Denies t head literals chain → ((m : Lit) → has other m ≡ has literals m) → has_distinct_variables other ≡ true → Denies t head other chain
Denies-same t head literals other chain d e distinct = record {
  accepted = (d.accepted.0, result_same (map (numbered t.clauses) chain) literals other d.accepted.1 e);
  distinct = distinct;
  within = λ i x k. let v = variable_of t.vars literals (get_or other i x) d.within (sym (e (get_or other i x)) ∙ has_at other i x k) in (v.above, v.within);
  itself = λ m p. e m ∙ d.itself m p;
  denied = λ m p. d.denied m (sym (e m) ∙ p);
  before = λ x p. rests x (d.before x p);
}
  where
    rests : (x : Lit) → RestsBefore t head literals x.var → RestsBefore t head other x.var
    rests x r = record { place = r.place; within = r.within; variable = r.variable; denied = λ m p. r.denied m (sym (e m) ∙ p) }

-- the clause of what is left, with the literal that was traced last
pub Denies-traced : (t : TrailState) (marks after : List Bool) (chain next : List ℕ) (gathered whole : List Lit) (l : Lit) → IsTrail t → Starts t (l ∷ []) marks chain → Refutes t marks after chain next 0 → Gathers t after gathered → whole ≡ gathered ++ l ∷ [] → Denies t (l ∷ []) whole next
Denies-traced t marks after chain next gathered whole l h s r g e =
    subst (λ ls. Denies t (l ∷ []) ls next) (sym e)
    (Denies-same t (l ∷ []) (l ∷ opposites_of after t.entries) (gathered ++ l ∷ []) next
    (Denies-from t (l ∷ []) (l ∷ opposites_of after t.entries) marks after chain next h s r refl)
    (λ m. has-push gathered l m ∙ (or-comm (has gathered m) (same_lit l m) ∙ ap (λ b. same_lit l m || b) (same m)))
    (distinct_push gathered l g.distinct (false_from_ne_true (has_variable gathered l.var) (λ p. both_ways (marked after l.var) gone (gathered_marked t after gathered l.var g p)))))
  where
    past : IsPast t marks l.var
    past = s.past l (or_left (same_lit l l) false (same_lit_itself l))

    gone : marked after l.var ≡ false
    gone = ap (marked after) (sym (past.variable no_entry)) ∙ r.unmarked past.place past.within past.unmarked past.place no_entry (omega arith) past.within

    -- all that is left was decided
    left : (m : Lit) → set_of after (values_of t.entries) m ≡ true → decided t m.var ≡ true
    left m p =
        let c = collected after t.entries m (collected_set t after m h ∙ p) in
        let same_var : (get_or t.entries c.place no_entry).lit.var ≡ m.var = ap (λ (x : Lit). x.var) (c.is no_entry) in
        let reason : reason_in t.entries m.var ≡ (get_or t.entries c.place no_entry).reason = ap (reason_in t.entries) (sym same_var) ∙ ap (option_and_then (λ (x : Entry). x.reason)) (entry_of_place t c.place no_entry h c.within) in
        ap is_none reason ∙ r.above c.place no_entry (omega arith) c.within (c.is_marked no_entry)

    same : (m : Lit) → has gathered m ≡ has (opposites_of after t.entries) m
    same m = g.members m ∙ (⊎_elim
        (λ y. ap (λ b. set_of after (values_of t.entries) m && b) (left m y) ∙ and-true (set_of after (values_of t.entries) m))
        (λ n. ap (λ b. b && decided t m.var) n ∙ sym n)
        (cases_Bool (set_of after (values_of t.entries) m)) ∙ sym (collected_set t after m h))

-- ---- the literal of a place that waits
pub record IsWaiting (t : TrailState) (marks : List Bool) (place : ℕ) (l : Lit) : Type 0 where
  pub within : place < length t.entries
  pub lit : (get_or t.entries place no_entry).lit ≡ l
  pub variable : IsVariable t.vars l.var
  pub is_marked : marked marks l.var ≡ true
  pub reasoned : is_decision (get_or t.entries place no_entry) ≡ false

pub waiting : (t : TrailState) (marks : List Bool) (place : ℕ) (due : List ℕ) (l : Lit) (r : Option Lit) → IsTrail t → AreDue t marks (place ∷ due) → r ≡ option_map (λ (e : Entry). e.lit) (slice_get t.entries place) → r ≡ Some l → IsWaiting t marks place l
waiting t marks place due l r h a p q =
    let k : place < length t.entries = All-head (λ i. i < length t.entries) place due a.within in
    let e : (get_or t.entries place no_entry).lit ≡ l = place_lit t.entries place l r k p q in
    let parts = and_parts (marked marks (get_or t.entries place no_entry).lit.var) (not (is_decision (get_or t.entries place no_entry))) (due_waits t marks place due no_entry a) in
    record {
      within = k;
      lit = e;
      variable = subst (λ (x : Lit). IsVariable t.vars x.var) e (h.justified place no_entry k).variable;
      is_marked = subst (λ (x : Lit). marked marks x.var ≡ true) e parts.0;
      reasoned = not-true (is_decision (get_or t.entries place no_entry)) parts.1;
    }

some_from : (o : Option ℕ) → is_none o ≡ false → IsSome o
some_from None n = absurd (false≢true (sym n))
some_from (Some x) n = refl

pub waiting_reason : (t : TrailState) (marks : List Bool) (place : ℕ) (l : Lit) (r : Option ℕ) → IsTrail t → IsWaiting t marks place l → r ≡ reason_in t.entries l.var → IsSome r
waiting_reason t marks place l r h w p = subst IsSome (sym (reason_at t place l r h w.within w.lit p)) (some_from (get_or t.entries place no_entry).reason w.reasoned)

-- ---- one place more
pub refuted_next : (t : TrailState) (old marks after : List Bool) (before chain next : List ℕ) (place : ℕ) (due rest : List ℕ) → IsTrail t → length old ≡ t.vars → AreDue t marks due → IsPermutation due (place ∷ rest) → IsUpperBound nat_cmp place due → Refutes t old marks before chain (length t.entries) → RefutesAt t marks after chain next place → Refutes t old after before next place
refuted_next t old marks after before chain next place due rest h size a p greatest r step =
    Refutes-step t old marks after before chain next place h size
    (All-head (λ i. i < length t.entries) place rest (All-permutation (λ i. i < length t.entries) due (place ∷ rest) p a.within))
    (Refutes-at t old marks before chain (length t.entries) (place + 1) r
    (due_decides t marks due (place + 1) a (λ i d l. omega (arith, le_from_greatest place due greatest i d l))))
    step

-- at the end, and at no place
pub Refutes-all : (t : TrailState) (old new : List Bool) (before after : List ℕ) (p : ℕ) → Refutes t old new before after p → Refutes t old new before after (length t.entries)
Refutes-all t old new before after p r = Refutes-at t old new before after p (length t.entries) r (λ i d low k. absurd (omega (arith, low, k)))

pub Refutes-done : (t : TrailState) (old new : List Bool) (before after due : List ℕ) (p : ℕ) → Refutes t old new before after p → AreDue t new due → due ≡ [] → Refutes t old new before after 0
Refutes-done t old new before after due p r a e =
    Refutes-at t old new before after p 0 r (due_decides t new [] 0 (subst (AreDue t new) e a) (All-nil (λ q. q < 0)))

pub top_less : (t : TrailState) (old after : List Bool) (before next : List ℕ) (place : ℕ) (due rest later : List ℕ) → IsPermutation due (place ∷ rest) → Refutes t old after before next place → AreDue t after later → top later < top due
top_less t old after before next place due rest later p r a =
    omega (
      arith,
      top-low later place (due_low t after later place a r.above),
      All-head (λ q. q < top due) place rest (All-permutation (λ q. q < top due) due (place ∷ rest) p (top-high due)),
    )

-- ---- the reason of a true literal
pub reason_false : (t : TrailState) (l : Lit) (n : ℕ) → IsTrail t → IsTrueIn (values_of t.entries) l → reason_in t.entries l.var ≡ Some n → AreFalse (values_of t.entries) (numbered t.clauses n) l.var
reason_false t l n h v r m p o =
    let w = mapped (λ (x : Entry). not x.lit.negated) (entry_of t.entries l.var) (not l.negated) v in
    let a = entry_at t l.var w.value w.is in
    let reason : (get_or t.entries a.place no_entry).reason ≡ Some n = ap (λ (x : Entry). x.reason) (a.is no_entry) ∙ (sym (ap (option_and_then (λ (x : Entry). x.reason)) w.is) ∙ r) in
    let same : (get_or t.entries a.place no_entry).lit.var ≡ l.var = ap (λ (x : Entry). x.lit.var) (a.is no_entry) ∙ a.variable in
    (forced_at t a.place no_entry n h a.within reason).1.others m p (λ z. o (z ∙ same))

-- ---- a step for each variable
pub AllZip-push : {A B : Type 0} (R : A → B → Type 0) (xs : List A) (ys : List B) (x : A) (y : B) → AllZip R xs ys → R x y → AllZip R (xs ++ x ∷ []) (ys ++ y ∷ [])
AllZip-push R [] [] x y z r = (r, tt)
AllZip-push R [] (b ∷ ys) x y z r = absurd z
AllZip-push R (a ∷ xs) [] x y z r = absurd z
AllZip-push R (a ∷ xs) (b ∷ ys) x y z r = (z.0, AllZip-push R xs ys x y z.1 r)

pub derived_more : (t : TrailState) (vars : List ℕ) (i d v : ℕ) (before after : List Step) → i < length vars → get_or vars i d ≡ v → AllZip (IsDerivedFor t) (take i vars) before → DerivesStep t (negative v ∷ []) before after → AllZip (IsDerivedFor t) (take (i + 1) vars) after
derived_more t vars i d v before after l e z s =
    subst (λ xs. AllZip (IsDerivedFor t) xs after) (sym (take_more vars i d l ∙ ap (λ x. take i vars ++ x ∷ []) e))
    (subst (AllZip (IsDerivedFor t) (take i vars ++ v ∷ [])) (sym s.step)
    (AllZip-push (IsDerivedFor t) (take i vars) before v (record { kind = Derived; clause = s.literals; chain = s.chain }) z (record { kind = refl; denies = s.denies })))

-- ---- the entry of a false literal
pub record IsEntryFor (t : TrailState) (v : ℕ) : Type 0 where
  pub place : ℕ
  pub within : place < length t.entries
  pub variable : (get_or t.entries place no_entry).lit.var ≡ v
  pub reason : reason_in t.entries v ≡ (get_or t.entries place no_entry).reason

pub entry_for : (t : TrailState) (l : Lit) → IsFalseIn (values_of t.entries) l → IsEntryFor t l.var
entry_for t l f =
    let m = mapped (λ (x : Entry). not x.lit.negated) (entry_of t.entries l.var) l.negated f in
    let a = entry_at t l.var m.value m.is in
    record {
      place = a.place;
      within = a.within;
      variable = ap (λ (x : Entry). x.lit.var) (a.is no_entry) ∙ a.variable;
      reason = ap (option_and_then (λ (x : Entry). x.reason)) m.is ∙ ap (λ (x : Entry). x.reason) (sym (a.is no_entry));
    }

-- the place that the row has for it
pub place_for : (t : TrailState) (places : List ℕ) (v : ℕ) (e : IsEntryFor t v) (r : ℕ) → HasPlaces t places → IsVariable t.vars v → r ≡ get_or places (v - 1) r → r ≡ e.place
place_for t places v e r h k q =
    q ∙ (get_or_default places (v - 1) r 0 (omega (arith, h.size, k.above, k.within))
    ∙ (ap (λ w. get_or places (w - 1) 0) (sym e.variable) ∙ h.each e.place no_entry e.within))

-- a mark that was read
pub marked_read : (marks : List Bool) (v : ℕ) (r b : Bool) → IsVariable (length marks) v → r ≡ get_or marks (v - 1) r → r ≡ b → marked marks v ≡ b
marked_read marks v r b k e q = get_or_default marks (v - 1) false r (omega (arith, k.above, k.within)) ∙ (sym e ∙ q)
