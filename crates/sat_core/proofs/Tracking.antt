-- What marking a false literal keeps.
use Rattle.std.proofs.Common.{◌≡◌, ℕ, ◌+◌, ◌-◌, ◌<◌, ◌≤◌, ◌^◌, Bool, true, false, not, ◌&&◌, ◌||◌, eqb, List, [], ◌∷◌, ◌++◌, length, get_or, set, take, Option, Some, None, refl, sym, ap, ◌∙◌, subst, arith, ◌⊎◌, inl, inr, ⊎_elim}
use Rattle.std.specs.Prelude.{is_some}
use Rattle.std.specs.List.{count_by}
use Rattle.std.specs.Option.{option_map, option_eq}
use Rattle.std.proofs.lemmas.Bool.{false≢true, both_ways, cases_eq, cases_lt, eqb-true, eqb-false, eq-eqb, ne_eqb, and_parts, and_from, or_cases, false_from_ne_true, not_from_false, not-true, or_parts, or_from}
use Rattle.std.proofs.lemmas.List.{get_or-take, get_or-set_same, get_or-set_other, length-take-le, length-set}
use Rattle.std.proofs.lemmas.List.Sums.{count_by-le-length}
use Rattle.loc_base.proofs.ShelfBools.{and-false, and-true, or-false}
use Rattle.loc_base.proofs.ShelfOptions.{option_map-none}
use Rattle.clause_base.specs.declared.literal.Lit.{Lit}
use Rattle.clause_base.specs.Literal.{same_lit, same_sign, has, has_variable, has_distinct_variables}
use Rattle.clause_base.proofs.Sets.{has-push, has_variable-push}
use Rattle.trail_core.specs.declared.entry.Entry.{Entry}
use Rattle.trail_core.specs.Values.{Values, IsVariable, IsFalseIn}
use Rattle.trail_core.specs.TrailState.{TrailState, IsTrail, entry_of, values_of, level_in}
use Rattle.trail_core.proofs.Lists.{find_found, find_none}
use Rattle.trail_core.proofs.Truth.{mapped}
use Rattle.sat_core.specs.Derivation.{has_sign, is_false, marked, set_of, has_level, is_present, counts, Tracks}
use Rattle.sat_core.proofs.Marks.{marked-set_same, marked-set_other, count_agree, count_one_more}

earlier_differs : (t : TrailState) (i k : ℕ) (d e : Entry) → IsTrail t → i < k → k < length t.entries → (get_or t.entries i d).lit.var ≡ (get_or t.entries k e).lit.var → ⊥
earlier_differs t i k d e h l m q =
    let none = option_map-none (λ (x : Entry). not x.lit.negated) (entry_of (take k t.entries) (get_or t.entries k e).lit.var) (h.justified k e m).unassigned in
    let size : length (take k t.entries) ≡ k = length-take-le k t.entries (omega arith) in
    let no = find_none (λ (x : Entry). eqb x.lit.var (get_or t.entries k e).lit.var) (take k t.entries) i d none (omega (arith, size)) in
    both_ways (eqb (get_or t.entries i d).lit.var (get_or t.entries k e).lit.var) (subst (λ (x : Entry). eqb x.lit.var (get_or t.entries k e).lit.var ≡ false) (get_or-take k t.entries i d l) no) (eq-eqb (get_or t.entries i d).lit.var (get_or t.entries k e).lit.var q)

-- two entries are of different variables
pub entries_differ : (t : TrailState) (i k : ℕ) (d e : Entry) → IsTrail t → i < length t.entries → k < length t.entries → (i ≡ k → ⊥) → (get_or t.entries i d).lit.var ≡ (get_or t.entries k e).lit.var → ⊥
entries_differ t i k d e h l m n q =
    elim (cases_lt i k) [
      | inl b ↦ earlier_differs t i k d e h b m q
      | inr b ↦ earlier_differs t k i e d h (omega (arith, lower b)) l (sym q)
    ]
  where
    lower : k ≤ i → k < i
    lower b = elim (cases_lt k i) [ inl c ↦ c | inr c ↦ absurd (n (omega arith)) ]

-- where a variable's entry stands
pub record IsEntryAt (t : TrailState) (v : ℕ) (e : Entry) : Type 0 where
  pub place : ℕ
  pub within : place < length t.entries
  pub is : (d : Entry) → get_or t.entries place d ≡ e
  pub variable : e.lit.var ≡ v

pub entry_at : (t : TrailState) (v : ℕ) (e : Entry) → entry_of t.entries v ≡ Some e → IsEntryAt t v e
entry_at t v e q =
    let f = find_found (λ (x : Entry). eqb x.lit.var v) t.entries e q in
    record { place = f.place; within = f.within; is = f.is; variable = eqb-true e.lit.var v f.passes }

-- another place is of another variable
pub other_place : (t : TrailState) (v : ℕ) (e : Entry) (a : IsEntryAt t v e) → IsTrail t → (k : ℕ) (d : Entry) → k < length t.entries → (k ≡ a.place → ⊥) → (get_or t.entries k d).lit.var ≡ v → ⊥
other_place t v e a h k d l n q = entries_differ t k a.place d e h l a.within n (q ∙ sym (ap (λ (x : Entry). x.lit.var) (a.is e) ∙ a.variable))

pub false_same : (values : Values) (l m : Lit) → IsFalseIn values l → m.var ≡ l.var → is_false values m ≡ same_lit l m
false_same values l m f e =
    ap (λ v. has_sign (values v) m.negated) e ∙ (ap (λ o. has_sign o m.negated) f ∙ sym (ap (λ b. b && same_sign l.negated m.negated) (eq-eqb l.var m.var (sym e))))

pub same_lit_other : (l m : Lit) → (m.var ≡ l.var → ⊥) → same_lit l m ≡ false
same_lit_other l m n = ap (λ b. b && same_sign l.negated m.negated) (ne_eqb l.var m.var (λ e. n (sym e)))

-- an unmarked variable is of no literal
unmarked_absent : (t : TrailState) (marks : List Bool) (literals : List Lit) (present : ℕ) (v : ℕ) → Tracks t marks literals present → marked marks v ≡ false → has_variable literals v ≡ false
unmarked_absent t marks literals present v h u = false_from_ne_true (has_variable literals v) (λ p. both_ways (marked marks v) u (h.variables v p))

-- marks stay
more_marked : (marks : List Bool) (v w : ℕ) → IsVariable (length marks) v → marked marks w ≡ true → marked (set marks (v - 1) true) w ≡ true
more_marked marks v w k h = at (cases_eq (w - 1) (v - 1))
  where
    low : v - 1 < length marks
    low = omega (arith, k.above, k.within)

    at : ((w - 1 ≡ v - 1) ⊎ (w - 1 ≡ v - 1 → ⊥)) → get_or (set marks (v - 1) true) (w - 1) false ≡ true
    at (inl e) = rw e (get_or-set_same marks (v - 1) true false low)
    at (inr n) = get_or-set_other marks (v - 1) (w - 1) true false n ∙ h

pub distinct_push : (xs : List Lit) (x : Lit) → has_distinct_variables xs ≡ true → has_variable xs x.var ≡ false → has_distinct_variables (xs ++ x ∷ []) ≡ true
distinct_push [] x h n = refl
distinct_push (y ∷ ys) x h n =
    let parts = and_parts (not (has_variable ys y.var)) (has_distinct_variables ys) h in
    let apart = or_parts (eqb y.var x.var) (has_variable ys x.var) n in
    let none : has_variable (ys ++ x ∷ []) y.var ≡ false = has_variable-push ys x y.var ∙ or_from (has_variable ys y.var) (eqb x.var y.var) (not-true (has_variable ys y.var) parts.0) (ne_eqb x.var y.var (λ e. eqb-false y.var x.var apart.0 (sym e))) in
    and_from (not (has_variable (ys ++ x ∷ []) y.var)) (has_distinct_variables (ys ++ x ∷ [])) (not_from_false (has_variable (ys ++ x ∷ []) y.var) none) (distinct_push ys x parts.1 apart.1)

-- the set with the literal more, at a literal of another variable
pub set_other : (marks : List Bool) (values : Values) (l m : Lit) (vars : ℕ) → IsVariable vars l.var → (m.var ≡ l.var → ⊥) → (values 0 ≡ None) → set_of (set marks (l.var - 1) true) values m ≡ set_of marks values m
set_other marks values l m vars k n z = at (cases_lt 0 m.var)
  where
    at : ((0 < m.var) ⊎ (m.var ≤ 0)) → set_of (set marks (l.var - 1) true) values m ≡ set_of marks values m
    at (inl p) = ap (λ b. b && is_false values m) (marked-set_other marks l.var m.var true k.above (omega arith) n)
    at (inr p) = let e : m.var ≡ 0 = omega arith in let f : is_false values m ≡ false = ap (λ o. has_sign o m.negated) (ap values e ∙ z) in
        rw f (and-false (marked (set marks (l.var - 1) true) m.var) ∙ sym (and-false (marked marks m.var)))

-- variable 0 has no value
pub no_zero : (t : TrailState) → IsTrail t → values_of t.entries 0 ≡ None
no_zero t h = at (entry_of t.entries 0) refl
  where
    at : (o : Option Entry) → entry_of t.entries 0 ≡ o → option_map (λ (e : Entry). not e.lit.negated) o ≡ None
    at None q = refl
    at (Some e) q = let a = entry_at t 0 e q in
        let v = subst (λ (x : Entry). IsVariable t.vars x.lit.var) (a.is e) (h.justified a.place e a.within).variable in
        absurd (omega (arith, v.above, a.variable))

-- the count of the entries, where one variable more is marked
count_present : (t : TrailState) (marks : List Bool) (v : ℕ) → IsTrail t → IsVariable t.vars v → length marks ≡ t.vars → marked marks v ≡ false → level_in t.entries v ≡ Some t.level → count_by (counts t (set marks (v - 1) true)) t.entries ≡ count_by (counts t marks) t.entries + 1
count_present t marks v h k size u s =
    let m = mapped (λ (x : Entry). x.decision_level) (entry_of t.entries v) t.level s in
    let a = entry_at t v m.value m.is in
    count_one_more (counts t marks) (counts t (set marks (v - 1) true)) t.entries a.place m.value a.within
    (rw (a.is m.value) (ap (λ b. b && eqb m.value.decision_level t.level) (ap (marked marks) a.variable ∙ u)))
    (rw (a.is m.value) (and_from (marked (set marks (v - 1) true) m.value.lit.var) (eqb m.value.decision_level t.level) (ap (marked (set marks (v - 1) true)) a.variable ∙ marked-set_same marks v true record { above = k.above; within = omega (arith, k.within, size) }) (eq-eqb m.value.decision_level t.level m.gives)))
    (λ j d l n. ap (λ b. b && eqb (get_or t.entries j d).decision_level t.level) (marked-set_other marks v (get_or t.entries j d).lit.var true k.above (h.justified j d l).variable.above (other_place t v m.value a h j d l n)))

pub has_level-true : (o : Option ℕ) (k : ℕ) → has_level o k ≡ true → o ≡ Some k
has_level-true None k h = absurd (false≢true h)
has_level-true (Some a) k h = ap Some (eqb-true a k h)

count_lower : (t : TrailState) (marks : List Bool) (v : ℕ) → IsTrail t → IsVariable t.vars v → is_present t v ≡ false → count_by (counts t (set marks (v - 1) true)) t.entries ≡ count_by (counts t marks) t.entries
count_lower t marks v h k p = count_agree (counts t marks) (counts t (set marks (v - 1) true)) t.entries
    (λ j d l. ⊎_elim
    (λ e. let low : eqb (get_or t.entries j d).decision_level t.level ≡ false = false_from_ne_true (eqb (get_or t.entries j d).decision_level t.level) (λ y. both_ways (is_present t v) p (present_at j d l e y)) in
    rw low (and-false (marked (set marks (v - 1) true) (get_or t.entries j d).lit.var) ∙ sym (and-false (marked marks (get_or t.entries j d).lit.var))))
    (λ n. ap (λ b. b && eqb (get_or t.entries j d).decision_level t.level) (marked-set_other marks v (get_or t.entries j d).lit.var true k.above (h.justified j d l).variable.above n))
    (cases_eq (get_or t.entries j d).lit.var v))
  where
    present_at : (j : ℕ) (d : Entry) → j < length t.entries → (get_or t.entries j d).lit.var ≡ v → eqb (get_or t.entries j d).decision_level t.level ≡ true → is_present t v ≡ true
    present_at j d l e y = at (entry_of t.entries v) refl
      where
        at : (o : Option Entry) → entry_of t.entries v ≡ o → has_level (option_map (λ (x : Entry). x.decision_level) o) t.level ≡ true
        at None q = absurd (both_ways (eqb (get_or t.entries j d).lit.var v) (find_none (λ (x : Entry). eqb x.lit.var v) t.entries j d q l) (eq-eqb (get_or t.entries j d).lit.var v e))
        at (Some x) q = let a = entry_at t v x q in
            ⊎_elim (λ same. subst (λ (w : Entry). eqb w.decision_level t.level ≡ true) (ap (λ i. get_or t.entries i d) same ∙ a.is d) y)
            (λ other. absurd (other_place t v x a h j d l other e)) (cases_eq j a.place)

-- one more is counted than stand on the trail
pub present_fits : (t : TrailState) (marks : List Bool) (present : ℕ) (v : ℕ) → IsTrail t → length marks ≡ t.vars → present ≡ count_by (counts t marks) t.entries → IsVariable t.vars v → marked marks v ≡ false → level_in t.entries v ≡ Some t.level → present + 1 < 2 ^ 32
present_fits t marks present v h size c k u s =
    omega (arith, c, h.few, h.small, count_present t marks v h k size u s, count_by-le-length (counts t (set marks (v - 1) true)) t.entries)

pub is_present-false : (t : TrailState) (v : ℕ) → (level_in t.entries v ≡ Some t.level → ⊥) → is_present t v ≡ false
is_present-false t v n = false_from_ne_true (is_present t v) (λ h. n (has_level-true (level_in t.entries v) t.level h))

some_at : (o : Option Bool) (b : Bool) → o ≡ Some b → is_some o ≡ true
some_at o b h = ap is_some h

-- a marked variable has a value, where one more is marked
still_valued : (t : TrailState) (marks : List Bool) (l : Lit) → IsVariable t.vars l.var → IsFalseIn (values_of t.entries) l → ((v : ℕ) → 1 ≤ v → v ≤ t.vars → marked marks v ≡ true → is_some (values_of t.entries v) ≡ true) → (v : ℕ) → 1 ≤ v → v ≤ t.vars → marked (set marks (l.var - 1) true) v ≡ true → is_some (values_of t.entries v) ≡ true
still_valued t marks l k f r v low high h =
    ⊎_elim (λ e. ap (λ w. is_some (values_of t.entries w)) e ∙ some_at (values_of t.entries l.var) l.negated f)
    (λ n. r v low high (sym (marked-set_other marks l.var v true k.above low n) ∙ h)) (cases_eq v l.var)

-- a false literal of the present level is marked
pub Tracks-present : (t : TrailState) (marks : List Bool) (literals : List Lit) (present : ℕ) (l : Lit) → IsTrail t → Tracks t marks literals present → IsVariable t.vars l.var → IsFalseIn (values_of t.entries) l → marked marks l.var ≡ false → level_in t.entries l.var ≡ Some t.level → Tracks t (set marks (l.var - 1) true) literals (present + 1)
Tracks-present t marks literals present l h r k f u s = record {
  size = length-set marks (l.var - 1) true ∙ r.size;
  members = λ m. ⊎_elim
      (λ e. r.members m ∙ (ap (λ b. b && not (is_present t m.var)) (ap (λ b. b && is_false (values_of t.entries) m) (ap (marked marks) e ∙ u))
      ∙ sym (ap (λ b. set_of (set marks (l.var - 1) true) (values_of t.entries) m && not b) (ap (λ v. is_present t v) e ∙ here) ∙ and-false (set_of (set marks (l.var - 1) true) (values_of t.entries) m))))
      (λ n. r.members m ∙ sym (ap (λ b. b && not (is_present t m.var)) (set_other marks (values_of t.entries) l m t.vars k n (no_zero t h))))
      (cases_eq m.var l.var);
  variables = λ v p. more_marked marks l.var v inside (r.variables v p);
  valued = still_valued t marks l k f r.valued;
  distinct = r.distinct;
  count = omega (arith, r.count, count_present t marks l.var h k r.size u s);
}
  where
    inside : IsVariable (length marks) l.var
    inside = record { above = k.above; within = omega (arith, k.within, r.size) }

    here : is_present t l.var ≡ true
    here = ap (λ o. has_level o t.level) s ∙ eq-eqb t.level t.level refl

-- a false literal of a lower level is marked
pub Tracks-lower : (t : TrailState) (marks : List Bool) (literals : List Lit) (present : ℕ) (l : Lit) → IsTrail t → Tracks t marks literals present → IsVariable t.vars l.var → IsFalseIn (values_of t.entries) l → marked marks l.var ≡ false → is_present t l.var ≡ false → Tracks t (set marks (l.var - 1) true) (literals ++ l ∷ []) present
Tracks-lower t marks literals present l h r k f u s = record {
  size = length-set marks (l.var - 1) true ∙ r.size;
  members = λ m. has-push literals l m ∙ ⊎_elim
      (λ e. ap (λ b. b || same_lit l m) (r.members m ∙ ap (λ b. b && not (is_present t m.var)) (ap (λ b. b && is_false (values_of t.entries) m) (ap (marked marks) e ∙ u)))
      ∙ sym (ap (λ b. set_of (set marks (l.var - 1) true) (values_of t.entries) m && not b) (ap (λ v. is_present t v) e ∙ s) ∙ (and-true (set_of (set marks (l.var - 1) true) (values_of t.entries) m)
      ∙ (ap (λ b. b && is_false (values_of t.entries) m) (ap (marked (set marks (l.var - 1) true)) e ∙ marked-set_same marks l.var true inside) ∙ false_same (values_of t.entries) l m f e))))
      (λ n. ap (λ b. has literals m || b) (same_lit_other l m n) ∙ (or-false (has literals m) ∙ (r.members m ∙ sym (ap (λ b. b && not (is_present t m.var)) (set_other marks (values_of t.entries) l m t.vars k n (no_zero t h))))))
      (cases_eq m.var l.var);
  variables = λ v p. ⊎_elim (λ q. more_marked marks l.var v inside (r.variables v q)) (λ q. subst (λ w. marked (set marks (l.var - 1) true) w ≡ true) (eqb-true l.var v q) (marked-set_same marks l.var true inside)) (or_cases (has_variable literals v) (eqb l.var v) (sym (has_variable-push literals l v) ∙ p));
  valued = still_valued t marks l k f r.valued;
  distinct = distinct_push literals l r.distinct (unmarked_absent t marks literals present l.var r u);
  count = r.count ∙ sym (count_lower t marks l.var h k s);
}
  where
    inside : IsVariable (length marks) l.var
    inside = record { above = k.above; within = omega (arith, k.within, r.size) }

option_yes : (r : Option ℕ) (k : ℕ) → option_eq eqb r (Some k) ≡ true → r ≡ Some k
option_yes None k h = absurd (false≢true h)
option_yes (Some a) k h = ap Some (eqb-true a k h)

option_no : (r : Option ℕ) (k : ℕ) → option_eq eqb r (Some k) ≡ false → r ≡ Some k → ⊥
option_no r k h e = both_ways (option_eq eqb r (Some k)) h (ap (λ o. option_eq eqb o (Some k)) e ∙ eq-eqb k k refl)

-- the test of the present level
pub level_yes : (o r : Option ℕ) (k level : ℕ) → r ≡ o → k ≡ level → option_eq eqb r (Some k) ≡ true → o ≡ Some level
level_yes o r k level p q h = sym p ∙ (option_yes r k h ∙ ap Some q)

pub level_no : (o r : Option ℕ) (k level : ℕ) → r ≡ o → k ≡ level → option_eq eqb r (Some k) ≡ false → o ≡ Some level → ⊥
level_no o r k level p q h e = option_no r k h (p ∙ (e ∙ ap Some (sym q)))

-- the same as `Tracks-lower`, as the push leaves the literals
pub Tracks-pushed : (t : TrailState) (marks : List Bool) (literals after : List Lit) (present : ℕ) (l : Lit) → IsTrail t → Tracks t marks literals present → IsVariable t.vars l.var → IsFalseIn (values_of t.entries) l → marked marks l.var ≡ false → is_present t l.var ≡ false → after ≡ literals ++ l ∷ [] → Tracks t (set marks (l.var - 1) true) after present
Tracks-pushed t marks literals after present l h r k f u s e = subst (λ ls. Tracks t (set marks (l.var - 1) true) ls present) (sym e) (Tracks-lower t marks literals present l h r k f u s)
