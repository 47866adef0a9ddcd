-- The start and the end of the analysis of a conflict.
use Rattle.std.proofs.Common.{◌≡◌, ℕ, ◌+◌, ◌-◌, ◌<◌, ◌≤◌, Bool, true, false, not, cond, ◌&&◌, ◌||◌, leb, eqb, List, [], ◌∷◌, ◌++◌, length, get_or, Option, Some, None, refl, sym, ap, ◌∙◌, subst, arith, ◌⊎◌, inl, inr, ⊎_elim}
use Rattle.std.specs.Prelude.{is_some, slice_get}
use Rattle.std.specs.List.{count_by, find, filter}
use Rattle.std.specs.Option.{option_map}
use Rattle.std.proofs.lemmas.Bool.{false≢true, both_ways, cases_Bool, cases_eq, cases_lt, eq-eqb, ne_eqb, le-leb, and_parts, and_from, false_from_ne_true, not-true}
use Rattle.std.proofs.lemmas.Option.{same_Some, slice_get-get_or}
use Rattle.std.proofs.lemmas.List.Sums.{sum_by-cons, count_by_more_yes, get_or-le-sum_by, sum_by-take-le}
use Rattle.loc_base.proofs.ShelfBools.{and-false, and-true, count-true, or-false}
use Rattle.clause_base.specs.declared.literal.Lit.{Lit}
use Rattle.clause_base.specs.Literal.{opposite, same_lit, has, has_variable, IsWithin}
use Rattle.clause_base.specs.Acceptance.{numbered}
use Rattle.clause_base.proofs.Sets.{has-push, has_variable-has}
use Rattle.trail_core.specs.declared.entry.Entry.{Entry}
use Rattle.trail_core.specs.Values.{IsVariable, IsTrueIn, IsFalseIn, IsFalsified, Rests, satisfied, open_at_two}
use Rattle.trail_core.specs.TrailState.{TrailState, IsTrail, IsNumber, entry_of, values_of, level_in, up_to, decisions}
use Rattle.trail_core.proofs.Lists.{count_by-take-le}
use Rattle.trail_core.proofs.Levels.{level_le_all}
use Rattle.trail_core.proofs.Truth.{IsMapped, mapped, values-up_to_some}
use Rattle.trail_core.proofs.Looks.{has_at}
use Rattle.sat_core.specs.Derivation.{is_false, marked, set_of, has_level, is_present, counts, MarksOthers, Tracks, Resolved, IsOnlyPresent, Derives, IsClean, Learns}
use Rattle.sat_core.proofs.Sets.{is_false-true, is_false_from, not_both, falsified_set, Derives-start, Derives-done}
use Rattle.sat_core.proofs.Tracking.{IsEntryAt, entry_at, false_same, same_lit_other, distinct_push, has_level-true}
use Rattle.sat_core.proofs.Resolving.{valued_variable, kept_variable, no_entry, true_at, level_is_present, last_level, place_left}

-- what is found and passes a test is found among those that pass it
pub find-filter : {X : Type 0} (p q : X → Bool) (xs : List X) (y : X) → find p xs ≡ Some y → q y ≡ true → find p (filter q xs) ≡ Some y
find-filter p q [] y h t = h
find-filter p q (x ∷ xs) y h t = at (p x) (q x) refl refl (λ g. find-filter p q xs y g t)
  where
    at : (a b : Bool) → p x ≡ a → q x ≡ b → (find p xs ≡ Some y → find p (filter q xs) ≡ Some y) → find p (cond (q x) (x ∷ filter q xs) (filter q xs)) ≡ Some y
    at true b u w r =
        let e : Some x ≡ Some y = sym (ap (λ c. cond c (Some x) (find p xs)) u) ∙ h in
        let same : x ≡ y = same_Some x y e in
        let yes : q x ≡ true = ap q same ∙ t in
        rw (yes, u) e
    at false true u w r = rw (w, u) (r (sym (ap (λ c. cond c (Some x) (find p xs)) u) ∙ h))
    at false false u w r = rw w (r (sym (ap (λ c. cond c (Some x) (find p xs)) u) ∙ h))

-- a value of a level up to k is one of the entries up to k
pub value_below : (t : TrailState) (v j k : ℕ) → level_in t.entries v ≡ Some j → j ≤ k → values_of (up_to k t.entries) v ≡ values_of t.entries v
value_below t v j k h l =
    let m = mapped (λ (x : Entry). x.decision_level) (entry_of t.entries v) j h in
    ap (option_map (λ (x : Entry). not x.lit.negated)) (find-filter (λ (x : Entry). eqb x.lit.var v) (λ (x : Entry). leb x.decision_level k) t.entries m.value m.is (le-leb m.value.decision_level k (omega (arith, l, m.gives))) ∙ sym m.is)

abbrev weight : Bool → ℕ
weight b = cond b 1 0

-- no literal yet
pub Tracks-clean : (t : TrailState) (marks : List Bool) (present : ℕ) → length marks ≡ t.vars → IsClean marks → present ≡ 0 → Tracks t marks [] present
Tracks-clean t marks present size c z = record {
  size = size;
  members = λ l. sym (ap (λ b. (b && is_false (values_of t.entries) l) && not (is_present t l.var)) (c l.var));
  variables = λ v h. absurd (false≢true h);
  valued = λ v low high h. absurd (both_ways (marked marks v) (c v) h);
  distinct = refl;
  count = z ∙ sym (none t.entries);
}
  where
    none : (es : List Entry) → count_by (counts t marks) es ≡ 0
    none [] = refl
    none (e ∷ es) =
        let off : weight (counts t marks e) ≡ 0 = ap weight (ap (λ b. b && eqb e.decision_level t.level) (c e.lit.var)) in
        omega (arith, off, sum_by-cons (λ x. cond (counts t marks x) 1 0) e es, none es)

-- a variable with a value has a level
level_of_valued : (t : TrailState) (v : ℕ) (b : Bool) → values_of t.entries v ≡ Some b → IsMapped (λ (x : Entry). not x.lit.negated) (entry_of t.entries v) b
level_of_valued t v b h = mapped (λ (x : Entry). not x.lit.negated) (entry_of t.entries v) b h

-- a literal of a falsified clause that was unassigned below the present level is of that level
pub present_from : (t : TrailState) (l : Lit) → IsTrail t → 1 ≤ t.level → IsFalseIn (values_of t.entries) l → values_of (up_to (t.level - 1) t.entries) l.var ≡ None → level_in t.entries l.var ≡ Some t.level
present_from t l h p f u =
    let m = level_of_valued t l.var l.negated f in
    let a = entry_at t l.var m.value m.is in
    let lev : level_in t.entries l.var ≡ Some m.value.decision_level = ap (option_map (λ (x : Entry). x.decision_level)) m.is in
    elim (cases_lt (t.level - 1) m.value.decision_level) [
      | inl b ↦ lev ∙ ap Some (top m.value a b)
      | inr b ↦ let bad : None ≡ Some l.negated = sym u ∙ (value_below t l.var m.value.decision_level (t.level - 1) lev b ∙ f) in cc
    ]
  where
    top : (e : Entry) → IsEntryAt t l.var e → t.level - 1 < e.decision_level → e.decision_level ≡ t.level
    top e a b = omega (arith, b, p, h.level, subst (λ (x : Entry). x.decision_level ≤ decisions t.entries) (a.is e) (level_le_all t.entries h.leveled a.place e a.within))

-- an entry that counts
counted : (t : TrailState) (marks : List Bool) (v : ℕ) → level_in t.entries v ≡ Some t.level → marked marks v ≡ true → 1 ≤ count_by (counts t marks) t.entries
counted t marks v s y =
    let m = mapped (λ (x : Entry). x.decision_level) (entry_of t.entries v) t.level s in
    let a = entry_at t v m.value m.is in
    let one : counts t marks (get_or t.entries a.place m.value) ≡ true = rw (a.is m.value) (and_from (marked marks m.value.lit.var) (eqb m.value.decision_level t.level) (ap (marked marks) a.variable ∙ y) (eq-eqb m.value.decision_level t.level m.gives)) in
    omega (arith, count-true (counts t marks (get_or t.entries a.place m.value)) one, get_or-le-sum_by (λ x. cond (counts t marks x) 1 0) t.entries a.place m.value a.within)

-- the analysis of the falsified clause begins
pub Resolved-start : (t : TrailState) (marks after : List Bool) (literals : List Lit) (chain : List ℕ) (present n : ℕ) → IsTrail t → 1 ≤ t.level → IsNumber t.clauses n → IsFalsified (values_of t.entries) (numbered t.clauses n) → length marks ≡ t.vars → IsClean marks → MarksOthers marks after (numbered t.clauses n) 0 → Tracks t after literals present → chain ≡ n ∷ [] → Resolved t after literals chain present (length t.entries)
Resolved-start t marks after literals chain present n h p k f size c m r q = record {
  tracks = r;
  derives = subst (λ ns. Derives t.clauses ns (set_of after (values_of t.entries))) (sym q)
      (Derives-start t.clauses n (set_of after (values_of t.entries)) (k.above, k.within) (falsified_set (values_of t.entries) (numbered t.clauses n) after f on));
  above = λ i d low l. absurd (omega (arith, low, l));
  some = omega (arith, r.count, some_present (h.rests (t.level - 1) (omega (arith, p)) n k));
}
  where
    on_variable : (v : ℕ) → IsVariable t.vars v → marked after v ≡ has_variable (numbered t.clauses n) v
    on_variable v i = m.each v i.above (omega (arith, i.within, size)) ∙ (ap (λ b. b || (has_variable (numbered t.clauses n) v && not (eqb v 0))) (c v)
        ∙ (ap (λ b. has_variable (numbered t.clauses n) v && not b) (ne_eqb v 0 (λ e. absurd (omega (arith, e, i.above)))) ∙ and-true (has_variable (numbered t.clauses n) v)))

    on : (v : ℕ) (b : Bool) → values_of t.entries v ≡ Some b → marked after v ≡ has_variable (numbered t.clauses n) v
    on v b s = on_variable v (valued_variable t v b h s)

    some_present : Rests (values_of (up_to (t.level - 1) t.entries)) (numbered t.clauses n) → 1 ≤ count_by (counts t after) t.entries
    some_present (satisfied l y s) =
        let up = values-up_to_some t.entries (t.level - 1) l.var (not l.negated) h.leveled s in
        absurd (not_both (values_of t.entries) l (f l y) up)
    some_present (open_at_two l w y z o u v) =
        counted t after l.var (present_from t l h p (f l y) u) (on l.var l.negated (f l y) ∙ has_variable-has (numbered t.clauses n) l y)

-- two entries that count
two_counted : {X : Type 0} (p : X → Bool) (xs : List X) (i k : ℕ) (d : X) → i < k → k < length xs → p (get_or xs i d) ≡ true → p (get_or xs k d) ≡ true → 2 ≤ count_by p xs
two_counted p xs i k d l m a b =
    omega (arith, count_by_more_yes p xs i d (omega (arith, l, m)) a, count_by_more_yes p xs k d m b, count_by-take-le p xs (i + 1) k (omega (arith, l)), sum_by-take-le (λ x. cond (p x) 1 0) xs (k + 1))

-- the one marked entry of the present level
pub only_present : (t : TrailState) (marks : List Bool) (literals : List Lit) (chain : List ℕ) (present place : ℕ) (l : Lit) → IsTrail t → Resolved t marks literals chain present (place + 1) → place < length t.entries → present ≡ 1 → (get_or t.entries place no_entry).lit ≡ l → marked marks l.var ≡ true → IsOnlyPresent t marks l
only_present t marks literals chain present place l h r k one e m = record {
  is_marked = m;
  is_true = subst (IsTrueIn (values_of t.entries)) e (true_at t place no_entry h k);
  level = level_is_present t marks literals chain present place l h r k e m;
  only = λ v y s. ⊎_elim (λ q. q) (λ n. absurd (omega (arith, one, r.tracks.count, two v y s n))) (cases_eq v l.var);
}
  where
    here : counts t marks (get_or t.entries place no_entry) ≡ true
    here = let q : marked marks (get_or t.entries place no_entry).lit.var ≡ true = ap (λ (x : Lit). marked marks x.var) e ∙ m in
        and_from (marked marks (get_or t.entries place no_entry).lit.var) (eqb (get_or t.entries place no_entry).decision_level t.level) q (eq-eqb (get_or t.entries place no_entry).decision_level t.level (last_level t marks literals chain present place no_entry h r k q))

    two : (v : ℕ) → marked marks v ≡ true → level_in t.entries v ≡ Some t.level → (v ≡ l.var → ⊥) → 2 ≤ count_by (counts t marks) t.entries
    two v y s n =
        let x = mapped (λ (x : Entry). x.decision_level) (entry_of t.entries v) t.level s in
        let a = entry_at t v x.value x.is in
        let there : counts t marks (get_or t.entries a.place no_entry) ≡ true = rw (a.is no_entry) (and_from (marked marks x.value.lit.var) (eqb x.value.decision_level t.level) (ap (marked marks) a.variable ∙ y) (eq-eqb x.value.decision_level t.level x.gives)) in
        let apart : a.place ≡ place → ⊥ = λ q. n (sym a.variable ∙ (ap (λ (w : Entry). w.lit.var) (sym (a.is no_entry)) ∙ (ap (λ j. (get_or t.entries j no_entry).lit.var) q ∙ ap (λ (w : Lit). w.var) e))) in
        elim (cases_lt a.place place) [
          | inl b ↦ two_counted (counts t marks) t.entries a.place place no_entry b k there here
          | inr b ↦ two_counted (counts t marks) t.entries place a.place no_entry (after a.place b apart) a.within here there
        ]
      where
        after : (i : ℕ) → place ≤ i → (i ≡ place → ⊥) → place < i
        after i b n = elim (cases_lt place i) [ inl c ↦ c | inr c ↦ absurd (n (omega arith)) ]

present_level : (t : TrailState) (v : ℕ) → is_present t v ≡ true → level_in t.entries v ≡ Some t.level
present_level t v h = has_level-true (level_in t.entries v) t.level h

-- the literals with the one of the present level at the end
pub finished_set : (t : TrailState) (marks : List Bool) (literals : List Lit) (present : ℕ) (l : Lit) → Tracks t marks literals present → IsOnlyPresent t marks l → (m : Lit) → set_of marks (values_of t.entries) m ≡ has (literals ++ opposite l ∷ []) m
finished_set t marks literals present l r o m = at (cases_eq m.var l.var) (cases_Bool (is_present t m.var)) ∙ sym (has-push literals (opposite l) m)
  where
    here : is_present t l.var ≡ true
    here = ap (λ k. has_level k t.level) o.level ∙ eq-eqb t.level t.level refl

    at : ((m.var ≡ l.var) ⊎ (m.var ≡ l.var → ⊥)) → ((is_present t m.var ≡ true) ⊎ (is_present t m.var ≡ false)) → set_of marks (values_of t.entries) m ≡ (has literals m || same_lit (opposite l) m)
    at (inl e) c =
        let none : has literals m ≡ false = r.members m ∙ (ap (λ b. set_of marks (values_of t.entries) m && not b) (ap (is_present t) e ∙ here) ∙ and-false (set_of marks (values_of t.entries) m)) in
        ap (λ b. b && is_false (values_of t.entries) m) (ap (marked marks) e ∙ o.is_marked) ∙ (false_same (values_of t.entries) (opposite l) m o.is_true e ∙ sym (ap (λ b. b || same_lit (opposite l) m) none))
    at (inr n) (inl y) =
        let off : set_of marks (values_of t.entries) m ≡ false = false_from_ne_true (set_of marks (values_of t.entries) m) (λ s. n (o.only m.var (and_parts (marked marks m.var) (is_false (values_of t.entries) m) s).0 (present_level t m.var y))) in
        let none : has literals m ≡ false = r.members m ∙ ap (λ b. b && not (is_present t m.var)) off in
        off ∙ sym (ap (λ b. b || same_lit (opposite l) m) none ∙ same_lit_other (opposite l) m n)
    at (inr n) (inr y) =
        sym (ap (λ b. has literals m || b) (same_lit_other (opposite l) m n) ∙ (or-false (has literals m) ∙ (r.members m ∙ (ap (λ b. set_of marks (values_of t.entries) m && not b) y ∙ and-true (set_of marks (values_of t.entries) m)))))

-- literals whose variables have values are the trail's
pub within_from : (t : TrailState) (literals : List Lit) → IsTrail t → ((l : Lit) → has literals l ≡ true → IsFalseIn (values_of t.entries) l) → IsWithin t.vars literals
within_from t literals h f = λ i d k.
    let v = valued_variable t (get_or literals i d).var (get_or literals i d).negated h (f (get_or literals i d) (has_at literals i d k)) in
    (v.above, v.within)

-- the clause is learned
pub Learns-from : (t : TrailState) (marks : List Bool) (literals after : List Lit) (chain : List ℕ) (present : ℕ) (l : Lit) → IsTrail t → Tracks t marks literals present → Derives t.clauses chain (set_of marks (values_of t.entries)) → IsOnlyPresent t marks l → after ≡ literals ++ opposite l ∷ [] → Learns t marks after chain
Learns-from t marks literals after chain present l h r v o e = subst (λ ls. Learns t marks ls chain) (sym e) record {
  accepted = Derives-done t.clauses chain (set_of marks (values_of t.entries)) (literals ++ opposite l ∷ []) v whole;
  distinct = distinct_push literals (opposite l) r.distinct (false_from_ne_true (has_variable literals l.var) (λ p. both_ways (is_present t l.var) (kept_variable t marks literals present l.var h r p).1 here));
  within = within_from t (literals ++ opposite l ∷ []) h (λ m p. is_false-true (values_of t.entries) m (and_parts (marked marks m.var) (is_false (values_of t.entries) m) (whole m ∙ p)).1);
  marks_are = λ w low high y. at w y (values_of t.entries w) refl (r.valued w low high y);
  lower = literals;
  tells = opposite l;
  split = refl;
  told = o.is_true;
  level = o.level;
  others = λ m p. let parts = and_parts (set_of marks (values_of t.entries) m) (not (is_present t m.var)) (sym (r.members m) ∙ p) in
      (is_false-true (values_of t.entries) m (and_parts (marked marks m.var) (is_false (values_of t.entries) m) parts.0).1, not-true (is_present t m.var) parts.1);
}
  where
    here : is_present t l.var ≡ true
    here = ap (λ k. has_level k t.level) o.level ∙ eq-eqb t.level t.level refl

    whole : (m : Lit) → set_of marks (values_of t.entries) m ≡ has (literals ++ opposite l ∷ []) m
    whole = finished_set t marks literals present l r o

    at : (w : ℕ) → marked marks w ≡ true → (b : Option Bool) → values_of t.entries w ≡ b → is_some b ≡ true → has_variable (literals ++ opposite l ∷ []) w ≡ true
    at w y None q s = absurd (false≢true s)
    at w y (Some b) q s =
        let x : Lit = record { var = w; negated = b } in
        has_variable-has (literals ++ opposite l ∷ []) x (sym (whole x) ∙ and_from (marked marks w) (is_false (values_of t.entries) x) y (is_false_from (values_of t.entries) x q))

-- the place before, where some place is left
pub one_before : (t : TrailState) (marks : List Bool) (literals : List Lit) (chain : List ℕ) (present place : ℕ) → Resolved t marks literals chain present place → Resolved t marks literals chain present (place - 1 + 1)
one_before t marks literals chain present place r =
    let left = place_left t marks literals chain present place r in
    let e : place ≡ place - 1 + 1 = omega (arith, left) in
    subst (Resolved t marks literals chain present) e r

-- what is read at a place is there
pub some_read : (es : List Entry) (place : ℕ) (r : Option Lit) → place < length es → r ≡ option_map (λ (e : Entry). e.lit) (slice_get es place) → is_some r ≡ true
some_read es place r k p = ap is_some (p ∙ ap (option_map (λ (e : Entry). e.lit)) (slice_get-get_or es place no_entry k))

-- and is of a variable
pub variable_read : (t : TrailState) (place : ℕ) (l : Lit) → IsTrail t → place < length t.entries → (get_or t.entries place no_entry).lit ≡ l → IsVariable t.vars l.var
variable_read t place l h k e = subst (λ (x : Lit). IsVariable t.vars x.var) e (h.justified place no_entry k).variable
