-- A clause of opposites of decisions, from a clause that is resolved until only they are left.
use Rattle.std.proofs.Common.{◌≡◌, ◌≢◌, ℕ, zero, suc, ◌+◌, ◌<◌, ◌≤◌, Bool, true, false, not, cond, ◌&&◌, ◌||◌, eqb, List, [], ◌∷◌, ◌++◌, map, length, get_or, take, Option, Some, None, refl, sym, ap, ◌∙◌, subst, arith, ◌⊎◌, inl, inr, ⊎_elim}
use Rattle.std.specs.List.{All, filter}
use Rattle.std.specs.Option.{option_and_then}
use Rattle.std.proofs.lemmas.Bool.{false≢true, both_ways, cases_eq, cases_lt, eqb-false, eq-eqb, ne_eqb, and_parts, and_from, or_cases, or_left, or_right, false_from_ne_true, not_from_false, not-true}
use Rattle.std.proofs.lemmas.List.{take_more, take_all, map_push, append_assoc, append-nil, get_or-take, length-take-le}
use Rattle.std.proofs.lemmas.List.Elements.{All-cons, All-head, All-tail, All-map, filter-append}
use Rattle.loc_base.proofs.ShelfBools.{and-false, and-true, or-false}
use Rattle.clause_base.specs.declared.literal.Lit.{Lit}
use Rattle.clause_base.specs.Literal.{positive, negative, opposite, same_lit, has, has_variable, has_distinct_variables}
use Rattle.clause_base.specs.Resolution.{clashes, resolvent, Gives}
use Rattle.clause_base.specs.Acceptance.{numbered}
use Rattle.clause_base.proofs.Sets.{lit_ext, same_lit-true, same_lit_itself, has-append, has_variable-append, has_variable-has, has_either}
use Rattle.trail_core.specs.declared.entry.Entry.{Entry}
use Rattle.trail_core.specs.Values.{IsVariable, IsTrueIn, IsFalseIn, IsFalsified}
use Rattle.trail_core.specs.TrailState.{TrailState, IsTrail, IsNumber, entry_of, values_of, reason_in}
use Rattle.trail_core.proofs.Truth.{IsMapped, mapped}
use Rattle.trail_core.proofs.Looks.{has_at}
use Rattle.sat_core.specs.Derivation.{is_false, marked, set_of, opposites_of, IsPast, Starts, IsDenied, IsDeniedBefore, RestsBefore, Denies, Refutes, IsForced, IsClean, MarksOthers}
use Rattle.sat_core.proofs.Sets.{Gives-same, clashes_same, is_false-true, is_false_from, falsified_set, not_both}
use Rattle.sat_core.proofs.Tracking.{IsEntryAt, entry_at, entries_differ, distinct_push}
use Rattle.sat_core.proofs.Resolving.{no_entry, true_at, valued_variable, forced_at, reason_before}
use Rattle.sat_core.proofs.Entailment.{one_literal}

-- from the same set
pub Gives-from : (from other : Lit → Bool) (cs : List (List Lit)) (to : Lit → Bool) → Gives from cs to → ((l : Lit) → other l ≡ from l) → Gives other cs to
Gives-from from other [] to g e = λ l. e l ∙ g l
Gives-from from other (c ∷ cs) to (v, clash, rest) e =
    (v, (clashes_same other from c v e ∙ clash.0, λ w h. clash.1 w (sym (clashes_same other from c w e) ∙ h)), Gives-from (resolvent from (has c) v) (resolvent other (has c) v) cs to rest (λ l. ap (λ b. (b || has c l) && not (eqb l.var v)) (e l)))

-- the literals of the head as well
abbrev pub with_head : List Lit → (Lit → Bool) → Lit → Bool
with_head head a l = has head l || a l

lacking : (c : List Lit) (l : Lit) → has_variable c l.var ≡ false → has c l ≡ false
lacking c l h = false_from_ne_true (has c l) (λ y. both_ways (has_variable c l.var) h (has_variable-has c l y))

-- a literal of the head doesn't clash
half_clash : (head : List Lit) (a : Lit → Bool) (c : List Lit) (l m : Lit) → m.var ≡ l.var → ((x : Lit) → has head x ≡ true → has_variable c x.var ≡ false) → (with_head head a l && has c m) ≡ (a l && has c m)
half_clash head a c l m e h = at (has head l) refl
  where
    at : (b : Bool) → has head l ≡ b → ((has head l || a l) && has c m) ≡ (a l && has c m)
    at true q =
        let none : has c m ≡ false = lacking c m (ap (has_variable c) e ∙ h l q) in
        rw none (and-false (has head l || a l) ∙ sym (and-false (a l)))
    at false q = rw q refl

head_clash : (head : List Lit) (a : Lit → Bool) (c : List Lit) (v : ℕ) → ((x : Lit) → has head x ≡ true → has_variable c x.var ≡ false) → clashes (with_head head a) (has c) v ≡ clashes a (has c) v
head_clash head a c v h =
    ap (λ p. p || (with_head head a (negative v) && has c (positive v))) (half_clash head a c (positive v) (negative v) refl h)
    ∙ ap (λ n. (a (positive v) && has c (negative v)) || n) (half_clash head a c (negative v) (positive v) refl h)

-- a clash is on a variable of the clause
clash_variable : (a : Lit → Bool) (c : List Lit) (v : ℕ) → clashes a (has c) v ≡ true → has_variable c v ≡ true
clash_variable a c v h = ⊎_elim
    (λ p. has_variable-has c (negative v) (and_parts (a (positive v)) (has c (negative v)) p).1)
    (λ p. has_variable-has c (positive v) (and_parts (a (negative v)) (has c (positive v)) p).1)
    (or_cases (a (positive v) && has c (negative v)) (a (negative v) && has c (positive v)) h)

head_resolvent : (head : List Lit) (a : Lit → Bool) (c : List Lit) (v : ℕ) → ((x : Lit) → has head x ≡ true → has_variable c x.var ≡ false) → has_variable c v ≡ true → (l : Lit) → resolvent (with_head head a) (has c) v l ≡ with_head head (resolvent a (has c) v) l
head_resolvent head a c v h k l = at (has head l) refl
  where
    at : (b : Bool) → has head l ≡ b → (((has head l || a l) || has c l) && not (eqb l.var v)) ≡ (has head l || ((a l || has c l) && not (eqb l.var v)))
    at true q =
        let n : eqb l.var v ≡ false = ne_eqb l.var v (λ e. both_ways (has_variable c l.var) (h l q) (ap (has_variable c) e ∙ k)) in
        rw (q, n) refl
    at false q = rw q refl

-- literals of variables that the clauses lack stay
pub Gives-with : (head : List Lit) (a : Lit → Bool) (cs : List (List Lit)) (b : Lit → Bool) → ((x : Lit) → has head x ≡ true → All (λ c. has_variable c x.var ≡ false) cs) → Gives a cs b → Gives (with_head head a) cs (with_head head b)
Gives-with head a [] b h g = λ l. ap (λ x. has head l || x) (g l)
Gives-with head a (c ∷ cs) b h (v, clash, rest) =
    let now : (x : Lit) → has head x ≡ true → has_variable c x.var ≡ false = λ x p. All-head (λ d. has_variable d x.var ≡ false) c cs (h x p) in
    let later : (x : Lit) → has head x ≡ true → All (λ d. has_variable d x.var ≡ false) cs = λ x p. All-tail (λ d. has_variable d x.var ≡ false) c cs (h x p) in (
      v,
      (head_clash head a c v now ∙ clash.0, λ w p. clash.1 w (sym (head_clash head a c w now) ∙ p)),
      Gives-from (with_head head (resolvent a (has c) v)) (resolvent (with_head head a) (has c) v) cs (with_head head b) (Gives-with head (resolvent a (has c) v) cs b later rest)
          (head_resolvent head a c v now (clash_variable a c v clash.0)),
    )

-- one entry more, marked or not
pub opposites_of-more : (marks : List Bool) (es : List Entry) (i : ℕ) (l : Lit) → i < length es → (get_or es i no_entry).lit ≡ l → marked marks l.var ≡ true → opposites_of marks (take (i + 1) es) ≡ opposites_of marks (take i es) ++ opposite l ∷ []
opposites_of-more marks es i l k e y =
    let passes : (λ (x : Entry). marked marks x.lit.var) (get_or es i no_entry) ≡ true = ap (λ (x : Lit). marked marks x.var) e ∙ y in
    let last : filter (λ (x : Entry). marked marks x.lit.var) (get_or es i no_entry ∷ []) ≡ get_or es i no_entry ∷ [] = rw passes refl in
    ap (opposites_of marks) (take_more es i no_entry k)
    ∙ (ap (map (λ (x : Entry). opposite x.lit)) (filter-append (λ (x : Entry). marked marks x.lit.var) (take i es) (get_or es i no_entry ∷ [])
    ∙ ap (λ xs. filter (λ (x : Entry). marked marks x.lit.var) (take i es) ++ xs) last)
    ∙ (map_push (λ (x : Entry). opposite x.lit) (filter (λ (x : Entry). marked marks x.lit.var) (take i es)) (get_or es i no_entry)
    ∙ ap (λ (x : Lit). opposites_of marks (take i es) ++ opposite x ∷ []) e))

pub opposites_of-same : (marks : List Bool) (es : List Entry) (i : ℕ) (l : Lit) → i < length es → (get_or es i no_entry).lit ≡ l → marked marks l.var ≡ false → opposites_of marks (take (i + 1) es) ≡ opposites_of marks (take i es)
opposites_of-same marks es i l k e n =
    let fails : (λ (x : Entry). marked marks x.lit.var) (get_or es i no_entry) ≡ false = ap (λ (x : Lit). marked marks x.var) e ∙ n in
    let none : filter (λ (x : Entry). marked marks x.lit.var) (get_or es i no_entry ∷ []) ≡ [] = rw fails refl in
    ap (opposites_of marks) (take_more es i no_entry k)
    ∙ ap (map (λ (x : Entry). opposite x.lit)) (filter-append (λ (x : Entry). marked marks x.lit.var) (take i es) (get_or es i no_entry ∷ [])
    ∙ (ap (λ xs. filter (λ (x : Entry). marked marks x.lit.var) (take i es) ++ xs) none ∙ append-nil (filter (λ (x : Entry). marked marks x.lit.var) (take i es))))

-- a literal that was collected is the opposite of a marked entry
pub record IsCollected (marks : List Bool) (es : List Entry) (l : Lit) : Type 0 where
  pub place : ℕ
  pub within : place < length es
  pub is_marked : (d : Entry) → marked marks (get_or es place d).lit.var ≡ true
  pub is : (d : Entry) → opposite (get_or es place d).lit ≡ l

collected_later : (marks : List Bool) (e : Entry) (es : List Entry) (l : Lit) → IsCollected marks es l → IsCollected marks (e ∷ es) l
collected_later marks e es l c = record { place = suc c.place; within = omega (arith, c.within); is_marked = c.is_marked; is = c.is }

pub collected : (marks : List Bool) (es : List Entry) (l : Lit) → has (opposites_of marks es) l ≡ true → IsCollected marks es l
collected marks [] l h = absurd (false≢true h)
collected marks (e ∷ es) l h = at (marked marks e.lit.var) refl (λ p. collected marks es l p)
  where
    at : (b : Bool) → marked marks e.lit.var ≡ b → (has (opposites_of marks es) l ≡ true → IsCollected marks es l) → IsCollected marks (e ∷ es) l
    at true q r =
        let p : (same_lit (opposite e.lit) l || has (opposites_of marks es) l) ≡ true = sym (ap (λ b. has (map (λ (x : Entry). opposite x.lit) (cond b (e ∷ filter (λ (x : Entry). marked marks x.lit.var) es) (filter (λ (x : Entry). marked marks x.lit.var) es))) l) q) ∙ h in
        ⊎_elim (λ s. record { place = 0; within = omega arith; is_marked = λ d. q; is = λ d. same_lit-true (opposite e.lit) l s })
        (λ s. collected_later marks e es l (r s))
        (or_cases (same_lit (opposite e.lit) l) (has (opposites_of marks es) l) p)
    at false q r =
        let p : has (opposites_of marks es) l ≡ true = sym (ap (λ b. has (map (λ (x : Entry). opposite x.lit) (cond b (e ∷ filter (λ (x : Entry). marked marks x.lit.var) es) (filter (λ (x : Entry). marked marks x.lit.var) es))) l) q) ∙ h in
        collected_later marks e es l (r p)

-- the opposite of each marked entry was collected
collects : (marks : List Bool) (es : List Entry) (i : ℕ) (d : Entry) → i < length es → marked marks (get_or es i d).lit.var ≡ true → has (opposites_of marks es) (opposite (get_or es i d).lit) ≡ true
collects marks [] i d k y = absurd (omega arith)
collects marks (e ∷ es) zero d k y = rw y (or_left (same_lit (opposite e.lit) (opposite e.lit)) (has (opposites_of marks es) (opposite e.lit)) (same_lit_itself (opposite e.lit)))
collects marks (e ∷ es) (suc i) d k y = at (marked marks e.lit.var) refl (collects marks es i d (omega arith) y)
  where
    at : (b : Bool) → marked marks e.lit.var ≡ b → has (opposites_of marks es) (opposite (get_or es i d).lit) ≡ true → has (opposites_of marks (e ∷ es)) (opposite (get_or es i d).lit) ≡ true
    at true q r = rw q (or_right (same_lit (opposite e.lit) (opposite (get_or es i d).lit)) (has (opposites_of marks es) (opposite (get_or es i d).lit)) r)
    at false q r = rw q r

pub same_bool : (a b : Bool) → (a ≡ true → b ≡ true) → (b ≡ true → a ≡ true) → a ≡ b
same_bool true b f g = sym (f refl)
same_bool false b f g = sym (false_from_ne_true b (λ y. false≢true (g y)))

-- the collected literals are those of the marked set
pub collected_set : (t : TrailState) (marks : List Bool) (l : Lit) → IsTrail t → has (opposites_of marks t.entries) l ≡ set_of marks (values_of t.entries) l
collected_set t marks l h = same_bool (has (opposites_of marks t.entries) l) (set_of marks (values_of t.entries) l) there back
  where
    there : has (opposites_of marks t.entries) l ≡ true → set_of marks (values_of t.entries) l ≡ true
    there p =
        let c = collected marks t.entries l p in
        let f : IsFalseIn (values_of t.entries) (opposite (get_or t.entries c.place no_entry).lit) = true_at t c.place no_entry h c.within in
        subst (λ m. set_of marks (values_of t.entries) m ≡ true) (c.is no_entry)
        (and_from (marked marks (get_or t.entries c.place no_entry).lit.var) (is_false (values_of t.entries) (opposite (get_or t.entries c.place no_entry).lit)) (c.is_marked no_entry) (is_false_from (values_of t.entries) (opposite (get_or t.entries c.place no_entry).lit) f))

    back : set_of marks (values_of t.entries) l ≡ true → has (opposites_of marks t.entries) l ≡ true
    back p =
        let parts = and_parts (marked marks l.var) (is_false (values_of t.entries) l) p in
        let m = mapped (λ (x : Entry). not x.lit.negated) (entry_of t.entries l.var) l.negated (is_false-true (values_of t.entries) l parts.1) in
        let a = entry_at t l.var m.value m.is in
        let same : opposite (get_or t.entries a.place no_entry).lit ≡ l = ap (λ (x : Entry). opposite x.lit) (a.is no_entry) ∙ lit_ext (opposite m.value.lit) l a.variable m.gives in
        subst (λ x. has (opposites_of marks t.entries) x ≡ true) same
        (collects marks t.entries a.place no_entry a.within (ap (λ (x : Entry). marked marks x.lit.var) (a.is no_entry) ∙ (ap (marked marks) a.variable ∙ parts.0)))

-- what the head and the collected literals have
with_head_has : (t : TrailState) (head : List Lit) (marks : List Bool) (l : Lit) → IsTrail t → with_head head (set_of marks (values_of t.entries)) l ≡ has (head ++ opposites_of marks t.entries) l
with_head_has t head marks l h = sym (has-append head (opposites_of marks t.entries) l ∙ ap (λ b. has head l || b) (collected_set t marks l h))

-- their variables are distinct
distinct_step : (t : TrailState) (head : List Lit) (marks : List Bool) (n : ℕ) → IsTrail t → ((l : Lit) → has head l ≡ true → IsPast t marks l.var) → n < length t.entries → has_distinct_variables (head ++ opposites_of marks (take n t.entries)) ≡ true → has_distinct_variables (head ++ opposites_of marks (take (n + 1) t.entries)) ≡ true
distinct_step t head marks n h p k before = at (marked marks x.var) refl
  where
    x : Lit
    x = (get_or t.entries n no_entry).lit

    not_head : marked marks x.var ≡ true → (m : Lit) → m.var ≡ x.var → has head m ≡ true → ⊥
    not_head y m e q =
        let r = p m q in
        ⊎_elim
        (λ s. both_ways (marked marks x.var) (ap (λ j. marked marks (get_or t.entries j no_entry).lit.var) (sym s) ∙ r.unmarked r.place no_entry (omega arith) r.within) y)
        (λ s. entries_differ t r.place n no_entry no_entry h r.within k s (r.variable no_entry ∙ e))
        (cases_eq r.place n)

    not_collected : (m : Lit) → m.var ≡ x.var → has (opposites_of marks (take n t.entries)) m ≡ true → ⊥
    not_collected m e q = no_collected (collected marks (take n t.entries) m q)
      where
        no_collected : IsCollected marks (take n t.entries) m → ⊥
        no_collected c =
            let w : c.place < n = omega (arith, c.within, length-take-le n t.entries (omega (arith, k))) in
            entries_differ t c.place n no_entry no_entry h (omega (arith, w, k)) k (λ s. absurd (omega (arith, w, s)))
            (ap (λ (z : Entry). z.lit.var) (sym (get_or-take n t.entries c.place no_entry w)) ∙ (ap (λ (z : Lit). z.var) (c.is no_entry) ∙ e))

    new : marked marks x.var ≡ true → has_variable (head ++ opposites_of marks (take n t.entries)) x.var ≡ false
    new y = false_from_ne_true (has_variable (head ++ opposites_of marks (take n t.entries)) x.var) (λ z.
        ⊎_elim (λ u. either u (λ m e q. not_head y m e q)) (λ u. either_collected u)
        (or_cases (has_variable head x.var) (has_variable (opposites_of marks (take n t.entries)) x.var) (sym (has_variable-append head (opposites_of marks (take n t.entries)) x.var) ∙ z)))
      where
        either : has_variable head x.var ≡ true → ((m : Lit) → m.var ≡ x.var → has head m ≡ true → ⊥) → ⊥
        either u f = ⊎_elim (λ q. f x refl q) (λ q. f (opposite x) refl q) (has_either head x u)

        either_collected : has_variable (opposites_of marks (take n t.entries)) x.var ≡ true → ⊥
        either_collected u = ⊎_elim (λ q. not_collected x refl q) (λ q. not_collected (opposite x) refl q) (has_either (opposites_of marks (take n t.entries)) x u)

    at : (b : Bool) → marked marks x.var ≡ b → has_distinct_variables (head ++ opposites_of marks (take (n + 1) t.entries)) ≡ true
    at true y =
        ap (λ xs. has_distinct_variables (head ++ xs)) (opposites_of-more marks t.entries n x k refl y)
        ∙ (ap has_distinct_variables (sym (append_assoc head (opposites_of marks (take n t.entries)) (opposite x ∷ [])))
        ∙ distinct_push (head ++ opposites_of marks (take n t.entries)) (opposite x) before (new y))
    at false y = ap (λ xs. has_distinct_variables (head ++ xs)) (opposites_of-same marks t.entries n x k refl y) ∙ before

distinct_to : (t : TrailState) (head : List Lit) (marks : List Bool) (n : ℕ) → IsTrail t → has_distinct_variables head ≡ true → ((l : Lit) → has head l ≡ true → IsPast t marks l.var) → n ≤ length t.entries → has_distinct_variables (head ++ opposites_of marks (take n t.entries)) ≡ true
distinct_to t head marks zero h d p l = ap has_distinct_variables (append-nil head) ∙ d
distinct_to t head marks (suc n) h d p l =
    let one : n + 1 ≡ suc n = omega arith in
    subst (λ j. has_distinct_variables (head ++ opposites_of marks (take j t.entries)) ≡ true) one (distinct_step t head marks n h p (omega (arith, l)) (distinct_to t head marks n h d p (omega (arith, l))))

-- the clause of the head and of the opposites that are left
pub Denies-from : (t : TrailState) (head literals : List Lit) (marks after : List Bool) (chain next : List ℕ) → IsTrail t → Starts t head marks chain → Refutes t marks after chain next 0 → literals ≡ head ++ opposites_of after t.entries → Denies t head literals next
Denies-from t head literals marks after chain next h s r e =
    subst (λ ls. Denies t head ls next) (sym e) (subst (λ ns. Denies t head whole ns) (sym chain_is) record {
      accepted = (
        All-cons (λ j. (1 ≤ j) × (j ≤ length t.clauses)) s.clause r.added (s.number.above, s.number.within) r.numbers,
        Gives-from (with_head head (set_of marks (values_of t.entries))) (has (numbered t.clauses s.clause)) (map (numbered t.clauses) r.added) (has whole)
            (Gives-same (with_head head (set_of marks (values_of t.entries))) (map (numbered t.clauses) r.added) (with_head head (set_of after (values_of t.entries))) (has whole)
            (Gives-with head (set_of marks (values_of t.entries)) (map (numbered t.clauses) r.added) (set_of after (values_of t.entries)) lacks r.gives)
            (λ l. with_head_has t head after l h)) s.set,
      );
      distinct = ap (λ es. has_distinct_variables (head ++ opposites_of after es)) (sym (take_all (length t.entries) t.entries (omega arith))) ∙ distinct_to t head after (length t.entries) h s.distinct past (omega arith);
      within = λ i d k. inside (get_or whole i d) (has_at whole i d k);
      itself = λ l p. has-append head (opposites_of after t.entries) l ∙ or_left (has head l) (has (opposites_of after t.entries) l) p;
      denied = λ l p. ⊎_elim (λ q. inl q) (λ q. inr (denied (collected after t.entries l q))) (split l p);
      before = λ x p. rests x (past x p);
    })
  where
    whole : List Lit
    whole = head ++ opposites_of after t.entries

    chain_is : next ≡ s.clause ∷ r.added
    chain_is = r.is ∙ ap (λ ns. ns ++ r.added) s.is

    lacks : (x : Lit) → has head x ≡ true → All (λ c. has_variable c x.var ≡ false) (map (numbered t.clauses) r.added)
    lacks x p =
        let q = s.past x p in
        All-map (λ c. has_variable c x.var ≡ false) (numbered t.clauses) r.added
        (subst (λ v. All (λ n. has_variable (numbered t.clauses n) v ≡ false) r.added) (q.variable no_entry) (r.without q.place no_entry q.within q.unmarked))

    past : (l : Lit) → has head l ≡ true → IsPast t after l.var
    past l p = let q = s.past l p in record { place = q.place; within = q.within; variable = q.variable; unmarked = r.unmarked q.place q.within q.unmarked }

    split : (l : Lit) → has whole l ≡ true → (has head l ≡ true) ⊎ (has (opposites_of after t.entries) l ≡ true)
    split l p = or_cases (has head l) (has (opposites_of after t.entries) l) (sym (has-append head (opposites_of after t.entries) l) ∙ p)

    denied : {l : Lit} → IsCollected after t.entries l → IsDenied t l
    denied c = record { place = c.place; within = c.within; decision = λ d. r.above c.place d (omega arith) c.within (c.is_marked d); is = c.is }

    -- what was collected stands before an entry from which on nothing is marked
    denied_before : (x l : Lit) (p : IsPast t after x.var) → IsCollected after t.entries l → IsDeniedBefore t p.place l
    denied_before x l p c = record { place = c.place; within = early (cases_lt c.place p.place); decision = λ d. r.above c.place d (omega arith) c.within (c.is_marked d); is = c.is }
      where
        early : (c.place < p.place) ⊎ (p.place ≤ c.place) → c.place < p.place
        early (inl b) = b
        early (inr b) = absurd (both_ways (marked after (get_or t.entries c.place no_entry).lit.var) (p.unmarked c.place no_entry b c.within) (c.is_marked no_entry))

    rests : (x : Lit) → IsPast t after x.var → RestsBefore t head whole x.var
    rests x p = record {
      place = p.place;
      within = p.within;
      variable = p.variable;
      denied = λ l q. ⊎_elim (λ z. inl z) (λ z. inr (denied_before x l p (collected after t.entries l z))) (split l q);
    }

    inside : (l : Lit) → has whole l ≡ true → (1 ≤ l.var) × (l.var ≤ t.vars)
    inside l p = ⊎_elim
        (λ q. let u = s.past l q in variable_at_place u.place u.within l.var (u.variable no_entry))
        (λ q. collected_inside l (collected after t.entries l q))
        (split l p)
      where
        variable_at_place : (i : ℕ) → i < length t.entries → (v : ℕ) → (get_or t.entries i no_entry).lit.var ≡ v → (1 ≤ v) × (v ≤ t.vars)
        variable_at_place i k v e = let w = (h.justified i no_entry k).variable in subst (λ x. (1 ≤ x) × (x ≤ t.vars)) e (w.above, w.within)

        collected_inside : (m : Lit) → IsCollected after t.entries m → (1 ≤ m.var) × (m.var ≤ t.vars)
        collected_inside m c = variable_at_place c.place c.within m.var (ap (λ (x : Lit). x.var) (c.is no_entry))

-- the marks of a clause, but for one variable, from none
marks_of : (t : TrailState) (marks after : List Bool) (clause : List Lit) (skip v : ℕ) → length marks ≡ t.vars → IsClean marks → MarksOthers marks after clause skip → IsVariable t.vars v → marked after v ≡ (has_variable clause v && not (eqb v skip))
marks_of t marks after clause skip v size c m i = m.each v i.above (omega (arith, i.within, size)) ∙ ap (λ b. b || (has_variable clause v && not (eqb v skip))) (c v)

-- a clause whose literals are all false
pub Starts-falsified : (t : TrailState) (marks after : List Bool) (head : List Lit) (chain : List ℕ) (n : ℕ) → IsTrail t → length marks ≡ t.vars → IsClean marks → IsNumber t.clauses n → IsFalsified (values_of t.entries) (numbered t.clauses n) → MarksOthers marks after (numbered t.clauses n) 0 → head ≡ [] → chain ≡ n ∷ [] → Starts t head after chain
Starts-falsified t marks after head chain n h size c k f m z e = subst (λ ls. Starts t ls after chain) (sym z) record {
  clause = n;
  is = e;
  number = k;
  set = falsified_set (values_of t.entries) (numbered t.clauses n) after f on;
  past = λ l p. absurd (false≢true p);
  distinct = refl;
}
  where
    on : (v : ℕ) (b : Bool) → values_of t.entries v ≡ Some b → marked after v ≡ has_variable (numbered t.clauses n) v
    on v b s =
        let i = valued_variable t v b h s in
        marks_of t marks after (numbered t.clauses n) 0 v size c m i
        ∙ (ap (λ x. has_variable (numbered t.clauses n) v && not x) (ne_eqb v 0 (λ q. absurd (omega (arith, q, i.above)))) ∙ and-true (has_variable (numbered t.clauses n) v))

-- the reason of a true literal, with the literal as the head
pub Starts-reason : (t : TrailState) (marks after : List Bool) (head : List Lit) (chain : List ℕ) (l : Lit) (n : ℕ) → IsTrail t → length marks ≡ t.vars → IsClean marks → IsTrueIn (values_of t.entries) l → reason_in t.entries l.var ≡ Some n → MarksOthers marks after (numbered t.clauses n) l.var → head ≡ l ∷ [] → chain ≡ n ∷ [] → Starts t head after chain
Starts-reason t marks after head chain l n h size c v r m z e = subst (λ ls. Starts t ls after chain) (sym z) record {
  clause = n;
  is = e;
  number = f.0;
  set = λ x. whole x ∙ ap (λ b. b || set_of after (values_of t.entries) x) (sym (or-false (same_lit l x)));
  past = λ x p. past_at x (same_lit-true l x (sym (or-false (same_lit l x)) ∙ p));
  distinct = refl;
}
  where
    w : IsMapped (λ (x : Entry). not x.lit.negated) (entry_of t.entries l.var) (not l.negated)
    w = mapped (λ (x : Entry). not x.lit.negated) (entry_of t.entries l.var) (not l.negated) v

    a : IsEntryAt t l.var w.value
    a = entry_at t l.var w.value w.is

    same_not : (p q : Bool) → not p ≡ not q → p ≡ q
    same_not true true g = refl
    same_not true false g = absurd (false≢true g)
    same_not false true g = absurd (false≢true (sym g))
    same_not false false g = refl

    lit_is : (d : Entry) → (get_or t.entries a.place d).lit ≡ l
    lit_is d = ap (λ (x : Entry). x.lit) (a.is d) ∙ lit_ext w.value.lit l a.variable (same_not w.value.lit.negated l.negated w.gives)

    reason : (d : Entry) → (get_or t.entries a.place d).reason ≡ Some n
    reason d = ap (λ (x : Entry). x.reason) (a.is d) ∙ (sym (ap (option_and_then (λ (x : Entry). x.reason)) w.is) ∙ r)

    f : IsNumber t.clauses n × IsForced (values_of t.entries) (numbered t.clauses n) l
    f = subst (λ x. IsNumber t.clauses n × IsForced (values_of t.entries) (numbered t.clauses n) x) (lit_is no_entry) (forced_at t a.place no_entry n h a.within (reason no_entry))

    past_at : (x : Lit) → l ≡ x → IsPast t after x.var
    past_at x q = subst (λ (y : Lit). IsPast t after y.var) q record {
      place = a.place;
      within = a.within;
      variable = λ d. ap (λ (y : Lit). y.var) (lit_is d);
      unmarked = λ i d low k. off i d k (cases_eq i a.place) low;
    }
      where
        after_place : (i : ℕ) → a.place ≤ i → (i ≡ a.place → ⊥) → a.place < i
        after_place i b o = elim (cases_lt a.place i) [ inl q ↦ q | inr q ↦ absurd (o (omega arith)) ]

        off : (i : ℕ) (d : Entry) → i < length t.entries → ((i ≡ a.place) ⊎ (i ≡ a.place → ⊥)) → a.place ≤ i → marked after (get_or t.entries i d).lit.var ≡ false
        off i d k (inl q) low =
            let y : (get_or t.entries i d).lit.var ≡ l.var = ap (λ j. (get_or t.entries j d).lit.var) q ∙ ap (λ (y : Lit). y.var) (lit_is d) in
            marks_of t marks after (numbered t.clauses n) l.var (get_or t.entries i d).lit.var size c m (h.justified i d k).variable
            ∙ (ap (λ b. has_variable (numbered t.clauses n) (get_or t.entries i d).lit.var && not b) (eq-eqb (get_or t.entries i d).lit.var l.var y) ∙ and-false (has_variable (numbered t.clauses n) (get_or t.entries i d).lit.var))
        off i d k (inr o) low =
            marks_of t marks after (numbered t.clauses n) l.var (get_or t.entries i d).lit.var size c m (h.justified i d k).variable
            ∙ ap (λ b. b && not (eqb (get_or t.entries i d).lit.var l.var)) (reason_before t a.place i d n h a.within (reason d) (after_place i low o) k)

    whole : (x : Lit) → has (numbered t.clauses n) x ≡ (same_lit l x || set_of after (values_of t.entries) x)
    whole x = same_bool (has (numbered t.clauses n) x) (same_lit l x || set_of after (values_of t.entries) x) there back
      where
        marks_at : (b : Bool) → values_of t.entries x.var ≡ Some b → marked after x.var ≡ (has_variable (numbered t.clauses n) x.var && not (eqb x.var l.var))
        marks_at b q = marks_of t marks after (numbered t.clauses n) l.var x.var size c m (valued_variable t x.var b h q)

        same_var : has (numbered t.clauses n) x ≡ true → x.var ≡ l.var → same_lit l x ≡ true
        same_var p q = ap (same_lit l) (one_literal (numbered t.clauses n) x l (h.distinct n f.0) p f.1.member q) ∙ same_lit_itself l

        there : has (numbered t.clauses n) x ≡ true → (same_lit l x || set_of after (values_of t.entries) x) ≡ true
        there p = ⊎_elim
            (λ q. or_left (same_lit l x) (set_of after (values_of t.entries) x) (same_var p q))
            (λ o. let g = f.1.others x p o in
            or_right (same_lit l x) (set_of after (values_of t.entries) x)
            (and_from (marked after x.var) (is_false (values_of t.entries) x)
            (marks_at x.negated g ∙ and_from (has_variable (numbered t.clauses n) x.var) (not (eqb x.var l.var)) (has_variable-has (numbered t.clauses n) x p) (not_from_false (eqb x.var l.var) (ne_eqb x.var l.var o)))
            (is_false_from (values_of t.entries) x g)))
            (cases_eq x.var l.var)

        from_set : set_of after (values_of t.entries) x ≡ true → has (numbered t.clauses n) x ≡ true
        from_set s =
            let parts = and_parts (marked after x.var) (is_false (values_of t.entries) x) s in
            let g = is_false-true (values_of t.entries) x parts.1 in
            let both = and_parts (has_variable (numbered t.clauses n) x.var) (not (eqb x.var l.var)) (sym (marks_at x.negated g) ∙ parts.0) in
            let o : x.var ≢ l.var = eqb-false x.var l.var (not-true (eqb x.var l.var) both.1) in
            ⊎_elim (λ p. p) (λ p. absurd (not_both (values_of t.entries) x g (f.1.others (opposite x) p o))) (has_either (numbered t.clauses n) x both.0)

        back : (same_lit l x || set_of after (values_of t.entries) x) ≡ true → has (numbered t.clauses n) x ≡ true
        back p = ⊎_elim (λ q. ap (has (numbered t.clauses n)) (sym (same_lit-true l x q)) ∙ f.1.member) from_set (or_cases (same_lit l x) (set_of after (values_of t.entries) x) p)

-- one entry more gone over
pub collected_more : (marks now : List Bool) (es : List Entry) (i : ℕ) (l o : Lit) (old before after : List Lit) → i < length es → (get_or es i no_entry).lit ≡ l → now ≡ marks → marked now l.var ≡ true → o ≡ opposite l → before ≡ old ++ opposites_of marks (take i es) → after ≡ before ++ o ∷ [] → after ≡ old ++ opposites_of marks (take (i + 1) es)
collected_more marks now es i l o old before after k e m y p q r =
    r ∙ (ap (λ x. before ++ x ∷ []) p ∙ (ap (λ ls. ls ++ opposite l ∷ []) q ∙ (append_assoc old (opposites_of marks (take i es)) (opposite l ∷ [])
    ∙ ap (λ ls. old ++ ls) (sym (opposites_of-more marks es i l k e (ap (λ ms. marked ms l.var) (sym m) ∙ y))))))

pub collected_same : (marks now : List Bool) (es : List Entry) (i : ℕ) (l : Lit) (old after : List Lit) → i < length es → (get_or es i no_entry).lit ≡ l → now ≡ marks → marked now l.var ≡ false → after ≡ old ++ opposites_of marks (take i es) → after ≡ old ++ opposites_of marks (take (i + 1) es)
collected_same marks now es i l old after k e m y q = q ∙ ap (λ ls. old ++ ls) (sym (opposites_of-same marks es i l k e (ap (λ ms. marked ms l.var) (sym m) ∙ y)))

-- a reason is a number of a clause
pub reason_number : (t : TrailState) (v n : ℕ) → IsTrail t → reason_in t.entries v ≡ Some n → IsNumber t.clauses n
reason_number t v n h r = at (entry_of t.entries v) refl
  where
    at : (o : Option Entry) → entry_of t.entries v ≡ o → IsNumber t.clauses n
    at None q = let e : None ≡ Some n = sym (ap (option_and_then (λ (x : Entry). x.reason)) q) ∙ r in cc
    at (Some x) q =
        let a = entry_at t v x q in
        let e : x.reason ≡ Some n = sym (ap (option_and_then (λ (y : Entry). y.reason)) q) ∙ r in
        (forced_at t a.place no_entry n h a.within (ap (λ (y : Entry). y.reason) (a.is no_entry) ∙ e)).0
