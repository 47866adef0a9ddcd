-- Resolving with the reason of the marked literal that became true last.
use Rattle.std.proofs.Common.{◌≡◌, ℕ, zero, suc, ◌+◌, ◌-◌, ◌<◌, ◌≤◌, Bool, true, false, not, cond, ◌&&◌, ◌||◌, eqb, List, [], ◌∷◌, length, get_or, set, take, Option, Some, None, refl, sym, ap, ◌∙◌, subst, arith, ◌⊎◌, inl, inr, ⊎_elim}
use Rattle.std.specs.Prelude.{is_none, is_some, slice_get}
use Rattle.std.proofs.lemmas.Option.{same_Some, slice_get-get_or}
use Rattle.std.specs.List.{count_by}
use Rattle.std.specs.Option.{option_map, option_and_then}
use Rattle.std.proofs.lemmas.Bool.{false≢true, both_ways, cases_Bool, cases_eq, cases_lt, eqb-true, eq-eqb, ne_eqb, and_parts, and_from, false_from_ne_true, not-true}
use Rattle.std.proofs.lemmas.List.{length-set, take-take, get_or_default}
use Rattle.std.proofs.lemmas.List.Sums.{sum_by-cons, count_by_more_yes, get_or-le-sum_by}
use Rattle.loc_base.proofs.ShelfBools.{and-false, and-true, count-false, count-true}
use Rattle.clause_base.specs.declared.literal.Lit.{Lit}
use Rattle.clause_base.specs.Literal.{opposite, has, has_variable}
use Rattle.clause_base.proofs.Sets.{has_either}
use Rattle.clause_base.specs.Acceptance.{numbered}
use Rattle.trail_core.specs.declared.entry.Entry.{Entry}
use Rattle.trail_core.specs.Values.{IsVariable, IsTrueIn}
use Rattle.trail_core.specs.TrailState.{TrailState, IsTrail, IsNumber, entry_of, values_of, level_in, reason_in, decisions, is_decision}
use Rattle.trail_core.proofs.Lists.{find_none, count_by-take-le}
use Rattle.trail_core.proofs.Levels.{level_le, level_le_all}
use Rattle.trail_core.proofs.Truth.{mapped, values-take_some}
use Rattle.sat_core.specs.Derivation.{has_sign, is_false, marked, set_of, has_level, is_present, counts, MarksOthers, Tracks, Replaces, Resolved, IsForced, Derives}
use Rattle.sat_core.proofs.Sets.{ReplacesAt, is_false-true}
use Rattle.sat_core.proofs.Marks.{marked-set_same, marked-set_other, count_one_more}
use Rattle.sat_core.proofs.Tracking.{entry_at, other_place, entries_differ, no_zero}

-- an element that passes
pub record IsAmong {X : Type 0} (p : X → Bool) (xs : List X) : Type 0 where
  pub place : ℕ
  pub within : place < length xs
  pub passes : (d : X) → p (get_or xs place d) ≡ true

later : {X : Type 0} (p : X → Bool) (x : X) (xs : List X) → IsAmong p xs → IsAmong p (x ∷ xs)
later p x xs a = record { place = suc a.place; within = omega (arith, a.within); passes = a.passes }

weight_le : (b : Bool) → cond b 1 0 ≤ suc zero
weight_le true = omega arith
weight_le false = omega arith

pub among : {X : Type 0} (p : X → Bool) (xs : List X) → 1 ≤ count_by p xs → IsAmong p xs
among p [] h = absurd (omega arith)
among p (x ∷ xs) h =
    ⊎_elim (λ y. record { place = 0; within = omega arith; passes = λ d. y })
    (λ n. later p x xs (among p xs (omega (arith, h, count-false (p x) n, sum_by-cons (λ y. cond (p y) 1 0) x xs))))
    (cases_Bool (p x))

-- an element that passes at another place than k
pub record IsElsewhere {X : Type 0} (p : X → Bool) (xs : List X) (k : ℕ) : Type 0 where
  pub place : ℕ
  pub within : place < length xs
  pub passes : (d : X) → p (get_or xs place d) ≡ true
  pub other : place ≡ k → ⊥

pub elsewhere : {X : Type 0} (p : X → Bool) (xs : List X) (k : ℕ) → 2 ≤ count_by p xs → IsElsewhere p xs k
elsewhere p [] k h = absurd (omega arith)
elsewhere p (x ∷ xs) zero h =
    let a = among p xs (omega (arith, h, weight_le (p x), sum_by-cons (λ y. cond (p y) 1 0) x xs)) in
    record { place = suc a.place; within = omega (arith, a.within); passes = a.passes; other = λ e. absurd (omega arith) }
elsewhere p (x ∷ xs) (suc k) h =
    ⊎_elim (λ y. record { place = 0; within = omega arith; passes = λ d. y; other = λ e. absurd (omega arith) })
    (λ n. let a = elsewhere p xs k (omega (arith, h, count-false (p x) n, sum_by-cons (λ y. cond (p y) 1 0) x xs)) in
    record { place = suc a.place; within = omega (arith, a.within); passes = a.passes; other = λ e. a.other (omega arith) })
    (cases_Bool (p x))

-- a variable with a value is one of the trail's
pub valued_variable : (t : TrailState) (v : ℕ) (b : Bool) → IsTrail t → values_of t.entries v ≡ Some b → IsVariable t.vars v
valued_variable t v b h q =
    let m = mapped (λ (x : Entry). not x.lit.negated) (entry_of t.entries v) b q in
    let a = entry_at t v m.value m.is in
    subst (IsVariable t.vars) (ap (λ (x : Entry). x.lit.var) (a.is m.value) ∙ a.variable) (h.justified a.place m.value a.within).variable

-- the entry of a place's variable is the one at the place
pub entry_of_place : (t : TrailState) (i : ℕ) (d : Entry) → IsTrail t → i < length t.entries → entry_of t.entries (get_or t.entries i d).lit.var ≡ Some (get_or t.entries i d)
entry_of_place t i d h l = at (entry_of t.entries (get_or t.entries i d).lit.var) refl
  where
    at : (o : Option Entry) → entry_of t.entries (get_or t.entries i d).lit.var ≡ o → o ≡ Some (get_or t.entries i d)
    at None q = absurd (both_ways (eqb (get_or t.entries i d).lit.var (get_or t.entries i d).lit.var) (find_none (λ (x : Entry). eqb x.lit.var (get_or t.entries i d).lit.var) t.entries i d q l) (eq-eqb _ _ refl))
    at (Some e) q = let a = entry_at t (get_or t.entries i d).lit.var e q in
        ⊎_elim (λ same. ap Some (sym (ap (λ k. get_or t.entries k d) same ∙ a.is d))) (λ other. absurd (other_place t (get_or t.entries i d).lit.var e a h i d l other refl)) (cases_eq i a.place)

-- the literal of a place is true
pub true_at : (t : TrailState) (i : ℕ) (d : Entry) → IsTrail t → i < length t.entries → IsTrueIn (values_of t.entries) (get_or t.entries i d).lit
true_at t i d h l = ap (option_map (λ (x : Entry). not x.lit.negated)) (entry_of_place t i d h l)

pub level_at : (t : TrailState) (i : ℕ) (d : Entry) → IsTrail t → i < length t.entries → level_in t.entries (get_or t.entries i d).lit.var ≡ Some (get_or t.entries i d).decision_level
level_at t i d h l = ap (option_map (λ (x : Entry). x.decision_level)) (entry_of_place t i d h l)

-- the last marked entry is of the present level
pub last_level : (t : TrailState) (marks : List Bool) (literals : List Lit) (chain : List ℕ) (present place : ℕ) (d : Entry) → IsTrail t → Resolved t marks literals chain present (place + 1) → place < length t.entries → marked marks (get_or t.entries place d).lit.var ≡ true → (get_or t.entries place d).decision_level ≡ t.level
last_level t marks literals chain present place d h r l m =
    let a = among (counts t marks) t.entries (omega (arith, r.some, r.tracks.count)) in
    let parts = and_parts (marked marks (get_or t.entries a.place d).lit.var) (eqb (get_or t.entries a.place d).decision_level t.level) (a.passes d) in
    let low : a.place ≤ place = not_above a.place a.within parts.0 in
    omega (arith, eqb-true (get_or t.entries a.place d).decision_level t.level parts.1, level_le t.entries h.leveled a.place place d low l, level_le_all t.entries h.leveled place d l, h.level)
  where
    not_above : (i : ℕ) → i < length t.entries → marked marks (get_or t.entries i d).lit.var ≡ true → i ≤ place
    not_above i k y = elim (cases_lt place i) [ inl b ↦ absurd (both_ways (marked marks (get_or t.entries i d).lit.var) (r.above i d (omega (arith, b)) k) y) | inr b ↦ b ]

-- and it isn't the level's decision, where another marked entry is of the present level
pub last_reasoned : (t : TrailState) (marks : List Bool) (literals : List Lit) (chain : List ℕ) (present place : ℕ) (d : Entry) → IsTrail t → Resolved t marks literals chain present (place + 1) → place < length t.entries → marked marks (get_or t.entries place d).lit.var ≡ true → 2 ≤ present → is_decision (get_or t.entries place d) ≡ false
last_reasoned t marks literals chain present place d h r l m two =
    let a = elsewhere (counts t marks) t.entries place (omega (arith, two, r.tracks.count)) in
    let parts = and_parts (marked marks (get_or t.entries a.place d).lit.var) (eqb (get_or t.entries a.place d).decision_level t.level) (a.passes d) in
    let low : a.place < place = below a.place a.within parts.0 a.other in
    let at_level = last_level t marks literals chain present place d h r l m in
    false_from_ne_true (is_decision (get_or t.entries place d)) (λ y.
    let more : decisions (take (place + 1) t.entries) ≡ decisions (take place t.entries) + 1 = count_by_more_yes is_decision t.entries place d l y in
    absurd (omega (arith, more, at_level, h.leveled place d l, h.leveled a.place d a.within, eqb-true (get_or t.entries a.place d).decision_level t.level parts.1, count_by-take-le is_decision t.entries (a.place + 1) place (omega (arith, low)))))
  where
    below : (i : ℕ) → i < length t.entries → marked marks (get_or t.entries i d).lit.var ≡ true → (i ≡ place → ⊥) → i < place
    below i k y n = elim (cases_lt i place) [ inl b ↦ b | inr b ↦ absurd (both_ways (marked marks (get_or t.entries i d).lit.var) (r.above i d (strictly i b n) k) y) ]
      where
        strictly : (j : ℕ) → place ≤ j → (j ≡ place → ⊥) → place + 1 ≤ j
        strictly j b n = elim (cases_lt place j) [ inl c ↦ omega (arith, c) | inr c ↦ absurd (n (omega arith)) ]

-- the reason of a place's entry forces its literal
pub forced_at : (t : TrailState) (place : ℕ) (d : Entry) (n : ℕ) → IsTrail t → place < length t.entries → (get_or t.entries place d).reason ≡ Some n → IsNumber t.clauses n × IsForced (values_of t.entries) (numbered t.clauses n) (get_or t.entries place d).lit
forced_at t place d n h l q =
    let r = (h.justified place d l).forced n q in
    (r.number, record { member = r.unit.member; is_true = true_at t place d h l; others = λ m k o. values-take_some t.entries place m.var m.negated (r.unit.others m k o) })

-- the other variables of the reason had their values before
pub reason_before : (t : TrailState) (place i : ℕ) (d : Entry) (n : ℕ) → IsTrail t → place < length t.entries → (get_or t.entries place d).reason ≡ Some n → place < i → i < length t.entries → has_variable (numbered t.clauses n) (get_or t.entries i d).lit.var ≡ false
reason_before t place i d n h l q low k =
    false_from_ne_true (has_variable (numbered t.clauses n) x.var) (λ y. ⊎_elim (λ p. clash x p refl) (λ p. clash (opposite x) p refl) (has_either (numbered t.clauses n) x y))
  where
    x : Lit
    x = (get_or t.entries i d).lit

    clash : (m : Lit) → has (numbered t.clauses n) m ≡ true → m.var ≡ x.var → ⊥
    clash m p e =
        let r = (h.justified place d l).forced n q in
        let f = r.unit.others m p (λ s. entries_differ t i place d d h k l (λ w. absurd (omega (arith, low))) (sym e ∙ s)) in
        let g : values_of (take i t.entries) m.var ≡ Some m.negated = values-take_some (take i t.entries) place m.var m.negated (ap (λ es. values_of es m.var) (take-take place i t.entries (omega (arith, low))) ∙ f) in
        let u = (h.justified i d k).unassigned in
        let no : None ≡ Some m.negated = sym u ∙ (ap (values_of (take i t.entries)) (sym e) ∙ g) in cc

set_other : (t : TrailState) (marks : List Bool) (v : ℕ) (b : Bool) (m : Lit) → IsTrail t → 1 ≤ v → (m.var ≡ v → ⊥) → set_of (set marks (v - 1) b) (values_of t.entries) m ≡ set_of marks (values_of t.entries) m
set_other t marks v b m h k n = at (cases_lt 0 m.var)
  where
    at : ((0 < m.var) ⊎ (m.var ≤ 0)) → set_of (set marks (v - 1) b) (values_of t.entries) m ≡ set_of marks (values_of t.entries) m
    at (inl p) = ap (λ c. c && is_false (values_of t.entries) m) (marked-set_other marks v m.var b k (omega arith) n)
    at (inr p) = let e : m.var ≡ 0 = omega arith in let f : is_false (values_of t.entries) m ≡ false = ap (λ o. has_sign o m.negated) (ap (values_of t.entries) e ∙ no_zero t h) in
        rw f (and-false (marked (set marks (v - 1) b) m.var) ∙ sym (and-false (marked marks m.var)))

-- a literal of the clause so far has a value, and not of the present level
pub kept_literal : (t : TrailState) (marks : List Bool) (literals : List Lit) (present : ℕ) (m : Lit) → IsTrail t → Tracks t marks literals present → has literals m ≡ true → IsVariable t.vars m.var × (is_present t m.var ≡ false)
kept_literal t marks literals present m h r p =
    let parts = and_parts (set_of marks (values_of t.entries) m) (not (is_present t m.var)) (sym (r.members m) ∙ p) in
    (valued_variable t m.var m.negated h (is_false-true (values_of t.entries) m (and_parts (marked marks m.var) (is_false (values_of t.entries) m) parts.0).1), not-true (is_present t m.var) parts.1)

pub kept_variable : (t : TrailState) (marks : List Bool) (literals : List Lit) (present v : ℕ) → IsTrail t → Tracks t marks literals present → has_variable literals v ≡ true → IsVariable t.vars v × (is_present t v ≡ false)
kept_variable t marks literals present v h r p =
    ⊎_elim (λ q. kept_literal t marks literals present record { var = v; negated = false } h r q) (λ q. kept_literal t marks literals present record { var = v; negated = true } h r q) (has_either literals record { var = v; negated = false } p)

-- the mark of a variable of the present level is taken away
pub Tracks-unmark : (t : TrailState) (marks : List Bool) (literals : List Lit) (present v : ℕ) → IsTrail t → Tracks t marks literals present → IsVariable t.vars v → marked marks v ≡ true → level_in t.entries v ≡ Some t.level → Tracks t (set marks (v - 1) false) literals (present - 1)
Tracks-unmark t marks literals present v h r k y s = record {
  size = length-set marks (v - 1) false ∙ r.size;
  members = λ m. r.members m ∙ ⊎_elim
      (λ e. let p : is_present t m.var ≡ true = ap (is_present t) e ∙ here in
      rw p (and-false (set_of marks (values_of t.entries) m) ∙ sym (and-false (set_of (set marks (v - 1) false) (values_of t.entries) m))))
      (λ n. ap (λ b. b && not (is_present t m.var)) (sym (set_other t marks v false m h k.above n)))
      (cases_eq m.var v);
  variables = λ w p. let q = kept_variable t marks literals present w h r p in
      marked-set_other marks v w false k.above q.0.above (λ e. both_ways (is_present t w) q.1 (ap (is_present t) e ∙ here)) ∙ r.variables w p;
  valued = λ w low high p. ⊎_elim (λ e. absurd (both_ways (marked (set marks (v - 1) false) w) (ap (marked (set marks (v - 1) false)) e ∙ marked-set_same marks v false record { above = k.above; within = omega (arith, k.within, r.size) }) p)) (λ n. r.valued w low high (sym (marked-set_other marks v w false k.above low n) ∙ p)) (cases_eq w v);
  distinct = r.distinct;
  count = omega (arith, r.count, more);
}
  where
    here : is_present t v ≡ true
    here = ap (λ o. has_level o t.level) s ∙ eq-eqb t.level t.level refl

    more : count_by (counts t marks) t.entries ≡ count_by (counts t (set marks (v - 1) false)) t.entries + 1
    more =
        let m = mapped (λ (x : Entry). x.decision_level) (entry_of t.entries v) t.level s in
        let a = entry_at t v m.value m.is in
        count_one_more (counts t (set marks (v - 1) false)) (counts t marks) t.entries a.place m.value a.within
        (rw (a.is m.value) (ap (λ b. b && eqb m.value.decision_level t.level) (ap (marked (set marks (v - 1) false)) a.variable ∙ marked-set_same marks v false record { above = k.above; within = omega (arith, k.within, r.size) })))
        (rw (a.is m.value) (and_from (marked marks m.value.lit.var) (eqb m.value.decision_level t.level) (ap (marked marks) a.variable ∙ y) (eq-eqb m.value.decision_level t.level m.gives)))
        (λ j d l n. ap (λ b. b && eqb (get_or t.entries j d).decision_level t.level) (sym (marked-set_other marks v (get_or t.entries j d).lit.var false k.above (h.justified j d l).variable.above (other_place t v m.value a h j d l n))))

-- the others of a clause are marked, and the variable's own mark is gone
pub Replaces-from : (marks after : List Bool) (clause : List Lit) (x : ℕ) → IsVariable (length marks) x → MarksOthers (set marks (x - 1) false) after clause x → Replaces marks after clause x
Replaces-from marks after clause x k r = record {
  size = r.size ∙ length-set marks (x - 1) false;
  each = λ v l m. r.each v l (omega (arith, m, length-set marks (x - 1) false)) ∙ ⊎_elim
      (λ e. let y : eqb v x ≡ true = eq-eqb v x e in
      rw y (ap (λ b. b || (has_variable clause v && false)) (ap (marked (set marks (x - 1) false)) e ∙ marked-set_same marks x false k) ∙ and-false (has_variable clause v)))
      (λ n. let y : eqb v x ≡ false = ne_eqb v x n in
      rw y (ap (λ b. b || (has_variable clause v && true)) (marked-set_other marks x v false k.above l n) ∙ (ap (λ b. marked marks v || b) (and-true (has_variable clause v)) ∙ sym (and_true_left (marked marks v || has_variable clause v)))))
      (cases_eq v x);
}
  where
    and_true_left : (b : Bool) → (true && b) ≡ b
    and_true_left b = refl

-- at the variables that have values
pub ReplacesAt-from : (t : TrailState) (marks after : List Bool) (clause : List Lit) (x : ℕ) → IsTrail t → length marks ≡ t.vars → Replaces marks after clause x → ReplacesAt marks after (values_of t.entries) clause x
ReplacesAt-from t marks after clause x h size r v b q = let k = valued_variable t v b h q in r.each v k.above (omega (arith, k.within, size))

-- one step down, over an entry that isn't marked
pub Resolved-passed : (t : TrailState) (marks : List Bool) (literals : List Lit) (chain : List ℕ) (present place : ℕ) (d : Entry) → Resolved t marks literals chain present (place + 1) → marked marks (get_or t.entries place d).lit.var ≡ false → place < length t.entries → Resolved t marks literals chain present place
Resolved-passed t marks literals chain present place d r u k = record {
  tracks = r.tracks;
  derives = r.derives;
  above = λ i e low l. elim (cases_lt place i) [
    | inl b ↦ r.above i e (omega (arith, b)) l
    | inr b ↦ let q : i ≡ place = omega arith in subst (λ j. marked marks (get_or t.entries j e).lit.var ≡ false) (sym q) (ap (λ (x : Entry). marked marks x.lit.var) (get_or_default t.entries place e d k) ∙ u)
  ];
  some = r.some;
}

-- one step down, over an entry that was resolved
pub Resolved-resolved : (t : TrailState) (marks after : List Bool) (literals literals' : List Lit) (chain chain' : List ℕ) (present present' place : ℕ) (d : Entry) (n : ℕ) → IsTrail t → Resolved t marks literals chain present (place + 1) → place < length t.entries → (get_or t.entries place d).reason ≡ Some n → 2 ≤ present → Tracks t after literals' present' → Derives t.clauses chain' (set_of after (values_of t.entries)) → Replaces marks after (numbered t.clauses n) (get_or t.entries place d).lit.var → Resolved t after literals' chain' present' place
Resolved-resolved t marks after literals literals' chain chain' present present' place d n h r l q two tracks derives replaces = record {
  tracks = tracks;
  derives = derives;
  above = λ i e low k. elim (cases_lt place i) [
    | inl b ↦ replaces.each (get_or t.entries i e).lit.var (h.justified i e k).variable.above (within_at i e k)
        ∙ (ap (λ c. not (eqb (get_or t.entries i e).lit.var (get_or t.entries place d).lit.var) && (c || has_variable (numbered t.clauses n) (get_or t.entries i e).lit.var)) (r.above i e (omega (arith, b)) k)
        ∙ (ap (λ c. not (eqb (get_or t.entries i e).lit.var (get_or t.entries place d).lit.var) && (false || c)) (subst (λ (x : Entry). has_variable (numbered t.clauses n) x.lit.var ≡ false) (get_or_default t.entries i d e k) (reason_before t place i d n h l q b k))
        ∙ and-false (not (eqb (get_or t.entries i e).lit.var (get_or t.entries place d).lit.var))))
    | inr b ↦ let same : i ≡ place = omega arith in subst (λ j. marked after (get_or t.entries j e).lit.var ≡ false) (sym same)
        (ap (λ (x : Entry). marked after x.lit.var) (get_or_default t.entries place e d l)
        ∙ (replaces.each (get_or t.entries place d).lit.var (h.justified place d l).variable.above (within_at place d l)
        ∙ ap (λ c. not c && (marked marks (get_or t.entries place d).lit.var || has_variable (numbered t.clauses n) (get_or t.entries place d).lit.var)) (eq-eqb (get_or t.entries place d).lit.var (get_or t.entries place d).lit.var refl)))
  ];
  some = omega (arith, tracks.count, kept);
}
  where
    within_at : (i : ℕ) (e : Entry) → i < length t.entries → (get_or t.entries i e).lit.var ≤ length marks
    within_at i e k = omega (arith, (h.justified i e k).variable.within, r.tracks.size)

    kept : 1 ≤ count_by (counts t after) t.entries
    kept =
        let a = elsewhere (counts t marks) t.entries place (omega (arith, two, r.tracks.count)) in
        let parts = and_parts (marked marks (get_or t.entries a.place d).lit.var) (eqb (get_or t.entries a.place d).decision_level t.level) (a.passes d) in
        let still : marked after (get_or t.entries a.place d).lit.var ≡ true =
        replaces.each (get_or t.entries a.place d).lit.var (h.justified a.place d a.within).variable.above (within_at a.place d a.within)
        ∙ (ap (λ c. not c && (marked marks (get_or t.entries a.place d).lit.var || has_variable (numbered t.clauses n) (get_or t.entries a.place d).lit.var)) (ne_eqb _ _ (entries_differ t a.place place d d h a.within l a.other))
        ∙ ap (λ c. c || has_variable (numbered t.clauses n) (get_or t.entries a.place d).lit.var) parts.0) in
        let one : counts t after (get_or t.entries a.place d) ≡ true = and_from (marked after (get_or t.entries a.place d).lit.var) (eqb (get_or t.entries a.place d).decision_level t.level) still parts.1 in
        omega (arith, count-true (counts t after (get_or t.entries a.place d)) one, get_or-le-sum_by (λ x. cond (counts t after x) 1 0) t.entries a.place d a.within)

-- an entry that stands for one past the last
abbrev pub no_entry : Entry
no_entry = record { lit = record { var = 0; negated = false }; decision_level = 0; reason = None }

-- what is read at a place
pub place_lit : (es : List Entry) (place : ℕ) (l : Lit) (r : Option Lit) → place < length es → r ≡ option_map (λ (e : Entry). e.lit) (slice_get es place) → r ≡ Some l → (get_or es place no_entry).lit ≡ l
place_lit es place l r k p q =
    same_Some (get_or es place no_entry).lit l (sym (ap (option_map (λ (e : Entry). e.lit)) (slice_get-get_or es place no_entry k)) ∙ (sym p ∙ q))

pub reason_at : (t : TrailState) (place : ℕ) (l : Lit) (r : Option ℕ) → IsTrail t → place < length t.entries → (get_or t.entries place no_entry).lit ≡ l → r ≡ reason_in t.entries l.var → r ≡ (get_or t.entries place no_entry).reason
reason_at t place l r h k e p =
    p ∙ (ap (λ (x : Lit). reason_in t.entries x.var) (sym e) ∙ ap (option_and_then (λ (x : Entry). x.reason)) (entry_of_place t place no_entry h k))

some_reason : (o : Option ℕ) → is_none o ≡ false → is_some o ≡ true
some_reason None h = absurd (false≢true (sym h))
some_reason (Some n) h = refl

pub has_reason : (t : TrailState) (marks : List Bool) (literals : List Lit) (chain : List ℕ) (present place : ℕ) (l : Lit) (r : Option ℕ) → IsTrail t → Resolved t marks literals chain present (place + 1) → place < length t.entries → (get_or t.entries place no_entry).lit ≡ l → marked marks l.var ≡ true → 2 ≤ present → r ≡ reason_in t.entries l.var → is_some r ≡ true
has_reason t marks literals chain present place l r h s k e m two p =
    ap is_some (reason_at t place l r h k e p) ∙ some_reason (get_or t.entries place no_entry).reason (last_reasoned t marks literals chain present place no_entry h s k (ap (λ (x : Lit). marked marks x.var) e ∙ m) two)

pub reason_forces : (t : TrailState) (place : ℕ) (l : Lit) (r : Option ℕ) (n : ℕ) → IsTrail t → place < length t.entries → (get_or t.entries place no_entry).lit ≡ l → r ≡ reason_in t.entries l.var → r ≡ Some n → IsNumber t.clauses n × IsForced (values_of t.entries) (numbered t.clauses n) l
reason_forces t place l r n h k e p q =
    subst (λ x. IsNumber t.clauses n × IsForced (values_of t.entries) (numbered t.clauses n) x) e (forced_at t place no_entry n h k (sym (reason_at t place l r h k e p) ∙ q))

pub level_is_present : (t : TrailState) (marks : List Bool) (literals : List Lit) (chain : List ℕ) (present place : ℕ) (l : Lit) → IsTrail t → Resolved t marks literals chain present (place + 1) → place < length t.entries → (get_or t.entries place no_entry).lit ≡ l → marked marks l.var ≡ true → level_in t.entries l.var ≡ Some t.level
level_is_present t marks literals chain present place l h s k e m =
    ap (λ (x : Lit). level_in t.entries x.var) (sym e) ∙ (level_at t place no_entry h k ∙ ap Some (last_level t marks literals chain present place no_entry h s k (ap (λ (x : Lit). marked marks x.var) e ∙ m)))

-- some place is left
pub place_left : (t : TrailState) (marks : List Bool) (literals : List Lit) (chain : List ℕ) (present place : ℕ) → Resolved t marks literals chain present place → 1 ≤ place
place_left t marks literals chain present place r =
    let a = among (counts t marks) t.entries (omega (arith, r.some, r.tracks.count)) in
    let parts = and_parts (marked marks (get_or t.entries a.place no_entry).lit.var) (eqb (get_or t.entries a.place no_entry).decision_level t.level) (a.passes no_entry) in
    elim (cases_lt a.place place) [
      | inl b ↦ omega (arith, b)
      | inr b ↦ absurd (both_ways (marked marks (get_or t.entries a.place no_entry).lit.var) (r.above a.place no_entry b a.within) parts.0)
    ]
