-- Leaving out a literal whose reason's other literals are in the set.
use Rattle.std.proofs.Common.{◌≡◌, ◌≢◌, ℕ, ◌+◌, ◌-◌, ◌<◌, ◌≤◌, Bool, true, false, not, ◌&&◌, ◌||◌, eqb, List, [], ◌∷◌, ◌++◌, length, get_or, set, take, Some, refl, sym, ap, ◌∙◌, subst, arith, ⊎_elim}
use Rattle.std.specs.Prelude.{IsPermutation}
use Rattle.std.proofs.lemmas.Bool.{false≢true, both_ways, cases_eq, eq-eqb, ne_eqb, and_parts, or_cases, false_from_ne_true, not-true}
use Rattle.std.proofs.lemmas.List.{length-set, take_more}
use Rattle.loc_base.proofs.ShelfBools.{and-false, and-true, or-false}
use Rattle.clause_base.specs.declared.literal.Lit.{Lit}
use Rattle.clause_base.specs.Literal.{opposite, same_lit, has, has_variable, has_distinct_variables}
use Rattle.clause_base.specs.Acceptance.{numbered}
use Rattle.clause_base.proofs.Sets.{lit_ext, same_lit-true, has-push, has_either, has_variable-has}
use Rattle.trail_core.specs.declared.entry.Entry.{Entry}
use Rattle.trail_core.specs.Values.{IsVariable, IsFalseIn}
use Rattle.trail_core.specs.TrailState.{TrailState, IsTrail, IsNumber, entry_of, values_of, level_in, reason_in}
use Rattle.trail_core.proofs.Looks.{has_at}
use Rattle.trail_core.proofs.Truth.{mapped}
use Rattle.sat_core.specs.Derivation.{is_false, marked, set_of, has_level, is_present, counts, Tracks, Derives, Replaces, IsForced, IsOnlyPresent, Leaves, Covers}
use Rattle.sat_core.proofs.Sets.{Derives-push, is_false-true}
use Rattle.sat_core.proofs.Marks.{marked-set_same, marked-set_other, count_agree}
use Rattle.sat_core.proofs.Tracking.{entry_at, same_lit_other}
use Rattle.sat_core.proofs.Moving.{has-moved, distinct-moved}
use Rattle.sat_core.proofs.Resolving.{ReplacesAt-from, reason_forces, no_entry, level_at, valued_variable, kept_literal}

-- a literal of a variable that the literals lack is none of theirs
has_none : (ls : List Lit) (m : Lit) → has_variable ls m.var ≡ false → has ls m ≡ false
has_none ls m h = false_from_ne_true (has ls m) (λ p. both_ways (has_variable ls m.var) h (has_variable-has ls m p))

-- the literals but for the first: those of other variables
has-rest : (x m : Lit) (xs : List Lit) → has_distinct_variables (x ∷ xs) ≡ true → has xs m ≡ (has (x ∷ xs) m && not (eqb m.var x.var))
has-rest x m xs h =
    let parts = and_parts (not (has_variable xs x.var)) (has_distinct_variables xs) h in
    ⊎_elim
    (λ e. let t : eqb m.var x.var ≡ true = eq-eqb m.var x.var e in
    has_none xs m (ap (has_variable xs) e ∙ not-true (has_variable xs x.var) parts.0) ∙ sym (ap (λ b. (same_lit x m || has xs m) && not b) t ∙ and-false (same_lit x m || has xs m)))
    (λ n. let t : eqb m.var x.var ≡ false = ne_eqb m.var x.var n in
    sym (ap (λ b. (same_lit x m || has xs m) && not b) t ∙ (and-true (same_lit x m || has xs m) ∙ ap (λ b. b || has xs m) (same_lit_other x m n))))
    (cases_eq m.var x.var)

not_flip : (p q : Bool) → not p ≡ q → p ≡ not q
not_flip true true g = absurd (false≢true g)
not_flip true false g = refl
not_flip false true g = refl
not_flip false false g = absurd (false≢true (sym g))

-- the reason of a false literal's variable forces its opposite
pub reason_of_false : (t : TrailState) (l : Lit) (n : ℕ) → IsTrail t → IsFalseIn (values_of t.entries) l → reason_in t.entries l.var ≡ Some n → IsNumber t.clauses n × IsForced (values_of t.entries) (numbered t.clauses n) (opposite l)
reason_of_false t l n h f q =
    let m = mapped (λ (x : Entry). not x.lit.negated) (entry_of t.entries l.var) l.negated f in
    let e = entry_at t l.var m.value m.is in
    let lit : (get_or t.entries e.place no_entry).lit ≡ opposite l = ap (λ (x : Entry). x.lit) (e.is no_entry) ∙ lit_ext m.value.lit (opposite l) e.variable (not_flip m.value.lit.negated l.negated m.gives) in
    reason_forces t e.place (opposite l) (reason_in t.entries l.var) n h e.within lit refl q

-- the mark of the variable is taken away, where the others of the clause are marked
Replaces-covered : (marks : List Bool) (clause : List Lit) (x : ℕ) → IsVariable (length marks) x → ((m : Lit) → has clause m ≡ true → m.var ≢ x → marked marks m.var ≡ true) → Replaces marks (set marks (x - 1) false) clause x
Replaces-covered marks clause x k c = record {
  size = length-set marks (x - 1) false;
  each = λ v l w. ⊎_elim
      (λ e. ap (marked (set marks (x - 1) false)) e ∙ (marked-set_same marks x false k ∙ sym (ap (λ b. not b && (marked marks v || has_variable clause v)) (eq-eqb v x e))))
      (λ n. marked-set_other marks x v false k.above l n ∙ (same v n (has_variable clause v) refl ∙ sym (ap (λ b. not b && (marked marks v || has_variable clause v)) (ne_eqb v x n))))
      (cases_eq v x);
}
  where
    here : (v : ℕ) → v ≢ x → has_variable clause v ≡ true → marked marks v ≡ true
    here v n h = ⊎_elim (λ p. c record { var = v; negated = false } p n) (λ p. c record { var = v; negated = true } p n) (has_either clause record { var = v; negated = false } h)

    same : (v : ℕ) → v ≢ x → (b : Bool) → has_variable clause v ≡ b → marked marks v ≡ (marked marks v || has_variable clause v)
    same v n true q = let y = here v n q in y ∙ sym (ap (λ b. b || has_variable clause v) y)
    same v n false q = sym (ap (λ b. marked marks v || b) q ∙ or-false (marked marks v))

-- the literal at a place of the clause so far
pub kept_at : (t : TrailState) (marks : List Bool) (literals : List Lit) (present i : ℕ) (d : Lit) → IsTrail t → Tracks t marks literals present → i < length literals → IsVariable t.vars (get_or literals i d).var × ((is_present t (get_or literals i d).var ≡ false) × (IsFalseIn (values_of t.entries) (get_or literals i d) × (marked marks (get_or literals i d).var ≡ true)))
kept_at t marks literals present i d h r l =
    let x = get_or literals i d in
    let k = kept_literal t marks literals present x h r (has_at literals i d l) in
    let parts = and_parts (set_of marks (values_of t.entries) x) (not (is_present t x.var)) (sym (r.members x) ∙ has_at literals i d l) in
    let on = and_parts (marked marks x.var) (is_false (values_of t.entries) x) parts.0 in
    (k.0, (k.1, (is_false-true (values_of t.entries) x on.1, on.0)))

-- its variable
pub kept_variable_at : (t : TrailState) (marks : List Bool) (literals : List Lit) (present i : ℕ) (x : Lit) → IsTrail t → Tracks t marks literals present → i < length literals → x ≡ get_or literals i x → IsVariable t.vars x.var
kept_variable_at t marks literals present i x h r l e = subst (λ (y : Lit). IsVariable t.vars y.var) (sym e) (kept_at t marks literals present i x h r l).0

-- the chain with the reason gives the set without the literal
pub Derives-left : (t : TrailState) (marks : List Bool) (literals : List Lit) (chain : List ℕ) (present i n : ℕ) (d : Lit) → IsTrail t → Tracks t marks literals present → i < length literals → Covers t marks n (get_or literals i d) → Derives t.clauses chain (set_of marks (values_of t.entries)) → Derives t.clauses (chain ++ n ∷ []) (set_of (set marks ((get_or literals i d).var - 1) false) (values_of t.entries))
Derives-left t marks literals chain present i n d h r l c v =
    let x = get_or literals i d in
    let k = kept_at t marks literals present i d h r l in
    let f = reason_of_false t x n h k.1.1.0 c.reason in
    Derives-push t.clauses chain n marks (set marks (x.var - 1) false) (values_of t.entries) (opposite x) v (f.0.above, f.0.within) f.1 k.1.1.1
    (ReplacesAt-from t marks (set marks (x.var - 1) false) (numbered t.clauses n) x.var h r.size (Replaces-covered marks (numbered t.clauses n) x.var (subst (λ s. IsVariable s x.var) (sym r.size) k.0) c.others))

-- what is left of the literals, in any order
pub Tracks-left : (t : TrailState) (marks : List Bool) (literals rest : List Lit) (present i : ℕ) (d : Lit) → IsTrail t → Tracks t marks literals present → i < length literals → IsPermutation literals (get_or literals i d ∷ rest) → Tracks t (set marks ((get_or literals i d).var - 1) false) rest present
Tracks-left t marks literals rest present i d h r l moved = record {
  size = length-set marks (x.var - 1) false ∙ r.size;
  members = λ m. has-left m ∙ ⊎_elim
      (λ e. ap (λ b. has literals m && not b) (eq-eqb m.var x.var e) ∙ (and-false (has literals m) ∙ sym (ap (λ b. (b && is_false (values_of t.entries) m) && not (is_present t m.var)) (ap (marked (set marks (x.var - 1) false)) e ∙ gone))))
      (λ n. ap (λ b. has literals m && not b) (ne_eqb m.var x.var n) ∙ (and-true (has literals m) ∙ (r.members m ∙ ap (λ b. b && not (is_present t m.var)) (other m n))))
      (cases_eq m.var x.var);
  variables = λ v p. ⊎_elim (λ q. variable record { var = v; negated = false } q) (λ q. variable record { var = v; negated = true } q) (has_either rest record { var = v; negated = false } p);
  valued = λ v low high p. ⊎_elim (λ e. absurd (both_ways (marked (set marks (x.var - 1) false) v) (ap (marked (set marks (x.var - 1) false)) e ∙ gone) p)) (λ n. r.valued v low high (sym (marked-set_other marks x.var v false k.0.above low n) ∙ p)) (cases_eq v x.var);
  distinct = (and_parts (not (has_variable rest x.var)) (has_distinct_variables rest) apart).1;
  count = r.count ∙ sym (count_agree (counts t marks) (counts t (set marks (x.var - 1) false)) t.entries (λ j e w. agree j e w));
}
  where
    x : Lit
    x = get_or literals i d

    k : IsVariable t.vars x.var × ((is_present t x.var ≡ false) × (IsFalseIn (values_of t.entries) x × (marked marks x.var ≡ true)))
    k = kept_at t marks literals present i d h r l

    apart : has_distinct_variables (x ∷ rest) ≡ true
    apart = distinct-moved literals (x ∷ rest) moved r.distinct

    has-left : (m : Lit) → has rest m ≡ (has literals m && not (eqb m.var x.var))
    has-left m = has-rest x m rest apart ∙ ap (λ b. b && not (eqb m.var x.var)) (has-moved literals (x ∷ rest) m moved)

    gone : marked (set marks (x.var - 1) false) x.var ≡ false
    gone = marked-set_same marks x.var false record { above = k.0.above; within = omega (arith, k.0.within, r.size) }

    other : (m : Lit) → m.var ≢ x.var → set_of marks (values_of t.entries) m ≡ set_of (set marks (x.var - 1) false) (values_of t.entries) m
    other m n = at (is_false (values_of t.entries) m) refl
      where
        at : (b : Bool) → is_false (values_of t.entries) m ≡ b → (marked marks m.var && is_false (values_of t.entries) m) ≡ (marked (set marks (x.var - 1) false) m.var && is_false (values_of t.entries) m)
        at true q = let v = valued_variable t m.var m.negated h (is_false-true (values_of t.entries) m q) in
            ap (λ b. b && is_false (values_of t.entries) m) (sym (marked-set_other marks x.var m.var false k.0.above v.above n))
        at false q = rw q (and-false (marked marks m.var) ∙ sym (and-false (marked (set marks (x.var - 1) false) m.var)))

    variable : (m : Lit) → has rest m ≡ true → marked (set marks (x.var - 1) false) m.var ≡ true
    variable m p =
        let parts = and_parts (has literals m) (not (eqb m.var x.var)) (sym (has-left m) ∙ p) in
        let n : m.var ≢ x.var = λ e. both_ways (eqb m.var x.var) (not-true (eqb m.var x.var) parts.1) (eq-eqb m.var x.var e) in
        let v = kept_literal t marks literals present m h r parts.0 in
        marked-set_other marks x.var m.var false k.0.above v.0.above n ∙ r.variables m.var (has_variable-has literals m parts.0)

    agree : (j : ℕ) (e : Entry) → j < length t.entries → counts t (set marks (x.var - 1) false) (get_or t.entries j e) ≡ counts t marks (get_or t.entries j e)
    agree j e w = ⊎_elim
        (λ s. let off : eqb (get_or t.entries j e).decision_level t.level ≡ false = below j e w s in
        rw off (and-false (marked (set marks (x.var - 1) false) (get_or t.entries j e).lit.var) ∙ sym (and-false (marked marks (get_or t.entries j e).lit.var))))
        (λ n. ap (λ b. b && eqb (get_or t.entries j e).decision_level t.level) (marked-set_other marks x.var (get_or t.entries j e).lit.var false k.0.above (h.justified j e w).variable.above n))
        (cases_eq (get_or t.entries j e).lit.var x.var)
      where
        below : (j : ℕ) (e : Entry) → j < length t.entries → (get_or t.entries j e).lit.var ≡ x.var → eqb (get_or t.entries j e).decision_level t.level ≡ false
        below j e w s = sym (ap (λ o. has_level o t.level) (level_at t j e h w)) ∙ (ap (is_present t) s ∙ k.1.0)

-- nothing is left out yet
pub Leaves-none : (t : TrailState) (marks : List Bool) → Leaves t marks marks
Leaves-none t marks = record { fewer = λ v low h. h; present = λ v low h. refl }

-- one literal more is left out
pub Leaves-more : (t : TrailState) (marks now : List Bool) (literals : List Lit) (present i : ℕ) (d : Lit) → IsTrail t → Tracks t now literals present → i < length literals → Leaves t marks now → Leaves t marks (set now ((get_or literals i d).var - 1) false)
Leaves-more t marks now literals present i d h r l s = record {
  fewer = λ v low p. ⊎_elim (λ e. absurd (both_ways (marked (set now (x.var - 1) false) v) (ap (marked (set now (x.var - 1) false)) e ∙ gone) p)) (λ n. s.fewer v low (sym (marked-set_other now x.var v false k.0.above low n) ∙ p)) (cases_eq v x.var);
  present = λ v low p. marked-set_other now x.var v false k.0.above low (λ e. both_ways (is_present t v) (ap (is_present t) e ∙ k.1.0) p) ∙ s.present v low p;
}
  where
    x : Lit
    x = get_or literals i d

    k : IsVariable t.vars x.var × ((is_present t x.var ≡ false) × (IsFalseIn (values_of t.entries) x × (marked now x.var ≡ true)))
    k = kept_at t now literals present i d h r l

    gone : marked (set now (x.var - 1) false) x.var ≡ false
    gone = marked-set_same now x.var false record { above = k.0.above; within = omega (arith, k.0.within, r.size) }

-- the literal of the present level is still the only one
pub only_left : (t : TrailState) (marks after : List Bool) (l : Lit) → IsTrail t → IsOnlyPresent t marks l → Leaves t marks after → IsOnlyPresent t after l
only_left t marks after l h o s = record {
  is_marked = s.present l.var low (ap (λ k. has_level k t.level) o.level ∙ eq-eqb t.level t.level refl) ∙ o.is_marked;
  is_true = o.is_true;
  level = o.level;
  only = λ v p q. o.only v (s.fewer v (above v q) p) q;
}
  where
    above : (v : ℕ) → level_in t.entries v ≡ Some t.level → 1 ≤ v
    above v q = let m = mapped (λ (x : Entry). x.decision_level) (entry_of t.entries v) t.level q in
        let e = entry_at t v m.value m.is in
        subst (λ j. 1 ≤ j) (ap (λ (x : Entry). x.lit.var) (e.is no_entry) ∙ e.variable) (h.justified e.place no_entry e.within).variable.above

    low : 1 ≤ l.var
    low = above l.var o.level

-- one literal more is of the variable, or marked
pub covered_more : (marks : List Bool) (ls : List Lit) (i : ℕ) (d : Lit) (skip : ℕ) → i < length ls → ((m : Lit) → has (take i ls) m ≡ true → m.var ≢ skip → marked marks m.var ≡ true) → ((get_or ls i d).var ≢ skip → marked marks (get_or ls i d).var ≡ true) → (m : Lit) → has (take (i + 1) ls) m ≡ true → m.var ≢ skip → marked marks m.var ≡ true
covered_more marks ls i d skip l h x m p n =
    ⊎_elim
    (λ q. h m q n)
    (λ q. let e : get_or ls i d ≡ m = same_lit-true (get_or ls i d) m q in
    subst (λ (y : Lit). marked marks y.var ≡ true) e (x (λ s. n (sym (ap (λ (y : Lit). y.var) e) ∙ s))))
    (or_cases (has (take i ls) m) (same_lit (get_or ls i d) m) (sym (has-push (take i ls) (get_or ls i d) m) ∙ (ap (λ xs. has xs m) (sym (take_more ls i d l)) ∙ p)))
