-- Resolving with the reasons of all marked literals, from the last place down.
use Rattle.std.proofs.Common.{◌≡◌, ℕ, ◌+◌, ◌-◌, ◌<◌, ◌≤◌, Bool, true, false, not, ◌&&◌, ◌||◌, eqb, List, [], ◌∷◌, ◌++◌, map, length, get_or, set, Option, Some, None, refl, sym, ap, ◌∙◌, subst, arith, inl, inr, ⊎_elim}
use Rattle.std.specs.Prelude.{is_none}
use Rattle.std.proofs.lemmas.Bool.{both_ways, cases_lt, eq-eqb, and_parts, or_cases, false_from_ne_true}
use Rattle.std.proofs.lemmas.List.{get_or_default, map_push, append_assoc, append-nil}
use Rattle.std.proofs.lemmas.List.Elements.{All-push, All-nil}
use Rattle.clause_base.specs.declared.literal.Lit.{Lit}
use Rattle.clause_base.specs.Literal.{has_variable}
use Rattle.clause_base.specs.Acceptance.{numbered}
use Rattle.clause_base.specs.Resolution.{Gives}
use Rattle.trail_core.specs.declared.entry.Entry.{Entry}
use Rattle.trail_core.specs.Values.{IsVariable}
use Rattle.trail_core.specs.TrailState.{TrailState, IsTrail, values_of, reason_in, is_decision}
use Rattle.sat_core.specs.Derivation.{marked, set_of, MarksOthers, Replaces, RefutesAt, kept, replaced, Refutes, IsUnmarkedFrom}
use Rattle.sat_core.proofs.Sets.{Gives-push, resolve_set, resolve_clash}
use Rattle.sat_core.proofs.Resolving.{no_entry, reason_at, forced_at, reason_before, Replaces-from, ReplacesAt-from}

pub Refutes-start : (t : TrailState) (marks : List Bool) (chain : List ℕ) → Refutes t marks marks chain chain (length t.entries)
Refutes-start t marks chain = record {
  size = refl;
  added = [];
  is = sym (append-nil chain);
  numbers = All-nil (λ n. (1 ≤ n) × (n ≤ length t.clauses));
  gives = λ l. refl;
  above = λ i d low k. absurd (omega (arith, low, k));
  without = λ i d l u. All-nil (λ n. has_variable (numbered t.clauses n) (get_or t.entries i d).lit.var ≡ false);
  unmarked = λ i l u. u;
}

-- one step down
pub Refutes-step : (t : TrailState) (old marks after : List Bool) (before chain next : List ℕ) (place : ℕ) → IsTrail t → length old ≡ t.vars → place < length t.entries → Refutes t old marks before chain (place + 1) → RefutesAt t marks after chain next place → Refutes t old after before next place
Refutes-step t old marks after before chain next place h size l r (kept p q s) =
    subst (λ m. Refutes t old m before next place) (sym p) (subst (λ ns. Refutes t old marks before ns place) (sym q) record {
      size = r.size;
      added = r.added;
      is = r.is;
      numbers = r.numbers;
      gives = r.gives;
      above = λ i d low k y. elim (cases_lt place i) [
        | inl b ↦ r.above i d (omega (arith, b)) k y
        | inr b ↦ let e : place ≡ i = omega arith in subst (λ j. marked marks (get_or t.entries j d).lit.var ≡ true → is_decision (get_or t.entries j d) ≡ true) e (s d) y
      ];
      without = r.without;
      unmarked = r.unmarked;
    })
Refutes-step t old marks after before chain next place h size l r (replaced n q m p e) =
    let f = forced_at t place no_entry n h l (q no_entry) in
    let here : length marks ≡ t.vars = r.size ∙ size in
    subst (λ ns. Refutes t old after before ns place) (sym e) record {
      size = (p no_entry).size ∙ r.size;
      added = r.added ++ n ∷ [];
      is = ap (λ ns. ns ++ n ∷ []) r.is ∙ append_assoc before r.added (n ∷ []);
      numbers = All-push (λ j. (1 ≤ j) × (j ≤ length t.clauses)) r.added n r.numbers (f.0.above, f.0.within);
      gives = subst (λ cs. Gives (set_of old (values_of t.entries)) cs (set_of after (values_of t.entries))) (sym (map_push (numbered t.clauses) r.added n))
          (Gives-push (set_of old (values_of t.entries)) (map (numbered t.clauses) r.added) (set_of marks (values_of t.entries)) (set_of after (values_of t.entries)) (numbered t.clauses n) (get_or t.entries place no_entry).lit.var r.gives
          (resolve_clash marks (values_of t.entries) (numbered t.clauses n) (get_or t.entries place no_entry).lit f.1 (m no_entry))
          (resolve_set marks after (values_of t.entries) (numbered t.clauses n) (get_or t.entries place no_entry).lit f.1 (ReplacesAt-from t marks after (numbered t.clauses n) (get_or t.entries place no_entry).lit.var h here (p no_entry))));
      above = λ i d low k y. elim (cases_lt place i) [
        | inl b ↦ r.above i d (omega (arith, b)) k (still i d b k here y)
        | inr b ↦ let w : i ≡ place = omega arith in absurd (both_ways (marked after (get_or t.entries i d).lit.var) (subst (λ j. marked after (get_or t.entries j d).lit.var ≡ false) (sym w) (gone d here)) y)
      ];
      without = λ i d k u. All-push (λ j. has_variable (numbered t.clauses j) (get_or t.entries i d).lit.var ≡ false) r.added n (r.without i d k u) (reason_before t place i d n h l (q d) (below i k u) k);
      unmarked = λ i k u j d low w. false_from_ne_true (marked after (get_or t.entries j d).lit.var) (λ y. both_ways (marked marks (get_or t.entries j d).lit.var) (r.unmarked i k u j d low w) (still j d (omega (arith, low, below i k u)) w here y));
    }
  where
    below : (i : ℕ) → i < length t.entries → IsUnmarkedFrom t old i → place < i
    below i k u = elim (cases_lt place i) [
      | inl b ↦ b
      | inr b ↦ absurd (both_ways (marked marks (get_or t.entries place no_entry).lit.var) (r.unmarked i k u place no_entry b l) (m no_entry))
    ]

    gone : (d : Entry) → length marks ≡ t.vars → marked after (get_or t.entries place d).lit.var ≡ false
    gone d here =
        let v = (h.justified place d l).variable in
        (p d).each (get_or t.entries place d).lit.var v.above (omega (arith, v.within, here))
        ∙ ap (λ b. not b && (marked marks (get_or t.entries place d).lit.var || has_variable (numbered t.clauses n) (get_or t.entries place d).lit.var)) (eq-eqb (get_or t.entries place d).lit.var (get_or t.entries place d).lit.var refl)

    still : (i : ℕ) (d : Entry) → place < i → i < length t.entries → length marks ≡ t.vars → marked after (get_or t.entries i d).lit.var ≡ true → marked marks (get_or t.entries i d).lit.var ≡ true
    still i d b k here y =
        let v = (h.justified i d k).variable in
        let none = reason_before t place i d n h l (q d) b k in
        let both = sym ((p d).each (get_or t.entries i d).lit.var v.above (omega (arith, v.within, here))) ∙ y in
        let parts = and_parts (not (eqb (get_or t.entries i d).lit.var (get_or t.entries place d).lit.var)) (marked marks (get_or t.entries i d).lit.var || has_variable (numbered t.clauses n) (get_or t.entries i d).lit.var) both in
        ⊎_elim (λ z. z) (λ z. absurd (both_ways (has_variable (numbered t.clauses n) (get_or t.entries i d).lit.var) none z)) (or_cases (marked marks (get_or t.entries i d).lit.var) (has_variable (numbered t.clauses n) (get_or t.entries i d).lit.var) parts.1)

-- an entry that isn't marked, or has no reason, stays
pub RefutesAt-unmarked : (t : TrailState) (marks : List Bool) (chain : List ℕ) (place : ℕ) (l : Lit) → place < length t.entries → (get_or t.entries place no_entry).lit ≡ l → marked marks l.var ≡ false → RefutesAt t marks marks chain chain place
RefutesAt-unmarked t marks chain place l k e u = kept refl refl (λ d y. absurd (both_ways (marked marks l.var) u (ap (λ (x : Lit). marked marks x.var) (sym (ap (λ (x : Entry). x.lit) (get_or_default t.entries place d no_entry k) ∙ e)) ∙ y)))

pub RefutesAt-decided : (t : TrailState) (marks : List Bool) (chain : List ℕ) (place : ℕ) (l : Lit) (r : Option ℕ) → IsTrail t → place < length t.entries → (get_or t.entries place no_entry).lit ≡ l → r ≡ reason_in t.entries l.var → r ≡ None → RefutesAt t marks marks chain chain place
RefutesAt-decided t marks chain place l r h k e p q = kept refl refl (λ d y. ap (λ (x : Entry). is_none x.reason) (get_or_default t.entries place d no_entry k) ∙ ap is_none (sym (reason_at t place l r h k e p) ∙ q))

pub RefutesAt-replaced : (t : TrailState) (marks after : List Bool) (chain next : List ℕ) (place n : ℕ) (l : Lit) (r : Option ℕ) → IsTrail t → length marks ≡ t.vars → place < length t.entries → (get_or t.entries place no_entry).lit ≡ l → r ≡ reason_in t.entries l.var → r ≡ Some n → marked marks l.var ≡ true → MarksOthers (set marks (l.var - 1) false) after (numbered t.clauses n) l.var → next ≡ chain ++ n ∷ [] → RefutesAt t marks after chain next place
RefutesAt-replaced t marks after chain next place n l r h size k e p q m o c =
    replaced n
    (λ d. ap (λ (x : Entry). x.reason) (get_or_default t.entries place d no_entry k) ∙ (sym (reason_at t place l r h k e p) ∙ q))
    (λ d. ap (λ (x : Lit). marked marks x.var) (lit_is d) ∙ m)
    (λ d. subst (λ (x : Lit). Replaces marks after (numbered t.clauses n) x.var) (sym (lit_is d)) (Replaces-from marks after (numbered t.clauses n) l.var inside o))
    c
  where
    lit_is : (d : Entry) → (get_or t.entries place d).lit ≡ l
    lit_is d = ap (λ (x : Entry). x.lit) (get_or_default t.entries place d no_entry k) ∙ e

    inside : IsVariable (length marks) l.var
    inside = subst (λ v. IsVariable v l.var) (sym size) (subst (λ (x : Lit). IsVariable t.vars x.var) e (h.justified place no_entry k).variable)
