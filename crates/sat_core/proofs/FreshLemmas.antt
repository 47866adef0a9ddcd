-- A learned clause tells unit propagation something new, and may be added where it is unit.
use Rattle.std.proofs.Common.{◌≡◌, ℕ, ◌+◌, ◌-◌, ◌<◌, ◌≤◌, Bool, true, false, not, ◌&&◌, List, [], length, get_or, Some, None, sym, ap, ◌∙◌, subst, arith, inl, inr, ⊎_elim}
use Rattle.std.specs.Option.{option_map}
use Rattle.std.proofs.lemmas.List.{get_or_default}
use Rattle.std.proofs.lemmas.Bool.{both_ways, cases_eq, cases_lt, eq-eqb, ne_eqb, or_cases, or_right, false_from_ne_true}
use Rattle.clause_base.specs.declared.literal.Lit.{Lit}
use Rattle.clause_base.specs.Literal.{opposite, same_lit, same_sign, has}
use Rattle.clause_base.specs.Progress.{IsConsistent, IsAtRest, IsFresh}
use Rattle.clause_base.proofs.Sets.{same_lit-true, same_lit_itself, has-push, opposite-opposite}
use Rattle.trail_core.specs.declared.entry.Entry.{Entry}
use Rattle.trail_core.specs.Values.{Values, IsFalseIn, Rests, satisfied, open_at_two}
use Rattle.trail_core.specs.TrailState.{TrailState, IsTrail, entry_of, values_of, level_in, up_to, decisions}
use Rattle.trail_core.proofs.Truth.{mapped}
use Rattle.trail_core.proofs.Levels.{level_le_all}
use Rattle.trail_core.proofs.Changes.{unassigned_below}
use Rattle.sat_core.specs.Derivation.{has_sign, is_false, has_level, is_present, Learns}
use Rattle.sat_core.proofs.Sets.{is_false-true, is_false_from, not_both}
use Rattle.sat_core.proofs.Tracking.{entry_at}
use Rattle.sat_core.proofs.Learning.{value_below}

-- the true literals, as a set
abbrev pub true_set : Values → Lit → Bool
true_set values l = is_false values (opposite l)

true_set-false : (values : Values) (l : Lit) → values l.var ≡ None → true_set values l ≡ false
true_set-false values l h = ap (λ o. has_sign o (not l.negated)) h

set_opposite : (values : Values) (l : Lit) → IsFalseIn values l → true_set values (opposite l) ≡ true
set_opposite values l h = ap (is_false values) (opposite-opposite l) ∙ is_false_from values l h

-- a clause that rests is at rest by the set of true literals
at_rest : (values : Values) (clause : List Lit) → Rests values clause → IsAtRest (true_set values) clause
at_rest values clause (satisfied l h s) = inl (l, h, is_false_from values (opposite l) s)
at_rest values clause (open_at_two l m h k n u v) =
    inr (l, m, ap (λ b. b && same_sign l.negated m.negated) (ne_eqb l.var m.var n), h, k, true_set-false values (opposite l) u, true_set-false values (opposite m) v)

consistent : (values : Values) → IsConsistent (true_set values)
consistent values l h = false_from_ne_true (true_set values (opposite l)) (λ k. not_both values (opposite l) (is_false-true values (opposite l) h) (is_false-true values (opposite (opposite l)) k))

-- the level of a false literal that isn't present is below the present one
pub lower_level : (t : TrailState) (l : Lit) → IsTrail t → IsFalseIn (values_of t.entries) l → is_present t l.var ≡ false → (j : ℕ) × (level_in t.entries l.var ≡ Some j) × (j < t.level)
lower_level t l h f p =
    let m = mapped (λ (x : Entry). not x.lit.negated) (entry_of t.entries l.var) l.negated f in
    let a = entry_at t l.var m.value m.is in
    let s : level_in t.entries l.var ≡ Some m.value.decision_level = ap (option_map (λ (x : Entry). x.decision_level)) m.is in
    let top : m.value.decision_level ≤ t.level = omega (arith, h.level, subst (λ (x : Entry). x.decision_level ≤ decisions t.entries) (a.is m.value) (level_le_all t.entries h.leveled a.place m.value a.within)) in (
      m.value.decision_level,
      s,
      elim (cases_eq m.value.decision_level t.level) [
        | inl e ↦ absurd (both_ways (is_present t l.var) p (ap (λ o. has_level o t.level) s ∙ eq-eqb m.value.decision_level t.level e))
        | inr n ↦ strictly m.value.decision_level t.level top n
      ],
    )
  where
    strictly : (i k : ℕ) → i ≤ k → (i ≡ k → ⊥) → i < k
    strictly i k b n = elim (cases_lt i k) [ inl c ↦ c | inr c ↦ absurd (n (omega arith)) ]

-- the learned clause is fresh
pub Learns-fresh : (t : TrailState) (marks : List Bool) (literals : List Lit) (chain : List ℕ) → IsTrail t → 1 ≤ t.level → Learns t marks literals chain → IsFresh t.clauses literals
Learns-fresh t marks literals chain h p r = (
  r.tells,
  true_set below,
  record {
    in_clause = ap (λ ls. has ls r.tells) r.split ∙ (has-push r.lower r.tells r.tells ∙ or_right (has r.lower r.tells) (same_lit r.tells r.tells) (same_lit_itself r.tells));
    consistent = consistent below;
    others_false = λ l q n. set_opposite below l (other_below l (in_lower l q n));
    not_true = true_set-false below r.tells open_tells;
    not_false = true_set-false below (opposite r.tells) open_tells;
    at_rest = λ i d k. subst (IsAtRest (true_set below)) (get_or_default t.clauses i [] d k) (at_rest below (get_or t.clauses i []) (rest_at i k));
  },
)
  where
    below : Values
    below = values_of (up_to (t.level - 1) t.entries)

    open_tells : below r.tells.var ≡ None
    open_tells = unassigned_below t r.tells.var (t.level - 1) t.level h r.level (omega (arith, p))

    in_lower : (l : Lit) → has literals l ≡ true → same_lit l r.tells ≡ false → has r.lower l ≡ true
    in_lower l q n = ⊎_elim (λ y. y) (λ y. absurd (both_ways (same_lit l r.tells) n (subst (λ m. same_lit l m ≡ true) (sym (same_lit-true r.tells l y)) (same_lit_itself l))))
        (or_cases (has r.lower l) (same_lit r.tells l) (sym (has-push r.lower r.tells l) ∙ (ap (λ ls. has ls l) (sym r.split) ∙ q)))

    other_below : (l : Lit) → has r.lower l ≡ true → IsFalseIn below l
    other_below l q = let o = r.others l q in let s = lower_level t l h o.0 o.1 in value_below t l.var s.0 (t.level - 1) s.1 (omega (arith, s.2)) ∙ o.0

    rest_at : (i : ℕ) → i < length t.clauses → Rests below (get_or t.clauses i [])
    rest_at i k =
        let n : i + 1 - 1 ≡ i = omega arith in
        subst (λ j. Rests below (get_or t.clauses j [])) n (h.rests (t.level - 1) (omega (arith, p)) (i + 1) record { above = omega arith; within = omega (arith, k) })
