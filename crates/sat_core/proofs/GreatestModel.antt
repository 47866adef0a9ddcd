-- A trail on which all clauses rest and all places of the order are passed gives the greatest model.
use Rattle.std.proofs.Common.{◌≡◌, ℕ, ◌+◌, ◌-◌, ◌<◌, ◌≤◌, Bool, true, false, not, cond, List, [], length, get_or, set, Option, Some, None, refl, sym, ap, ◌∙◌, subst, arith, inl, inr}
use Rattle.std.specs.Prelude.{is_some, unwrap_or}
use Rattle.std.proofs.lemmas.Bool.{false≢true, cases_lt}
use Rattle.std.proofs.lemmas.List.{get_or_default, get_or-set_same, get_or-set_other}
use Rattle.clause_base.specs.declared.literal.Lit.{Lit}
use Rattle.clause_base.specs.declared.log.Step.{Step}
use Rattle.clause_base.specs.Literal.{IsWithin}
use Rattle.clause_base.specs.Satisfaction.{value_of, is_satisfied, Satisfies}
use Rattle.clause_base.specs.Acceptance.{numbered, clauses_of}
use Rattle.clause_base.proofs.Soundness.{is_satisfied-Holds}
use Rattle.trail_core.specs.Values.{IsVariable, IsTrueIn, Rests, satisfied, open_at_two}
use Rattle.trail_core.specs.TrailState.{TrailState, IsNumber, AllRest, values_of}
use Rattle.trail_core.proofs.Looks.{variable_of}
use Rattle.sat_core.specs.declared.engine.Engine.{Engine}
use Rattle.sat_core.specs.SolverState.{assignment_of, MakesTrue, IsGreatestModel}
use Rattle.sat_core.specs.Choices.{choice_at, end_of, no_literal, PassedTo, AllValued}
use Rattle.sat_core.specs.Searching.{form_of, IsUnderWay, IsModelOf}
use Rattle.sat_core.proofs.OrderLemmas.{choice_assume}
use Rattle.sat_core.proofs.Greatest.{IsRival, false_in_rivals}
use Rattle.sat_core.proofs.SearchLemmas.{whole_clauses}

-- a variable's value, and what the model has of it
record HasValue (t : TrailState) (model : List Bool) (v : ℕ) : Type 0 where
  value : Bool
  is : values_of t.entries v ≡ Some value
  model_is : assignment_of model v ≡ value

sign_true : (n b : Bool) → b ≡ not n → cond n (not b) b ≡ true
sign_true true b e = ap not e
sign_true false b e = e

no_value : (o : Option Bool) (b : Bool) → o ≡ None → o ≡ Some b → ⊥
no_value o b p q = let e : None ≡ Some b = sym p ∙ q in cc

pub complete_model : (e : Engine) (model : List Bool) (log : List Step) (assume : List Lit) → IsUnderWay e log assume → IsWithin e.trail.vars assume → AllRest e.trail.clauses (values_of e.trail.entries) → PassedTo e.trail assume e.preferred.items (end_of assume e.preferred.items) → AllValued e.trail → IsModelOf e.trail model → IsGreatestModel (record { vars = e.trail.vars; form = form_of e; preferred = e.preferred.items; log = log; model = model; told = None }) assume
complete_model e model log assume u within rest passed valued m = record {
  satisfies = subst (Satisfies (assignment_of model)) (whole_clauses e log assume u) (λ i d k. clause_at i d k);
  assumed = λ i d k. assumed_at i d k;
  greatest = λ other sat holds i k same y. greatest_at other sat holds i k same y;
}
  where
    preferred : List ℕ
    preferred = e.preferred.items

    value_at : (v : ℕ) → IsVariable e.trail.vars v → HasValue e.trail model v
    value_at v i = at (values_of e.trail.entries v) refl (valued v i)
      where
        at : (o : Option Bool) → values_of e.trail.entries v ≡ o → is_some o ≡ true → HasValue e.trail model v
        at None q s = absurd (false≢true s)
        at (Some b) q s = record { value = b; is = q; model_is = m.values v b i q }

    literal_true : (l : Lit) → IsVariable e.trail.vars l.var → IsTrueIn (values_of e.trail.entries) l → value_of (assignment_of model) l ≡ true
    literal_true l i t = sign_true l.negated (assignment_of model l.var) (m.values l.var (not l.negated) i t)

    clause_satisfied : (c : List Lit) → IsWithin e.trail.vars c → Rests (values_of e.trail.entries) c → is_satisfied (assignment_of model) c ≡ true
    clause_satisfied c w (satisfied l p t) = is_satisfied-Holds (assignment_of model) c l p (literal_true l (variable_of e.trail.vars c l w p) t)
    clause_satisfied c w (open_at_two l k p q o x y) = let v = value_at l.var (variable_of e.trail.vars c l w p) in absurd (no_value (values_of e.trail.entries l.var) v.value x v.is)

    clause_at : (i : ℕ) (d : List Lit) → i < length e.trail.clauses → is_satisfied (assignment_of model) (get_or e.trail.clauses i d) ≡ true
    clause_at i d k =
        let n : IsNumber e.trail.clauses (i + 1) = record { above = omega arith; within = omega (arith, k) } in
        let back : i + 1 - 1 ≡ i = omega arith in
        let one : is_satisfied (assignment_of model) (get_or e.trail.clauses (i + 1 - 1) []) ≡ true = clause_satisfied (numbered e.trail.clauses (i + 1)) (u.ready.fit.trail.within (i + 1) n) (rest (i + 1) n) in
        subst (λ c. is_satisfied (assignment_of model) c ≡ true) (ap (λ j. get_or e.trail.clauses j []) back ∙ get_or_default e.trail.clauses i [] d k) one

    assumed_at : (i : ℕ) (d : Lit) → i < length assume → value_of (assignment_of model) (get_or assume i d) ≡ true
    assumed_at i d k =
        let p = passed i (omega (arith, k)) in
        let literal : choice_at assume preferred i ≡ get_or assume i d = choice_assume assume preferred i k ∙ get_or_default assume i no_literal d k in
        let w = within i d k in
        literal_true (get_or assume i d) record { above = w.0; within = w.1 } (subst (IsTrueIn (values_of e.trail.entries)) literal (p.assumed k))

    preferred_at : (i : ℕ) → i < length preferred → IsVariable e.trail.vars (get_or preferred i 0)
    preferred_at i k = let w = u.ready.preferred i 0 k in record { above = w.0; within = w.1 }

    greatest_at : (other : ℕ → Bool) → Satisfies other (clauses_of (form_of e) log) → MakesTrue other assume → (i : ℕ) → i < length preferred → ((j : ℕ) → j < i → assignment_of model (get_or preferred j 0) ≡ other (get_or preferred j 0)) → other (get_or preferred i 0) ≡ true → assignment_of model (get_or preferred i 0) ≡ true
    greatest_at other sat holds i k same y = at v.value refl
      where
        v : HasValue e.trail model (get_or preferred i 0)
        v = value_at (get_or preferred i 0) (preferred_at i k)

        all : Satisfies other e.trail.clauses
        all = subst (Satisfies other) (sym (whole_clauses e log assume u)) sat

        rival : IsRival e.trail assume preferred other i
        rival = record {
          clauses = λ n h. all (n - 1) [] (omega (arith, h.above, h.within));
          assumed = λ j d l. holds j d l;
          same = λ j l. let w = value_at (get_or preferred j 0) (preferred_at j (omega (arith, l, k))) in w.is ∙ ap Some (sym w.model_is ∙ same j l);
        }

        at : (b : Bool) → v.value ≡ b → assignment_of model (get_or preferred i 0) ≡ true
        at true q = v.model_is ∙ q
        at false q = absurd (false_in_rivals e.trail assume preferred e.chosen.items other i u.ready.fit.trail u.chosen rival k (v.is ∙ ap Some q) y)

-- one value more is kept
pub kept_more : (t : TrailState) (model after : List Bool) (place : ℕ) (r : Option Bool) (x : Bool) → place < length model → ((v : ℕ) (b : Bool) → 1 ≤ v → v ≤ place → values_of t.entries v ≡ Some b → assignment_of model v ≡ b) → r ≡ values_of t.entries (place + 1) → x ≡ unwrap_or r false → after ≡ set model place x → (v : ℕ) (b : Bool) → 1 ≤ v → v ≤ place + 1 → values_of t.entries v ≡ Some b → assignment_of after v ≡ b
kept_more t model after place r x k h p q e v b low high s =
    elim (cases_lt place v) [
      | inl w ↦ here (omega (arith, w, high))
      | inr w ↦ ap (λ ms. get_or ms (v - 1) false) e ∙ (get_or-set_other model place (v - 1) x false (λ z. absurd (omega (arith, z, w, low))) ∙ h v b low w s)
    ]
  where
    here : v ≡ place + 1 → assignment_of after v ≡ b
    here w =
        let i : v - 1 ≡ place = omega (arith, w) in
        let value : x ≡ b = q ∙ ap (λ o. unwrap_or o false) (p ∙ (ap (values_of t.entries) (sym w) ∙ s)) in
        ap (λ ms. get_or ms (v - 1) false) e ∙ (ap (λ j. get_or (set model place x) j false) i ∙ (get_or-set_same model place x false k ∙ value))
