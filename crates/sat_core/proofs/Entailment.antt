-- An assignment that satisfies the clauses and agrees with the decisions agrees with all that propagation made true.
use Rattle.std.proofs.Common.{◌≡◌, ℕ, zero, suc, ◌<◌, ◌≤◌, Bool, true, false, not, cond, eqb, List, [], ◌∷◌, length, get_or, take, Option, Some, None, refl, sym, ap, ◌∙◌, subst, arith, ◌⊎◌, inl, inr, ⊎_elim}
use Rattle.std.specs.Prelude.{is_none}
use Rattle.std.proofs.lemmas.Bool.{false≢true, both_ways, cases_eq, cases_lt, eqb-true, or_cases, or_left, or_right}
use Rattle.std.proofs.lemmas.List.{get_or-take, length-take-le}
use Rattle.clause_base.specs.declared.literal.Lit.{Lit}
use Rattle.clause_base.specs.Literal.{opposite, same_lit, has, has_distinct_variables}
use Rattle.clause_base.specs.Satisfaction.{value_of, is_satisfied}
use Rattle.clause_base.specs.Acceptance.{numbered}
use Rattle.clause_base.proofs.Sets.{lit_ext, same_lit_itself, has-IsConsistent}
use Rattle.trail_core.specs.declared.entry.Entry.{Entry}
use Rattle.trail_core.specs.Values.{IsFalseIn}
use Rattle.trail_core.specs.TrailState.{TrailState, IsTrail, IsNumber, entry_of, values_of, is_decision}
use Rattle.trail_core.proofs.Lists.{find_found}
use Rattle.trail_core.proofs.Truth.{mapped}
use Rattle.sat_core.proofs.Resolving.{no_entry}

-- a satisfied clause has a true literal
pub record HasTrue (assignment : ℕ → Bool) (clause : List Lit) : Type 0 where
  pub literal : Lit
  pub member : has clause literal ≡ true
  pub holds : value_of assignment literal ≡ true

pub has_true : (assignment : ℕ → Bool) (clause : List Lit) → is_satisfied assignment clause ≡ true → HasTrue assignment clause
has_true assignment [] h = absurd (false≢true h)
has_true assignment (x ∷ xs) h =
    ⊎_elim (λ y. record { literal = x; member = or_left (same_lit x x) (has xs x) (same_lit_itself x); holds = y })
    (λ y. let r = has_true assignment xs y in record { literal = r.literal; member = or_right (same_lit x r.literal) (has xs r.literal) r.member; holds = r.holds })
    (or_cases (value_of assignment x) (is_satisfied assignment xs) h)

signs_differ : (s b : Bool) → cond s (not b) b ≡ true → cond (not s) (not b) b ≡ true → ⊥
signs_differ true true p q = false≢true p
signs_differ true false p q = false≢true q
signs_differ false true p q = false≢true q
signs_differ false false p q = false≢true p

-- the assignment makes the literal of each entry before the place true
abbrev pub Agrees : (ℕ → Bool) → List Entry → ℕ → Type 0
Agrees assignment es place = (i : ℕ) (d : Entry) → i < place → i < length es → value_of assignment (get_or es i d).lit ≡ true

-- a literal that is false by the entries is false in an assignment that agrees with them
false_agrees : (assignment : ℕ → Bool) (es : List Entry) (l : Lit) → Agrees assignment es (length es) → IsFalseIn (values_of es) l → value_of assignment l ≡ true → ⊥
false_agrees assignment es l a f y =
    let m = mapped (λ (x : Entry). not x.lit.negated) (entry_of es l.var) l.negated f in
    let r = find_found (λ (x : Entry). eqb x.lit.var l.var) es m.value m.is in
    let t : value_of assignment m.value.lit ≡ true = subst (λ (x : Entry). value_of assignment x.lit ≡ true) (r.is no_entry) (a r.place no_entry r.within r.within) in
    let v : m.value.lit.var ≡ l.var = eqb-true m.value.lit.var l.var r.passes in
    let s : cond (not m.value.lit.negated) (not (assignment l.var)) (assignment l.var) ≡ true = ap (λ b. cond b (not (assignment l.var)) (assignment l.var)) m.gives ∙ y in
    signs_differ m.value.lit.negated (assignment l.var) (ap (λ w. cond m.value.lit.negated (not (assignment w)) (assignment w)) (sym v) ∙ t) s

-- two literals of one variable in a clause of distinct variables are one
pub one_literal : (clause : List Lit) (l m : Lit) → has_distinct_variables clause ≡ true → has clause l ≡ true → has clause m ≡ true → l.var ≡ m.var → l ≡ m
one_literal clause l m h p q e = ⊎_elim
    (λ s. lit_ext l m e s)
    (λ s. absurd (both_ways (has clause (opposite l)) (has-IsConsistent clause h l p) (subst (λ x. has clause x ≡ true) (lit_ext m (opposite l) (sym e) s) q)))
    (signs l.negated m.negated)
  where
    signs : (a b : Bool) → (a ≡ b) ⊎ (b ≡ not a)
    signs true true = inl refl
    signs true false = inr refl
    signs false true = inr refl
    signs false false = inl refl

-- one entry more
agrees_step : (t : TrailState) (assignment : ℕ → Bool) (place : ℕ) → IsTrail t → ((n : ℕ) → IsNumber t.clauses n → is_satisfied assignment (numbered t.clauses n) ≡ true) → place < length t.entries → ((d : Entry) → is_decision (get_or t.entries place d) ≡ true → value_of assignment (get_or t.entries place d).lit ≡ true) → Agrees assignment t.entries place → (d : Entry) → value_of assignment (get_or t.entries place d).lit ≡ true
agrees_step t assignment place h s l decided a d = at (get_or t.entries place d).reason refl
  where
    size : length (take place t.entries) ≡ place
    size = length-take-le place t.entries (omega (arith, l))

    front : Agrees assignment (take place t.entries) (length (take place t.entries))
    front i e k m = subst (λ (x : Entry). value_of assignment x.lit ≡ true) (sym (get_or-take place t.entries i e (omega (arith, m, size)))) (a i e (omega (arith, m, size)) (omega (arith, m, size, l)))

    at : (r : Option ℕ) → (get_or t.entries place d).reason ≡ r → value_of assignment (get_or t.entries place d).lit ≡ true
    at None q = decided d (ap is_none q)
    at (Some n) q =
        let r = (h.justified place d l).forced n q in
        let w = has_true assignment (numbered t.clauses n) (s n r.number) in
        ⊎_elim
        (λ e. let same = one_literal (numbered t.clauses n) w.literal (get_or t.entries place d).lit (h.distinct n r.number) w.member r.unit.member e in subst (λ (x : Lit). value_of assignment x ≡ true) same w.holds)
        (λ o. absurd (false_agrees assignment (take place t.entries) w.literal front (r.unit.others w.literal w.member o) w.holds))
        (cases_eq w.literal.var (get_or t.entries place d).lit.var)

-- all entries of a front whose decisions it makes true
pub agrees_to : (t : TrailState) (assignment : ℕ → Bool) (place : ℕ) → IsTrail t → ((n : ℕ) → IsNumber t.clauses n → is_satisfied assignment (numbered t.clauses n) ≡ true) → place ≤ length t.entries → ((i : ℕ) (d : Entry) → i < place → is_decision (get_or t.entries i d) ≡ true → value_of assignment (get_or t.entries i d).lit ≡ true) → Agrees assignment t.entries place
agrees_to t assignment zero h s l decided = λ i d k m. absurd (omega arith)
agrees_to t assignment (suc place) h s l decided =
    let before = agrees_to t assignment place h s (omega (arith, l)) (λ i d k y. decided i d (omega (arith, k)) y) in
    λ i d k m. elim (cases_lt i place) [
      | inl b ↦ before i d b m
      | inr b ↦ let e : place ≡ i = omega arith in
          subst (λ j. value_of assignment (get_or t.entries j d).lit ≡ true) e (agrees_step t assignment place h s (omega (arith, l)) (λ x y. decided place x (omega arith) y) before d)
    ]
