-- The table of the variables that a line has.
use Rattle.std.proofs.Common.{◌≡◌, ℕ, zero, suc, ◌+◌, ◌-◌, Some, ◌<◌, ◌≤◌, Bool, true, false, not, ◌&&◌, ◌||◌, eqb, List, [], ◌∷◌, ◌++◌, length, get_or, set, drop, refl, ap, sym, ◌∙◌, subst, ⊎_elim, arith}
use Rattle.std.proofs.lemmas.Bool.{false≢true, eqb-true, eqb-false, cases_Bool, false_from_ne_true, and_parts, and_from, or_cases, or_parts, or_from, or_right, ne_eqb, not-true, not_from_false}
use Rattle.std.proofs.lemmas.List.{get_or-set_same, get_or-set_other, get_or_past, drop_more, drop_all}
use Rattle.clause_base.specs.declared.literal.Lit.{Lit}
use Rattle.std.specs.Prelude.{slice_get}
use Rattle.loc_base.proofs.ShelfBools.{and-false, and-true, or-false}
use Rattle.clause_base.specs.Literal.{has_variable, has_distinct_variables}
use Rattle.clause_base.proofs.Sets.{has_variable-push}
use Rattle.proof_check.specs.LineWords.{last_variable}

pub unset_within : (seen : List Bool) (var : ℕ) → var < length seen → (v : ℕ) → get_or (set seen var false) v false ≡ (get_or seen v false && not (eqb v var))
unset_within seen var within v = ⊎_elim
    (λ here. let e : v ≡ var = eqb-true v var here in
    ap (λ w. get_or (set seen var false) w false) e ∙ get_or-set_same seen var false false within ∙ sym (ap (λ b. get_or seen v false && not b) here ∙ and-false (get_or seen v false)))
    (λ other. get_or-set_other seen var v false false (eqb-false v var other) ∙ sym (ap (λ b. get_or seen v false && not b) other ∙ and-true (get_or seen v false)))
    (cases_Bool (eqb v var))

pub unset_past : (seen : List Bool) (var : ℕ) → length seen ≤ var → (v : ℕ) → get_or seen v false ≡ (get_or seen v false && not (eqb v var))
unset_past seen var past v = ⊎_elim
    (λ here. let e : v ≡ var = eqb-true v var here in
    get_or_past seen v false (omega arith) ∙ sym (ap (λ b. get_or seen v false && not b) here ∙ and-false (get_or seen v false)))
    (λ other. sym (ap (λ b. get_or seen v false && not b) other ∙ and-true (get_or seen v false)))
    (cases_Bool (eqb v var))

pub forget_more : (seen next : List Bool) (literals : List Lit) (i : ℕ) (d : Lit) → i < length literals → ((v : ℕ) → get_or seen v false ≡ true → has_variable (drop i literals) v ≡ true)
    → ((v : ℕ) → get_or next v false ≡ (get_or seen v false && not (eqb v (get_or literals i d).var)))
    → (v : ℕ) → get_or next v false ≡ true → has_variable (drop (i + 1) literals) v ≡ true
forget_more seen next literals i d within before is v h =
    let x = get_or literals i d in
    let parts = and_parts (get_or seen v false) (not (eqb v x.var)) (sym (is v) ∙ h) in
    let there : has_variable (x ∷ drop (i + 1) literals) v ≡ true = subst (λ (ls : List Lit). has_variable ls v ≡ true) (drop_more literals i d within) (before v parts.0) in
    ⊎_elim
    (λ here. absurd (eqb-false v x.var (not-true (eqb v x.var) parts.1) (sym (eqb-true x.var v here))))
    (λ later. later)
    (or_cases (eqb x.var v) (has_variable (drop (i + 1) literals) v) there)

pub forget_all : (seen : List Bool) (literals : List Lit) (i : ℕ) → length literals ≤ i → ((v : ℕ) → get_or seen v false ≡ true → has_variable (drop i literals) v ≡ true) → (v : ℕ) → get_or seen v false ≡ false
forget_all seen literals i past before v = false_from_ne_true (get_or seen v false) (λ is.
    false≢true (ap (λ (ls : List Lit). has_variable ls v) (sym (drop_all i literals past)) ∙ before v is))

pub ruleset unseen = (unset_within, unset_past)

pub ruleset forgetting = (forget_more, forget_all)

-- one more variable
pub see_more : (seen made : List Bool) (literals : List Lit) (x : Lit) → ((v : ℕ) → get_or made v false ≡ get_or seen v false) → ((v : ℕ) → get_or seen v false ≡ has_variable literals v) → x.var < length made
    → (v : ℕ) → get_or (set made x.var true) v false ≡ has_variable (literals ++ x ∷ []) v
see_more seen made literals x same is within v = ⊎_elim
    (λ here. let e : v ≡ x.var = sym (eqb-true x.var v here) in
    ap (λ w. get_or (set made x.var true) w false) e ∙ get_or-set_same made x.var true false within
    ∙ sym (has_variable-push literals x v ∙ or_right (has_variable literals v) (eqb x.var v) here))
    (λ other. get_or-set_other made x.var v true false (λ e. eqb-false x.var v other (sym e)) ∙ same v ∙ is v
    ∙ sym (has_variable-push literals x v ∙ ap (λ b. has_variable literals v || b) other ∙ or-false (has_variable literals v)))
    (cases_Bool (eqb x.var v))

-- a literal of a new variable leaves the variables distinct
pub distinct_more : (literals : List Lit) (x : Lit) → has_distinct_variables literals ≡ true → has_variable literals x.var ≡ false → has_distinct_variables (literals ++ x ∷ []) ≡ true
distinct_more [] x distinct new = refl
distinct_more (l ∷ literals) x distinct new =
    let parts = and_parts (not (has_variable literals l.var)) (has_distinct_variables literals) distinct in
    let apart = or_parts (eqb l.var x.var) (has_variable literals x.var) new in
    let other : eqb x.var l.var ≡ false = ne_eqb x.var l.var (λ e. eqb-false l.var x.var apart.0 (sym e)) in
    let none : has_variable (literals ++ x ∷ []) l.var ≡ false = has_variable-push literals x l.var ∙ or_from (has_variable literals l.var) (eqb x.var l.var) (not-true (has_variable literals l.var) parts.0) other in
    and_from (not (has_variable (literals ++ x ∷ []) l.var)) (has_distinct_variables (literals ++ x ∷ [])) (not_from_false (has_variable (literals ++ x ∷ []) l.var) none) (distinct_more literals x parts.1 apart.1)

slice_get_suc : (l : Lit) (more : List Lit) (n : ℕ) → 0 < n → slice_get (l ∷ more) n ≡ slice_get more (n - 1)
slice_get_suc l more zero positive = absurd (omega arith)
slice_get_suc l more (suc n) positive = ap (slice_get more) (omega arith)

-- the last literal's variable
pub last_variable-last : (literals : List Lit) (x : Lit) → Some x ≡ slice_get literals (length literals - 1) → x.var ≡ last_variable literals
last_variable-last [] x e = cc
last_variable-last (l ∷ []) x e = let same : x ≡ l = cc in ap (λ (m : Lit). m.var) same
last_variable-last (l ∷ m ∷ more) x e =
    let at : slice_get (l ∷ m ∷ more) (length (m ∷ more)) ≡ slice_get (m ∷ more) (length (m ∷ more) - 1) = slice_get_suc l (m ∷ more) (length (m ∷ more)) (omega arith) in
    let size : length (l ∷ m ∷ more) - 1 ≡ length (m ∷ more) = omega arith in
    last_variable-last (m ∷ more) x (e ∙ ap (slice_get (l ∷ m ∷ more)) size ∙ at)
