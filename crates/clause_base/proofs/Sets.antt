-- Clauses as sets of literals.
use Rattle.std.proofs.Common.{◌≡◌, ◌≢◌, ℕ, ◌+◌, ◌<◌, ◌≤◌, zero, suc, Bool, true, false, cond, not, ◌&&◌, ◌||◌, eqb, List, [], ◌∷◌, ◌++◌, length, get_or, take, drop, refl, ap, sym, ◌∙◌, subst, ◌⊎◌, inl, inr, ⊎_elim, arith, IsTrue, All}
use Rattle.std.proofs.lemmas.Bool.{false≢true, both_ways, eqb-true, eqb-false, eq-eqb, ne_eqb, and_parts, or_cases, or_parts, and_from, or_left, or_right, cases_Bool, not-true, not-false, not_from_false, not_from_true, false_from_ne_true}
use Rattle.std.proofs.lemmas.List.Elements.{All-head, All-tail}
use Rattle.std.proofs.lemmas.List.{take_more, drop_more, take-append-drop}
use Rattle.std.specs.Bool.{Decides, beq}
use Rattle.loc_base.proofs.ShelfBools.{and-false, not-not, or-assoc, or-false}
use Rattle.clause_base.specs.declared.literal.Lit.{Lit}
use Rattle.clause_base.specs.Literal.{positive, negative, opposite, same_sign, same_lit, has, has_variable, has_distinct_variables}
use Rattle.clause_base.specs.Progress.{IsConsistent}

or_both : (a b : Bool) → a ≡ false → b ≡ false → (a || b) ≡ false
or_both a b p q = ap (λ c. c || b) p ∙ q

-- what isn't the one sign is the other
other_sign : (a b : Bool) → same_sign a b ≡ false → same_sign a (not b) ≡ true
other_sign true true h = sym h
other_sign true false h = refl
other_sign false true h = refl
other_sign false false h = sym h

pub same_sign-true : (a b : Bool) → same_sign a b ≡ true → a ≡ b
same_sign-true true true h = refl
same_sign-true false false h = refl
same_sign-true true false h = sym h
same_sign-true false true h = h

pub same_sign_itself : (a : Bool) → same_sign a a ≡ true
same_sign_itself true = refl
same_sign_itself false = refl

same_sign_not : (a : Bool) → same_sign a (not a) ≡ false
same_sign_not true = refl
same_sign_not false = refl

abbrev lit_at : ℕ → Bool → Lit
lit_at v s = record { var = v; negated = s }

same_variables : (v w : ℕ) (s t : Bool) → v ≡ w → s ≡ t → lit_at v s ≡ lit_at w t
same_variables v w s t p q = cc

pub lit_ext : (a b : Lit) → a.var ≡ b.var → a.negated ≡ b.negated → a ≡ b
lit_ext a b p q = same_variables a.var b.var a.negated b.negated p q

pub same_lit-true : (a b : Lit) → same_lit a b ≡ true → a ≡ b
same_lit-true a b h =
    let parts = and_parts (eqb a.var b.var) (same_sign a.negated b.negated) h in
    same_variables a.var b.var a.negated b.negated (eqb-true a.var b.var parts.0) (same_sign-true a.negated b.negated parts.1)

pub same_lit_itself : (a : Lit) → same_lit a a ≡ true
same_lit_itself a = and_from (eqb a.var a.var) (same_sign a.negated a.negated) (eq-eqb a.var a.var refl) (same_sign_itself a.negated)

pub same_lit_opposite : (a : Lit) → same_lit a (opposite a) ≡ false
same_lit_opposite a = ap (λ b. eqb a.var a.var && b) (same_sign_not a.negated) ∙ and-false (eqb a.var a.var)

pub opposite-opposite : (l : Lit) → opposite (opposite l) ≡ l
opposite-opposite l = same_variables l.var l.var (not (not l.negated)) l.negated refl (not-not l.negated)

pub has-append : (xs ys : List Lit) (l : Lit) → has (xs ++ ys) l ≡ (has xs l || has ys l)
has-append [] ys l = refl
has-append (x ∷ xs) ys l = ap (λ b. same_lit x l || b) (has-append xs ys l) ∙ sym (or-assoc (same_lit x l) (has xs l) (has ys l))

pub has_variable-append : (xs ys : List Lit) (v : ℕ) → has_variable (xs ++ ys) v ≡ (has_variable xs v || has_variable ys v)
has_variable-append [] ys v = refl
has_variable-append (x ∷ xs) ys v = ap (λ b. eqb x.var v || b) (has_variable-append xs ys v) ∙ sym (or-assoc (eqb x.var v) (has_variable xs v) (has_variable ys v))

-- one more literal
pub has-push : (xs : List Lit) (x l : Lit) → has (xs ++ x ∷ []) l ≡ (has xs l || same_lit x l)
has-push xs x l = has-append xs (x ∷ []) l ∙ ap (λ b. has xs l || b) (or-false (same_lit x l))

pub has_variable-push : (xs : List Lit) (x : Lit) (v : ℕ) → has_variable (xs ++ x ∷ []) v ≡ (has_variable xs v || eqb x.var v)
has_variable-push xs x v = has_variable-append xs (x ∷ []) v ∙ ap (λ b. has_variable xs v || b) (or-false (eqb x.var v))

-- a clause has the variables of its literals
pub has_variable-has : (xs : List Lit) (l : Lit) → has xs l ≡ true → has_variable xs l.var ≡ true
has_variable-has [] l h = absurd (false≢true h)
has_variable-has (x ∷ xs) l h = ⊎_elim
    (λ same. or_left (eqb x.var l.var) (has_variable xs l.var) ((and_parts (eqb x.var l.var) (same_sign x.negated l.negated) same).0))
    (λ later. or_right (eqb x.var l.var) (has_variable xs l.var) (has_variable-has xs l later))
    (or_cases (same_lit x l) (has xs l) h)

-- and the literals of its variables, in one sign or the other
pub has_either : (xs : List Lit) (l : Lit) → has_variable xs l.var ≡ true → (has xs l ≡ true) ⊎ (has xs (opposite l) ≡ true)
has_either [] l h = absurd (false≢true h)
has_either (x ∷ xs) l h = ⊎_elim
    (λ same. ⊎_elim
    (λ sign. inl (or_left (same_lit x l) (has xs l) (and_from (eqb x.var l.var) (same_sign x.negated l.negated) same sign)))
    (λ sign. inr (or_left (same_lit x (opposite l)) (has xs (opposite l)) (and_from (eqb x.var l.var) (same_sign x.negated (not l.negated)) same (other_sign x.negated l.negated sign))))
    (cases_Bool (same_sign x.negated l.negated)))
    (λ later. ⊎_elim
    (λ yes. inl (or_right (same_lit x l) (has xs l) yes))
    (λ yes. inr (or_right (same_lit x (opposite l)) (has xs (opposite l)) yes))
    (has_either xs l later))
    (or_cases (eqb x.var l.var) (has_variable xs l.var) h)

pub absent : (xs : List Lit) (l : Lit) → has_variable xs l.var ≡ false → has xs l ≡ false
absent xs l h = false_from_ne_true (has xs l) (λ yes. both_ways (has_variable xs l.var) h (has_variable-has xs l yes))

-- the parts of a clause of distinct variables
pub distinct_parts : (xs : List Lit) (x : Lit) (ys : List Lit) → has_distinct_variables (xs ++ x ∷ ys) ≡ true
    → (has_variable xs x.var ≡ false) × (has_variable ys x.var ≡ false) × (has_distinct_variables (xs ++ ys) ≡ true)
distinct_parts [] x ys h =
    let parts = and_parts (not (has_variable ys x.var)) (has_distinct_variables ys) h in
    (refl, not-true (has_variable ys x.var) parts.0, parts.1)
distinct_parts (w ∷ xs) x ys h =
    let parts = and_parts (not (has_variable (xs ++ x ∷ ys) w.var)) (has_distinct_variables (xs ++ x ∷ ys)) h in
    let inner = distinct_parts xs x ys parts.1 in
    let none = or_parts (has_variable xs w.var) (eqb x.var w.var || has_variable ys w.var) (sym (has_variable-append xs (x ∷ ys) w.var) ∙ not-true (has_variable (xs ++ x ∷ ys) w.var) parts.0) in
    let apart = or_parts (eqb x.var w.var) (has_variable ys w.var) none.1 in
    let other : eqb w.var x.var ≡ false = ne_eqb w.var x.var (λ e. eqb-false x.var w.var apart.0 (sym e)) in
    let left : has_variable (xs ++ ys) w.var ≡ false = has_variable-append xs ys w.var ∙ or_both (has_variable xs w.var) (has_variable ys w.var) none.0 apart.1 in
    (or_both (eqb w.var x.var) (has_variable xs x.var) other inner.0, inner.1, and_from (not (has_variable (xs ++ ys) w.var)) (has_distinct_variables (xs ++ ys)) (not_from_false (has_variable (xs ++ ys) w.var) left) inner.2)

-- a clause of distinct variables has no literal together with its opposite
pub has-IsConsistent : (xs : List Lit) → has_distinct_variables xs ≡ true → IsConsistent (has xs)
has-IsConsistent [] h l there = refl
has-IsConsistent (x ∷ xs) h l there =
    let parts = and_parts (not (has_variable xs x.var)) (has_distinct_variables xs) h in
    let alone : has_variable xs x.var ≡ false = not-true (has_variable xs x.var) parts.0 in
    ⊎_elim
    (λ same.
    let e : x ≡ l = same_lit-true x l same in
    let now : has xs (opposite x) ≡ false = absent xs (opposite x) alone in
    let P : Lit → Type 0 = λ m. (same_lit x (opposite m) || has xs (opposite m)) ≡ false in
    subst P e (or_both (same_lit x (opposite x)) (has xs (opposite x)) (same_lit_opposite x) now))
    (λ later. or_both (same_lit x (opposite l)) (has xs (opposite l))
    (false_from_ne_true (same_lit x (opposite l)) (λ same.
    let e : x ≡ opposite l = same_lit-true x (opposite l) same in
    let v : has_variable xs x.var ≡ true = let P : Lit → Type 0 = λ m. has_variable xs m.var ≡ true in subst P (sym e) (has_variable-has xs l later) in
    both_ways (has_variable xs x.var) alone v))
    (has-IsConsistent xs parts.1 l later))
    (or_cases (same_lit x l) (has xs l) there)

-- what `==` says of two literals
pub lit_eq-Decides : (a b : Lit) → Decides (eqb a.var b.var && beq a.negated b.negated) (a ≡ b)
lit_eq-Decides a b = grind arith

-- a literal of a new variable leaves the variables distinct
pub distinct_push : (xs : List Lit) (x : Lit) → has_distinct_variables xs ≡ true → has_variable xs x.var ≡ false → has_distinct_variables (xs ++ x ∷ []) ≡ true
distinct_push [] x distinct new = refl
distinct_push (l ∷ xs) x distinct new =
    let parts = and_parts (not (has_variable xs l.var)) (has_distinct_variables xs) distinct in
    let apart = or_parts (eqb l.var x.var) (has_variable xs x.var) new in
    let other : eqb x.var l.var ≡ false = ne_eqb x.var l.var (λ e. eqb-false l.var x.var apart.0 (sym e)) in
    let none : has_variable (xs ++ x ∷ []) l.var ≡ false = has_variable-push xs x l.var ∙ or_both (has_variable xs l.var) (eqb x.var l.var) (not-true (has_variable xs l.var) parts.0) other in
    and_from (not (has_variable (xs ++ x ∷ []) l.var)) (has_distinct_variables (xs ++ x ∷ [])) (not_from_false (has_variable (xs ++ x ∷ []) l.var) none) (distinct_push xs x parts.1 apart.1)

-- one literal more of the front
pub distinct_more : (xs : List Lit) (i : ℕ) (d : Lit) → i < length xs → has_distinct_variables (take i xs) ≡ true → has_variable (take i xs) (get_or xs i d).var ≡ false → has_distinct_variables (take (i + 1) xs) ≡ true
distinct_more xs i d within distinct new = rw (take_more xs i d within) (distinct_push (take i xs) (get_or xs i d) distinct new)

-- a variable that stands twice
pub distinct_refused : (xs : List Lit) (i : ℕ) (d : Lit) → i < length xs → has_variable (take i xs) (get_or xs i d).var ≡ true → has_distinct_variables xs ≡ false
distinct_refused xs i d within twice = false_from_ne_true (has_distinct_variables xs) (λ distinct.
    let whole : xs ≡ take i xs ++ get_or xs i d ∷ drop (i + 1) xs = sym (take-append-drop i xs) ∙ ap (λ rest. take i xs ++ rest) (drop_more xs i d within) in
    both_ways (has_variable (take i xs) (get_or xs i d).var) ((distinct_parts (take i xs) (get_or xs i d) (drop (i + 1) xs) (ap has_distinct_variables (sym whole) ∙ distinct)).0) twice)
