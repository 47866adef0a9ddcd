-- What a chain gives is satisfied wherever its clauses are.
use Rattle.std.proofs.Common.{◌≡◌, ◌≢◌, ℕ, ◌+◌, ◌-◌, ◌<◌, ◌≤◌, zero, suc, Bool, true, false, cond, not, ◌&&◌, ◌||◌, eqb, List, [], ◌∷◌, ◌++◌, length, get_or, take, map, refl, ap, sym, ◌∙◌, subst, ◌⊎◌, inl, inr, ⊎_elim, arith, IsTrue, All}
use Rattle.std.proofs.lemmas.Bool.{false≢true, both_ways, eqb-true, eqb-false, eq-eqb, ne_eqb, and_parts, or_cases, or_parts, and_from, or_left, or_right, or_from, cases_Bool, not-true, not-false, not_from_false, false_from_ne_true}
use Rattle.std.proofs.lemmas.List.Elements.{All-head, All-tail, All-nil, All-cons, All-get_or, All-map, All-append, All-weaker}
use Rattle.loc_base.proofs.ShelfBools.{or-comm}
use Rattle.clause_base.specs.declared.literal.Lit.{Lit}
use Rattle.clause_base.specs.Literal.{positive, negative, opposite, same_lit, has, has_distinct_variables, AllDistinct}
use Rattle.clause_base.specs.Satisfaction.{value_of, is_satisfied, SatisfiesClause, Satisfies}
use Rattle.clause_base.specs.Resolution.{clashes, IsOnlyClash, resolvent, Gives, IsResult}
use Rattle.clause_base.specs.Acceptance.{IsAcceptedChain, numbered}
use Rattle.clause_base.specs.Progress.{IsConsistent}
use Rattle.clause_base.proofs.Sets.{lit_ext, same_lit-true, same_lit_itself, opposite-opposite, has-IsConsistent}

-- some literal of the set is true
abbrev pub Holds : (ℕ → Bool) → (Lit → Bool) → Type 0
Holds assignment set = (l : Lit) × (set l ≡ true) × (value_of assignment l ≡ true)

clashes_signed : (a b : Lit → Bool) (v : ℕ) (s : Bool)
    → clashes a b v ≡ ((a (record { var = v; negated = s }) && b (record { var = v; negated = not s })) || (a (record { var = v; negated = not s }) && b (record { var = v; negated = s })))
clashes_signed a b v false = refl
clashes_signed a b v true = or-comm (a (positive v) && b (negative v)) (a (negative v) && b (positive v))

-- a clash by a literal of the variable
pub clashes_at : (a b : Lit → Bool) (l : Lit) → clashes a b l.var ≡ ((a l && b (opposite l)) || (a (opposite l) && b l))
clashes_at a b l = clashes_signed a b l.var l.negated

pub clashes_by : (a b : Lit → Bool) (l : Lit) → a l ≡ true → b (opposite l) ≡ true → clashes a b l.var ≡ true
clashes_by a b l p q = clashes_at a b l ∙ or_left (a l && b (opposite l)) (a (opposite l) && b l) (and_from (a l) (b (opposite l)) p q)

pub clashes_back : (a b : Lit → Bool) (l : Lit) → a (opposite l) ≡ true → b l ≡ true → clashes a b l.var ≡ true
clashes_back a b l p q = clashes_at a b l ∙ or_right (a l && b (opposite l)) (a (opposite l) && b l) (and_from (a (opposite l)) (b l) p q)

in_resolvent : (a b : Lit → Bool) (v : ℕ) (l : Lit) → (a l || b l) ≡ true → eqb l.var v ≡ false → resolvent a b v l ≡ true
in_resolvent a b v l h apart = and_from (a l || b l) (not (eqb l.var v)) h (not_from_false (eqb l.var v) apart)

value_sign : (b s : Bool) (t : Bool) → cond s (not b) b ≡ true → cond t (not b) b ≡ true → s ≡ t
value_sign true true true p q = refl
value_sign true true false p q = absurd (false≢true p)
value_sign true false true p q = absurd (false≢true q)
value_sign true false false p q = refl
value_sign false true true p q = refl
value_sign false true false p q = absurd (false≢true q)
value_sign false false true p q = absurd (false≢true p)
value_sign false false false p q = refl

-- two true literals of one variable are one
one_true : (assignment : ℕ → Bool) (l m : Lit) → l.var ≡ m.var → value_of assignment l ≡ true → value_of assignment m ≡ true → l ≡ m
one_true assignment l m e p q =
    let same : value_of assignment m ≡ cond m.negated (not (assignment l.var)) (assignment l.var) = ap (λ v. cond m.negated (not (assignment v)) (assignment v)) (sym e) in
    let signs : l.negated ≡ m.negated = value_sign (assignment l.var) l.negated m.negated p (sym same ∙ q) in
    lit_ext l m e signs

resolvent_holds : (assignment : ℕ → Bool) (a b : Lit → Bool) (v : ℕ) → IsConsistent a → IsConsistent b → clashes a b v ≡ true → Holds assignment a → Holds assignment b → Holds assignment (resolvent a b v)
resolvent_holds assignment a b v ca cb clash (l, al, tl) (m, bm, tm) = ⊎_elim
    (λ lv. ⊎_elim
    (λ mv.
    let e : l ≡ m = one_true assignment l m (eqb-true l.var v lv ∙ sym (eqb-true m.var v mv)) tl tm in
    let bl : b l ≡ true = ap b e ∙ bm in
    let at : clashes a b l.var ≡ true = ap (clashes a b) (eqb-true l.var v lv) ∙ clash in
    absurd (⊎_elim
    (λ both. both_ways (b (opposite l)) (cb l bl) ((and_parts (a l) (b (opposite l)) both).1))
    (λ both. both_ways (a (opposite l)) (ca l al) ((and_parts (a (opposite l)) (b l) both).0))
    (or_cases (a l && b (opposite l)) (a (opposite l) && b l) (sym (clashes_at a b l) ∙ at))))
    (λ apart. (m, in_resolvent a b v m (or_right (a m) (b m) bm) apart, tm))
    (cases_Bool (eqb m.var v)))
    (λ apart. (l, in_resolvent a b v l (or_left (a l) (b l) al) apart, tl))
    (cases_Bool (eqb l.var v))

pub resolvent-IsConsistent : (a b : Lit → Bool) (v : ℕ) → IsConsistent a → IsConsistent b → IsOnlyClash a b v → IsConsistent (resolvent a b v)
resolvent-IsConsistent a b v ca cb only l h =
    let parts = and_parts (a l || b l) (not (eqb l.var v)) h in
    let apart : eqb l.var v ≡ false = not-true (eqb l.var v) parts.1 in
    let no_clash : clashes a b l.var ≡ true → ⊥ = λ clash. eqb-false l.var v apart (only.1 l.var clash) in
    let none : (a (opposite l) || b (opposite l)) ≡ false = ⊎_elim
    (λ al. or_from (a (opposite l)) (b (opposite l)) (ca l al) (false_from_ne_true (b (opposite l)) (λ yes. no_clash (clashes_by a b l al yes))))
    (λ bl. or_from (a (opposite l)) (b (opposite l)) (false_from_ne_true (a (opposite l)) (λ yes. no_clash (clashes_back a b l yes bl))) (cb l bl))
    (or_cases (a l) (b l) parts.0) in
    ap (λ t. t && not (eqb l.var v)) none

Gives_holds : (assignment : ℕ → Bool) (a : Lit → Bool) (clauses : List (List Lit)) (to : Lit → Bool) → IsConsistent a → AllDistinct clauses → All (λ clause. Holds assignment (has clause)) clauses
    → Gives a clauses to → Holds assignment a → Holds assignment to
Gives_holds assignment a [] to ca distinct hold gives (l, al, tl) = (l, sym (gives l) ∙ al, tl)
Gives_holds assignment a (c ∷ clauses) to ca distinct hold (v, only, gives) holds =
    let cb : IsConsistent (has c) = has-IsConsistent c (All-head (λ clause. IsTrue (has_distinct_variables clause)) c clauses distinct) in
    Gives_holds assignment (resolvent a (has c) v) clauses to (resolvent-IsConsistent a (has c) v ca cb only) (All-tail (λ clause. IsTrue (has_distinct_variables clause)) c clauses distinct) (All-tail (λ clause. Holds assignment (has clause)) c clauses hold) gives
    (resolvent_holds assignment a (has c) v ca cb only.0 holds (All-head (λ clause. Holds assignment (has clause)) c clauses hold))

pub Holds-has : (assignment : ℕ → Bool) (clause : List Lit) → is_satisfied assignment clause ≡ true → Holds assignment (has clause)
Holds-has assignment [] h = absurd (false≢true h)
Holds-has assignment (x ∷ clause) h = ⊎_elim
    (λ yes. (x, or_left (same_lit x x) (has clause x) (same_lit_itself x), yes))
    (λ later. let inner = Holds-has assignment clause later in (inner.0, or_right (same_lit x inner.0) (has clause inner.0) inner.1, inner.2))
    (or_cases (value_of assignment x) (is_satisfied assignment clause) h)

pub is_satisfied-Holds : (assignment : ℕ → Bool) (clause : List Lit) (l : Lit) → has clause l ≡ true → value_of assignment l ≡ true → is_satisfied assignment clause ≡ true
is_satisfied-Holds assignment [] l h t = absurd (false≢true h)
is_satisfied-Holds assignment (x ∷ clause) l h t = ⊎_elim
    (λ same. or_left (value_of assignment x) (is_satisfied assignment clause) (ap (value_of assignment) (same_lit-true x l same) ∙ t))
    (λ later. or_right (value_of assignment x) (is_satisfied assignment clause) (is_satisfied-Holds assignment clause l later t))
    (or_cases (same_lit x l) (has clause l) h)

numbered-All : (P : List Lit → Type 0) (earlier : List (List Lit)) (chain : List ℕ) → All P earlier → All (λ number. (1 ≤ number) × (number ≤ length earlier)) chain → All P (map (numbered earlier) chain)
numbered-All P earlier chain all within = All-map P (numbered earlier) chain
    (All-weaker (λ number. (1 ≤ number) × (number ≤ length earlier)) (λ number. P (numbered earlier number))
    (λ number fits. All-get_or P earlier (number - 1) [] (omega arith) all) chain within)

IsResult_holds : (assignment : ℕ → Bool) (clauses : List (List Lit)) (clause : List Lit) → AllDistinct clauses → All (λ c. Holds assignment (has c)) clauses → IsResult clauses clause → is_satisfied assignment clause ≡ true
IsResult_holds assignment [] clause distinct hold result = absurd result
IsResult_holds assignment (c ∷ clauses) clause distinct hold result =
    let (l, h, t) = Gives_holds assignment (has c) clauses (has clause) (has-IsConsistent c (All-head (λ clause. IsTrue (has_distinct_variables clause)) c clauses distinct)) (All-tail (λ clause. IsTrue (has_distinct_variables clause)) c clauses distinct) (All-tail (λ clause. Holds assignment (has clause)) c clauses hold) result (All-head (λ clause. Holds assignment (has clause)) c clauses hold) in
    is_satisfied-Holds assignment clause l h t

-- an accepted chain's clause is satisfied wherever the earlier clauses are
pub chain_holds : (assignment : ℕ → Bool) (earlier : List (List Lit)) (chain : List ℕ) (clause : List Lit) → AllDistinct earlier → IsAcceptedChain earlier chain clause
    → Satisfies assignment earlier → SatisfiesClause assignment clause
chain_holds assignment earlier chain clause distinct accepted satisfied =
    IsResult_holds assignment (map (numbered earlier) chain) clause
    (numbered-All (λ c. IsTrue (has_distinct_variables c)) earlier chain distinct accepted.0)
    (numbered-All (λ c. Holds assignment (has c)) earlier chain (All-weaker (λ c. SatisfiesClause assignment c) (λ c. Holds assignment (has c)) (λ c h. Holds-has assignment c h) earlier satisfied) accepted.0)
    accepted.1

-- what holds of each literal of the clauses holds of each literal of what they give
Gives_each : (P : Lit → Type 0) (a : Lit → Bool) (clauses : List (List Lit)) (to : Lit → Bool) → ((l : Lit) → a l ≡ true → P l) → All (λ clause. (l : Lit) → has clause l ≡ true → P l) clauses
    → Gives a clauses to → (l : Lit) → to l ≡ true → P l
Gives_each P a [] to each all gives l h = each l (gives l ∙ h)
Gives_each P a (c ∷ clauses) to each all (v, only, gives) l h =
    Gives_each P (resolvent a (has c) v) clauses to
    (λ m r. ⊎_elim (λ left. each m left) (λ right. All-head (λ clause. (l : Lit) → has clause l ≡ true → P l) c clauses all m right) (or_cases (a m) (has c m) ((and_parts (a m || has c m) (not (eqb m.var v)) r).0)))
    (All-tail (λ clause. (l : Lit) → has clause l ≡ true → P l) c clauses all) gives l h

IsResult_each : (P : Lit → Type 0) (clauses : List (List Lit)) (clause : List Lit) → All (λ c. (l : Lit) → has c l ≡ true → P l) clauses → IsResult clauses clause → (l : Lit) → has clause l ≡ true → P l
IsResult_each P [] clause all result l h = absurd result
IsResult_each P (c ∷ clauses) clause all result l h =
    Gives_each P (has c) clauses (has clause) (λ m r. All-head (λ c. (l : Lit) → has c l ≡ true → P l) c clauses all m r) (All-tail (λ c. (l : Lit) → has c l ≡ true → P l) c clauses all) result l h

All-has : (P : Lit → Type 0) (clause : List Lit) → All P clause → (l : Lit) → has clause l ≡ true → P l
All-has P [] all l h = absurd (false≢true h)
All-has P (x ∷ clause) all l h = ⊎_elim
    (λ same. subst P (same_lit-true x l same) (All-head P x clause all))
    (λ later. All-has P clause (All-tail P x clause all) l later)
    (or_cases (same_lit x l) (has clause l) h)

All_from_has : (P : Lit → Type 0) (clause : List Lit) → ((l : Lit) → has clause l ≡ true → P l) → All P clause
All_from_has P [] each = All-nil P
All_from_has P (x ∷ clause) each = All-cons P x clause (each x (or_left (same_lit x x) (has clause x) (same_lit_itself x))) (All_from_has P clause (λ l h. each l (or_right (same_lit x l) (has clause l) h)))

-- an accepted chain's clause has only literals of the earlier clauses
pub chain_each : (P : Lit → Type 0) (earlier : List (List Lit)) (chain : List ℕ) (clause : List Lit) → IsAcceptedChain earlier chain clause → All (λ c. All P c) earlier → All P clause
chain_each P earlier chain clause accepted all =
    All_from_has P clause (IsResult_each P (map (numbered earlier) chain) clause
    (numbered-All (λ c. (l : Lit) → has c l ≡ true → P l) earlier chain (All-weaker (λ c. All P c) (λ c. (l : Lit) → has c l ≡ true → P l) (λ c h. All-has P c h) earlier all) accepted.0)
    accepted.1)
