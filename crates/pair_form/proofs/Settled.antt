-- When an assignment satisfies a settled clause: the selector is false, or one of the literals is true.
use Rattle.std.proofs.Common.{◌≡◌, ℕ, Bool, true, false, not, ◌||◌, if◌then◌else◌, List, [], ◌∷◌, ◌++◌, Option, Some, None, refl, sym, ◌∙◌, ap, ap₂, ◌⊎◌, inl, inr}
use Rattle.std.specs.Prelude.{cond, ◌==◌}
use Rattle.std.specs.Option.{option_and_then}
use Rattle.std.proofs.lemmas.Bool.{or_cases, or_left, or_right, and_parts, eqb-true}
use Rattle.std.proofs.lemmas.List.Elements.{All-cons, All-head}
use Rattle.loc_base.proofs.ShelfBools.{or-assoc, or-true, or-false, not-not}
use Rattle.gate_base.specs.declared.literal.Literal.{Literal}
use Rattle.gate_base.specs.declared.literal.Literal.TheVariants.{Known, Of}
use Rattle.clause_base.specs.declared.literal.Lit.{Lit}
use Rattle.clause_base.specs.Literal.{opposite, same_sign, same_lit, has, negative}
use Rattle.clause_base.specs.Satisfaction.{value_of, is_satisfied, Satisfies, SatisfiesClause}
use Rattle.clause_form.specs.Clauses.{defined, with_literal, simplified}
use Rattle.form_laws.specs.Models.{literal_in}
use Rattle.form_laws.proofs.ClauseValues.{none-satisfied, some_true}
use Rattle.pair_form.specs.Pairs.{settled, selected, settled_clause}

-- ---- literals of one variable

turned-sign : (s v : Bool) → cond (not s) (not v) v ≡ not (cond s (not v) v)
turned-sign true v = sym (not-not v)
turned-sign false v = refl

value-opposite : (a : ℕ → Bool) (l : Lit) → value_of a (opposite l) ≡ not (value_of a l)
value-opposite a l = turned-sign l.negated (a l.var)

one-sign : (s t : Bool) → same_sign s t ≡ true → s ≡ t
one-sign true true same = refl
one-sign true false same = cc
one-sign false true same = cc
one-sign false false same = refl

same-value : (a : ℕ → Bool) (x l : Lit) → same_lit x l ≡ true → value_of a x ≡ value_of a l
same-value a x l same =
    let both = and_parts (x.var == l.var) (same_sign x.negated l.negated) same in
    ap₂ (λ s v. cond s (not (a v)) (a v)) (one-sign x.negated l.negated both.1) (eqb-true x.var l.var both.0)

-- a clause with a true literal is satisfied
has-satisfied : (a : ℕ → Bool) (clause : List Lit) (l : Lit) → has clause l ≡ true → value_of a l ≡ true → is_satisfied a clause ≡ true
has-satisfied a [] l there holds = cc
has-satisfied a (x ∷ xs) l there holds = by (or_cases (same_lit x l) (has xs l) there) (λ later. has-satisfied a xs l later holds)
  where
    by : (same_lit x l ≡ true) ⊎ (has xs l ≡ true) → (has xs l ≡ true → is_satisfied a xs ≡ true) → is_satisfied a (x ∷ xs) ≡ true
    by (inl same) rest = or_left (value_of a x) (is_satisfied a xs) (same-value a x l same ∙ holds)
    by (inr later) rest = or_right (value_of a x) (is_satisfied a xs) (rest later)

satisfied-append : (a : ℕ → Bool) (xs ys : List Lit) → is_satisfied a (xs ++ ys) ≡ (is_satisfied a xs || is_satisfied a ys)
satisfied-append a [] ys = refl
satisfied-append a (x ∷ xs) ys =
    ap (λ b. value_of a x || b) (satisfied-append a xs ys) ∙ sym (or-assoc (value_of a x) (is_satisfied a xs) (is_satisfied a ys))

-- ---- what there is of a clause

-- whether what there is of a clause is satisfied
abbrev pub holds : (ℕ → Bool) → Option (List Lit) → Bool
holds a None = true
holds a (Some clause) = is_satisfied a clause

-- a literal whose negation stands there
with-negation : (there l rest : Bool) → (l ≡ false → there ≡ true) → true ≡ (there || (l || rest))
with-negation true l rest is = refl
with-negation false true rest is = refl
with-negation false false rest is = absurd (no (is refl))
  where
    no : false ≡ true → ⊥
    no e = cc

-- one that stands there already
with-itself : (there l rest : Bool) → (l ≡ true → there ≡ true) → (there || rest) ≡ (there || (l || rest))
with-itself true l rest is = refl
with-itself false false rest is = refl
with-itself false true rest is = absurd (no (is refl))
  where
    no : false ≡ true → ⊥
    no e = cc

one-more : (there l rest : Bool) → ((there || (l || false)) || rest) ≡ (there || (l || rest))
one-more true l rest = refl
one-more false true rest = refl
one-more false false rest = refl

false-not : (b : Bool) → b ≡ false → not b ≡ true
false-not b e = ap not e

-- settling leaves what a clause says
settled-value : (a : ℕ → Bool) (there ls : List Lit) → holds a (settled there ls) ≡ (is_satisfied a there || is_satisfied a ls)
unfolding settled
settled-value a there [] = sym (or-false (is_satisfied a there))
settled-value a there (l ∷ ls) =
    by (has there (opposite l)) refl (has there l) refl (settled-value a there ls) (settled-value a (there ++ l ∷ []) ls)
  where
    by : (turned : Bool) → has there (opposite l) ≡ turned → (stands : Bool) → has there l ≡ stands
        → holds a (settled there ls) ≡ (is_satisfied a there || is_satisfied a ls)
        → holds a (settled (there ++ l ∷ []) ls) ≡ (is_satisfied a (there ++ l ∷ []) || is_satisfied a ls)
        → holds a (if turned then None else (if stands then settled there ls else settled (there ++ l ∷ []) ls))
        ≡ (is_satisfied a there || (value_of a l || is_satisfied a ls))
    by true is stands stands_is here next =
        with-negation (is_satisfied a there) (value_of a l) (is_satisfied a ls)
        (λ e. has-satisfied a there (opposite l) is (value-opposite a l ∙ false-not (value_of a l) e))
    by false is true stands_is here next =
        here ∙ with-itself (is_satisfied a there) (value_of a l) (is_satisfied a ls) (λ e. has-satisfied a there l stands_is e)
    by false is false stands_is here next =
        next ∙ ap (λ b. b || is_satisfied a ls) (satisfied-append a there (l ∷ []))
        ∙ one-more (is_satisfied a there) (value_of a l) (is_satisfied a ls)

with-holds : (a : ℕ → Bool) (l : Lit) (o : Option (List Lit)) → holds a (with_literal l o) ≡ (value_of a l || holds a o)
with-holds a l None = sym (or-true (value_of a l))
with-holds a l (Some clause) = refl

simplified-holds : (a : ℕ → Bool) (base : ℕ) (xs : List Literal) → holds a (simplified base xs) ≡ some_true a base xs
unfolding simplified
simplified-holds a base [] = refl
simplified-holds a base (Known true ∷ xs) = refl
simplified-holds a base (Known false ∷ xs) = simplified-holds a base xs
simplified-holds a base (Of node negated ∷ xs) =
    with-holds a (defined base node negated) (simplified base xs)
    ∙ ap (λ b. value_of a (defined base node negated) || b) (simplified-holds a base xs)

-- ---- a settled clause

selected-says : (a : ℕ → Bool) (x : ℕ) (o : Option (List Lit)) → Satisfies a (selected x o) → (not (a x) || holds a o) ≡ true
selected-says a x None all = or-true (not (a x))
selected-says a x (Some clause) all = All-head (SatisfiesClause a) (negative x ∷ clause) [] all

selected-holds : (a : ℕ → Bool) (x : ℕ) (o : Option (List Lit)) → (not (a x) || holds a o) ≡ true → Satisfies a (selected x o)
selected-holds a x None is = none-satisfied a
selected-holds a x (Some clause) is = All-cons (SatisfiesClause a) (negative x ∷ clause) [] is (none-satisfied a)

then-holds : (a : ℕ → Bool) (o : Option (List Lit)) → holds a (option_and_then (settled []) o) ≡ holds a o
then-holds a None = refl
then-holds a (Some clause) = settled-value a [] clause

clause-value : (a : ℕ → Bool) (base : ℕ) (xs : List Literal) → holds a (option_and_then (settled []) (simplified base xs)) ≡ some_true a base xs
clause-value a base xs = then-holds a (simplified base xs) ∙ simplified-holds a base xs

pub settled-says : (a : ℕ → Bool) (base x : ℕ) (xs : List Literal) → Satisfies a (settled_clause base x xs) → (not (a x) || some_true a base xs) ≡ true
settled-says a base x xs all =
    sym (ap (λ b. not (a x) || b) (clause-value a base xs))
    ∙ selected-says a x (option_and_then (settled []) (simplified base xs)) all

pub settled-holds : (a : ℕ → Bool) (base x : ℕ) (xs : List Literal) → (not (a x) || some_true a base xs) ≡ true → Satisfies a (settled_clause base x xs)
settled-holds a base x xs is =
    selected-holds a x (option_and_then (settled []) (simplified base xs)) (ap (λ b. not (a x) || b) (clause-value a base xs) ∙ is)

pub some-append : (a : ℕ → Bool) (base : ℕ) (xs ys : List Literal) → some_true a base (xs ++ ys) ≡ (some_true a base xs || some_true a base ys)
some-append a base [] ys = refl
some-append a base (x ∷ xs) ys =
    ap (λ b. literal_in a base x || b) (some-append a base xs ys)
    ∙ sym (or-assoc (literal_in a base x) (some_true a base xs) (some_true a base ys))
