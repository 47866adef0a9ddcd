-- When an assignment satisfies the clauses of a definition, and the clause of a bit that is checked.
use Rattle.std.proofs.Common.{◌≡◌, ℕ, ◌+◌, Bool, true, false, not, ◌&&◌, ◌||◌, List, [], ◌∷◌, ◌++◌, Option, Some, None, refl, sym, ◌∙◌, ap, ap₂}
use Rattle.std.proofs.lemmas.List.Elements.{All-nil, All-cons, All-head}
use Rattle.loc_base.proofs.ShelfBools.{or-assoc, or-true, not-not}
use Rattle.gate_base.specs.declared.literal.Literal.{Literal}
use Rattle.gate_base.specs.declared.literal.Literal.TheVariants.{Known, Of}
use Rattle.gate_base.specs.Literals.{opposite}
use Rattle.clause_base.specs.declared.literal.Lit.{Lit}
use Rattle.clause_base.specs.Satisfaction.{value_of, is_satisfied, Satisfies, SatisfiesClause}
use Rattle.card_counter.proofs.Said.{satisfies-front, satisfies-behind, satisfies-both}
use Rattle.clause_form.specs.Clauses.{defined, with_literal, simplified, with_selectors, clause_of, and_clauses, free_clauses}
use Rattle.form_laws.specs.Models.{literal_in}

-- no clause is satisfied
pub none-satisfied : (a : ℕ → Bool) → Satisfies a []
none-satisfied a = All-nil (SatisfiesClause a)

module _ (a : ℕ → Bool) (base : ℕ) where
  -- some of the literals is true
  abbrev pub some_true : List Literal → Bool
  some_true [] = false
  some_true (x ∷ xs) = literal_in a base x || some_true xs

  module _ (selectors : List Lit) where
    -- whether what there is of a clause is satisfied
    abbrev satisfied : Option (List Lit) → Bool
    satisfied None = true
    satisfied (Some clause) = is_satisfied a (clause ++ selectors)

    with-literal : (l : Lit) (o : Option (List Lit)) → satisfied (with_literal l o) ≡ (value_of a l || satisfied o)
    with-literal l None = sym (or-true (value_of a l))
    with-literal l (Some clause) = refl

    -- a clause says that one of its literals or of the selectors is true
    simplified-value : (xs : List Literal) → satisfied (simplified base xs) ≡ (some_true xs || is_satisfied a selectors)
    unfolding simplified
    simplified-value [] = refl
    simplified-value (Known true ∷ xs) = refl
    simplified-value (Known false ∷ xs) = simplified-value xs
    simplified-value (Of node negated ∷ xs) =
        with-literal (defined base node negated) (simplified base xs)
        ∙ ap (λ b. value_of a (defined base node negated) || b) (simplified-value xs)
        ∙ sym (or-assoc (value_of a (defined base node negated)) (some_true xs) (is_satisfied a selectors))

    of-says : (o : Option (List Lit)) → Satisfies a (with_selectors o selectors) → satisfied o ≡ true
    of-says None all = refl
    of-says (Some clause) all = All-head (SatisfiesClause a) (clause ++ selectors) [] all

    of-holds : (o : Option (List Lit)) → satisfied o ≡ true → Satisfies a (with_selectors o selectors)
    of-holds None is = none-satisfied a
    of-holds (Some clause) is = All-cons (SatisfiesClause a) (clause ++ selectors) [] is (none-satisfied a)

    pub clause-says : (xs : List Literal) → Satisfies a (clause_of base xs selectors)
        → (some_true xs || is_satisfied a selectors) ≡ true
    clause-says xs all = sym (simplified-value xs) ∙ of-says (simplified base xs) all

    pub clause-holds : (xs : List Literal) → (some_true xs || is_satisfied a selectors) ≡ true
        → Satisfies a (clause_of base xs selectors)
    clause-holds xs is = of-holds (simplified base xs) (simplified-value xs ∙ is)

  pub opposite-in : (l : Literal) → literal_in a base (opposite l) ≡ not (literal_in a base l)
  unfolding opposite
  opposite-in (Known value) = refl
  opposite-in (Of node true) = sym (not-not (a (base + node)))
  opposite-in (Of node false) = refl

  -- ---- an AND

  and-said : (v x y : Bool) → ((not v || (x || false)) || false) ≡ true → ((not v || (y || false)) || false) ≡ true
      → ((v || (not x || (not y || false))) || false) ≡ true → v ≡ (x && y)
  and-said true true true one other both = refl
  and-said true true false one other both = cc
  and-said true false y one other both = cc
  and-said false true true one other both = cc
  and-said false true false one other both = refl
  and-said false false y one other both = refl

  and-first : (v x y : Bool) → v ≡ (x && y) → ((not v || (x || false)) || false) ≡ true
  and-first true true y is = refl
  and-first true false y is = cc
  and-first false x y is = refl

  and-second : (v x y : Bool) → v ≡ (x && y) → ((not v || (y || false)) || false) ≡ true
  and-second true x true is = refl
  and-second true true false is = cc
  and-second true false false is = cc
  and-second false x y is = refl

  and-third : (v x y : Bool) → v ≡ (x && y) → ((v || (not x || (not y || false))) || false) ≡ true
  and-third true x y is = refl
  and-third false true true is = cc
  and-third false true false is = refl
  and-third false false y is = refl

  module _ (i : ℕ) (x y : Literal) where
    abbrev first : List (List Lit)
    first = clause_of base (Of i true ∷ x ∷ []) []

    abbrev second : List (List Lit)
    second = clause_of base (Of i true ∷ y ∷ []) []

    abbrev third : List (List Lit)
    third = clause_of base (Of i false ∷ opposite x ∷ opposite y ∷ []) []

    both-opposite : ((a (base + i) || (literal_in a base (opposite x) || (literal_in a base (opposite y) || false))) || false)
        ≡ ((a (base + i) || (not (literal_in a base x) || (not (literal_in a base y) || false))) || false)
    both-opposite = ap₂ (λ p q. (a (base + i) || (p || (q || false))) || false) (opposite-in x) (opposite-in y)

    pub and-says : Satisfies a (and_clauses base i x y) → a (base + i) ≡ (literal_in a base x && literal_in a base y)
    unfolding and_clauses
    and-says all =
        let rest = satisfies-behind a first (second ++ third) all in
        and-said (a (base + i)) (literal_in a base x) (literal_in a base y)
        (clause-says [] (Of i true ∷ x ∷ []) (satisfies-front a first (second ++ third) all))
        (clause-says [] (Of i true ∷ y ∷ []) (satisfies-front a second third rest))
        (sym both-opposite ∙ clause-says [] (Of i false ∷ opposite x ∷ opposite y ∷ []) (satisfies-behind a second third rest))

    pub and-holds : a (base + i) ≡ (literal_in a base x && literal_in a base y) → Satisfies a (and_clauses base i x y)
    unfolding and_clauses
    and-holds is =
        satisfies-both a first (second ++ third)
        (clause-holds [] (Of i true ∷ x ∷ []) (and-first (a (base + i)) (literal_in a base x) (literal_in a base y) is))
        (satisfies-both a second third
        (clause-holds [] (Of i true ∷ y ∷ []) (and-second (a (base + i)) (literal_in a base x) (literal_in a base y) is))
        (clause-holds [] (Of i false ∷ opposite x ∷ opposite y ∷ [])
        (both-opposite ∙ and-third (a (base + i)) (literal_in a base x) (literal_in a base y) is)))

  -- ---- a bit of a place

  free-said : (v f s : Bool) → ((not v || (f || false)) || s) ≡ true → ((v || (not f || false)) || s) ≡ true → s ≡ false → v ≡ f
  free-said true true s one other none = refl
  free-said false false s one other none = refl
  free-said true false s one other none = cc
  free-said false true s one other none = cc

  free-first : (v f s : Bool) → (s ≡ false → v ≡ f) → ((not v || (f || false)) || s) ≡ true
  free-first v f true is = or-true (not v || (f || false))
  free-first true true false is = refl
  free-first true false false is = sym (is refl)
  free-first false f false is = refl

  free-second : (v f s : Bool) → (s ≡ false → v ≡ f) → ((v || (not f || false)) || s) ≡ true
  free-second v f true is = or-true (v || (not f || false))
  free-second true f false is = refl
  free-second false true false is = is refl
  free-second false false false is = refl

  module _ (selectors : List Lit) (i : ℕ) (f : Literal) where
    abbrev free_one : List (List Lit)
    free_one = clause_of base (Of i true ∷ f ∷ []) selectors

    abbrev free_other : List (List Lit)
    free_other = clause_of base (Of i false ∷ opposite f ∷ []) selectors

    one-opposite : ((a (base + i) || (literal_in a base (opposite f) || false)) || is_satisfied a selectors)
        ≡ ((a (base + i) || (not (literal_in a base f) || false)) || is_satisfied a selectors)
    one-opposite = ap (λ p. (a (base + i) || (p || false)) || is_satisfied a selectors) (opposite-in f)

    pub free-says : Satisfies a (free_clauses base selectors i f) → is_satisfied a selectors ≡ false → a (base + i) ≡ literal_in a base f
    unfolding free_clauses
    free-says all none =
        free-said (a (base + i)) (literal_in a base f) (is_satisfied a selectors)
        (clause-says selectors (Of i true ∷ f ∷ []) (satisfies-front a free_one free_other all))
        (sym one-opposite ∙ clause-says selectors (Of i false ∷ opposite f ∷ []) (satisfies-behind a free_one free_other all)) none

    pub free-holds : (is_satisfied a selectors ≡ false → a (base + i) ≡ literal_in a base f) → Satisfies a (free_clauses base selectors i f)
    unfolding free_clauses
    free-holds is =
        satisfies-both a free_one free_other
        (clause-holds selectors (Of i true ∷ f ∷ []) (free-first (a (base + i)) (literal_in a base f) (is_satisfied a selectors) is))
        (clause-holds selectors (Of i false ∷ opposite f ∷ [])
        (one-opposite ∙ free-second (a (base + i)) (literal_in a base f) (is_satisfied a selectors) is))
