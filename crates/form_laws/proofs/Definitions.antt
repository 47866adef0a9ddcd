-- The clauses of all definitions are satisfied exactly where each definition has its value.
use Rattle.std.proofs.Common.{◌≡◌, ℕ, zero, suc, ◌+◌, ◌<◌, Bool, true, false, not, ◌&&◌, if◌then◌else◌, List, [], ◌∷◌, ◌++◌, length, get_or, Some, refl, sym, ◌∙◌, ap, ap₂, subst, arith, length-append}
use Rattle.std.specs.Prelude.{cond, slice_get}
use Rattle.std.proofs.lemmas.List.{get_or_append_left}
use Rattle.std.proofs.Math.Seq.{get_or-append_seam}
use Rattle.loc_base.proofs.ShelfBools.{if-false}
use Rattle.std.proofs.lemmas.Option.{slice_get_within}
use Rattle.loc_base.proofs.ShelfLists.{slice_get-some}
use Rattle.gate_base.specs.declared.literal.Literal.{Literal}
use Rattle.gate_base.specs.declared.literal.Literal.TheVariants.{Known, Of}
use Rattle.gate_base.specs.declared.node.Node.{Node}
use Rattle.gate_base.specs.declared.node.Node.TheVariants.{Input, State, And, Free}
use Rattle.gate_base.specs.Literals.{IsBelow}
use Rattle.gate_base.specs.Nodes.{NodeFits, AreOrderedFrom, sources_in}
use Rattle.gate_base.specs.Meaning.{Source, literal_value, node_value, values}
use Rattle.clause_base.specs.declared.literal.Lit.{Lit}
use Rattle.clause_base.specs.Satisfaction.{is_satisfied, Satisfies}
use Rattle.clause_form.specs.Clauses.{node_clauses}
use Rattle.form_laws.specs.Models.{literal_in}
use Rattle.form_laws.proofs.ClauseValues.{none-satisfied, and-says, and-holds, free-says, free-holds}

-- ---- values are those that their nodes have

-- the values that are known stay
values-known : (e : Source) (known : List Bool) (nodes : List Node) (i : ℕ) → i < length known
    → get_or (values e known nodes) i false ≡ get_or known i false
unfolding values
values-known e known [] i within = refl
values-known e known (node ∷ nodes) i within =
    let b = node_value e known node in
    values-known e (known ++ b ∷ []) nodes i (omega (arith, length-append known (b ∷ [])))
    ∙ get_or_append_left known (b ∷ []) false i within

literal-known : (e : Source) (known : List Bool) (nodes : List Node) (l : Literal) → IsBelow (length known) l
    → literal_value known l ≡ literal_value (values e known nodes) l
unfolding literal_value
literal-known e known nodes (Known value) within = refl
literal-known e known nodes (Of node negated) within =
    ap (λ b. cond negated (not b) b) (sym (values-known e known nodes node within))

-- a node whose operands are known has the value that it has over all values
node-known : (e : Source) (known : List Bool) (nodes : List Node) (node : Node) → NodeFits (length known) node
    → node_value e known node ≡ node_value e (values e known nodes) node
unfolding node_value
node-known e known nodes (Input input bit) fits = refl
node-known e known nodes (State state bit) fits = refl
node-known e known nodes (And left right) fits =
    ap₂ (λ p q. p && q) (literal-known e known nodes left fits.0) (literal-known e known nodes right fits.1)
node-known e known nodes (Free moment place bit computed) fits =
    ap (λ v. if e.frees place then e.chosen moment place bit else v) (literal-known e known nodes computed fits)

-- each value is that of its node, where the nodes have these values
value-at : (e : Source) (known : List Bool) (nodes : List Node) (j : ℕ) (node : Node) → slice_get nodes j ≡ Some node
    → NodeFits (length known + j) node
    → get_or (values e known nodes) (length known + j) false ≡ node_value e (values e known nodes) node
unfolding values
value-at e known [] j node there fits = cc
value-at e known (first ∷ nodes) zero node there fits =
    let b = node_value e known first in
    let same : first ≡ node = Some-is there in
    let here : length known + 0 ≡ length known = omega arith in
    let all = values e (known ++ b ∷ []) nodes in
    let whole : all ≡ values e known (first ∷ nodes) = refl in
    let last : length known < length (known ++ b ∷ []) = omega (arith, length-append known (b ∷ [])) in
    ap (λ n. get_or all n false) here
    ∙ values-known e (known ++ b ∷ []) nodes (length known) last
    ∙ get_or-append_seam known b [] false
    ∙ node-known e known (first ∷ nodes) first (subst (NodeFits (length known)) (sym same) (subst (λ n. NodeFits n node) here fits))
    ∙ ap (node_value e all) same
  where
    Some-is : Some first ≡ Some node → first ≡ node
    Some-is same = cc
value-at e known (first ∷ nodes) (suc j) node there fits =
    let b = node_value e known first in
    let all = values e (known ++ b ∷ []) nodes in
    let number : length (known ++ b ∷ []) + j ≡ length known + suc j = omega (arith, length-append known (b ∷ [])) in
    subst (λ n. get_or all n false ≡ node_value e all node) number
    (value-at e (known ++ b ∷ []) nodes j node there (subst (λ n. NodeFits n node) (sym number) fits))

-- operands stand before the nodes that use them
pub ordered-at : (i : ℕ) (nodes : List Node) (j : ℕ) (node : Node) → AreOrderedFrom i nodes → slice_get nodes j ≡ Some node
    → NodeFits (i + j) node
ordered-at i [] j node ordered there = cc
ordered-at i (first ∷ nodes) zero node ordered there =
    let same : first ≡ node = Some-is there in
    let here : i ≡ i + 0 = omega arith in
    subst (λ n. NodeFits n node) here (subst (NodeFits i) same ordered.0)
  where
    Some-is : Some first ≡ Some node → first ≡ node
    Some-is same = cc
ordered-at i (first ∷ nodes) (suc j) node ordered there =
    let number : suc i + j ≡ i + suc j = omega arith in
    subst (λ n. NodeFits n node) number (ordered-at (suc i) nodes j node ordered.1 there)

-- ---- the clauses of definitions

-- no definition is a bit of an input or of a state
abbrev pub IsDefinition : Node → Type 0
IsDefinition (Input input bit) = ⊥
IsDefinition (State state bit) = ⊥
IsDefinition (And left right) = Unit {0}
IsDefinition (Free moment place bit computed) = Unit {0}

pub no-sources : (nodes : List Node) (j : ℕ) (node : Node) → sources_in nodes ≡ 0 → slice_get nodes j ≡ Some node → IsDefinition node
unfolding sources_in
no-sources [] j node none there = cc
no-sources (Input input bit ∷ nodes) j node none there = absurd (omega (arith, none))
no-sources (State state bit ∷ nodes) j node none there = absurd (omega (arith, none))
no-sources (And left right ∷ nodes) zero node none there = subst IsDefinition (Some-is there) tt
  where
    Some-is : Some (And left right) ≡ Some node → And left right ≡ node
    Some-is same = cc
no-sources (Free moment place bit computed ∷ nodes) zero node none there = subst IsDefinition (Some-is there) tt
  where
    Some-is : Some (Free moment place bit computed) ≡ Some node → Free moment place bit computed ≡ node
    Some-is same = cc
no-sources (And left right ∷ nodes) (suc j) node none there = no-sources nodes j node none there
no-sources (Free moment place bit computed ∷ nodes) (suc j) node none there = no-sources nodes j node none there

-- the clauses of each definition are satisfied
abbrev pub DefinitionsHold : (ℕ → Bool) → ℕ → (ℕ → List Lit) → List Node → Type 0
DefinitionsHold a base selectors nodes =
    (i : ℕ) (node : Node) → slice_get nodes i ≡ Some node → Satisfies a (node_clauses base selectors i node)

-- the assignment gives each definition its value
abbrev pub HasValues : (ℕ → Bool) → ℕ → Source → List Node → Type 0
HasValues a base e nodes = (i : ℕ) → i < length nodes → a (base + i) ≡ get_or (values e [] nodes) i false

module _ (a : ℕ → Bool) (base : ℕ) (selectors : ℕ → List Lit) (e : Source) (nodes : List Node)
    (ordered : AreOrderedFrom 0 nodes) (none : sources_in nodes ≡ 0)
    (frees : (place : ℕ) → e.frees place ≡ is_satisfied a (selectors place)) where
  abbrev all : List Bool
  all = values e [] nodes

  ordered-here : (i : ℕ) (node : Node) → slice_get nodes i ≡ Some node → NodeFits i node
  ordered-here i node there =
      let here : 0 + i ≡ i = omega arith in subst (λ n. NodeFits n node) here (ordered-at 0 nodes i node ordered there)

  value-here : (i : ℕ) (node : Node) → slice_get nodes i ≡ Some node → get_or all i false ≡ node_value e all node
  value-here i node there =
      let here : 0 + i ≡ i = omega arith in
      subst (λ n. get_or all n false ≡ node_value e all node) here
      (value-at e [] nodes i node there (ordered-at 0 nodes i node ordered there))

  -- a literal whose variable has its value
  abbrev HasValue : Literal → Type 0
  HasValue l = literal_in a base l ≡ literal_value all l

  pub has-value : (n : ℕ) (l : Literal) → ((i : ℕ) → i < n → a (base + i) ≡ get_or all i false) → IsBelow n l → HasValue l
  unfolding literal_value
  has-value n (Known value) below within = refl
  has-value n (Of node negated) below within = ap (λ b. cond negated (not b) b) (below node within)

  -- where a place is free, its bit has the value that is chosen
  abbrev pub AreChosen : Type 0
  AreChosen = (i moment place bit : ℕ) (computed : Literal) → slice_get nodes i ≡ Some (Free moment place bit computed)
      → e.frees place ≡ true → e.chosen moment place bit ≡ a (base + i)

  free-value : (i moment place bit : ℕ) (computed : Literal) (free : Bool) → e.frees place ≡ free
      → (free ≡ true → e.chosen moment place bit ≡ a (base + i))
      → (free ≡ false → a (base + i) ≡ literal_value all computed)
      → a (base + i) ≡ (if free then e.chosen moment place bit else literal_value all computed)
  free-value i moment place bit computed true is chosen same = sym (chosen refl)
  free-value i moment place bit computed false is chosen same = same refl

  module _ (hold : DefinitionsHold a base selectors nodes) (chosen : AreChosen) where
    node-from : (i : ℕ) (node : Node) → slice_get nodes i ≡ Some node → NodeFits i node → IsDefinition node
        → ((j : ℕ) → j < i → a (base + j) ≡ get_or all j false) → Satisfies a (node_clauses base selectors i node)
        → a (base + i) ≡ node_value e all node
    unfolding node_value node_clauses
    node-from i (Input input bit) there fits is below clauses = absurd is
    node-from i (State state bit) there fits is below clauses = absurd is
    node-from i (And left right) there fits is below clauses =
        and-says a base i left right clauses
        ∙ ap₂ (λ p q. p && q) (has-value i left below fits.0) (has-value i right below fits.1)
    node-from i (Free moment place bit computed) there fits is below clauses =
        free-value i moment place bit computed (e.frees place) refl
        (chosen i moment place bit computed there)
        (λ none_true. free-says a base (selectors place) i computed clauses (sym (frees place) ∙ none_true)
        ∙ has-value i computed below fits)

    from-below : (n i : ℕ) → i < n → i < length nodes → a (base + i) ≡ get_or all i false
    from-below zero i less within = absurd (omega (arith, less))
    from-below (suc n) i less within =
        let (node, there) = slice_get-some nodes i within in
        let fits : NodeFits i node = ordered-here i node there in
        node-from i node there fits (no-sources nodes i node none there)
        (λ j low. from-below n j (omega (arith, low, less)) (omega (arith, low, within))) (hold i node there)
        ∙ sym (value-here i node there)

    -- the clauses give the values
    pub definitions-from : HasValues a base e nodes
    definitions-from i within = from-below (suc i) i (omega arith) within

  -- the values satisfy the clauses
  node-to : HasValues a base e nodes → (i : ℕ) (node : Node) → slice_get nodes i ≡ Some node → i < length nodes → NodeFits i node
      → a (base + i) ≡ node_value e all node → Satisfies a (node_clauses base selectors i node)
  unfolding node_value node_clauses
  node-to has i (Input input bit) there within fits is = none-satisfied a
  node-to has i (State state bit) there within fits is = none-satisfied a
  node-to has i (And left right) there within fits is =
      and-holds a base i left right
      (is ∙ ap₂ (λ p q. p && q) (sym (has-value i left below fits.0)) (sym (has-value i right below fits.1)))
    where
      below : (j : ℕ) → j < i → a (base + j) ≡ get_or all j false
      below j low = has j (omega (arith, low, within))
  node-to has i (Free moment place bit computed) there within fits is =
      free-holds a base (selectors place) i computed
      (λ none_true. is ∙ if-false (e.frees place) (e.chosen moment place bit) (literal_value all computed) (literal_in a base computed)
      (frees place ∙ none_true) (sym (has-value i computed below fits)))
    where
      below : (j : ℕ) → j < i → a (base + j) ≡ get_or all j false
      below j low = has j (omega (arith, low, within))

  pub definitions-to : HasValues a base e nodes → DefinitionsHold a base selectors nodes
  definitions-to has i node there =
      let within : i < length nodes = slice_get_within nodes i node there in
      node-to has i node there within (ordered-here i node there) (has i within ∙ value-here i node there)

-- where each definition has its value, each literal has
pub literal-in : (a : ℕ → Bool) (base : ℕ) (e : Source) (nodes : List Node) → HasValues a base e nodes → (l : Literal)
    → IsBelow (length nodes) l → literal_in a base l ≡ literal_value (values e [] nodes) l
unfolding literal_value
literal-in a base e nodes has (Known value) within = refl
literal-in a base e nodes has (Of node negated) within = ap (λ b. cond negated (not b) b) (has node within)
