-- ANDs behind definitions that have their values: they get theirs from their clauses, and the other way round.
use Rattle.std.proofs.Common.{◌≡◌, ℕ, ◌+◌, ◌<◌, ◌≤◌, Bool, false, ◌&&◌, List, [], ◌∷◌, ◌++◌, length, get_or, Some, refl, sym, ◌∙◌, ap, ap₂, subst, arith, append_assoc, length-append, ◌⊎◌, inl, inr}
use Rattle.std.specs.Prelude.{slice_get}
use Rattle.std.proofs.lemmas.List.{get_or_append_left, append-nil}
use Rattle.std.proofs.lemmas.Bool.{cases_lt}
use Rattle.std.proofs.Math.Seq.{get_or-append_seam}
use Rattle.gate_base.specs.declared.literal.Literal.{Literal}
use Rattle.gate_base.specs.declared.node.Node.{Node}
use Rattle.gate_base.specs.declared.node.Node.TheVariants.{Input, State, And, Free}
use Rattle.gate_base.specs.Nodes.{NodeFits, AreOrdered, sources_in, frees_in}
use Rattle.gate_base.specs.Meaning.{Source, node_value, values}
use Rattle.gate_base.proofs.Meaning.{values-append, length-values}
use Rattle.clause_base.specs.Satisfaction.{Satisfies}
use Rattle.card_counter.proofs.Said.{satisfies-front, satisfies-behind, satisfies-both}
use Rattle.clause_form.specs.Clauses.{node_clauses, nodes_clauses, and_clauses}
use Rattle.form_laws.specs.Models.{literal_in}
use Rattle.form_laws.proofs.ClauseValues.{none-satisfied, and-says, and-holds}
use Rattle.form_laws.proofs.Definitions.{HasValues, ordered-at, literal-in}

-- the values that are known stay
pub values-known : (e : Source) (known : List Bool) (nodes : List Node) (i : ℕ) → i < length known → get_or (values e known nodes) i false ≡ get_or known i false
unfolding values
values-known e known [] i within = refl
values-known e known (node ∷ nodes) i within =
    values-known e (known ++ node_value e known node ∷ []) nodes i (omega (arith, length-append known (node_value e known node ∷ [])))
    ∙ get_or_append_left known (node_value e known node ∷ []) false i within

long : (e : Source) (nodes : List Node) → length (values e [] nodes) ≡ length nodes
long e nodes = omega (arith, length-values e [] nodes)

-- the values of definitions stay as more follow
pub values-stay : (e : Source) (nodes more : List Node) (i : ℕ) → i < length nodes → get_or (values e [] (nodes ++ more)) i false ≡ get_or (values e [] nodes) i false
values-stay e nodes more i within =
    ap (λ v. get_or v i false) (values-append e [] nodes more)
    ∙ values-known e (values e [] nodes) more i (omega (arith, long e nodes, within))

pub front-values : (a : ℕ → Bool) (base : ℕ) (e : Source) (nodes more : List Node) → HasValues a base e (nodes ++ more) → HasValues a base e nodes
front-values a base e nodes more has i within = has i (omega (arith, length-append nodes more, within)) ∙ values-stay e nodes more i within

-- the value of a node behind others
last-value : (e : Source) (nodes : List Node) (node : Node) → get_or (values e [] (nodes ++ node ∷ [])) (length nodes) false ≡ node_value e (values e [] nodes) node
unfolding values
last-value e nodes node =
    let known = values e [] nodes in
    ap (λ v. get_or v (length nodes) false) (values-append e [] nodes (node ∷ []))
    ∙ ap (λ n. get_or (known ++ node_value e known node ∷ []) n false) (sym (long e nodes))
    ∙ get_or-append_seam known (node_value e known node) [] false

module _ (a : ℕ → Bool) (base : ℕ) (e : Source) where
  -- what an AND of definitions that have their values is
  and-value : (nodes : List Node) (x y : Literal) → HasValues a base e nodes → NodeFits (length nodes) (And x y)
      → node_value e (values e [] nodes) (And x y) ≡ (literal_in a base x && literal_in a base y)
  unfolding node_value
  and-value nodes x y has fits =
      sym (ap₂ (λ p q. p && q) (literal-in a base e nodes has x fits.0) (literal-in a base e nodes has y fits.1))

  one-more : (nodes : List Node) (x y : Literal) → HasValues a base e nodes → NodeFits (length nodes) (And x y)
      → a (base + length nodes) ≡ (literal_in a base x && literal_in a base y) → HasValues a base e (nodes ++ And x y ∷ [])
  one-more nodes x y has fits is i within = by (cases_lt i (length nodes))
    where
      by : (i < length nodes) ⊎ (length nodes ≤ i) → a (base + i) ≡ get_or (values e [] (nodes ++ And x y ∷ [])) i false
      by (inl below) = has i below ∙ sym (values-stay e nodes (And x y ∷ []) i below)
      by (inr least) =
          let last : length nodes ≡ i = omega (arith, least, within, length-append nodes (And x y ∷ [])) in
          subst (λ n. a (base + n) ≡ get_or (values e [] (nodes ++ And x y ∷ [])) n false) last
          (is ∙ sym (and-value nodes x y has fits) ∙ sym (last-value e nodes (And x y)))

  the-last : (nodes : List Node) (x y : Literal) → HasValues a base e (nodes ++ And x y ∷ []) → NodeFits (length nodes) (And x y)
      → a (base + length nodes) ≡ (literal_in a base x && literal_in a base y)
  the-last nodes x y has fits =
      has (length nodes) (omega (arith, length-append nodes (And x y ∷ [])))
      ∙ last-value e nodes (And x y) ∙ and-value nodes x y (front-values a base e nodes (And x y ∷ []) has) fits

  fits-here : (nodes : List Node) (node : Node) (more : List Node) → AreOrdered (nodes ++ node ∷ more) → NodeFits (length nodes) node
  fits-here nodes node more ordered =
      let here : 0 + length nodes ≡ length nodes = omega arith in
      subst (λ n. NodeFits n node) here (ordered-at 0 (nodes ++ node ∷ more) (length nodes) node ordered (seam nodes))
    where
      seam : (front : List Node) → slice_get (front ++ node ∷ more) (length front) ≡ Some node
      seam [] = refl
      seam (first ∷ front) = seam front

  regrouped : (nodes : List Node) (node : Node) (more : List Node) → nodes ++ node ∷ more ≡ (nodes ++ node ∷ []) ++ more
  regrouped nodes node more = sym (append_assoc nodes (node ∷ []) more)

  next-number : (nodes : List Node) (node : Node) → length (nodes ++ node ∷ []) ≡ length nodes + 1
  next-number nodes node = length-append nodes (node ∷ [])

  -- their clauses give ANDs behind others their values
  pub ands-say : (nodes more : List Node) → sources_in more ≡ 0 → frees_in more ≡ 0 → AreOrdered (nodes ++ more) → HasValues a base e nodes
      → Satisfies a (nodes_clauses base (λ _. []) (length nodes) more) → HasValues a base e (nodes ++ more)
  unfolding nodes_clauses node_clauses sources_in frees_in
  ands-say nodes [] none no_frees ordered has all = subst (HasValues a base e) (sym (append-nil nodes)) has
  ands-say nodes (Input input bit ∷ more) none no_frees ordered has all = absurd (omega (arith, none))
  ands-say nodes (State state bit ∷ more) none no_frees ordered has all = absurd (omega (arith, none))
  ands-say nodes (Free moment place bit f ∷ more) none no_frees ordered has all = absurd (omega (arith, no_frees))
  ands-say nodes (And x y ∷ more) none no_frees ordered has all =
      let fits : NodeFits (length nodes) (And x y) = fits-here nodes (And x y) more ordered in
      let here = and_clauses base (length nodes) x y in
      let rest = nodes_clauses base (λ _. []) (length nodes + 1) more in
      subst (HasValues a base e) (sym (regrouped nodes (And x y) more))
      (ands-say (nodes ++ And x y ∷ []) more none no_frees (subst AreOrdered (regrouped nodes (And x y) more) ordered)
      (one-more nodes x y has fits (and-says a base (length nodes) x y (satisfies-front a here rest all)))
      (subst (λ n. Satisfies a (nodes_clauses base (λ _. []) n more)) (sym (next-number nodes (And x y))) (satisfies-behind a here rest all)))

  -- and their values satisfy the clauses
  pub ands-hold : (nodes more : List Node) → sources_in more ≡ 0 → frees_in more ≡ 0 → AreOrdered (nodes ++ more) → HasValues a base e (nodes ++ more)
      → Satisfies a (nodes_clauses base (λ _. []) (length nodes) more)
  unfolding nodes_clauses node_clauses sources_in frees_in
  ands-hold nodes [] none no_frees ordered has = none-satisfied a
  ands-hold nodes (Input input bit ∷ more) none no_frees ordered has = absurd (omega (arith, none))
  ands-hold nodes (State state bit ∷ more) none no_frees ordered has = absurd (omega (arith, none))
  ands-hold nodes (Free moment place bit f ∷ more) none no_frees ordered has = absurd (omega (arith, no_frees))
  ands-hold nodes (And x y ∷ more) none no_frees ordered has =
      let fits : NodeFits (length nodes) (And x y) = fits-here nodes (And x y) more ordered in
      let next : HasValues a base e ((nodes ++ And x y ∷ []) ++ more) = subst (HasValues a base e) (regrouped nodes (And x y) more) has in
      satisfies-both a (and_clauses base (length nodes) x y) (nodes_clauses base (λ _. []) (length nodes + 1) more)
      (and-holds a base (length nodes) x y (the-last nodes x y (front-values a base e (nodes ++ And x y ∷ []) more next) fits))
      (subst (λ n. Satisfies a (nodes_clauses base (λ _. []) n more)) (next-number nodes (And x y))
      (ands-hold (nodes ++ And x y ∷ []) more none no_frees (subst AreOrdered (regrouped nodes (And x y) more) ordered) next))
