-- The clauses of all pairs, and an assignment that goes on to satisfy them.
use Rattle.std.proofs.Common.{◌≡◌, ℕ, ◌+◌, ◌-◌, ◌<◌, ◌≤◌, Bool, false, not, if◌then◌else◌, List, [], ◌∷◌, length, map, get_or, refl, sym, ◌∙◌, ap, ap₂, subst, arith, ◌⊎◌, inl, inr}
use Rattle.std.specs.Prelude.{All, cond, nat_lt}
use Rattle.std.proofs.lemmas.Bool.{cases_lt, lt-ltb, le-ltb}
use Rattle.std.proofs.lemmas.List.Elements.{All-nil, All-cons, All-head, All-tail, All-weaker, All-contains}
use Rattle.loc_base.proofs.ShelfBools.{if-true, if-false}
use Rattle.gate_base.specs.declared.literal.Literal.{Literal}
use Rattle.gate_base.specs.declared.literal.Literal.TheVariants.{Known, Of}
use Rattle.gate_base.specs.declared.node.Node.{Node}
use Rattle.gate_base.specs.Literals.{IsBelow}
use Rattle.gate_base.specs.Nodes.{AreOrdered}
use Rattle.gate_base.specs.Meaning.{Source, Grown, values}
use Rattle.gate_base.proofs.Meaning.{grown-none, grown-then}
use Rattle.clause_base.specs.Satisfaction.{Satisfies}
use Rattle.card_counter.proofs.Said.{satisfies-front, satisfies-behind, satisfies-both}
use Rattle.unroller.specs.Reads.{IsWordBelow}
use Rattle.form_laws.specs.Models.{literal_in}
use Rattle.form_laws.proofs.ClauseValues.{none-satisfied}
use Rattle.form_laws.proofs.Definitions.{HasValues}
use Rattle.pair_form.specs.declared.pair.Pair.{Pair}
use Rattle.pair_form.specs.Pairs.{pair_made, pair_clauses, pairs_made, pairs_clauses}
use Rattle.pair_form.specs.Following.{OfPairs, CanFollow, IsPair, Follows, AllFollow, GoesOn, AddsFollowing}
use Rattle.pair_form.proofs.Ands.{values-stay, front-values}
use Rattle.pair_form.proofs.Differing.{grown-length}
use Rattle.pair_form.proofs.PairMeans.{pair-grown, pair-more, pair-gives, pair-says, pair-holds}

-- the pairs behind one are pairs of the definitions behind it
rest-pairs : (base : ℕ) (e : Source) (nodes : List Node) (pair : Pair) (pairs : List Pair) → All (IsPair base (length nodes)) (pair ∷ pairs)
    → All (IsPair base (length (pair_made nodes pair).nodes)) pairs
rest-pairs base e nodes pair pairs are =
    let more = grown-length (pair-grown base e nodes pair (All-head (IsPair base (length nodes)) pair pairs are)) in
    All-weaker (IsPair base (length nodes)) (IsPair base (length (pair_made nodes pair).nodes))
    (λ other is. pair-more base (length nodes) (length (pair_made nodes pair).nodes) other more is) pairs
    (All-tail (IsPair base (length nodes)) pair pairs are)

pub pairs-grown : (base : ℕ) (e : Source) (nodes : List Node) (pairs : List Pair) → All (IsPair base (length nodes)) pairs → Grown nodes (pairs_made nodes pairs)
unfolding pairs_made
pairs-grown base e nodes [] are = grown-none nodes
pairs-grown base e nodes (pair ∷ pairs) are =
    grown-then (pair-grown base e nodes pair (All-head (IsPair base (length nodes)) pair pairs are))
    (pairs-grown base e (pair_made nodes pair).nodes pairs (rest-pairs base e nodes pair pairs are))

-- definitions that have their values have them before more follow
before-grown : (a : ℕ → Bool) (base : ℕ) (e : Source) (nodes final : List Node) → Grown nodes final → HasValues a base e final → HasValues a base e nodes
before-grown a base e nodes final grown has = front-values a base e nodes grown.more (subst (HasValues a base e) grown.is has)

pub pairs-say : (a : ℕ → Bool) (base : ℕ) (e : Source) (nodes : List Node) (pairs : List Pair) → AreOrdered nodes → HasValues a base e nodes
    → All (IsPair base (length nodes)) pairs → Satisfies a (pairs_clauses base nodes pairs) → All (Follows base a) pairs
unfolding pairs_clauses
pairs-say a base e nodes [] ordered has are all = All-nil (Follows base a)
pairs-say a base e nodes (pair ∷ pairs) ordered has are all =
    let is = All-head (IsPair base (length nodes)) pair pairs are in
    let m = pair_made nodes pair in
    let one = satisfies-front a (pair_clauses base nodes pair) (pairs_clauses base m.nodes pairs) all in
    let gives = pair-gives a base e nodes pair ordered is has one in
    All-cons (Follows base a) pair pairs (pair-says a base e nodes pair ordered is gives one)
    (pairs-say a base e m.nodes pairs ((pair-grown base e nodes pair is).ordered ordered) gives (rest-pairs base e nodes pair pairs are)
    (satisfies-behind a (pair_clauses base nodes pair) (pairs_clauses base m.nodes pairs) all))

pub pairs-hold : (a : ℕ → Bool) (base : ℕ) (e : Source) (nodes : List Node) (pairs : List Pair) → AreOrdered nodes
    → All (IsPair base (length nodes)) pairs → HasValues a base e (pairs_made nodes pairs) → All (Follows base a) pairs
    → Satisfies a (pairs_clauses base nodes pairs)
unfolding pairs_clauses pairs_made
pairs-hold a base e nodes [] ordered are has follow = none-satisfied a
pairs-hold a base e nodes (pair ∷ pairs) ordered are has follow =
    let is = All-head (IsPair base (length nodes)) pair pairs are in
    let m = pair_made nodes pair in
    let rest = rest-pairs base e nodes pair pairs are in
    satisfies-both a (pair_clauses base nodes pair) (pairs_clauses base m.nodes pairs)
    (pair-holds a base e nodes pair ordered is
    (before-grown a base e m.nodes (pairs_made m.nodes pairs) (pairs-grown base e m.nodes pairs rest) has)
    (All-head (Follows base a) pair pairs follow))
    (pairs-hold a base e m.nodes pairs ((pair-grown base e nodes pair is).ordered ordered) rest has (All-tail (Follows base a) pair pairs follow))

-- ---- an assignment that goes on

module _ (a : ℕ → Bool) (base : ℕ) (e : Source) (nodes final : List Node) (grown : Grown nodes final) (has : HasValues a base e nodes) where
  -- the assignment on what stands before and on the first definitions, and behind them the values of the others
  abbrev pub further : ℕ → Bool
  further v = if nat_lt v (base + length nodes) then a v else get_or (values e [] final) (v - base) false

  pub further-same : (v : ℕ) → v < base + length nodes → further v ≡ a v
  further-same v below = if-true (nat_lt v (base + length nodes)) (a v) (get_or (values e [] final) (v - base) false) (a v) (lt-ltb v (base + length nodes) below) refl

  pub further-has : HasValues further base e final
  further-has i within = by (cases_lt i (length nodes))
    where
      stays : i < length nodes → get_or (values e [] final) i false ≡ get_or (values e [] nodes) i false
      stays below = ap (λ xs. get_or (values e [] xs) i false) grown.is ∙ values-stay e nodes grown.more i below

      place : (base + i) - base ≡ i
      place = omega arith

      by : (i < length nodes) ⊎ (length nodes ≤ i) → further (base + i) ≡ get_or (values e [] final) i false
      by (inl below) = further-same (base + i) (omega (arith, below)) ∙ has i below ∙ sym (stays below)
      by (inr least) =
          if-false (nat_lt (base + i) (base + length nodes)) (a (base + i)) (get_or (values e [] final) ((base + i) - base) false) (get_or (values e [] final) i false)
          (le-ltb (base + i) (base + length nodes) (omega (arith, least))) (ap (λ n. get_or (values e [] final) n false) place)

  further-literal : (l : Literal) → IsBelow (length nodes) l → literal_in further base l ≡ literal_in a base l
  further-literal (Known value) below = refl
  further-literal (Of node negated) below = ap (λ b. cond negated (not b) b) (further-same (base + node) (omega (arith, below)))

  further-word : (xs : List Literal) → IsWordBelow (length nodes) xs → map (literal_in further base) xs ≡ map (literal_in a base) xs
  further-word [] below = refl
  further-word (x ∷ xs) below = ap₂ (λ v vs. v ∷ vs) (further-literal x below.0) (further-word xs below.1)

  pub further-follows : (pair : Pair) → IsPair base (length nodes) pair → Follows base a pair → Follows base further pair
  further-follows pair is follows x member on same =
      let low : x < base = All-contains (λ g. g < base) pair.groups x is.groups member in
      further-word pair.bits is.bits
      ∙ follows x member (sym (further-same x (omega (arith, low))) ∙ on)
      (sym (further-word pair.operands is.operands) ∙ same ∙ further-word pair.operands_then is.operands_then)
      ∙ sym (further-word pair.bits_then is.bits_then)

  pub further-all : (pairs : List Pair) → All (IsPair base (length nodes)) pairs → All (Follows base a) pairs → All (Follows base further) pairs
  further-all [] are follow = All-nil (Follows base further)
  further-all (pair ∷ pairs) are follow =
      All-cons (Follows base further) pair pairs
      (further-follows pair (All-head (IsPair base (length nodes)) pair pairs are) (All-head (Follows base a) pair pairs follow))
      (further-all pairs (All-tail (IsPair base (length nodes)) pair pairs are) (All-tail (Follows base a) pair pairs follow))

pub adds-following : (of : OfPairs) → CanFollow of → AddsFollowing of
adds-following of can =
    record {
      only = λ all. pairs-say of.assignment of.base of.source of.definitions of.pairs can.ordered can.gives can.pairs all;
      some = goes-on;
    }
  where
    final : List Node
    final = pairs_made of.definitions of.pairs

    grown : Grown of.definitions final
    grown = pairs-grown of.base of.source of.definitions of.pairs can.pairs

    goes-on : AllFollow of → GoesOn of
    goes-on follow =
        record {
          further = further of.assignment of.base of.source of.definitions final grown can.gives;
          same = further-same of.assignment of.base of.source of.definitions final grown can.gives;
          satisfies = pairs-hold (further of.assignment of.base of.source of.definitions final grown can.gives) of.base of.source of.definitions of.pairs can.ordered can.pairs
              (further-has of.assignment of.base of.source of.definitions final grown can.gives)
              (further-all of.assignment of.base of.source of.definitions final grown can.gives of.pairs can.pairs follow);
        }
