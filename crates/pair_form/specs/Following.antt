-- What the clauses of pairs say: each place follows its operands.
use Rattle.std.specs.Prelude.{ℕ, ◌≡◌, ◌<◌, ◌+◌, Bool, true, false, List, [], length, map, get_or, All, Contains}
use Rattle.gate_base.specs.declared.node.Node.{Node}
use Rattle.gate_base.specs.Nodes.{AreOrdered}
use Rattle.gate_base.specs.Meaning.{Source, values}
use Rattle.clause_base.specs.declared.literal.Lit.{Lit}
use Rattle.clause_base.specs.Satisfaction.{Satisfies}
use Rattle.unroller.specs.Reads.{IsWordBelow}
use Rattle.form_laws.specs.Models.{literal_in}
use Rattle.pair_form.specs.declared.pair.Pair.{Pair}
use Rattle.pair_form.specs.Pairs.{pairs_clauses}

-- definitions, the first of which has the variable `base`, with what they are given, an assignment of variables, and pairs
pub record OfPairs : Type 0 where
  pub base : ℕ
  pub definitions : List Node
  pub source : Source
  pub assignment : ℕ → Bool
  pub pairs : List Pair

-- the assignment gives each definition its value
abbrev pub GivesValues : ℕ → Source → List Node → (ℕ → Bool) → Type 0
GivesValues base e nodes a = (i : ℕ) → i < length nodes → a (base + i) ≡ get_or (values e [] nodes) i false

-- a pair over so many definitions: in both cycles as many operands and as many bits, each a constant or of one of the definitions;
-- the selectors stand before the definitions
pub record IsPair (base n : ℕ) (pair : Pair) : Type 0 where
  pub operands : IsWordBelow n pair.operands
  pub operands_then : IsWordBelow n pair.operands_then
  pub as_many : length pair.operands ≡ length pair.operands_then
  pub bits : IsWordBelow n pair.bits
  pub bits_then : IsWordBelow n pair.bits_then
  pub as_wide : length pair.bits ≡ length pair.bits_then
  pub groups : All (λ x. x < base) pair.groups

-- the definitions have their values, and the pairs are over them
pub record CanFollow (of : OfPairs) : Type 0 where
  pub ordered : AreOrdered of.definitions
  pub gives : GivesValues of.base of.source of.definitions of.assignment
  pub pairs : All (IsPair of.base (length of.definitions)) of.pairs

-- where a selector of the pair is true and the operands have the same values in both cycles, so have the bits
abbrev pub Follows : ℕ → (ℕ → Bool) → Pair → Type 0
Follows base a pair =
    (x : ℕ) → Contains pair.groups x → a x ≡ true
    → map (literal_in a base) pair.operands ≡ map (literal_in a base) pair.operands_then
    → map (literal_in a base) pair.bits ≡ map (literal_in a base) pair.bits_then

-- all pairs do
abbrev pub AllFollow : OfPairs → Type 0
AllFollow of = All (Follows of.base of.assignment) of.pairs

abbrev pub clauses_of_pairs : OfPairs → List (List Lit)
clauses_of_pairs of = pairs_clauses of.base of.definitions of.pairs

-- an assignment that is as the given one on the variables of the definitions and on those before, and satisfies the pairs' clauses
pub record GoesOn (of : OfPairs) : Type 0 where
  pub further : ℕ → Bool
  pub same : (v : ℕ) → v < of.base + length of.definitions → further v ≡ of.assignment v
  pub satisfies : Satisfies further (clauses_of_pairs of)

-- the clauses say that all pairs follow; and where they do, the assignment goes on to one that satisfies the clauses
pub record AddsFollowing (of : OfPairs) : Type 0 where
  pub only : Satisfies of.assignment (clauses_of_pairs of) → AllFollow of
  pub some : AllFollow of → GoesOn of
