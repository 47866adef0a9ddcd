-- The clauses of one pair say that its place follows its operands.
use Rattle.std.proofs.Common.{◌≡◌, ℕ, ◌≤◌, Bool, List, [], ◌++◌, length, map, drop, sym, ◌∙◌, ap, subst, arith}
use Rattle.std.proofs.lemmas.List.{length-map}
use Rattle.std.proofs.Math.Seq.{drop-append_seam}
use Rattle.gate_base.specs.declared.node.Node.{Node}
use Rattle.gate_base.specs.Nodes.{AddsAnds, AreOrdered, Word}
use Rattle.gate_base.specs.Meaning.{Source, Grown}
use Rattle.clause_base.specs.declared.literal.Lit.{Lit}
use Rattle.clause_base.specs.Satisfaction.{Satisfies}
use Rattle.card_counter.proofs.Said.{satisfies-front, satisfies-behind, satisfies-both}
use Rattle.clause_form.specs.Clauses.{nodes_clauses}
use Rattle.form_laws.specs.Models.{literal_in}
use Rattle.form_laws.proofs.ClauseValues.{some_true}
use Rattle.form_laws.proofs.Definitions.{HasValues}
use Rattle.pair_form.specs.declared.pair.Pair.{Pair}
use Rattle.pair_form.specs.Pairs.{bits_clauses, pair_made, pair_clauses}
use Rattle.pair_form.specs.Following.{Follows, IsPair}
use Rattle.pair_form.proofs.Bits.{bits-say, bits-hold}
use Rattle.pair_form.proofs.Ands.{ands-say, ands-hold}
use Rattle.pair_form.proofs.Differing.{word-more, differ-grown, differ-adds, words_differ, differ-none, differ-same, differ-value}

pub pair-grown : (base : ℕ) (e : Source) (nodes : List Node) (pair : Pair) → IsPair base (length nodes) pair → Grown nodes (pair_made nodes pair).nodes
pair-grown base e nodes pair is = differ-grown e nodes [] pair.operands pair.operands_then is.operands is.operands_then

-- a pair stays one as definitions follow
pub pair-more : (base n k : ℕ) (pair : Pair) → n ≤ k → IsPair base n pair → IsPair base k pair
pair-more base n k pair more is =
    record {
      operands = word-more n k pair.operands more is.operands;
      operands_then = word-more n k pair.operands_then more is.operands_then;
      as_many = is.as_many;
      bits = word-more n k pair.bits more is.bits;
      bits_then = word-more n k pair.bits_then more is.bits_then;
      as_wide = is.as_wide;
      groups = is.groups;
    }

module _ (a : ℕ → Bool) (base : ℕ) (e : Source) (nodes : List Node) (pair : Pair) (ordered : AreOrdered nodes) (is : IsPair base (length nodes) pair) where
  abbrev made : Word
  made = pair_made nodes pair

  adds : AddsAnds nodes made.nodes
  adds = differ-adds nodes [] pair.operands pair.operands_then

  behind : drop (length nodes) made.nodes ≡ adds.more
  behind = ap (drop (length nodes)) adds.is ∙ drop-append_seam nodes adds.more

  in_order : AreOrdered (nodes ++ adds.more)
  in_order = subst AreOrdered adds.is ((pair-grown base e nodes pair is).ordered ordered)

  abbrev new_clauses : List (List Lit)
  new_clauses = nodes_clauses base (λ _. []) (length nodes) (drop (length nodes) made.nodes)

  abbrev own_clauses : List (List Lit)
  own_clauses = bits_clauses base made.bits pair.bits pair.bits_then pair.groups

  -- whether some operand differs
  differs : HasValues a base e made.nodes
      → some_true a base made.bits ≡ words_differ (map (literal_in a base) pair.operands) (map (literal_in a base) pair.operands_then)
  differs has = differ-value a base e nodes [] pair.operands pair.operands_then is.operands is.operands_then has

  pub pair-gives : HasValues a base e nodes → Satisfies a (pair_clauses base nodes pair) → HasValues a base e made.nodes
  unfolding pair_clauses
  pair-gives has all =
      subst (HasValues a base e) (sym adds.is)
      (ands-say a base e nodes adds.more adds.no_sources adds.no_frees in_order has
      (subst (λ xs. Satisfies a (nodes_clauses base (λ _. []) (length nodes) xs)) behind (satisfies-front a new_clauses own_clauses all)))

  pub pair-says : HasValues a base e made.nodes → Satisfies a (pair_clauses base nodes pair) → Follows base a pair
  unfolding pair_clauses
  pair-says has all x member on same =
      bits-say a base made.bits pair.bits pair.bits_then pair.groups is.as_wide (satisfies-behind a new_clauses own_clauses all) x member on
      (differs has ∙ differ-same (map (literal_in a base) pair.operands) (map (literal_in a base) pair.operands_then) same)

  pub pair-holds : HasValues a base e made.nodes → Follows base a pair → Satisfies a (pair_clauses base nodes pair)
  unfolding pair_clauses
  pair-holds has follows =
      satisfies-both a new_clauses own_clauses
      (subst (λ xs. Satisfies a (nodes_clauses base (λ _. []) (length nodes) xs)) (sym behind)
      (ands-hold a base e nodes adds.more adds.no_sources adds.no_frees in_order (subst (HasValues a base e) adds.is has)))
      (bits-hold a base made.bits pair.bits pair.bits_then pair.groups
      (λ x member on none.
      follows x member on
      (differ-none (map (literal_in a base) pair.operands) (map (literal_in a base) pair.operands_then) as_many (sym (differs has) ∙ none))))
    where
      as_many : length (map (literal_in a base) pair.operands) ≡ length (map (literal_in a base) pair.operands_then)
      as_many =
          omega (arith, length-map pair.operands (literal_in a base), length-map pair.operands_then (literal_in a base), is.as_many)
