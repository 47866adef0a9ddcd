-- The clauses of a cycle: those of its definitions, then those of its outputs.
use Rattle.std.proofs.Common.{◌≡◌, ℕ, ◌+◌, ◌*◌, ◌<◌, ◌≤◌, List, [], ◌∷◌, ◌++◌, length, get_or, refl, sym, ◌∙◌, ap, ap₂, arith}
use Rattle.std.specs.Prelude.{slice_range}
use Rattle.gate_base.specs.declared.literal.Literal.{Literal}
use Rattle.gate_base.specs.declared.node.Node.{Node}
use Rattle.design_core.specs.declared.trace.Checked.{Checked}
use Rattle.design_core.specs.Given.{row}
use Rattle.clause_base.specs.declared.literal.Lit.{Lit}
use Rattle.unroller.specs.Unrolls.{Unrolling}
use Rattle.clause_form.specs.Clauses.{nodes_clauses, words_clauses, cycle_clauses}
use Rattle.clause_form.specs.Fields.{Sunk, after}
use Rattle.unroller.specs.Reads.{IsUnrolled}
use Rattle.clause_form.proofs.WalkSteps.{count-more, expected-there, length-part}
use Rattle.clause_form.proofs.NodeSteps.{then-one}

module _ (s0 : Sunk) (u : Unrolling) (selectors : ℕ → List Lit) (t from first : ℕ) (nodes : List Node) (expected : List Checked)
    (rows : List (List Literal)) where
  -- what a cycle is made of, as the code finds it
  pub record CycleParts : Type 0 where
    pub is_base : s0.base ≡ u.base
    pub is_from : from ≡ get_or (0 ∷ u.ends) t 0
    pub is_nodes : nodes ≡ slice_range u.definitions (get_or (0 ∷ u.ends) t 0) (get_or u.ends t 0)
    pub is_expected : expected ≡ row u.expected u.each t
    pub is_rows : rows ≡ u.outputs
    pub is_first : first ≡ t * u.each
    pub is_long : length expected ≡ u.each

  abbrev pub of_nodes : ℕ → List (List Lit)
  of_nodes base = nodes_clauses base selectors from nodes

  abbrev pub of_words : ℕ → List (List Lit)
  of_words base = words_clauses base expected (slice_range rows first (first + length expected))

  abbrev pub of_cycle : List (List Lit)
  of_cycle = cycle_clauses u selectors t (get_or (0 ∷ u.ends) t 0) (get_or u.ends t 0)

  in-parts : CycleParts → of_cycle ≡ of_nodes s0.base ++ of_words s0.base
  unfolding cycle_clauses
  in-parts is = sym (ap₂ (λ a b. a ++ b) first_part (second_part ∙ bounds))
    where
      first_part : nodes_clauses s0.base selectors from nodes
          ≡ nodes_clauses u.base selectors (get_or (0 ∷ u.ends) t 0) (slice_range u.definitions (get_or (0 ∷ u.ends) t 0) (get_or u.ends t 0))
      first_part =
          ap (λ b. nodes_clauses b selectors from nodes) is.is_base
          ∙ ap₂ (λ f ns. nodes_clauses u.base selectors f ns) is.is_from is.is_nodes

      second_part : words_clauses s0.base expected (slice_range rows first (first + length expected))
          ≡ words_clauses u.base (row u.expected u.each t) (slice_range u.outputs first (first + length expected))
      second_part =
          ap (λ b. words_clauses b expected (slice_range rows first (first + length expected))) is.is_base
          ∙ ap₂ (λ es ws. words_clauses u.base es (slice_range ws first (first + length expected))) is.is_expected is.is_rows

      bounds : words_clauses u.base (row u.expected u.each t) (slice_range u.outputs first (first + length expected))
          ≡ words_clauses u.base (row u.expected u.each t) (row u.outputs u.each t)
      bounds =
          ap₂ (λ f n. words_clauses u.base (row u.expected u.each t) (slice_range u.outputs f (f + n))) is.is_first is.is_long

  pub cycle-done : CycleParts → (s1 s2 : Sunk) → s1 ≡ after s0 (of_nodes s0.base) → s2 ≡ after s1 (of_words s1.base)
      → s2 ≡ after s0 of_cycle
  cycle-done is s1 s2 one two =
      then-one s0 s1 (of_nodes s0.base) of_words s2 one two ∙ ap (after s0) (sym (in-parts is))

  pub cycle-count-one : CycleParts → (after s0 (of_nodes s0.base)).count ≤ (after s0 of_cycle).count
  cycle-count-one is =
      omega (arith, ap (λ cs. (after s0 cs).count) (in-parts is), count-more s0 (of_nodes s0.base) (of_words s0.base))

  pub cycle-count-two : CycleParts → (s1 : Sunk) → s1 ≡ after s0 (of_nodes s0.base)
      → (after s1 (of_words s1.base)).count ≤ (after s0 of_cycle).count
  cycle-count-two is s1 one =
      omega (arith, ap (λ s. s.count) (cycle-done is s1 (after s1 (of_words s1.base)) one refl))

  -- the parts, by what the calls of a form give
  pub parts-of : IsUnrolled u → t < length u.ends → s0.base ≡ u.base → from ≡ get_or (0 ∷ u.ends) t 0
      → nodes ≡ slice_range u.definitions (get_or (0 ∷ u.ends) t 0) (get_or u.ends t 0) → expected ≡ row u.expected u.each t → rows ≡ u.outputs
      → first ≡ t * u.each → CycleParts
  parts-of kept within base start definitions wanted outputs begin = record {
    is_base = base;
    is_from = start;
    is_nodes = definitions;
    is_expected = wanted;
    is_rows = outputs;
    is_first = begin;
    is_long = ap length wanted ∙ length-part u.expected (t * u.each) u.each (expected-there u kept t within);
  }
