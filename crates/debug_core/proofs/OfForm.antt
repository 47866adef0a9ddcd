-- The form of a design's circuit encodes the sets that work in the design.
use Rattle.std.proofs.Common.{inl, ℕ, ◌≤◌, Bool, List, length, map, ◌∙◌, arith}
use Rattle.clause_base.specs.declared.literal.Lit.{Lit}
use Rattle.clause_base.specs.Satisfaction.{Satisfies}
use Rattle.card_counter.specs.InForm.{Follows, HasCounter}
use Rattle.card_counter.proofs.InForms.{follows}
use Rattle.suspect_map.specs.declared.group.Group.{Group}
use Rattle.design_core.specs.Works.{Works}
use Rattle.unroller.specs.Unrolls.{variables_of}
use Rattle.clause_form.specs.Clauses.{form_clauses}
use Rattle.form_laws.specs.Encodes.{IsEncoded, unrolling_of}
use Rattle.form_laws.proofs.Equivalence.{has-counter}
use Rattle.form_laws.specs.Designs.{IsOfDesign, OfDesign}
use Rattle.form_laws.proofs.DesignWorks.{encodes-design}
use Rattle.set_enum.specs.Sets.{IsSetOf, selected}
use Rattle.set_enum.proofs.Selecting.{selected-count}
use Rattle.debug_core.specs.Listed.{Encodes, IsSelected}
use Rattle.debug_core.proofs.Selected.{selected-selects, selects-selected}

module _ (of : OfDesign) (can : IsOfDesign of) where
  abbrev groups : List Group
  groups = of.asked.groups

  abbrev n : ℕ
  n = length groups

  abbrev clauses : List (List Lit)
  clauses = form_clauses (unrolling_of of.asked) groups of.asked.k

  abbrev Work : List ℕ → Type 0
  Work set = Works of.design of.asked.traces (map (λ (group : Group). group.places) groups) set

  counter : HasCounter n of.asked.k (variables_of (unrolling_of of.asked)) clauses
  counter = has-counter of.asked can.can_be_asked

  -- the counters of an assignment can be set right
  selected-works : (a : ℕ → Bool) → Satisfies a clauses → length (selected n a) ≤ of.asked.k → Work (selected n a)
  selected-works a satisfies few =
      let f : Follows n of.asked.k clauses a = follows n of.asked.k (variables_of (unrolling_of of.asked)) clauses a counter satisfies in
      (encodes-design of can of.asked.k (selected n a) (omega arith) few).0
      (record {
        assignment = f.other;
        satisfies = f.satisfies;
        bound = λ less. f.bounds of.asked.k (omega arith) less (omega (arith, few, selected-count n a));
        selects = λ v low high. f.same v (inl (omega (arith, high))) ∙ selected-selects n a v low high;
      })

  works-selected : (set : List ℕ) → IsSetOf n set → length set ≤ of.asked.k → Work set → IsSelected n clauses set
  works-selected set is few works =
      let e : IsEncoded of.asked of.asked.k set = (encodes-design of can of.asked.k set (omega arith) few).1 works in
      record { assignment = e.assignment; satisfies = e.satisfies; selects = selects-selected n e.assignment set is e.selects }

  pub encodes-list : Encodes n of.asked.k clauses (Works of.design of.asked.traces (map (λ (group : Group). group.places) groups))
  encodes-list = record { works = selected-works; some = works-selected }
