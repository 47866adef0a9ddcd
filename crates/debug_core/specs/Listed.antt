-- Sets of suspects that are listed from a form: its clauses encode which sets work, and each set that was listed is blocked.
use Rattle.std.specs.Prelude.{ℕ, ◌≡◌, ◌≤◌, Bool, IsTrue, List, ◌++◌, length, map, All, AllPairs, Contains}
use Rattle.loc_base.specs.Sets.{is_before}
use Rattle.design_core.specs.declared.design.Design.{Design}
use Rattle.design_core.specs.declared.trace.Trace.{Trace}
use Rattle.design_core.specs.Works.{Groups, IsSet, IsWithin, Works}
use Rattle.clause_base.specs.declared.literal.Lit.{Lit}
use Rattle.clause_base.specs.declared.log.Step.{Step}
use Rattle.clause_base.specs.Acceptance.{Follows}
use Rattle.clause_base.specs.Satisfaction.{Satisfies}
use Rattle.card_counter.specs.InForm.{HasCounter}
use Rattle.card_counter.specs.Shows.{Shows, last_of}
use Rattle.clause_form.specs.Clauses.{form_clauses}
use Rattle.form_laws.specs.Encodes.{unrolling_of}
use Rattle.form_laws.specs.Designs.{OfDesign}
use Rattle.set_enum.specs.Sets.{IsSetOf, block_of, selected}

-- some assignment of the clauses selects the set
pub record IsSelected (n : ℕ) (clauses : List (List Lit)) (set : List ℕ) : Type 0 where
  pub assignment : ℕ → Bool
  pub satisfies : Satisfies assignment clauses
  pub selects : selected n assignment ≡ set

-- the clauses encode which sets of at most k of the suspects from 1 to n work: what an assignment of them selects works, where it is
-- at most k suspects, and each such set that works is selected
pub record Encodes (n k : ℕ) (clauses : List (List Lit)) (Work : List ℕ → Type 0) : Type 0 where
  pub works : (assignment : ℕ → Bool) → Satisfies assignment clauses → length (selected n assignment) ≤ k → Work (selected n assignment)
  pub some : (set : List ℕ) → IsSetOf n set → length set ≤ k → Work set → IsSelected n clauses set

-- the form of a design's circuit encodes the sets that work in the design
abbrev pub EncodesForm : OfDesign → Type 0
EncodesForm of =
    Encodes (length of.asked.groups) of.asked.k (form_clauses (unrolling_of of.asked) of.asked.groups of.asked.k)
    (Works of.design of.asked.traces (map (λ group. group.places) of.asked.groups))

-- a design, its traces and suspects, the greatest size of a set, clauses, and the sets that were listed
pub record Listed : Type 0 where
  pub design : Design
  pub traces : List Trace
  pub groups : Groups
  pub k : ℕ
  pub clauses : List (List Lit)
  pub listed : List (List ℕ)

-- the clauses encode the sets that work in the design
abbrev pub EncodesListed : Listed → Type 0
EncodesListed of = Encodes (length of.groups) of.k of.clauses (Works of.design of.traces of.groups)

-- the clauses with the blocks of the sets that were listed
abbrev pub with_blocks : Listed → List (List Lit)
with_blocks of = of.clauses ++ map block_of of.listed

-- one set more is listed
pub record ListedNext : Type 0 where
  pub before : Listed
  pub set : List ℕ

-- the sets have at most k suspects each; they work, stand in order, and none is within another
pub record AreGiven (of : Listed) : Type 0 where
  pub suspects : All (IsSet of.groups) of.listed
  pub sizes : All (λ set. length set ≤ of.k) of.listed
  pub works : All (Works of.design of.traces of.groups) of.listed
  pub ordered : AllPairs (λ one other. IsTrue (is_before one other)) of.listed
  pub apart : (one other : List ℕ) → Contains of.listed one → Contains of.listed other → IsWithin one other → one ≡ other

-- a list with the number of its clauses' variables and a log
pub record LoggedList : Type 0 where
  pub list : Listed
  pub vars : ℕ
  pub log : List Step

-- the clauses have the suspects' counter; and the log follows from them and the blocks of the sets, and shows that no set is missing before
-- the last one
pub record IsShownFront (of : LoggedList) : Type 0 where
  pub counter : HasCounter (length of.list.groups) of.list.k of.vars of.list.clauses
  pub follows : Follows of.list.clauses (map block_of of.list.listed) of.log
  pub shows : Shows (length of.list.groups) of.list.k (last_of of.list.listed) of.log
