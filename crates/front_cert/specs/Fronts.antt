-- Lists of sets whose logs show that they are fronts.
use Rattle.std.specs.Prelude.{◌≡◌, ℕ, ◌≤◌, ◌↔◌, Bool, true, IsTrue, List, length, map, All, AllPairs, Contains}
use Rattle.design_core.specs.declared.design.Design.{Design}
use Rattle.design_core.specs.declared.trace.Trace.{Trace}
use Rattle.loc_base.specs.Sets.{is_before}
use Rattle.design_core.specs.Listing.{IsFront}
use Rattle.design_core.specs.Works.{Groups, IsSet, IsWithin, Works}
use Rattle.clause_base.specs.declared.literal.Lit.{Lit}
use Rattle.clause_base.specs.declared.log.Step.{Step}
use Rattle.clause_base.specs.Acceptance.{Follows}
use Rattle.clause_base.specs.Literal.{negative}
use Rattle.clause_base.specs.Satisfaction.{Satisfies}
use Rattle.card_counter.specs.InForm.{HasCounter}
use Rattle.card_counter.specs.Shows.{Shows, last_of}

-- of the variables from 1 to n the assignment makes the set's members true, and no other
abbrev pub Selects : (ℕ → Bool) → ℕ → List ℕ → Type 0
Selects assignment n set = (v : ℕ) → 1 ≤ v → v ≤ n → (assignment v ≡ true) ↔ Contains set v

-- some assignment of the form selects the set
pub record IsChosen (n : ℕ) (form : List (List Lit)) (set : List ℕ) : Type 0 where
  pub assignment : ℕ → Bool
  pub satisfies : Satisfies assignment form
  pub selects : Selects assignment n set

-- the clause that not all members of a set are true
abbrev pub block : List ℕ → List Lit
block set = map negative set

-- sets of at most k suspects of a design that were listed, and the log over a form that was written meanwhile
pub record Claimed : Type 0 where
  pub design : Design
  pub traces : List Trace
  pub groups : Groups
  pub k : ℕ
  pub vars : ℕ
  pub form : List (List Lit)
  pub listed : List (List ℕ)
  pub log : List Step

-- the form, with a counter of the suspects, lets each set of at most k of them that works be selected; the listed sets work, stand in
-- order, and none is within another; and the log, which follows from the form with their blocks, shows that none is missing before the last
pub record IsShown (of : Claimed) : Type 0 where
  pub counter : HasCounter (length of.groups) of.k of.vars of.form
  pub chosen : (set : List ℕ) → IsSet of.groups set → length set ≤ of.k → Works of.design of.traces of.groups set
      → IsChosen (length of.groups) of.form set
  pub suspects : All (IsSet of.groups) of.listed
  pub sizes : All (λ set. length set ≤ of.k) of.listed
  pub works : All (Works of.design of.traces of.groups) of.listed
  pub ordered : AllPairs (λ one other. IsTrue (is_before one other)) of.listed
  pub apart : (one other : List ℕ) → Contains of.listed one → Contains of.listed other → IsWithin one other → one ≡ other
  pub follows : Follows of.form (map block of.listed) of.log
  pub shows : Shows (length of.groups) of.k (last_of of.listed) of.log

-- minimal sets in order, and none is missing before one that is there
abbrev pub IsFrontOf : Claimed → Type 0
IsFrontOf of = IsFront of.design of.traces of.groups of.k of.listed
