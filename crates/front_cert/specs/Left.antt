-- What a log that shows a front says of the assignments of its form.
use Rattle.std.specs.Prelude.{◌≡◌, ℕ, ◌<◌, ◌≤◌, Bool, true, false, List, length, All, Contains}
use Rattle.clause_base.specs.declared.literal.Lit.{Lit}
use Rattle.clause_base.specs.declared.log.Step.{Step}
use Rattle.clause_base.specs.Acceptance.{Follows}
use Rattle.clause_base.specs.Counted.{IsPassedOver}
use Rattle.clause_base.specs.Satisfaction.{Satisfies}
use Rattle.card_counter.specs.InForm.{HasCounter, NamesNoCounter, literals_from}
use Rattle.card_counter.specs.Means.{true_count}
use Rattle.card_counter.specs.Shows.{Shows}

-- a form with its counter, blocks that name none of the counters, a log that follows from both, and the members of a set
pub record Logged : Type 0 where
  pub n : ℕ
  pub k : ℕ
  pub vars : ℕ
  pub form : List (List Lit)
  pub blocks : List (List Lit)
  pub log : List Step
  pub members : List ℕ

-- the log follows from form and blocks, and shows that no set is missing before the one with these members
pub record IsLogged (of : Logged) : Type 0 where
  pub counter : HasCounter of.n of.k of.vars of.form
  pub apart : All (NamesNoCounter of.n of.k) of.blocks
  pub follows : Follows of.form of.blocks of.log
  pub members : All (λ m. (1 ≤ m) × (m ≤ of.n)) of.members
  pub size : length of.members ≤ of.k
  pub shows : Shows of.n of.k of.members of.log

-- the selectors that the assignment makes true aren't those of a set before the one with these members: they aren't fewer; and where they
-- are as many, they lack each suspect that is passed over below which they have all members
pub record IsNotBefore (n : ℕ) (members : List ℕ) (assignment : ℕ → Bool) : Type 0 where
  pub many : length members ≤ true_count assignment (literals_from 1 n)
  pub lacks : true_count assignment (literals_from 1 n) ≡ length members → (x : ℕ) → IsPassedOver members x
      → ((m : ℕ) → Contains members m → m < x → assignment m ≡ true) → assignment x ≡ false

-- no assignment of form and blocks selects a set before the one with these members
abbrev pub NoneBefore : Logged → Type 0
NoneBefore of =
    (assignment : ℕ → Bool) → Satisfies assignment of.form → Satisfies assignment of.blocks → IsNotBefore of.n of.members assignment
