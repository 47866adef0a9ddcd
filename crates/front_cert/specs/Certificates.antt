-- Steps that a log needs yet to show that no set is missing before the last one, and the log with them.
use Rattle.std.specs.Prelude.{◌≡◌, ℕ, List, ◌++◌, length, All}
use Rattle.clause_base.specs.declared.literal.Lit.{Lit}
use Rattle.clause_base.specs.declared.log.Step.{Step}
use Rattle.clause_base.specs.declared.log.StepKind.TheVariants.{Derived}
use Rattle.clause_base.specs.Acceptance.{IsAccepted, IsAcceptedChain, clauses_of}
use Rattle.clause_base.specs.Counted.{IsPassedOver}
use Rattle.card_counter.specs.Shows.{Shows, ShowsSize, ShowsWithout}

-- the step is derived, and its chain gives its clause from the form and the log
pub record IsDerivedAfter (form : List (List Lit)) (log : List Step) (step : Step) : Type 0 where
  pub kind : step.kind ≡ Derived
  pub accepted : IsAcceptedChain (clauses_of form log) step.chain step.clause

-- the steps are a certificate of the set with these members: the log shows that no set is smaller, and each suspect that the set passes over is
-- shown absent by one of the steps, each of which is derived from the form and the log alone
pub record IsCertificate (n k : ℕ) (form : List (List Lit)) (members : List ℕ) (log steps : List Step) : Type 0 where
  pub size : ShowsSize n k (length members) log
  pub derived : All (IsDerivedAfter form log) steps
  pub shows : (x : ℕ) → IsPassedOver members x → ShowsWithout n k members steps x

-- a log, the steps that it has grown by since, and those of a certificate
pub record Certified : Type 0 where
  pub n : ℕ
  pub k : ℕ
  pub form : List (List Lit)
  pub blocks : List (List Lit)
  pub members : List ℕ
  pub log : List Step
  pub more : List Step
  pub steps : List Step

-- the log that has grown, with the certificate behind it
abbrev pub whole_of : Certified → List Step
whole_of of = (of.log ++ of.more) ++ of.steps

-- it is accepted, with the same blocks, and shows that no set is missing before the last one
pub record IsFinished (of : Certified) : Type 0 where
  pub accepted : IsAccepted of.form of.blocks (whole_of of)
  pub shows : Shows of.n of.k of.members (whole_of of)
