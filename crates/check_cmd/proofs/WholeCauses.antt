-- Kinds of suspects that aren't there, a problem that passes a limit, a session that isn't taken: as causes of the whole.
use Rattle.std.proofs.Common.{ℕ, ◌≡◌, List, Option, refl, ◌∙◌, ◌⊎◌, inl}
use Rattle.command_contract.specs.Contract.{Texts}
use Rattle.front_end.specs.Means.{Meaning, Refusing}
use Rattle.report_doc.specs.declared.types.Report.{Report}
use Rattle.debug_core.specs.Problems.{Problem}
use Rattle.refusal.specs.declared.last_line.LastLine.{LastLine}
use Rattle.refusal.specs.Ends.{HasCause}
use Rattle.load_problem.specs.Means.{Means as MeansProblem, Suspecting}
use Rattle.load_problem.specs.Refusals.{FormRefused, Refused as InputsRefused}
use Rattle.load_problem.proofs.Causes.{form-refused}
use Rattle.session_reading.specs.Refusals.{LogRefused, OtherRefused, ReportRefused, session_differs}
use Rattle.check_cmd.specs.Asked.{wanted_by}
use Rattle.requests.specs.Asked.{CheckAsked}
use Rattle.check_cmd.specs.Means.{Asks, Given, Means, MeansReport, Posed, Poses, unknown_kind}
use Rattle.check_cmd.specs.Parts.{KindRefused, digests_of, first_name}
use Rattle.check_cmd.specs.Refusals.{Refused, for_inputs, for_kind, for_log, for_other, for_report}
use Rattle.session_reading.proofs.Causes.{cause-of}

-- ---- kinds
pub kind-low : (first : Option (List ℕ)) (s : ℕ) (l : List ℕ) → KindRefused first s l → (s ≡ 3) ⊎ (s ≡ 4)
kind-low first s l (first_name name e) = inl refl

-- ---- each as a cause of the whole
module _ (M : Meaning) (R : Refusing) (known : List (List ℕ)) (S : Suspecting) (asked : CheckAsked) (texts : Texts) where
  abbrev Whole : ℕ → List ℕ → Type 0
  Whole = Refused M R known S asked texts

  pub whole-report : (r : LastLine) → HasCause (ReportRefused asked.report (texts asked.report)) r → HasCause (Refused M R known S asked texts) r
  whole-report r = cause-of (ReportRefused asked.report (texts asked.report)) Whole r (λ s l refused. for_report s l refused)

  pub whole-kind : (report : Report) (first : Option (List ℕ)) (r : LastLine) → MeansReport asked texts report
      → unknown_kind known report ≡ first → HasCause (KindRefused first) r → HasCause (Refused M R known S asked texts) r
  whole-kind report first r means e = cause-of (KindRefused first) Whole r at
    where
      at : (s : ℕ) (l : List ℕ) → KindRefused first s l → Whole s l
      at s l (first_name name is) = for_kind report name means (e ∙ is)

  pub whole-inputs : (report : Report) (r : LastLine) → Asks known asked texts report
      → HasCause (InputsRefused M R S (wanted_by asked report) texts) r → HasCause (Refused M R known S asked texts) r
  whole-inputs report r asks =
      cause-of (InputsRefused M R S (wanted_by asked report) texts) Whole r (λ s l refused. for_inputs report s l asks refused)

  pub whole-form : (report : Report) (p : Problem) (r : LastLine) → Asks known asked texts report
      → MeansProblem M S (wanted_by asked report) texts p → HasCause (FormRefused p) r → HasCause (Refused M R known S asked texts) r
  whole-form report p r asks means =
      cause-of (FormRefused p) Whole r
      (λ s l refused. for_inputs report s l asks (form-refused M R S (wanted_by asked report) texts p s l means refused))

  pub whole-log : (p : Posed) (r : LastLine) → Poses M known S asked texts p → HasCause (LogRefused asked.log (texts asked.log)) r
      → HasCause (Refused M R known S asked texts) r
  whole-log p r poses = cause-of (LogRefused asked.log (texts asked.log)) Whole r (λ s l refused. for_log p s l poses refused)

  pub whole-other : (g : Given) (r : LastLine) → Means M known S asked texts g → HasCause (OtherRefused (digests_of g)) r
      → HasCause (Refused M R known S asked texts) r
  whole-other g r means = cause-of (OtherRefused (digests_of g)) Whole r at
    where
      at : (s : ℕ) (l : List ℕ) → OtherRefused (digests_of g) s l → Whole s l
      at s l (session_differs session differs) = for_other g session means differs
