-- Why a session isn't taken up, from the cause of one step; and what is known of one that is.
use Rattle.std.proofs.Common.{ℕ, ◌≡◌, ◌≤◌, ◌⊎◌, inl, List, [], ◌∷◌, Option, Some, length, refl, subst, arith}
use Rattle.std.specs.Prelude.{All, Err, IfErr, Ok, Result}
use Rattle.std.proofs.lemmas.List.Elements.{All-cons}
use Rattle.std.proofs.lemmas.Slice.Zip.{AllZip-long}
use Rattle.std.specs.List.{AllZip}
use Rattle.loc_base.specs.declared.digest.Digest.{Digest}
use Rattle.io_ports.specs.Faults.{FaultCounts}
use Rattle.clause_base.specs.declared.literal.Lit.{Lit}
use Rattle.clause_base.specs.declared.log.Step.{Step}
use Rattle.command_contract.specs.Contract.{Texts}
use Rattle.design_core.specs.declared.values.SetWithValues.{SetWithValues}
use Rattle.debug_core.specs.Problems.{IsFormFor, Problem}
use Rattle.front_end.specs.Means.{Meaning, Refusing}
use Rattle.list_session.specs.Taken.{IsTakenSet, IsTakenUp}
use Rattle.list_session.specs.Unfit.{UnfitRefused, is_unfit}
use Rattle.list_verdict.specs.Claims.{Claim}
use Rattle.list_writer.specs.Found.{IsShown}
use Rattle.load_problem.specs.Means.{IsDigestOf, Means, Suspecting}
use Rattle.load_problem.specs.Refusals.{FormRefused}
use Rattle.load_problem.proofs.Causes.{form-refused}
use Rattle.refusal.specs.declared.last_line.LastLine.{LastLine}
use Rattle.refusal.specs.declared.last_line.LastLine.TheVariants.{Line, Memory}
use Rattle.refusal.specs.Ends.{CountsOf, HasCause, HasStatus, IsMemory, IsSpared, RefusalCounts}
use Rattle.report_doc.specs.declared.types.Report.{Report}
use Rattle.report_doc.specs.declared.types.ReportSet.{ReportSet}
use Rattle.requests.specs.Asked.{FindAsked, SessionNames, wanted_for}
use Rattle.session_reading.specs.Refusals.{AreSame, LogRefused, OtherRefused, ReportRefused}
use Rattle.session_reading.specs.Texts.{IsReportIn}
use Rattle.session_reading.proofs.Causes.{cause-of, err-of, memory-cause, memory-spared}
use Rattle.find_cmd.specs.Parts.{CanBeTaken, IsTaken, NotGiven, NotTaken, by_limit, by_session, most_kept, posed}
use Rattle.find_cmd.specs.Refusals.{IsReady, Refused, for_inputs, for_log, for_other, for_report, for_session, for_unfit}
use Rattle.find_cmd.specs.Sessions.{AreIn, BeginsWith, Evidence, claim_of, digests_of}

-- a fact on the text under a name holds by another word for the name and for the texts
pub at-name : (P : List ℕ → Option (List ℕ) → Type 0) (a b : List ℕ) (ts us : Texts) → a ≡ b → ts ≡ us → P a (ts a) → P b (us b)
at-name P a b ts us same texts holds =
    subst (λ (n : List ℕ). P n (us n)) same (subst (λ (t : Texts). P a (t a)) texts holds)

-- ---- its texts
module _ (names : SessionNames) (texts : Texts) (inputs : Digest) where
  pub given-report : (r : LastLine) → HasCause (ReportRefused names.report (texts names.report)) r → HasCause (NotGiven names texts inputs) r
  given-report r =
      cause-of (ReportRefused names.report (texts names.report)) (NotGiven names texts inputs) r
      (λ s l refused p vars form. for_report s l refused)

  pub given-log : (report : Report) (r : LastLine) → IsReportIn (texts names.report) report
      → HasCause (LogRefused names.log (texts names.log)) r → HasCause (NotGiven names texts inputs) r
  given-log report r is =
      cause-of (LogRefused names.log (texts names.log)) (NotGiven names texts inputs) r
      (λ s l refused p vars form. for_log report s l is refused)

  pub given-other : (e : Evidence) (r : LastLine) → AreIn names texts e → HasCause (OtherRefused (digests_of inputs e)) r
      → HasCause (NotGiven names texts inputs) r
  given-other e r are =
      cause-of (OtherRefused (digests_of inputs e)) (NotGiven names texts inputs) r
      (λ s l refused p vars form. for_other e s l are refused)

-- ---- what is taken up of them
-- what is judged, with these sets
abbrev pub claim-with : Problem → List (List Lit) → List Step → List ReportSet → Claim
claim-with p form log sets = record { problem = p; form = form; sets = sets; log = log }

pub unfit-low : (c : Claim) (s : ℕ) (l : List ℕ) → UnfitRefused c s l → (s ≡ 3) ⊎ (s ≡ 4)
unfit-low c s l (is_unfit what is) = inl refl

module _ (names : SessionNames) (texts : Texts) (p : Problem) (inputs : Digest) where
  pub taken-limit : (r : LastLine) → HasCause (FormRefused p) r → HasCause (NotTaken names texts p inputs) r
  taken-limit r = cause-of (FormRefused p) (NotTaken names texts p inputs) r (λ s l refused. by_limit s l refused)

  pub taken-given : (vars : ℕ) (form : List (List Lit)) (r : LastLine) → IsFormFor p vars form → HasCause (NotGiven names texts inputs) r
      → HasCause (NotTaken names texts p inputs) r
  taken-given vars form r is =
      cause-of (NotGiven names texts inputs) (NotTaken names texts p inputs) r
      (λ s l refused. by_session vars form s l is (refused p vars form))

  pub taken-unfit : (vars : ℕ) (form : List (List Lit)) (e : Evidence) (r : LastLine) → IsFormFor p vars form → AreIn names texts e
      → AreSame (digests_of inputs e) → HasCause (UnfitRefused (claim_of p form e)) r → HasCause (NotTaken names texts p inputs) r
  taken-unfit vars form e r is are same =
      cause-of (UnfitRefused (claim_of p form e)) (NotTaken names texts p inputs) r
      (λ s l refused. by_session vars form s l is (for_unfit e s l are same refused))

-- ---- the whole
module _ (M : Meaning) (R : Refusing) (S : Suspecting) (asked : FindAsked) (texts : Texts) (names : SessionNames) (p : Problem)
    (inputs : Digest) where
  refused-taken : asked.resume ≡ Some names → Means M S (wanted_for asked) texts p → IsDigestOf (wanted_for asked) texts inputs
      → (s : ℕ) (l : List ℕ) → NotTaken names texts p inputs s l → Refused M R S asked texts s l
  refused-taken is means digest s l (by_limit status line refused) =
      for_inputs s l (form-refused M R S (wanted_for asked) texts p s l means refused)
  refused-taken is means digest s l (by_session vars form status line has refused) =
      for_session names (posed p vars form inputs) s l is (record { means = means; form = has; digest = digest }) refused

  pub whole-taken : (r : LastLine) → asked.resume ≡ Some names → Means M S (wanted_for asked) texts p
      → IsDigestOf (wanted_for asked) texts inputs → HasCause (NotTaken names texts p inputs) r → HasCause (Refused M R S asked texts) r
  whole-taken r is means digest =
      cause-of (NotTaken names texts p inputs) (Refused M R S asked texts) r (refused-taken is means digest)

  -- where nothing stands against a list, nothing stands against its session
  pub ready-taken : asked.resume ≡ Some names → Means M S (wanted_for asked) texts p → IsDigestOf (wanted_for asked) texts inputs
      → IsReady M S asked texts → CanBeTaken names texts p inputs
  ready-taken is means digest ready = record {
    no_limit = λ fault refused. ready.inputs.no_limit p fault means refused;
    session = λ vars form has. ready.session names (posed p vars form inputs) is (record { means = means; form = has; digest = digest });
  }

-- ---- what is known of what is taken up
-- each set is shown: its values are those of its places, and explain the traces
sets-shown : (c : Claim) (sets : List ReportSet) (found : List SetWithValues) → AllZip (IsTakenSet c) sets found
    → All (IsShown c.problem) found
sets-shown c [] [] are = λ k d low. absurd (omega (arith, low))
sets-shown c [] (f ∷ found) are = absurd are
sets-shown c (set ∷ sets) [] are = absurd are
sets-shown c (set ∷ sets) (f ∷ found) (is, are) =
    All-cons (IsShown c.problem) f found (record { rows = is.rows; explains = is.explains }) (sets-shown c sets found are)

pub is-taken : (p : Problem) (vars : ℕ) (form : List (List Lit)) (e : Evidence) (found : List SetWithValues) → IsFormFor p vars form
    → IsTakenUp (claim_of p form e) found → length e.report.sets ≤ most_kept → length e.log.log ≤ most_kept
    → IsTaken p (record { sets = found; log = e.log.log })
is-taken p vars form e found is taken few_sets few_steps = record {
  vars = vars;
  form = form;
  is_form = is;
  is_session = taken.session;
  shown = sets-shown (claim_of p form e) e.report.sets found taken.sets;
  few_sets = omega (arith, AllZip-long (IsTakenSet (claim_of p form e)) e.report.sets found taken.sets, few_sets);
  few_steps = few_steps;
}

pub begins-with : (names : SessionNames) (texts : Texts) (p : Problem) (vars : ℕ) (form : List (List Lit)) (inputs : Digest) (e : Evidence)
    (found : List SetWithValues) → IsFormFor p vars form → AreIn names texts e → AreSame (digests_of inputs e)
    → IsTakenUp (claim_of p form e) found → BeginsWith names texts p inputs (record { sets = found; log = e.log.log })
begins-with names texts p vars form inputs e found is are same taken = record {
  vars = vars;
  form = form;
  is_form = is;
  is = record { evidence = e; in_texts = are; same = same; taken = taken; log = refl };
}

-- ---- where nothing but memory is wanted
memory-counts : (old new : FaultCounts) (r : LastLine) → IsMemory r → RefusalCounts old new r
memory-counts old new (Line s l) is = absurd is
memory-counts old new Memory is = tt

pub wanting-counts : {X : Type 0} (old new : FaultCounts) (r : Result X LastLine) → IfErr r IsMemory → new ≡ old → CountsOf old new r
wanting-counts old new (Ok x) is same = same
wanting-counts old new (Err why) is same = memory-counts old new why is

memory-status : (r : LastLine) → IsMemory r → HasStatus r
memory-status (Line s l) is = absurd is
memory-status Memory is = tt

pub wanting-status : {X : Type 0} (r : Result X LastLine) → IfErr r IsMemory → IfErr r HasStatus
wanting-status r = err-of IsMemory HasStatus r memory-status

pub wanting-cause : {X : Type 0} (P : ℕ → List ℕ → Type 0) (r : Result X LastLine) → IfErr r IsMemory → IfErr r (HasCause P)
wanting-cause P r = err-of IsMemory (HasCause P) r (memory-cause P)

pub wanting-spared : {X : Type 0} (r : Result X LastLine) → IfErr r IsMemory → IfErr r IsSpared
wanting-spared r = err-of IsMemory IsSpared r memory-spared
