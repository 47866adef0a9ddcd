-- What a run of `find` shows, from what is promised of it.
use Rattle.std.proofs.Common.{ℕ, ◌≡◌, ◌⊎◌, inl, inr, List, [], ◌∷◌, ◌++◌, length, map, Result, Ok, Option, Some, None, true}
use Rattle.std.proofs.Common.{refl, ap, sym, subst, ◌∙◌}
use Rattle.std.specs.Prelude.{All, IfSome, codes, decimal}
use Rattle.std.specs.List.{AllZip, flat_map}
use Rattle.loc_base.specs.declared.digest.Digest.{Digest}
use Rattle.printed_text.specs.Numerals.{newline}
use Rattle.clause_base.specs.declared.log.Step.{Step}
use Rattle.command_contract.specs.Contract.{Keeps}
use Rattle.word_values.specs.declared.usage.Usage.{Usage}
use Rattle.design_core.specs.declared.values.SetWithValues.{SetWithValues}
use Rattle.design_core.specs.Listing.{IsFront, IsList}
use Rattle.report_doc.specs.declared.types.Ending.{Ending}
use Rattle.report_doc.specs.declared.types.Ending.TheVariants.{Complete, Budget, Sets, Earlier}
use Rattle.report_doc.specs.declared.types.ReportSet.{ReportSet}
use Rattle.report_doc.specs.Lines.{set_lines}
use Rattle.requests.specs.Asked.{Asked as Request, SessionNames, find}
use Rattle.debug_core.specs.Problems.{Problem, suspects_of}
use Rattle.list_verdict.specs.Claims.{Claim}
use Rattle.list_session.specs.Taken.{IsTakenSet}
use Rattle.list_writer.specs.Asked.{Asked, Session}
use Rattle.list_writer.specs.Due.{IsListed}
use Rattle.list_writer.specs.Found.{EndsAs, IsShown, Portion, found_of, log_of}
use Rattle.list_writer.specs.Lines.{ending_line, ending_status, front_line}
use Rattle.find_cmd.specs.Finding.{OfInputs, Saves, finding, listing_of, outputs_beside}
use Rattle.list_writer.specs.declared.outcome.Outcome.TheVariants.{Ended}
use Rattle.find_cmd.specs.Sessions.{MeansSession, claim_of}
use Rattle.localise_cmd.specs.Commands.{KeepsWords, case_of}
use Rattle.headline.specs.Runs.{FindRun}
use Rattle.headline.specs.Kept.{IsKeptFind, tools_for}
use Rattle.headline.specs.Headline.{BeginWith, Found, IsExplained, IsPrinted, IsTakenUp, ListsAll, ListsFront, Subject, members_of}
use Rattle.headline.proofs.Printed.{all-print}

-- what a problem is asked of
abbrev subject_of : Problem → Subject
subject_of p = record { design = p.design; traces = p.traces; suspects = p.groups }

-- ---- endings
ends-whole : (ending : Ending) → ending_status ending ≡ 0 → ending ≡ Complete
ends-whole Complete is = refl
ends-whole Budget is = cc
ends-whole Sets is = cc
ends-whole Earlier is = cc

-- why a list isn't whole, as its last line says
record Why (ending : Ending) : Type 0 where
  why : List ℕ
  is_why : (why ≡ codes "budget") ⊎ (why ≡ codes "sets")
  line : (count : ℕ) → ending_line ending count ≡ front_line count why

why-of : (ending : Ending) → ending_status ending ≡ 1 → (ending ≡ Earlier → ⊥) → Why ending
why-of Complete one other = cc
why-of Budget one other = record { why = codes "budget"; is_why = inl refl; line = λ count. refl }
why-of Sets one other = record { why = codes "sets"; is_why = inr refl; line = λ count. refl }
why-of Earlier one other = absurd (other refl)

never-earlier : (asked : Asked) (portions : List Portion) (log : List Step) (ending : Ending) → EndsAs asked portions log ending
    → ending ≡ Earlier → ⊥
never-earlier asked portions log ending ends is = subst (λ (e : Ending). EndsAs asked portions log e) is ends

-- ---- what a list goes on from
-- sets of a report, which were taken up for a problem
taken-up : (c : Claim) (sets : List ReportSet) (found : List SetWithValues) → AllZip (IsTakenSet c) sets found
    → AllZip (IsTakenUp (subject_of c.problem)) sets found
taken-up c [] [] all = tt
taken-up c [] (one ∷ found) all = absurd all
taken-up c (set ∷ sets) [] all = absurd all
taken-up c (set ∷ sets) (one ∷ found) all = (record { members = all.0.members; values = all.0.texts }, taken-up c sets found all.1)

module _ (r : FindRun) where
  -- the sets of the session that is asked for come first
  pub goes-on : (resume : Option SessionNames) (p : Problem) (inputs : Digest) (session : Session) (more : List SetWithValues)
      → MeansSession resume r.of.run.texts p inputs session
      → IfSome resume (BeginWith r (subject_of p) (session.sets ++ more))
  goes-on None p inputs session more means = tt
  goes-on (Some names) p inputs session more means =
      let e = means.is.evidence in
      record {
        report = e.report;
        is_report = means.is.in_texts.report;
        first = session.sets;
        taken_up = taken-up (claim_of p means.form e) e.report.sets session.sets means.is.taken.sets;
        more = more;
        parts = refl;
      }

  abbrev OfThese : (Asked → Type 0) → Type 0
  OfThese = OfInputs (tools_for r.of).means (tools_for r.of).suspecting r.asked r.of.run.texts

  -- what is promised of a run for these words
  pub promised : IsKeptFind r → Keeps (case_of (tools_for r.of) (Ok (find r.asked))) r.of.run r.of.status
  unfolding KeepsWords
  promised kept =
      subst (λ (a : Result Request Usage). Keeps (case_of (tools_for r.of) a) r.of.run r.of.status) kept.words kept.keeps

  module _ (of : OfThese (λ listing. IsListed listing (outputs_beside r.asked r.of.run) r.of.status × Saves r.asked r.of.run (Ended Budget) listing)) where
    abbrev p : Problem
    p = of.problem

    abbrev listing : Asked
    listing = listing_of r.asked p of.inputs of.session

    abbrev sets : List SetWithValues
    sets = found_of listing of.is.0.portions

    abbrev subject : Subject
    subject = subject_of p

    abbrev pub found : Found r
    found = record {
      subject = subject;
      is_meant = record { design = of.means.design; traces = of.means.traces; suspects = of.means.groups };
      sets = sets;
      explained = λ k d within. (let shown = of.is.0.is_ended.found.shown k d within in
          record { rows = shown.rows; explains = shown.explains });
      goes_on = goes-on r.asked.resume p of.inputs of.session (map (λ (portion : Portion). portion.set) of.is.0.portions) of.goes_on;
    }

    -- what is printed, where the last line is this one
    printed : (last : List ℕ) → ending_line of.is.0.ending (length sets) ≡ last → IsPrinted r found last
    printed last is =
        of.is.0.done.printed
        ∙ ap (λ t. r.of.run.printed ++ t)
        (all-print listing of.is.0.portions of.is.0.rest of.is.0.ending of.is.0.runs (ending_line of.is.0.ending (length sets))
        ∙ ap (λ t. flat_map (set_lines p.groups p.design.places.items) (members_of sets) ++ t) is)

    -- ---- 0
    pub all : r.of.status ≡ 0 → ListsAll r
    all zero =
        let is : of.is.0.ending ≡ Complete = ends-whole of.is.0.ending (sym of.is.0.has_status ∙ zero) in
        let ends = subst (λ (e : Ending). EndsAs listing of.is.0.portions (log_of listing of.is.0.portions ++ of.is.0.rest) e)
        is of.is.0.is_ended.ends in
        record {
          found = found;
          is_list = subst (λ k. IsList p.design p.traces (suspects_of p) k (members_of sets)) of.means.size ends.0;
          printed = printed (codes "complete " ++ decimal (length sets) ++ newline) (ap (λ e. ending_line e (length sets)) is);
        }

    -- ---- 1
    front : (why : List ℕ) → (why ≡ codes "budget") ⊎ (why ≡ codes "sets")
        → ending_line of.is.0.ending (length sets) ≡ codes "front " ++ decimal (length sets) ++ codes " " ++ why ++ newline
        → ListsFront r
    front why is_why last = record {
      found = found;
      is_front = subst (λ k. IsFront p.design p.traces (suspects_of p) k (members_of sets)) of.means.size of.is.0.is_ended.found.front;
      why = why;
      is_why = is_why;
      printed = printed (codes "front " ++ decimal (length sets) ++ codes " " ++ why ++ newline) last;
    }

    pub is-front : r.of.status ≡ 1 → ListsFront r
    is-front one =
        let why = why-of of.is.0.ending (sym of.is.0.has_status ∙ one)
        (never-earlier listing of.is.0.portions (log_of listing of.is.0.portions ++ of.is.0.rest) of.is.0.ending of.is.0.is_ended.ends) in
        front why.why why.is_why (why.line (length sets))
