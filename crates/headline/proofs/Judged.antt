-- What a `yes` of `check` shows, from what is promised of a run.
use Rattle.std.proofs.Common.{ℕ, ◌≡◌, List, ◌++◌, length, Result, Ok, refl, ap, sym, subst, ◌∙◌}
use Rattle.command_contract.specs.Contract.{Keeps}
use Rattle.word_values.specs.declared.usage.Usage.{Usage}
use Rattle.design_core.specs.Listing.{IsList}
use Rattle.debug_core.specs.Problems.{Problem, suspects_of}
use Rattle.report_doc.specs.declared.types.Report.{Report}
use Rattle.requests.specs.Asked.{Asked as Request, check}
use Rattle.list_verdict.specs.declared.verdict.Verdict.TheVariants as verdict
use Rattle.list_verdict.specs.Verdicts.{members_of}
use Rattle.check_cmd.specs.declared.verdicts.Judgement.{Judgement}
use Rattle.check_cmd.specs.declared.verdicts.Judgement.TheVariants.{OfList, OfTable}
use Rattle.check_cmd.specs.Checking.{IsAnswered, IsJudgement}
use Rattle.check_cmd.specs.Lines.{judgement_line, judgement_status}
use Rattle.localise_cmd.specs.Commands.{KeepsWords, case_of}
use Rattle.headline.specs.Runs.{CheckRun}
use Rattle.headline.specs.Headline.{Subject}
use Rattle.headline.specs.Kept.{IsKeptCheck, tools_for}
use Rattle.headline.specs.Yes.{SaysYes}

yes-alone : (j : Judgement) → judgement_status j ≡ 0 → j ≡ OfList verdict.Whole
yes-alone (OfTable fault) is = cc
yes-alone (OfList verdict.Whole) is = refl
yes-alone (OfList (verdict.Order set)) is = cc
yes-alone (OfList (verdict.Contains set other)) is = cc
yes-alone (OfList (verdict.Replay set miss)) is = cc
yes-alone (OfList (verdict.Step number)) is = cc
yes-alone (OfList verdict.Front) is = cc
yes-alone (OfList verdict.Open) is = cc

module _ (r : CheckRun) where
  -- what is promised of a run for these words
  pub promised : IsKeptCheck r → Keeps (case_of (tools_for r.of) (Ok (check r.asked))) r.of.run r.of.status
  unfolding KeepsWords
  promised kept =
      subst (λ (a : Result Request Usage). Keeps (case_of (tools_for r.of) a) r.of.run r.of.status) kept.words kept.keeps

  module _ (of : IsAnswered (tools_for r.of).means r.of.known r.of.suspecting r.asked r.of.run r.of.status) where
    abbrev p : Problem
    p = of.judged.given.posed.problem

    abbrev report : Report
    report = of.judged.given.posed.report

    abbrev subject : Subject
    subject = record { design = p.design; traces = p.traces; suspects = p.groups }

    pub yes : r.of.status ≡ 0 → SaysYes r
    yes zero =
        let is : of.judgement ≡ OfList verdict.Whole = yes-alone of.judgement (sym of.judged.has_status ∙ zero) in
        let table = (subst (IsJudgement r.asked.texts.top of.judged.given) is of.judged.is).0 in
        let whole = of.judged.list is in
        let poses = of.judged.means.poses in
        record {
          report = report;
          is_report = poses.report.means;
          subject = subject;
          is_meant = record { design = poses.problem.design; traces = poses.problem.traces; suspects = poses.problem.groups };
          is_list = subst (λ k. IsList p.design p.traces (suspects_of p) k (members_of report.sets)) poses.problem.size whole.list;
          top = table.same_top;
          suspects = table.suspects;
          shown = λ k d within. (let explained = whole.explained k d within in
              record { values = explained.values; written = explained.are_its; explains = explained.explains });
          printed = of.printed ∙ ap (λ t. r.of.run.printed ++ t)
              (of.judged.has_line ∙ ap (judgement_line p.design (length report.sets)) is);
        }
