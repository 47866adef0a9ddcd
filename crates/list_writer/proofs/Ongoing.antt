-- Log and report of a listing begin with those of the session that it goes on from.
use Rattle.std.proofs.Common.{◌≡◌, List, ◌++◌, length, map, take, refl, ap, ◌∙◌, append_assoc}
use Rattle.std.specs.List.{flat_map}
use Rattle.std.proofs.lemmas.List.{length-map, map-append, take_at}
use Rattle.clause_base.specs.declared.log.Step.{Step}
use Rattle.design_core.specs.declared.values.SetWithValues.{SetWithValues}
use Rattle.report_doc.specs.declared.types.ReportSet.{ReportSet}
use Rattle.report_sets.specs.Found.{set_of}
use Rattle.list_writer.specs.Asked.{Asked}
use Rattle.list_writer.specs.Found.{Portion, found_of, log_of}
use Rattle.list_writer.specs.Laws.{Listed}
use Rattle.list_writer.specs.Texts.{report_for}

module _ (of : Listed) where
  abbrev asked : Asked
  asked = of.asked

  pub log-goes-on : take (length asked.session.log) (log_of asked of.is.portions ++ of.is.rest) ≡ asked.session.log
  log-goes-on =
      let own : List Step = flat_map (λ (portion : Portion). portion.steps) of.is.portions in
      ap (take (length asked.session.log)) (append_assoc asked.session.log own of.is.rest)
      ∙ take_at asked.session.log (own ++ of.is.rest) (length asked.session.log) refl

  pub report-goes-on : take (length asked.session.sets) (report_for asked (found_of asked of.is.portions) of.is.ending).sets
      ≡ map (set_of asked.problem.traces) asked.session.sets
  report-goes-on =
      let one : SetWithValues → ReportSet = set_of asked.problem.traces in
      let own : List SetWithValues = map (λ (portion : Portion). portion.set) of.is.portions in
      ap (take (length asked.session.sets)) (map-append one asked.session.sets own)
      ∙ take_at (map one asked.session.sets) (map one own) (length asked.session.sets) (length-map asked.session.sets one)
