-- What stands under the names of the log, the report and the waves once all is written.
use Rattle.std.proofs.Common.{◌≡◌, ◌<◌, ◌≤◌, ◌^◌, ℕ, ◌+◌, Bool, cond, List, [], ◌∷◌, ◌++◌, length, Option, Some, refl, ap, sym, ◌∙◌, arith, append_assoc}
use Rattle.std.specs.Prelude.{slice_get}
use Rattle.std.specs.Cmp.Lexicographic.{bytes_decides}
use Rattle.std.proofs.lemmas.List.{append-nil}
use Rattle.std.specs.List.{flat_map}
use Rattle.clause_base.specs.declared.log.Step.{Step}
use Rattle.design_core.specs.declared.trace.Trace.{Trace}
use Rattle.design_core.specs.declared.values.SetWithValues.{SetWithValues}
use Rattle.log_portions.specs.Portions.{head_text, steps_text}
use Rattle.log_portions.proofs.Joined.{join}
use Rattle.proof_check.specs.Text.{text_of}
use Rattle.write_order.specs.Writes.{Write, print_piece, put_piece, text_after, text_behind}
use Rattle.write_order.proofs.Carried.{text_behind-append}
use Rattle.set_waves.specs.Names.{wave_name}
use Rattle.set_waves.specs.Scenes.{wave_text}
use Rattle.set_waves.specs.Writes.{scene_of, text_writes, waves_of}
use Rattle.set_waves.proofs.StandLaws.{wave-stands, waves-elsewhere, writes-elsewhere, writes-here}
use Rattle.list_writer.specs.Asked.{Asked, HasOwnNames, most_sets}
use Rattle.list_writer.specs.Due.{opening, texts}
use Rattle.list_writer.specs.Found.{Portion, found_of, log_of}
use Rattle.list_writer.specs.Going.{lines_writes, sets_writes}
use Rattle.list_writer.specs.Laws.{Listed}
use Rattle.list_writer.specs.Lines.{ending_line}
use Rattle.list_writer.specs.Texts.{report_of, waved_for, waves}
use Rattle.list_writer.proofs.Ended.{few-sets-of}

-- a piece that is put behind a text
put-more : (name piece text : List ℕ) → text_after name (put_piece name piece) (Some text) ≡ Some (text ++ piece)
put-more name piece text = ap (λ (b : Bool). cond b (Some (text ++ piece)) (Some text)) ((bytes_decides name name).1 refl)

module _ (of : Listed) (own : HasOwnNames of.asked) where
  abbrev asked : Asked
  asked = of.asked

  abbrev all-writes : List Write
  all-writes = opening asked of.is.portions ++ texts asked of.is.portions of.is.rest of.is.ending of.is.runs
      ++ print_piece (ending_line of.is.ending (length (found_of asked of.is.portions))) ∷ []

  -- the last line is no text
  before-last : (name : List ℕ) (was : Option (List ℕ)) → text_behind name all-writes was
      ≡ text_behind name (texts asked of.is.portions of.is.rest of.is.ending of.is.runs)
      (text_behind name (opening asked of.is.portions) was)
  before-last name was =
      text_behind-append name (opening asked of.is.portions ++ texts asked of.is.portions of.is.rest of.is.ending of.is.runs)
      (print_piece (ending_line of.is.ending (length (found_of asked of.is.portions))) ∷ []) was
      ∙ text_behind-append name (opening asked of.is.portions) (texts asked of.is.portions of.is.rest of.is.ending of.is.runs) was

  -- ---- the log
  -- the steps of portions
  abbrev own-log : List Portion → List Step
  own-log portions = flat_map (λ (portion : Portion). portion.steps) portions

  log-sets : (portions : List Portion) (text : List ℕ) → text_behind asked.log (sets_writes asked portions) (Some text)
      ≡ Some (text ++ steps_text (own-log portions))
  log-sets [] text = ap Some (sym (append-nil text))
  log-sets (portion ∷ portions) text =
      ap (text_behind asked.log (sets_writes asked portions)) (put-more asked.log (steps_text portion.steps) text)
      ∙ log-sets portions (text ++ steps_text portion.steps)
      ∙ ap Some (append_assoc text (steps_text portion.steps) (steps_text (own-log portions))
      ∙ ap (λ t. text ++ t) (sym (join.joined portion.steps (own-log portions))))

  -- lines are no text
  lines-elsewhere : (name : List ℕ) (sets : List SetWithValues) (was : Option (List ℕ)) → text_behind name (lines_writes asked sets) was ≡ was
  lines-elsewhere name [] was = refl
  lines-elsewhere name (set ∷ sets) was = lines-elsewhere name sets was

  log-opening : (portions : List Portion) (was : Option (List ℕ)) → text_behind asked.log (opening asked portions) was
      ≡ Some (head_text asked.inputs ++ steps_text (log_of asked portions))
  log-opening portions was =
      ap (text_behind asked.log (lines_writes asked asked.session.sets ++ sets_writes asked portions)) (writes-here asked.log first was)
      ∙ text_behind-append asked.log (lines_writes asked asked.session.sets) (sets_writes asked portions) (Some first)
      ∙ ap (text_behind asked.log (sets_writes asked portions)) (lines-elsewhere asked.log asked.session.sets (Some first))
      ∙ log-sets portions first
      ∙ ap Some (append_assoc (head_text asked.inputs) (steps_text asked.session.log) (steps_text (own-log portions))
      ∙ ap (λ t. head_text asked.inputs ++ t) (sym (join.joined asked.session.log (own-log portions))))
    where
      first : List ℕ
      first = head_text asked.inputs ++ steps_text asked.session.log

  pub log-stands : of.outputs.now_written asked.log
      ≡ Some (text_of (record { inputs = asked.inputs; log = log_of asked of.is.portions ++ of.is.rest }))
  log-stands =
      of.is.done.texts asked.log ∙ before-last asked.log (of.outputs.written asked.log)
      ∙ ap (text_behind asked.log (texts asked of.is.portions of.is.rest of.is.ending of.is.runs))
      (log-opening of.is.portions (of.outputs.written asked.log))
      ∙ ap (λ (was : Option (List ℕ)). text_behind asked.log
      (text_writes asked.report report ++ waves asked (found_of asked of.is.portions) of.is.runs) was)
      (put-more asked.log (steps_text of.is.rest) (head_text asked.inputs ++ steps_text (log_of asked of.is.portions)))
      ∙ waves-elsewhere asked.waves (waved_for asked) of.is.runs (found_of asked of.is.portions) asked.log own.own_log
      (text_behind asked.log (text_writes asked.report report) (Some whole))
      ∙ writes-elsewhere asked.log asked.report report (Some whole) own.apart
      ∙ ap Some (append_assoc (head_text asked.inputs) (steps_text (log_of asked of.is.portions)) (steps_text of.is.rest)
      ∙ ap (λ t. head_text asked.inputs ++ t) (sym (join.joined (log_of asked of.is.portions) of.is.rest))
      ∙ sym (join.whole (record { inputs = asked.inputs; log = log_of asked of.is.portions ++ of.is.rest })))
    where
      report : List ℕ
      report = report_of asked (found_of asked of.is.portions) of.is.ending

      whole : List ℕ
      whole = (head_text asked.inputs ++ steps_text (log_of asked of.is.portions)) ++ steps_text of.is.rest

  -- ---- the report
  pub report-stands : of.outputs.now_written asked.report ≡ Some (report_of asked (found_of asked of.is.portions) of.is.ending)
  report-stands =
      of.is.done.texts asked.report ∙ before-last asked.report (of.outputs.written asked.report)
      ∙ waves-elsewhere asked.waves (waved_for asked) of.is.runs (found_of asked of.is.portions) asked.report own.own_report
      (text_behind asked.report (text_writes asked.report (report_of asked (found_of asked of.is.portions) of.is.ending)) was)
      ∙ writes-here asked.report (report_of asked (found_of asked of.is.portions) of.is.ending) was
    where
      was : Option (List ℕ)
      was = text_after asked.report (put_piece asked.log (steps_text of.is.rest))
          (text_behind asked.report (opening asked of.is.portions) (of.outputs.written asked.report))

  -- ---- the waves
  few : most_sets asked < 2 ^ 32 → length (found_of asked of.is.portions) < 2 ^ 64
  few sets =
      let some : length (found_of asked of.is.portions) ≤ most_sets asked =
      few-sets-of asked of.is.portions (log_of asked of.is.portions ++ of.is.rest) of.is.ending of.is.is_ended.ends in
      omega (arith, sets, some)

  pub waves-stand : most_sets asked < 2 ^ 32 → length asked.problem.traces < 2 ^ 32
      → (prefix : List ℕ) (s j : ℕ) (set : SetWithValues) (trace : Trace) → asked.waves ≡ Some prefix
      → slice_get (found_of asked of.is.portions) s ≡ Some set → slice_get asked.problem.traces j ≡ Some trace
      → of.outputs.now_written (wave_name prefix (s + 1) (j + 1))
      ≡ Some (wave_text (scene_of (waved_for asked) set.values j trace) (of.is.runs s j))
  waves-stand few_sets few_traces prefix s j set trace is at there =
      of.is.done.texts name ∙ before-last name (of.outputs.written name)
      ∙ ap (λ (p : Option (List ℕ)). text_behind name (waves_of p (waved_for asked) of.is.runs (found_of asked of.is.portions)) was) is
      ∙ wave-stands (waved_for asked) prefix of.is.runs (found_of asked of.is.portions) s j set trace (few few_sets) (omega (arith, few_traces))
      at there was
    where
      name : List ℕ
      name = wave_name prefix (s + 1) (j + 1)

      was : Option (List ℕ)
      was = text_behind name (text_writes asked.report (report_of asked (found_of asked of.is.portions) of.is.ending))
          (text_after name (put_piece asked.log (steps_text of.is.rest))
          (text_behind name (opening asked of.is.portions) (of.outputs.written name)))
