-- A listing that goes on, as one that would end now: for its budget, with the certificate of its last set behind its log.
use Rattle.std.proofs.Common.{◌≡◌, ℕ, ◌+◌, ◌<◌, ◌≤◌, ◌^◌, List, ◌++◌, length, drop, refl, ap, sym, ◌∙◌, subst, arith, append_assoc}
use Rattle.std.specs.Prelude.{count_by}
use Rattle.std.proofs.lemmas.List.{take-append-drop, take_all}
use Rattle.clause_base.specs.declared.log.Step.{Step}
use Rattle.design_core.specs.declared.values.SetWithValues.{SetWithValues}
use Rattle.log_portions.specs.Portions.{head_text, steps_text}
use Rattle.log_portions.proofs.Joined.{join}
use Rattle.report_doc.specs.declared.types.Ending.TheVariants.{Budget}
use Rattle.report_doc.specs.Shape.{AreKinds, IsReport}
use Rattle.sat_core.specs.Outcome.{is_learned}
use Rattle.set_waves.specs.Writes.{text_writes}
use Rattle.debug_core.specs.Debugging.{DebugState, IsDebugger, with_appended}
use Rattle.debug_core.specs.Problems.{IsFormFor, Problem}
use Rattle.debug_core.proofs.Counting.{counted, counted-unfinished}
use Rattle.debug_core.proofs.Finishing.{finished-shows}
use Rattle.debug_core.proofs.Rooms.{few-steps}
use Rattle.list_writer.specs.declared.pair.Pair.{Pair}
use Rattle.list_writer.specs.Asked.{Asked, most_sets}
use Rattle.list_writer.specs.CheckpointNames.{log_name, report_name}
use Rattle.list_writer.specs.Checkpoints.{Checkpoint, IsCheckpoint, checkpoint_writes, log_text}
use Rattle.list_writer.specs.Found.{IsEnded, Portion, log_of, own_steps}
use Rattle.list_writer.specs.Going.{HasEnded, IsGoing}
use Rattle.list_writer.specs.Reporting.{CanBeReported}
use Rattle.list_writer.specs.Saving.{IsSavable, now_log, now_writes}
use Rattle.list_writer.specs.Texts.{report_for, report_of}
use Rattle.list_writer.proofs.Appended.{appended-holds}
use Rattle.list_writer.proofs.Ended.{can-be-reported, is-ended}
use Rattle.list_writer.proofs.Finished.{finished-ended}
use Rattle.list_writer.proofs.SoFar.{many, own-learned}

-- a checkpoint of now, with the writes of its two texts
pub record OneNow (asked : Asked) (s : DebugState) (found : List SetWithValues) : Type 0 where
  pub checkpoint : Checkpoint
  pub is : IsCheckpoint asked checkpoint
  pub writes : (prefix : List ℕ) (pair : Pair) → now_writes asked s found prefix pair ≡ checkpoint_writes asked prefix pair checkpoint

module _ (asked : Asked) (s : DebugState) (found : List SetWithValues) (steps left : ℕ) (portions : List Portion)
    (going : IsGoing asked s found steps left portions) (low : length found < most_sets asked) where
  -- as many steps were learned as units are spent
  abbrev spent : ℕ
  spent = count_by is_learned (own_steps asked s.log)

  abbrev as_if : Asked
  as_if = record asked { budget = spent }

  -- it would end for its budget, if that were spent
  pub would-end : HasEnded as_if s found steps Budget portions
  would-end = record {
    holds = going.holds;
    problem = going.problem;
    found_are = going.found_are;
    listed = going.listed;
    shown = going.shown;
    so_far = record { front = going.so_far.front; shown = going.so_far.shown; blocks = going.so_far.blocks; accepted = going.so_far.accepted };
    within = going.within;
    joined = ap (λ (log : List Step). log ++ drop steps s.log) (sym going.written) ∙ take-append-drop steps s.log;
    no_block = going.no_block;
    counted = counted-unfinished s going.holds going.unfinished;
    few = omega (arith, few-steps s going.holds going.unfinished, own-learned asked s going.imported, going.imported);
    within_budget = omega arith;
    ends = (refl, omega (arith, low, many asked s found steps left portions going));
    imported = going.imported;
  }

  -- its report can be written
  pub reportable : AreKinds asked.kinds → CanBeReported asked found
  reportable kinds =
      let can = can-be-reported as_if s found steps Budget portions would-end kinds in
      record { kinds = can.kinds; size = can.size; sets = can.sets; within = can.within }

  module _ (few : length asked.session.log + length asked.session.sets + asked.budget + asked.sets ≤ 4000000000)
      (savable : IsSavable asked s found) where
    abbrev whole : ℕ
    whole = length s.certificate

    abbrev now : DebugState
    now = with_appended s whole

    now-holds : IsDebugger now
    now-holds = appended-holds s going.holds going.goes_on savable.distinct

    now-ended : HasEnded as_if now found steps Budget portions
    now-ended =
        finished-ended as_if s now found steps Budget portions would-end whole (omega arith) refl going.unfinished refl now-holds
        (counted s going.holds now refl now-holds going.unfinished)

    now-log-is : now.log ≡ s.log ++ s.certificate
    now-log-is = ap (λ (more : List Step). s.log ++ more) (take_all whole s.certificate (omega arith))

    abbrev c : Checkpoint
    c = record { portions = portions; rest = drop steps now.log }

    is-ended-now : IsEnded as_if s.form portions (drop steps now.log) Budget
    is-ended-now =
        is-ended as_if now found steps Budget portions now-ended (omega (arith, few, going.units)) savable.digest
        (λ front. finished-shows s now refl now-holds)

    is-form : IsFormFor asked.problem s.vars s.form
    is-form = subst (λ (p : Problem). IsFormFor p s.vars s.form) going.problem going.holds.form

    is-checkpoint : IsCheckpoint asked c
    is-checkpoint = record {
      vars = s.vars;
      form = s.form;
      is_form = is-form;
      some = subst (λ (sets : List SetWithValues). 0 < length sets) going.found_are savable.some;
      spent = spent;
      within = omega (arith, going.units);
      few = subst (λ (n : ℕ). n < 3 ^ s.vars) (own-learned asked s going.imported) going.holds.few_learned;
      is_ended = is-ended-now;
      is_report = subst (λ (sets : List SetWithValues). IsReport (report_for asked sets Budget)) going.found_are savable.report;
    }

    -- the text of its log
    same-log : now_log asked s ≡ log_text asked c
    same-log =
        append_assoc (head_text asked.inputs) (steps_text s.log) (steps_text s.certificate)
        ∙ ap (λ (lines : List ℕ). head_text asked.inputs ++ lines) (sym (join.joined s.log s.certificate))
        ∙ ap (λ (log : List Step). head_text asked.inputs ++ steps_text log) (sym now-log-is ∙ sym now-ended.joined)
        ∙ sym (join.whole (record { inputs = asked.inputs; log = log_of asked portions ++ drop steps now.log }))

    pub one-now : OneNow asked s found
    one-now = record {
      checkpoint = c;
      is = is-checkpoint;
      writes = λ prefix pair.
          ap (λ (text : List ℕ). text_writes (log_name prefix pair) text ++ text_writes (report_name prefix pair) (report_of asked found Budget)) same-log
          ∙ ap (λ (sets : List SetWithValues). text_writes (log_name prefix pair) (log_text asked c) ++ text_writes (report_name prefix pair) (report_of asked sets Budget))
          going.found_are;
    }
