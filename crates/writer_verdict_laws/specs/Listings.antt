-- What a listing wrote, as a second party has it: its log, its report, and what is judged of them. And the same of a checkpoint.
use Rattle.std.specs.Prelude.{List, ◌++◌}
use Rattle.clause_base.specs.declared.literal.Lit.{Lit}
use Rattle.clause_base.specs.declared.log.Step.{Step}
use Rattle.proof_check.specs.declared.types.LogText.{LogText}
use Rattle.report_doc.specs.declared.types.Ending.{Ending}
use Rattle.report_doc.specs.declared.types.Ending.TheVariants.{Budget}
use Rattle.report_doc.specs.declared.types.Report.{Report}
use Rattle.list_verdict.specs.declared.verdict.Verdict.{Verdict}
use Rattle.list_verdict.specs.Claims.{Claim}
use Rattle.list_writer.specs.Asked.{Asked}
use Rattle.list_writer.specs.Checkpoints.{Checkpoint, IsCheckpoint}
use Rattle.list_writer.specs.Found.{IsEnded, Portion, found_of, log_of}
use Rattle.list_writer.specs.Laws.{Listed}
use Rattle.list_writer.specs.Texts.{report_for}

-- the log, with the digest of the inputs
abbrev pub log_in : Listed → LogText
log_in of = record { inputs = of.asked.inputs; log = log_of of.asked of.is.portions ++ of.is.rest }

-- the report
abbrev pub report_in : Listed → Report
report_in of = report_for of.asked (found_of of.asked of.is.portions) of.is.ending

-- the problem that was asked, with its form, and the sets of the report and the log
abbrev pub claim_in : Listed → Claim
claim_in of = record { problem = of.asked.problem; form = of.is.form; sets = (report_in of).sets; log = (log_in of).log }

-- ---- a listing that came to its end, whatever of it was written
pub record ListEnd : Type 0 where
  pub asked : Asked
  pub form : List (List Lit)
  pub portions : List Portion
  pub rest : List Step
  pub ending : Ending
  pub is : IsEnded asked form portions rest ending

-- what is judged of it
abbrev pub claim_of_end : ListEnd → Claim
claim_of_end of = record {
  problem = of.asked.problem;
  form = of.form;
  sets = (report_for of.asked (found_of of.asked of.portions) of.ending).sets;
  log = log_of of.asked of.portions ++ of.rest;
}

-- that of a listing
abbrev pub end_in : Listed → ListEnd
end_in of = record {
  asked = of.asked;
  form = of.is.form;
  portions = of.is.portions;
  rest = of.is.rest;
  ending = of.is.ending;
  is = of.is.is_ended;
}

-- ---- a checkpoint of a listing
pub record Kept : Type 0 where
  pub asked : Asked
  pub checkpoint : Checkpoint
  pub is : IsCheckpoint asked checkpoint

-- the end that it is one of: its budget is what was spent just then
abbrev pub end_at : Kept → ListEnd
end_at of = record {
  asked = record of.asked { budget = of.is.spent };
  form = of.is.form;
  portions = of.checkpoint.portions;
  rest = of.checkpoint.rest;
  ending = Budget;
  is = of.is.is_ended;
}

-- its log, with the digest of the inputs, and its report
abbrev pub log_at : Kept → LogText
log_at of = record { inputs = of.asked.inputs; log = log_of of.asked of.checkpoint.portions ++ of.checkpoint.rest }

abbrev pub report_at : Kept → Report
report_at of = report_for of.asked (found_of of.asked of.checkpoint.portions) Budget

-- what is judged of the two
abbrev pub claim_at : Kept → Claim
claim_at of = record {
  problem = of.asked.problem;
  form = of.is.form;
  sets = (report_at of).sets;
  log = (log_at of).log;
}

-- a listing, and an answer to whether it is whole
pub record Judged : Type 0 where
  pub listed : Listed
  pub verdict : Verdict
