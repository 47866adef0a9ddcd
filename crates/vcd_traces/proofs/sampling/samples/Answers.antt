use Rattle.vcd_traces.specs.Manner.{manner_of}
use Rattle.vcd_traces.proofs.AnswerLaws.{ok_answers, err_answers, answers_only, refuses_only}
use Rattle.vcd_traces.proofs.FitLaws.{ok_fits}
use Rattle.vcd_traces.proofs.sampling.samples.Goals as goal

pub returns-clause-samples : goal.returns-clause-samples
returns-clause-samples c = ok_answers c.args.text.now c.args.by.now.design.now (manner_of c.args.by.now) c.answer.result c.answer.ensures

pub returns-clause-fits : goal.returns-clause-fits
returns-clause-fits c = ok_fits c.args.text.now c.args.by.now.design.now (manner_of c.args.by.now) c.answer.result c.answer.ensures

pub returns-clause-refused : goal.returns-clause-refused
returns-clause-refused c = err_answers c.args.text.now c.args.by.now.design.now (manner_of c.args.by.now) c.answer.result c.answer.ensures

pub returns-clause-only : goal.returns-clause-only
returns-clause-only c trace has = answers_only c.args.text.now c.args.by.now.design.now (manner_of c.args.by.now) trace c.answer.result c.answer.ensures has

pub returns-clause-only_refused : goal.returns-clause-only_refused
returns-clause-only_refused c fault refused =
    refuses_only c.args.text.now c.args.by.now.design.now (manner_of c.args.by.now) fault c.answer.result c.answer.ensures refused
