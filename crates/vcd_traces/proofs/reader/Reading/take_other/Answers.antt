use Rattle.std.proofs.Common.{Ok, sym}
use Rattle.vcd_words.specs.Words.{words_left, placed}
use Rattle.vcd_reading.specs.Changes.{other_value, passed_over}
use Rattle.vcd_traces.specs.Going.{Holding}
use Rattle.vcd_traces.proofs.PieceLaws.{stays_passed, passed_by, goes_code, goes_done, goes_refused}
use Rattle.vcd_traces.proofs.reader.Reading.take_other.Goals as goal

pub returns-in_err-take_pass-clause-goes : goal.returns-in_err-take_pass-clause-goes
returns-in_err-take_pass-clause-goes c ports w past plan holding =
    let text = c.args.text.now in
    let first = placed text c.args.word.start c.args.word.stop in
    let code = placed text c.in-Some.code.start c.in-Some.code.stop in
    let rest = words_left text c.in-Some.code.stop in
    goes_code text (words_left text c.args.word.stop) rest code (other_value ports past first) _ _ c.in-Some.ensures.word
    (goes_refused text w c.args.plan.now past (passed_over ports past first.at code) _ _ rest c.in_err-take_pass.field-0.0 _
    (passed_by ports past first.at code.at code.word c.bytes_at.result.now (sym c.bytes_at.ensures))
    (c.in_err-take_pass.ensures ports w past plan.table holding.1) c.from_residual.ensures.1)

pub returns-clause-goes : goal.returns-clause-goes
returns-clause-goes c ports w past plan holding =
    let text = c.args.text.now in
    let first = placed text c.args.word.start c.args.word.stop in
    let code = placed text c.in-Some.code.start c.in-Some.code.stop in
    let rest = words_left text c.in-Some.code.stop in
    goes_code text (words_left text c.args.word.stop) rest code (other_value ports past first) (Holding w c.args.plan.now past c.args.self.now) (Ok c.in-Some.code.stop) c.in-Some.ensures.word
    (goes_done text w c.args.plan.now past (passed_over ports past first.at code) _ c.args.self.now c.in-Some.code.stop
    (passed_by ports past first.at code.at code.word c.bytes_at.result.now (sym c.bytes_at.ensures)) (stays_passed ports past first.at code)
    (c.in_ok-take_pass.ensures ports w past plan.table holding.1))
