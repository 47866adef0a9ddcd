use Rattle.std.proofs.Common.{◌-◌, length, sym, Ok}
use Rattle.vcd_words.specs.Words.{words_left, placed}
use Rattle.vcd_reading.specs.Changes.{vector, changed}
use Rattle.vcd_traces.specs.Going.{Holding}
use Rattle.vcd_traces.proofs.PieceLaws.{stays_changed, changed_by, digits_of, goes_code, goes_done, goes_refused}
use Rattle.vcd_traces.proofs.reader.Reading.take_vector.Goals as goal

pub returns-in_err-take_change-clause-goes : goal.returns-in_err-take_change-clause-goes
returns-in_err-take_change-clause-goes c ports w past plan holding =
    let text = c.args.text.now in
    let first = placed text c.args.word.start c.args.word.stop in
    let code = placed text c.in-Some.code.start c.in-Some.code.stop in
    let rest = words_left text c.in-Some.code.stop in
    goes_code text (words_left text c.args.word.stop) rest code (vector ports past c.args.level first) _ _ c.in-Some.ensures.word
    (goes_refused text w c.args.plan.now past (changed ports past c.args.level (length first.word - 1) first.at code) _ c.take_change.new.self rest c.in_err-take_change.field-0.0 _
    (changed_by ports past c.args.level first.at code.at (length first.word - 1) (c.args.word.stop - c.args.word.start - 1) code.word c.bytes_at.result.now
    (digits_of text c.args.word.start c.args.word.stop c.requires.some c.requires.inside) (sym c.bytes_at.ensures))
    (c.in_err-take_change.ensures ports w past plan.table holding.1) c.from_residual.ensures.1)

pub returns-clause-goes : goal.returns-clause-goes
returns-clause-goes c ports w past plan holding =
    let text = c.args.text.now in
    let first = placed text c.args.word.start c.args.word.stop in
    let code = placed text c.in-Some.code.start c.in-Some.code.stop in
    let rest = words_left text c.in-Some.code.stop in
    goes_code text (words_left text c.args.word.stop) rest code (vector ports past c.args.level first) (Holding w c.args.plan.now past c.take_change.new.self) (Ok c.in-Some.code.stop) c.in-Some.ensures.word
    (goes_done text w c.args.plan.now past (changed ports past c.args.level (length first.word - 1) first.at code) _ c.take_change.new.self c.in-Some.code.stop
    (changed_by ports past c.args.level first.at code.at (length first.word - 1) (c.args.word.stop - c.args.word.start - 1) code.word c.bytes_at.result.now
    (digits_of text c.args.word.start c.args.word.stop c.requires.some c.requires.inside) (sym c.bytes_at.ensures))
    (stays_changed ports past c.args.level (length first.word - 1) first.at code)
    (c.in_ok-take_change.ensures ports w past plan.table holding.1))
