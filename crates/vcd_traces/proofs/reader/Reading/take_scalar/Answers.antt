use Rattle.std.proofs.Common.{◌≡◌, drop, refl, sym, ◌∙◌, ap}
use Rattle.vcd_words.specs.Words.{words_left, placed}
use Rattle.vcd_reading.specs.Changes.{scalar}
use Rattle.vcd_traces.proofs.PieceLaws.{stays_changed, changed_by, goes_done, goes_refused}
use Rattle.vcd_traces.proofs.reader.Reading.take_scalar.Goals as goal

pub returns-in_err-take_change-clause-goes : goal.returns-in_err-take_change-clause-goes
returns-in_err-take_change-clause-goes c ports w past plan holding =
    let first = placed c.args.text.now c.args.word.start c.args.word.stop in
    let word : drop 1 first.word ≡ c.behind_first.result.now = sym (c.behind_first.ensures ∙ ap (drop 1) c.bytes_at.ensures) in
    goes_refused c.args.text.now w c.args.plan.now past (scalar ports past c.args.level first) _ c.take_change.new.self (words_left c.args.text.now c.args.word.stop)
    c.in_err-take_change.field-0.0 _ (changed_by ports past c.args.level first.at first.at 1 1 (drop 1 first.word) c.behind_first.result.now refl word)
    (c.in_err-take_change.ensures ports w past plan.table holding.1) c.from_residual.ensures.1

pub returns-clause-goes : goal.returns-clause-goes
returns-clause-goes c ports w past plan holding =
    let first = placed c.args.text.now c.args.word.start c.args.word.stop in
    let word : drop 1 first.word ≡ c.behind_first.result.now = sym (c.behind_first.ensures ∙ ap (drop 1) c.bytes_at.ensures) in
    goes_done c.args.text.now w c.args.plan.now past (scalar ports past c.args.level first) _ c.take_change.new.self c.args.word.stop
    (changed_by ports past c.args.level first.at first.at 1 1 (drop 1 first.word) c.behind_first.result.now refl word)
    (stays_changed ports past c.args.level 1 first.at (record { at = first.at; word = drop 1 first.word }))
    (c.in_ok-take_change.ensures ports w past plan.table holding.1)
