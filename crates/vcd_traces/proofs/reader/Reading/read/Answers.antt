use Rattle.vcd_words.specs.Words.{words_left, placed}
use Rattle.vcd_traces.proofs.GoingLaws.{going_next, going_refused, going_ends}
use Rattle.vcd_traces.proofs.reader.Reading.read.Goals as goal

pub returns-in_err-at : goal.returns-in_err-at
returns-in_err-at c ports w start planned going =
    let text = c.args.text.now in
    going_refused ports w c.args.plan.now text start c.loop-word.at c.loop-word.self c.take_piece.new.self (placed text c.in-Some.word.start c.in-Some.word.stop)
    (words_left text c.in-Some.word.stop) c.in_err-at.field-0.0 _ (c.in_err-at.ensures.goes ports w) planned (c.loop-word.invariant ports w start planned going)
    c.in-Some.ensures.word c.from_residual.ensures.1

pub loop-word-preserved : goal.loop-word-preserved
loop-word-preserved c ports w start planned going =
    let text = c.args.text.now in
    going_next ports w c.args.plan.now text start c.loop-word.at c.in_ok-at.at c.loop-word.self c.take_piece.new.self
    (placed text c.in-Some.word.start c.in-Some.word.stop) (words_left text c.in-Some.word.stop) (c.in_ok-at.ensures.goes ports w) planned
    (c.loop-word.invariant ports w start planned going) c.in-Some.ensures.word

pub returns : goal.returns
returns c ports w start planned going =
    going_ends ports w c.args.plan.now c.args.text.now start c.loop-word.at c.loop-word.self c.close.new.self planned
    (c.loop-word.invariant ports w start planned going) c.in_default.ensures.none c.in_ok-close.ensures.rows
