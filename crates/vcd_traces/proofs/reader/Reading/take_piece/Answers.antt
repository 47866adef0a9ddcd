use Rattle.std.proofs.Common.{Some, sym, ◌∙◌, ap}
use Rattle.vcd_words.specs.Words.{words_left, placed}
use Rattle.vcd_reading.specs.declared.kinds.Kind.TheVariants.{Time, Scalar, Vector, Real, Text, Section}
use Rattle.vcd_traces.proofs.PieceLaws.{goes_kind, goes_comment, is_comment}
use Rattle.vcd_traces.proofs.reader.Reading.take_piece.Goals as goal

pub returns-in-Some-Time-clause-goes : goal.returns-in-Some-Time-clause-goes
returns-in-Some-Time-clause-goes c sought w past plan ended holding =
    let text = c.args.text.now in
    goes_kind sought text c.bytes_at.result.now past (placed text c.args.word.start c.args.word.stop) (words_left text c.args.word.stop) (Some (Time c.in-Some-Time.time)) _ _ ended
    c.bytes_at.ensures (ap Some (sym c.in-Some-Time.field-0-is) ∙ sym c.in-Some-Time.is ∙ c.change_at.ensures) (c.take_stamp.ensures.goes text sought w past plan holding)

pub returns-in-Some-Scalar-clause-goes : goal.returns-in-Some-Scalar-clause-goes
returns-in-Some-Scalar-clause-goes c sought w past plan ended holding =
    let text = c.args.text.now in
    goes_kind sought text c.bytes_at.result.now past (placed text c.args.word.start c.args.word.stop) (words_left text c.args.word.stop) (Some (Scalar c.in-Some-Scalar.level)) _ _ ended
    c.bytes_at.ensures (ap Some (sym c.in-Some-Scalar.field-0-is) ∙ sym c.in-Some-Scalar.is ∙ c.change_at.ensures) (c.take_scalar.ensures.goes sought w past plan holding)

pub returns-in-Some-Vector-clause-goes : goal.returns-in-Some-Vector-clause-goes
returns-in-Some-Vector-clause-goes c sought w past plan ended holding =
    let text = c.args.text.now in
    goes_kind sought text c.bytes_at.result.now past (placed text c.args.word.start c.args.word.stop) (words_left text c.args.word.stop) (Some (Vector c.in-Some-Vector.level)) _ _ ended
    c.bytes_at.ensures (ap Some (sym c.in-Some-Vector.field-0-is) ∙ sym c.in-Some-Vector.is ∙ c.change_at.ensures) (c.take_vector.ensures.goes sought w past plan holding)

pub returns-in-Some-Real-clause-goes : goal.returns-in-Some-Real-clause-goes
returns-in-Some-Real-clause-goes c sought w past plan ended holding =
    let text = c.args.text.now in
    goes_kind sought text c.bytes_at.result.now past (placed text c.args.word.start c.args.word.stop) (words_left text c.args.word.stop) (Some Real) _ _ ended
    c.bytes_at.ensures (ap Some (sym c.in-Some-Real.field-0-is) ∙ sym c.in-Some-Real.is ∙ c.change_at.ensures) (c.take_other.ensures.goes sought w past plan holding)

pub returns-in-Some-Text-clause-goes : goal.returns-in-Some-Text-clause-goes
returns-in-Some-Text-clause-goes c sought w past plan ended holding =
    let text = c.args.text.now in
    goes_kind sought text c.bytes_at.result.now past (placed text c.args.word.start c.args.word.stop) (words_left text c.args.word.stop) (Some Text) _ _ ended
    c.bytes_at.ensures (ap Some (sym c.in-Some-Text.field-0-is) ∙ sym c.in-Some-Text.is ∙ c.change_at.ensures) (c.take_other-in-Some-Text.ensures.goes sought w past plan holding)

pub returns-in-Some-Section-clause-goes : goal.returns-in-Some-Section-clause-goes
returns-in-Some-Section-clause-goes c sought w past plan ended holding =
    let text = c.args.text.now in
    let first = placed text c.args.word.start c.args.word.stop in
    let words = words_left text c.args.word.stop in
    let name = c.in-Some-Section.field-0-0 in
    goes_kind sought text c.bytes_at.result.now past first words (Some (Section name)) _ _ ended c.bytes_at.ensures (ap Some (sym c.in-Some-Section.field-0-is) ∙ sym c.in-Some-Section.is ∙ c.change_at.ensures)
    (goes_comment sought text past first words name w c.args.plan.now c.args.self.now _
    (is_comment c.bytes_at.result.now name (sym c.change_at.ensures ∙ c.in-Some-Section.is ∙ ap Some c.in-Some-Section.field-0-is)) holding (c.comment_end.ensures.goes past))
