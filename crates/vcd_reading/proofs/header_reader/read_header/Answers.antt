use Rattle.std.proofs.Common.{List, Err}
use Rattle.vcd_words.specs.Words.{words_left, placed}
use Rattle.vcd_reading.specs.HeaderView.{header_of}
use Rattle.vcd_reading.specs.Scopes.{Sought}
use Rattle.vcd_reading.specs.Outcomes.{IsAt, begun}
use Rattle.vcd_reading.specs.Reading.{ReadsText}
use Rattle.vcd_reading.proofs.Exits.{passed_on}
use Rattle.vcd_reading.proofs.ReadSteps.{reads_on, reads_refused, at_for_all}
use Rattle.vcd_reading.proofs.header_reader.read_header.Goals as goal

pub returns-in_err-stop-clause-fault : goal.returns-in_err-stop-clause-fault
returns-in_err-stop-clause-fault c =
    let first = placed c.args.text.now c.in-Some.word.start c.in-Some.word.stop in
    let words = words_left c.args.text.now c.in-Some.word.stop in
    passed_on (IsAt (λ at. (sought : Sought) → ReadsText sought c.args.text.now (Err at))) _ _ c.from_residual.ensures.1
    (at_for_all (λ sought at. ReadsText sought c.args.text.now (Err at)) c.in_err-stop.field-0.0
    (λ sought.
    reads_refused sought c.args.text.now (begun (header_of c.loop-header.header)) c.loop-header.stop first words c.in_err-stop.field-0.0
    (c.loop-header.invariant.reads sought) c.in-Some.ensures.word (c.in_err-stop.ensures.turns sought)))

pub loop-header-preserved : goal.loop-header-preserved
loop-header-preserved c = record {
  reads = λ (sought : Sought).
      reads_on sought c.args.text.now (begun (header_of c.loop-header.header)) (begun (header_of c.piece.new.header)) c.loop-header.stop c.in_ok-stop.stop
      (placed c.args.text.now c.in-Some.word.start c.in-Some.word.stop) (words_left c.args.text.now c.in-Some.word.stop)
      (c.loop-header.invariant.reads sought) c.in-Some.ensures.word (c.in_ok-stop.ensures.turns sought);
  within = c.in_ok-stop.ensures.within;
}
