use Rattle.std.proofs.Common.{◌≡◌, ◌∙◌, Some, sym, arith}
use Rattle.aiger_text.specs.Lines.{parts_of}
use Rattle.aiger_text.specs.Rows.{header_in}
use Rattle.aiger_text.specs.Content.{content_of}
use Rattle.aiger_text.specs.Refusals.{IsShort, TextCause}
use Rattle.aiger_text.proofs.LineSteps.{header-cut}
use Rattle.aiger_text.proofs.ContentSteps.{IfErr-handed_on, written-is, lacking-is}
use Rattle.aiger_text.proofs.content.read_content.Goals as goal

pub returns-in_err-content-in-Some-2-clause-err : goal.returns-in_err-content-in-Some-2-clause-err
returns-in_err-content-in-Some-2-clause-err c =
    let short : IsShort c.args.text.now = omega arith in
    let is : Some c.in-Some-2.counts ≡ header_in c.in-Some.cut.front.now = sym c.in-Some-2.is ∙ c.in_ok-counts.ensures in
    IfErr-handed_on (TextCause c.args.text.now) c.from_residual-in_err-content-in-Some-2.result c.in_err-content-in-Some-2.field-0.0
    c.from_residual-in_err-content-in-Some-2.ensures.1
    (lacking-is c.args.text.now (parts_of c.in-Some.cut) c.in-Some-2.counts c.in_err-content-in-Some-2.field-0.0 short c.in-Some.ensures.some is
    c.in_err-content-in-Some-2.ensures.err)

pub returns-in-Some-2-clause-ok : goal.returns-in-Some-2-clause-ok
returns-in-Some-2-clause-ok c =
    let is : Some c.in-Some-2.counts ≡ header_in c.in-Some.cut.front.now = sym c.in-Some-2.is ∙ c.in_ok-counts.ensures in
    written-is c.args.text.now (parts_of c.in-Some.cut) c.in-Some-2.counts (content_of c.in_ok-content-in-Some-2.content) c.in-Some.ensures.some is
    c.in_ok-content-in-Some-2.ensures.counts c.in_ok-content-in-Some-2.ensures.ok

pub returns-clause-err : goal.returns-clause-err
returns-clause-err c =
    let short : IsShort c.args.text.now = omega arith in
    (short, header-cut c.args.text.now (parts_of c.in-Some.cut) c.in-Some.ensures.some ∙ sym c.in_ok-counts.ensures ∙ c.in-None.is)
