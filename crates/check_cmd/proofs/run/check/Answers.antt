use Rattle.std.proofs.Common.{List, ℕ, subst}
use Rattle.std.proofs.lemmas.Bool.{and_parts}
use Rattle.refusal.specs.declared.last_line.LastLine.TheVariants.{Memory}
use Rattle.refusal.specs.Ends.{Prints}
use Rattle.refusal.proofs.Keeping.{refused-keeps}
use Rattle.requests.specs.Views.{check_asked}
use Rattle.check_cmd.specs.Parts.{given_of}
use Rattle.check_cmd.proofs.Keeping.{answer-status, ends-by_lines, judged, judged-keeps}
use Rattle.check_cmd.proofs.run.check.Goals as goal

pub returns-in-Err : goal.returns-in-Err
returns-in-Err g c =
    let asked = check_asked c.args.request.now in
    let both = and_parts (g.S.Shelf.tells c.args.shelf.now) (g.O.Sink.tells c.args.out.now) in
    refused-keeps _ _ (ends-by_lines g.F.FrontEnd.means g.F.FrontEnd.refuses _ _ asked _) c.in-Err.refusal c.print.result
    (record {
      has_status = c.in-Err.ensures.status;
      cause = λ told. c.in-Err.ensures.refused (both told).0;
      nothing = c.in-Err.ensures.written;
      prints = λ told. c.print.ensures.text (both told).1;
      shelf = c.in-Err.ensures.counts;
      sink = c.print.ensures.counts;
      spared = λ told ready. c.in-Err.ensures.only (both told).0 ready;
    })

pub returns-in-Ok-answer_of : goal.returns-in-Ok-answer_of
returns-in-Ok-answer_of g c =
    let asked = check_asked c.args.request.now in
    let both = and_parts (g.S.Shelf.tells c.args.shelf.now) (g.O.Sink.tells c.args.out.now) in
    let given = given_of c.in-Ok.evidence in
    judged-keeps g.F.FrontEnd.means g.F.FrontEnd.refuses _ _ asked _ c.in-Ok-answer_of.answer.status c.in-Ok-answer_of.answer.line.items
    c.print_line.result
    (record {
      answer = answer-status asked.texts.top given c.in-Ok-answer_of.answer c.in-Ok-answer_of.ensures;
      judged = λ told.
          judged g.F.FrontEnd.means _ _ asked _ given c.in-Ok-answer_of.answer (c.in-Ok.ensures.means (both told).0) c.in-Ok.ensures.same
          c.in-Ok.ensures.can.posed.problem c.in-Ok-answer_of.ensures;
      nothing = c.in-Ok.ensures.written;
      prints = λ told.
          subst (λ (l : List ℕ). Prints l c.in-Ok-answer_of.answer.status (g.O.Sink.written c.args.out.now)
          (g.O.Sink.written c.print_line.new.out) c.print_line.result)
          c.deref.ensures.value (c.print_line.ensures.text (both told).1);
      shelf = c.in-Ok.ensures.counts;
      sink = c.print_line.ensures.counts;
    })

pub returns : goal.returns
returns g c =
    let asked = check_asked c.args.request.now in
    let both = and_parts (g.S.Shelf.tells c.args.shelf.now) (g.O.Sink.tells c.args.out.now) in
    refused-keeps _ _ (ends-by_lines g.F.FrontEnd.means g.F.FrontEnd.refuses _ _ asked _) Memory c.print-in-Err-answer_of.result
    (record {
      has_status = tt;
      cause = λ told. tt;
      nothing = c.in-Ok.ensures.written;
      prints = λ told. c.print-in-Err-answer_of.ensures.text (both told).1;
      shelf = tt;
      sink = c.print-in-Err-answer_of.ensures.counts;
      spared = λ told ready. tt;
    })
