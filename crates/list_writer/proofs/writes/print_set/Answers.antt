use Rattle.std.proofs.Common.{List, ℕ, [], ◌∷◌, ◌∙◌, ap, subst}
use Rattle.design_core.specs.declared.place.Place.{Place}
use Rattle.report_doc.specs.Lines.{set_lines}
use Rattle.write_order.specs.Writes.{Leaves, on_sink, print_piece}
use Rattle.list_writer.proofs.writes.print_set.Goals as goal

pub returns-in-Ok-clause-left : goal.returns-in-Ok-clause-left
returns-in-Ok-clause-left g c = λ told written.
    subst (λ (line : List ℕ). Leaves (print_piece line ∷ []) (on_sink written (g.O.Sink.written c.args.out.now)
    (g.O.Sink.written c.print_piece.new.out)) c.print_piece.result)
    (c.as_slice.ensures ∙ c.in-Ok.ensures
    ∙ ap (λ (places : List Place). set_lines c.args.job.now.question.groups.now places c.args.set.now.members) c.deref.ensures.value)
    (c.print_piece.ensures.left told written)
