use Rattle.std.proofs.Common.{List, ℕ, [], ◌∷◌, ◌∙◌, subst}
use Rattle.write_order.specs.Writes.{Leaves, on_sink, print_piece}
use Rattle.list_writer.proofs.writes.print_ending.Goals as goal

pub returns-in-Ok-clause-left : goal.returns-in-Ok-clause-left
returns-in-Ok-clause-left g c = λ told written.
    subst (λ (line : List ℕ). Leaves (print_piece line ∷ []) (on_sink written (g.O.Sink.written c.args.out.now)
    (g.O.Sink.written c.print_piece.new.out)) c.print_piece.result)
    (c.deref.ensures.value ∙ c.in-Ok.ensures) (c.print_piece.ensures.left told written)
