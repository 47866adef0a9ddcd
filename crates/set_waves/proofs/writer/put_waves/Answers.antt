use Rattle.std.proofs.Common.{◌≡◌, ◌∙◌, List, refl, sym, subst}
use Rattle.std.specs.Prelude.{true, false}
use Rattle.std.proofs.lemmas.List.{append-nil}
use Rattle.write_order.specs.Writes.{AreDone, Write, on_shelf}
use Rattle.set_waves.specs.Waved.{waved_of}
use Rattle.set_waves.proofs.WriteLaws.{none-due}
use Rattle.set_waves.proofs.writer.put_waves.Goals as goal

differ : false ≡ true → ⊥
differ e = cc

pub returns-else-are_due-clause-left : goal.returns-else-are_due-clause-left
returns-else-are_due-clause-left g c = λ told runs printed are.
    subst (λ (writes : List Write). AreDone writes
    (on_shelf (g.S.Shelf.written c.args.shelf.now) (g.S.Shelf.written c.args.shelf.now) printed))
    (sym (none-due (waved_of c.args.waves.now) c.args.waves.now.prefix.now runs 0 c.args.sets.now
    (λ both. differ (sym c.if-are_due.false ∙ c.are_due.ensures.1 both))))
    (record { texts = λ name. refl; printed = sym (append-nil printed) })
