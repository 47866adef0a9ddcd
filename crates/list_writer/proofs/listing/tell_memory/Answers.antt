use Rattle.std.proofs.Common.{inl, inr}
use Rattle.write_order.specs.Writes.{on_sink, print_piece}
use Rattle.list_writer.specs.Lines.{memory_line}
use Rattle.list_writer.proofs.Pairs.{none-of-one}
use Rattle.list_writer.proofs.listing.tell_memory.Goals as goal

pub returns-in-Ok-clause-left : goal.returns-in-Ok-clause-left
returns-in-Ok-clause-left g c = λ told written. inl (c.in-Ok.ensures.left told written)

pub returns-in-Err-Failed-clause-left : goal.returns-in-Err-Failed-clause-left
returns-in-Err-Failed-clause-left g c =
    let left = rw c.in-Err-Failed.field-0-is at c.in-Err-Failed.ensures.left in
    λ told written. left told written

pub returns-in-Err-NoMemory-clause-left : goal.returns-in-Err-NoMemory-clause-left
returns-in-Err-NoMemory-clause-left g c =
    let left = rw c.in-Err-NoMemory.field-0-is at c.in-Err-NoMemory.ensures.left in
    λ told written. inr (none-of-one (print_piece (memory_line c.args.sets))
    (on_sink written (g.O.Sink.written c.args.out.now) (g.O.Sink.written c.print_memory.new.out)) (left told written))
