use Rattle.std.proofs.Common.{◌≡◌, Some, ap, arith, length}
use Rattle.list_writer.specs.Jobs.{asked_of}
use Rattle.list_writer.specs.Saving.{saving_of}
use Rattle.list_writer.proofs.Saved.{causes-as, saved-as}
use Rattle.list_writer.proofs.listing.Listing.save.Goals as goal

pub returns-clause-left : goal.returns-clause-left
returns-clause-left g c = λ told.
    let many : c.len-sets.result ≡ length c.args.self.now.found.items = omega (arith, c.len-sets.ensures, c.args.self.now.found.ok.0) in
    saved-as (saving_of (asked_of c.args.self.now.job) (g.D.Search.state c.args.self.now.search) c.args.self.now.found.items c.args.saves.now.next
    c.put_checkpoint.new.saves.next (g.S.Shelf.written c.args.shelf.now) (g.S.Shelf.written c.put_checkpoint.new.shelf))
    c.put_checkpoint.result (Some c.len-sets.result) c.stopped.result c.stopped.ensures (ap Some many) (c.put_checkpoint.ensures.left told)

pub returns-clause-cause : goal.returns-clause-cause
returns-clause-cause g c =
    causes-as (g.S.Shelf.faults c.args.shelf.now) (g.S.Shelf.faults c.put_checkpoint.new.shelf) c.put_checkpoint.result (Some c.len-sets.result)
    c.stopped.result c.stopped.ensures c.put_checkpoint.ensures.cause
