use Rattle.std.proofs.Common.{◌≡◌, ℕ, Some, Err, length, arith, subst, sym}
use Rattle.list_writer.specs.declared.stop.Stop.TheVariants.{Memory}
use Rattle.list_writer.specs.Going.{IsSearched, searched_of}
use Rattle.list_writer.specs.Jobs.{asked_with}
use Rattle.list_writer.proofs.Finished.{finished-cut, finished-searched}
use Rattle.list_writer.proofs.listing.Listing.finish.Goals as goal

pub returns-in-Ok-clause-left : goal.returns-in-Ok-clause-left
returns-in-Ok-clause-left g c = λ session o told ends.
    finished-searched (asked_with c.args.self.now.job session) (g.D.Search.state c.args.self.now.search) (g.D.Search.state c.finish.new.self)
    c.args.self.now.found.items c.args.self.now.steps c.args.ending o told ends c.finish.ensures.holds c.in-Ok.ensures.ok c.requires.unfinished
    c.requires.front c.in-Ok.ensures.counted

pub returns-in-Err-clause-left : goal.returns-in-Err-clause-left
returns-in-Err-clause-left g c = λ session o told ends.
    let many : c.len.result ≡ length c.args.self.now.found.items = omega (arith, c.len.ensures, c.args.self.now.found.ok.0) in
    subst (λ (n : ℕ). IsSearched (searched_of (asked_with c.args.self.now.job session) (g.D.Search.state c.finish.new.self) c.args.self.now.found.items
    c.args.self.now.steps o told) (Err (Memory (Some n)))) (sym many)
    (finished-cut (asked_with c.args.self.now.job session) (g.D.Search.state c.args.self.now.search) (g.D.Search.state c.finish.new.self)
    c.args.self.now.found.items c.args.self.now.steps c.args.ending o told ends c.finish.ensures.holds c.in-Err.ensures.err)
