use Rattle.std.proofs.Common.{◌&&◌, subst}
use Rattle.list_writer.specs.declared.job.Job.{Job}
use Rattle.list_writer.specs.CheckpointNames.{beside}
use Rattle.list_writer.specs.Going.{IsSearched, SearchEnds, outputs, searched_of}
use Rattle.list_writer.specs.Jobs.{asked_with, session_of}
use Rattle.list_writer.specs.Saving.{outcome_of}
use Rattle.list_writer.proofs.Finished.{on-ok}
use Rattle.list_writer.proofs.Saved.{stand-weaker}
use Rattle.list_writer.proofs.listing.Listing.search_on.Goals as goal

pub returns-then-is_front-clause-begun : goal.returns-then-is_front-clause-begun
returns-then-is_front-clause-begun g c = λ tells. on-ok _ c.finish.result (c.in_ok-ending.ensures.begun tells)

pub returns-then-is_front-clause-causes : goal.returns-then-is_front-clause-causes
returns-then-is_front-clause-causes g c = c.finish.ensures.causes _ c.in_ok-ending.ensures.causes

pub returns-then-is_front-clause-left : goal.returns-then-is_front-clause-left
returns-then-is_front-clause-left g c =
    let state = g.D.Search.state in
    let session = session_of c.args.self.now.found.items (state c.args.self.now.search) in
    let b = beside (asked_with c.args.self.now.job session).checkpoints in
    let before = c.search_sets.new.self in
    let behind = c.finish.new.self in
    let told = g.S.Shelf.tells c.args.shelf.now && g.O.Sink.tells c.args.out.now in
    let o = outputs (b (g.S.Shelf.written c.args.shelf.now)) (b (g.S.Shelf.written c.search_sets.new.shelf)) (g.O.Sink.written c.args.out.now)
    (g.O.Sink.written c.search_sets.new.out) in
    subst (λ (j : Job). SearchEnds (searched_of (asked_with j session) (state before.search) before.found.items before.steps o told)
    c.in_ok-ending.ending
    → IsSearched (searched_of (asked_with j session) (state behind.search) behind.found.items behind.steps o told) c.finish.result)
    c.in_ok-ending.ensures.job (c.finish.ensures.left session o told) c.in_ok-ending.ensures.left.answer

pub returns-then-is_front-clause-saved : goal.returns-then-is_front-clause-saved
returns-then-is_front-clause-saved g c = λ told_shelf told_sink.
    let asked = asked_with c.args.self.now.job (session_of c.args.self.now.found.items (g.D.Search.state c.args.self.now.search)) in
    stand-weaker asked.checkpoints asked (g.S.Shelf.written c.args.shelf.now) (g.S.Shelf.written c.search_sets.new.shelf) c.in_ok-ending.ending
    (outcome_of c.finish.result) (c.in_ok-ending.ensures.saved told_shelf told_sink)
