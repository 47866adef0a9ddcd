use Rattle.std.proofs.Common.{◌∙◌, sym, subst}
use Rattle.list_writer.specs.declared.outcome.Outcome.{Outcome}
use Rattle.list_writer.specs.declared.outcome.Outcome.TheVariants as outcome
use Rattle.list_writer.specs.CheckpointNames.{beside}
use Rattle.list_writer.specs.Going.{TellsMemory, outputs}
use Rattle.list_writer.specs.Jobs.{asked_with, session_of}
use Rattle.list_writer.proofs.Beside.{beside-is}
use Rattle.list_writer.proofs.Others.{others-stay}
use Rattle.list_writer.proofs.Runs.{memory-ends}
use Rattle.list_writer.proofs.Saved.{stand-short}
use Rattle.list_writer.proofs.listing.list.Goals as goal

pub returns-in-Ok-clause-others : goal.returns-in-Ok-clause-others
returns-in-Ok-clause-others g c = λ told_shelf told_sink name no_log no_report no_checkpoint no_wave.
    let asked = asked_with c.args.task.job (session_of c.args.task.found.items (g.D.Search.state c.args.task.search)) in
    let b = beside asked.checkpoints in
    let written = g.S.Shelf.written in
    sym (beside-is asked.checkpoints (written c.run.new.shelf) name no_checkpoint)
    ∙ others-stay asked name no_log no_report no_wave
    (outputs (b (written c.args.shelf.now)) (b (written c.run.new.shelf)) (g.O.Sink.written c.args.out.now) (g.O.Sink.written c.run.new.out))
    (outcome.Ended c.in-Ok.ending) (c.in-Ok.ensures.left told_shelf told_sink)
    ∙ beside-is asked.checkpoints (written c.args.shelf.now) name no_checkpoint

pub returns-in-Err-Failed-clause-others : goal.returns-in-Err-Failed-clause-others
returns-in-Err-Failed-clause-others g c =
    let left = rw c.in-Err-Failed.field-0-is at c.in-Err-Failed.ensures.left in
    λ told_shelf told_sink name no_log no_report no_checkpoint no_wave.
    let asked = asked_with c.args.task.job (session_of c.args.task.found.items (g.D.Search.state c.args.task.search)) in
    let b = beside asked.checkpoints in
    let written = g.S.Shelf.written in
    sym (beside-is asked.checkpoints (written c.run.new.shelf) name no_checkpoint)
    ∙ others-stay asked name no_log no_report no_wave
    (outputs (b (written c.args.shelf.now)) (b (written c.run.new.shelf)) (g.O.Sink.written c.args.out.now) (g.O.Sink.written c.run.new.out))
    outcome.Failed (left told_shelf told_sink)
    ∙ beside-is asked.checkpoints (written c.args.shelf.now) name no_checkpoint

pub returns-in-Err-Failed-clause-checkpoints : goal.returns-in-Err-Failed-clause-checkpoints
returns-in-Err-Failed-clause-checkpoints g c = rw c.in-Err-Failed.field-0-is at c.in-Err-Failed.ensures.saved

pub returns-clause-left : goal.returns-clause-left
returns-clause-left g c =
    let short = rw c.in-Err-Memory.field-0-is at c.in-Err-Memory.ensures.left in
    λ told_shelf told_sink.
    let asked = asked_with c.args.task.job (session_of c.args.task.found.items (g.D.Search.state c.args.task.search)) in
    let b = beside asked.checkpoints in
    memory-ends asked c.in-Err-Memory.sets (b (g.S.Shelf.written c.args.shelf.now)) (b (g.S.Shelf.written c.run.new.shelf))
    (g.O.Sink.written c.args.out.now) (g.O.Sink.written c.run.new.out) (g.O.Sink.written c.tell_memory.new.out)
    (short told_shelf told_sink) c.tell_memory.result
    (c.tell_memory.ensures.left (c.in-Err-Memory.ensures.tells_sink ∙ told_sink) (b (g.S.Shelf.written c.run.new.shelf)))

pub returns-clause-checkpoints : goal.returns-clause-checkpoints
returns-clause-checkpoints g c =
    let saved = rw c.in-Err-Memory.field-0-is at c.in-Err-Memory.ensures.saved in
    λ told_shelf told_sink.
    let asked = asked_with c.args.task.job (session_of c.args.task.found.items (g.D.Search.state c.args.task.search)) in
    let is = g.S.Shelf.written c.run.new.shelf in
    let o = outputs is is (g.O.Sink.written c.run.new.out) (g.O.Sink.written c.tell_memory.new.out) in
    stand-short asked.checkpoints asked (g.S.Shelf.written c.args.shelf.now) is c.tell_memory.result
    (λ ending same. subst (λ (how : Outcome). TellsMemory c.in-Err-Memory.sets o how) same
    (c.tell_memory.ensures.left (c.in-Err-Memory.ensures.tells_sink ∙ told_sink) is))
    (saved told_shelf told_sink)

pub returns-clause-others : goal.returns-clause-others
returns-clause-others g c = λ told_shelf told_sink name no_log no_report no_checkpoint no_wave.
    let asked = asked_with c.args.task.job (session_of c.args.task.found.items (g.D.Search.state c.args.task.search)) in
    let b = beside asked.checkpoints in
    let written = g.S.Shelf.written in
    sym (beside-is asked.checkpoints (written c.run.new.shelf) name no_checkpoint)
    ∙ others-stay asked name no_log no_report no_wave
    (outputs (b (written c.args.shelf.now)) (b (written c.run.new.shelf)) (g.O.Sink.written c.args.out.now) (g.O.Sink.written c.tell_memory.new.out))
    c.tell_memory.result (returns-clause-left g c told_shelf told_sink)
    ∙ beside-is asked.checkpoints (written c.args.shelf.now) name no_checkpoint
