use Rattle.std.proofs.Common.{List, ap, inl, subst, sym, ◌∙◌}
use Rattle.std.specs.Prelude.{◌&&◌, if◌then◌else◌, not}
use Rattle.design_core.specs.declared.trace.Trace.{Trace}
use Rattle.sim_lines.specs.Lines.{AreLines}
use Rattle.sim_cmd.proofs.Shown.{some-then-memory}
use Rattle.sim_cmd.proofs.run.show.Goals as goal

pub returns-in-Err-NoMemory-clause-text : goal.returns-in-Err-NoMemory-clause-text
returns-in-Err-NoMemory-clause-text g c told lines are =
    let text = rw c.in-Err-NoMemory.field-0-is at c.in-Err-NoMemory.ensures.text in
    some-then-memory c.args.exit_code lines (g.O.Sink.written c.args.out.now) (g.O.Sink.written c.show_traces.new.out) (g.O.Sink.written c.print.new.out)
    c.print.result
    (text told lines
    (subst (λ (ts : List Trace). AreLines c.args.loaded.now.ordered.design 1 ts lines) (sym c.deref.ensures.value) are))
    (c.print.ensures.text (c.show_traces.ensures.tells ∙ told))

pub returns-in-Ok-clause-text : goal.returns-in-Ok-clause-text
returns-in-Ok-clause-text g c told lines are =
    let its : AreLines c.args.loaded.now.ordered.design 1 c.deref.result.now lines =
    subst (λ (ts : List Trace). AreLines c.args.loaded.now.ordered.design 1 ts lines) (sym c.deref.ensures.value) are in
    inl (c.status_for.ensures.is ∙ ap (λ right. if c.args.exit_code && not right then 9 else 0) (c.in-Ok.ensures.right lines its), c.in-Ok.ensures.text told lines its)
