use Rattle.std.proofs.Common.{subst, sym}
use Rattle.std.specs.Prelude.{◌&&◌}
use Rattle.std.proofs.lemmas.Bool.{and_parts}
use Rattle.command_contract.specs.Contract.{Run, counts_of, run_of}
use Rattle.load_texts.specs.Means.{Means}
use Rattle.refusal.specs.Ends.{HasCause}
use Rattle.refusal.proofs.Keeping.{refused-keeps}
use Rattle.requests.specs.Asked.{SourcesAsked}
use Rattle.requests.specs.Views.{sim_asked}
use Rattle.sim_cmd.specs.Simulation.{IsReady, Refused, simulation}
use Rattle.sim_cmd.proofs.Keeping.{ends-by_lines, shown-keeps, shown-of}
use Rattle.sim_cmd.proofs.run.simulate.Goals as goal

pub returns-in-Err : goal.returns-in-Err
returns-in-Err g c =
    let asked = sim_asked c.args.request.now in
    let shelf = c.args.shelf.now in
    let both = and_parts (g.S.Shelf.tells shelf) (g.O.Sink.tells c.args.out.now) in
    let r : Run = run_of (g.S.Shelf.tells shelf && g.O.Sink.tells c.args.out.now) (g.S.Shelf.texts shelf)
    (g.S.Shelf.written shelf) (g.S.Shelf.written c.load.new.shelf) (g.O.Sink.written c.args.out.now)
    (g.O.Sink.written c.print.new.out)
    (counts_of (g.S.Shelf.faults shelf) (g.S.Shelf.faults c.load.new.shelf) (g.O.Sink.faults c.args.out.now)
    (g.O.Sink.faults c.print.new.out)) in
    refused-keeps (simulation g.F.FrontEnd.means g.F.FrontEnd.refuses asked) r
    (ends-by_lines g.F.FrontEnd.means g.F.FrontEnd.refuses asked r) c.in-Err.last c.print.result
    (record {
      has_status = c.in-Err.ensures.status;
      cause = λ told.
          subst (λ (a : SourcesAsked). HasCause (Refused g.F.FrontEnd.means g.F.FrontEnd.refuses a (g.S.Shelf.texts shelf)) c.in-Err.last)
          c.sources.ensures (c.in-Err.ensures.refused (both told).0);
      nothing = c.in-Err.ensures.written;
      prints = λ told. c.print.ensures.text (both told).1;
      shelf = c.in-Err.ensures.counts;
      sink = c.print.ensures.counts;
      spared = λ told ready.
          c.in-Err.ensures.only (both told).0
          (subst (λ (a : SourcesAsked). IsReady g.F.FrontEnd.means a (g.S.Shelf.texts shelf)) (sym c.sources.ensures) ready);
    })

pub returns-in-Ok : goal.returns-in-Ok
returns-in-Ok g c =
    let asked = sim_asked c.args.request.now in
    let shelf = c.args.shelf.now in
    let both = and_parts (g.S.Shelf.tells shelf) (g.O.Sink.tells c.args.out.now) in
    let loaded = c.in-Ok.loaded in
    let r : Run = run_of (g.S.Shelf.tells shelf && g.O.Sink.tells c.args.out.now) (g.S.Shelf.texts shelf)
    (g.S.Shelf.written shelf) (g.S.Shelf.written c.load.new.shelf) (g.O.Sink.written c.args.out.now)
    (g.O.Sink.written c.show.new.out)
    (counts_of (g.S.Shelf.faults shelf) (g.S.Shelf.faults c.load.new.shelf) (g.O.Sink.faults c.args.out.now)
    (g.O.Sink.faults c.show.new.out)) in
    shown-keeps g.F.FrontEnd.means g.F.FrontEnd.refuses asked r c.show.result
    (λ told. shown-of g.F.FrontEnd.means asked.sources (g.S.Shelf.texts shelf) loaded.ordered.design loaded.ordered.order
    loaded.traces.items asked.exit_code (g.O.Sink.written c.args.out.now) (g.O.Sink.written c.show.new.out) c.show.result
    c.in-Ok.ensures.ready
    (subst (λ (a : SourcesAsked). Means g.F.FrontEnd.means a (g.S.Shelf.texts shelf) loaded.ordered.design loaded.traces.items)
    c.sources.ensures (c.in-Ok.ensures.means (both told).0)) (c.show.ensures.text (both told).1))
    c.in-Ok.ensures.written c.in-Ok.ensures.counts c.show.ensures.counts
