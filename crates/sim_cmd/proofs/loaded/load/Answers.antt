use Rattle.std.proofs.Common.{subst, sym, ◌∙◌}
use Rattle.std.specs.Prelude.{All}
use Rattle.command_contract.specs.Contract.{Texts}
use Rattle.vcd_traces.proofs.PortLaws.{formed_has_ports}
use Rattle.load_texts.proofs.Loaded.{passed_on}
use Rattle.load_texts.proofs.Ports.{has-ports}
use Rattle.load_texts.specs.Lines.{TracesRefused}
use Rattle.load_texts.specs.Loading.{HasTrace}
use Rattle.refusal.specs.Ends.{HasCause, IsSpared}
use Rattle.requests.specs.Views.{sources_asked}
use Rattle.sim_cmd.specs.Simulation.{Refused}
use Rattle.sim_cmd.proofs.Causes.{design-cause, trace-cause}
use Rattle.sim_cmd.proofs.loaded.load.Goals as goal

pub returns-in_err-read-clause-refused : goal.returns-in_err-read-clause-refused
returns-in_err-read-clause-refused g c = λ told.
    let asked = sources_asked c.args.sources.now in
    let texts = g.S.Shelf.texts c.args.shelf.now in
    passed_on (HasCause (Refused g.F.FrontEnd.means g.F.FrontEnd.refuses asked texts)) c.from_residual.result
    c.in_err-read.field-0.0 c.from_residual.ensures.1
    (design-cause g.F.FrontEnd.means g.F.FrontEnd.refuses asked texts c.in_err-read.field-0.0 (c.in_err-read.ensures.refused told))

pub returns-in_err-read-clause-only : goal.returns-in_err-read-clause-only
returns-in_err-read-clause-only g c = λ told ready.
    passed_on IsSpared c.from_residual.result c.in_err-read.field-0.0 c.from_residual.ensures.1
    (c.in_err-read.ensures.only told ready.design ready.means)

pub load_traces-requires-clause-ports : goal.load_traces-requires-clause-ports
load_traces-requires-clause-ports g c =
    has-ports formed_has_ports c.in_ok-read.read.ordered.design c.in_ok-read.read.ordered.order c.in_ok-read.ensures.ready

pub returns-in_err-traces-clause-refused : goal.returns-in_err-traces-clause-refused
returns-in_err-traces-clause-refused g c = λ told.
    let asked = sources_asked c.args.sources.now in
    let texts = g.S.Shelf.texts c.args.shelf.now in
    let design = c.in_ok-read.read.ordered.design in
    passed_on (HasCause (Refused g.F.FrontEnd.means g.F.FrontEnd.refuses asked texts)) c.from_residual-in_err-traces.result
    c.in_err-traces.field-0.0 c.from_residual-in_err-traces.ensures.1
    (trace-cause g.F.FrontEnd.means g.F.FrontEnd.refuses asked texts design c.in_err-traces.field-0.0
    (c.in_ok-read.ensures.means told)
    (subst (λ (ts : Texts). HasCause (TracesRefused asked ts design) c.in_err-traces.field-0.0) c.in_ok-read.ensures.texts
    (c.in_err-traces.ensures.refused (c.in_ok-read.ensures.tells ∙ told))))

pub returns-in_err-traces-clause-only : goal.returns-in_err-traces-clause-only
returns-in_err-traces-clause-only g c = λ told ready.
    let asked = sources_asked c.args.sources.now in
    let design = c.in_ok-read.read.ordered.design in
    passed_on IsSpared c.from_residual-in_err-traces.result c.in_err-traces.field-0.0 c.from_residual-in_err-traces.ensures.1
    (c.in_err-traces.ensures.only (c.in_ok-read.ensures.tells ∙ told)
    (subst (λ (ts : Texts). All (HasTrace ts asked design) asked.texts.traces) (sym c.in_ok-read.ensures.texts)
    (ready.traces design (c.in_ok-read.ensures.means told))))
