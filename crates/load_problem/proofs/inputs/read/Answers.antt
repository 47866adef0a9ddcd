use Rattle.std.proofs.Common.{List, ◌≡◌, ◌≤◌, length, map, refl, sym, subst, ◌∙◌, arith}
use Rattle.std.specs.Prelude.{All}
use Rattle.std.proofs.lemmas.List.{length-map}
use Rattle.command_contract.specs.Contract.{Texts}
use Rattle.suspect_map.specs.Groups.{AreWithin}
use Rattle.design_core.specs.declared.place.Place.{Place}
use Rattle.vcd_traces.proofs.PortLaws.{formed_has_ports}
use Rattle.load_texts.proofs.Loaded.{passed_on}
use Rattle.load_texts.proofs.Ports.{has-ports}
use Rattle.load_texts.specs.Loading.{HasTrace}
use Rattle.load_texts.specs.Means.{AreKeptOf}
use Rattle.requests.specs.Views.{wanted_asked}
use Rattle.refusal.specs.Ends.{HasCause, IsSpared}
use Rattle.load_problem.specs.Refusals.{Refused}
use Rattle.load_texts.specs.Lines.{TracesRefused}
use Rattle.load_problem.proofs.Causes.{design-cause, many-cause, many-spared, trace-cause}
use Rattle.load_problem.proofs.Digests.{IsSum, is-digest}
use Rattle.load_problem.proofs.Problems.{is-problem}
use Rattle.load_problem.proofs.inputs.read.Goals as goal

pub returns-in_err-read-clause-refused : goal.returns-in_err-read-clause-refused
returns-in_err-read-clause-refused g c = λ told.
    let asked = wanted_asked c.args.wanted.now in
    let texts = g.S.Shelf.texts c.args.shelf.now in
    passed_on (HasCause (Refused g.F.FrontEnd.means g.F.FrontEnd.refuses _ asked texts))
    c.from_residual.result c.in_err-read.field-0.0 c.from_residual.ensures.1
    (design-cause g.F.FrontEnd.means g.F.FrontEnd.refuses _ asked texts c.in_err-read.field-0.0 (c.in_err-read.ensures.refused told))

pub returns-in_err-read-clause-only : goal.returns-in_err-read-clause-only
returns-in_err-read-clause-only g c = λ told ready.
    passed_on IsSpared c.from_residual.result c.in_err-read.field-0.0 c.from_residual.ensures.1
    (c.in_err-read.ensures.only told ready.design ready.means)

pub returns-in_err-groups-clause-refused : goal.returns-in_err-groups-clause-refused
returns-in_err-groups-clause-refused g c = λ told.
    let asked = wanted_asked c.args.wanted.now in
    let texts = g.S.Shelf.texts c.args.shelf.now in
    passed_on (HasCause (Refused g.F.FrontEnd.means g.F.FrontEnd.refuses _ asked texts))
    c.from_residual-in_err-groups.result c.in_err-groups.field-0.0 c.from_residual-in_err-groups.ensures.1
    (many-cause g.F.FrontEnd.means g.F.FrontEnd.refuses _ asked texts c.in_ok-read.read.ordered.design c.in_err-groups.field-0.0
    c.args.wanted.now.suspects.now c.as_slice.result.now refl c.as_slice.ensures.value (c.in_ok-read.ensures.means told)
    c.in_err-groups.ensures.refused)

pub returns-in_err-groups-clause-only : goal.returns-in_err-groups-clause-only
returns-in_err-groups-clause-only g c = λ told ready.
    let asked = wanted_asked c.args.wanted.now in
    let texts = g.S.Shelf.texts c.args.shelf.now in
    passed_on IsSpared
    c.from_residual-in_err-groups.result c.in_err-groups.field-0.0 c.from_residual-in_err-groups.ensures.1
    (many-spared g.F.FrontEnd.means _ asked texts c.in_ok-read.read.ordered.design c.in_err-groups.field-0.0
    c.args.wanted.now.suspects.now c.as_slice.result.now refl c.as_slice.ensures.value (c.in_ok-read.ensures.means told)
    ready c.in_err-groups.ensures.refused)

pub load_traces-requires-clause-ports : goal.load_traces-requires-clause-ports
load_traces-requires-clause-ports g c =
    has-ports formed_has_ports c.in_ok-read.read.ordered.design c.in_ok-read.read.ordered.order c.in_ok-read.ensures.ready

pub returns-in_err-traces-clause-refused : goal.returns-in_err-traces-clause-refused
returns-in_err-traces-clause-refused g c = λ told.
    let asked = wanted_asked c.args.wanted.now in
    let texts = g.S.Shelf.texts c.args.shelf.now in
    let design = c.in_ok-read.read.ordered.design in
    passed_on (HasCause (Refused g.F.FrontEnd.means g.F.FrontEnd.refuses _ asked texts))
    c.from_residual-in_err-traces.result c.in_err-traces.field-0.0 c.from_residual-in_err-traces.ensures.1
    (trace-cause g.F.FrontEnd.means g.F.FrontEnd.refuses _ asked texts design c.in_err-traces.field-0.0
    c.args.wanted.now.suspects.now c.as_slice.result.now c.in_ok-groups.groups refl c.as_slice.ensures.value
    (c.in_ok-read.ensures.means told) c.in_ok-groups.ensures.groups c.in_ok-groups.ensures.count
    (subst (λ (ts : Texts). HasCause (TracesRefused asked.sources ts design) c.in_err-traces.field-0.0) c.in_ok-read.ensures.texts
    (c.in_err-traces.ensures.refused (c.in_ok-read.ensures.tells ∙ told))))

pub returns-in_err-traces-clause-only : goal.returns-in_err-traces-clause-only
returns-in_err-traces-clause-only g c = λ told ready.
    let asked = wanted_asked c.args.wanted.now in
    let design = c.in_ok-read.read.ordered.design in
    passed_on IsSpared
    c.from_residual-in_err-traces.result c.in_err-traces.field-0.0 c.from_residual-in_err-traces.ensures.1
    (c.in_err-traces.ensures.only (c.in_ok-read.ensures.tells ∙ told)
    (subst (λ (ts : Texts). All (HasTrace ts asked.sources design) asked.sources.texts.traces) (sym c.in_ok-read.ensures.texts)
    (ready.traces design (c.in_ok-read.ensures.means told))))

pub returns-clause-digest : goal.returns-clause-digest
returns-clause-digest g c = λ told.
    let asked = wanted_asked c.args.wanted.now in
    let texts = g.S.Shelf.texts c.args.shelf.now in
    is-digest asked texts c.in_ok-read.read.imprint c.deref.result.now c.digest_of-digest.result
    (c.in_ok-read.ensures.kept told)
    (subst (AreKeptOf IsSum texts asked.sources.texts.traces) (sym c.deref.ensures.value)
    (subst (λ (ts : Texts). AreKeptOf IsSum ts asked.sources.texts.traces c.in_ok-traces.traces.imprints.items) c.in_ok-read.ensures.texts
    (c.in_ok-traces.ensures.kept (c.in_ok-read.ensures.tells ∙ told))))
    c.digest_of-digest.ensures

few-traces : {X Y Z : Type 0} (f : Y → Z) (xs : List X) (ys : List Y) → length xs ≡ length ys → length (map f ys) ≤ 256
    → length xs ≤ 256
few-traces f xs ys same few = omega (arith, same, few, length-map ys f)

pub returns-clause-problem : goal.returns-clause-problem
returns-clause-problem g c =
    let design = c.in_ok-read.read.ordered.design in
    is-problem design c.in_ok-read.read.ordered.order c.in_ok-traces.traces.traces.items c.in_ok-groups.groups
    c.args.wanted.now.size c.in_ok-read.ensures.ready
    (subst (λ (ps : List Place). AreWithin (length ps) c.in_ok-groups.groups) c.as_slice.ensures.value c.in_ok-groups.ensures.within)
    c.in_ok-traces.ensures.fits
    (few-traces _ c.in_ok-traces.traces.traces.items c.args.wanted.now.sources.texts.now.traces.items c.in_ok-traces.ensures.count
    c.requires.asked.traces)
    c.requires.asked.size

pub returns-clause-numbers : goal.returns-clause-numbers
returns-clause-numbers g c = record {
  traces = few-traces _ c.in_ok-traces.traces.traces.items c.args.wanted.now.sources.texts.now.traces.items c.in_ok-traces.ensures.count
      c.requires.asked.traces;
  outputs = c.in_ok-read.ensures.ready.outputs;
}
