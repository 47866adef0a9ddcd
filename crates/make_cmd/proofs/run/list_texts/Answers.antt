use Rattle.std.proofs.Common.{◌≢◌, refl, sym, subst}
use Rattle.suspect_map.specs.Choose.{joined}
use Rattle.load_problem.specs.Asked.{AreKnown, IsAsked}
use Rattle.requests.specs.Asked.{WantedAsked, wanted_for}
use Rattle.requests.specs.Views.{wanted_asked}
use Rattle.load_problem.specs.Means.{Suspecting}
use Rattle.load_problem.specs.Refusals.{Refused}
use Rattle.find_cmd.specs.Reading.{IsDueOf}
use Rattle.find_cmd.specs.Views.{list_asked}
use Rattle.find_cmd.proofs.Reading.{read-wanted}
use Rattle.find_cmd.proofs.Refused.{due-keeps}
use Rattle.make_cmd.specs.Shelves.{texts_of}
use Rattle.make_cmd.proofs.Reading.{counts-anywhere, never-five, no-fault}
use Rattle.make_cmd.proofs.run.list_texts.Goals as goal

pub read-found-requires-clause-asked : goal.read-found-requires-clause-asked
read-found-requires-clause-asked g c =
    let asked : IsAsked (wanted_asked c.wanted.result) = subst IsAsked (sym c.wanted.ensures)
    (record { traces = c.requires.asked.traces.1; size = c.requires.asked.listing.size }) in
    λ κs within. asked

pub read-found-requires-clause-known : goal.read-found-requires-clause-known
read-found-requires-clause-known g c =
    λ κs within.
    subst
    (λ (w : WantedAsked). AreKnown (λ k. (goal.Granularity-dyn g (k.vtable, k.value)).called k.value) c.args.tools.now.kinds.now w)
    (sym c.wanted.ensures) c.requires.known

pub returns-clause-no_fault : goal.returns-clause-no_fault
returns-clause-no_fault g c =
    never-five c.read-found.result c.list_read.result c.read-found.ensures.counts c.list_read.ensures.fault

pub returns-clause-keeps : goal.returns-clause-keeps
returns-clause-keeps g c told on_shelf on_sink =
    let M = g.F.FrontEnd.means in
    let R = g.F.FrontEnd.refuses in
    let asked = list_asked c.args.list.now in
    let kinds = c.args.tools.now.kinds.now in
    let S : Suspecting = joined (λ k. (goal.Granularity-dyn g (k.vtable, k.value)).called k.value)
    (λ k. (goal.Granularity-dyn g (k.vtable, k.value)).lists k.value) kinds in
    due-keeps M S asked (IsDueOf M R S asked c.read-found.result)
    (λ texts status line. Refused M R S (wanted_for asked) texts status line × (status ≢ 5)) _ c.list_read.result
    (λ status line due. (due.0, λ five. no-fault c.read-found.result c.read-found.ensures.counts (due.1 five)))
    (c.list_read.ensures.keeps told (texts_of c.args.texts.now) (g.S.Shelf.faults c.args.shelf.now) on_shelf on_sink
    (read-wanted M R S asked (wanted_asked c.wanted.result) told
    (texts_of c.args.texts.now) _ _
    c.read-found.result c.wanted.ensures
    (counts-anywhere (g.S.Shelf.faults c.args.shelf.now) c.read-found.result c.read-found.ensures.counts)
    (λ t. c.read-found.ensures.means refl) (λ t. c.read-found.ensures.digest refl) (λ t. c.read-found.ensures.refused refl)
    (λ t. c.read-found.ensures.only refl)))
