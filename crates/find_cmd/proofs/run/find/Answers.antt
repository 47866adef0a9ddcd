use Rattle.std.proofs.Common.{ap, sym, subst, ◌∙◌}
use Rattle.std.specs.Prelude.{◌≡◌, ◌&&◌, Bool, Some, None}
use Rattle.std.specs.Option.{option_map}
use Rattle.std.proofs.lemmas.Bool.{and_parts}
use Rattle.command_contract.specs.Contract.{Keeps, Texts, counts_of, run_of}
use Rattle.suspect_map.specs.Choose.{joined}
use Rattle.load_problem.specs.Asked.{AreKnown, IsAsked}
use Rattle.requests.specs.Asked.{FindAsked, WantedAsked, wanted_for}
use Rattle.requests.specs.Views.{find_asked, session_names, wanted_asked}
use Rattle.load_problem.specs.Means.{Suspecting}
use Rattle.find_cmd.specs.Asked.{IsAsked as IsListAsked}
use Rattle.find_cmd.specs.Finding.{finding, finding_by}
use Rattle.find_cmd.specs.Reading.{IsDueOf}
use Rattle.find_cmd.specs.Refusals.{Refused, for_inputs}
use Rattle.find_cmd.specs.Views.{list_asked, with_resume}
use Rattle.find_cmd.proofs.Asking.{may-alone, with-again}
use Rattle.find_cmd.proofs.Reading.{keeps-moved, read-moved, read-wanted}
use Rattle.find_cmd.proofs.Refused.{due-keeps}
use Rattle.find_cmd.proofs.run.find.Goals as goal

pub read-found-requires-clause-asked : goal.read-found-requires-clause-asked
read-found-requires-clause-asked g c =
    let asked : IsAsked (wanted_asked c.wanted.result) =
    subst IsAsked (sym (c.wanted.ensures ∙ ap (λ (a : FindAsked). wanted_for a) c.of-list.ensures))
    (record { traces = c.requires.asked.traces.1; size = c.requires.asked.listing.size }) in
    λ κs within. asked

pub read-found-requires-clause-known : goal.read-found-requires-clause-known
read-found-requires-clause-known g c =
    λ κs within.
    subst
    (λ (w : WantedAsked). AreKnown (λ k. (goal.Granularity-dyn g (k.vtable, k.value)).called k.value) c.args.tools.now.kinds.now w)
    (sym (c.wanted.ensures ∙ ap (λ (a : FindAsked). wanted_for a) c.of-list.ensures)) c.requires.known

pub list_on-requires-clause-asked : goal.list_on-requires-clause-asked
list_on-requires-clause-asked g c = λ κs within.
    subst IsListAsked
    (sym (with-again (list_asked c.of-list.result) (find_asked c.args.request.now) (Some (session_names c.in-Some.names))
    c.of-list.ensures (ap (option_map session_names) c.in-Some.is)))
    c.requires.asked

pub list_read-requires-clause-asked : goal.list_read-requires-clause-asked
list_read-requires-clause-asked g c = λ κs within.
    subst IsListAsked (sym c.of-list.ensures) (may-alone (find_asked c.args.request.now) c.requires.asked)

pub returns-in-Some : goal.returns-in-Some
returns-in-Some g c =
    let M = g.F.FrontEnd.means in
    let R = g.F.FrontEnd.refuses in
    let shelf = c.args.shelf.now in
    let names = session_names c.in-Some.names in
    let asked = with_resume (Some names) (list_asked c.of-list.result) in
    let kinds = c.args.tools.now.kinds.now in
    let S : Suspecting = joined (λ k. (goal.Granularity-dyn g (k.vtable, k.value)).called k.value)
    (λ k. (goal.Granularity-dyn g (k.vtable, k.value)).lists k.value) kinds in
    let both = and_parts (g.S.Shelf.tells shelf) (g.O.Sink.tells c.args.out.now) in
    let told = g.S.Shelf.tells shelf && g.O.Sink.tells c.args.out.now in
    let now_told = g.S.Shelf.tells c.read-found.new.shelf && g.O.Sink.tells c.args.out.now in
    let same : now_told ≡ told = ap (λ (t : Bool). t && g.O.Sink.tells c.args.out.now) c.read-found.ensures.tells in
    let reads = read-wanted M R S asked (wanted_asked c.wanted.result) told
    (g.S.Shelf.texts shelf) (g.S.Shelf.faults shelf)
    (g.S.Shelf.faults c.read-found.new.shelf) c.read-found.result c.wanted.ensures c.read-found.ensures.counts
    (λ t. c.read-found.ensures.means (both t).0) (λ t. c.read-found.ensures.digest (both t).0)
    (λ t. c.read-found.ensures.refused (both t).0) (λ t. c.read-found.ensures.only (both t).0) in
    subst
    (λ (a : FindAsked). Keeps (finding M R S a)
    (run_of told (g.S.Shelf.texts shelf) (g.S.Shelf.written shelf) (g.S.Shelf.written c.list_on.new.shelf)
    (g.O.Sink.written c.args.out.now) (g.O.Sink.written c.list_on.new.out)
    (counts_of (g.S.Shelf.faults shelf) (g.S.Shelf.faults c.list_on.new.shelf) (g.O.Sink.faults c.args.out.now)
    (g.O.Sink.faults c.list_on.new.out)))
    c.list_on.result)
    (with-again (list_asked c.of-list.result) (find_asked c.args.request.now) (Some names) c.of-list.ensures
    (ap (option_map session_names) c.in-Some.is))
    (keeps-moved (finding M R S asked) now_told told _ _ _ _ _ _ _ _ c.list_on.result same c.read-found.ensures.texts
    c.read-found.ensures.written
    (c.list_on.ensures (g.S.Shelf.faults shelf)
    (read-moved M R S asked told now_told _ _ _ _ c.read-found.result (sym same) (sym c.read-found.ensures.texts) reads)))

pub returns-in-None : goal.returns-in-None
returns-in-None g c =
    let M = g.F.FrontEnd.means in
    let R = g.F.FrontEnd.refuses in
    let asked = list_asked c.of-list.result in
    let shelf = c.args.shelf.now in
    let kinds = c.args.tools.now.kinds.now in
    let S : Suspecting = joined (λ k. (goal.Granularity-dyn g (k.vtable, k.value)).called k.value)
    (λ k. (goal.Granularity-dyn g (k.vtable, k.value)).lists k.value) kinds in
    let both = and_parts (g.S.Shelf.tells shelf) (g.O.Sink.tells c.args.out.now) in
    let told = g.S.Shelf.tells shelf && g.O.Sink.tells c.args.out.now in
    let reads = read-wanted M R S asked (wanted_asked c.wanted.result) told
    (g.S.Shelf.texts shelf) (g.S.Shelf.faults shelf)
    (g.S.Shelf.faults c.read-found.new.shelf) c.read-found.result c.wanted.ensures c.read-found.ensures.counts
    (λ t. c.read-found.ensures.means (both t).0) (λ t. c.read-found.ensures.digest (both t).0)
    (λ t. c.read-found.ensures.refused (both t).0) (λ t. c.read-found.ensures.only (both t).0) in
    let due = subst
    (λ (w : Texts). Keeps (finding_by M S asked (IsDueOf M R S asked c.read-found.result))
    (run_of told (g.S.Shelf.texts shelf) w (g.S.Shelf.written c.list_read.new.shelf) (g.O.Sink.written c.args.out.now)
    (g.O.Sink.written c.list_read.new.out)
    (counts_of (g.S.Shelf.faults shelf) (g.S.Shelf.faults c.list_read.new.shelf) (g.O.Sink.faults c.args.out.now)
    (g.O.Sink.faults c.list_read.new.out)))
    c.list_read.result)
    c.read-found.ensures.written
    (c.list_read.ensures.keeps told (g.S.Shelf.texts shelf) (g.S.Shelf.faults shelf)
    (λ t. c.read-found.ensures.tells ∙ (both t).0) (λ t. (both t).1) reads) in
    subst
    (λ (a : FindAsked). Keeps (finding M R S a)
    (run_of told (g.S.Shelf.texts shelf) (g.S.Shelf.written shelf) (g.S.Shelf.written c.list_read.new.shelf)
    (g.O.Sink.written c.args.out.now) (g.O.Sink.written c.list_read.new.out)
    (counts_of (g.S.Shelf.faults shelf) (g.S.Shelf.faults c.list_read.new.shelf) (g.O.Sink.faults c.args.out.now)
    (g.O.Sink.faults c.list_read.new.out)))
    c.list_read.result)
    (with-again (list_asked c.of-list.result) (find_asked c.args.request.now) None c.of-list.ensures
    (ap (option_map session_names) c.in-None.is))
    (due-keeps M S asked (IsDueOf M R S asked c.read-found.result) (Refused M R S asked) _ c.list_read.result
    (λ s line due. for_inputs s line due.0) due)
