use Rattle.std.proofs.Common.{ℕ, List, ◌≤◌, arith, refl, sym, subst, ◌∙◌}
use Rattle.std.specs.Prelude.{◌&&◌}
use Rattle.std.proofs.lemmas.Bool.{and_parts}
use Rattle.command_contract.specs.Contract.{Run, counts_of, run_of}
use Rattle.suspect_map.specs.Choose.{joined}
use Rattle.refusal.specs.Ends.{Prints}
use Rattle.load_problem.specs.Means.{Suspecting}
use Rattle.find_cmd.specs.Asked.{AreKnown, IsAsked as IsListAsked}
use Rattle.requests.specs.Asked.{FindAsked}
use Rattle.find_cmd.specs.Views.{list_asked}
use Rattle.write_order.proofs.Carried.{none-done}
use Rattle.requests.specs.Views.{make_asked}
use Rattle.make_cmd.specs.Shelves.{texts_of}
use Rattle.make_cmd.proofs.Asking.{list-asked}
use Rattle.make_cmd.proofs.Keeping.{failed-keeps, last-keeps, list-keeps, ran-made, wanting-keeps}
use Rattle.make_cmd.proofs.Texts.{begun-made, done-made, stops-made, texts-of}
use Rattle.make_cmd.proofs.run.make.Goals as goal

pub list_texts-status-requires-clause-asked : goal.list_texts-status-requires-clause-asked
list_texts-status-requires-clause-asked g c = λ κs within.
    subst IsListAsked (sym c.list_of-list.ensures) (list-asked (make_asked c.args.request.now) c.requires.asked)

pub list_texts-status-requires-clause-known : goal.list_texts-status-requires-clause-known
list_texts-status-requires-clause-known g c = λ κs within.
    subst (λ (f : FindAsked). AreKnown (λ k. (goal.Granularity-dyn g (k.vtable, k.value)).called k.value) c.args.tools.now.kinds.now f)
    (sym c.list_of-list.ensures) c.requires.known

pub returns-in-Err : goal.returns-in-Err
returns-in-Err g c =
    let both = and_parts (g.S.Shelf.tells c.args.shelf.now) (g.O.Sink.tells c.args.out.now) in
    wanting-keeps g.F.FrontEnd.means g.F.FrontEnd.refuses _ (make_asked c.args.request.now) _
    (λ told. record { count = 0; done = none-done _ _ _ (λ q. refl) }) c.print_line.result
    (λ told. c.print_line.ensures.text (both told).1) c.print_line.ensures.counts

pub returns-in-Err-Failed : goal.returns-in-Err-Failed
returns-in-Err-Failed g c =
    let both = and_parts (g.S.Shelf.tells c.args.shelf.now) (g.O.Sink.tells c.args.out.now) in
    let left = rw c.in-Err-Failed.field-0-is at c.in-Err-Failed.ensures.left in
    let cause = rw c.in-Err-Failed.field-0-is at c.in-Err-Failed.ensures.cause in
    failed-keeps g.F.FrontEnd.means g.F.FrontEnd.refuses _ (make_asked c.args.request.now) _
    (λ told. stops-made (make_asked c.args.request.now) c.in-Ok.made.texts c.in-Ok.ensures.texts _ (left (both told).0 _)) refl cause

pub returns-in-Err-NoMemory : goal.returns-in-Err-NoMemory
returns-in-Err-NoMemory g c =
    let both = and_parts (g.S.Shelf.tells c.args.shelf.now) (g.O.Sink.tells c.args.out.now) in
    let left = rw c.in-Err-NoMemory.field-0-is at c.in-Err-NoMemory.ensures.left in
    wanting-keeps g.F.FrontEnd.means g.F.FrontEnd.refuses _ (make_asked c.args.request.now) _
    (λ told.
    let begun = begun-made (make_asked c.args.request.now) c.in-Ok.made.texts c.in-Ok.ensures.texts _
    (left (both told).0 (g.O.Sink.written c.args.out.now)) in
    record { count = begun.count; done = begun.done })
    c.print_line-in-Err-NoMemory.result
    (λ told. c.print_line-in-Err-NoMemory.ensures.text (both told).1) c.print_line-in-Err-NoMemory.ensures.counts

pub returns-then-status-gt1 : goal.returns-then-status-gt1
returns-then-status-gt1 g c =
    let asked = make_asked c.args.request.now in
    let made = c.in-Ok.made in
    let shelf = c.args.shelf.now in
    let out = c.args.out.now in
    let both = and_parts (g.S.Shelf.tells shelf) (g.O.Sink.tells out) in
    let told = g.S.Shelf.tells shelf && g.O.Sink.tells out in
    let kinds = c.args.tools.now.kinds.now in
    let S : Suspecting = joined (λ k. (goal.Granularity-dyn g (k.vtable, k.value)).called k.value)
    (λ k. (goal.Granularity-dyn g (k.vtable, k.value)).lists k.value) kinds in
    let run : Run = run_of told (g.S.Shelf.texts shelf) (g.S.Shelf.written shelf) (g.S.Shelf.written c.list_texts-status.new.shelf)
    (g.O.Sink.written out) (g.O.Sink.written c.list_texts-status.new.out)
    (counts_of (g.S.Shelf.faults shelf) (g.S.Shelf.faults c.list_texts-status.new.shelf) (g.O.Sink.faults out)
    (g.O.Sink.faults c.list_texts-status.new.out)) in
    let least : 2 ≤ c.list_texts-status.result = omega (arith, c.if-status-gt1.true) in
    list-keeps g.F.FrontEnd.means g.F.FrontEnd.refuses S asked run c.requires.asked (g.S.Shelf.written c.write_texts.new.shelf)
    (λ t. done-made asked made.texts c.in-Ok.ensures.texts _ (c.in-Ok-write_texts.ensures.left (both t).0 (g.O.Sink.written out)))
    c.list_texts-status.result least c.list_texts-status.ensures.no_fault
    (ran-made g.F.FrontEnd.means g.F.FrontEnd.refuses S asked run (list_asked c.list_of-list.result) (texts_of made.texts)
    (g.S.Shelf.written c.write_texts.new.shelf) (g.S.Shelf.faults c.write_texts.new.shelf)
    (g.O.Sink.written c.list_texts-status.new.out) (g.O.Sink.faults c.list_texts-status.new.out) c.list_texts-status.result
    c.list_of-list.ensures (texts-of asked made.texts c.in-Ok.ensures.texts) c.in-Ok-write_texts.ensures.cause
    (c.list_texts-status.ensures.keeps told (λ t. c.in-Ok-write_texts.ensures.tells ∙ (both t).0) (λ t. (both t).1)))

pub returns : goal.returns
returns g c =
    let asked = make_asked c.args.request.now in
    let made = c.in-Ok.made in
    let shelf = c.args.shelf.now in
    let out = c.args.out.now in
    let both = and_parts (g.S.Shelf.tells shelf) (g.O.Sink.tells out) in
    let told = g.S.Shelf.tells shelf && g.O.Sink.tells out in
    let kinds = c.args.tools.now.kinds.now in
    let S : Suspecting = joined (λ k. (goal.Granularity-dyn g (k.vtable, k.value)).called k.value)
    (λ k. (goal.Granularity-dyn g (k.vtable, k.value)).lists k.value) kinds in
    let run : Run = run_of told (g.S.Shelf.texts shelf) (g.S.Shelf.written shelf) (g.S.Shelf.written c.list_texts-status.new.shelf)
    (g.O.Sink.written out) (g.O.Sink.written c.print_line-2.new.out)
    (counts_of (g.S.Shelf.faults shelf) (g.S.Shelf.faults c.list_texts-status.new.shelf) (g.O.Sink.faults out)
    (g.O.Sink.faults c.print_line-2.new.out)) in
    let before = g.O.Sink.written c.list_texts-status.new.out in
    let sink = g.O.Sink.faults c.list_texts-status.new.out in
    let first = c.list_texts-status.result in
    last-keeps g.F.FrontEnd.means g.F.FrontEnd.refuses S asked run c.requires.asked (g.S.Shelf.written c.write_texts.new.shelf)
    (λ t. done-made asked made.texts c.in-Ok.ensures.texts _ (c.in-Ok-write_texts.ensures.left (both t).0 (g.O.Sink.written out)))
    before sink first c.if-status-gt1.false
    (ran-made g.F.FrontEnd.means g.F.FrontEnd.refuses S asked run (list_asked c.list_of-list.result) (texts_of made.texts)
    (g.S.Shelf.written c.write_texts.new.shelf) (g.S.Shelf.faults c.write_texts.new.shelf) before sink first
    c.list_of-list.ensures (texts-of asked made.texts c.in-Ok.ensures.texts) c.in-Ok-write_texts.ensures.cause
    (c.list_texts-status.ensures.keeps told (λ t. c.in-Ok-write_texts.ensures.tells ∙ (both t).0) (λ t. (both t).1)))
    c.print_line-2.result
    (λ t. subst
    (λ (line : List ℕ). Prints line first before (g.O.Sink.written c.print_line-2.new.out) c.print_line-2.result)
    (c.deref.ensures ∙ c.in-Ok.ensures.line)
    (c.print_line-2.ensures.text (c.list_texts-status.ensures.tells ∙ (both t).1)))
    c.print_line-2.ensures.counts
