use Rattle.std.proofs.Common.{map, refl}
use Rattle.std.specs.Prelude.{◌&&◌, string_bytes}
use Rattle.std.proofs.lemmas.Bool.{and_parts}
use Rattle.command_contract.specs.Contract.{Run, counts_of, run_of}
use Rattle.suspect_map.specs.Choose.{joined}
use Rattle.requests.specs.Asked.{find, sim, check, make, help}
use Rattle.requests.specs.Views.{check_asked, find_asked, help_asked, make_asked, sim_asked}
use Rattle.command_words.specs.Words.{asked}
use Rattle.localise_cmd.specs.Formats.{HasError, means_by}
use Rattle.localise_cmd.specs.Commands.{KeepsWords, case_of, tools_of}
use Rattle.localise_cmd.proofs.Keeping.{help-keeps, memory-keeps, usage-keeps}
use Rattle.localise_cmd.proofs.Cases.{allows-memory, asked-keeps, no_request-keeps}
use Rattle.localise_cmd.proofs.KnownKinds.{asked-held, known-held, make-held, make_known-held}
use Rattle.localise_cmd.proofs.run.run_words.Goals as goal

pub find-requires-clause-asked : goal.find-requires-clause-asked
find-requires-clause-asked g c =
    let held = rw c.in-Ok-Find.field-0-is at c.in-Ok-Find.ensures.holds in
    λ κs within. asked-held _ (find_asked c.in-Ok-Find.request) held

pub find-requires-clause-known : goal.find-requires-clause-known
find-requires-clause-known g c =
    let held = rw c.in-Ok-Find.field-0-is at c.in-Ok-Find.ensures.holds in
    λ κs within. known-held (λ k. (goal.Granularity-dyn g (k.vtable, k.value)).called k.value) c.args.kinds.now
    (find_asked c.in-Ok-Find.request) held

pub make-requires-clause-asked : goal.make-requires-clause-asked
make-requires-clause-asked g c =
    let held = rw c.in-Ok-Make.field-0-is at c.in-Ok-Make.ensures.holds in
    λ κs within. make-held _ (make_asked c.in-Ok-Make.request) held

pub make-requires-clause-known : goal.make-requires-clause-known
make-requires-clause-known g c =
    let held = rw c.in-Ok-Make.field-0-is at c.in-Ok-Make.ensures.holds in
    λ κs within. make_known-held (λ k. (goal.Granularity-dyn g (k.vtable, k.value)).called k.value) c.args.kinds.now
    (make_asked c.in-Ok-Make.request) held

pub returns-in-Ok-Find : goal.returns-in-Ok-Find
unfolding KeepsWords
returns-in-Ok-Find g c =
    let kinds = c.args.kinds.now in
    let tools = tools_of means_by HasError
    (map (λ k. (goal.Granularity-dyn g (k.vtable, k.value)).called k.value) kinds)
    (joined (λ k. (goal.Granularity-dyn g (k.vtable, k.value)).called k.value)
    (λ k. (goal.Granularity-dyn g (k.vtable, k.value)).lists k.value) kinds) in
    let gives = rw c.in-Ok-Find.field-0-is at c.in-Ok-Find.ensures.gives in
    asked-keeps tools (asked tools.known (map string_bytes c.args.words.now)) _ c.find.result
    (find (find_asked c.in-Ok-Find.request)) gives c.find.ensures

pub returns-in-Ok-Sim : goal.returns-in-Ok-Sim
unfolding KeepsWords
returns-in-Ok-Sim g c =
    let kinds = c.args.kinds.now in
    let tools = tools_of means_by HasError
    (map (λ k. (goal.Granularity-dyn g (k.vtable, k.value)).called k.value) kinds)
    (joined (λ k. (goal.Granularity-dyn g (k.vtable, k.value)).called k.value)
    (λ k. (goal.Granularity-dyn g (k.vtable, k.value)).lists k.value) kinds) in
    let gives = rw c.in-Ok-Sim.field-0-is at c.in-Ok-Sim.ensures.gives in
    asked-keeps tools (asked tools.known (map string_bytes c.args.words.now)) _ c.simulate.result
    (sim (sim_asked c.in-Ok-Sim.request)) gives c.simulate.ensures

pub returns-in-Ok-Check : goal.returns-in-Ok-Check
unfolding KeepsWords
returns-in-Ok-Check g c =
    let kinds = c.args.kinds.now in
    let tools = tools_of means_by HasError
    (map (λ k. (goal.Granularity-dyn g (k.vtable, k.value)).called k.value) kinds)
    (joined (λ k. (goal.Granularity-dyn g (k.vtable, k.value)).called k.value)
    (λ k. (goal.Granularity-dyn g (k.vtable, k.value)).lists k.value) kinds) in
    let gives = rw c.in-Ok-Check.field-0-is at c.in-Ok-Check.ensures.gives in
    asked-keeps tools (asked tools.known (map string_bytes c.args.words.now)) _ c.check.result
    (check (check_asked c.in-Ok-Check.request)) gives c.check.ensures

pub returns-in-Ok-Make : goal.returns-in-Ok-Make
unfolding KeepsWords
returns-in-Ok-Make g c =
    let kinds = c.args.kinds.now in
    let tools = tools_of means_by HasError
    (map (λ k. (goal.Granularity-dyn g (k.vtable, k.value)).called k.value) kinds)
    (joined (λ k. (goal.Granularity-dyn g (k.vtable, k.value)).called k.value)
    (λ k. (goal.Granularity-dyn g (k.vtable, k.value)).lists k.value) kinds) in
    let gives = rw c.in-Ok-Make.field-0-is at c.in-Ok-Make.ensures.gives in
    asked-keeps tools (asked tools.known (map string_bytes c.args.words.now)) _ c.make.result
    (make (make_asked c.in-Ok-Make.request)) gives c.make.ensures

pub returns-in-Ok-Help : goal.returns-in-Ok-Help
unfolding KeepsWords
returns-in-Ok-Help g c =
    let kinds = c.args.kinds.now in
    let tools = tools_of means_by HasError
    (map (λ k. (goal.Granularity-dyn g (k.vtable, k.value)).called k.value) kinds)
    (joined (λ k. (goal.Granularity-dyn g (k.vtable, k.value)).called k.value)
    (λ k. (goal.Granularity-dyn g (k.vtable, k.value)).lists k.value) kinds) in
    let page = help_asked c.in-Ok-Help.request in
    let shelf = c.args.shelf.now in
    let out = c.args.out.now in
    let r : Run = run_of (g.S.Shelf.tells shelf && g.O.Sink.tells out) (g.S.Shelf.texts shelf) (g.S.Shelf.written shelf)
    (g.S.Shelf.written shelf) (g.O.Sink.written out) (g.O.Sink.written c.print_line.new.out)
    (counts_of (g.S.Shelf.faults shelf) (g.S.Shelf.faults shelf) (g.O.Sink.faults out)
    (g.O.Sink.faults c.print_line.new.out)) in
    let gives = rw c.in-Ok-Help.field-0-is at c.in-Ok-Help.ensures.gives in
    let text = rw c.page_text.ensures at c.print_line.ensures.text in
    asked-keeps tools (asked tools.known (map string_bytes c.args.words.now)) r c.print_line.result (help page) gives
    (help-keeps page r c.print_line.result c.print_line.ensures.counts refl
    (λ told. text (and_parts (g.S.Shelf.tells shelf) (g.O.Sink.tells out) told).1) refl)

pub returns-in-Err-Usage : goal.returns-in-Err-Usage
unfolding KeepsWords
returns-in-Err-Usage g c =
    let kinds = c.args.kinds.now in
    let tools = tools_of means_by HasError
    (map (λ k. (goal.Granularity-dyn g (k.vtable, k.value)).called k.value) kinds)
    (joined (λ k. (goal.Granularity-dyn g (k.vtable, k.value)).called k.value)
    (λ k. (goal.Granularity-dyn g (k.vtable, k.value)).lists k.value) kinds) in
    let usage = c.in-Err-Usage.usage in
    let shelf = c.args.shelf.now in
    let out = c.args.out.now in
    let r : Run = run_of (g.S.Shelf.tells shelf && g.O.Sink.tells out) (g.S.Shelf.texts shelf) (g.S.Shelf.written shelf)
    (g.S.Shelf.written shelf) (g.O.Sink.written out) (g.O.Sink.written c.refuse.new.out)
    (counts_of (g.S.Shelf.faults shelf) (g.S.Shelf.faults shelf) (g.O.Sink.faults out)
    (g.O.Sink.faults c.refuse.new.out)) in
    let gives = rw c.in-Err-Usage.field-0-is at c.in-Err-Usage.ensures.gives in
    let text = rw c.in-Err-Usage.field-0-is at c.refuse.ensures.text in
    no_request-keeps tools (asked tools.known (map string_bytes c.args.words.now)) r c.refuse.result usage gives
    (usage-keeps usage r c.refuse.result c.refuse.ensures.counts refl
    (λ told. text (and_parts (g.S.Shelf.tells shelf) (g.O.Sink.tells out) told).1) refl)

pub returns-in-Err-NoMemory : goal.returns-in-Err-NoMemory
unfolding KeepsWords
returns-in-Err-NoMemory g c =
    let kinds = c.args.kinds.now in
    let tools = tools_of means_by HasError
    (map (λ k. (goal.Granularity-dyn g (k.vtable, k.value)).called k.value) kinds)
    (joined (λ k. (goal.Granularity-dyn g (k.vtable, k.value)).called k.value)
    (λ k. (goal.Granularity-dyn g (k.vtable, k.value)).lists k.value) kinds) in
    let words = asked tools.known (map string_bytes c.args.words.now) in
    let shelf = c.args.shelf.now in
    let out = c.args.out.now in
    let r : Run = run_of (g.S.Shelf.tells shelf && g.O.Sink.tells out) (g.S.Shelf.texts shelf) (g.S.Shelf.written shelf)
    (g.S.Shelf.written shelf) (g.O.Sink.written out) (g.O.Sink.written c.print.new.out)
    (counts_of (g.S.Shelf.faults shelf) (g.S.Shelf.faults shelf) (g.O.Sink.faults out)
    (g.O.Sink.faults c.print.new.out)) in
    memory-keeps (case_of tools words) r c.print.result (allows-memory tools words r refl)
    (λ told. c.print.ensures.text (and_parts (g.S.Shelf.tells shelf) (g.O.Sink.tells out) told).1)
    c.print.ensures.counts refl
