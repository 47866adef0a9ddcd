use Rattle.std.proofs.Common.{map, refl}
use Rattle.std.specs.Prelude.{◌&&◌, option_map, string_bytes}
use Rattle.std.specs.Result.{result_ok}
use Rattle.std.proofs.lemmas.Bool.{and_parts}
use Rattle.command_contract.specs.Contract.{Run, counts_of, run_of}
use Rattle.suspect_map.specs.Choose.{joined}
use Rattle.localise_cmd.specs.Formats.{HasError, means_by}
use Rattle.localise_cmd.specs.Commands.{tools_of}
use Rattle.localise_cmd.proofs.Cases.{memory-given}
use Rattle.localise_cmd.proofs.program.run_program.Goals as goal

pub returns-in-Ok : goal.returns-in-Ok
returns-in-Ok g c = record {
  words = map string_bytes c.in-Ok.words.items;
  are_words = c.in-Ok.ensures;
  keeps = rw c.as_slice.ensures.value at c.run_words.ensures;
}

pub returns-in-Err : goal.returns-in-Err
returns-in-Err g c =
    let kinds = c.args.kinds.now in
    let tools = tools_of means_by HasError
    (map (λ k. (goal.Granularity-dyn g (k.vtable, k.value)).called k.value) kinds)
    (joined (λ k. (goal.Granularity-dyn g (k.vtable, k.value)).called k.value)
    (λ k. (goal.Granularity-dyn g (k.vtable, k.value)).lists k.value) kinds) in
    let shelf = c.args.shelf.now in
    let out = c.args.out.now in
    let r : Run = run_of (g.S.Shelf.tells shelf && g.O.Sink.tells out) (g.S.Shelf.texts shelf) (g.S.Shelf.written shelf)
    (g.S.Shelf.written shelf) (g.O.Sink.written out) (g.O.Sink.written c.print.new.out)
    (counts_of (g.S.Shelf.faults shelf) (g.S.Shelf.faults shelf) (g.O.Sink.faults out)
    (g.O.Sink.faults c.print.new.out)) in
    memory-given tools (option_map (λ arguments. map string_bytes arguments.items) (result_ok c.args.given)) r c.print.result
    (λ told. c.print.ensures.text (and_parts (g.S.Shelf.tells shelf) (g.O.Sink.tells out) told).1)
    c.print.ensures.counts refl
