use Rattle.std.proofs.Common.{◌≡◌, ◌<◌, ◌∙◌, length, Some, sym, arith}
use Rattle.std.proofs.lemmas.List.{length-map}
use Rattle.aiger_text.specs.Symbols.{plain}
use Rattle.aiger_text.specs.Content.{content_of}
use Rattle.aiger_rules.specs.Names.{symbol_of}
use Rattle.aiger_rules.proofs.NameSteps.{symbol_of-within}
use Rattle.aiger_rules.proofs.names.Named.port_line.Goals as goal

pub overflow_add-result : goal.overflow_add-result
overflow_add-result c =
    let w = content_of c.args.self.now.content.now in
    let is : symbol_of w c.args.row ≡ Some c.in-Some.place = sym (c.requires.symbols c.args.row) ∙ sym c.find.ensures ∙ c.in-Some.is in
    let within : c.in-Some.place < length w.symbols = symbol_of-within w c.args.row c.in-Some.place is in
    omega (arith, within, length-map c.args.self.now.content.now.symbols.items plain, c.rows-rows.ensures.low, c.requires.few)

pub overflow_add-result-in-Some : goal.overflow_add-result-in-Some
overflow_add-result-in-Some c =
    let w = content_of c.args.self.now.content.now in
    let is : symbol_of w c.args.row ≡ Some c.in-Some.place = sym (c.requires.symbols c.args.row) ∙ sym c.find.ensures ∙ c.in-Some.is in
    let within : c.in-Some.place < length w.symbols = symbol_of-within w c.args.row c.in-Some.place is in
    omega (arith, within, length-map c.args.self.now.content.now.symbols.items plain, c.rows-rows.ensures.low, c.requires.few)
