use Rattle.std.proofs.Common.{◌≡◌, ◌∙◌, Some, sym, arith}
use Rattle.aiger_rules.specs.Literals.{definer}
use Rattle.aiger_design.proofs.Words.{definer-within}
use Rattle.aiger_design.proofs.file.File.variable.Goals as goal

pub row_signal-signal-requires-clause-within : goal.row_signal-signal-requires-clause-within
row_signal-signal-requires-clause-within c =
    let rows = c.args.self.now.rows.now in
    let is : definer rows c.from.result ≡ Some c.in-Some.row = sym (c.requires.table c.from.result) ∙ sym c.find.ensures ∙ c.in-Some.is in
    omega (arith, definer-within rows c.from.result c.in-Some.row is, c.requires.numbered.long)
