use Rattle.std.proofs.Common.{◌+◌, ◌≤◌, length, map}
use Rattle.aiger_text.specs.Lines.{lines}
use Rattle.aiger_text.specs.Symbols.{plain}
use Rattle.aiger_text.proofs.SymbolSteps.{SymbolsSoFar}
use Rattle.aiger_text.proofs.symbols.read_symbols.Given as goal

abbrev pub invariant-symbols : goal.invariant-symbols
invariant-symbols l = record {
  far : SymbolsSoFar (lines l.text) (map plain l.symbols.items) l.rest;
  shorter : length l.symbols.items + length l.rest ≤ length l.text;
}

abbrev pub decreases-symbols : goal.decreases-symbols
decreases-symbols l = length l.rest
