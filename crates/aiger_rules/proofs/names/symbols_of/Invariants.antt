use Rattle.std.proofs.Common.{◌≡◌, ℕ, take, map}
use Rattle.aiger_rules.specs.First.{place_of, first_of}
use Rattle.aiger_rules.proofs.NameSteps.{key_of}
use Rattle.aiger_rules.proofs.names.symbols_of.Given as goal

abbrev pub invariant-loop-place : goal.invariant-loop-place
invariant-loop-place l = (row : ℕ) → place_of l.firsts row ≡ first_of (map (key_of l.content.counts) (take l.place l.content.symbols.items)) row
