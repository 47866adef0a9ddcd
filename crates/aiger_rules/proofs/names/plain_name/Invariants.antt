use Rattle.std.proofs.Common.{◌≡◌, take, map}
use Rattle.aiger_rules.specs.Names.{plain_byte}
use Rattle.aiger_rules.proofs.names.plain_name.Given as goal

abbrev pub invariant-loop-byte : goal.invariant-loop-byte
invariant-loop-byte l = l.name ≡ map plain_byte (take l.byte-index l.text)
