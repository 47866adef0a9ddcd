use Rattle.std.proofs.Common.{◌≡◌, ◌<◌, ◌^◌, take}
use Rattle.printed_text.specs.Numerals.{hex}
use Rattle.report_sets.proofs.hex.number_of.Given as goal

abbrev pub invariant-loop-byte : goal.invariant-loop-byte
invariant-loop-byte l = (l.number < 16 ^ l.byte-index) × (hex l.byte-index l.number ≡ take l.byte-index l.text)
