use Rattle.std.proofs.Common.{◌≡◌, ◌<◌, take}
use Rattle.std.specs.Option.{IfSome}
use Rattle.vcd_reading.specs.Bits.{is_underscore, last_place}
use Rattle.vcd_reading.proofs.bits.last_underscore.Given as goal

abbrev pub invariant-loop-i : goal.invariant-loop-i
invariant-loop-i l = record {
  place : l.last ≡ last_place is_underscore (take l.i l.bytes);
  within : IfSome l.last (λ place. place < l.i);
}
