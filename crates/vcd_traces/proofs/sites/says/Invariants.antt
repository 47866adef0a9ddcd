use Rattle.std.proofs.Common.{◌≡◌, ◌≤◌, take}
use Rattle.vcd_words.specs.Times.{time_of}
use Rattle.vcd_traces.proofs.sites.says.Given as goal

abbrev pub invariant-loop-digit : goal.invariant-loop-digit
invariant-loop-digit l = record { said : l.said ≡ time_of (take l.digit-index l.digits); small : l.said ≤ l.number }
