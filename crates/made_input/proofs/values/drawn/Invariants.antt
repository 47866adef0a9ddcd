use Rattle.std.proofs.Common.{◌≡◌, ◌<◌, ◌^◌}
use Rattle.made_input.specs.Made.{drawn}
use Rattle.made_input.proofs.values.drawn.Given as goal

abbrev pub invariant-loop-done : goal.invariant-loop-done
invariant-loop-done l = record {
  is : l.last ≡ drawn l.number l._done;
  fits : l.last < 2 ^ 32;
}
