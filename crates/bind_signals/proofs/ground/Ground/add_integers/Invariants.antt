use Rattle.std.proofs.Common.{◌≡◌, drop}
use Rattle.v_binding.specs.Steps.{through}
use Rattle.v_binding.specs.Signals.{with_integer}
use Rattle.v_binding.specs.Seen.{names_in}
use Rattle.bind_signals.specs.Scopings.{scoping_of}
use Rattle.bind_signals.specs.Grounds.{ground_in}
use Rattle.bind_signals.proofs.ground.Ground.add_integers.Given as goal

abbrev pub invariant-loop-name : goal.invariant-loop-name
invariant-loop-name l = record {
  seen : names_in l.met.seen ≡ names_in l.initial.met.seen;
  rest : through (with_integer (ground_in l.self (names_in l.initial.met.seen))) (drop l.name-index l.list) (scoping_of l.met)
      ≡ through (with_integer (ground_in l.self (names_in l.initial.met.seen))) l.list (scoping_of l.initial.met);
}
