use Rattle.std.proofs.Common.{◌≡◌, map, drop}
use Rattle.v_syntax.specs.ItemTree.{declarator_of}
use Rattle.v_binding.specs.Steps.{through}
use Rattle.v_binding.specs.Signals.{with_declarator}
use Rattle.v_binding.specs.Seen.{names_in}
use Rattle.bind_signals.specs.Scopings.{scoping_of}
use Rattle.bind_signals.specs.Grounds.{ground_in}
use Rattle.bind_signals.proofs.ground.Ground.add_declarators.Given as goal

abbrev pub invariant-loop-declarator : goal.invariant-loop-declarator
invariant-loop-declarator l = record {
  seen : names_in l.met.seen ≡ names_in l.initial.met.seen;
  rest : through (with_declarator (ground_in l.self (names_in l.initial.met.seen))) (map declarator_of (drop l.declarator-index l.list)) (scoping_of l.met)
      ≡ through (with_declarator (ground_in l.self (names_in l.initial.met.seen))) (map declarator_of l.list) (scoping_of l.initial.met);
}
