use Rattle.std.proofs.Common.{◌≡◌, drop, map}
use Rattle.word_values.specs.Values.{is_once}
use Rattle.word_values.proofs.values.is_once.Given as goal

abbrev pub invariant-loop-at : goal.invariant-loop-at
invariant-loop-at l = record {
  rest : is_once (map (λ w. w.now) l.words) ≡ is_once (map (λ w. w.now) (drop l.at l.words));
}
