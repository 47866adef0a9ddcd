use Rattle.std.proofs.Common.{◌≡◌, ◌++◌, drop, map}
use Rattle.v_scopes.specs.Listed.{listed}
use Rattle.v_scopes.proofs.values.names_of.Given as goal

abbrev pub invariant-loop-given : goal.invariant-loop-given
invariant-loop-given l = listed l.names ++ map (λ g. g.name.now) (drop l.given-index l.list) ≡ map (λ g. g.name.now) l.list
