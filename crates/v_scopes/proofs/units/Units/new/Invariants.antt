use Rattle.std.proofs.Common.{◌≡◌, ◌++◌, drop, map}
use Rattle.v_scopes.specs.Listed.{listed}
use Rattle.v_scopes.proofs.units.Units.new.Given as goal

abbrev pub invariant-loop-unit : goal.invariant-loop-unit
invariant-loop-unit l = listed l.names ++ map (λ m. m.name.name) (drop l.unit-index l.list) ≡ map (λ m. m.name.name) l.list
