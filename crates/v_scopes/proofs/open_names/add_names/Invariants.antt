use Rattle.std.proofs.Common.{◌≡◌, ◌++◌, drop, map}
use Rattle.v_scopes.specs.Listed.{listed}
use Rattle.v_scopes.proofs.open_names.add_names.Given as goal

abbrev pub invariant-loop-name : goal.invariant-loop-name
invariant-loop-name l = listed l.list ++ map (λ name. name.name) (drop l.name-index l.names) ≡ listed l.initial.list ++ map (λ name. name.name) l.names
