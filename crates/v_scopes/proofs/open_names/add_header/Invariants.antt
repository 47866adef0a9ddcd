use Rattle.std.proofs.Common.{◌≡◌, ◌++◌, drop, map}
use Rattle.v_syntax.specs.ModuleTree.{header_parameter_of}
use Rattle.v_hierarchy.specs.Parameters.{header_names}
use Rattle.v_scopes.specs.Listed.{listed}
use Rattle.v_scopes.proofs.open_names.add_header.Given as goal

abbrev pub invariant-loop-parameter : goal.invariant-loop-parameter
invariant-loop-parameter l =
    listed l.list ++ header_names (map header_parameter_of (drop l.parameter-index l.parameters)) ≡ listed l.initial.list ++ header_names (map header_parameter_of l.parameters)
