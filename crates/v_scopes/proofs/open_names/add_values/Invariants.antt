use Rattle.std.proofs.Common.{◌≡◌, ◌++◌, drop, map}
use Rattle.v_syntax.specs.declared.item.ParameterKind.TheVariants as parameter_kind
use Rattle.v_syntax.specs.PartTree.{named_of}
use Rattle.v_hierarchy.specs.Parameters.{parameter_names}
use Rattle.v_scopes.specs.Listed.{listed}
use Rattle.v_scopes.proofs.open_names.add_values.Given as goal

abbrev pub invariant-loop-value : goal.invariant-loop-value
invariant-loop-value l =
    listed l.list ++ parameter_names parameter_kind.Parameter (map named_of (drop l.value-index l.values)) ≡ listed l.initial.list ++ parameter_names parameter_kind.Parameter (map named_of l.values)
