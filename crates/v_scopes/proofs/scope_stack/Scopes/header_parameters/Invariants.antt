use Rattle.std.proofs.Common.{◌≡◌, [], drop, map}
use Rattle.v_syntax.specs.ModuleTree.{header_parameter_of}
use Rattle.v_hierarchy.specs.declared.kind.Kind.TheVariants as kind_case
use Rattle.v_scopes.specs.Around.{names_in, outer_of}
use Rattle.v_hierarchy.specs.Parameters.{header_parameter}
use Rattle.v_hierarchy.specs.Stands.{IsKind}
use Rattle.v_hierarchy.specs.Steps.{each}
use Rattle.v_scopes.specs.Valued.{values_of}
use Rattle.v_scopes.proofs.scope_stack.Scopes.header_parameters.Given as goal

abbrev pub invariant-loop-parameter : goal.invariant-loop-parameter
invariant-loop-parameter l = record {
  left : each (header_parameter (values_of l.values)) (map header_parameter_of (drop l.parameter-index l.parameters)) (record { kind = l.kind; names = names_in l.self })
      ≡ each (header_parameter (values_of l.values)) (map header_parameter_of l.parameters) (record { kind = kind_case.AsValue; names = [] });
  alone : outer_of l.self ≡ [];
  fits : IsKind l.kind;
}
