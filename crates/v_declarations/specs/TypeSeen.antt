-- What contracts see of the types of parameters that a reader found.
use Rattle.std.specs.Prelude.{ℕ}
use Rattle.v_syntax.specs.declared.item.ParameterType.{ParameterType}
use Rattle.v_syntax.specs.ItemTree.{PlainParameterType, parameter_type_of}

abbrev pub seen_parameter_type : ParameterType × ℕ → PlainParameterType × ℕ
seen_parameter_type x = (parameter_type_of x.0, x.1)
