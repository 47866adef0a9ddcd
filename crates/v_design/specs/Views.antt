-- What instances bind, as the definitions have it.
use Rattle.std.specs.Prelude.{map}
use Rattle.v_binding.specs.Binding as plain
use Rattle.bind_scopes.specs.Views.{numbered_of}
use Rattle.v_design.specs.declared.binding.Binding.{Binding}

abbrev pub binding_of : Binding → plain.Binding
binding_of b = record {
  signals = b.signals;
  numbered = map numbered_of b.numbered;
  inputs = b.inputs;
  outputs = b.outputs;
  misnamed = b.misnamed;
  bound = b.bound;
}
