-- What the laws of this front end say.
use Rattle.std.specs.Prelude.{◌≡◌}
use Rattle.design_core.specs.declared.design.Design.{Design}

-- two designs have the same lists
pub record AreAlike (d e : Design) : Type 0 where
  pub signals : d.signals.items ≡ e.signals.items
  pub drivers : d.drivers.items ≡ e.drivers.items
  pub clocked : d.clocked.items ≡ e.clocked.items
  pub places : d.places.items ≡ e.places.items
  pub inputs : d.inputs.items ≡ e.inputs.items
  pub outputs : d.outputs.items ≡ e.outputs.items
