-- The condition under which a design is sampled.
use Rattle.std.specs.Prelude.{ℕ, ◌<◌, ◌^◌, ◌&&◌, Bool, nat_le, IsTrue, length}
use Rattle.std.specs.List.{list_all}
use Rattle.design_core.specs.declared.design.Design.{Design}
use Rattle.design_core.specs.WellFormed.{IsWellFormed}
use Rattle.vcd_reading.specs.Scopes.{Port, port_at}

-- a port of 1 to 128 bits
abbrev pub fits : Port → Bool
fits port = nat_le 1 port.width && nat_le port.width 128

abbrev pub is_port : Design → ℕ → Bool
is_port d s = fits (port_at d s)

-- the inputs and outputs of a design are signals of 1 to 128 bits
pub record HasPorts (d : Design) : Type 0 where
  pub few : length d.signals.items < 2 ^ 32
  pub inputs : IsTrue (list_all (is_port d) d.inputs.items)
  pub outputs : IsTrue (list_all (is_port d) d.outputs.items)

-- a well formed design has ports
abbrev pub FormedHasPorts : Type 0
FormedHasPorts = (d : Design) → length d.signals.items < 2 ^ 32 → IsWellFormed d → HasPorts d
