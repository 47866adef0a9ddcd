-- A design that is read has ports.
use Rattle.std.proofs.Common.{ℕ, List, arith}
use Rattle.design_core.specs.declared.design.Design.{Design}
use Rattle.vcd_traces.specs.Ports.{FormedHasPorts, HasPorts}
use Rattle.front_end.specs.Means.{IsReady}

pub has-ports : FormedHasPorts → (d : Design) (order : List ℕ) → IsReady d order → HasPorts d
has-ports formed d order ready = formed d (omega (arith, ready.signals)) ready.well_formed
