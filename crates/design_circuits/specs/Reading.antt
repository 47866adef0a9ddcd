-- A design, its net, and how the states of the net's circuit are those of the design.
use Rattle.std.specs.Prelude.{ℕ, Bool, false, ◌&&◌, nat_lt, List, slice_get}
use Rattle.std.specs.Option.{option_map_or}
use Rattle.design_core.specs.declared.design.Design.{Design}
use Rattle.design_core.specs.Valuation.{Valuation, width_at}
use Rattle.design_core.specs.WellFormed.{IsWellFormed}
use Rattle.design_core.specs.DrivenOnce.{IsDrivenOnce}
use Rattle.design_core.specs.Reads.{IsOrder}
use Rattle.word_net.specs.Nets.{IsNet, Net}
use Rattle.v_synth.specs.Matches.{IsNetOf}
use Rattle.v_synth.specs.Net.{states_of}
use Rattle.form_laws.specs.Circuits.{Reading}

-- a bit of a signal, false where the signal has no such bit
abbrev pub bit_within : Design → Valuation → ℕ → ℕ → Bool
bit_within d V b s = nat_lt b (width_at d.signals.items s) && V s b

-- a bit of a state is that bit of the signal whose state it is; there is one state for each signal with a register bit
abbrev pub read_of : Design → Reading
read_of d V s b = option_map_or (bit_within d V b) (slice_get (states_of d) s) false

-- a design, an order of its drivers, and a net
pub record OfNet : Type 0 where
  pub design : Design
  pub order : List ℕ
  pub net : Net

-- the design can be carried out, and the net is its
pub record IsOfNet (of : OfNet) : Type 0 where
  pub well_formed : IsWellFormed of.design
  pub once : IsDrivenOnce of.design
  pub order : IsOrder of.design of.order
  pub net : IsNet of.net
  pub of_design : IsNetOf of.design of.order of.net
