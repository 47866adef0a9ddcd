-- When a wave is read back as the trace that it was written from (IEEE 1364-2005, clause 18).
use Rattle.std.specs.Prelude.{ℕ, ◌+◌, ◌≤◌, ◌==◌, Bool, false, not, ◌&&◌, IsTrue, List, [], ◌∷◌, length, map, Option}
use Rattle.std.specs.List.{list_all, IsDistinct}
use Rattle.loc_base.specs.Ascii.{is_visible}
use Rattle.design_core.specs.declared.design.Design.{Design}
use Rattle.design_core.specs.TraceFits.{IsTraceOf}
use Rattle.vcd_reading.specs.Commands.{same_bytes, is_end}
use Rattle.vcd_reading.specs.Scopes.{Port, ports_of}
use Rattle.vcd_traces.specs.Ports.{HasPorts}
use Rattle.vcd_traces.specs.Samples.{HasSamples, by_clock}
use Rattle.vcd_waves.specs.declared.wave.Wave.{Wave}
use Rattle.vcd_waves.specs.Variables.{clock_of}

-- a byte of a plain name: printable, no space and no `[`
abbrev pub is_plain_byte : ℕ → Bool
is_plain_byte byte = is_visible byte && not (byte == 91)

-- a plain name: of such bytes, with no backslash at its front, and not `$end`. Each identifier that is not escaped is
-- one
abbrev pub is_plain : List ℕ → Bool
is_plain [] = false
is_plain (first ∷ rest) = not (first == 92) && list_all is_plain_byte (first ∷ rest) && not (is_end (first ∷ rest))

-- the names of the top's ports, the clock among them
abbrev pub port_names : Design → Option (List ℕ) → List (List ℕ)
port_names d clock = map (λ (port : Port). port.name) (ports_of d clock)

-- the ports of a wave are told apart by their names, its trace is one of the design and has 1 to 100,000 cycles
pub record IsReadable (w : Wave) : Type 0 where
  pub top : IsTrue (is_plain w.top.now)
  pub names : IsTrue (list_all is_plain (port_names w.design.now (clock_of w)))
  pub distinct : IsDistinct same_bytes (port_names w.design.now (clock_of w))
  pub ports : HasPorts w.design.now
  pub trace : IsTraceOf w.design.now w.trace.now
  pub some : 1 ≤ w.trace.now.cycles
  pub most : w.trace.now.cycles ≤ 100000
  -- the code of the variable of the next number is the word `$end`
  pub few : length (ports_of w.design.now (clock_of w)) + length w.places.now ≤ 56335895

-- a text holds the trace of a wave, where its scope is not named and each bit of an input is to be known
abbrev pub HoldsTrace : Wave → List ℕ → Type 0
HoldsTrace w text = HasSamples text w.design.now (by_clock (clock_of w)) w.trace.now
