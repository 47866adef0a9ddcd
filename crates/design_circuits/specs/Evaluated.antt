-- A net's nodes with their values, beside a cycle of the net's design.
use Rattle.std.specs.Prelude.{◌≡◌, IsTrue, List, map}
use Rattle.loc_base.specs.declared.bits.Bits.{Bits}
use Rattle.loc_base.specs.Bits.{value_of}
use Rattle.design_core.specs.TraceFits.{samples_fit}
use Rattle.design_core.specs.Words.{choice_of}
use Rattle.word_net.specs.Given.{Given}
use Rattle.word_net.specs.Nets.{Net}
use Rattle.synth_parts.specs.Meaning.{word_of}
use Rattle.v_synth.specs.Matches.{OneNet}
use Rattle.v_synth.specs.Net.{states_of}

-- a cycle, a net, what its nodes are given, and a word for each node
pub record Evaluated : Type 0 where
  pub cycle : OneNet
  pub net : Net
  pub given : Given
  pub values : List Bits

-- what the nodes are given is what the cycle begins with
pub record IsGivenAs (c : OneNet) (g : Given) : Type 0 where
  -- the inputs are the samples, one for each input, of its width
  pub inputs : g.inputs ≡ c.samples
  pub samples : IsTrue (samples_fit c.design.signals.items c.design.inputs.items c.samples)
  -- one state for each signal that has one
  pub states : map value_of g.states ≡ map (word_of c.design.signals.items c.state) (states_of c.design)
  -- the same places are freed, with the same values
  pub choice : choice_of g.freed g.chosen ≡ c.choice
