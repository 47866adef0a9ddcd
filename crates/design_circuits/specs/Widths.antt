-- What a cycle of a design's net is given, in words of the widths that the design names.
use Rattle.std.specs.Prelude.{◌≡◌, length, map}
use Rattle.loc_base.specs.Bits.{width_of}
use Rattle.design_core.specs.declared.place.Place.{Place}
use Rattle.design_core.specs.declared.design.Design.{Design}
use Rattle.design_core.specs.Valuation.{width_at}
use Rattle.word_net.specs.Given.{Given}
use Rattle.v_synth.specs.Net.{states_of}
use Rattle.v_synth.specs.Matches.{OneNet}

-- a word for each input, each state and each place, of its width; and for each place whether it is freed
pub record HasWidths (d : Design) (g : Given) : Type 0 where
  pub inputs : map width_of g.inputs ≡ map (width_at d.signals.items) d.inputs.items
  pub states : map width_of g.states ≡ map (width_at d.signals.items) (states_of d)
  pub freed : length g.freed ≡ length d.places.items
  pub chosen : map width_of g.chosen ≡ map (λ (place : Place). place.width) d.places.items

-- a design's net, and what a cycle of it is given
pub record GivenNet : Type 0 where
  pub of : OneNet
  pub given : Given
