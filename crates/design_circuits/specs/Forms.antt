-- What is asked of the circuit of a design's net, and what a model of its form gives.
use Rattle.std.specs.Prelude.{ℕ, ◌≡◌, ◌<◌, ◌^◌, Bool, List, length, map, slice_get, Some, All}
use Rattle.design_core.specs.declared.design.Design.{Design}
use Rattle.design_core.specs.declared.place.Place.{Place}
use Rattle.design_core.specs.declared.trace.Trace.{Trace}
use Rattle.design_core.specs.declared.values.Values.{Values}
use Rattle.design_core.specs.TraceFits.{IsTraceOf}
use Rattle.design_core.specs.Works.{Groups}
use Rattle.suspect_map.specs.declared.group.Group.{Group}
use Rattle.suspect_map.specs.Groups.{AreWithin}
use Rattle.bit_circuit.specs.Circuits.{circuit_of}
use Rattle.unroller.specs.declared.free_bit.FreeBit.{FreeBit}
use Rattle.unroller.specs.Unrolls.{cycles_of}
use Rattle.form_laws.specs.Encodes.{Asked, SatisfiesForm, unrolling_of}
use Rattle.form_laws.specs.Models.{Selects}
use Rattle.form_values.specs.ModelValues.{AreModelValues}
use Rattle.form_laws.specs.Designs.{OfDesign}
use Rattle.design_circuits.specs.Reading.{IsOfNet, OfNet, read_of}

-- each bit of each place of the design is one of some bits
abbrev pub HaveEachPlace : Design → List FreeBit → Type 0
HaveEachPlace d bits =
    (p b : ℕ) (place : Place) → slice_get d.places.items p ≡ Some place → b < place.width
    → (column : ℕ) × (slice_get bits column ≡ Some (record { place = p; bit = b }))

-- a design's net, traces, suspects, and the greatest size of a set
pub record NetAsked : Type 0 where
  pub of : OfNet
  pub traces : List Trace
  pub groups : List Group
  pub k : ℕ

-- the design can be carried out, the net is its, the traces are of it, and their cycles are fewer than 2^32
pub record CanAskNet (net : NetAsked) : Type 0 where
  pub of_net : IsOfNet net.of
  pub traces : All (IsTraceOf net.of.design) net.traces
  pub few : cycles_of net.traces < 2 ^ 32

-- the same, of the net's circuit
abbrev pub asked_of : NetAsked → Asked
asked_of net = record { circuit = circuit_of net.of.net; traces = net.traces; groups = net.groups; k = net.k }

-- and of the circuit as one of the design
abbrev pub of_design : NetAsked → OfDesign
of_design net = record { asked = asked_of net; design = net.of.design; order = net.of.order; read = read_of net.of.design }

-- the places of the suspects
abbrev pub places_in : NetAsked → Groups
places_in net = map (λ group. group.places) net.groups

-- the places of the suspects are places of the design
abbrev pub HasPlaces : NetAsked → Type 0
HasPlaces net = AreWithin (length net.of.design.places.items) net.groups

-- an assignment of the form, members of a set, and values
pub record NetModel : Type 0 where
  pub asked : NetAsked
  pub assignment : ℕ → Bool
  pub members : List ℕ
  pub values : Values

-- the assignment satisfies the form, the members' selectors are those that are true, and the values are those that it gives to
-- the members' places
pub record IsModelOf (model : NetModel) : Type 0 where
  pub satisfies : SatisfiesForm (asked_of model.asked) model.assignment
  pub selects : Selects model.assignment (length model.asked.groups) model.members
  pub values : AreModelValues model.assignment (unrolling_of (asked_of model.asked)) model.asked.groups model.members model.values
