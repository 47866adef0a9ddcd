-- Words of the widths that a design names are what its net reads.
use Rattle.std.proofs.Common.{◌≡◌, ℕ, ◌<◌, List, length, map, Some, ◌∙◌, ap, arith}
use Rattle.std.specs.Prelude.{slice_get, option_map}
use Rattle.std.proofs.lemmas.Option.{slice_get_within, slice_get-map}
use Rattle.loc_base.specs.declared.bits.Bits.{Bits}
use Rattle.loc_base.specs.Bits.{width_of}
use Rattle.design_core.specs.declared.place.Place.{Place}
use Rattle.design_core.specs.declared.design.Design.{Design}
use Rattle.design_core.specs.Reads.{IsOrder}
use Rattle.design_core.specs.Valuation.{width_at}
use Rattle.design_core.specs.WellFormed.{IsWellFormed}
use Rattle.word_net.specs.declared.node.Operation.{Operation}
use Rattle.word_net.specs.declared.node.Operation.TheVariants.{Const, Input, State, Free, Unary, Binary, Choose, Join, Repeat, Resize, Slice, Pick, Is, Put, PutPick, Blend}
use Rattle.word_net.specs.Given.{Given, HasWord, IsGiven, AreGiven}
use Rattle.v_synth.specs.Net.{net_of, states_of}
use Rattle.design_circuits.specs.Reads.{IsSignalOf, IsPlaceOf, ReadsDesign}
use Rattle.design_circuits.specs.Widths.{HasWidths}
use Rattle.design_circuits.proofs.NetReadsDesign.{net-reads}

has-word : {X : Type 0} (words : List Bits) (f : X → ℕ) (xs : List X) (i width : ℕ) (x : X) → map width_of words ≡ map f xs → slice_get xs i ≡ Some x → f x ≡ width → HasWord words i width
has-word words f xs i width x same at wide = ap (λ ws. slice_get ws i) same ∙ slice_get-map f xs i ∙ ap (option_map f) at ∙ ap Some wide

signal-given : (d : Design) (words : List Bits) (signals : List ℕ) (i width : ℕ) → map width_of words ≡ map (width_at d.signals.items) signals → IsSignalOf d signals i width → HasWord words i width
signal-given d words signals i width same (s, at, wide) = has-word words (width_at d.signals.items) signals i width s same at wide

place-given : (d : Design) (g : Given) (p width : ℕ) → HasWidths d g → IsPlaceOf d p width → (p < length g.freed) × HasWord g.chosen p width
place-given d g p width fits (place, at, wide) = (
  omega (arith, fits.freed, slice_get_within d.places.items p place at),
  has-word g.chosen (λ (q : Place). q.width) d.places.items p width place fits.chosen at wide,
)

node-given : (d : Design) (g : Given) (width : ℕ) (op : Operation) → HasWidths d g → ReadsDesign d width op → IsGiven g width op
node-given d g width (Const word) fits reads = tt
node-given d g width (Input input) fits reads = signal-given d g.inputs d.inputs.items input width fits.inputs reads
node-given d g width (State state) fits reads = signal-given d g.states (states_of d) state width fits.states reads
node-given d g width (Free place computed) fits reads = place-given d g place width fits reads
node-given d g width (Unary op arg) fits reads = tt
node-given d g width (Binary op left right) fits reads = tt
node-given d g width (Choose test one other) fits reads = tt
node-given d g width (Join high low) fits reads = tt
node-given d g width (Repeat times part) fits reads = tt
node-given d g width (Resize arg) fits reads = tt
node-given d g width (Slice word from) fits reads = tt
node-given d g width (Pick word select) fits reads = tt
node-given d g width (Is index value) fits reads = tt
node-given d g width (Put old from size word offset) fits reads = tt
node-given d g width (PutPick old select word offset) fits reads = tt
node-given d g width (Blend mask one other) fits reads = tt

pub net-given : (d : Design) (order : List ℕ) (g : Given) → IsWellFormed d → IsOrder d order → HasWidths d g → AreGiven g (net_of d order).nodes
net-given d order g well ordered fits i node at = node-given d g node.width node.operation fits (net-reads d order well ordered i node at)
