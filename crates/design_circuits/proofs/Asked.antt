-- What is asked of the circuit of a design's net is asked of the design.
use Rattle.std.proofs.Common.{◌≡◌, ◌⊎◌, inl, inr, ℕ, ◌*◌, ◌/◌, ◌<◌, ◌≤◌, length, get_or, sym, ◌∙◌, ap, arith}
use Rattle.std.proofs.Math.Nat.{mul-div_cancel_left}
use Rattle.std.proofs.lemmas.Bool.{cases_lt}
use Rattle.design_core.specs.declared.trace.Trace.{Trace}
use Rattle.design_core.specs.TraceFits.{IsTraceOf}
use Rattle.bit_circuit.specs.Circuits.{circuit_of}
use Rattle.bit_circuit.proofs.CircuitKept.{circuit-kept}
use Rattle.design_circuits.specs.Reads.{AllReadDesign, HasEachPlace}
use Rattle.unroller.specs.Unrolls.{IsTraceOf as IsCircuitTrace}
use Rattle.form_laws.specs.Encodes.{CanBeAsked, unrolling_of}
use Rattle.form_laws.proofs.Equivalence.{bits-are}
use Rattle.form_values.specs.ModelValues.{ArePlaces}
use Rattle.form_laws.specs.Circuits.{IsCircuitOf}
use Rattle.form_laws.specs.Designs.{EncodesDesign, IsOfDesign}
use Rattle.form_laws.proofs.DesignWorks.{encodes-design}
use Rattle.design_circuits.specs.Reading.{read_of}
use Rattle.design_circuits.specs.Forms.{CanAskNet, HasPlaces, NetAsked, asked_of, of_design}
use Rattle.design_circuits.proofs.Cycles.{is-circuit}
use Rattle.design_circuits.proofs.FreeBits.{are-places, each-place}

-- so many entries in each of some cycles are as many in each as their number over that of the cycles
each-cycle : (many cycles each : ℕ) → many ≡ cycles * each → many ≡ cycles * (many / cycles)
each-cycle many cycles each is = at (cases_lt 0 cycles)
  where
    at : (0 < cycles) ⊎ (cycles ≤ 0) → many ≡ cycles * (many / cycles)
    at (inl some) = is ∙ ap (λ n. cycles * n) (sym (ap (λ n. n / cycles) is ∙ mul-div_cancel_left each (omega (arith, some))))
    at (inr none) =
        let no_cycles : cycles ≡ 0 = omega (arith, none) in
        let nothing : 0 * each ≡ 0 * (many / cycles) = omega arith in
        is ∙ ap (λ n. n * each) no_cycles ∙ nothing ∙ sym (ap (λ n. n * (many / cycles)) no_cycles)

module _ (net : NetAsked) (can : CanAskNet net) (reads : AllReadDesign net.of.design net.of.net.nodes) where
  pub of-circuit : IsCircuitOf net.of.design (circuit_of net.of.net) (read_of net.of.design)
  of-circuit = is-circuit net.of can.of_net reads

  trace-of : (trace : Trace) → IsTraceOf net.of.design trace → IsCircuitTrace (length (circuit_of net.of.net).outputs) trace
  trace-of trace fits = record {
    inputs = each-cycle (length trace.inputs.items) trace.cycles (length net.of.design.inputs.items) fits.sample_count;
    expected = fits.expected_count ∙ ap (λ n. trace.cycles * n) (sym of-circuit.outputs);
  }

  pub can-be-asked : CanBeAsked (asked_of net)
  can-be-asked = record {
    circuit = circuit-kept net.of.net can.of_net.net;
    traces = record {
      each = λ i default within. trace-of (get_or net.traces i default) (can.traces i default within);
      few = omega (arith, can.few);
    };
  }

  pub is-of_design : IsOfDesign (of_design net)
  is-of_design = record {
    can_be_asked = can-be-asked;
    well_formed = can.of_net.well_formed;
    once = can.of_net.once;
    order = can.of_net.order;
    circuit = of-circuit;
    traces = can.traces;
  }

  pub encodes : EncodesDesign (of_design net)
  encodes = encodes-design (of_design net) is-of_design

-- the places of suspects of the design are places of its form
pub asked-places : (net : NetAsked) (can : CanAskNet net) → AllReadDesign net.of.design net.of.net.nodes
    → HasEachPlace net.of.design net.of.net.nodes → HasPlaces net
    → ArePlaces (unrolling_of (asked_of net)) net.groups
asked-places net can reads each within =
    are-places net.of.design can.of_net.well_formed (circuit_of net.of.net) (read_of net.of.design) (of-circuit net can reads)
    (each-place net.of can.of_net each)
    (unrolling_of (asked_of net)) net.groups (bits-are (asked_of net) (can-be-asked net can reads)) within
