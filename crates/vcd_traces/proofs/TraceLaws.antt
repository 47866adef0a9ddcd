-- What is kept of the cycles of a whole text is its trace.
use Rattle.std.proofs.Common.{◌≡◌, ℕ, ◌≤◌, List, [], ◌∷◌, ◌++◌, length, min, refl, ◌∙◌, ap, arith, None}
use Rattle.std.specs.List.{flat_map}
use Rattle.design_core.specs.declared.trace.Trace.{Trace}
use Rattle.vcd_traces.specs.declared.rows.Rows.{Rows}
use Rattle.vcd_reading.specs.Events.{Event}
use Rattle.vcd_traces.specs.Samples.{Watches, AreSamples}
use Rattle.vcd_traces.specs.Rows.{Row, no_row, joined, row_of, rows_of}
use Rattle.vcd_traces.specs.Kept.{row_at, rows_at, AreKept}

-- a field of the samples at some stamps, stamp by stamp
field_flat : (get : Row → List ℕ) → get no_row ≡ [] → ((one other : Row) → get (joined one other) ≡ get one ++ get other) → (w : Watches)
    (events : List Event) (times : List ℕ) → get (rows_at w events times) ≡ flat_map (λ time. get (row_at w events time)) times
field_flat get none more w events [] = none
field_flat get none more w events (time ∷ times) =
    more (row_at w events time) (rows_at w events times) ∙ ap (λ l. get (row_at w events time) ++ l) (field_flat get none more w events times)

pub samples_are : (w : Watches) (events : List Event) (times : List ℕ) (trace : Trace) → trace.cycles ≡ length times
    → row_of trace ≡ rows_at w events times → AreSamples w events times trace
samples_are w events times trace cycles rows = record {
  cycles = cycles;
  inputs = ap (λ (r : Row). r.inputs) rows ∙ field_flat (λ r. r.inputs) refl (λ one other. refl) w events times;
  input_widths = ap (λ (r : Row). r.input_widths) rows ∙ field_flat (λ r. r.input_widths) refl (λ one other. refl) w events times;
  masks = ap (λ (r : Row). r.masks) rows ∙ field_flat (λ r. r.masks) refl (λ one other. refl) w events times;
  mask_widths = ap (λ (r : Row). r.mask_widths) rows ∙ field_flat (λ r. r.mask_widths) refl (λ one other. refl) w events times;
  values = ap (λ (r : Row). r.values) rows ∙ field_flat (λ r. r.values) refl (λ one other. refl) w events times;
  value_widths = ap (λ (r : Row). r.value_widths) rows ∙ field_flat (λ r. r.value_widths) refl (λ one other. refl) w events times;
}

-- where a trace may have them all and no input is unknown
pub kept_samples : (w : Watches) (events : List Event) (times : List ℕ) (rows : Rows) → AreKept w events times (rows_of rows) → length times ≤ 100000
    → rows.unknown ≡ None → AreSamples w events times rows.trace
kept_samples w events times rows are few none =
    let all : min (length times) 100001 ≡ length times = omega (arith, few) in
    samples_are w events times rows.trace (are.cycles ∙ all) (are.rows few none)
