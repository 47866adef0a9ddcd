-- The rows of a trace grow by one.
use Rattle.std.proofs.Common.{◌≡◌, ℕ, List, ◌++◌, map, ap, ◌∙◌, bit_and}
use Rattle.vcd_traces.specs.declared.moment.Moment.{Moment}
use Rattle.vcd_traces.specs.declared.moment.Watch.{Watch}
use Rattle.vcd_traces.specs.Moment.{kept_sample}
use Rattle.vcd_traces.specs.Samples.{known_bits}
use Rattle.vcd_traces.specs.Rows.{Row, joined, kept_rows}

abbrev pub row_with : (inputs input_widths masks mask_widths values value_widths : List ℕ) → Row
row_with inputs input_widths masks mask_widths values value_widths = record {
  inputs = inputs;
  input_widths = input_widths;
  masks = masks;
  mask_widths = mask_widths;
  values = values;
  value_widths = value_widths;
}

-- rows that have grown in each field
pub row_grows : (m : Moment) (inputs outputs : List Watch) (old : Row) (one two three four five six : List ℕ)
    → one ≡ old.inputs ++ map (λ watch. (kept_sample m watch).ones) inputs
    → two ≡ old.input_widths ++ map (λ (watch : Watch). watch.width) inputs
    → three ≡ old.masks ++ map (λ (watch : Watch). known_bits watch.width (kept_sample m watch)) outputs
    → four ≡ old.mask_widths ++ map (λ (watch : Watch). watch.width) outputs
    → five ≡ old.values ++ map (λ (watch : Watch). bit_and (kept_sample m watch).ones (known_bits watch.width (kept_sample m watch))) outputs
    → six ≡ old.value_widths ++ map (λ (watch : Watch). watch.width) outputs
    → row_with one two three four five six ≡ joined old (kept_rows m inputs outputs)
row_grows m inputs outputs old one two three four five six a b c d e f =
    ap (λ l. row_with l two three four five six) a ∙ ap (λ l. row_with (old.inputs ++ map (λ watch. (kept_sample m watch).ones) inputs) l three four five six) b
    ∙ ap (λ l. row_with (old.inputs ++ map (λ watch. (kept_sample m watch).ones) inputs) (old.input_widths ++ map (λ (watch : Watch). watch.width) inputs) l four five six) c
    ∙ ap (λ l. record (joined old (kept_rows m inputs outputs)) { mask_widths = l; values = five; value_widths = six }) d
    ∙ ap (λ l. record (joined old (kept_rows m inputs outputs)) { values = l; value_widths = six }) e
    ∙ ap (λ l. record (joined old (kept_rows m inputs outputs)) { value_widths = l }) f
