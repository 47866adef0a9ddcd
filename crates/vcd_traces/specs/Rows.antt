-- The cycles that are kept while a dump is read: rows of samples, up to the first with an unknown input.
use Rattle.std.specs.Prelude.{ℕ, ◌+◌, ◌==◌, ◌||◌, nat_lt, if◌then◌else◌, List, [], ◌++◌, map, Option, Some, None, is_some, bit_and}
use Rattle.std.specs.List.{find}
use Rattle.std.specs.Option.{option_map}
use Rattle.loc_base.specs.Bits.{width_of, value_of}
use Rattle.design_core.specs.declared.trace.Trace.{Trace}
use Rattle.design_core.specs.declared.trace.Checked.{Checked}
use Rattle.vcd_traces.specs.declared.moment.Moment.{Moment}
use Rattle.vcd_traces.specs.declared.moment.Watch.{Watch}
use Rattle.vcd_traces.specs.declared.rows.Rows.{Rows}
use Rattle.vcd_traces.specs.declared.rows.Unknown.{Unknown}
use Rattle.vcd_traces.specs.declared.rows.Watched.{Watched}
use Rattle.vcd_traces.specs.Moment.{kept_sample, has_unknown}
use Rattle.vcd_traces.specs.Samples.{known_bits, needed}

-- the samples of one cycle or of several, field by field
pub record Row : Type 0 where
  pub inputs : List ℕ
  pub input_widths : List ℕ
  pub masks : List ℕ
  pub mask_widths : List ℕ
  pub values : List ℕ
  pub value_widths : List ℕ

-- the signal of the first input with an unknown bit, and the samples
pub record Cycle : Type 0 where
  pub unknown : Option ℕ
  pub row : Row

-- the number of cycles, the first of them with an unknown input, and the samples
pub record Kept : Type 0 where
  pub cycles : ℕ
  pub unknown : Option Unknown
  pub rows : Row

abbrev pub row_of : Trace → Row
row_of trace = record {
  inputs = map value_of trace.inputs.items;
  input_widths = map width_of trace.inputs.items;
  masks = map (λ (c : Checked). value_of c.mask) trace.expected.items;
  mask_widths = map (λ (c : Checked). width_of c.mask) trace.expected.items;
  values = map (λ (c : Checked). value_of c.value) trace.expected.items;
  value_widths = map (λ (c : Checked). width_of c.value) trace.expected.items;
}

abbrev pub rows_of : Rows → Kept
rows_of rows = record { cycles = rows.trace.cycles; unknown = rows.unknown; rows = row_of rows.trace }

abbrev pub no_row : Row
no_row = record { inputs = []; input_widths = []; masks = []; mask_widths = []; values = []; value_widths = [] }

abbrev pub no_rows : Kept
no_rows = record { cycles = 0; unknown = None; rows = no_row }

abbrev pub joined : Row → Row → Row
joined one other = record {
  inputs = one.inputs ++ other.inputs;
  input_widths = one.input_widths ++ other.input_widths;
  masks = one.masks ++ other.masks;
  mask_widths = one.mask_widths ++ other.mask_widths;
  values = one.values ++ other.values;
  value_widths = one.value_widths ++ other.value_widths;
}

-- the samples of some inputs and outputs at the end of a stamp
abbrev pub kept_rows : Moment → List Watch → List Watch → Row
kept_rows m inputs outputs = record {
  inputs = map (λ watch. (kept_sample m watch).ones) inputs;
  input_widths = map (λ (watch : Watch). watch.width) inputs;
  masks = map (λ (watch : Watch). known_bits watch.width (kept_sample m watch)) outputs;
  mask_widths = map (λ (watch : Watch). watch.width) outputs;
  values = map (λ (watch : Watch). bit_and (kept_sample m watch).ones (known_bits watch.width (kept_sample m watch))) outputs;
  value_widths = map (λ (watch : Watch). watch.width) outputs;
}

-- the signal of the first input with an unknown bit there
abbrev pub kept_unknown : Moment → List Watch → Option ℕ
kept_unknown m inputs = option_map (λ (watch : Watch). watch.signal) (find (has_unknown m) inputs)

abbrev pub kept_row : Moment → Watched → Cycle
kept_row m w = record { unknown = kept_unknown m (needed w.zero_inputs w.inputs.items); row = kept_rows m w.inputs.items w.outputs.items }

abbrev pub with_samples : Kept → Cycle → Kept
with_samples kept cycle = record kept { rows = joined kept.rows cycle.row }

-- one more cycle: its first unknown input, or its samples
abbrev pub with_cycle : Kept → ℕ → Cycle → Option ℕ → Kept
with_cycle kept number cycle None = with_samples kept cycle
with_cycle kept number cycle (Some signal) = record kept { unknown = Some (record { cycle = number; signal = signal }) }

-- no samples are kept behind an unknown input, or of more than 100,000 cycles
abbrev pub pushed : Kept → Cycle → Kept
pushed kept cycle =
    if nat_lt 100000 kept.cycles then kept else
    (if is_some kept.unknown || kept.cycles == 100000 then record kept { cycles = kept.cycles + 1 } else
    with_cycle (record kept { cycles = kept.cycles + 1 }) kept.cycles cycle cycle.unknown)
