use Rattle.std.proofs.Common.{◌≡◌, List, ap, ◌∙◌}
use Rattle.vcd_traces.specs.declared.moment.Watch.{Watch}
use Rattle.vcd_traces.specs.Rows.{Row, Kept, rows_of, row_of, joined, kept_rows}
use Rattle.vcd_traces.proofs.RowLaws.{row_grows}
use Rattle.vcd_traces.proofs.rows.Rows.push_row.Goals as goal

pub returns : goal.returns
returns c =
    let old : Row = (rows_of c.args.self.now).rows in
    let new : Row = row_of (record { cycles = c.args.self.now.trace.cycles; inputs = c.push_samples.new.samples; expected = c.push_expected.new.expected }) in
    let grown : new ≡ joined old (kept_rows c.args.moment.now c.as_slice.result.now c.as_slice-2.result.now) =
    row_grows c.args.moment.now c.as_slice.result.now c.as_slice-2.result.now old new.inputs new.input_widths new.masks new.mask_widths new.values new.value_widths c.in_ok-push_samples.ensures.values c.in_ok-push_samples.ensures.widths
    c.in_ok-push_expected.ensures.masks c.in_ok-push_expected.ensures.mask_widths c.in_ok-push_expected.ensures.values c.in_ok-push_expected.ensures.value_widths in
    let put : Row → Kept = λ rows. record (rows_of c.args.self.now) { rows = rows } in
    ap put grown
    ∙ ap (λ (l : List Watch). put (joined old (kept_rows c.args.moment.now l c.as_slice-2.result.now))) c.as_slice.ensures.value
    ∙ ap (λ (l : List Watch). put (joined old (kept_rows c.args.moment.now c.args.watched.now.inputs.items l))) c.as_slice-2.ensures.value
