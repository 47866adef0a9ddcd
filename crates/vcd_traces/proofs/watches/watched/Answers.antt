use Rattle.std.proofs.Common.{◌∙◌, refl, ap, ℕ, List, length, take, drop}
use Rattle.vcd_traces.specs.Table.{cell_codes}
use Rattle.vcd_traces.proofs.WatchLaws.{watched_are}
use Rattle.vcd_traces.proofs.watches.watched.Goals as goal

pub returns-clause-watched : goal.returns-clause-watched
returns-clause-watched c h sought table all =
    watched_are h sought (cell_codes c.args.table.now) c.args.sites.now c.split_at.result.0.now c.split_at.result.1.now c.split_at-2.result.0.now
    c.split_at-2.result.1.now _ _ (record { clock = c.first_cell.result; inputs = c.in_ok-watches.field-0; outputs = c.in_ok-watches-2.field-0; zero_inputs = c.args.by.now.zero_inputs }) _
    (c.split_at.ensures.front ∙ ap (λ (l : List ℕ). take (length l) c.args.sites.now) c.as_slice.ensures.value)
    (c.split_at.ensures.back ∙ ap (λ (l : List ℕ). drop (length l) c.args.sites.now) c.as_slice.ensures.value)
    (c.split_at-2.ensures.front ∙ ap (λ (l : List ℕ). take (length l) c.split_at.result.1.now) c.as_slice-2.ensures.value)
    (c.split_at-2.ensures.back ∙ ap (λ (l : List ℕ). drop (length l) c.split_at.result.1.now) c.as_slice-2.ensures.value) all
    (λ each. (c.in_ok-watches.ensures.watches h sought table each, c.in_ok-watches.ensures.cells h sought table each))
    (λ each. (c.in_ok-watches-2.ensures.watches h sought table each, c.in_ok-watches-2.ensures.cells h sought table each))
    (c.first_cell.ensures.code h sought table) (c.first_cell.ensures.within h sought table) refl
