-- The stamp at hand ends as it is said to end.
use Rattle.std.proofs.Common.{◌≡◌, ℕ, Bool, true, false, List, refl, sym, ◌∙◌, ap, Option, Some, None, is_some}
use Rattle.std.proofs.lemmas.Bool.{cond-true, cond-false}
use Rattle.vcd_traces.specs.declared.moment.Moment.{Moment}
use Rattle.vcd_traces.specs.declared.running.Running.{Running}
use Rattle.vcd_traces.specs.declared.changes.Levels.{Levels}
use Rattle.vcd_traces.specs.declared.rows.Watched.{Watched}
use Rattle.vcd_traces.specs.Moment.{kept_is_cycle}
use Rattle.vcd_traces.specs.Rows.{Kept, kept_row, pushed}
use Rattle.vcd_traces.specs.Closing.{moment_of, closed_at, closed}

abbrev moment_with : List Running → Bool → ℕ → Moment
moment_with running clocked time = record { running = record { ref_ptr = (0, 0); now = running }; clocked = clocked; time = time }

-- a moment with what the levels hold
row_of_moment : (watched : Watched) (running : List Running) (time : ℕ) (m : Moment) → m.running.now ≡ running → m.clocked ≡ is_some watched.clock
    → m.time ≡ time → kept_row m watched ≡ kept_row (moment_of watched running time) watched
row_of_moment watched running time m running_is clocked_is time_is =
    ap (λ l. kept_row (moment_with l m.clocked m.time) watched) running_is ∙ ap (λ b. kept_row (moment_with running b m.time) watched) clocked_is
    ∙ ap (λ t. kept_row (moment_with running (is_some watched.clock) t) watched) time_is

is_cycle_of_moment : (watched : Watched) (running : List Running) (time : ℕ) (m : Moment) (clock : Option ℕ) → m.running.now ≡ running → m.clocked ≡ is_some watched.clock
    → m.time ≡ time → kept_is_cycle m clock ≡ kept_is_cycle (moment_of watched running time) clock
is_cycle_of_moment watched running time m None running_is clocked_is time_is = refl
is_cycle_of_moment watched running time m (Some cell) running_is clocked_is time_is =
    ap (λ l. kept_is_cycle (moment_with l m.clocked m.time) (Some cell)) running_is ∙ ap (λ b. kept_is_cycle (moment_with running b m.time) (Some cell)) clocked_is
    ∙ ap (λ t. kept_is_cycle (moment_with running (is_some watched.clock) t) (Some cell)) time_is

-- a stamp that is a cycle
pub closes_cycle : (watched : Watched) (levels : Levels) (kept new : Kept) (m : Moment) (time : ℕ) → levels.time ≡ Some time → m.running.now ≡ levels.running.items
    → m.clocked ≡ is_some watched.clock → m.time ≡ time → true ≡ kept_is_cycle m watched.clock → new ≡ pushed kept (kept_row m watched) → new ≡ closed watched levels kept
closes_cycle watched levels kept new m time at running_is clocked_is time_is cycle pushed_is =
    let test = sym (is_cycle_of_moment watched levels.running.items time m watched.clock running_is clocked_is time_is) ∙ sym cycle in
    pushed_is ∙ ap (pushed kept) (row_of_moment watched levels.running.items time m running_is clocked_is time_is)
    ∙ sym (ap (λ o. closed_at watched levels.running.items o kept) at ∙ cond-true _ _ _ test)

-- one that is none
pub closes_other : (watched : Watched) (levels : Levels) (kept : Kept) (m : Moment) (time : ℕ) → levels.time ≡ Some time → m.running.now ≡ levels.running.items
    → m.clocked ≡ is_some watched.clock → m.time ≡ time → false ≡ kept_is_cycle m watched.clock → kept ≡ closed watched levels kept
closes_other watched levels kept m time at running_is clocked_is time_is cycle =
    let test = sym (is_cycle_of_moment watched levels.running.items time m watched.clock running_is clocked_is time_is) ∙ sym cycle in
    sym (ap (λ o. closed_at watched levels.running.items o kept) at ∙ cond-false _ _ _ test)
