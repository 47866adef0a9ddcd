-- Each bit of a file's design is given its value once: the drivers drive the nets, each its own, and the blocks the registers.
use Rattle.std.proofs.Common.{◌≡◌, ℕ, zero, suc, ◌+◌, ◌-◌, ◌<◌, ◌≤◌, ◌==◌, true, false, not, ◌&&◌, ◌||◌, List, ◌++◌, map, length, Option, Some, None, refl, sym, ◌∙◌, ap, ap₂, arith, inl, inr}
use Rattle.std.specs.Prelude.{slice_get, nat_lt}
use Rattle.std.specs.List.{range_with_len, list_any}
use Rattle.std.proofs.lemmas.Bool.{cases_lt, and_parts, or_cases, false≢true}
use Rattle.std.proofs.lemmas.List.FromFn.{length-map-range_with_len}
use Rattle.std.proofs.lemmas.Option.{slice_get_within}
use Rattle.loc_base.proofs.ShelfBools.{equal-true, equal-false}
use Rattle.loc_base.proofs.ShelfLists.{Contains-place}
use Rattle.loc_base.specs.declared.span.Span.{Span}
use Rattle.design_core.specs.declared.signal.Signal.{Signal}
use Rattle.design_core.specs.declared.expression.Typed.{Typed}
use Rattle.design_core.specs.declared.driver.Driver.{Driver}
use Rattle.design_core.specs.declared.driver.Driver.TheVariants.{Cont}
use Rattle.design_core.specs.declared.driver.Clocked.{Clocked}
use Rattle.design_core.specs.declared.design.Design.{Design}
use Rattle.design_core.specs.Drives.{driver_drives, block_drives}
use Rattle.design_core.specs.Valuation.{width_at}
use Rattle.design_core.specs.DrivenOnce.{IsDrivenOnce}
use Rattle.aiger_text.specs.declared.row.Row.{Row}
use Rattle.aiger_text.specs.Rows.{first_latch, first_output, first_and}
use Rattle.aiger_design.specs.declared.numbering.Numbering.{Numbering}
use Rattle.aiger_design.specs.Numbering.{input_count, first_register, first_net, and_signal, output_signal, latch_signal, and_number}
use Rattle.aiger_design.specs.Values.{and_value, first_value}
use Rattle.aiger_design.specs.Drivers.{whole, line_span, and_driver, output_driver, drivers_of, latch_block, blocks_of}
use Rattle.aiger_design.specs.File.{IsDesignBy}
use Rattle.aiger_design.proofs.Lists.{get-made, get-front, get-back}

-- a driver assigns a signal as a whole
pub record Assigns (driver : Driver) (s : ℕ) : Type 0 where
  pub value : Typed
  pub place : Option ℕ
  pub span : Span
  pub is : driver ≡ Cont (whole s) value place span

-- a part that drives a bit is of that signal
drives-whole : (signals : List Signal) (s b t : ℕ) → ((s == t && nat_lt b (width_at signals t)) || false) ≡ true → s ≡ t
drives-whole signals s b t drives =
    elim (or_cases (s == t && nat_lt b (width_at signals t)) false drives) [
      | inl both ↦ equal-true s t (and_parts (s == t) (nat_lt b (width_at signals t)) both).0
      | inr never ↦ absurd (false≢true never)
    ]

pub assigns-drives : (signals : List Signal) (driver : Driver) (s b t : ℕ) → Assigns driver t → driver_drives signals s b driver ≡ true → s ≡ t
assigns-drives signals driver s b t assigns drives =
    drives-whole signals s b t (sym (ap (driver_drives signals s b) assigns.is) ∙ drives)

-- driver by driver
pub driver-at : (rows : List Row) (n : Numbering) (i : ℕ) (driver : Driver) → slice_get (drivers_of rows n) i ≡ Some driver → Assigns driver (first_net n + i)
driver-at rows n i driver there =
    elim (cases_lt i n.counts.ands) [
      | inl front ↦
          let long : length ands ≡ n.counts.ands = length-map-range_with_len (and_driver rows n) (first_and n.counts) n.counts.ands in
          let made : Some driver ≡ Some (and_driver rows n (first_and n.counts + i)) =
          sym there ∙ get-front ands outputs i (omega (arith, long, front)) ∙ get-made (and_driver rows n) (first_and n.counts) n.counts.ands i front in
          let here : and_signal n (first_and n.counts + i) ≡ first_net n + i = omega arith in
          record {
            value = and_value rows n (first_and n.counts + i);
            place = Some (and_number n (first_and n.counts + i));
            span = line_span (first_and n.counts + i);
            is = same driver (and_driver rows n (first_and n.counts + i)) made
                ∙ ap (λ t. Cont (whole t) (and_value rows n (first_and n.counts + i)) (Some (and_number n (first_and n.counts + i))) (line_span (first_and n.counts + i))) here;
          }
      | inr back ↦
          let long : length ands ≡ n.counts.ands = length-map-range_with_len (and_driver rows n) (first_and n.counts) n.counts.ands in
          let all : length outputs ≡ n.counts.outputs = length-map-range_with_len (output_driver rows n) (first_output n.counts) n.counts.outputs in
          let at : i ≡ length ands + (i - n.counts.ands) = omega (arith, long, back) in
          let behind : slice_get outputs (i - n.counts.ands) ≡ Some driver =
          sym (get-back ands outputs (i - n.counts.ands)) ∙ sym (ap (slice_get (ands ++ outputs)) at) ∙ there in
          let below : i - n.counts.ands < n.counts.outputs = omega (arith, slice_get_within outputs (i - n.counts.ands) driver behind, all) in
          let made : Some driver ≡ Some (output_driver rows n (first_output n.counts + (i - n.counts.ands))) =
          sym behind ∙ get-made (output_driver rows n) (first_output n.counts) n.counts.outputs (i - n.counts.ands) below in
          let here : output_signal n (first_output n.counts + (i - n.counts.ands)) ≡ first_net n + i = omega (arith, back) in
          record {
            value = first_value rows n (first_output n.counts + (i - n.counts.ands));
            place = None;
            span = line_span (first_output n.counts + (i - n.counts.ands));
            is = same driver (output_driver rows n (first_output n.counts + (i - n.counts.ands))) made
                ∙ ap (λ t. Cont (whole t) (first_value rows n (first_output n.counts + (i - n.counts.ands))) None (line_span (first_output n.counts + (i - n.counts.ands)))) here;
          }
    ]
  where
    ands : List Driver
    ands = map (and_driver rows n) (range_with_len (first_and n.counts) n.counts.ands)

    outputs : List Driver
    outputs = map (output_driver rows n) (range_with_len (first_output n.counts) n.counts.outputs)

    same : (one other : Driver) → Some one ≡ Some other → one ≡ other
    same one other is = cc

-- block by block
pub block-at : (rows : List Row) (n : Numbering) (i : ℕ) (block : Clocked) → slice_get (blocks_of rows n) i ≡ Some block
    → (row : ℕ) × (block ≡ latch_block rows n row) × (latch_signal n row ≡ first_register n + i)
block-at rows n i block there =
    let long : length (blocks_of rows n) ≡ n.counts.latches = length-map-range_with_len (latch_block rows n) (first_latch n.counts) n.counts.latches in
    let below : i < n.counts.latches = omega (arith, slice_get_within (blocks_of rows n) i block there, long) in
    let made : Some block ≡ Some (latch_block rows n (first_latch n.counts + i)) =
    sym there ∙ get-made (latch_block rows n) (first_latch n.counts) n.counts.latches i below in
    (first_latch n.counts + i, same block (latch_block rows n (first_latch n.counts + i)) made, omega arith)
  where
    same : (one other : Clocked) → Some one ≡ Some other → one ≡ other
    same one other is = cc

block-drives : (signals : List Signal) (rows : List Row) (n : Numbering) (s b row : ℕ) → block_drives signals s b (latch_block rows n row) ≡ true → s ≡ latch_signal n row
block-drives signals rows n s b row drives =
    elim (or_cases ((s == latch_signal n row && nat_lt b (width_at signals (latch_signal n row))) || false) false drives) [ inl body ↦ drives-whole signals s b (latch_signal n row) body | inr never ↦ absurd (false≢true never) ]

-- a number above a range is none of it
above-range : (a n s : ℕ) → a + n ≤ s → list_any (λ input. input == s) (range_with_len a n) ≡ false
above-range a zero s above = refl
above-range a (suc n) s above =
    ap₂ (λ x y. x || y) (equal-false a s (λ is. omega (arith, above, is))) (above-range (a + 1) n s (omega (arith, above)))

-- the design is driven once
pub driven-once : (rows : List Row) (n : Numbering) (names : List (List ℕ)) (top : List ℕ) (d : Design) → IsDesignBy rows n names top d → IsDrivenOnce d
driven-once rows n names top d design = record {
  drivers = λ i j one other s b there here drives also.
      let first : s ≡ first_net n + i =
      assigns-drives d.signals.items one s b (first_net n + i) (driver-at rows n i one (sym (ap (λ ds. slice_get ds i) design.drivers) ∙ there)) drives in
      let second : s ≡ first_net n + j =
      assigns-drives d.signals.items other s b (first_net n + j) (driver-at rows n j other (sym (ap (λ ds. slice_get ds j) design.drivers) ∙ here)) also in
      omega (arith, first, second);
  inputs = λ driver s b member drives.
      let (i, there) = Contains-place d.drivers.items driver member in
      let at : s ≡ first_net n + i =
      assigns-drives d.signals.items driver s b (first_net n + i) (driver-at rows n i driver (sym (ap (λ ds. slice_get ds i) design.drivers) ∙ there)) drives in
      ap not (ap (list_any (λ input. input == s)) design.inputs ∙ above-range n.clocks (input_count n) s (omega (arith, at)));
  blocks = λ i j one other s b there here register drives also.
      let (row, is, at) = block-at rows n i one (sym (ap (λ bs. slice_get bs i) design.clocked) ∙ there) in
      let (line, same, behind) = block-at rows n j other (sym (ap (λ bs. slice_get bs j) design.clocked) ∙ here) in
      let first : s ≡ latch_signal n row = block-drives d.signals.items rows n s b row (sym (ap (block_drives d.signals.items s b) is) ∙ drives) in
      let second : s ≡ latch_signal n line = block-drives d.signals.items rows n s b line (sym (ap (block_drives d.signals.items s b) same) ∙ also) in
      omega (arith, first, second, at, behind);
}
