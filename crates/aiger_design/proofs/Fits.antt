-- A file's design is well formed where the literals that its rows read have signals.
use Rattle.std.proofs.Common.{◌≡◌, ◌≢◌, ℕ, ◌+◌, ◌-◌, ◌%◌, ◌<◌, ◌≤◌, ◌==◌, Bool, true, false, ◌&&◌, List, [], ◌∷◌, ◌++◌, map, length, Option, Some, None, if◌then◌else◌, refl, sym, ◌∙◌, ap, ap₂, subst, arith, ◌⊎◌, inl, inr}
use Rattle.std.specs.Prelude.{slice_get, slice_index_or, sum_by, nat_lt, nat_le, AllPairs}
use Rattle.std.proofs.Common.{eq-eqb}
use Rattle.std.specs.List.{range_with_len, list_all}
use Rattle.std.specs.Option.{option_map_or}
use Rattle.std.proofs.lemmas.Bool.{cases_Bool, cases_lt, cond-true, cond-false, lt-ltb, false≢true}
use Rattle.std.proofs.lemmas.List.{length-append}
use Rattle.std.proofs.lemmas.List.FromFn.{length-map-range_with_len}
use Rattle.std.proofs.lemmas.List.Sums.{sum_by-append}
use Rattle.loc_base.proofs.ShelfBools.{equal-false}
use Rattle.design_core.specs.declared.signal.Signal.{Signal}
use Rattle.design_core.specs.declared.signal.SignalKind.{SignalKind}
use Rattle.design_core.specs.declared.signal.SignalKind.TheVariants as kind
use Rattle.design_core.specs.declared.expression.UnaryOp.TheVariants.{Not}
use Rattle.design_core.specs.declared.expression.BinaryOp.TheVariants as binary_op
use Rattle.design_core.specs.declared.expression.Typed.{Typed}
use Rattle.design_core.specs.declared.expression.Node.TheVariants.{Const, Whole, Unary, Binary}
use Rattle.design_core.specs.declared.expression.Node.TheBlock.{shape-the_row-Typed-0, hidden-the_row-Typed-0}
use denote.Hole.Carrier.{hidden}
use Rattle.design_core.specs.declared.statement.Part.TheVariants as part
use Rattle.design_core.specs.declared.driver.Driver.{Driver}
use Rattle.design_core.specs.declared.place.Place.{Place}
use Rattle.design_core.specs.declared.place.PlaceKind.{PlaceKind}
use Rattle.design_core.specs.declared.place.PlaceKind.TheVariants as place_kind
use Rattle.design_core.specs.declared.design.Design.{Design}
use Rattle.design_core.specs.Valuation.{width_at}
use Rattle.design_core.specs.Store.{parts_width}
use Rattle.design_core.specs.WellFormed.{is_width, same_widths, signal_fits, typed_fits, node_fits, place_fits, assignment_fits, driver_fits, clocked_fits, times_in_driver, times_in_clocked, input_fits, is_input, is_signal, IsWellFormed}
use Rattle.aiger_text.specs.declared.row.Row.{Row}
use Rattle.aiger_text.specs.Rows.{first_latch, first_output, first_and}
use Rattle.aiger_rules.specs.Literals.{definer, even}
use Rattle.aiger_design.specs.declared.numbering.Numbering.{Numbering}
use Rattle.aiger_design.specs.Numbering.{input_count, first_register, first_result, signal_count, row_signal, and_signal, output_signal, latch_signal, and_number, latch_number}
use Rattle.aiger_design.specs.Signals.{bit_word, signal, signals_of, port_signal, row_signal_of, row_path}
use Rattle.aiger_design.specs.Values.{bit_of, variable, value, first_value, second_value, and_value, first_read, second_read}
use Rattle.aiger_design.specs.Drivers.{and_driver, output_driver, drivers_of, latch_block, blocks_of, place, and_place, latch_place, and_places, latch_places, places_of}
use Rattle.aiger_design.specs.Reads.{HasSignal, HasSignals}
use Rattle.aiger_design.specs.File.{IsDesignBy}
use Rattle.aiger_design.proofs.Lists.{all-both, all-made, all-range, get-made, get-front, has-one, has-test, sum-none, sum-one, range-distinct}

both-true : {a b : Bool} → a ≡ true → b ≡ true → (a && b) ≡ true
both-true one other = ap₂ (λ x y. x && y) one other

-- ---- signals

-- so many signals of one bit each
pub record AreBits (signals : List Signal) (count : ℕ) : Type 0 where
  pub long : length signals ≡ count
  pub width : list_all (λ s. s.width == 1) signals ≡ true

-- the signals in their four parts
abbrev input_signals : Numbering → List (List ℕ) → List Signal
input_signals n names = map (port_signal names kind.Input) (range_with_len 0 (first_register n))

abbrev registers : List Row → Numbering → List Signal
registers rows n = map (row_signal_of rows kind.Reg 108) (range_with_len (first_latch n.counts) n.counts.latches)

abbrev nets : List Row → Numbering → List Signal
nets rows n = map (row_signal_of rows kind.Net 97) (range_with_len (first_and n.counts) n.counts.ands)

abbrev results : Numbering → List (List ℕ) → List Signal
results n names = map (port_signal names kind.Net) (range_with_len (first_register n) n.counts.outputs)

-- a test that each signal of one bit passes, all do
all-signals : (test : Signal → Bool) (rows : List Row) (n : Numbering) (names : List (List ℕ)) → ((k : SignalKind) (path : List ℕ) → test (signal k path) ≡ true)
    → list_all test (signals_of rows n names) ≡ true
all-signals test rows n names each =
    all-both test (input_signals n names ++ registers rows n ++ nets rows n) (results n names) (
    all-both test (input_signals n names ++ registers rows n) (nets rows n) (
    all-both test (input_signals n names) (registers rows n) (all-made test (port_signal names kind.Input) 0 (first_register n) (λ k from below. each kind.Input (slice_index_or names k [])))
    (all-made test (row_signal_of rows kind.Reg 108) (first_latch n.counts) n.counts.latches (λ k from below. each kind.Reg (row_path rows 108 k)))
    )
    (all-made test (row_signal_of rows kind.Net 97) (first_and n.counts) n.counts.ands (λ k from below. each kind.Net (row_path rows 97 k)))
    )
    (all-made test (port_signal names kind.Net) (first_register n) n.counts.outputs (λ k from below. each kind.Net (slice_index_or names k [])))

signals-fit : (rows : List Row) (n : Numbering) (names : List (List ℕ)) → list_all signal_fits (signals_of rows n names) ≡ true
signals-fit rows n names = all-signals signal_fits rows n names (λ k path. refl)

pub signals-bits : (rows : List Row) (n : Numbering) (names : List (List ℕ)) → AreBits (signals_of rows n names) (signal_count n)
signals-bits rows n names = record { long = long; width = all-signals (λ s. s.width == 1) rows n names (λ k path. refl) }
  where
    long : length (signals_of rows n names) ≡ signal_count n
    long =
        length-append (input_signals n names ++ registers rows n ++ nets rows n) (results n names)
        ∙ ap₂ (λ a b. a + b) (
        length-append (input_signals n names ++ registers rows n) (nets rows n)
        ∙ ap₂ (λ a b. a + b) (
        length-append (input_signals n names) (registers rows n)
        ∙ ap₂ (λ a b. a + b) (length-map-range_with_len (port_signal names kind.Input) 0 (first_register n))
        (length-map-range_with_len (row_signal_of rows kind.Reg 108) (first_latch n.counts) n.counts.latches)
        )
        (length-map-range_with_len (row_signal_of rows kind.Net 97) (first_and n.counts) n.counts.ands)
        )
        (length-map-range_with_len (port_signal names kind.Net) (first_register n) n.counts.outputs)

width-one : (signals : List Signal) (count s : ℕ) → AreBits signals count → s < count → width_at signals s ≡ 1
width-one signals count s bits within = has-one (λ signal. signal.width) signals s bits.width (omega (arith, bits.long, within))

-- ---- values

-- an expression of one bit that fits
pub record FitsBit (signals : List Signal) (e : Typed) : Type 0 where
  pub width : e.width ≡ 1
  pub fits : typed_fits signals e ≡ true

whole-fits : (signals : List Signal) (count s : ℕ) → AreBits signals count → s < count → node_fits signals 1 false (Whole s) ≡ true
whole-fits signals count s bits within =
    both-true (both-true refl (lt-ltb s (length signals) (omega (arith, bits.long, within)))) (ap (λ w. w == 1) (width-one signals count s bits within))

variable-fits : (signals : List Signal) (rows : List Row) (n : Numbering) (literal row : ℕ) → AreBits signals (signal_count n)
    → definer rows (even literal) ≡ Some row → row_signal n row < signal_count n → typed_fits signals (variable rows n literal) ≡ true
variable-fits signals rows n literal row bits is within =
    ap (λ o. node_fits signals 1 false (Whole (option_map_or (row_signal n) o 0))) is ∙ whole-fits signals (signal_count n) (row_signal n row) bits within

-- the negation of one bit
negated-fits : (signals : List Signal) (e : Typed) → FitsBit signals e → typed_fits signals (bit_of (Unary Not e)) ≡ true
unfolding shape-the_row-Typed-0 hidden-the_row-Typed-0 hidden
negated-fits signals e fits = both-true (both-true refl (ap (λ w. 1 == w) fits.width)) fits.fits

value-fits : (signals : List Signal) (rows : List Row) (n : Numbering) (literal : ℕ) → AreBits signals (signal_count n) → HasSignal rows n literal
    → FitsBit signals (value rows n literal)
value-fits signals rows n literal bits has = at (cases_Bool (nat_lt literal 2)) (cases_Bool (literal % 2 == 1)) has
  where
    constant : Typed
    constant = bit_of (Const (bit_word (literal == 1)))

    negated : Typed
    negated = bit_of (Unary Not (variable rows n literal))

    constant-fits : (bit : Bool) → typed_fits signals (bit_of (Const (bit_word bit))) ≡ true
    constant-fits true = refl
    constant-fits false = refl

    shown : (e : Typed) → value rows n literal ≡ e → FitsBit signals e → FitsBit signals (value rows n literal)
    shown e is fits = subst (FitsBit signals) (sym is) fits

    large : nat_lt literal 2 ≡ false → value rows n literal ≡ (if literal % 2 == 1 then negated else variable rows n literal)
    large is = cond-false _ _ _ is

    at : (nat_lt literal 2 ≡ true) ⊎ (nat_lt literal 2 ≡ false) → ((literal % 2 == 1) ≡ true) ⊎ ((literal % 2 == 1) ≡ false) → HasSignal rows n literal
        → FitsBit signals (value rows n literal)
    at (inl small) parity reads =
        shown constant (cond-true _ _ _ small) (record { width = refl; fits = constant-fits (literal == 1) })
    at (inr big) parity (inl below) = absurd (false≢true (sym big ∙ lt-ltb literal 2 below))
    at (inr big) (inl odd) (inr (row, is, within)) =
        shown negated (large big ∙ cond-true _ _ _ odd) (record {
          width = refl;
          fits = negated-fits signals (variable rows n literal) (record { width = refl; fits = variable-fits signals rows n literal row bits is within });
        })
    at (inr big) (inr plain) (inr (row, is, within)) =
        shown (variable rows n literal) (large big ∙ cond-false _ _ _ plain) (record { width = refl; fits = variable-fits signals rows n literal row bits is within })

-- what a row reads
read-fits : (signals : List Signal) (rows : List Row) (n : Numbering) (read : Row → ℕ) (number : ℕ) → AreBits signals (signal_count n)
    → ((row : Row) → slice_get rows number ≡ Some row → HasSignal rows n (read row)) → FitsBit signals (value rows n (option_map_or read (slice_get rows number) 0))
read-fits signals rows n read number bits has = at (slice_get rows number) refl
  where
    at : (o : Option Row) → slice_get rows number ≡ o → FitsBit signals (value rows n (option_map_or read o 0))
    at None is = value-fits signals rows n 0 bits (inl (omega arith))
    at (Some row) is = value-fits signals rows n (read row) bits (has row is)

and-fits : (signals : List Signal) (one other : Typed) → FitsBit signals one → FitsBit signals other → typed_fits signals (bit_of (Binary binary_op.And one other)) ≡ true
unfolding shape-the_row-Typed-0 hidden-the_row-Typed-0 hidden
and-fits signals one other left right =
    both-true (both-true (both-true (both-true refl (ap₂ (λ a b. same_widths 1 a b) left.width right.width)) refl) left.fits) right.fits

-- ---- assignments

assignment-fits : (signals : List Signal) (count s : ℕ) (e : Typed) → AreBits signals count → s < count → FitsBit signals e
    → (assignment_fits signals (part.Whole s ∷ []) e ≡ true) × (parts_width signals (part.Whole s ∷ []) ≡ 1)
assignment-fits signals count s e bits within fits =
    let wide : parts_width signals (part.Whole s ∷ []) ≡ 1 = omega (arith, width-one signals count s bits within) in (
      both-true (
          both-true (both-true (both-true (lt-ltb s (length signals) (omega (arith, bits.long, within))) refl) (ap is_width wide)) fits.fits
          )
          (ap₂ (λ a b. nat_le a b) wide fits.width),
      wide,
    )

-- so many places of one bit each
pub record ArePlaces (places : List Place) (count : ℕ) : Type 0 where
  pub long : length places ≡ count
  pub width : list_all (λ p. p.width == 1) places ≡ true

place-fits : (places : List Place) (count width p : ℕ) → ArePlaces places count → width ≡ 1 → p < count → place_fits places width p ≡ true
place-fits places count width p are is within =
    ap (λ w. place_fits places w p) is ∙ has-test (λ place. place.width == 1) places p are.width (omega (arith, are.long, within))

-- a test that each place of one bit passes, all do
all-places : (test : Place → Bool) (rows : List Row) (n : Numbering) (top : List ℕ)
    → ((k : PlaceKind) (path : List ℕ) (line s : ℕ) → test (place k top path line s) ≡ true) → list_all test (places_of rows n top) ≡ true
all-places test rows n top each =
    all-both test (and_places rows n top) (latch_places n top)
    (all-made test (and_place rows n top) (first_and n.counts) n.counts.ands (λ k from below. each place_kind.And (row_path rows 97 k) (k + 2) (and_signal n k)))
    (all-made test (latch_place n top) (first_latch n.counts) n.counts.latches (λ k from below. each place_kind.Step top (k + 2) (latch_signal n k)))

pub places-are : (rows : List Row) (n : Numbering) (top : List ℕ) → ArePlaces (places_of rows n top) (n.counts.ands + n.counts.latches)
places-are rows n top = record {
  long = length-append (and_places rows n top) (latch_places n top)
      ∙ ap₂ (λ a b. a + b) (length-map-range_with_len (and_place rows n top) (first_and n.counts) n.counts.ands)
      (length-map-range_with_len (latch_place n top) (first_latch n.counts) n.counts.latches);
  width = all-places (λ p. p.width == 1) rows n top (λ k path line s. refl);
}

places-fit : (rows : List Row) (n : Numbering) (top : List ℕ) → list_all (λ (place : Place). is_width place.width) (places_of rows n top) ≡ true
places-fit rows n top = all-places (λ p. is_width p.width) rows n top (λ k path line s. refl)

-- ---- drivers and blocks

drivers-fit : (signals : List Signal) (places : List Place) (rows : List Row) (n : Numbering) → AreBits signals (signal_count n)
    → ArePlaces places (n.counts.ands + n.counts.latches) → HasSignals rows n → list_all (driver_fits signals places) (drivers_of rows n) ≡ true
drivers-fit signals places rows n bits are has =
    all-both (driver_fits signals places) (map (and_driver rows n) (range_with_len (first_and n.counts) n.counts.ands))
    (map (output_driver rows n) (range_with_len (first_output n.counts) n.counts.outputs)) (all-made (driver_fits signals places) (and_driver rows n) (first_and n.counts) n.counts.ands and)
    (all-made (driver_fits signals places) (output_driver rows n) (first_output n.counts) n.counts.outputs output)
  where
    and : (k : ℕ) → first_and n.counts ≤ k → k < first_and n.counts + n.counts.ands → driver_fits signals places (and_driver rows n k) ≡ true
    and k from below =
        let left = read-fits signals rows n first_read k bits (has.first k) in
        let right = read-fits signals rows n second_read k bits (has.second k) in
        let fits : FitsBit signals (and_value rows n k) =
        record { width = refl; fits = and-fits signals (first_value rows n k) (second_value rows n k) left right } in
        let (assigned, wide) = assignment-fits signals (signal_count n) (and_signal n k) (and_value rows n k) bits (omega (arith, from, below)) fits in
        both-true assigned (place-fits places (n.counts.ands + n.counts.latches) (parts_width signals (part.Whole (and_signal n k) ∷ [])) (and_number n k) are wide (omega (arith, from, below)))

    output : (k : ℕ) → first_output n.counts ≤ k → k < first_output n.counts + n.counts.outputs → driver_fits signals places (output_driver rows n k) ≡ true
    output k from below =
        let read = read-fits signals rows n first_read k bits (has.first k) in
        both-true (assignment-fits signals (signal_count n) (output_signal n k) (first_value rows n k) bits (omega (arith, from, below)) read).0 refl

blocks-fit : (d : Design) (rows : List Row) (n : Numbering) → AreBits d.signals.items (signal_count n)
    → ArePlaces d.places.items (n.counts.ands + n.counts.latches) → HasSignals rows n → list_all (clocked_fits d) (blocks_of rows n) ≡ true
blocks-fit d rows n bits are has = all-made (clocked_fits d) (latch_block rows n) (first_latch n.counts) n.counts.latches each
  where
    each : (k : ℕ) → first_latch n.counts ≤ k → k < first_latch n.counts + n.counts.latches → clocked_fits d (latch_block rows n k) ≡ true
    each k from below =
        let read = read-fits d.signals.items rows n first_read k bits (has.first k) in
        let (assigned, wide) = assignment-fits d.signals.items (signal_count n) (latch_signal n k) (first_value rows n k) bits (omega (arith, from, below)) read in
        both-true (both-true assigned (place-fits d.places.items (n.counts.ands + n.counts.latches) (parts_width d.signals.items (part.Whole (latch_signal n k) ∷ [])) (latch_number n k) are wide (omega (arith, from, below)))) refl

-- each place stands once: the first in the drivers, the others in the blocks
abbrev tally : ℕ → ℕ → ℕ
tally a b = if a == b then 1 else 0

once-if : (a b : ℕ) → a ≢ b → tally a b ≡ 0
once-if a b apart = cond-false _ _ _ (equal-false a b apart)

once-same : (a b : ℕ) → a ≡ b → tally a b ≡ 1
once-same a b same = cond-true _ _ _ (eq-eqb a b same)

places-once : (rows : List Row) (n : Numbering) (p : ℕ) → p < n.counts.ands + n.counts.latches
    → sum_by (times_in_driver p) (drivers_of rows n) + sum_by (times_in_clocked p) (blocks_of rows n) ≡ 1
places-once rows n p within =
    ap (λ k. k + sum_by (times_in_clocked p) (blocks_of rows n)) (
    sum_by-append (times_in_driver p) ands outputs
    ∙ ap (λ k. sum_by (times_in_driver p) ands + k) (sum-none (times_in_driver p) (output_driver rows n) (first_output n.counts) n.counts.outputs (λ k from below. refl))
    )
    ∙ at (cases_lt p n.counts.ands)
  where
    ands : List Driver
    ands = map (and_driver rows n) (range_with_len (first_and n.counts) n.counts.ands)

    outputs : List Driver
    outputs = map (output_driver rows n) (range_with_len (first_output n.counts) n.counts.outputs)

    at : (p < n.counts.ands) ⊎ (n.counts.ands ≤ p) → sum_by (times_in_driver p) ands + 0 + sum_by (times_in_clocked p) (blocks_of rows n) ≡ 1
    at (inl front) =
        let one : sum_by (times_in_driver p) ands ≡ 1 =
        sum-one (times_in_driver p) (and_driver rows n) (first_and n.counts) n.counts.ands (first_and n.counts + p) (omega arith) (omega (arith, front))
        (once-same (and_number n (first_and n.counts + p)) p (omega arith)) (λ k from below apart. once-if (and_number n k) p (λ is. apart (omega (arith, is, from)))) in
        let none : sum_by (times_in_clocked p) (blocks_of rows n) ≡ 0 =
        sum-none (times_in_clocked p) (latch_block rows n) (first_latch n.counts) n.counts.latches
        (λ k from below. ap (λ m. m + 0) (once-if (latch_number n k) p (λ is. omega (arith, is, front)))) in
        omega (arith, one, none)
    at (inr back) =
        let none : sum_by (times_in_driver p) ands ≡ 0 =
        sum-none (times_in_driver p) (and_driver rows n) (first_and n.counts) n.counts.ands
        (λ k from below. once-if (and_number n k) p (λ is. omega (arith, is, back, from, below))) in
        let one : sum_by (times_in_clocked p) (blocks_of rows n) ≡ 1 =
        sum-one (times_in_clocked p) (latch_block rows n) (first_latch n.counts) n.counts.latches (first_latch n.counts + (p - n.counts.ands)) (omega arith)
        (omega (arith, back, within)) (ap (λ m. m + 0) (once-same (latch_number n (first_latch n.counts + (p - n.counts.ands))) p (omega (arith, back))))
        (λ k from below apart. ap (λ m. m + 0) (once-if (latch_number n k) p (λ is. apart (omega (arith, is, from, back))))) in
        omega (arith, one, none)

-- ---- inputs and outputs

inputs-fit : (rows : List Row) (n : Numbering) (names : List (List ℕ)) → list_all (input_fits (signals_of rows n names)) (range_with_len n.clocks (input_count n)) ≡ true
inputs-fit rows n names = all-range (input_fits (signals_of rows n names)) n.clocks (input_count n) each
  where
    each : (k : ℕ) → n.clocks ≤ k → k < n.clocks + input_count n → input_fits (signals_of rows n names) k ≡ true
    each k from below =
        let long : length (input_signals n names) ≡ first_register n = length-map-range_with_len (port_signal names kind.Input) 0 (first_register n) in
        let one : k < length (input_signals n names) = omega (arith, below, long) in
        let two : k < length (input_signals n names ++ registers rows n) = omega (arith, one, length-append (input_signals n names) (registers rows n)) in
        let three : k < length (input_signals n names ++ registers rows n ++ nets rows n) =
        omega (arith, two, length-append (input_signals n names ++ registers rows n) (nets rows n)) in
        let there : slice_get (signals_of rows n names) k ≡ Some (port_signal names kind.Input (0 + k)) =
        get-front (input_signals n names ++ registers rows n ++ nets rows n) (results n names) k three
        ∙ get-front (input_signals n names ++ registers rows n) (nets rows n) k two ∙ get-front (input_signals n names) (registers rows n) k one
        ∙ get-made (port_signal names kind.Input) 0 (first_register n) k (omega (arith, below)) in
        ap (λ o. option_map_or (λ (s : Signal). is_input s.kind) o false) there

-- ---- the design

pub well-formed : (rows : List Row) (n : Numbering) (names : List (List ℕ)) (top : List ℕ) (d : Design) → IsDesignBy rows n names top d → HasSignals rows n → IsWellFormed d
well-formed rows n names top d design has =
    let bits : AreBits d.signals.items (signal_count n) = subst (λ ss. AreBits ss (signal_count n)) (sym design.signals) (signals-bits rows n names) in
    let are : ArePlaces d.places.items (n.counts.ands + n.counts.latches) =
    subst (λ ps. ArePlaces ps (n.counts.ands + n.counts.latches)) (sym design.places) (places-are rows n top) in
    record {
      signals = ap (list_all signal_fits) design.signals ∙ signals-fit rows n names;
      inputs = ap₂ (λ ss is. list_all (input_fits ss) is) design.signals design.inputs ∙ inputs-fit rows n names;
      inputs_distinct = subst (AllPairs (λ one other. one ≢ other)) (sym design.inputs) (range-distinct n.clocks (input_count n));
      outputs = ap (list_all (is_signal d.signals.items)) design.outputs
          ∙ all-range (is_signal d.signals.items) (first_result n) n.counts.outputs
          (λ k from below. lt-ltb k (length d.signals.items) (omega (arith, below, bits.long)));
      outputs_distinct = subst (AllPairs (λ one other. one ≢ other)) (sym design.outputs) (range-distinct (first_result n) n.counts.outputs);
      places = ap (list_all (λ (place : Place). is_width place.width)) design.places ∙ places-fit rows n top;
      drivers = ap (list_all (driver_fits d.signals.items d.places.items)) design.drivers ∙ drivers-fit d.signals.items d.places.items rows n bits are has;
      clocked = ap (list_all (clocked_fits d)) design.clocked ∙ blocks-fit d rows n bits are has;
      each_place_once = λ p within.
          ap₂ (λ ds bs. sum_by (times_in_driver p) ds + sum_by (times_in_clocked p) bs) design.drivers design.clocked
          ∙ places-once rows n p (omega (arith, within, are.long));
    }
