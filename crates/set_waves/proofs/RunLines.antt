-- A wave whose trace has the outputs of a run is the wave of the scene.
use Rattle.std.proofs.Common.{◌≡◌, ℕ, zero, suc, ◌+◌, ◌-◌, ◌*◌, ◌<◌, ◌≤◌, Bool, true, false, List, [], ◌∷◌, ◌++◌, length, map, take, drop}
use Rattle.std.proofs.Common.{Option, Some, None, refl, ap, sym, subst, ◌∙◌, arith, append_assoc, get_or}
use Rattle.std.specs.Prelude.{is_some, slice_get}
use Rattle.std.specs.Option.{option_map}
use Rattle.std.proofs.Math.Path.{fun_ext}
use Rattle.std.proofs.Math.Seq.{take-suc, take-length}
use Rattle.std.proofs.lemmas.List.{append-nil, drop-map, length-map, take-map}
use Rattle.std.proofs.lemmas.Option.{get_or_from_slice_get, slice_get-map, slice_get_within}
use Rattle.loc_base.specs.declared.bits.Bits.{Bits}
use Rattle.design_core.specs.declared.design.Design.{Design}
use Rattle.design_core.specs.Explained.{cycles_before, row_of}
use Rattle.design_core.specs.Run.{samples_at}
use Rattle.design_core.specs.Valuation.{Valuation}
use Rattle.vcd_words.specs.Lines.{text_of}
use Rattle.vcd_waves.specs.declared.variable.Kind.{Kind}
use Rattle.vcd_waves.specs.declared.variable.Kind.TheVariants.{Clock, Input, Output, Freed}
use Rattle.vcd_waves.specs.declared.variable.Variable.{Variable}
use Rattle.vcd_waves.specs.declared.wave.Wave.{Wave}
use Rattle.vcd_waves.specs.Lines.{Line, Row, Shown, cycle_lines, entries_at, expected, header_lines, known, lines_before, row_at, shown_in, wave_lines}
use Rattle.vcd_waves.specs.Variables.{clock_of, listed, port_variables}
use Rattle.set_waves.specs.Making.{given_in}
use Rattle.set_waves.specs.Scenes.{Scene, given, moment_lines, run_lines, scene_lines, shown_at, wave_text}
use Rattle.set_waves.proofs.Blocks.{block-at, part-of-part, range-is}

pub there-is : {X : Type 0} (xs : List X) (i : ℕ) → i < length xs → (x : X) × (slice_get xs i ≡ Some x)
there-is [] i low = absurd (omega (arith, low))
there-is (x ∷ xs) zero low = (x, refl)
there-is (x ∷ xs) (suc i) low = there-is xs i (omega (arith, low))

-- the wave has the names, the design and the places of the scene, its samples, the outputs of its run, and its values
pub record IsWaveFor (W : Wave) (s : Scene) (run : List Valuation) : Type 0 where
  pub top : W.top.now ≡ s.of.top
  pub design : W.design.now ≡ s.of.design
  pub clock : clock_of W ≡ s.of.clock
  pub cycles : W.trace.now.cycles ≡ length run
  pub inputs : W.trace.now.inputs.items ≡ s.trace.inputs.items
  pub outputs : map expected W.trace.now.expected.items ≡ given_in s.of.design run
  pub places : W.places.now ≡ s.values.places.items
  pub chosen : W.chosen.now ≡ take (length run * length s.values.places.items)
      (drop (cycles_before s.of.traces s.number * length s.values.places.items) s.values.rows.items)

module _ (W : Wave) (s : Scene) (run : List Valuation) (is : IsWaveFor W s run) where
  abbrev d : Design
  d = s.of.design

  abbrev n : ℕ
  n = length s.values.places.items

  abbrev first : ℕ
  first = cycles_before s.of.traces s.number

  module _ (t : ℕ) (V : Valuation) (at : slice_get run t ≡ Some V) where
    inputs-same : (place : ℕ) → slice_get (entries_at W.trace.now.inputs.items (length W.design.now.inputs.items) t) place
        ≡ slice_get (samples_at d s.trace t) place
    inputs-same place =
        ap (λ (D : Design). slice_get (entries_at W.trace.now.inputs.items (length D.inputs.items) t) place) is.design
        ∙ ap (λ (xs : List Bits). slice_get (entries_at xs (length d.inputs.items) t) place) is.inputs

    outputs-row : map expected (entries_at W.trace.now.expected.items (length d.outputs.items) t) ≡ map (given d V) d.outputs.items
    outputs-row =
        ap (map expected) (range-is W.trace.now.expected.items (t * length d.outputs.items) (length d.outputs.items))
        ∙ sym (take-map expected (length d.outputs.items) (drop (t * length d.outputs.items) W.trace.now.expected.items))
        ∙ ap (take (length d.outputs.items)) (sym (drop-map expected (t * length d.outputs.items) W.trace.now.expected.items))
        ∙ ap (λ (xs : List Shown). take (length d.outputs.items) (drop (t * length d.outputs.items) xs)) is.outputs
        ∙ block-at (λ (X : Valuation). map (given d X) d.outputs.items) (length d.outputs.items)
        (λ X. length-map d.outputs.items (given d X)) run t V at

    outputs-same : (place : ℕ)
        → option_map expected (slice_get (entries_at W.trace.now.expected.items (length W.design.now.outputs.items) t) place)
        ≡ option_map (given d V) (slice_get d.outputs.items place)
    outputs-same place =
        ap (λ (D : Design). option_map expected (slice_get (entries_at W.trace.now.expected.items (length D.outputs.items) t) place))
        is.design
        ∙ sym (slice_get-map expected (entries_at W.trace.now.expected.items (length d.outputs.items) t) place)
        ∙ ap (λ (xs : List Shown). slice_get xs place) outputs-row
        ∙ slice_get-map (given d V) d.outputs.items place

    chosen-same : entries_at W.chosen.now (length W.places.now) t ≡ row_of s.values.places.items s.values.rows.items (first + t)
    chosen-same =
        ap (λ (ps : List ℕ). entries_at W.chosen.now (length ps) t) is.places
        ∙ range-is W.chosen.now (t * n) n
        ∙ ap (λ (ws : List Bits). take n (drop (t * n) ws)) is.chosen
        ∙ part-of-part s.values.rows.items (first * n) (length run * n) (t * n) n within
        ∙ ap (λ k. take n (drop k s.values.rows.items)) (together first t n)
      where
        together : (a b k : ℕ) → a * k + b * k ≡ (a + b) * k
        together a b k = omega arith

        rises : (a b k : ℕ) → a < b → a * k + k ≤ b * k
        rises a b k less = subst (λ x. a * k + k ≤ x * k) (split a b less) (omega (arith, spread a b k))
          where
            split : (p q : ℕ) → p < q → p + 1 + (q - (p + 1)) ≡ q
            split p q low = omega (arith, low)

            spread : (p q k : ℕ) → (p + 1 + (q - (p + 1))) * k ≡ p * k + k + (q - (p + 1)) * k
            spread p q k = omega arith

        within : t * n + n ≤ length run * n
        within = rises t (length run) n (slice_get_within run t V at)

    shown-same : (kind : Kind) (place : ℕ) → shown_in (row_at W t) kind place ≡ shown_at s t V kind place
    shown-same Clock place = refl
    shown-same Input place = ap (option_map known) (inputs-same place)
    shown-same Output place = outputs-same place
    shown-same Freed place = ap (λ (ws : List Bits). option_map known (slice_get ws place)) chosen-same

    shown-all : shown_in (row_at W t) ≡ shown_at s t V
    shown-all = fun_ext (λ kind. fun_ext (shown-same kind))

  some-clock : (W : Wave) → is_some W.clock ≡ is_some (clock_of W)
  some-clock W = elim W.clock as (λ c. is_some c ≡ is_some (elim c [ None ↦ None | Some name ↦ Some name.now ])) [ None ↦ refl | Some name ↦ refl ]

  cycle-same : (clocked : Bool) (variables : List Variable) (row : Row) (t : ℕ)
      → cycle_lines clocked variables row t ≡ moment_lines clocked variables (shown_in row) t
  cycle-same false variables row t = refl
  cycle-same true variables row t = refl

  lines-more : (variables : List Variable) (t : ℕ) (one next : List Valuation)
      → run_lines s variables t (one ++ next) ≡ run_lines s variables t one ++ run_lines s variables (t + length one) next
  lines-more variables t [] next = ap (λ k. run_lines s variables k next) (same t)
    where
      same : (k : ℕ) → k ≡ k + 0
      same k = omega arith
  lines-more variables t (V ∷ one) next =
      ap (λ (ls : List Line). moment_lines (is_some s.of.clock) variables (shown_at s t V) t ++ ls) (lines-more variables (t + 1) one next)
      ∙ sym (append_assoc (moment_lines (is_some s.of.clock) variables (shown_at s t V) t) (run_lines s variables (t + 1) one)
      (run_lines s variables (t + 1 + length one) next))
      ∙ ap (λ k. (moment_lines (is_some s.of.clock) variables (shown_at s t V) t ++ run_lines s variables (t + 1) one)
      ++ run_lines s variables k next) (along t (length one))
    where
      along : (a b : ℕ) → a + 1 + b ≡ a + suc b
      along a b = omega arith

  before-same : (variables : List Variable) (k : ℕ) → k ≤ length run → lines_before W variables k ≡ run_lines s variables 0 (take k run)
  before-same variables zero low = refl
  before-same variables (suc k) low =
      let some : (V : Valuation) × (slice_get run k ≡ Some V) = there-is run k (omega (arith, low)) in
      let V : Valuation = some.0 in
      let there : slice_get run k ≡ Some V = some.1 in
      let one : get_or run k V ≡ V = get_or_from_slice_get run k V V there in
      let many : 0 + length (take k run) ≡ k = omega (arith, length-of k run (omega (arith, low))) in
      ap (λ (ls : List Line). ls ++ cycle_lines (is_some W.clock) variables (row_at W k) k) (before-same variables k (omega (arith, low)))
      ∙ ap (λ (ls : List Line). run_lines s variables 0 (take k run) ++ ls)
      (cycle-same (is_some W.clock) variables (row_at W k) k
      ∙ ap (λ (shown : Kind → ℕ → Option Shown). moment_lines (is_some W.clock) variables shown k) (shown-all k V there)
      ∙ ap (λ (b : Bool). moment_lines b variables (shown_at s k V) k) (some-clock W ∙ ap is_some is.clock)
      ∙ sym (append-nil (moment_lines (is_some s.of.clock) variables (shown_at s k V) k))
      ∙ ap (λ i. run_lines s variables i (V ∷ [])) (sym many))
      ∙ sym (lines-more variables 0 (take k run) (V ∷ []))
      ∙ ap (run_lines s variables 0) (sym (take-suc run k V (omega (arith, low)) ∙ ap (λ (X : Valuation). take k run ++ X ∷ []) one))
    where
      length-of : (i : ℕ) (xs : List Valuation) → i ≤ length xs → length (take i xs) ≡ i
      length-of zero xs less = refl
      length-of (suc i) [] less = absurd (omega (arith, less))
      length-of (suc i) (x ∷ xs) less = ap suc (length-of i xs (omega (arith, less)))

  pub wave-lines : wave_lines W ≡ scene_lines s run
  wave-lines =
      ap (λ (k : ℕ). header_lines W.top.now W.design.now (clock_of W) (port_variables W.design.now (clock_of W))
      (listed W.design.now Freed 0 W.places.now)
      ++ lines_before W (port_variables W.design.now (clock_of W) ++ listed W.design.now Freed 0 W.places.now) k) is.cycles
      ∙ ap (λ (ls : List Line). header_lines W.top.now W.design.now (clock_of W) (port_variables W.design.now (clock_of W))
      (listed W.design.now Freed 0 W.places.now) ++ ls)
      (before-same (port_variables W.design.now (clock_of W) ++ listed W.design.now Freed 0 W.places.now) (length run) (omega arith)
      ∙ ap (run_lines s (port_variables W.design.now (clock_of W) ++ listed W.design.now Freed 0 W.places.now) 0) (take-length run))
      ∙ ap (λ (D : Design). lines-by W.top.now D (clock_of W) W.places.now) is.design
      ∙ ap (λ (top : List ℕ). lines-by top d (clock_of W) W.places.now) is.top
      ∙ ap (λ (clock : Option (List ℕ)). lines-by s.of.top d clock W.places.now) is.clock
      ∙ ap (lines-by s.of.top d s.of.clock) is.places
    where
      lines-by : List ℕ → Design → Option (List ℕ) → List ℕ → List Line
      lines-by top D clock places =
          header_lines top D clock (port_variables D clock) (listed D Freed 0 places)
          ++ run_lines s (port_variables D clock ++ listed D Freed 0 places) 0 run

  pub same-text : text_of (wave_lines W) ≡ wave_text s run
  unfolding wave_text
  same-text = ap text_of wave-lines
