-- The cells of a machine between its calls.
use Rattle.std.proofs.Common.{◌≡◌, ℕ, ◌<◌, List, length, take, get_or, arith, sym, refl, ◌∙◌, ap, subst}
use Rattle.std.specs.Prelude.{slice_get, Some}
use Rattle.std.proofs.lemmas.List.{length-map, get_or-take}
use Rattle.loc_base.specs.declared.bits.Bits.{Bits}
use Rattle.loc_base.specs.Bits.{width_of, bit_of}
use Rattle.design_core.specs.declared.design.Design.{Design}
use Rattle.design_core.specs.Valuation.{Valuation, width_at}
use Rattle.design_core.specs.Words.{valuation_of, AreWordsOf}
use Rattle.design_core.specs.Constant.{zeros}
use Rattle.design_core.specs.After.{Choice}
use Rattle.design_core.specs.Cycle.{Cycle}
use Rattle.design_core.specs.Steps.{kept}
use Rattle.plain_values.proofs.EvaluateWords.{slice_get_at, valuation-bit, word-width, words-length}
use Rattle.cycle_code.specs.declared.code.Code.{Code}
use Rattle.cycle_code.specs.Program.{Program, program_of, signals_of, count_of}
use Rattle.cycle_code.specs.Fitting.{IsSound}
use Rattle.cycle_code.proofs.ConstantLaws.{constants-start}
use Rattle.cycle_code.proofs.WordCells.{words-now}
use Rattle.cycle_sim.specs.Compiled.{AreCells, now_in}
use Rattle.cycle_sim.specs.Simulated.{Simulated, IsSimulable, at_start}
use Rattle.cycle_sim.specs.Holding.{AreQuiet, starts}
use Rattle.cycle_sim.proofs.CellWords.{now_words, now-valuation}

-- ---- the cells
-- before its first run a code has the cells of its program
pub cells-start : (code : Code) (cells : List Bits) → cells ≡ code.cells.items → AreCells (program_of code) cells
cells-start code cells same =
    subst (AreCells (program_of code)) (sym same) (record { widths = refl; constants = constants-start code })

-- cells of one program are as many
pub cells-many : (p : Program) (one other : List Bits) → AreCells p one → AreCells p other → length other ≡ length one
cells-many p one other are same =
    sym (length-map other width_of) ∙ ap length (same.widths ∙ sym are.widths) ∙ length-map one width_of

-- ---- the word of a signal
now-word : (p : Program) (d : Design) (cells : List Bits) (s : ℕ) (word : Bits) → IsSound p → AreCells p cells
    → p.design ≡ d → s < length d.signals.items → word ≡ get_or cells s word
    → slice_get (now_words p cells) s ≡ Some word
now-word p d cells s word sound are same low is =
    let many = words-length (signals_of p) (now_words p cells) (words-now p cells sound are.widths) in
    let within : s < count_of p = omega (arith, low, ap (λ (x : Design). length x.signals.items) same) in
    slice_get_at (now_words p cells) s word (omega (arith, within, many))
    (is ∙ sym (get_or-take (count_of p) cells s word within))

-- its width
pub now-width : (p : Program) (d : Design) (cells : List Bits) (s : ℕ) (word : Bits) → IsSound p → AreCells p cells
    → p.design ≡ d → s < length d.signals.items → word ≡ get_or cells s word
    → width_of word ≡ width_at d.signals.items s
now-width p d cells s word sound are same low is =
    let found = now-word p d cells s word sound are same low is in
    word-width (signals_of p) (now_words p cells) s word (words-now p cells sound are.widths) found
    ∙ ap (λ (x : Design). width_at x.signals.items s) same

-- its bits
pub now-bits : (p : Program) (d : Design) (cells : List Bits) (s b : ℕ) (word : Bits) → IsSound p → AreCells p cells
    → p.design ≡ d → s < length d.signals.items → word ≡ get_or cells s word
    → bit_of word b ≡ now_in p (valuation_of cells) s b
now-bits p d cells s b word sound are same low is =
    sym (valuation-bit (now_words p cells) s b word (now-word p d cells s word sound are same low is))
    ∙ ap (λ (V : Valuation). V s b) (now-valuation p cells)

-- ---- the words of all signals
-- they stand at the front of the cells
front-is : (p : Program) (d : Design) (cells words : List Bits) (n : ℕ) → p.design ≡ d → n ≡ length d.signals.items
    → words ≡ cells → take n words ≡ now_words p cells
front-is p d cells words n same many is =
    ap (take n) is ∙ ap (λ k. take k cells) (many ∙ sym (ap (λ (x : Design). length x.signals.items) same))

pub front-fits : (p : Program) (d : Design) (cells words : List Bits) (n : ℕ) → IsSound p → AreCells p cells
    → p.design ≡ d → n ≡ length d.signals.items → words ≡ cells → AreWordsOf d.signals.items (take n words)
front-fits p d cells words n sound are same many is =
    let front = front-is p d cells words n same many is in
    subst (λ (x : Design). AreWordsOf x.signals.items (take n words)) same
    (subst (AreWordsOf (signals_of p)) (sym front) (words-now p cells sound are.widths))

pub front-value : (p : Program) (d : Design) (cells words : List Bits) (n : ℕ) → p.design ≡ d
    → n ≡ length d.signals.items → words ≡ cells → valuation_of (take n words) ≡ now_in p (valuation_of cells)
front-value p d cells words n same many is =
    ap valuation_of (front-is p d cells words n same many is) ∙ now-valuation p cells

-- ---- what contracts see
abbrev seen : Design → List ℕ → Valuation → Valuation → Simulated
seen d order V S = record { design = d; order = order; values = V; state = kept d S }

-- where the values are 0 and the states begin, by the design that the code is of
pub seen-start : (d e : Design) (order : List ℕ) (V S : Valuation) → e ≡ d → V ≡ zeros → S ≡ starts e.signals.items
    → seen d order V S ≡ at_start d order
seen-start d e order V S same values states =
    ap (λ (W : Valuation). seen d order W S) values
    ∙ ap (seen d order zeros) (states ∙ ap (λ (x : Design). starts x.signals.items) same)

-- a cycle of the design that the code is of
pub cycle-held : (d e : Design) (order : List ℕ) (samples : List Bits) (choice : Choice) (O S V N : Valuation) → e ≡ d
    → (IsSimulable e order → AreQuiet e O → Cycle e samples (kept e S) choice V (kept e N))
    → IsSimulable d order → AreQuiet d O → Cycle d samples (kept d S) choice V (kept d N)
cycle-held d e order samples choice O S V N same h =
    subst (λ (x : Design). IsSimulable x order → AreQuiet x O → Cycle x samples (kept x S) choice V (kept x N)) same h
