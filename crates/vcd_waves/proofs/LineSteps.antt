-- Lines, one by one.
use Rattle.std.proofs.Common.{◌≡◌, ℕ, zero, suc, ◌+◌, ◌-◌, ◌*◌, ◌<◌, ◌≤◌, true, false, Some, Option, List, [], ◌∷◌, ◌++◌, length, take, drop, refl, sym, ◌∙◌, ap, arith, append_assoc, add-one}
use Rattle.std.specs.Prelude.{slice_get, is_some, codes}
use Rattle.std.proofs.lemmas.Grind.{flat_map-append}
use Rattle.std.proofs.lemmas.List.{append-nil, drop_all}
use Rattle.std.proofs.Math.Nat.{mul-le-mul_right}
use Rattle.design_core.specs.declared.design.Design.{Design}
use Rattle.vcd_words.specs.Lines.{line_text, text_of}
use Rattle.vcd_waves.specs.declared.variable.Variable.{Variable}
use Rattle.vcd_waves.specs.declared.variable.Kind.{Kind}
use Rattle.vcd_waves.specs.declared.wave.Wave.{Wave}
use Rattle.vcd_waves.specs.Variables.{name_of}
use Rattle.vcd_waves.specs.Lines.{Line, Row, Shown, row_at, shown_in, clock_shown, shown_lines, change_lines, time_line, timescale_line, scope_line, upscope_line, end_line, variable_line, variable_lines, freed_lines, header_lines, cycle_lines, lines_before}
use Rattle.vcd_waves.proofs.ListSteps.{drop-got}

pub ruleset line_steps = (append_assoc, flat_map-append, append-nil)

-- two and three texts that are appended one after another
pub appended2 : (old one two a b : List ℕ) → one ≡ old ++ a → two ≡ one ++ b → two ≡ old ++ (a ++ b)
appended2 old one two a b first second = second ∙ ap (λ t. t ++ b) first ∙ append_assoc old a b

pub appended3 : (old one two three a b d : List ℕ) → one ≡ old ++ a → two ≡ one ++ b → three ≡ two ++ d → three ≡ old ++ (a ++ (b ++ d))
appended3 old one two three a b d first second third =
    appended2 old one three a (b ++ d) first (appended2 one two three b d second third)

pub appended5 : (old one two three four five a b d e f : List ℕ) → one ≡ old ++ a → two ≡ one ++ b → three ≡ two ++ d → four ≡ three ++ e → five ≡ four ++ f
    → five ≡ old ++ (a ++ (b ++ (d ++ (e ++ f))))
appended5 old one two three four five a b d e f first second third fourth fifth =
    appended3 old one two five a b (d ++ (e ++ f)) first second (appended3 two three four five d e f third fourth fifth)

-- the parts of the texts of lines
pub cycle_text : (variables : List Variable) (row : Row) (t : ℕ)
    → text_of (cycle_lines true variables row t)
    ≡ line_text (time_line (10 * t)) ++ (text_of (change_lines (clock_shown 0) 0 variables) ++ (text_of (change_lines (shown_in row) 0 variables)
    ++ (line_text (time_line (10 * t + 5)) ++ text_of (change_lines (clock_shown 1) 0 variables))))
cycle_text variables row t =
    let low : List Line = change_lines (clock_shown 0) 0 variables in
    let others : List Line = change_lines (shown_in row) 0 variables in
    let high : List Line = change_lines (clock_shown 1) 0 variables in
    ap (λ l. line_text (time_line (10 * t)) ++ l)
    (flat_map-append line_text (low ++ others) (time_line (10 * t + 5) ∷ high)
    ∙ ap (λ l. l ++ (line_text (time_line (10 * t + 5)) ++ text_of high)) (flat_map-append line_text low others)
    ∙ append_assoc (text_of low) (text_of others) (line_text (time_line (10 * t + 5)) ++ text_of high))

pub freed_text : (d : Design) (clock : Option (List ℕ)) (n : ℕ) (freed : List Variable) → 0 < length freed
    → text_of (freed_lines d clock n freed) ≡ line_text (scope_line (codes "freed")) ++ (text_of (variable_lines d clock n freed) ++ line_text upscope_line)
freed_text d clock n [] some = absurd (omega (arith, some))
freed_text d clock n (v ∷ rest) some =
    ap (λ l. line_text (scope_line (codes "freed")) ++ l) (flat_map-append line_text (variable_lines d clock n (v ∷ rest)) (upscope_line ∷ []))

pub freed_none : (d : Design) (clock : Option (List ℕ)) (n : ℕ) (freed : List Variable) → length freed ≡ 0 → text_of (freed_lines d clock n freed) ≡ []
freed_none d clock n [] none = refl
freed_none d clock n (v ∷ rest) none = absurd (omega (arith, none))

pub header_text : (top : List ℕ) (d : Design) (clock : Option (List ℕ)) (ports freed : List Variable)
    → text_of (header_lines top d clock ports freed)
    ≡ line_text timescale_line ++ (line_text (scope_line top) ++ (text_of (variable_lines d clock 0 ports)
    ++ (text_of (freed_lines d clock (length ports) freed) ++ codes "$upscope $end\n$enddefinitions $end\n")))
header_text top d clock ports freed =
    let declared : List Line = variable_lines d clock 0 ports in
    let inner : List Line = freed_lines d clock (length ports) freed in
    ap (λ l. line_text timescale_line ++ (line_text (scope_line top) ++ l))
    (flat_map-append line_text (declared ++ inner) (upscope_line ∷ end_line ∷ [])
    ∙ ap (λ l. l ++ text_of (upscope_line ∷ end_line ∷ [])) (flat_map-append line_text declared inner)
    ∙ append_assoc (text_of declared) (text_of inner) (text_of (upscope_line ∷ end_line ∷ [])))

-- the changes of one variable more
pub change_next : (shown : Kind → ℕ → Option Shown) (variables : List Variable) (i : ℕ) (v : Variable) (text new whole : List ℕ)
    → slice_get variables i ≡ Some v
    → new ≡ text ++ text_of (shown_lines i (shown v.kind v.place))
    → text ++ text_of (change_lines shown i (drop i variables)) ≡ whole
    → new ++ text_of (change_lines shown (i + 1) (drop (i + 1) variables)) ≡ whole
change_next shown variables i v text new whole got one is =
    ap (λ t. t ++ text_of (change_lines shown (i + 1) (drop (i + 1) variables))) one
    ∙ append_assoc text (text_of (shown_lines i (shown v.kind v.place))) (text_of (change_lines shown (i + 1) (drop (i + 1) variables)))
    ∙ ap (λ t. text ++ t) (sym (flat_map-append line_text (shown_lines i (shown v.kind v.place)) (change_lines shown (i + 1) (drop (i + 1) variables))))
    ∙ ap (λ l. text ++ text_of (change_lines shown i l)) (sym (drop-got variables i v got)) ∙ is

pub change_last : (shown : Kind → ℕ → Option Shown) (variables : List Variable) (i : ℕ) (text whole : List ℕ)
    → length variables ≤ i → text ++ text_of (change_lines shown i (drop i variables)) ≡ whole → text ≡ whole
change_last shown variables i text whole all is =
    sym (append-nil text) ∙ ap (λ l. text ++ text_of (change_lines shown i l)) (sym (drop_all i variables all)) ∙ is

pub ruleset change_steps = (append-nil)

-- the line of one variable more
pub variable_next : (d : Design) (clock : Option (List ℕ)) (first : ℕ) (variables : List Variable) (i : ℕ) (v : Variable) (text new whole : List ℕ)
    → slice_get variables i ≡ Some v
    → new ≡ text ++ line_text (variable_line (first + i) v.width (name_of d clock v))
    → text ++ text_of (variable_lines d clock (first + i) (drop i variables)) ≡ whole
    → new ++ text_of (variable_lines d clock (first + (i + 1)) (drop (i + 1) variables)) ≡ whole
variable_next d clock first variables i v text new whole got one is =
    let more : first + (i + 1) ≡ first + i + 1 = omega arith in
    ap (λ n. new ++ text_of (variable_lines d clock n (drop (i + 1) variables))) more
    ∙ ap (λ t. t ++ text_of (variable_lines d clock (first + i + 1) (drop (i + 1) variables))) one
    ∙ append_assoc text (line_text (variable_line (first + i) v.width (name_of d clock v))) (text_of (variable_lines d clock (first + i + 1) (drop (i + 1) variables)))
    ∙ ap (λ l. text ++ text_of (variable_lines d clock (first + i) l)) (sym (drop-got variables i v got)) ∙ is

pub variable_last : (d : Design) (clock : Option (List ℕ)) (first : ℕ) (variables : List Variable) (i : ℕ) (text whole : List ℕ)
    → length variables ≤ i → text ++ text_of (variable_lines d clock (first + i) (drop i variables)) ≡ whole → text ≡ whole
variable_last d clock first variables i text whole all is =
    sym (append-nil text) ∙ ap (λ l. text ++ text_of (variable_lines d clock (first + i) l)) (sym (drop_all i variables all)) ∙ is

pub ruleset variable_steps = (append-nil)

-- one cycle more
pub cycle_next : (w : Wave) (variables : List Variable) (t : ℕ) (old text new : List ℕ)
    → text ≡ old ++ text_of (lines_before w variables t)
    → new ≡ text ++ text_of (cycle_lines (is_some w.clock) variables (row_at w t) t)
    → new ≡ old ++ text_of (lines_before w variables (t + 1))
cycle_next w variables t old text new is one =
    one ∙ ap (λ l. l ++ text_of (cycle_lines (is_some w.clock) variables (row_at w t) t)) is
    ∙ append_assoc old (text_of (lines_before w variables t)) (text_of (cycle_lines (is_some w.clock) variables (row_at w t) t))
    ∙ ap (λ l. old ++ l) (sym (flat_map-append line_text (lines_before w variables t) (cycle_lines (is_some w.clock) variables (row_at w t) t)))
    ∙ ap (λ n. old ++ text_of (lines_before w variables n)) (sym (add-one t))

pub ruleset cycle_steps = (append-nil)

-- the entries of a cycle lie among all
pub row_within : (cycles count t : ℕ) → t < cycles → t * count + count ≤ cycles * count
row_within cycles count t within =
    let most : suc t * count ≤ cycles * count = mul-le-mul_right count (omega (arith, within)) in
    omega arith

pub ruleset row_steps = (row_within)
