-- Pieces of a text, one behind another.
use Rattle.std.proofs.Common.{ℕ, zero, suc, ◌+◌, ◌*◌, ◌≡◌, List, [], ◌∷◌, ◌++◌, ◌∙◌, ap, sym, refl, append_assoc, add-one}
use Rattle.std.specs.Prelude.{codes}
use Rattle.std.proofs.lemmas.Grind.{flat_map-append}
use Rattle.std.proofs.lemmas.List.{append-nil}
use Rattle.vcd_words.specs.Codes.{code_from}
use Rattle.vcd_words.specs.Levels.{digits_of}
use Rattle.vcd_words.specs.Lines.{line_text, text_of}
use Rattle.vcd_waves.specs.Lines.{change_line, time_line, variable_line}
use Rattle.made_input.specs.Made.{a_in, b_in, cycle_lines, cycles, header_lines, lines_before, more_registers, port_lines, register}
use Rattle.made_input.specs.Made.{stage_line, stage_lines, trace_text, whole, width, y_in, z_in}

pub ruleset pieces = (append_assoc, flat_map-append, append-nil)

-- two texts that are appended one after another, and more
pub appended2 : (old one two a b : List ℕ) → one ≡ old ++ a → two ≡ one ++ b → two ≡ old ++ (a ++ b)
appended2 old one two a b first second = second ∙ ap (λ t. t ++ b) first ∙ append_assoc old a b

pub appended3 : (old one two three a b d : List ℕ) → one ≡ old ++ a → two ≡ one ++ b → three ≡ two ++ d
    → three ≡ old ++ (a ++ (b ++ d))
appended3 old one two three a b d first second third =
    appended2 old one three a (b ++ d) first (appended2 one two three b d second third)

pub appended4 : (old one two three four a b d e : List ℕ) → one ≡ old ++ a → two ≡ one ++ b → three ≡ two ++ d → four ≡ three ++ e
    → four ≡ old ++ (a ++ (b ++ (d ++ e)))
appended4 old one two three four a b d e first second third fourth =
    appended2 old one four a (b ++ (d ++ e)) first
    (appended2 one two four b (d ++ e) second (appended2 two three four d e third fourth))

pub appended5 : (old one two three four five a b d e f : List ℕ) → one ≡ old ++ a → two ≡ one ++ b → three ≡ two ++ d
    → four ≡ three ++ e → five ≡ four ++ f → five ≡ old ++ (a ++ (b ++ (d ++ (e ++ f))))
appended5 old one two three four five a b d e f first second third fourth fifth =
    appended2 old one five a (b ++ (d ++ (e ++ f))) first
    (appended4 one two three four five b d e f second third fourth fifth)

pub appended6 : (old one two three four five six a b d e f g : List ℕ) → one ≡ old ++ a → two ≡ one ++ b → three ≡ two ++ d
    → four ≡ three ++ e → five ≡ four ++ f → six ≡ five ++ g → six ≡ old ++ (a ++ (b ++ (d ++ (e ++ (f ++ g)))))
appended6 old one two three four five six a b d e f g first second third fourth fifth sixth =
    appended2 old one six a (b ++ (d ++ (e ++ (f ++ g)))) first
    (appended5 one two three four five six b d e f g second third fourth fifth sixth)

pub appended7 : (old one two three four five six seven a b d e f g h : List ℕ) → one ≡ old ++ a → two ≡ one ++ b
    → three ≡ two ++ d → four ≡ three ++ e → five ≡ four ++ f → six ≡ five ++ g → seven ≡ six ++ h
    → seven ≡ old ++ (a ++ (b ++ (d ++ (e ++ (f ++ (g ++ h))))))
appended7 old one two three four five six seven a b d e f g h first second third fourth fifth sixth seventh =
    appended2 old one seven a (b ++ (d ++ (e ++ (f ++ (g ++ h))))) first
    (appended6 one two three four five six seven b d e f g h second third fourth fifth sixth seventh)

-- ---- loops
-- none, and one more
pub none-appended : (old : List ℕ) → old ≡ old ++ []
none-appended old = sym (append-nil old)

pub more_registers-none : (old : List ℕ) → old ≡ old ++ more_registers 0
unfolding more_registers
more_registers-none old = none-appended old

pub more_registers-next : (count : ℕ) (old text one two : List ℕ) → text ≡ old ++ more_registers count
    → one ≡ text ++ codes ", " → two ≡ one ++ register (count + 2) → two ≡ old ++ more_registers (count + 1)
unfolding more_registers
more_registers-next count old text one two is first second =
    rw (add-one count)
    (appended2 old text two (more_registers count) (codes ", " ++ register (count + 2)) is
    (appended2 text one two (codes ", ") (register (count + 2)) first second))

pub stage_lines-none : (n : ℕ) (old : List ℕ) → old ≡ old ++ stage_lines n 0
unfolding stage_lines
stage_lines-none n old = none-appended old

pub stage_lines-next : (n count : ℕ) (old text new : List ℕ) → text ≡ old ++ stage_lines n count
    → new ≡ text ++ stage_line n (count + 2) → new ≡ old ++ stage_lines n (count + 1)
unfolding stage_lines
stage_lines-next n count old text new is one =
    rw (add-one count) (appended2 old text new (stage_lines n count) (stage_line n (count + 2)) is one)

pub lines_before-none : (n : ℕ) (old : List ℕ) → old ≡ old ++ text_of (lines_before n 0)
unfolding lines_before
lines_before-none n old = none-appended old

pub lines_before-next : (n t : ℕ) (old text new : List ℕ) → text ≡ old ++ text_of (lines_before n t)
    → new ≡ text ++ text_of (cycle_lines n t) → new ≡ old ++ text_of (lines_before n (t + 1))
unfolding lines_before
lines_before-next n t old text new is one =
    rw (add-one t)
    (appended2 old text new (text_of (lines_before n t)) (text_of (cycle_lines n t)) is one
    ∙ ap (λ l. old ++ l) (sym (flat_map-append line_text (lines_before n t) (cycle_lines n t))))

pub ruleset register_steps = (more_registers-none, more_registers-next)

pub ruleset stage_steps = (stage_lines-none, stage_lines-next)

pub ruleset cycle_steps = (lines_before-none, lines_before-next)

-- ---- the trace's text
pub header_text : (n : ℕ) → text_of (header_lines n)
    ≡ codes "$timescale 1ns $end\n$scope module made $end\n"
    ++ (line_text (variable_line 0 1 (codes "clk")) ++ (line_text (variable_line 1 (width n) (codes "a"))
    ++ (line_text (variable_line 2 (width n) (codes "b")) ++ (line_text (variable_line 3 (width n) (codes "y"))
    ++ (line_text (variable_line 4 (width n) (codes "z")) ++ codes "$upscope $end\n$enddefinitions $end\n")))))
header_text n = refl

pub whole_text : (n count : ℕ) (empty one two : List ℕ) → empty ≡ [] → one ≡ empty ++ text_of (header_lines n)
    → two ≡ one ++ text_of (lines_before n count) → count ≡ cycles n → two ≡ trace_text n
whole_text n count empty one two none first second is =
    appended2 empty one two (text_of (header_lines n)) (text_of (lines_before n count)) first second
    ∙ ap (λ t. t ++ (text_of (header_lines n) ++ text_of (lines_before n count))) none
    ∙ ap (λ k. text_of (header_lines n) ++ text_of (lines_before n k)) is
    ∙ sym (flat_map-append line_text (header_lines n) (lines_before n (cycles n)))

pub port_text : (n t : ℕ) → text_of (port_lines n t)
    ≡ line_text (change_line 1 (whole (width n) (a_in n t))) ++ (line_text (change_line 2 (whole (width n) (b_in n t)))
    ++ (line_text (change_line 3 (whole (width n) (y_in n t))) ++ line_text (change_line 4 (whole (width n) (z_in n t)))))
port_text n t =
    ap (λ l. line_text (change_line 1 (whole (width n) (a_in n t))) ++ (line_text (change_line 2 (whole (width n) (b_in n t)))
    ++ (line_text (change_line 3 (whole (width n) (y_in n t))) ++ l)))
    (append-nil (line_text (change_line 4 (whole (width n) (z_in n t)))))

pub cycle_text : (n t : ℕ) → text_of (cycle_lines n t)
    ≡ line_text (time_line (10 * t)) ++ (codes "0!\n" ++ (text_of (port_lines n t)
    ++ (line_text (time_line (10 * t + 5)) ++ codes "1!\n")))
unfolding code_from digits_of
cycle_text n t =
    ap (λ l. line_text (time_line (10 * t)) ++ (codes "0!\n" ++ l))
    (flat_map-append line_text (port_lines n t) (time_line (10 * t + 5) ∷ change_line 0 (whole 1 1) ∷ []))
