-- The made input of a number: the text of a design, which is a chain of registers with one wrong stage, and the text of a trace,
-- whose outputs are those that the design has with no stage wrong.
use Rattle.std.specs.Prelude.{ℕ, zero, suc, ◌+◌, ◌-◌, ◌*◌, ◌%◌, ◌^◌, ◌==◌, if◌then◌else◌, bit_xor, List, [], ◌∷◌, ◌++◌, codes, decimal}
use Rattle.vcd_words.specs.Lines.{text_of}
use Rattle.vcd_waves.specs.Lines.{Line, Shown, change_line, end_line, scope_line, time_line, timescale_line, upscope_line}
use Rattle.vcd_waves.specs.Lines.{variable_line}

-- ---- the numbers
-- the number of stages
abbrev pub stages : ℕ → ℕ
stages n = 3 + n % 30

-- the number of bits of each value
abbrev pub width : ℕ → ℕ
width n = 8 + n % 25

-- the stage that is wrong, counted from 1: it subtracts where it should add
abbrev pub wrong_stage : ℕ → ℕ
wrong_stage n = 2 + n % (stages n - 1)

-- the number of cycles of the trace
abbrev pub cycles : ℕ → ℕ
cycles n = stages n + 4

-- the number that a stage adds
abbrev pub constant : ℕ → ℕ
constant stage = 2 * stage + 1

-- ---- the design's text
-- `[W-1:0]`
abbrev pub range_text : ℕ → List ℕ
range_text n = codes "[" ++ (decimal (width n - 1) ++ codes ":0]")

-- `r1`, and on: the register of a stage
abbrev pub register : ℕ → List ℕ
register stage = codes "r" ++ decimal stage

-- `, r2, r3` and on: so many registers behind the first
unfoldable pub more_registers : ℕ → List ℕ
more_registers zero = []
more_registers (suc count) = more_registers count ++ (codes ", " ++ register (count + 2))

-- the sign of a stage
abbrev pub sign : ℕ → ℕ → List ℕ
sign n stage = if stage == wrong_stage n then codes " - " else codes " + "

-- `W'dK`: what a stage adds
abbrev pub constant_text : ℕ → ℕ → List ℕ
constant_text n stage = decimal (width n) ++ (codes "'d" ++ decimal (constant stage))

-- `rI <= rJ + W'dK;`, J being I - 1
abbrev pub stage_line : ℕ → ℕ → List ℕ
stage_line n stage =
    register stage ++ (codes " <= " ++ (register (stage - 1) ++ (sign n stage ++ (constant_text n stage ++ codes ";\n"))))

-- so many stages behind the first
unfoldable pub stage_lines : ℕ → ℕ → List ℕ
stage_lines n zero = []
stage_lines n (suc count) = stage_lines n count ++ stage_line n (count + 2)

-- the module's head
abbrev pub ports_text : ℕ → List ℕ
ports_text n =
    codes "module made(clk, a, b, y, z);\ninput clk;\ninput "
    ++ (range_text n ++ (codes " a, b;\noutput " ++ (range_text n ++ codes " y, z;\n")))

-- its registers
abbrev pub registers_text : ℕ → List ℕ
registers_text n = codes "reg " ++ (range_text n ++ (codes " r1" ++ (more_registers (stages n - 1) ++ codes ";\n")))

-- its assignments
abbrev pub outputs_text : ℕ → List ℕ
outputs_text n = codes "assign z = a ^ b;\nassign y = " ++ (register (stages n) ++ codes ";\n")

-- its block of the clock
abbrev pub block_text : ℕ → List ℕ
block_text n = codes "always @(posedge clk) begin\nr1 <= a + b;\n" ++ (stage_lines n (stages n - 1) ++ codes "end\nendmodule\n")

abbrev pub design_text : ℕ → List ℕ
design_text n = ports_text n ++ (registers_text n ++ (outputs_text n ++ block_text n))

-- ---- the values of the inputs
-- numbers that a linear congruential generator draws, the first being the number of the input
unfoldable pub drawn : ℕ → ℕ → ℕ
drawn n zero = n
drawn n (suc count) = (1103515245 * drawn n count + 12345) % 2 ^ 31

-- `a` and `b` in a cycle
abbrev pub a_in : ℕ → ℕ → ℕ
a_in n t = drawn n (2 * t + 1) % 2 ^ width n

abbrev pub b_in : ℕ → ℕ → ℕ
b_in n t = drawn n (2 * t + 2) % 2 ^ width n

-- ---- the values of the outputs, were no stage wrong
-- what the register of a stage holds in a cycle: 0 at first, then what the stage made of the cycle before
unfoldable pub held : ℕ → ℕ → ℕ → ℕ
held n zero stage = 0
held n (suc t) stage =
    if stage == 1 then (a_in n t + b_in n t) % 2 ^ width n else (held n t (stage - 1) + constant stage) % 2 ^ width n

-- `y` and `z` in a cycle
abbrev pub y_in : ℕ → ℕ → ℕ
y_in n t = held n t (stages n)

abbrev pub z_in : ℕ → ℕ → ℕ
z_in n t = bit_xor (a_in n t) (b_in n t)

-- ---- the trace's text: a wave of the ports, all of whose bits are known (IEEE 1364-2005, 18.2)
abbrev pub header_lines : ℕ → List Line
header_lines n =
    timescale_line ∷ scope_line (codes "made")
    ∷ variable_line 0 1 (codes "clk")
    ∷ variable_line 1 (width n) (codes "a")
    ∷ variable_line 2 (width n) (codes "b")
    ∷ variable_line 3 (width n) (codes "y")
    ∷ variable_line 4 (width n) (codes "z")
    ∷ upscope_line ∷ end_line ∷ []

-- a value of so many bits
abbrev pub whole : ℕ → ℕ → Shown
whole bits value = record { width = bits; value = value; mask = 2 ^ 128 - 1 }

-- the changes of the ports but the clock
abbrev pub port_lines : ℕ → ℕ → List Line
port_lines n t =
    change_line 1 (whole (width n) (a_in n t))
    ∷ change_line 2 (whole (width n) (b_in n t))
    ∷ change_line 3 (whole (width n) (y_in n t))
    ∷ change_line 4 (whole (width n) (z_in n t)) ∷ []

-- a cycle: the clock is 0 and the ports have their values, then the clock rises
abbrev pub cycle_lines : ℕ → ℕ → List Line
cycle_lines n t =
    time_line (10 * t) ∷ change_line 0 (whole 1 0)
    ∷ (port_lines n t ++ (time_line (10 * t + 5) ∷ change_line 0 (whole 1 1) ∷ []))

-- the cycles before one
unfoldable pub lines_before : ℕ → ℕ → List Line
lines_before n zero = []
lines_before n (suc t) = lines_before n t ++ cycle_lines n t

abbrev pub trace_text : ℕ → List ℕ
trace_text n = text_of (header_lines n ++ lines_before n (cycles n))

-- ---- what is printed of it
-- `made N stages S width W cycles C`
abbrev pub made_line : ℕ → List ℕ
made_line n =
    codes "made "
    ++ (decimal n
    ++ (codes " stages "
    ++ (decimal (stages n) ++ (codes " width " ++ (decimal (width n) ++ (codes " cycles " ++ (decimal (cycles n) ++ codes "\n")))))))
