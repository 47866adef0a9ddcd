-- What is told of what a set changes, as data and then as text. Traces are counted from 1, cycles from 0.
use Rattle.std.specs.Prelude.{ℕ, ◌≡◌, ◌+◌, ◌==◌, if◌then◌else◌, List, [], ◌∷◌, ◌++◌, map, length, filter_map, find, slice_get, Option, Some, None, unwrap_or, option_and_then, codes, decimal}
use Rattle.std.specs.List.{flat_map, join_by}
use Rattle.std.specs.Option.{option_map_or}
use Rattle.design_core.specs.declared.design.Design.{Design}
use Rattle.design_core.specs.declared.trace.Trace.{Trace}
use Rattle.design_core.specs.declared.values.Values.{Values}
use Rattle.design_core.specs.Explained.{is_one_of, place_width}
use Rattle.design_core.specs.Run.{Choices, IsRun, choice_at}
use Rattle.design_core.specs.Valuation.{Valuation, number, width_at}
use Rattle.design_core.specs.After.{Choice}
use Rattle.design_core.specs.Works.{Groups, suspect_has}
use Rattle.cycle_sim.specs.Replaying.{choices_from}
use Rattle.printed_text.specs.Numerals.{newline, value_text}
use Rattle.changes.specs.Execution.{Execution, computes_at, executed}
use Rattle.change_lines.specs.Operands.{named_below}

-- ---- as data
-- a signal with a value
pub record Shown : Type 0 where
  pub name : List ℕ
  pub width : ℕ
  pub value : ℕ

-- a place that takes another word in a cycle than it computes
pub record ChangeLine : Type 0 where
  pub member : ℕ
  pub line : ℕ
  pub name : List ℕ
  pub trace : ℕ
  pub cycle : ℕ
  pub width : ℕ
  pub computes : ℕ
  pub takes : ℕ
  pub operands : List Shown

-- the name of a signal
abbrev pub name_at : Design → ℕ → List ℕ
name_at d s = option_map_or (λ signal. signal.path) (slice_get d.signals.items s) []

-- a signal in a valuation
abbrev pub shown : Design → Valuation → ℕ → Shown
shown d V s =
    let width = width_at d.signals.items s in
    record { name = name_at d s; width = width; value = number width (V s) }

-- the line of a place, and the first signal that its left side names
abbrev pub line_of : Design → ℕ → ℕ
line_of d p = option_map_or (λ place. place.line) (slice_get d.places.items p) 0

abbrev pub name_of : Design → ℕ → List ℕ
name_of d p = option_map_or (λ place. name_at d place.signal) (slice_get d.places.items p) []

-- the first of some members that has a place, which is the least where they ascend
abbrev pub member_of : Groups → List ℕ → ℕ → ℕ
member_of groups members p = unwrap_or (find (suspect_has groups p) members) 0

-- what lines are told of: a design with its suspects, the members of a set, and a cycle of a trace
pub record Site : Type 0 where
  pub design : Design
  pub groups : Groups
  pub members : List ℕ
  pub trace : ℕ
  pub cycle : ℕ

-- a place that is executed so, and takes a word
abbrev pub change_line : Site → ℕ → Execution → ℕ → ChangeLine
change_line s p e takes = record {
  member = member_of s.groups s.members p;
  line = line_of s.design p;
  name = name_of s.design p;
  trace = s.trace;
  cycle = s.cycle;
  width = place_width s.design p;
  computes = computes_at s.design p e;
  takes = takes;
  operands = map (shown s.design e.now) (named_below (length s.design.signals.items) e.side);
}

-- where it takes another word than it computes
abbrev pub differing_line : Site → ℕ → ℕ → Execution → Option ChangeLine
differing_line s p takes e = if computes_at s.design p e == takes then None else Some (change_line s p e takes)

-- a place in a cycle whose values are V, by what is chosen
abbrev pub change_at : Site → Choice → Valuation → ℕ → Option ChangeLine
change_at s choice V p = option_and_then (differing_line s p (choice.chosen p)) (executed s.design choice V p)

-- some places, in their order
abbrev pub cycle_changes : Site → Choice → Valuation → List ℕ → List ChangeLine
cycle_changes s choice V places = filter_map (change_at s choice V) places

-- a set that lines are told of: a design with its suspects, the set's members, and its values
pub record Told : Type 0 where
  pub design : Design
  pub groups : Groups
  pub members : List ℕ
  pub values : Values

abbrev pub site_of : Told → ℕ → ℕ → Site
site_of s trace t = record { design = s.design; groups = s.groups; members = s.members; trace = trace; cycle = t }

-- the values as choices: of the trace whose rows begin at one
abbrev pub chosen_in : Told → ℕ → ℕ → Choice
chosen_in s first t = choice_at (is_one_of s.values.places.items) (choices_from s.values first) t

-- the cycles of a run from one on
abbrev pub run_changes : Told → ℕ → ℕ → ℕ → List Valuation → List ChangeLine
run_changes s trace first t [] = []
run_changes s trace first t (V ∷ run) =
    cycle_changes (site_of s trace t) (chosen_in s first t) V s.values.places.items ++ run_changes s trace first (t + 1) run

-- the lines of traces, which are counted from a number on, and whose rows begin at one: of each those of its run
abbrev pub AreChangeLines : Told → ℕ → ℕ → List Trace → List ChangeLine → Type 0
AreChangeLines s number first [] lines = lines ≡ []
AreChangeLines s number first (trace ∷ traces) lines =
    (run : List Valuation) × (later : List ChangeLine)
    × IsRun s.design trace (is_one_of s.values.places.items) (choices_from s.values first) run
    × AreChangeLines s (number + 1) (first + trace.cycles) traces later
    × (lines ≡ run_changes s number first 0 run ++ later)

-- ---- as text
-- ` NAME=HEX`
abbrev pub shown_text : Shown → List ℕ
shown_text s = codes " " ++ s.name ++ codes "=" ++ value_text s.width s.value

-- `; NAME=HEX ..`, and nothing where there are none
abbrev pub operands_text : List Shown → List ℕ
operands_text [] = []
operands_text (first ∷ more) = codes ";" ++ (shown_text first ++ flat_map shown_text more)

-- `  MEMBER line LINE NAME`
abbrev pub place_text : ℕ → ℕ → List ℕ → List ℕ
place_text member line name = codes "  " ++ decimal member ++ codes " line " ++ decimal line ++ codes " " ++ name

-- ` trace TRACE cycle CYCLE`
abbrev pub cycle_text : ℕ → ℕ → List ℕ
cycle_text trace cycle = codes " trace " ++ decimal trace ++ codes " cycle " ++ decimal cycle

-- `: computes HEX, takes HEX`
abbrev pub words_text : ℕ → ℕ → ℕ → List ℕ
words_text width computes takes = codes ": computes " ++ value_text width computes ++ codes ", takes " ++ value_text width takes

-- `  MEMBER line LINE NAME trace TRACE cycle CYCLE: computes HEX, takes HEX; NAME=HEX ..`
abbrev pub change_text : ChangeLine → List ℕ
change_text c =
    place_text c.member c.line c.name ++ cycle_text c.trace c.cycle ++ words_text c.width c.computes c.takes ++ operands_text c.operands ++ newline

-- `set {1,2} COUNT`
abbrev pub head_text : List ℕ → ℕ → List ℕ
head_text members count = codes "set {" ++ join_by decimal (codes ",") members ++ codes "} " ++ decimal count ++ newline

-- the head, and the lines
abbrev pub set_text : List ℕ → List ChangeLine → List ℕ
set_text members lines = head_text members (length lines) ++ flat_map change_text lines
