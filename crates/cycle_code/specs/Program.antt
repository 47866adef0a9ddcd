-- A list of instructions and what they name by number, as contracts see it.
use Rattle.std.specs.Prelude.{ℕ, ◌≡◌, Bool, false, List, [], ◌∷◌, ◌++◌, length, map, slice_get, Some}
use Rattle.loc_base.specs.Bits.{width_of, value_of}
use Rattle.design_core.specs.declared.signal.Signal.{Signal}
use Rattle.design_core.specs.declared.expression.Typed.{Typed}
use Rattle.design_core.specs.declared.statement.Part.{Part}
use Rattle.design_core.specs.declared.design.Design.{Design}
use Rattle.cycle_code.specs.declared.instruction.Instruction.{Instruction}
use Rattle.cycle_code.specs.declared.code.Code.{Code}

-- the design; for each cell its width, the number that it holds before the first run, and whether it is a constant; the
-- instructions, and the expressions and the left sides that they name
pub record Program : Type 0 where
  pub design : Design
  pub widths : List ℕ
  pub values : List ℕ
  pub fixed : List Bool
  pub instructions : List Instruction
  pub trees : List Typed
  pub targets : List (List Part)

-- the program that a code is
abbrev pub program_of : Code → Program
program_of code = record {
  design = code.design.now;
  widths = map width_of code.cells.items;
  values = map value_of code.cells.items;
  fixed = code.fixed.items;
  instructions = code.instructions.items;
  trees = map (λ tree. tree.now) code.trees.items;
  targets = map (λ target. target.now.parts) code.targets.items;
}

-- the signals of its design
abbrev pub signals_of : Program → List Signal
signals_of p = p.design.signals.items

-- the number of its signals
abbrev pub count_of : Program → ℕ
count_of p = length p.design.signals.items

-- a list has all that another one has, at the same numbers
abbrev pub Grows : {X : Type 0} → List X → List X → Type 0
Grows {X} old new = (i : ℕ) (x : X) → slice_get old i ≡ Some x → slice_get new i ≡ Some x

-- a program has all that another one has, at the same numbers
pub record Grown (old new : Program) : Type 0 where
  pub design : new.design ≡ old.design
  pub widths : Grows old.widths new.widths
  pub values : Grows old.values new.values
  pub fixed : Grows old.fixed new.fixed
  pub instructions : Grows old.instructions new.instructions
  pub trees : Grows old.trees new.trees
  pub targets : Grows old.targets new.targets

-- one number for each signal
abbrev pub signal_widths : List Signal → List ℕ
signal_widths signals = map (λ s. s.width) signals

-- one number three times for each signal
abbrev pub three_times : {X : Type 0} → List X → List X
three_times xs = xs ++ xs ++ xs

-- no instructions, and the cells of the signals
abbrev pub empty_of : Design → Program
empty_of d = record {
  design = d;
  widths = three_times (map (λ s. s.width) d.signals.items);
  values = three_times (map (λ s. 0) d.signals.items);
  fixed = three_times (map (λ s. false) d.signals.items);
  instructions = [];
  trees = [];
  targets = [];
}

-- one more cell: whether it is a constant, its width, and the number that it holds before the first run
abbrev pub with_cell : Bool → ℕ → ℕ → Program → Program
with_cell fixed width value p = record p { widths = p.widths ++ width ∷ []; values = p.values ++ value ∷ []; fixed = p.fixed ++ fixed ∷ [] }

-- one more instruction
abbrev pub with_instruction : Instruction → Program → Program
with_instruction instruction p = record p { instructions = p.instructions ++ instruction ∷ [] }

-- one more expression
abbrev pub with_tree : Typed → Program → Program
with_tree tree p = record p { trees = p.trees ++ tree ∷ [] }

-- one more left side
abbrev pub with_target : List Part → Program → Program
with_target parts p = record p { targets = p.targets ++ parts ∷ [] }
