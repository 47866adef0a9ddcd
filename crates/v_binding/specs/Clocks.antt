-- The clock and resets (IEEE 1364.1-2002, 5.2.2): one clock for the whole design, an input of the top, handed on by plain names
-- alone; a reset is another input of the top. The rule of the clock is this project's own.
use Rattle.std.specs.Prelude.{ℕ, ◌==◌, Bool, true, false, not, ◌&&◌, if◌then◌else◌, List, [], ◌∷◌, Option, Some, None, Ok, Err}
use Rattle.std.specs.Option.{option_map_or, option_and_then}
use Rattle.std.specs.List.{list_any}
use Rattle.loc_base.specs.Bits.{value_of}
use Rattle.v_syntax.specs.declared.statement.Edge.{Edge}
use Rattle.v_syntax.specs.declared.statement.Edge.TheVariants as edge
use Rattle.v_syntax.specs.declared.operator.Unary.TheVariants as unary_word
use Rattle.v_syntax.specs.declared.operator.Binary.TheVariants as binary_word
use Rattle.v_syntax.specs.Tree.{Tree, no_select}
use Rattle.v_syntax.specs.Tree as written
use Rattle.v_syntax.specs.ItemTree.{PlainEvent, edge_event, change_event}
use Rattle.design_core.specs.declared.expression.Node.{Node}
use Rattle.design_core.specs.declared.expression.Node.TheVariants as node
use Rattle.design_core.specs.declared.driver.Driver.{Driver}
use Rattle.design_core.specs.declared.driver.Clocked.{Clocked}
use Rattle.design_core.specs.declared.signal.Signal.{Signal}
use Rattle.design_core.specs.declared.statement.Stmt.{Stmt, Row_of-Stmt, end_of-Stmt, more_of-Stmt}
use Rattle.design_core.specs.declared.statement.Stmt.TheVariants as stmt
use Rattle.design_core.specs.Mentions.{driver_mentions, statement_mentions}
use Rattle.design_core.specs.WellFormed.{is_reset_values}
use Rattle.v_sizes.specs.declared.meaning.Meaning.TheVariants as meaning
use Rattle.v_hierarchy.specs.Names.{same_name}
use Rattle.v_hierarchy.specs.Unrolled.{Steps, run, branch, no_step, step}
use Rattle.v_binding.specs.declared.known.Use.{Use}
use Rattle.v_binding.specs.declared.known.Use.TheVariants.{Stands as stands}
use Rattle.v_binding.specs.Names.{Names, find}
use Rattle.v_binding.specs.Expressions.{by_itself}
use Rattle.v_binding.specs.Bound.{Root}

-- ---- which input of the top a signal is, or is connected to by plain names
abbrev pub root_of : List Root → ℕ → Option ℕ
root_of [] s = None
root_of (r ∷ rs) s = if r.signal == s then Some r.input else root_of rs s

-- the signal of a name
abbrev pub signal_of : Option Use → Option ℕ
signal_of (Some (stands (meaning.Signal s _ _ _ _))) = Some s
signal_of _ = None

abbrev pub root_named : List Root → Names → List ℕ → Option ℕ
root_named roots names text = option_and_then (root_of roots) (signal_of (find names text))

abbrev pub is_number : ℕ → Option ℕ → Bool
is_number n m = option_map_or (λ k. k == n) m false

-- whether an input of the top is the clock
abbrev pub is_clock : Option ℕ → ℕ → Bool
is_clock clock input = is_number input clock

-- the signals that carry the clock
abbrev pub carries : Option ℕ → Root → Bool
carries clock r = is_clock clock r.input

-- ---- what reads the clock
abbrev pub driver_reads_clock : List Signal → Option ℕ → List Root → Driver → Bool
driver_reads_clock signals clock roots d = list_any (λ r. carries clock r && driver_mentions signals r.signal 0 d) roots

abbrev pub block_reads_clock : List Signal → Option ℕ → List Root → Stmt → Bool
block_reads_clock signals clock roots s = list_any (λ r. carries clock r && statement_mentions signals r.signal 0 s) roots

-- ---- edges
abbrev pub is_rising : Edge → Bool
is_rising edge.Posedge = true
is_rising edge.Negedge = false

-- an edge of an input of the top, by the name that it has there
pub record Waited : Type 0 where
  pub rising : Bool
  pub text : List ℕ
  pub root : Option ℕ

abbrev pub waited : List Root → Names → PlainEvent → List Waited → List Waited
waited roots names (edge_event _ e text) rest = record { rising = is_rising e; text = text; root = root_named roots names text } ∷ rest
waited roots names (change_event _ _ _) rest = rest

abbrev pub edges : List Root → Names → List PlainEvent → List Waited
edges roots names [] = []
edges roots names (e ∷ es) = waited roots names e (edges roots names es)

-- the rising edge of the clock
abbrev pub is_clock_edge : Option ℕ → Waited → Bool
is_clock_edge clock w = w.rising && option_map_or (is_clock clock) w.root false

-- an edge of another input
pub record Resetting : Type 0 where
  pub input : ℕ
  pub level : Bool
  pub text : List ℕ

abbrev pub resetting : Option ℕ → Waited → Option Resetting
resetting clock w = elim w.root [
  | Some input ↦ if is_clock clock input then None else Some (record { input = input; level = w.rising; text = w.text })
  | None ↦ None
]

-- what a block waits for
pub data Wait : Type 0 where
  by_clock : Wait
  by_clock_and : Resetting → Wait
  by_others : Wait

abbrev pub wait_with : Option Resetting → Wait
wait_with (Some r) = by_clock_and r
wait_with None = by_others

abbrev pub wait_for : Option ℕ → List Waited → Wait
wait_for clock (w ∷ []) = if is_clock_edge clock w then by_clock else by_others
wait_for clock (one ∷ other ∷ []) =
    if is_clock_edge clock one then wait_with (resetting clock other)
    else if is_clock_edge clock other then wait_with (resetting clock one)
    else by_others
wait_for clock _ = by_others

-- ---- the form of a block with a reset: if (C) A else B, alone or as the one statement of a block
abbrev pub is_name : List ℕ → Tree → Bool
is_name text (written.name _ name no_select) = same_name name text
is_name text _ = false

-- a constant of that value; what is refused by itself is none
abbrev pub is_word_of : ℕ → Node → Bool
is_word_of n (node.Const word) = value_of word == n
is_word_of n _ = false

abbrev pub is_constant_of : Names → ℕ → Tree → Bool
is_constant_of names n e = elim (by_itself names e) [
  | Ok x ↦ is_word_of n x.node
  | Err e ↦ false
]

-- whether a condition is that a reset is active: r, or r == 1; of a falling edge !r, ~r, or r == 0
abbrev pub is_active : Names → Resetting → Tree → Bool
is_active names r (written.name s name selects) = r.level && is_name r.text (written.name s name selects)
is_active names r (written.unary _ unary_word.Not e) = not r.level && is_name r.text e
is_active names r (written.unary _ unary_word.Complement e) = not r.level && is_name r.text e
is_active names r (written.binary _ binary_word.Equal left right) = is_name r.text left && is_constant_of names (if r.level then 1 else 0) right
is_active names r _ = false

abbrev pub condition_of : Steps → Option Tree
condition_of (branch condition _ _) = Some condition
condition_of (run (step (branch condition _ _) no_step)) = Some condition
condition_of _ = None

-- what the two arms have become
pub record Arms : Type 0 where
  pub values : Stmt
  pub body : Stmt

abbrev pub arms_here : Stmt → Option Arms
arms_here (stmt.If' _ _ (more_of-Stmt on_true end_of-Stmt) _ (more_of-Stmt on_false end_of-Stmt)) = Some (record { values = on_true; body = on_false })
arms_here _ = None

abbrev pub arms_alone : {shape : _} → Row_of-Stmt shape → Option Arms
arms_alone (more_of-Stmt s end_of-Stmt) = arms_here s
arms_alone _ = None

abbrev pub arms_of : Stmt → Option Arms
arms_of (stmt.Block' _ statements) = arms_alone statements
arms_of s = arms_here s

-- the arms of a block with a reset, where it is of the form
abbrev pub reset_arms : Names → Resetting → Steps → Stmt → Option Arms
reset_arms names r steps s =
    if option_map_or (is_active names r) (condition_of steps) false
    then option_and_then (λ arms. if is_reset_values arms.values then Some arms else None) (arms_of s)
    else None

-- ---- a clocked block; one that breaks the rule has its body as it stands
abbrev pub with_reset : Resetting → Arms → Clocked
with_reset r arms = record { reset = Some (record { signal = r.input; level = r.level; values = arms.values }); body = arms.body }

abbrev pub without_reset : Stmt → Clocked
without_reset s = record { reset = None; body = s }

-- the block, and whether it breaks the rule
abbrev pub clocked_of : Names → Wait → Steps → Stmt → Clocked × Bool
clocked_of names by_clock steps s = (without_reset s, false)
clocked_of names by_others steps s = (without_reset s, true)
clocked_of names (by_clock_and r) steps s = elim (reset_arms names r steps s) [
  | Some arms ↦ (with_reset r arms, false)
  | None ↦ (without_reset s, true)
]
