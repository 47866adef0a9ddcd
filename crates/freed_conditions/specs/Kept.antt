-- How the condition of an `if` or the subject of a `case` (IEEE 1364-2005, 9.4 and 9.5) is kept in a net of its own right before
-- its statement, so that a value can be chosen for it in each cycle as for an assignment (Smith, Veneris, Ali and Viglas,
-- Fault diagnosis and logic debugging using Boolean satisfiability, IEEE TCAD 2005).
use Rattle.std.specs.Prelude.{ℕ, ◌+◌, Bool, false, List, [], ◌∷◌, length}
use Rattle.design_core.specs.declared.expression.UnaryOp.TheVariants.{ReduceOr}
use Rattle.design_core.specs.declared.expression.Typed.{Typed}
use Rattle.design_core.specs.declared.expression.Node.{Node, end_of-Typed, more_of-Typed}
use Rattle.design_core.specs.declared.expression.Node.TheVariants.{Whole, Unary', Resize'}
use Rattle.design_core.specs.declared.statement.Part.TheVariants as part
use Rattle.design_core.specs.declared.statement.Stmt.{Stmt}
use Rattle.design_core.specs.declared.statement.Stmt.TheVariants.{Set}

-- an expression of a width and a sign
abbrev pub typed : ℕ → Bool → Node → Typed
typed width signed node = record { width = width; signed = signed; node = node }

-- all bits of a signal, as an expression of its width
abbrev pub whole : ℕ → Bool → ℕ → Typed
whole width signed signal = typed width signed (Whole signal)

-- the truth value of a condition in one bit: 1 where its number is not 0 (9.4)
abbrev pub truth : Typed → Typed
truth e = typed 1 false (Unary' ReduceOr _ (more_of-Typed e.width e.signed e.node end_of-Typed))

-- what is kept of a subject: where it is an operand that is carried to the labels' width (9.5), the operand, else the subject
abbrev pub kept : ℕ → Bool → Node → Typed
kept width signed (Resize' _ (more_of-Typed arg_width arg_signed arg end_of-Typed)) = typed arg_width arg_signed arg
kept width signed node = typed width signed node

-- the subject by the signal in which it is kept: carried to the labels' width where it was
abbrev pub from_kept : ℕ → Bool → Node → ℕ → Typed
from_kept width signed (Resize' _ (more_of-Typed arg_width arg_signed arg end_of-Typed)) signal =
    typed width signed (Resize' _ (more_of-Typed arg_width arg_signed (Whole signal) end_of-Typed))
from_kept width signed node signal = whole width signed signal

-- what is kept of a subject, by its width, sign and node
abbrev pub kept_of : Typed → Typed
kept_of subject = kept subject.width subject.signed subject.node

-- a subject by the signal in which that is kept
abbrev pub subject_of : Typed → ℕ → Typed
subject_of subject signal = from_kept subject.width subject.signed subject.node signal

-- the signal and the place that the next condition takes
pub record Next : Type 0 where
  pub signal : ℕ
  pub place : ℕ

-- those behind as many conditions as there are widths
abbrev pub behind : List ℕ → Next → Next
behind widths n = record { signal = n.signal + length widths; place = n.place + length widths }

-- those behind one condition
abbrev pub behind_one : Next → Next
behind_one n = record { signal = n.signal + 1; place = n.place + 1 }

-- the assignment by `=` (9.2.1) that keeps a value in the next signal; its place is the condition's
abbrev pub keep : Next → Typed → Stmt
keep n e = Set n.place (record { parts = part.Whole n.signal ∷ [] }) e false
