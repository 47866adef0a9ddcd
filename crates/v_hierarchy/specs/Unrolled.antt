-- Statements whose loops are unrolled (IEEE 1364-2005, 9.6): at each turn the variable is a constant.
use Rattle.std.specs.Prelude.{⊤, ℕ, zero, suc, ◌==◌, Bool, true, false, not, if◌then◌else◌, pos, List, [], ◌∷◌, Some, None, Result, Ok, Err}
use Rattle.loc_base.specs.Bits.{value_of}
use Rattle.loc_base.specs.declared.span.Span.{Span}
use Rattle.v_syntax.specs.declared.declaration.Identifier.{Identifier}
use Rattle.v_syntax.specs.declared.statement.CaseKind.{CaseKind}
use Rattle.v_syntax.specs.Tree.{Tree}
use Rattle.v_syntax.specs.StatementTree.{PlainHead, PlainStatement, empty, block, delayed, if_then, if_else, choice, loop, assignment, Statements, no_statement, statement, labelled, otherwise, CaseItems, no_item, item}
use Rattle.v_sizes.specs.declared.meaning.Const.{Const}
use Rattle.v_hierarchy.specs.declared.error.ElabErr.{ElabErr}
use Rattle.v_hierarchy.specs.declared.error.ElabErr.TheVariants as fault
use Rattle.v_hierarchy.specs.declared.left.Left.{Left}
use Rattle.v_hierarchy.specs.Steps.{◌>>=◌, turned}
use Rattle.v_hierarchy.specs.Constants.{constant_at, assigned, bounds}
use Rattle.v_hierarchy.specs.Names.{Entry, constant, integer, same_name, find_in, look_in}

-- ---- heads of loops, those of generates too
-- a value of a loop's variable, which is of 32 bits and signed
abbrev pub counted : Const → Const
counted c = assigned 32 true c

abbrev pub counted_at : List (List Entry) → Tree → Result Const ElabErr
counted_at frames e = constant_at (look_in frames) 32 e >>= λ c. Ok (counted c)

-- the scopes at a turn: the variable hides what has its name
abbrev pub at_turn : Identifier → Const → List (List Entry) → List (List Entry)
at_turn variable value frames = (record { name = variable; standing = constant value (bounds (pos 31) (pos 0)) } ∷ []) ∷ frames

abbrev pub is_true : Const → Bool
is_true c = not (value_of c.bits == 0)

-- a condition is true where it isn't 0
abbrev pub holds_at : List (List Entry) → Tree → Result Bool ElabErr
holds_at frames e = constant_at (look_in frames) 0 e >>= λ c. Ok (is_true c)

-- the head's step is of its variable
abbrev pub steps_itself : PlainHead → Result ⊤ ElabErr
steps_itself head = if same_name head.variable.name head.next.name then Ok tt else Err (fault.NotConstant head.next.site.span)

-- the value with which a loop begins, and whether it begins
abbrev pub begun : List (List Entry) → PlainHead → Result (Const × Bool) ElabErr
begun frames head =
    counted_at frames head.start >>= λ first. holds_at (at_turn head.variable first frames) head.condition >>= λ runs.
    steps_itself head >>= λ _. Ok (first, runs)

-- the value of the next turn, and whether there is one
abbrev pub stepped : List (List Entry) → PlainHead → Const → Result (Const × Bool) ElabErr
stepped frames head value =
    counted_at (at_turn head.variable value frames) head.step >>= λ next. holds_at (at_turn head.variable next frames) head.condition >>= λ runs.
    Ok (next, runs)

-- the turns from a value on, where there is one: what is met at each, and how the next one is found. No loop has more turns than
-- a design may have
abbrev pub turns : {S : Type 0} → ℕ → Span → (S → Result S ElabErr) → (Const → S → Result S ElabErr) → (Const → Result (Const × Bool) ElabErr) → Const × Bool → S → Result S ElabErr
turns most span count body next (value, false) met = Ok met
turns zero span count body next (value, true) met = Err (fault.Turns span)
turns (suc most) span count body next (value, true) met =
    count met >>= λ counted. body value counted >>= λ more. next value >>= λ following. turns most span count body next following more

abbrev pub most_turns : ℕ
most_turns = 65536

-- ---- statements
mutual
  pub data Steps : Type 0 where
    nothing : Steps
    -- an assignment, as it is written
    still : PlainStatement → Steps
    run : StepList → Steps
    branch : Tree → Steps → Steps → Steps
    choose : CaseKind → Tree → Arms → Steps
    repeated : Identifier → Turns → Steps

  pub data StepList : Type 0 where
    no_step : StepList
    step : Steps → StepList → StepList

  -- the arms of a case: with their labels, or the default one
  pub data Arms : Type 0 where
    no_arm : Arms
    arm : List Tree → Steps → Arms → Arms
    default_arm : Steps → Arms → Arms

  -- the turns of a loop, each with its variable's value
  pub data Turns : Type 0 where
    no_turn : Turns
    turn : Const → Steps → Turns → Turns

-- one turn more, at the end
abbrev pub and_turn : Turns → Const → Steps → Turns
and_turn no_turn value body = turn value body no_turn
and_turn (turn v b rest) value body = turn v b (and_turn rest value body)

-- what is met of a loop
pub record Looped : Type 0 where
  pub met : Turns
  pub left : Left

-- a loop's variable is declared an integer, and isn't that of a loop around it
abbrev pub loop_variable : List (List Entry) → Identifier → Result ⊤ ElabErr
loop_variable frames name = elim (find_in frames name.name) [
  | None ↦ Err (fault.UnknownName name.site.span)
  | Some integer ↦ Ok tt
  | Some _ ↦ Err (fault.NotConstant name.site.span)
]

abbrev pub loop_turned : Span → Looped → Result Looped ElabErr
loop_turned span x = turned span x.left >>= λ left. Ok (record { met = x.met; left = left })

-- a turn of a loop, where a body is unrolled so in its scopes
abbrev pub loop_turn : (List (List Entry) → Left → Result (Steps × Left) ElabErr) → List (List Entry) → Identifier → Const → Looped → Result Looped ElabErr
loop_turn body frames variable value x =
    body (at_turn variable value frames) x.left >>= λ y. Ok (record { met = and_turn x.met value y.0; left = y.1 })

abbrev mutual
  pub unrolled : List (List Entry) → PlainStatement → Left → Result (Steps × Left) ElabErr
  unrolled frames (empty _) left = Ok (nothing, left)
  unrolled frames (block _ _ body) left = unrolled_all frames body left >>= λ x. Ok (run x.0, x.1)
  unrolled frames (delayed _ _ body) left = unrolled frames body left
  unrolled frames (if_then _ condition on_true) left = unrolled frames on_true left >>= λ x. Ok (branch condition x.0 nothing, x.1)
  unrolled frames (if_else _ condition on_true other) left =
      unrolled frames on_true left >>= λ x. unrolled frames other x.1 >>= λ y. Ok (branch condition x.0 y.0, y.1)
  unrolled frames (choice _ kind subject items) left = unrolled_arms frames items left >>= λ x. Ok (choose kind subject x.0, x.1)
  unrolled frames (loop s head body) left =
      loop_variable frames head.variable >>= λ _. begun frames head >>= λ first.
      turns most_turns s.span (loop_turned s.span) (loop_turn (λ scopes. unrolled scopes body) frames head.variable) (stepped frames head) first (record { met = no_turn; left = left }) >>= λ x.
      Ok (repeated head.variable x.met, x.left)
  unrolled frames (assignment s target kind delay value) left = Ok (still (assignment s target kind delay value), left)

  pub unrolled_all : List (List Entry) → Statements → Left → Result (StepList × Left) ElabErr
  unrolled_all frames no_statement left = Ok (no_step, left)
  unrolled_all frames (statement x xs) left = unrolled frames x left >>= λ y. unrolled_all frames xs y.1 >>= λ ys. Ok (step y.0 ys.0, ys.1)

  pub unrolled_arms : List (List Entry) → CaseItems → Left → Result (Arms × Left) ElabErr
  unrolled_arms frames no_item left = Ok (no_arm, left)
  unrolled_arms frames (item (labelled _ labels body) rest) left =
      unrolled frames body left >>= λ x. unrolled_arms frames rest x.1 >>= λ xs. Ok (arm labels x.0 xs.0, xs.1)
  unrolled_arms frames (item (otherwise _ body) rest) left =
      unrolled frames body left >>= λ x. unrolled_arms frames rest x.1 >>= λ xs. Ok (default_arm x.0 xs.0, xs.1)
