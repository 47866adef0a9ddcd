-- The parts of a loop as private contracts cite them: one turn, the turns, the whole.
use Rattle.std.specs.Prelude.{Bool, List, Result, Ok}
use Rattle.loc_base.specs.declared.span.Span.{Span}
use Rattle.v_syntax.specs.StatementTree.{PlainHead, PlainStatement, PlainCaseItem, labelled, otherwise}
use Rattle.v_sizes.specs.declared.meaning.Const.{Const}
use Rattle.v_hierarchy.specs.declared.error.ElabErr.{ElabErr}
use Rattle.v_hierarchy.specs.declared.left.Left.{Left}
use Rattle.v_hierarchy.specs.Steps.{◌>>=◌, turned}
use Rattle.v_hierarchy.specs.Names.{Entry}
use Rattle.v_hierarchy.specs.Unrolled.{Steps, repeated, no_turn, Looped, at_turn, loop_variable, loop_turned, loop_turn, begun, stepped, turns, most_turns, unrolled}
use Rattle.v_hierarchy.specs.Views.{PlainArm, PlainTurn}
use Rattle.v_hierarchy.specs.Views as view

-- an arm of a case
abbrev pub loop_arm : List (List Entry) → PlainCaseItem → Left → Result (PlainArm × Left) ElabErr
loop_arm frames (labelled _ labels body) left = unrolled frames body left >>= λ x. Ok (view.labelled labels x.0, x.1)
loop_arm frames (otherwise _ body) left = unrolled frames body left >>= λ x. Ok (view.otherwise x.0, x.1)

-- a turn, which is counted
abbrev pub one_turn : List (List Entry) → Span → PlainHead → PlainStatement → Const → Left → Result (PlainTurn × Left) ElabErr
one_turn frames span head body value left =
    turned span left >>= λ counted. unrolled (at_turn head.variable value frames) body counted >>= λ x. Ok (record { value = value; body = x.0 }, x.1)

-- all turns
abbrev pub loop_turns : List (List Entry) → Span → PlainHead → PlainStatement → Const × Bool → Left → Result Looped ElabErr
loop_turns frames span head body first left =
    turns most_turns span (loop_turned span) (loop_turn (λ scopes. unrolled scopes body) frames head.variable) (stepped frames head) first (record { met = no_turn; left = left })

-- the whole
abbrev pub loop_unrolled : List (List Entry) → Span → PlainHead → PlainStatement → Left → Result (Steps × Left) ElabErr
loop_unrolled frames span head body left =
    loop_variable frames head.variable >>= λ _. begun frames head >>= λ first. loop_turns frames span head body first left >>= λ x.
    Ok (repeated head.variable x.met, x.left)
