-- What directives do, row by row.
use Rattle.std.proofs.Common.{◌≡◌, ℕ, ◌+◌, ◌≤◌, Bool, true, false, cond, List, [], ◌∷◌, refl, arith}
use Rattle.std.specs.FinMap as map
use Rattle.loc_base.specs.declared.span.Span.{Span}
use Rattle.v_lexer.specs.declared.types.refusal.LexErr.TheVariants.{Directive}
use Rattle.v_lexer.specs.declared.conditionals.Arm.TheVariants.{Taken, Waiting}
use Rattle.v_lexer.specs.declared.position.Position.{Position}
use Rattle.v_lexer.specs.declared.position.Position.TheVariants.{Text, Macro}
use Rattle.v_lexer.specs.declared.state.State.{State}
use Rattle.v_lexer.specs.Acts.{goes, stops, opens, opens_if, undefines, is_some_name}
use Rattle.v_lexer.specs.Outcomes.{IsWithin, HasSpan}

pub span_word : (place : Position) (size word : ℕ) → 1 + word ≤ size → IsWithin place size → HasSpan place (1 + word)
span_word (Text from line fresh) size word fits within = omega (arith, within.0)
span_word (Macro span line) size word fits within = tt

pub ruleset span_rows = (span_word)

pub opens_if_named : (s : State) (span : Span) (name : List ℕ) (holds : Bool) → is_some_name name ≡ true
    → opens_if s span name holds ≡ opens s span (cond holds Taken Waiting)
opens_if_named s span [] holds is = absurd (cc)
opens_if_named s span (byte ∷ rest) holds is = refl

pub opens_if_nameless : (s : State) (span : Span) (name : List ℕ) (holds : Bool) → is_some_name name ≡ false
    → opens_if s span name holds ≡ stops (Directive span)
opens_if_nameless s span [] holds is = refl
opens_if_nameless s span (byte ∷ rest) holds is = absurd (cc)

pub undefines_named : (s : State) (span : Span) (name : List ℕ) → is_some_name name ≡ true
    → undefines s span name ≡ goes (record s { macros = map.remove s.macros name })
undefines_named s span [] is = absurd (cc)
undefines_named s span (byte ∷ rest) is = refl

pub undefines_nameless : (s : State) (span : Span) (name : List ℕ) → is_some_name name ≡ false
    → undefines s span name ≡ stops (Directive span)
undefines_nameless s span [] is = refl
undefines_nameless s span (byte ∷ rest) is = absurd (cc)

pub ruleset command_rows = (opens_if_named, opens_if_nameless, undefines_named, undefines_nameless)
