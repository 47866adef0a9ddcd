-- The two tokens of a real delay, and their places.
use Rattle.std.proofs.Common.{rules, ◌≡◌, ℕ, ◌-◌, ◌≤◌, true, false, refl, sym, ap, subst, arith, Some, Result, Ok}
use Rattle.std.specs.Prelude.{codes}
use Rattle.v_syntax.specs.declared.token_kind.TokenKind.TheVariants as token
use Rattle.v_syntax.specs.Bytes.{is_white, is_letter, is_decimal, is_mark}
use Rattle.v_syntax.specs.Numbers.{is_number_rest, is_hexadecimal, is_wild}
use Rattle.v_syntax.specs.Literals.{judge, digit_value}
use Rattle.v_lexer.specs.declared.types.refusal.LexErr.{LexErr}
use Rattle.v_lexer.specs.declared.pieces.Piece.TheVariants.{Number}
use Rattle.v_lexer.specs.declared.position.Position.{Position}
use Rattle.v_lexer.specs.declared.position.Position.TheVariants.{Text, Macro}
use Rattle.v_lexer.specs.declared.state.State.{State}
use Rattle.v_lexer.specs.Symbols.{is_symbol}
use Rattle.v_lexer.specs.Pieces.{if_all, kind_in, taken_rest}
use Rattle.v_lexer.specs.Text.{IsTokenText}
use Rattle.v_lexer.specs.Acts.{Step, goes, stops, followed, past}
use Rattle.v_lexer.specs.Outcomes.{IsWithin, HasSpan, Gives, UnlessNoMemory}
use Rattle.v_lexer.proofs.TextRows.{span_one}
use Rattle.v_lexer.proofs.ReadingLaws.{unless_map}

-- the two tokens of a real delay
pub hash_text : IsTokenText token.Symbol (codes "#")
unfolding is_mark
hash_text = let is : is_symbol (codes "#") ≡ true = refl in search (rules, is)

zero_kind : kind_in false (codes "0") ≡ Some Number
unfolding taken_rest if_all is_white is_letter is_decimal is_number_rest
zero_kind = refl

zero_judged : judge (codes "0") ≡ Ok token.Number
unfolding is_decimal is_hexadecimal is_wild digit_value judge
zero_judged = refl

pub zero_text : IsTokenText token.Number (codes "0")
zero_text = (zero_kind, zero_judged)

pub within_first : (place : Position) (size : ℕ) → 1 ≤ size → IsWithin place size → IsWithin place 1
within_first (Text from line fresh) size some within = (omega (arith, within.0), within.1)
within_first (Macro span line) size some within = tt

pub span_behind : (place : Position) (size : ℕ) → 1 ≤ size → IsWithin place size → HasSpan (past place (codes "#")) (size - 1)
span_behind (Text from line fresh) size some within = omega (arith, within.0)
span_behind (Macro span line) size some within = tt

-- a call behind another one
pub goes_behind : (first : Step) (t : State) (next : State → Step) (done : Result (Unit {0}) LexErr) (new : State) → first ≡ goes t → Gives (next t) done new
    → Gives (followed first next) done new
goes_behind first t next done new e is = subst (λ step. Gives (followed step next) done new) (sym e) is

-- where the first call is refused, the second isn't reached
pub stops_before : (first : Step) (next : State → Step) (fault : LexErr) → UnlessNoMemory fault (first ≡ stops fault)
    → UnlessNoMemory fault (followed first next ≡ stops fault)
stops_before first next fault is =
    unless_map fault (first ≡ stops fault) (followed first next ≡ stops fault) (λ e. ap (λ step. followed step next) e) is

pub ruleset real_delay_rows = (span_one, hash_text, zero_text, within_first, span_behind, goes_behind, stops_before)
