-- A text has 2,000,000 tokens at most.
use Rattle.std.proofs.Common.{◌≡◌, ℕ, ◌≤◌, Bool, true, false, List, [], ◌∷◌, ◌++◌, length, refl, subst, arith, Option, Some, None, Result, Ok, Err}
use Rattle.std.specs.Prelude.{nat_lt, if◌then◌else◌, ◌==◌, drop}
use Rattle.std.proofs.lemmas.Grind.{common_steps}
use Rattle.loc_base.specs.declared.span.Span.{Span}
use Rattle.v_lexer.specs.declared.types.refusal.LexErr.{LexErr}
use Rattle.v_syntax.specs.declared.token_kind.TokenKind.{TokenKind}
use Rattle.v_lexer.specs.declared.pieces.Piece.{Piece}
use Rattle.v_lexer.specs.declared.pieces.Piece.TheVariants as piece
use Rattle.v_lexer.specs.declared.directives.Directive.{Directive}
use Rattle.v_lexer.specs.declared.directives.Directive.TheVariants.{Define, Undef, Ifdef, Ifndef, Elsif, Else, Endif, Line, ToLineEnd, Alone, Use}
use Rattle.v_lexer.specs.declared.position.Position.{Position}
use Rattle.v_lexer.specs.declared.state.State.{State}
use Rattle.v_syntax.specs.declared.literal.NumberFault.{NumberFault}
use Rattle.v_lexer.specs.declared.types.refusal.LexErr.TheVariants as refused
use Rattle.std.specs.FinMap as map
use Rattle.v_lexer.specs.Lexeme.{Lexeme}
use Rattle.v_syntax.specs.Literals.{judge, skip_white}
use Rattle.v_lexer.specs.Directives.{tail_of}
use Rattle.v_lexer.specs.Conditionals.{is_skipping}
use Rattle.v_lexer.specs.Acts.{Step, goes, stops, expands, adds, followed, opens_if, goes_on, closes, defines, undefines, directs, skips, enters, uses, commands, takes, passes, does, number_refusal, span_of, word_span, may_stand}
use Rattle.v_lexer.specs.LineDirectives.{is_line_tail}
use Rattle.v_lexer.specs.Tokens.{Turn, Reads, at_end, at_fault, behind_piece, within_macro, behind_macro, HasOutcome, is_long, is_faulty, is_open, is_whole, HasTokens}

abbrev pub IsFew : State → Type 0
IsFew s = length s.tokens ≤ 2000000

-- a step leads to few tokens
abbrev pub StaysFew : Step → Type 0
StaysFew (goes t) = IsFew t
StaysFew (stops fault) = Unit {0}
StaysFew (expands body t) = IsFew t

few-either : (b : Bool) (one other : Step) → StaysFew one → StaysFew other → StaysFew (if b then one else other)
few-either true one other few also = few
few-either false one other few also = also

few-less : (b : Bool) (s : State) (token : Lexeme) (fault : LexErr) → nat_lt (length s.tokens) 2000000 ≡ b → IsFew s
    → StaysFew (if b then goes (record s { tokens = s.tokens ++ token ∷ [] }) else stops fault)
few-less true s token fault less few = grind (arith, common_steps)
few-less false s token fault less few = tt

few-adds : (s : State) (place : Position) (size : ℕ) (kind : TokenKind) (text : List ℕ) → IsFew s → StaysFew (adds s place size kind text)
unfolding adds
few-adds s place size kind text few = few-less (nat_lt (length s.tokens) 2000000) s _ _ refl few

few-followed : (first : Step) (next : State → Step) → StaysFew first → ((t : State) → IsFew t → StaysFew (next t)) → StaysFew (followed first next)
few-followed (goes t) next few behind = behind t few
few-followed (stops fault) next few behind = tt
few-followed (expands body t) next few behind = few

few-judged : (judged : Result TokenKind NumberFault) (s : State) (place : Position) (text : List ℕ) → IsFew s
    → StaysFew (elim judged [ Ok kind ↦ adds s place (length text) kind text | Err fault ↦ stops (number_refusal fault (span_of place 1)) ])
few-judged (Ok kind) s place text few = few-adds s place (length text) kind text few
few-judged (Err fault) s place text few = tt

few-goes_on : (s : State) (span : Span) (fits holds last : Bool) → IsFew s → StaysFew (goes_on s span fits holds last)
few-goes_on s span fits holds last few = grind (arith, common_steps)

few-opens_if : (s : State) (span : Span) (name : List ℕ) (holds : Bool) → IsFew s → StaysFew (opens_if s span name holds)
few-opens_if s span [] holds few = tt
few-opens_if s span (byte ∷ rest) holds few = few

few-undefines : (s : State) (span : Span) (name : List ℕ) → IsFew s → StaysFew (undefines s span name)
few-undefines s span [] few = tt
few-undefines s span (byte ∷ rest) few = few

few-closes : (s : State) (span : Span) → IsFew s → StaysFew (closes s span)
few-closes s span few = grind (arith, common_steps)

few-defines : (s : State) (span : Span) (tail : List ℕ) → IsFew s → StaysFew (defines s span tail)
few-defines s span tail few = grind (arith, common_steps)

few-directs : (s : State) (span : Span) (word : Directive) (tail : List ℕ) → IsFew s → StaysFew (directs s span word tail)
few-directs s span Define tail few = few-defines s span tail few
few-directs s span Undef tail few = few-undefines s span (skip_white tail) few
few-directs s span Ifdef tail few = few-opens_if s span (skip_white tail) _ few
few-directs s span Ifndef tail few = few-opens_if s span (skip_white tail) _ few
few-directs s span Elsif tail few = few-goes_on s span _ _ false few
few-directs s span Else tail few = few-goes_on s span true true true few
few-directs s span Endif tail few = few-closes s span few
few-directs s span Line tail few = few-either (is_line_tail tail) (goes s) (stops _) few tt
few-directs s span ToLineEnd tail few = few
few-directs s span Alone tail few = few
few-directs s span Use tail few = few

few-skips : (s : State) (span : Span) (word : Directive) (tail : List ℕ) → IsFew s → StaysFew (skips s span word tail)
few-skips s span Define tail few = few
few-skips s span Undef tail few = few
few-skips s span Ifdef tail few = few
few-skips s span Ifndef tail few = few
few-skips s span Elsif tail few = few-goes_on s span _ _ false few
few-skips s span Else tail few = few-goes_on s span true true true few
few-skips s span Endif tail few = few-closes s span few
few-skips s span Line tail few = few
few-skips s span ToLineEnd tail few = few
few-skips s span Alone tail few = few
few-skips s span Use tail few = few

few-enters : (left : ℕ) (s : State) (span : Span) (text : List ℕ) → IsFew s → StaysFew (enters left s span text)
few-enters left s span text few =
    few-either (left == 0) (stops _) (if nat_lt s.macro_bytes_left (length text) then stops _ else expands text _) tt
    (few-either (nat_lt s.macro_bytes_left (length text)) (stops _) (expands text _) tt few)

few-named : (found : Option (List ℕ)) (left : ℕ) (s : State) (span : Span) → IsFew s
    → StaysFew (elim found [ Some text ↦ enters left s span text | None ↦ stops (refused.Directive span) ])
few-named (Some text) left s span few = few-enters left s span text few
few-named None left s span few = tt

few-uses : (left : ℕ) (s : State) (span : Span) (name : List ℕ) → IsFew s → StaysFew (uses left s span name)
few-uses left s span name few = few-named (map.get s.macros name) left s span few

few-directive : (s : State) (place : Position) (word : Directive) (span other : Span) (tail : List ℕ) → IsFew s
    → StaysFew (if may_stand place word then directs s span word tail else stops (refused.Directive other))
few-directive s place word span other tail few =
    few-either (may_stand place word) (directs s span word tail) (stops (refused.Directive other)) (few-directs s span word tail few) tt

few-commands : (left : ℕ) (s : State) (place : Position) (word : Directive) (text : List ℕ) → IsFew s → StaysFew (commands left s place word text)
few-commands left s place Use text few = few-uses left s (word_span place text) (drop 1 text) few
few-commands left s place Define text few = few-directive s place Define (word_span place text) (word_span place text) (tail_of (drop 1 text)) few
few-commands left s place Undef text few = few-directive s place Undef (word_span place text) (word_span place text) (tail_of (drop 1 text)) few
few-commands left s place Ifdef text few = few-directive s place Ifdef (word_span place text) (word_span place text) (tail_of (drop 1 text)) few
few-commands left s place Ifndef text few = few-directive s place Ifndef (word_span place text) (word_span place text) (tail_of (drop 1 text)) few
few-commands left s place Elsif text few = few-directive s place Elsif (word_span place text) (word_span place text) (tail_of (drop 1 text)) few
few-commands left s place Else text few = few-directive s place Else (word_span place text) (word_span place text) (tail_of (drop 1 text)) few
few-commands left s place Endif text few = few-directive s place Endif (word_span place text) (word_span place text) (tail_of (drop 1 text)) few
few-commands left s place Line text few = few-directive s place Line (word_span place text) (word_span place text) (tail_of (drop 1 text)) few
few-commands left s place ToLineEnd text few = few-directive s place ToLineEnd (word_span place text) (word_span place text) (tail_of (drop 1 text)) few
few-commands left s place Alone text few = few-directive s place Alone (word_span place text) (word_span place text) (tail_of (drop 1 text)) few

few-takes : (left : ℕ) (s : State) (place : Position) (kind : Piece) (text : List ℕ) → IsFew s → StaysFew (takes left s place kind text)
few-takes left s place piece.Blank text few = few
few-takes left s place piece.OpenComment text few = tt
few-takes left s place piece.Name text few = few-adds s place (length text) _ text few
few-takes left s place piece.Escaped text few = few-either _ (adds s place (length text) _ (drop 1 text)) (stops _) (few-adds s place (length text) _ (drop 1 text) few) tt
few-takes left s place piece.System text few = few-either _ (adds s place (length text) _ text) (stops _) (few-adds s place (length text) _ text few) tt
few-takes left s place piece.Symbol text few = few-adds s place (length text) _ text few
few-takes left s place piece.RealDelay text few =
    few-followed (adds s place 1 _ _) (λ t. adds t _ _ _ _) (few-adds s place 1 _ _ few) (λ t less. few-adds t _ _ _ _ less)
few-takes left s place piece.Number text few = few-judged (judge text) s place text few
few-takes left s place (piece.Directive word) text few = few-commands left s place word text few
few-takes left s place piece.Stray text few = tt

few-passes : (s : State) (place : Position) (kind : Piece) (text : List ℕ) → IsFew s → StaysFew (passes s place kind text)
few-passes s place piece.Blank text few = few
few-passes s place piece.OpenComment text few = few
few-passes s place piece.Name text few = few
few-passes s place piece.Escaped text few = few
few-passes s place piece.System text few = few
few-passes s place piece.Symbol text few = few
few-passes s place piece.RealDelay text few = few
few-passes s place piece.Number text few = few
few-passes s place (piece.Directive word) text few = few-skips s _ word _ few
few-passes s place piece.Stray text few = few

few-does : (left : ℕ) (s : State) (place : Position) (kind : Piece) (text : List ℕ) → IsFew s → StaysFew (does left s place kind text)
few-does left s place kind text few =
    few-either (is_skipping s.conditionals) (passes s place kind text) (takes left s place kind text)
    (few-passes s place kind text few) (few-takes left s place kind text few)

few-turn : (left : ℕ) (s : State) (place : Position) (text first rest : List ℕ) (step : Step) → Turn left s place text first rest step → IsFew s → StaysFew step
few-turn left s place text first rest step turn few = subst StaysFew turn.does_it (few-does left s place turn.kind first few)

abbrev ReadsFew : Result State LexErr → Type 0
ReadsFew (Ok t) = IsFew t
ReadsFew (Err fault) = Unit {0}

few-reads : {left : ℕ} {s : State} {place : Position} {text : List ℕ} {outcome : Result State LexErr} → Reads left s place text outcome → IsFew s → ReadsFew outcome
few-reads at_end few = few
few-reads (at_fault found) few = tt
few-reads (behind_piece {left = left} {s = s} {t = t} {place = place} {text = text} {piece = q} {behind = d} found rest) few =
    few-reads rest (few-turn left s place text q d (goes t) found few)
few-reads (within_macro found deeper inner) few = tt
few-reads (behind_macro {left = left} {s = s} {t = t} {place = place} {text = text} {piece = q} {behind = d} {body = body} found deeper inner rest) few =
    few-reads rest (few-reads inner (few-turn left s place text q d (expands body t) found few))

few-outcome : (text : List ℕ) (outcome : Result (List Lexeme) LexErr) (tokens : List Lexeme) → HasOutcome text outcome → outcome ≡ Ok tokens → length tokens ≤ 2000000
few-outcome text outcome tokens (is_long long) e = absurd (cc)
few-outcome text outcome tokens (is_faulty short reads) e = absurd (cc)
few-outcome text outcome tokens (is_open short reads first) e = absurd (cc)
few-outcome text outcome tokens (is_whole {last = last} short reads closed) e =
    let few : length last.tokens ≤ 2000000 = few-reads reads (omega arith) in
    let same : last.tokens ≡ tokens = cc in
    subst (λ t. length t ≤ 2000000) same few

pub few_tokens : (text : List ℕ) (tokens : List Lexeme) → HasTokens text tokens → length tokens ≤ 2000000
few_tokens text tokens has = few-outcome text (Ok tokens) tokens has refl
