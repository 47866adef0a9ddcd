-- The texts of tokens, by the pieces that they come from.
use Rattle.std.proofs.Common.{rules, ◌≡◌, ◌≢◌, ℕ, ◌≤◌, Bool, true, false, cond, ◌&&◌, List, [], ◌∷◌, refl, sym, subst, arith, Option, Some, None, Ok}
use Rattle.std.specs.Prelude.{nat_eq, IsTrue}
use Rattle.std.specs.List.{list_all}
use Rattle.std.proofs.lemmas.Bool.{and_parts, and_from, eqb-true}
use Rattle.v_syntax.specs.declared.token_kind.TokenKind.{TokenKind}
use Rattle.v_syntax.specs.declared.token_kind.TokenKind.TheVariants as token
use Rattle.v_lexer.specs.declared.pieces.Piece.{Piece}
use Rattle.v_lexer.specs.declared.pieces.Piece.TheVariants.{Blank, OpenComment, Name, Escaped, System, Symbol, RealDelay, Number, Directive, Stray}
use Rattle.v_lexer.specs.declared.position.Position.{Position}
use Rattle.v_lexer.specs.declared.position.Position.TheVariants.{Text, Macro}
use Rattle.v_syntax.specs.Bytes.{is_white, is_letter, is_decimal, is_name_byte, is_visible, is_mark, not_newline}
use Rattle.v_lexer.specs.Words.{is_reserved}
use Rattle.v_lexer.specs.Symbols.{is_symbol}
use Rattle.v_syntax.specs.Numbers.{is_number_rest, is_based, is_number}
use Rattle.v_syntax.specs.Literals.{judge, IsNumber, IsWildNumber}
use Rattle.v_lexer.specs.Directives.{is_nothing}
use Rattle.v_lexer.specs.Pieces.{when, if_all, run_of, block_rest, slash_rest, attribute_rest, paren_rest, hash_rest, directive_rest, symbol_rest, taken_rest, kind_in}
use Rattle.v_lexer.specs.RealDelays.{is_real_rest}
use Rattle.v_lexer.specs.Text.{IsTokenText}
use Rattle.v_lexer.specs.Acts.{is_escaped_name}
use Rattle.v_lexer.specs.Outcomes.{IsWithin, HasSpan, IsNumberKind}

letter_visible : (byte : ℕ) → is_letter byte ≡ true → is_visible byte ≡ true
unfolding is_letter
letter_visible byte is = grind arith

name_byte_visible : (byte : ℕ) → is_name_byte byte ≡ true → is_visible byte ≡ true
unfolding is_name_byte is_letter is_decimal
name_byte_visible byte is = grind arith

all_visible : (bytes : List ℕ) → list_all is_name_byte bytes ≡ true → list_all is_visible bytes ≡ true
all_visible [] is = refl
all_visible (byte ∷ bytes) is =
    let first : is_name_byte byte ≡ true = (and_parts (is_name_byte byte) (list_all is_name_byte bytes) is).0 in
    let others : list_all is_name_byte bytes ≡ true = (and_parts (is_name_byte byte) (list_all is_name_byte bytes) is).1 in
    and_from (is_visible byte) (list_all is_visible bytes) (name_byte_visible byte first) (all_visible bytes others)

-- what is known of the bytes of a name, of a symbol and of a number
TextOf : Piece → List ℕ → Type 0
TextOf Name bytes = (bytes ≢ []) × IsTrue (list_all is_visible bytes)
TextOf Symbol bytes = is_symbol bytes ≡ true
TextOf Blank bytes = Unit {0}
TextOf OpenComment bytes = Unit {0}
TextOf Escaped bytes = Unit {0}
TextOf System bytes = Unit {0}
TextOf RealDelay bytes = Unit {0}
TextOf Number bytes = is_number bytes ≡ true
TextOf (Directive word) bytes = Unit {0}
TextOf Stray bytes = Unit {0}

Fitting : List ℕ → Option Piece → Type 0
Fitting bytes None = Unit {0}
Fitting bytes (Some kind) = TextOf kind bytes

when_fits : (b : Bool) (kind : Piece) (bytes : List ℕ) → (b ≡ true → TextOf kind bytes) → Fitting bytes (when b kind)
unfolding Fitting
when_fits true kind bytes text = text refl
when_fits false kind bytes text = tt

cond_fits : (b : Bool) (f g : List ℕ → Option Piece) (rest bytes : List ℕ) → (b ≡ true → Fitting bytes (f rest)) → (b ≡ false → Fitting bytes (g rest))
    → Fitting bytes ((cond b f g) rest)
cond_fits true f g rest bytes yes_fits no_fits = yes_fits refl
cond_fits false f g rest bytes yes_fits no_fits = no_fits refl

block_fits : (close : ℕ) (star : Bool) (rest bytes : List ℕ) → Fitting bytes (block_rest close star rest)
unfolding block_rest Fitting TextOf
block_fits close star [] bytes = tt
block_fits close star (byte ∷ rest) bytes = by_close (star && nat_eq byte close) (block_fits close (nat_eq byte 42) rest bytes)
  where
    by_close : (b : Bool) → Fitting bytes (block_rest close (nat_eq byte 42) rest)
        → Fitting bytes (cond b (when (is_nothing rest) Blank) (block_rest close (nat_eq byte 42) rest))
    by_close true below = when_fits (is_nothing rest) Blank bytes (λ h. tt)
    by_close false below = below

slash_fits : (rest : List ℕ) → Fitting (47 ∷ rest) (slash_rest rest)
unfolding slash_rest Fitting TextOf run_of is_mark
slash_fits [] = refl
slash_fits (byte ∷ rest) =
    by_first (nat_eq byte 47) (nat_eq byte 42)
  where
    by_first : (b d : Bool) → Fitting (47 ∷ byte ∷ rest) (cond b (run_of not_newline Blank rest) (cond d (block_rest 47 false rest) None))
    by_first true d = when_fits (list_all not_newline rest) Blank (47 ∷ byte ∷ rest) (λ h. tt)
    by_first false true = block_fits 47 false rest (47 ∷ byte ∷ rest)
    by_first false false = tt

attribute_fits : (rest bytes : List ℕ) → Fitting bytes (attribute_rest rest)
unfolding attribute_rest Fitting
attribute_fits [] bytes = tt
attribute_fits (byte ∷ rest) bytes = by_white (is_white byte) (nat_eq byte 41) (attribute_fits rest bytes)
  where
    by_white : (b d : Bool) → Fitting bytes (attribute_rest rest)
        → Fitting bytes (cond b (attribute_rest rest) (cond d None (block_rest 41 (nat_eq byte 42) rest)))
    by_white true d below = below
    by_white false true below = tt
    by_white false false below = block_fits 41 (nat_eq byte 42) rest bytes

paren_fits : (rest : List ℕ) → Fitting (40 ∷ rest) (paren_rest rest)
unfolding paren_rest Fitting TextOf is_mark
paren_fits [] = refl
paren_fits (byte ∷ rest) = by_star (nat_eq byte 42)
  where
    by_star : (b : Bool) → Fitting (40 ∷ byte ∷ rest) (cond b (attribute_rest rest) None)
    by_star true = attribute_fits rest (40 ∷ byte ∷ rest)
    by_star false = tt

hash_fits : (rest : List ℕ) → Fitting (35 ∷ rest) (hash_rest rest)
unfolding hash_rest Fitting TextOf is_mark
hash_fits [] = refl
hash_fits (byte ∷ rest) = when_fits (is_decimal byte && is_real_rest rest) RealDelay (35 ∷ byte ∷ rest) (λ h. tt)

name_fits : (first : ℕ) (rest : List ℕ) → is_letter first ≡ true → list_all is_name_byte rest ≡ true → TextOf Name (first ∷ rest)
unfolding TextOf
name_fits first rest letter others =
    ((λ e. absurd (cc)), search (rules, and_from (is_visible first) (list_all is_visible rest) (letter_visible first letter) (all_visible rest others)))

begins_with_digit : (first : ℕ) (rest : List ℕ) → is_decimal first ≡ true → is_number_rest rest ≡ true → is_number (first ∷ rest) ≡ true
begins_with_digit first rest digit others = rw (digit, others) refl

begins_with_quote : (first : ℕ) (rest : List ℕ) → is_decimal first ≡ false → nat_eq first 39 ≡ true → is_based rest ≡ true → is_number (first ∷ rest) ≡ true
begins_with_quote first rest no_digit quote others = rw (no_digit, quote, others) refl

taken_fits : (first : ℕ) (rest : List ℕ) → Fitting (first ∷ rest) (taken_rest first rest)
unfolding taken_rest TextOf run_of if_all directive_rest symbol_rest
taken_fits first rest =
    let bytes : List ℕ = first ∷ rest in
    cond_fits (is_white first) _ _ rest bytes (λ h. when_fits _ Blank bytes (λ k. tt)) (λ h1.
    cond_fits (is_letter first) _ _ rest bytes (λ h. when_fits _ Name bytes (λ k. name_fits first rest h k)) (λ h2.
    cond_fits (nat_eq first 92) _ _ rest bytes (λ h. when_fits _ Escaped bytes (λ k. tt)) (λ h3.
    cond_fits (nat_eq first 36) _ _ rest bytes (λ h. when_fits _ System bytes (λ k. tt)) (λ h4.
    cond_fits (is_decimal first) _ _ rest bytes (λ h. when_fits _ Number bytes (λ k. begins_with_digit first rest h k)) (λ h5.
    cond_fits (nat_eq first 39) _ _ rest bytes (λ h. when_fits _ Number bytes (λ k. begins_with_quote first rest h5 h k)) (λ h6.
    cond_fits (nat_eq first 96) _ _ rest bytes (λ h. when_fits _ (Directive _) bytes (λ k. tt)) (λ h7.
    cond_fits (nat_eq first 47) _ _ rest bytes (λ h. subst (λ b. Fitting (b ∷ rest) (slash_rest rest)) (sym (eqb-true first 47 h)) (slash_fits rest)) (λ h8.
    cond_fits (nat_eq first 40) _ _ rest bytes (λ h. subst (λ b. Fitting (b ∷ rest) (paren_rest rest)) (sym (eqb-true first 40 h)) (paren_fits rest)) (λ h9.
    cond_fits (nat_eq first 35) _ _ rest bytes (λ h. subst (λ b. Fitting (b ∷ rest) (hash_rest rest)) (sym (eqb-true first 35 h)) (hash_fits rest)) (λ h10.
    cond_fits (is_mark first) _ _ rest bytes (λ h. when_fits _ Symbol bytes (λ k. k)) (λ h11.
    when_fits _ Stray bytes (λ k. tt))))))))))))

piece_fits : (bytes : List ℕ) (kind : Piece) → kind_in false bytes ≡ Some kind → TextOf kind bytes
unfolding Fitting
piece_fits [] kind e = absurd (cc)
piece_fits (first ∷ rest) kind e = subst (λ o. Fitting (first ∷ rest) o) e (taken_fits first rest)

-- the text of a name or of a reserved word
pub name_text : (bytes : List ℕ) (kind : TokenKind) → kind ≡ cond (is_reserved bytes) token.Word token.Name → kind_in false bytes ≡ Some Name → IsTokenText kind bytes
unfolding TextOf
name_text bytes kind is e = subst (λ k. IsTokenText k bytes) (sym is) (by_reserved (is_reserved bytes) refl)
  where
    by_reserved : (b : Bool) → is_reserved bytes ≡ b → IsTokenText (cond b token.Word token.Name) bytes
    by_reserved true h = search (rules, h)
    by_reserved false h = piece_fits bytes Name e

pub symbol_text : (bytes : List ℕ) → kind_in false bytes ≡ Some Symbol → IsTokenText token.Symbol bytes
unfolding TextOf
symbol_text bytes e = let is : is_symbol bytes ≡ true = piece_fits bytes Symbol e in search (rules, is)

pub number_text : (bytes : List ℕ) (kind : TokenKind) → kind_in false bytes ≡ Some Number → judge bytes ≡ Ok kind → IsNumberKind kind → IsTokenText kind bytes
number_text bytes token.Number e judged number = (e, judged)
number_text bytes token.Wild e judged number = (e, judged)
number_text bytes token.Name e judged number = absurd number
number_text bytes token.Word e judged number = absurd number
number_text bytes token.System e judged number = absurd number
number_text bytes token.Symbol e judged number = absurd number

-- the text of a token that is a number is one as it is written
pub number_written : (text : List ℕ) → IsTokenText token.Number text → IsNumber text
unfolding TextOf
number_written text is = (piece_fits text Number is.0, is.1)

pub wild_written : (text : List ℕ) → IsTokenText token.Wild text → IsWildNumber text
unfolding TextOf
wild_written text is = (piece_fits text Number is.0, is.1)

pub escaped_text : (name : List ℕ) → is_escaped_name name ≡ true → IsTokenText token.Name name
escaped_text [] is = absurd (cc)
escaped_text (byte ∷ rest) is = ((λ e. absurd (cc)), search (rules, is))

pub escaped_all : (name rest : List ℕ) (byte : ℕ) → name ≡ byte ∷ rest → list_all is_visible name ≡ is_escaped_name name
escaped_all name rest byte e = subst (λ l. list_all is_visible l ≡ is_escaped_name l) (sym e) refl

-- spans can be written down
pub span_whole : (place : Position) (size : ℕ) → IsWithin place size → HasSpan place size
span_whole (Text from line fresh) size within = omega (arith, within.0)
span_whole (Macro span line) size within = tt

pub span_small : (place : Position) (size small : ℕ) → small ≤ 2 → IsWithin place size → HasSpan place small
span_small (Text from line fresh) size small few within = omega (arith, within.0)
span_small (Macro span line) size small few within = tt

pub span_one : (place : Position) (size : ℕ) → IsWithin place size → HasSpan place 1
span_one place size within = span_small place size 1 (omega arith) within

pub span_two : (place : Position) (size : ℕ) → IsWithin place size → HasSpan place 2
span_two place size within = span_small place size 2 (omega arith) within

pub ruleset text_rows = (span_whole, span_one, span_two, name_text, symbol_text, number_text, escaped_text)
