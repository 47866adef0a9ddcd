-- Which tokens are names, numbers and numbers with wildcard digits.
use Rattle.std.proofs.Common.{◌≡◌, ℕ, ◌<◌, Bool, true, false, cond, nat_le, leb-true, List, [], ◌∷◌, length, IsTrue, Option, Some, None, sym, ap, ◌∙◌, refl, subst, get_or}
use Rattle.std.specs.List.{list_all}
use Rattle.std.specs.Prelude.{All, unwrap_or, bytes_eq, map}
use Rattle.std.proofs.lemmas.Bool.{and_parts}
use Rattle.std.proofs.lemmas.Option.{slice_get_read}
use Rattle.std.proofs.lemmas.List.Sums.{AllPass-from_list_all}
use Rattle.loc_base.specs.Name.{IsName, IsNameByte}
use Rattle.v_lexer.specs.Lexeme.{Lexeme}
use Rattle.v_lexer.specs.Text.{IsTokenText}
use Rattle.v_syntax.specs.Bytes.{is_visible}
use Rattle.v_lexer.specs.Terminals.{Row, spelled, symbol, system_function, reserved_word, terminal_of}
use Rattle.v_lexer.specs.declared.terminals.TheConstants.{SYMBOLS, SYSTEM_FUNCTIONS, RESERVED_WORDS}
use Rattle.v_syntax.specs.declared.token_kind.TokenKind.{TokenKind}
use Rattle.v_syntax.specs.declared.token_kind.TokenKind.TheVariants as kind
use Rattle.v_lexer.specs.declared.types.terminal.Terminal.{Terminal}
use Rattle.v_lexer.specs.declared.types.terminal.Terminal.TheVariants.{Nothing, Name, Number, Wild}
use Rattle.v_tree.specs.Marks.{mark_at, mark_in}
use Rattle.v_tree.specs.Sites.{text_at, text_in}
use Rattle.v_tree.proofs.PlaceLemmas.{marked_inside}

-- the kind of token that a terminal tells: one with a spelling of its own tells none here
abbrev pub class : Terminal → Option TokenKind
class Name = Some kind.Name
class Number = Some kind.Number
class Wild = Some kind.Wild
class _ = None

abbrev is_spelled : Terminal → Bool
is_spelled Name = false
is_spelled Number = false
is_spelled Wild = false
is_spelled _ = true

no_class : (m : Terminal) → is_spelled m ≡ true → class m ≡ None
no_class Name e = cc
no_class Number e = cc
no_class Wild e = cc
no_class _ e = refl

-- what a table has is spelled, where each of its rows is
found_or : (b : Bool) (m : Terminal) (o : Option Terminal) → is_spelled m ≡ true → is_spelled (unwrap_or o Nothing) ≡ true
    → is_spelled (unwrap_or (cond b (Some m) o) Nothing) ≡ true
found_or true m o here rest = here
found_or false m o here rest = rest

found_spelled : (rows : List Row) (text : List ℕ) → list_all (λ row. is_spelled row.1) rows ≡ true → is_spelled (unwrap_or (spelled rows text) Nothing) ≡ true
found_spelled [] text all = refl
found_spelled (row ∷ rows) text all =
    let parts = and_parts _ _ all in
    found_or (bytes_eq text row.0) row.1 (spelled rows text) parts.0 (found_spelled rows text parts.1)

symbol-spelled : (text : List ℕ) → is_spelled (unwrap_or (symbol text) Nothing) ≡ true
unfolding symbol
symbol-spelled text = found_spelled (map (λ row. (row.0.now, row.1)) SYMBOLS) text refl

system-spelled : (text : List ℕ) → is_spelled (unwrap_or (system_function text) Nothing) ≡ true
unfolding system_function
system-spelled text = found_spelled (map (λ row. (row.0.now, row.1)) SYSTEM_FUNCTIONS) text refl

reserved-spelled : (text : List ℕ) → is_spelled (unwrap_or (reserved_word text) Nothing) ≡ true
unfolding reserved_word
reserved-spelled text = found_spelled (map (λ row. (row.0.now, row.1)) RESERVED_WORDS) text refl

-- the terminal of a class tells the token's kind
kind_told : (k other : TokenKind) (text : List ℕ) → class (terminal_of k text) ≡ Some other → k ≡ other
kind_told kind.Name other text e = cc
kind_told kind.Number other text e = cc
kind_told kind.Wild other text e = cc
kind_told kind.System other text e = let none : None ≡ Some other = sym (no_class (unwrap_or (system_function text) Nothing) (system-spelled text)) ∙ e in cc
kind_told kind.Symbol other text e = let none : None ≡ Some other = sym (no_class (unwrap_or (symbol text) Nothing) (symbol-spelled text)) ∙ e in cc
kind_told kind.Word other text e = let none : None ≡ Some other = sym (no_class (unwrap_or (reserved_word text) Nothing) (reserved-spelled text)) ∙ e in cc

-- the token at a place within the list is the one that its mark and its text are of
pub mark_read : (t : List Lexeme) (n : ℕ) (x : Lexeme) → n < length t → x ≡ get_or t n x → mark_at t n ≡ terminal_of x.kind x.text
unfolding mark_at
mark_read t n x h e = ap mark_in (slice_get_read t (length t) n x refl h e)

pub text_read : (t : List Lexeme) (n : ℕ) (x : Lexeme) → n < length t → x ≡ get_or t n x → x.text ≡ text_at t n
unfolding text_at
text_read t n x h e = sym (ap text_in (slice_get_read t (length t) n x refl h e))

visible_name : (text : List ℕ) → IsTrue (list_all is_visible text) → All IsNameByte text
visible_name text h k d inside =
    let here = AllPass-from_list_all is_visible text h k d inside in
    let two = and_parts (nat_le 33 (get_or text k d)) (nat_le (get_or text k d) 126) here in
    (leb-true _ _ two.0, leb-true _ _ two.1)

pub name_bytes : (text : List ℕ) → IsTokenText kind.Name text → IsName text
name_bytes text (some, seen) = (some, visible_name text seen)

-- a token of a class stands within the list, and its text is one of its kind
pub class_inside : (t : List Lexeme) (n : ℕ) (k : TokenKind) → class (mark_at t n) ≡ Some k → n < length t
class_inside t n k e = marked_inside t n (λ gone. let h : class Nothing ≡ Some k = ap class (sym gone) ∙ e in cc)

pub class_text : (t : List Lexeme) (n : ℕ) (x : Lexeme) (k : TokenKind) → class (mark_at t n) ≡ Some k → n < length t → x ≡ get_or t n x → IsTokenText x.kind x.text → IsTokenText k x.text
class_text t n x k e h is text = subst (λ l. IsTokenText l x.text) (kind_told x.kind k x.text (ap class (sym (mark_read t n x h is)) ∙ e)) text

pub name_inside : (t : List Lexeme) (n : ℕ) → mark_at t n ≡ Name → n < length t
name_inside t n e = class_inside t n kind.Name (ap class e)

pub number_inside : (t : List Lexeme) (n : ℕ) → mark_at t n ≡ Number → n < length t
number_inside t n e = class_inside t n kind.Number (ap class e)

pub wild_inside : (t : List Lexeme) (n : ℕ) → mark_at t n ≡ Wild → n < length t
wild_inside t n e = class_inside t n kind.Wild (ap class e)
