-- A newline behind a printed text adds no token.
use Rattle.std.proofs.Common.{◌≡◌, ℕ, Bool, true, false, cond, ◌&&◌, List, [], ◌∷◌, ◌++◌, refl, sym, ap, ap₂, ◌∙◌, append_assoc}
use Rattle.json.specs.Token.{Token, begin_object, end_object, begin_array, end_array, key, string, number, boolean, null, bad}
use Rattle.json.specs.Word.{ends_word, word}
use Rattle.json.specs.Lex.{Lexeme, token, comma, colon, string_token, lex, between, fresh, punctuate, tokens}
use Rattle.json.specs.Print.{escape, quoted, token_text, begins, ends, print_from, print, IsPrintable, ArePrintable}
use Rattle.json.proofs.Printed.Strings.{content-escape, lex-escape}
use Rattle.json.proofs.Printed.Numbers.{lex-number, in_word-ended}

ends_print : (ts : List Token) (more : List ℕ) → ends_word more ≡ true → ends_word (print_from true ts ++ more) ≡ true
unfolding print_from
ends_print [] more h = h
ends_print (begin_object ∷ ts) more h = refl
ends_print (end_object ∷ ts) more h = refl
ends_print (begin_array ∷ ts) more h = refl
ends_print (end_array ∷ ts) more h = refl
ends_print (key s ∷ ts) more h = refl
ends_print (string s ∷ ts) more h = refl
ends_print (number s ∷ ts) more h = refl
ends_print (boolean b ∷ ts) more h = refl
ends_print (null ∷ ts) more h = refl
ends_print (bad ∷ ts) more h = refl

ends_plain : (ts : List Token) → ends_word (print_from true ts) ≡ true
unfolding print_from
ends_plain [] = refl
ends_plain (begin_object ∷ ts) = refl
ends_plain (end_object ∷ ts) = refl
ends_plain (begin_array ∷ ts) = refl
ends_plain (end_array ∷ ts) = refl
ends_plain (key s ∷ ts) = refl
ends_plain (string s ∷ ts) = refl
ends_plain (number s ∷ ts) = refl
ends_plain (boolean b ∷ ts) = refl
ends_plain (null ∷ ts) = refl
ends_plain (bad ∷ ts) = refl

lex-quoted : (s r : List ℕ) → lex between (quoted s ++ r) ≡ token (string s) ∷ lex between r
unfolding lex
lex-quoted s r =
    ap (λ l. lex between (34 ∷ l)) (append_assoc (escape s) (34 ∷ []) r) ∙ ap₂ (λ o l. token (string_token o) ∷ l) (content-escape s r) (lex-escape s r)

-- the lexemes of a token
abbrev lexemes : Token → List Lexeme
lexemes begin_object = token begin_object ∷ []
lexemes end_object = token end_object ∷ []
lexemes begin_array = token begin_array ∷ []
lexemes end_array = token end_array ∷ []
lexemes (key s) = token (string s) ∷ colon ∷ []
lexemes (string s) = token (string s) ∷ []
lexemes (number s) = token (number s) ∷ []
lexemes (boolean b) = token (boolean b) ∷ []
lexemes null = token null ∷ []
lexemes bad = []

lex-token : (t : Token) (r : List ℕ) → IsPrintable t → (ends t ≡ true → ends_word r ≡ true) → lex between (token_text t ++ r) ≡ lexemes t ++ lex between r
unfolding lex word
lex-token begin_object r h ended = refl
lex-token end_object r h ended = refl
lex-token begin_array r h ended = refl
lex-token end_array r h ended = refl
lex-token (key s) r h ended = ap (lex between) (append_assoc (quoted s) (58 ∷ []) r) ∙ lex-quoted s (58 ∷ r)
lex-token (string s) r h ended = lex-quoted s r
lex-token (number s) r h ended = lex-number s r h (ended refl)
lex-token (boolean true) r h ended = ap₂ (λ b l. token (cond b (boolean true) bad) ∷ l) (ended refl) (in_word-ended r (ended refl))
lex-token (boolean false) r h ended = ap₂ (λ b l. token (cond b (boolean false) bad) ∷ l) (ended refl) (in_word-ended r (ended refl))
lex-token null r h ended = ap₂ (λ b l. token (cond b null bad) ∷ l) (ended refl) (in_word-ended r (ended refl))
lex-token bad r h ended = absurd h

-- a comma or none
lex-comma : (b : Bool) (r s : List ℕ) → lex between r ≡ lex between s → lex between (cond b (44 ∷ []) [] ++ r) ≡ lex between (cond b (44 ∷ []) [] ++ s)
unfolding lex
lex-comma true r s e = ap (λ l. comma ∷ l) e
lex-comma false r s e = e

lex-newline : (c : Bool) (ts : List Token) → ArePrintable ts → lex between (print_from c ts ++ 10 ∷ []) ≡ lex between (print_from c ts)
unfolding lex print_from ArePrintable
lex-newline c [] h = refl
lex-newline c (t ∷ ts) h =
    let comma_text = cond (c && begins t) (44 ∷ []) [] in
    let rest = print_from (ends t) ts in
    let ended = λ (more : List ℕ) (e : ends t ≡ true) (w : ends_word more ≡ true). ap (λ b. ends_word (print_from b ts ++ more)) e ∙ ends_print ts more w in
    let longer = lex-token t (rest ++ 10 ∷ []) h.0 (λ e. ended (10 ∷ []) e refl) in
    let plain = lex-token t rest h.0 (λ e. ap (λ b. ends_word (print_from b ts)) e ∙ ends_plain ts) in
    let same = longer ∙ ap (λ l. lexemes t ++ l) (lex-newline (ends t) ts h.1) ∙ sym plain in
    ap (lex between) (append_assoc comma_text (token_text t ++ rest) (10 ∷ []) ∙ ap (λ l. comma_text ++ l) (append_assoc (token_text t) rest (10 ∷ [])))
    ∙ lex-comma (c && begins t) (token_text t ++ (rest ++ 10 ∷ [])) (token_text t ++ rest) same

pub tokens-newline : (ts : List Token) → ArePrintable ts → tokens (print ts ++ 10 ∷ []) ≡ tokens (print ts)
tokens-newline ts h = ap (punctuate fresh) (lex-newline false ts h)
