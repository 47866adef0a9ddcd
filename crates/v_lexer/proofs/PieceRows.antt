-- The pieces, by their first byte.
use Rattle.std.proofs.Common.{◌≡◌, ◌≢◌, ℕ, ◌+◌, Bool, true, false, cond, List, ◌∷◌, refl, sym, ap, subst, Option}
use Rattle.std.specs.Prelude.{nat_eq}
use Rattle.std.specs.List.{prefix_len}
use Rattle.std.proofs.lemmas.Bool.{ne_eqb}
use Rattle.v_lexer.specs.declared.pieces.Piece.{Piece}
use Rattle.v_lexer.specs.declared.pieces.Piece.TheVariants.{Blank, Name, Escaped, System, Symbol, Number, Stray}
use Rattle.v_syntax.specs.Bytes.{is_white, not_white, is_letter, is_decimal, is_name_byte, is_mark}
use Rattle.v_syntax.specs.Numbers.{is_number_rest, is_based}
use Rattle.v_lexer.specs.Directives.{is_nothing}
use Rattle.v_lexer.specs.Pieces.{if_all, run_of, directive_rest, slash_rest, paren_rest, hash_rest, symbol_rest, taken_rest, skipped_rest, kind_in, is_plain}
use Rattle.v_lexer.specs.Longest.{HasFront}
use Rattle.v_lexer.proofs.Fronts.{run_front, goes_on}
use Rattle.v_lexer.proofs.DirectiveRows.{nothing_front}

taken_as : (first : ℕ) (rest : List ℕ) (kind : Piece) (size : ℕ) (f : List ℕ → Option Piece) → taken_rest first ≡ f
    → HasFront f rest kind size → HasFront (taken_rest first) rest kind size
taken_as first rest kind size f same front = subst (λ g. HasFront g rest kind size) (sym same) front

skipped_as : (first : ℕ) (rest : List ℕ) (kind : Piece) (size : ℕ) (f : List ℕ → Option Piece) → skipped_rest first ≡ f
    → HasFront f rest kind size → HasFront (skipped_rest first) rest kind size
skipped_as first rest kind size f same front = subst (λ g. HasFront g rest kind size) (sym same) front

pub taken_white : (first : ℕ) (rest : List ℕ) → is_white first ≡ true → HasFront (taken_rest first) rest Blank (prefix_len is_white rest)
unfolding taken_rest
taken_white first rest is_so =
    taken_as first rest Blank (prefix_len is_white rest) (run_of is_white Blank) (rw (is_so) refl) (run_front is_white Blank rest)

pub taken_letter : (first : ℕ) (rest : List ℕ) → is_white first ≡ false → is_letter first ≡ true → HasFront (taken_rest first) rest Name (prefix_len is_name_byte rest)
unfolding taken_rest
taken_letter first rest no_white is_so =
    taken_as first rest Name (prefix_len is_name_byte rest) (run_of is_name_byte Name) (rw (no_white, is_so) refl) (run_front is_name_byte Name rest)

pub taken_backslash : (first : ℕ) (rest : List ℕ) → first ≡ 92 → HasFront (taken_rest first) rest Escaped (prefix_len not_white rest)
unfolding taken_rest is_white is_letter is_decimal is_name_byte
taken_backslash first rest is =
    subst (λ b. HasFront (taken_rest b) rest Escaped (prefix_len not_white rest)) (sym is)
    (taken_as 92 rest Escaped (prefix_len not_white rest) (run_of not_white Escaped) refl (run_front not_white Escaped rest))

pub taken_dollar : (first : ℕ) (rest : List ℕ) → first ≡ 36 → HasFront (taken_rest first) rest System (prefix_len is_name_byte rest)
unfolding taken_rest is_white is_letter is_decimal is_name_byte
taken_dollar first rest is =
    subst (λ b. HasFront (taken_rest b) rest System (prefix_len is_name_byte rest)) (sym is)
    (taken_as 36 rest System (prefix_len is_name_byte rest) (run_of is_name_byte System) refl (run_front is_name_byte System rest))

pub taken_digit : (first : ℕ) (rest : List ℕ) (size : ℕ) → is_white first ≡ false → is_letter first ≡ false → first ≢ 92 → first ≢ 36 → is_decimal first ≡ true → HasFront (if_all is_number_rest Number) rest Number size → HasFront (taken_rest first) rest Number size
unfolding taken_rest
taken_digit first rest size no_white no_letter no_backslash no_dollar is_so front =
    let eq_backslash : nat_eq first 92 ≡ false = ne_eqb first 92 no_backslash in
    let eq_dollar : nat_eq first 36 ≡ false = ne_eqb first 36 no_dollar in
    taken_as first rest Number size (if_all is_number_rest Number) (rw (no_white, no_letter, eq_backslash, eq_dollar, is_so) refl) front

pub taken_quote : (first : ℕ) (rest : List ℕ) (size : ℕ) → first ≡ 39 → HasFront (if_all is_based Number) rest Number size → HasFront (taken_rest first) rest Number size
unfolding taken_rest is_white is_letter is_decimal
taken_quote first rest size is front =
    subst (λ b. HasFront (taken_rest b) rest Number size) (sym is) (taken_as 39 rest Number size (if_all is_based Number) refl front)

pub taken_backtick : (first : ℕ) (rest : List ℕ) (kind : Piece) (size : ℕ) → first ≡ 96 → HasFront (directive_rest false) rest kind size → HasFront (taken_rest first) rest kind size
unfolding taken_rest is_white is_letter is_decimal
taken_backtick first rest kind size is front =
    subst (λ b. HasFront (taken_rest b) rest kind size) (sym is) (taken_as 96 rest kind size (directive_rest false) refl front)

pub taken_slash : (first : ℕ) (rest : List ℕ) (kind : Piece) (size : ℕ) → first ≡ 47 → HasFront (slash_rest) rest kind size → HasFront (taken_rest first) rest kind size
unfolding taken_rest is_white is_letter is_decimal
taken_slash first rest kind size is front =
    subst (λ b. HasFront (taken_rest b) rest kind size) (sym is) (taken_as 47 rest kind size (slash_rest) refl front)

pub taken_paren : (first : ℕ) (rest : List ℕ) (kind : Piece) (size : ℕ) → first ≡ 40 → HasFront paren_rest rest kind size → HasFront (taken_rest first) rest kind size
unfolding taken_rest is_white is_letter is_decimal
taken_paren first rest kind size is front =
    subst (λ b. HasFront (taken_rest b) rest kind size) (sym is) (taken_as 40 rest kind size paren_rest refl front)

pub taken_hash : (first : ℕ) (rest : List ℕ) (kind : Piece) (size : ℕ) → first ≡ 35 → HasFront hash_rest rest kind size → HasFront (taken_rest first) rest kind size
unfolding taken_rest is_white is_letter is_decimal
taken_hash first rest kind size is front =
    subst (λ b. HasFront (taken_rest b) rest kind size) (sym is) (taken_as 35 rest kind size hash_rest refl front)

pub taken_mark : (first : ℕ) (rest : List ℕ) (size : ℕ) → is_white first ≡ false → is_letter first ≡ false → first ≢ 92 → first ≢ 36 → is_decimal first ≡ false → first ≢ 39 → first ≢ 96 → first ≢ 47 → first ≢ 40 → first ≢ 35 → is_mark first ≡ true → HasFront (symbol_rest first) rest Symbol size → HasFront (taken_rest first) rest Symbol size
unfolding taken_rest
taken_mark first rest size no_white no_letter no_backslash no_dollar no_digit no_quote no_backtick no_slash no_paren no_hash is_so front =
    let eq_backslash : nat_eq first 92 ≡ false = ne_eqb first 92 no_backslash in
    let eq_dollar : nat_eq first 36 ≡ false = ne_eqb first 36 no_dollar in
    let eq_quote : nat_eq first 39 ≡ false = ne_eqb first 39 no_quote in
    let eq_backtick : nat_eq first 96 ≡ false = ne_eqb first 96 no_backtick in
    let eq_slash : nat_eq first 47 ≡ false = ne_eqb first 47 no_slash in
    let eq_paren : nat_eq first 40 ≡ false = ne_eqb first 40 no_paren in
    let eq_hash : nat_eq first 35 ≡ false = ne_eqb first 35 no_hash in
    taken_as first rest Symbol size (symbol_rest first) (rw (no_white, no_letter, eq_backslash, eq_dollar, no_digit, eq_quote, eq_backtick, eq_slash, eq_paren, eq_hash, is_so) refl) front

pub taken_stray : (first : ℕ) (rest : List ℕ) → is_white first ≡ false → is_letter first ≡ false → first ≢ 92 → first ≢ 36 → is_decimal first ≡ false → first ≢ 39 → first ≢ 96 → first ≢ 47 → first ≢ 40 → first ≢ 35 → is_mark first ≡ false → HasFront (taken_rest first) rest Stray 0
unfolding taken_rest
taken_stray first rest no_white no_letter no_backslash no_dollar no_digit no_quote no_backtick no_slash no_paren no_hash no_mark =
    let eq_backslash : nat_eq first 92 ≡ false = ne_eqb first 92 no_backslash in
    let eq_dollar : nat_eq first 36 ≡ false = ne_eqb first 36 no_dollar in
    let eq_quote : nat_eq first 39 ≡ false = ne_eqb first 39 no_quote in
    let eq_backtick : nat_eq first 96 ≡ false = ne_eqb first 96 no_backtick in
    let eq_slash : nat_eq first 47 ≡ false = ne_eqb first 47 no_slash in
    let eq_paren : nat_eq first 40 ≡ false = ne_eqb first 40 no_paren in
    let eq_hash : nat_eq first 35 ≡ false = ne_eqb first 35 no_hash in
    taken_as first rest Stray 0 (if_all is_nothing Stray) (rw (no_white, no_letter, eq_backslash, eq_dollar, no_digit, eq_quote, eq_backtick, eq_slash, eq_paren, eq_hash, no_mark) refl) (nothing_front Stray rest)

pub ruleset taken_rows = (taken_white, taken_letter, taken_backslash, taken_dollar, taken_digit, taken_quote, taken_backtick, taken_slash, taken_paren, taken_hash, taken_mark, taken_stray)

pub skipped_backtick : (first : ℕ) (rest : List ℕ) (kind : Piece) (size : ℕ) → first ≡ 96 → HasFront (directive_rest true) rest kind size
    → HasFront (skipped_rest first) rest kind size
unfolding skipped_rest
skipped_backtick first rest kind size is front =
    subst (λ b. HasFront (skipped_rest b) rest kind size) (sym is) (skipped_as 96 rest kind size (directive_rest true) refl front)

pub skipped_slash : (first : ℕ) (rest : List ℕ) (kind : Piece) (size : ℕ) → first ≡ 47 → HasFront slash_rest rest kind size
    → HasFront (skipped_rest first) rest kind size
unfolding skipped_rest
skipped_slash first rest kind size is front =
    subst (λ b. HasFront (skipped_rest b) rest kind size) (sym is) (skipped_as 47 rest kind size slash_rest refl front)

pub skipped_plain : (first : ℕ) (rest : List ℕ) → first ≢ 96 → first ≢ 47 → HasFront (skipped_rest first) rest Blank (prefix_len is_plain rest)
unfolding skipped_rest
skipped_plain first rest no_backtick no_slash =
    let eq_backtick : nat_eq first 96 ≡ false = ne_eqb first 96 no_backtick in
    let eq_slash : nat_eq first 47 ≡ false = ne_eqb first 47 no_slash in
    skipped_as first rest Blank (prefix_len is_plain rest) (run_of is_plain Blank) (rw (eq_backtick, eq_slash) refl) (run_front is_plain Blank rest)

pub ruleset skipped_rows = (skipped_backtick, skipped_slash, skipped_plain)

-- a piece begins with its first byte
pub piece_skipped : (skipping : Bool) (first : ℕ) (rest : List ℕ) (kind : Piece) (size : ℕ) → skipping ≡ true
    → HasFront (skipped_rest first) rest kind size → HasFront (kind_in skipping) (first ∷ rest) kind (1 + size)
piece_skipped skipping first rest kind size on front =
    goes_on (kind_in skipping) (skipped_rest first) first rest kind size (λ m. ap (λ b. (cond b (skipped_rest first) (taken_rest first)) m) on) front

pub piece_taken : (skipping : Bool) (first : ℕ) (rest : List ℕ) (kind : Piece) (size : ℕ) → skipping ≡ false
    → HasFront (taken_rest first) rest kind size → HasFront (kind_in skipping) (first ∷ rest) kind (1 + size)
piece_taken skipping first rest kind size off front =
    goes_on (kind_in skipping) (taken_rest first) first rest kind size (λ m. ap (λ b. (cond b (skipped_rest first) (taken_rest first)) m) off) front

pub ruleset piece_rows = (piece_skipped, piece_taken)
