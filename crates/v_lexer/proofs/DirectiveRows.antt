-- How far a directive goes behind its word, row by row.
use Rattle.std.proofs.Common.{◌≡◌, ℕ, ◌+◌, ◌<◌, get_or, Bool, true, false, cond, not, ◌&&◌, List, [], ◌∷◌, length, take, drop, refl, sym, ◌∙◌, ap, subst, arith}
use Rattle.std.specs.Prelude.{nat_eq}
use Rattle.std.specs.List.{list_all, prefix_len}
use Rattle.v_lexer.specs.declared.pieces.Piece.{Piece}
use Rattle.v_lexer.specs.declared.directives.Directive.{Directive}
use Rattle.v_lexer.specs.declared.directives.Directive.TheVariants.{Define, Undef, Ifdef, Ifndef, Elsif, Else, Endif, Line, ToLineEnd, Alone, Use}
use Rattle.v_lexer.specs.declared.pieces.Piece.TheVariants.{Directive as DirectivePiece}
use Rattle.v_syntax.specs.Bytes.{is_white, is_letter, is_name_byte, not_newline}
use Rattle.v_lexer.specs.Directives.{is_spaced_name, is_named, is_line, is_nothing, is_tail, directive_of, word_size, word_of, tail_of}
use Rattle.v_lexer.specs.Pieces.{when, if_all, run_of, directive_rest}
use Rattle.v_lexer.specs.Longest.{HasFront, HasNoFront}
use Rattle.v_syntax.proofs.Digits.{drop_at}
use Rattle.v_lexer.proofs.Fronts.{at_rest, none_at_rest, same_front, goes_on, ends_at, ends_here, ends_empty, none_here, none_empty, run_front, loop_front, loop_none, head_stops, behind_word, drop_all}

spaced_name_loop : (kind : Piece) (byte : ℕ) (rest : List ℕ) → is_white byte ≡ true
    → if_all is_spaced_name kind (byte ∷ rest) ≡ if_all is_spaced_name kind rest
unfolding if_all is_spaced_name
spaced_name_loop kind byte rest white = ap (λ b. when (cond b (is_spaced_name rest) (is_letter byte && list_all is_name_byte rest)) kind) white

pub spaced_name_go : (kind : Piece) (byte : ℕ) (rest tail : List ℕ) → drop (prefix_len is_white rest) rest ≡ byte ∷ tail → is_letter byte ≡ true
    → HasFront (if_all is_spaced_name kind) rest kind (prefix_len is_white rest + 1 + prefix_len is_name_byte tail)
unfolding if_all is_spaced_name run_of
spaced_name_go kind byte rest tail e letter =
    let white : is_white byte ≡ false = head_stops is_white byte rest tail e in
    let there : HasFront (if_all is_spaced_name kind) (drop (prefix_len is_white rest) rest) kind (1 + prefix_len is_name_byte tail) =
    at_rest (if_all is_spaced_name kind) (drop (prefix_len is_white rest) rest) (byte ∷ tail) kind (1 + prefix_len is_name_byte tail) e
    (goes_on (if_all is_spaced_name kind) (run_of is_name_byte kind) byte tail kind (prefix_len is_name_byte tail)
    (λ m. ap (λ b. when (cond b (is_spaced_name m) (is_letter byte && list_all is_name_byte m)) kind) white
    ∙ ap (λ b. when (b && list_all is_name_byte m) kind) letter)
    (run_front is_name_byte kind tail)) in
    subst (λ n. HasFront (if_all is_spaced_name kind) rest kind n) (omega arith)
    (loop_front (if_all is_spaced_name kind) is_white rest kind (1 + prefix_len is_name_byte tail) (spaced_name_loop kind) there)

pub spaced_name_none : (kind : Piece) (byte : ℕ) (rest tail : List ℕ) → drop (prefix_len is_white rest) rest ≡ byte ∷ tail → is_letter byte ≡ false
    → HasNoFront (if_all is_spaced_name kind) rest
unfolding if_all is_spaced_name
spaced_name_none kind byte rest tail e letter =
    let white : is_white byte ≡ false = head_stops is_white byte rest tail e in
    loop_none (if_all is_spaced_name kind) is_white rest (spaced_name_loop kind) refl
    (none_at_rest (if_all is_spaced_name kind) (drop (prefix_len is_white rest) rest) (byte ∷ tail) e
    (none_here (if_all is_spaced_name kind) byte tail
    (λ m. ap (λ b. when (cond b (is_spaced_name m) (is_letter byte && list_all is_name_byte m)) kind) white
    ∙ ap (λ b. when (b && list_all is_name_byte m) kind) letter) refl))

pub spaced_name_empty : (kind : Piece) (rest : List ℕ) → drop (prefix_len is_white rest) rest ≡ [] → HasNoFront (if_all is_spaced_name kind) rest
unfolding if_all is_spaced_name
spaced_name_empty kind rest e =
    loop_none (if_all is_spaced_name kind) is_white rest (spaced_name_loop kind) refl
    (none_at_rest (if_all is_spaced_name kind) (drop (prefix_len is_white rest) rest) [] e (none_empty (if_all is_spaced_name kind) refl))

pub ruleset spaced_name_rows = (spaced_name_go, spaced_name_none, spaced_name_empty)

pub named_empty : (kind : Piece) (rest : List ℕ) → rest ≡ [] → HasFront (if_all is_named kind) rest kind 0
unfolding if_all is_named
named_empty kind rest e = at_rest (if_all is_named kind) rest [] kind 0 e (ends_empty (if_all is_named kind) kind refl)

pub named_spaced : (kind : Piece) (byte size : ℕ) (rest tail : List ℕ) → rest ≡ byte ∷ tail → is_white byte ≡ true
    → HasFront (if_all is_spaced_name kind) tail kind size → HasFront (if_all is_named kind) rest kind (1 + size)
unfolding if_all is_named
named_spaced kind byte size rest tail e white front =
    at_rest (if_all is_named kind) rest (byte ∷ tail) kind (1 + size) e
    (goes_on (if_all is_named kind) (if_all is_spaced_name kind) byte tail kind size (λ m. ap (λ b. when (b && is_spaced_name m) kind) white) front)

pub named_spaced_out : (kind : Piece) (byte : ℕ) (rest tail : List ℕ) → rest ≡ byte ∷ tail → is_white byte ≡ true
    → HasNoFront (if_all is_spaced_name kind) tail → HasFront (if_all is_named kind) rest kind 0
unfolding if_all is_named
named_spaced_out kind byte rest tail e white front =
    at_rest (if_all is_named kind) rest (byte ∷ tail) kind 0 e
    (ends_at (if_all is_named kind) (if_all is_spaced_name kind) byte tail kind (λ m. ap (λ b. when (b && is_spaced_name m) kind) white) front refl)

pub named_ends : (kind : Piece) (byte : ℕ) (rest tail : List ℕ) → rest ≡ byte ∷ tail → is_white byte ≡ false
    → HasFront (if_all is_named kind) rest kind 0
unfolding if_all is_named
named_ends kind byte rest tail e white =
    at_rest (if_all is_named kind) rest (byte ∷ tail) kind 0 e
    (ends_here (if_all is_named kind) byte tail kind (λ m. ap (λ b. when (b && is_spaced_name m) kind) white) refl)

pub ruleset named_rows = (named_empty, named_spaced, named_spaced_out)

-- nothing stands behind the word
pub nothing_front : (kind : Piece) (rest : List ℕ) → HasFront (if_all is_nothing kind) rest kind 0
unfolding if_all
nothing_front kind [] = ends_empty (if_all is_nothing kind) kind refl
nothing_front kind (byte ∷ rest) = ends_here (if_all is_nothing kind) byte rest kind (λ m. refl) refl

-- a line goes on behind a byte that doesn't end it
pub line_goes : (kind : Piece) (escaped : Bool) (byte size : ℕ) (rest : List ℕ) → (nat_eq byte 10 && not escaped) ≡ false
    → HasFront (if_all (is_line (nat_eq byte 92)) kind) rest kind size → HasFront (if_all (is_line escaped) kind) (byte ∷ rest) kind (1 + size)
unfolding if_all is_line
line_goes kind escaped byte size rest inside front =
    goes_on (if_all (is_line escaped) kind) (if_all (is_line (nat_eq byte 92)) kind) byte rest kind size
    (λ m. ap (λ b. when (cond b false (is_line (nat_eq byte 92) m)) kind) inside) front

pub line_ends : (kind : Piece) (escaped : Bool) (byte : ℕ) (rest : List ℕ) → (nat_eq byte 10 && not escaped) ≡ true
    → HasFront (if_all (is_line escaped) kind) (byte ∷ rest) kind 0
unfolding if_all is_line
line_ends kind escaped byte rest ends =
    ends_here (if_all (is_line escaped) kind) byte rest kind (λ m. ap (λ b. when (cond b false (is_line (nat_eq byte 92) m)) kind) ends) refl

pub line_empty : (kind : Piece) (escaped : Bool) → HasFront (if_all (is_line escaped) kind) [] kind 0
unfolding if_all is_line
line_empty kind escaped = ends_empty (if_all (is_line escaped) kind) kind refl

-- what a line's bytes up to a place leave
abbrev pub LineFrom : List ℕ → ℕ → Bool → Type 0
LineFrom bytes i escaped =
    (kind : Piece) (size : ℕ) → HasFront (if_all (is_line escaped) kind) (drop i bytes) kind size → HasFront (if_all (is_line false) kind) bytes kind (i + size)

pub line_more : (bytes : List ℕ) (i : ℕ) (escaped : Bool) → i < length bytes → (nat_eq (get_or bytes i 0) 10 && not escaped) ≡ false
    → LineFrom bytes i escaped → LineFrom bytes (i + 1) (nat_eq (get_or bytes i 0) 92)
line_more bytes i escaped within inside before kind size front =
    let byte : ℕ = get_or bytes i 0 in
    let here : HasFront (if_all (is_line escaped) kind) (drop i bytes) kind (1 + size) =
    at_rest (if_all (is_line escaped) kind) (drop i bytes) (byte ∷ drop (i + 1) bytes) kind (1 + size) (drop_at bytes i within)
    (line_goes kind escaped byte size (drop (i + 1) bytes) inside front) in
    subst (λ n. HasFront (if_all (is_line false) kind) bytes kind n) (omega arith) (before kind (1 + size) here)

pub line_ended : (bytes : List ℕ) (i : ℕ) (escaped : Bool) → i < length bytes → (nat_eq (get_or bytes i 0) 10 && not escaped) ≡ true
    → LineFrom bytes i escaped → (kind : Piece) → HasFront (if_all (is_line false) kind) bytes kind i
line_ended bytes i escaped within ends before kind =
    let byte : ℕ = get_or bytes i 0 in
    let here : HasFront (if_all (is_line escaped) kind) (drop i bytes) kind 0 =
    at_rest (if_all (is_line escaped) kind) (drop i bytes) (byte ∷ drop (i + 1) bytes) kind 0 (drop_at bytes i within)
    (line_ends kind escaped byte (drop (i + 1) bytes) ends) in
    subst (λ n. HasFront (if_all (is_line false) kind) bytes kind n) (omega arith) (before kind 0 here)

pub line_open : (bytes : List ℕ) (i : ℕ) (escaped : Bool) → i ≡ length bytes → LineFrom bytes i escaped → (kind : Piece) → HasFront (if_all (is_line false) kind) bytes kind (length bytes)
line_open bytes i escaped end before kind =
    let nothing : drop i bytes ≡ [] = ap (λ n. drop n bytes) end ∙ drop_all bytes in
    subst (λ n. HasFront (if_all (is_line false) kind) bytes kind n) (omega arith)
    (before kind 0 (at_rest (if_all (is_line escaped) kind) (drop i bytes) [] kind 0 nothing (line_empty kind escaped)))

tail_is : (test : List ℕ → Bool) (kind : Piece) (rest : List ℕ) (size : ℕ) (skipping : Bool) (word : Directive) → ((m : List ℕ) → is_tail skipping word m ≡ test m)
    → HasFront (if_all test kind) rest kind size → HasFront (if_all (is_tail skipping word) kind) rest kind size
unfolding if_all
tail_is test kind rest size skipping word same front = record {
  found = same_front (if_all (is_tail skipping word) kind) (if_all test kind) rest (λ m. ap (λ b. when b kind) (same m)) ∙ front.found;
  fits = front.fits;
}

pub define_skipped : (kind : Piece) (rest : List ℕ) (skipping : Bool) → skipping ≡ true → HasFront (if_all (is_tail skipping Define) kind) rest kind 0
unfolding is_tail
define_skipped kind rest skipping on =
    tail_is is_nothing kind rest 0 skipping Define (λ m. ap (λ b. cond b (is_nothing m) (is_line false m)) on) (nothing_front kind rest)

pub define_line : (kind : Piece) (rest : List ℕ) (size : ℕ) (skipping : Bool) → skipping ≡ false
    → HasFront (if_all (is_line false) kind) rest kind size → HasFront (if_all (is_tail skipping Define) kind) rest kind size
unfolding is_tail
define_line kind rest size skipping off front =
    tail_is (is_line false) kind rest size skipping Define (λ m. ap (λ b. cond b (is_nothing m) (is_line false m)) off) front

pub to_line_end_skipped : (kind : Piece) (rest : List ℕ) (skipping : Bool) → skipping ≡ true → HasFront (if_all (is_tail skipping ToLineEnd) kind) rest kind 0
unfolding is_tail
to_line_end_skipped kind rest skipping on =
    tail_is is_nothing kind rest 0 skipping ToLineEnd (λ m. ap (λ b. cond b (is_nothing m) (list_all not_newline m)) on) (nothing_front kind rest)

pub to_line_end : (kind : Piece) (rest : List ℕ) (skipping : Bool) → skipping ≡ false
    → HasFront (if_all (is_tail skipping ToLineEnd) kind) rest kind (prefix_len not_newline rest)
unfolding is_tail run_of if_all
to_line_end kind rest skipping off =
    tail_is (list_all not_newline) kind rest (prefix_len not_newline rest) skipping ToLineEnd
    (λ m. ap (λ b. cond b (is_nothing m) (list_all not_newline m)) off) (run_front not_newline kind rest)

pub line_skipped : (kind : Piece) (rest : List ℕ) (skipping : Bool) → skipping ≡ true → HasFront (if_all (is_tail skipping Line) kind) rest kind 0
unfolding is_tail
line_skipped kind rest skipping on =
    tail_is is_nothing kind rest 0 skipping Line (λ m. ap (λ b. cond b (is_nothing m) (list_all not_newline m)) on) (nothing_front kind rest)

pub line_whole : (kind : Piece) (rest : List ℕ) (skipping : Bool) → skipping ≡ false
    → HasFront (if_all (is_tail skipping Line) kind) rest kind (prefix_len not_newline rest)
unfolding is_tail run_of if_all
line_whole kind rest skipping off =
    tail_is (list_all not_newline) kind rest (prefix_len not_newline rest) skipping Line
    (λ m. ap (λ b. cond b (is_nothing m) (list_all not_newline m)) off) (run_front not_newline kind rest)

pub undef_named : (kind : Piece) (rest : List ℕ) (size : ℕ) (skipping : Bool) → HasFront (if_all is_named kind) rest kind size
    → HasFront (if_all (is_tail skipping Undef) kind) rest kind size
unfolding is_tail
undef_named kind rest size skipping front = tail_is is_named kind rest size skipping Undef (λ m. refl) front

pub ifdef_named : (kind : Piece) (rest : List ℕ) (size : ℕ) (skipping : Bool) → HasFront (if_all is_named kind) rest kind size
    → HasFront (if_all (is_tail skipping Ifdef) kind) rest kind size
unfolding is_tail
ifdef_named kind rest size skipping front = tail_is is_named kind rest size skipping Ifdef (λ m. refl) front

pub ifndef_named : (kind : Piece) (rest : List ℕ) (size : ℕ) (skipping : Bool) → HasFront (if_all is_named kind) rest kind size
    → HasFront (if_all (is_tail skipping Ifndef) kind) rest kind size
unfolding is_tail
ifndef_named kind rest size skipping front = tail_is is_named kind rest size skipping Ifndef (λ m. refl) front

pub elsif_named : (kind : Piece) (rest : List ℕ) (size : ℕ) (skipping : Bool) → HasFront (if_all is_named kind) rest kind size
    → HasFront (if_all (is_tail skipping Elsif) kind) rest kind size
unfolding is_tail
elsif_named kind rest size skipping front = tail_is is_named kind rest size skipping Elsif (λ m. refl) front

pub else_alone : (kind : Piece) (rest : List ℕ) (skipping : Bool) → HasFront (if_all (is_tail skipping Else) kind) rest kind 0
unfolding is_tail
else_alone kind rest skipping = tail_is is_nothing kind rest 0 skipping Else (λ m. refl) (nothing_front kind rest)

pub endif_alone : (kind : Piece) (rest : List ℕ) (skipping : Bool) → HasFront (if_all (is_tail skipping Endif) kind) rest kind 0
unfolding is_tail
endif_alone kind rest skipping = tail_is is_nothing kind rest 0 skipping Endif (λ m. refl) (nothing_front kind rest)

pub alone_alone : (kind : Piece) (rest : List ℕ) (skipping : Bool) → HasFront (if_all (is_tail skipping Alone) kind) rest kind 0
unfolding is_tail
alone_alone kind rest skipping = tail_is is_nothing kind rest 0 skipping Alone (λ m. refl) (nothing_front kind rest)

pub use_alone : (kind : Piece) (rest : List ℕ) (skipping : Bool) → HasFront (if_all (is_tail skipping Use) kind) rest kind 0
unfolding is_tail
use_alone kind rest skipping = tail_is is_nothing kind rest 0 skipping Use (λ m. refl) (nothing_front kind rest)

pub ruleset tail_rows = (define_skipped, define_line, to_line_end_skipped, to_line_end, line_skipped, line_whole, undef_named, ifdef_named, ifndef_named, elsif_named, else_alone, endif_alone, alone_alone, use_alone)

-- behind a backtick
pub directive_front : (skipping : Bool) (rest : List ℕ) (size : ℕ)
    → HasFront (if_all (is_tail skipping (directive_of (word_of rest))) (DirectivePiece (directive_of (word_of rest)))) (tail_of rest) (DirectivePiece (directive_of (word_of rest))) size
    → HasFront (directive_rest skipping) rest (DirectivePiece (directive_of (word_of rest))) (word_size rest + size)
unfolding directive_rest if_all
directive_front skipping rest size front =
    behind_word (λ word tail. when (is_tail skipping (directive_of word) tail) (DirectivePiece (directive_of word))) rest
    (DirectivePiece (directive_of (word_of rest))) size front

pub directive_named : (skipping : Bool) (rest front tail : List ℕ) (n size : ℕ) (word : Directive) → n ≡ word_size rest
    → front ≡ take n rest → tail ≡ drop n rest → word ≡ directive_of front
    → HasFront (if_all (is_tail skipping word) (DirectivePiece word)) tail (DirectivePiece word) size
    → HasFront (directive_rest skipping) rest (DirectivePiece word) (n + size)
directive_named skipping rest front tail n size word counted fronts tails names found =
    let w : word ≡ directive_of (word_of rest) = names ∙ ap directive_of (fronts ∙ ap (λ k. take k rest) counted) in
    let t : tail ≡ tail_of rest = tails ∙ ap (λ k. drop k rest) counted in
    let there : HasFront (if_all (is_tail skipping word) (DirectivePiece word)) (tail_of rest) (DirectivePiece word) size =
    subst (λ l. HasFront (if_all (is_tail skipping word) (DirectivePiece word)) l (DirectivePiece word) size) t found in
    let named : HasFront (if_all (is_tail skipping (directive_of (word_of rest))) (DirectivePiece (directive_of (word_of rest)))) (tail_of rest) (DirectivePiece (directive_of (word_of rest))) size =
    subst (λ d. HasFront (if_all (is_tail skipping d) (DirectivePiece d)) (tail_of rest) (DirectivePiece d) size) w there in
    subst (λ d. HasFront (directive_rest skipping) rest (DirectivePiece d) (n + size)) (sym w)
    (subst (λ k. HasFront (directive_rest skipping) rest (DirectivePiece (directive_of (word_of rest))) (k + size)) (sym counted) (directive_front skipping rest size named))
