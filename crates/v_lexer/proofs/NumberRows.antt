-- The fronts of numbers, row by row of their shape.
use Rattle.std.proofs.Common.{◌≡◌, ◌≢◌, ℕ, ◌+◌, true, false, cond, ◌&&◌, List, [], ◌∷◌, drop, refl, ◌∙◌, ap, subst, arith, Option}
use Rattle.std.specs.Prelude.{nat_eq}
use Rattle.std.specs.List.{list_all, prefix_len}
use Rattle.std.proofs.lemmas.Bool.{ne_eqb}
use Rattle.v_lexer.specs.declared.pieces.Piece.{Piece}
use Rattle.v_lexer.specs.declared.pieces.Piece.TheVariants.{Number}
use Rattle.v_syntax.specs.Bytes.{is_white, is_decimal}
use Rattle.v_syntax.specs.Numbers.{is_sign, is_base, is_digit, is_digit_or_underscore, is_decimal_or_underscore, is_spaced_digits, is_digits, is_signed_base, is_based, is_spaced_quote, is_number_rest}
use Rattle.v_lexer.specs.Pieces.{when, if_all, run_of}
use Rattle.v_lexer.specs.Longest.{HasFront, HasNoFront}
use Rattle.v_lexer.proofs.Fronts.{none_at_rest, at_rest as at_bytes, goes_on, ends_at, ends_here, ends_empty, none_here, none_empty, run_front, loop_front, loop_none, head_stops, first_stops, no_run}

at_rest : (f : List ℕ → Option Piece) (rest bytes : List ℕ) (size : ℕ) → rest ≡ bytes → HasFront f bytes Number size → HasFront f rest Number size
at_rest f rest bytes size e front = at_bytes f rest bytes Number size e front

pub is_digits_empty : (rest : List ℕ) → rest ≡ []
    → HasFront (if_all is_digits Number) rest Number 0
unfolding if_all is_digits
is_digits_empty rest e = at_rest (if_all is_digits Number) rest [] 0 e (ends_empty (if_all is_digits Number) Number refl)

pub is_signed_base_empty : (rest : List ℕ) → rest ≡ []
    → HasFront (if_all is_signed_base Number) rest Number 0
unfolding if_all is_signed_base
is_signed_base_empty rest e = at_rest (if_all is_signed_base Number) rest [] 0 e (ends_empty (if_all is_signed_base Number) Number refl)

pub is_based_empty : (rest : List ℕ) → rest ≡ []
    → HasFront (if_all is_based Number) rest Number 0
unfolding if_all is_based
is_based_empty rest e = at_rest (if_all is_based Number) rest [] 0 e (ends_empty (if_all is_based Number) Number refl)

pub is_number_rest_empty : (rest : List ℕ) → rest ≡ []
    → HasFront (if_all is_number_rest Number) rest Number 0
unfolding if_all is_number_rest
is_number_rest_empty rest e = at_rest (if_all is_number_rest Number) rest [] 0 e (ends_empty (if_all is_number_rest Number) Number refl)

pub signed_base_goes : (byte size : ℕ) (rest tail : List ℕ) → rest ≡ byte ∷ tail → is_base byte ≡ true → HasFront (if_all is_digits Number) tail Number size
    → HasFront (if_all is_signed_base Number) rest Number (1 + size)
unfolding if_all is_signed_base
signed_base_goes byte size rest tail e base front =
    at_rest (if_all is_signed_base Number) rest (byte ∷ tail) (1 + size) e
    (goes_on (if_all is_signed_base Number) (if_all is_digits Number) byte tail Number size (λ m. ap (λ b. when (b && is_digits m) Number) base) front)

pub signed_base_ends : (byte : ℕ) (rest tail : List ℕ) → rest ≡ byte ∷ tail → is_base byte ≡ false
    → HasFront (if_all is_signed_base Number) rest Number 0
unfolding if_all is_signed_base
signed_base_ends byte rest tail e base =
    at_rest (if_all is_signed_base Number) rest (byte ∷ tail) 0 e
    (ends_here (if_all is_signed_base Number) byte tail Number (λ m. ap (λ b. when (b && is_digits m) Number) base) refl)

pub based_signed : (byte size : ℕ) (rest tail : List ℕ) → rest ≡ byte ∷ tail → is_sign byte ≡ true → HasFront (if_all is_signed_base Number) tail Number size
    → HasFront (if_all is_based Number) rest Number (1 + size)
unfolding if_all is_based
based_signed byte size rest tail e sign front =
    at_rest (if_all is_based Number) rest (byte ∷ tail) (1 + size) e
    (goes_on (if_all is_based Number) (if_all is_signed_base Number) byte tail Number size
    (λ m. ap (λ b. when (cond b (is_signed_base m) (is_base byte && is_digits m)) Number) sign) front)

pub based_goes : (byte size : ℕ) (rest tail : List ℕ) → rest ≡ byte ∷ tail → is_sign byte ≡ false → is_base byte ≡ true → HasFront (if_all is_digits Number) tail Number size
    → HasFront (if_all is_based Number) rest Number (1 + size)
unfolding if_all is_based
based_goes byte size rest tail e sign base front =
    at_rest (if_all is_based Number) rest (byte ∷ tail) (1 + size) e
    (goes_on (if_all is_based Number) (if_all is_digits Number) byte tail Number size
    (λ m. ap (λ b. when (cond b (is_signed_base m) (is_base byte && is_digits m)) Number) sign ∙ ap (λ b. when (b && is_digits m) Number) base) front)

pub based_ends : (byte : ℕ) (rest tail : List ℕ) → rest ≡ byte ∷ tail → is_sign byte ≡ false → is_base byte ≡ false
    → HasFront (if_all is_based Number) rest Number 0
unfolding if_all is_based
based_ends byte rest tail e sign base =
    at_rest (if_all is_based Number) rest (byte ∷ tail) 0 e
    (ends_here (if_all is_based Number) byte tail Number
    (λ m. ap (λ b. when (cond b (is_signed_base m) (is_base byte && is_digits m)) Number) sign ∙ ap (λ b. when (b && is_digits m) Number) base) refl)

pub digits_spaced : (byte size : ℕ) (rest tail : List ℕ) → rest ≡ byte ∷ tail → is_white byte ≡ true → HasFront (if_all is_spaced_digits Number) tail Number size
    → HasFront (if_all is_digits Number) rest Number (1 + size)
unfolding if_all is_digits
digits_spaced byte size rest tail e white front =
    at_rest (if_all is_digits Number) rest (byte ∷ tail) (1 + size) e
    (goes_on (if_all is_digits Number) (if_all is_spaced_digits Number) byte tail Number size
    (λ m. ap (λ b. when (cond b (is_spaced_digits m) (is_digit byte && list_all is_digit_or_underscore m)) Number) white) front)

pub digits_spaced_out : (byte : ℕ) (rest tail : List ℕ) → rest ≡ byte ∷ tail → is_white byte ≡ true → HasNoFront (if_all is_spaced_digits Number) tail
    → HasFront (if_all is_digits Number) rest Number 0
unfolding if_all is_digits
digits_spaced_out byte rest tail e white front =
    at_rest (if_all is_digits Number) rest (byte ∷ tail) 0 e
    (ends_at (if_all is_digits Number) (if_all is_spaced_digits Number) byte tail Number
    (λ m. ap (λ b. when (cond b (is_spaced_digits m) (is_digit byte && list_all is_digit_or_underscore m)) Number) white) front refl)

pub digits_go : (byte : ℕ) (rest tail : List ℕ) → rest ≡ byte ∷ tail → is_white byte ≡ false → is_digit byte ≡ true
    → HasFront (if_all is_digits Number) rest Number (1 + prefix_len is_digit_or_underscore tail)
unfolding if_all is_digits run_of
digits_go byte rest tail e white digit =
    at_rest (if_all is_digits Number) rest (byte ∷ tail) (1 + prefix_len is_digit_or_underscore tail) e
    (goes_on (if_all is_digits Number) (run_of is_digit_or_underscore Number) byte tail Number (prefix_len is_digit_or_underscore tail)
    (λ m. ap (λ b. when (cond b (is_spaced_digits m) (is_digit byte && list_all is_digit_or_underscore m)) Number) white ∙ ap (λ b. when (b && list_all is_digit_or_underscore m) Number) digit)
    (run_front is_digit_or_underscore Number tail))

pub digits_end : (byte : ℕ) (rest tail : List ℕ) → rest ≡ byte ∷ tail → is_white byte ≡ false → is_digit byte ≡ false
    → HasFront (if_all is_digits Number) rest Number 0
unfolding if_all is_digits
digits_end byte rest tail e white digit =
    at_rest (if_all is_digits Number) rest (byte ∷ tail) 0 e
    (ends_here (if_all is_digits Number) byte tail Number
    (λ m. ap (λ b. when (cond b (is_spaced_digits m) (is_digit byte && list_all is_digit_or_underscore m)) Number) white ∙ ap (λ b. when (b && list_all is_digit_or_underscore m) Number) digit) refl)

pub spaced_digits_loop : (byte : ℕ) (rest : List ℕ) → is_white byte ≡ true
    → if_all is_spaced_digits Number (byte ∷ rest) ≡ if_all is_spaced_digits Number rest
unfolding if_all is_spaced_digits
spaced_digits_loop byte rest white = ap (λ b. when (cond b (is_spaced_digits rest) (is_digit byte && list_all is_digit_or_underscore rest)) Number) white

pub spaced_digits_go : (byte : ℕ) (rest tail : List ℕ) → drop (prefix_len is_white rest) rest ≡ byte ∷ tail → is_digit byte ≡ true
    → HasFront (if_all is_spaced_digits Number) rest Number (prefix_len is_white rest + 1 + prefix_len is_digit_or_underscore tail)
unfolding if_all is_spaced_digits run_of
spaced_digits_go byte rest tail e digit =
    let white : is_white byte ≡ false = head_stops is_white byte rest tail e in
    let there : HasFront (if_all is_spaced_digits Number) (drop (prefix_len is_white rest) rest) Number (1 + prefix_len is_digit_or_underscore tail) =
    at_rest (if_all is_spaced_digits Number) (drop (prefix_len is_white rest) rest) (byte ∷ tail) (1 + prefix_len is_digit_or_underscore tail) e
    (goes_on (if_all is_spaced_digits Number) (run_of is_digit_or_underscore Number) byte tail Number (prefix_len is_digit_or_underscore tail)
    (λ m. ap (λ b. when (cond b (is_spaced_digits m) (is_digit byte && list_all is_digit_or_underscore m)) Number) white ∙ ap (λ b. when (b && list_all is_digit_or_underscore m) Number) digit)
    (run_front is_digit_or_underscore Number tail)) in
    subst (λ n. HasFront (if_all is_spaced_digits Number) rest Number n) (omega arith)
    (loop_front (if_all is_spaced_digits Number) is_white rest Number (1 + prefix_len is_digit_or_underscore tail) spaced_digits_loop there)

pub spaced_digits_none : (byte : ℕ) (rest tail : List ℕ) → drop (prefix_len is_white rest) rest ≡ byte ∷ tail → is_digit byte ≡ false
    → HasNoFront (if_all is_spaced_digits Number) rest
unfolding if_all is_spaced_digits
spaced_digits_none byte rest tail e digit =
    let white : is_white byte ≡ false = head_stops is_white byte rest tail e in
    loop_none (if_all is_spaced_digits Number) is_white rest spaced_digits_loop refl
    (none_at_rest (if_all is_spaced_digits Number) (drop (prefix_len is_white rest) rest) (byte ∷ tail) e
    (none_here (if_all is_spaced_digits Number) byte tail
    (λ m. ap (λ b. when (cond b (is_spaced_digits m) (is_digit byte && list_all is_digit_or_underscore m)) Number) white ∙ ap (λ b. when (b && list_all is_digit_or_underscore m) Number) digit) refl))

pub spaced_digits_empty : (rest : List ℕ) → drop (prefix_len is_white rest) rest ≡ []
    → HasNoFront (if_all is_spaced_digits Number) rest
unfolding if_all is_spaced_digits
spaced_digits_empty rest e =
    loop_none (if_all is_spaced_digits Number) is_white rest spaced_digits_loop refl
    (none_at_rest (if_all is_spaced_digits Number) (drop (prefix_len is_white rest) rest) [] e (none_empty (if_all is_spaced_digits Number) refl))

pub spaced_quote_loop : (byte : ℕ) (rest : List ℕ) → is_white byte ≡ true
    → if_all is_spaced_quote Number (byte ∷ rest) ≡ if_all is_spaced_quote Number rest
unfolding if_all is_spaced_quote
spaced_quote_loop byte rest white = ap (λ b. when (cond b (is_spaced_quote rest) (nat_eq byte 39 && is_based rest)) Number) white

pub spaced_quote_goes : (size : ℕ) (rest tail : List ℕ) → drop (prefix_len is_white rest) rest ≡ 39 ∷ tail → HasFront (if_all is_based Number) tail Number size
    → HasFront (if_all is_spaced_quote Number) rest Number (prefix_len is_white rest + 1 + size)
unfolding if_all is_spaced_quote is_white
spaced_quote_goes size rest tail e front =
    let there : HasFront (if_all is_spaced_quote Number) (drop (prefix_len is_white rest) rest) Number (1 + size) =
    at_rest (if_all is_spaced_quote Number) (drop (prefix_len is_white rest) rest) (39 ∷ tail) (1 + size) e
    (goes_on (if_all is_spaced_quote Number) (if_all is_based Number) 39 tail Number size (λ m. refl) front) in
    subst (λ n. HasFront (if_all is_spaced_quote Number) rest Number n) (omega arith)
    (loop_front (if_all is_spaced_quote Number) is_white rest Number (1 + size) spaced_quote_loop there)

pub spaced_quote_none : (byte : ℕ) (rest tail : List ℕ) → drop (prefix_len is_white rest) rest ≡ byte ∷ tail → byte ≢ 39
    → HasNoFront (if_all is_spaced_quote Number) rest
unfolding if_all is_spaced_quote
spaced_quote_none byte rest tail e other =
    let white : is_white byte ≡ false = head_stops is_white byte rest tail e in
    loop_none (if_all is_spaced_quote Number) is_white rest spaced_quote_loop refl
    (none_at_rest (if_all is_spaced_quote Number) (drop (prefix_len is_white rest) rest) (byte ∷ tail) e
    (none_here (if_all is_spaced_quote Number) byte tail
    (λ m. ap (λ b. when (cond b (is_spaced_quote m) (nat_eq byte 39 && is_based m)) Number) white ∙ ap (λ b. when (b && is_based m) Number) (ne_eqb byte 39 other)) refl))

pub spaced_quote_empty : (rest : List ℕ) → drop (prefix_len is_white rest) rest ≡ []
    → HasNoFront (if_all is_spaced_quote Number) rest
unfolding if_all is_spaced_quote
spaced_quote_empty rest e =
    loop_none (if_all is_spaced_quote Number) is_white rest spaced_quote_loop refl
    (none_at_rest (if_all is_spaced_quote Number) (drop (prefix_len is_white rest) rest) [] e (none_empty (if_all is_spaced_quote Number) refl))

pub number_spaced : (byte size : ℕ) (rest tail : List ℕ) → prefix_len is_decimal_or_underscore rest ≡ 0 → rest ≡ byte ∷ tail → is_white byte ≡ true → HasFront (if_all is_spaced_quote Number) tail Number size
    → HasFront (if_all is_number_rest Number) rest Number (1 + size)
unfolding if_all is_number_rest
number_spaced byte size rest tail none e white front =
    at_rest (if_all is_number_rest Number) rest (byte ∷ tail) (1 + size) e
    (goes_on (if_all is_number_rest Number) (if_all is_spaced_quote Number) byte tail Number size
    (λ m. ap (λ b. when (cond b (is_number_rest m) (cond (is_white byte) (is_spaced_quote m) (nat_eq byte 39 && is_based m))) Number) (first_stops is_decimal_or_underscore byte rest tail none e) ∙ ap (λ b. when (cond b (is_spaced_quote m) (nat_eq byte 39 && is_based m)) Number) white) front)

pub number_spaced_out : (byte : ℕ) (rest tail : List ℕ) → prefix_len is_decimal_or_underscore rest ≡ 0 → rest ≡ byte ∷ tail → is_white byte ≡ true → HasNoFront (if_all is_spaced_quote Number) tail
    → HasFront (if_all is_number_rest Number) rest Number 0
unfolding if_all is_number_rest
number_spaced_out byte rest tail none e white front =
    at_rest (if_all is_number_rest Number) rest (byte ∷ tail) 0 e
    (ends_at (if_all is_number_rest Number) (if_all is_spaced_quote Number) byte tail Number
    (λ m. ap (λ b. when (cond b (is_number_rest m) (cond (is_white byte) (is_spaced_quote m) (nat_eq byte 39 && is_based m))) Number) (first_stops is_decimal_or_underscore byte rest tail none e) ∙ ap (λ b. when (cond b (is_spaced_quote m) (nat_eq byte 39 && is_based m)) Number) white) front refl)

pub number_quoted : (size : ℕ) (rest tail : List ℕ) → rest ≡ 39 ∷ tail → HasFront (if_all is_based Number) tail Number size
    → HasFront (if_all is_number_rest Number) rest Number (1 + size)
unfolding if_all is_number_rest is_decimal_or_underscore is_decimal is_white
number_quoted size rest tail e front =
    at_rest (if_all is_number_rest Number) rest (39 ∷ tail) (1 + size) e
    (goes_on (if_all is_number_rest Number) (if_all is_based Number) 39 tail Number size (λ m. refl) front)

pub number_ends : (byte : ℕ) (rest tail : List ℕ) → prefix_len is_decimal_or_underscore rest ≡ 0 → rest ≡ byte ∷ tail → is_white byte ≡ false → byte ≢ 39
    → HasFront (if_all is_number_rest Number) rest Number 0
unfolding if_all is_number_rest
number_ends byte rest tail none e white other =
    at_rest (if_all is_number_rest Number) rest (byte ∷ tail) 0 e
    (ends_here (if_all is_number_rest Number) byte tail Number
    (λ m. ap (λ b. when (cond b (is_number_rest m) (cond (is_white byte) (is_spaced_quote m) (nat_eq byte 39 && is_based m))) Number) (first_stops is_decimal_or_underscore byte rest tail none e) ∙ ap (λ b. when (cond b (is_spaced_quote m) (nat_eq byte 39 && is_based m)) Number) white ∙ ap (λ b. when (b && is_based m) Number) (ne_eqb byte 39 other)) refl)

pub number_loop : (byte : ℕ) (rest : List ℕ) → is_decimal_or_underscore byte ≡ true
    → if_all is_number_rest Number (byte ∷ rest) ≡ if_all is_number_rest Number rest
unfolding if_all is_number_rest
number_loop byte rest digit = ap (λ b. when (cond b (is_number_rest rest) (cond (is_white byte) (is_spaced_quote rest) (nat_eq byte 39 && is_based rest))) Number) digit

pub number_goes : (size : ℕ) (rest : List ℕ) → HasFront (if_all is_number_rest Number) (drop (prefix_len is_decimal_or_underscore rest) rest) Number size
    → HasFront (if_all is_number_rest Number) rest Number (prefix_len is_decimal_or_underscore rest + size)
number_goes size rest front = loop_front (if_all is_number_rest Number) is_decimal_or_underscore rest Number size number_loop front

pub ruleset signed_base_rows = (is_signed_base_empty, signed_base_goes, signed_base_ends)

pub ruleset based_rows = (is_based_empty, based_signed, based_goes, based_ends)

pub ruleset digits_rows = (is_digits_empty, digits_spaced, digits_spaced_out, digits_go, digits_end)

pub ruleset spaced_digits_rows = (spaced_digits_go, spaced_digits_none, spaced_digits_empty)

pub ruleset spaced_quote_rows = (spaced_quote_goes, spaced_quote_none, spaced_quote_empty)

pub ruleset number_rows = (no_run, is_number_rest_empty, number_spaced, number_spaced_out, number_quoted, number_ends, number_goes)
