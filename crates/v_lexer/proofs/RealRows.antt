-- The fronts of real numbers behind a `#`, row by row of their shape.
use Rattle.std.proofs.Common.{◌≡◌, ◌≢◌, ℕ, ◌+◌, Bool, true, false, cond, ◌&&◌, List, [], ◌∷◌, drop, refl, ◌∙◌, ap, Option}
use Rattle.std.specs.Prelude.{nat_eq}
use Rattle.std.specs.List.{list_all, prefix_len}
use Rattle.std.proofs.lemmas.Bool.{ne_eqb}
use Rattle.v_lexer.specs.declared.pieces.Piece.{Piece}
use Rattle.v_lexer.specs.declared.pieces.Piece.TheVariants.{RealDelay, Symbol}
use Rattle.v_syntax.specs.Bytes.{is_decimal}
use Rattle.v_syntax.specs.Numbers.{is_decimal_or_underscore}
use Rattle.v_lexer.specs.RealDelays.{is_exponent_mark, is_plus_or_minus, is_power, is_exponent, is_fraction_rest, is_fraction, is_real_rest}
use Rattle.v_lexer.specs.Pieces.{when, if_all, run_of, hash_rest}
use Rattle.v_lexer.specs.Longest.{HasFront, HasNoFront}
use Rattle.v_lexer.proofs.Fronts.{at_rest, none_at_rest, goes_on, ends_at, ends_here, ends_empty, none_behind, none_here, none_empty, run_front, loop_front, loop_none, first_stops}

-- the fronts that a test of real numbers knows
abbrev fronts : (List ℕ → Bool) → List ℕ → Option Piece
fronts test = if_all test RealDelay

pub power_goes : (rest tail : List ℕ) (byte : ℕ) → rest ≡ byte ∷ tail → is_decimal byte ≡ true
    → HasFront (if_all is_power RealDelay) rest RealDelay (1 + prefix_len is_decimal_or_underscore tail)
unfolding if_all run_of is_power
power_goes rest tail byte e digit =
    at_rest (fronts is_power) rest (byte ∷ tail) RealDelay (1 + prefix_len is_decimal_or_underscore tail) e
    (goes_on (fronts is_power) (run_of is_decimal_or_underscore RealDelay) byte tail RealDelay (prefix_len is_decimal_or_underscore tail)
    (λ m. ap (λ b. when (b && list_all is_decimal_or_underscore m) RealDelay) digit) (run_front is_decimal_or_underscore RealDelay tail))

pub power_none : (rest tail : List ℕ) (byte : ℕ) → rest ≡ byte ∷ tail → is_decimal byte ≡ false → HasNoFront (if_all is_power RealDelay) rest
unfolding if_all is_power
power_none rest tail byte e digit =
    none_at_rest (fronts is_power) rest (byte ∷ tail) e
    (none_here (fronts is_power) byte tail (λ m. ap (λ b. when (b && list_all is_decimal_or_underscore m) RealDelay) digit) refl)

pub power_empty : (rest : List ℕ) → rest ≡ [] → HasNoFront (if_all is_power RealDelay) rest
unfolding if_all is_power
power_empty rest e = none_at_rest (fronts is_power) rest [] e (none_empty (fronts is_power) refl)

pub ruleset power_rows = (power_goes, power_none, power_empty)

pub exponent_signed : (rest tail : List ℕ) (byte size : ℕ) → rest ≡ byte ∷ tail → is_plus_or_minus byte ≡ true → HasFront (if_all is_power RealDelay) tail RealDelay size
    → HasFront (if_all is_exponent RealDelay) rest RealDelay (1 + size)
unfolding if_all is_exponent
exponent_signed rest tail byte size e sign front =
    at_rest (fronts is_exponent) rest (byte ∷ tail) RealDelay (1 + size) e
    (goes_on (fronts is_exponent) (fronts is_power) byte tail RealDelay size
    (λ m. ap (λ b. when (cond b (is_power m) (is_decimal byte && list_all is_decimal_or_underscore m)) RealDelay) sign) front)

pub exponent_signed_none : (rest tail : List ℕ) (byte : ℕ) → rest ≡ byte ∷ tail → is_plus_or_minus byte ≡ true → HasNoFront (if_all is_power RealDelay) tail
    → HasNoFront (if_all is_exponent RealDelay) rest
unfolding if_all is_exponent
exponent_signed_none rest tail byte e sign front =
    none_at_rest (fronts is_exponent) rest (byte ∷ tail) e
    (none_behind (fronts is_exponent) (fronts is_power) byte tail
    (λ m. ap (λ b. when (cond b (is_power m) (is_decimal byte && list_all is_decimal_or_underscore m)) RealDelay) sign) front refl)

pub exponent_digits : (rest tail : List ℕ) (byte : ℕ) → rest ≡ byte ∷ tail → is_plus_or_minus byte ≡ false → is_decimal byte ≡ true
    → HasFront (if_all is_exponent RealDelay) rest RealDelay (1 + prefix_len is_decimal_or_underscore tail)
unfolding if_all run_of is_exponent
exponent_digits rest tail byte e sign digit =
    at_rest (fronts is_exponent) rest (byte ∷ tail) RealDelay (1 + prefix_len is_decimal_or_underscore tail) e
    (goes_on (fronts is_exponent) (run_of is_decimal_or_underscore RealDelay) byte tail RealDelay (prefix_len is_decimal_or_underscore tail)
    (λ m. ap (λ b. when (cond b (is_power m) (is_decimal byte && list_all is_decimal_or_underscore m)) RealDelay) sign
    ∙ ap (λ b. when (b && list_all is_decimal_or_underscore m) RealDelay) digit) (run_front is_decimal_or_underscore RealDelay tail))

pub exponent_none : (rest tail : List ℕ) (byte : ℕ) → rest ≡ byte ∷ tail → is_plus_or_minus byte ≡ false → is_decimal byte ≡ false
    → HasNoFront (if_all is_exponent RealDelay) rest
unfolding if_all is_exponent
exponent_none rest tail byte e sign digit =
    none_at_rest (fronts is_exponent) rest (byte ∷ tail) e
    (none_here (fronts is_exponent) byte tail
    (λ m. ap (λ b. when (cond b (is_power m) (is_decimal byte && list_all is_decimal_or_underscore m)) RealDelay) sign
    ∙ ap (λ b. when (b && list_all is_decimal_or_underscore m) RealDelay) digit) refl)

pub exponent_empty : (rest : List ℕ) → rest ≡ [] → HasNoFront (if_all is_exponent RealDelay) rest
unfolding if_all is_exponent
exponent_empty rest e = none_at_rest (fronts is_exponent) rest [] e (none_empty (fronts is_exponent) refl)

pub ruleset exponent_rows = (exponent_signed, exponent_signed_none, exponent_digits, exponent_none, exponent_empty)

pub fraction_end_empty : (rest : List ℕ) → rest ≡ [] → HasFront (if_all is_fraction_rest RealDelay) rest RealDelay 0
unfolding if_all is_fraction_rest
fraction_end_empty rest e = at_rest (fronts is_fraction_rest) rest [] RealDelay 0 e (ends_empty (fronts is_fraction_rest) RealDelay refl)

pub fraction_end_marked : (rest tail : List ℕ) (byte size : ℕ) → prefix_len is_decimal_or_underscore rest ≡ 0 → rest ≡ byte ∷ tail → is_exponent_mark byte ≡ true
    → HasFront (if_all is_exponent RealDelay) tail RealDelay size → HasFront (if_all is_fraction_rest RealDelay) rest RealDelay (1 + size)
unfolding if_all is_fraction_rest
fraction_end_marked rest tail byte size none e mark front =
    let digit : is_decimal_or_underscore byte ≡ false = first_stops is_decimal_or_underscore byte rest tail none e in
    at_rest (fronts is_fraction_rest) rest (byte ∷ tail) RealDelay (1 + size) e
    (goes_on (fronts is_fraction_rest) (fronts is_exponent) byte tail RealDelay size
    (λ m. ap (λ b. when (cond b (is_fraction_rest m) (is_exponent_mark byte && is_exponent m)) RealDelay) digit
    ∙ ap (λ b. when (b && is_exponent m) RealDelay) mark) front)

pub fraction_end_out : (rest tail : List ℕ) (byte : ℕ) → prefix_len is_decimal_or_underscore rest ≡ 0 → rest ≡ byte ∷ tail → is_exponent_mark byte ≡ true
    → HasNoFront (if_all is_exponent RealDelay) tail → HasFront (if_all is_fraction_rest RealDelay) rest RealDelay 0
unfolding if_all is_fraction_rest
fraction_end_out rest tail byte none e mark front =
    let digit : is_decimal_or_underscore byte ≡ false = first_stops is_decimal_or_underscore byte rest tail none e in
    at_rest (fronts is_fraction_rest) rest (byte ∷ tail) RealDelay 0 e
    (ends_at (fronts is_fraction_rest) (fronts is_exponent) byte tail RealDelay
    (λ m. ap (λ b. when (cond b (is_fraction_rest m) (is_exponent_mark byte && is_exponent m)) RealDelay) digit
    ∙ ap (λ b. when (b && is_exponent m) RealDelay) mark) front refl)

pub fraction_end_stops : (rest tail : List ℕ) (byte : ℕ) → prefix_len is_decimal_or_underscore rest ≡ 0 → rest ≡ byte ∷ tail → is_exponent_mark byte ≡ false
    → HasFront (if_all is_fraction_rest RealDelay) rest RealDelay 0
unfolding if_all is_fraction_rest
fraction_end_stops rest tail byte none e mark =
    let digit : is_decimal_or_underscore byte ≡ false = first_stops is_decimal_or_underscore byte rest tail none e in
    at_rest (fronts is_fraction_rest) rest (byte ∷ tail) RealDelay 0 e
    (ends_here (fronts is_fraction_rest) byte tail RealDelay
    (λ m. ap (λ b. when (cond b (is_fraction_rest m) (is_exponent_mark byte && is_exponent m)) RealDelay) digit
    ∙ ap (λ b. when (b && is_exponent m) RealDelay) mark) refl)

pub ruleset fraction_end_rows = (fraction_end_empty, fraction_end_marked, fraction_end_out, fraction_end_stops)

fraction_loop : (byte : ℕ) (rest : List ℕ) → is_decimal_or_underscore byte ≡ true
    → if_all is_fraction_rest RealDelay (byte ∷ rest) ≡ if_all is_fraction_rest RealDelay rest
unfolding if_all is_fraction_rest
fraction_loop byte rest digit = ap (λ b. when (cond b (is_fraction_rest rest) (is_exponent_mark byte && is_exponent rest)) RealDelay) digit

real_loop : (byte : ℕ) (rest : List ℕ) → is_decimal_or_underscore byte ≡ true
    → if_all is_real_rest RealDelay (byte ∷ rest) ≡ if_all is_real_rest RealDelay rest
unfolding if_all is_real_rest
real_loop byte rest digit =
    ap (λ b. when (cond b (is_real_rest rest) (cond (nat_eq byte 46) (is_fraction rest) (is_exponent_mark byte && is_exponent rest))) RealDelay) digit

pub fraction_run : (rest : List ℕ) (size : ℕ) → HasFront (if_all is_fraction_rest RealDelay) (drop (prefix_len is_decimal_or_underscore rest) rest) RealDelay size
    → HasFront (if_all is_fraction_rest RealDelay) rest RealDelay (prefix_len is_decimal_or_underscore rest + size)
fraction_run rest size front = loop_front (fronts is_fraction_rest) is_decimal_or_underscore rest RealDelay size fraction_loop front

pub real_run : (rest : List ℕ) (size : ℕ) → HasFront (if_all is_real_rest RealDelay) (drop (prefix_len is_decimal_or_underscore rest) rest) RealDelay size
    → HasFront (if_all is_real_rest RealDelay) rest RealDelay (prefix_len is_decimal_or_underscore rest + size)
real_run rest size front = loop_front (fronts is_real_rest) is_decimal_or_underscore rest RealDelay size real_loop front

pub real_run_none : (rest : List ℕ) → HasNoFront (if_all is_real_rest RealDelay) (drop (prefix_len is_decimal_or_underscore rest) rest)
    → HasNoFront (if_all is_real_rest RealDelay) rest
unfolding if_all is_real_rest
real_run_none rest front = loop_none (fronts is_real_rest) is_decimal_or_underscore rest real_loop refl front

pub ruleset run_rows = (fraction_run, real_run, real_run_none)

pub fraction_goes : (rest tail : List ℕ) (byte size : ℕ) → rest ≡ byte ∷ tail → is_decimal byte ≡ true → HasFront (if_all is_fraction_rest RealDelay) tail RealDelay size
    → HasFront (if_all is_fraction RealDelay) rest RealDelay (1 + size)
unfolding if_all is_fraction
fraction_goes rest tail byte size e digit front =
    at_rest (fronts is_fraction) rest (byte ∷ tail) RealDelay (1 + size) e
    (goes_on (fronts is_fraction) (fronts is_fraction_rest) byte tail RealDelay size (λ m. ap (λ b. when (b && is_fraction_rest m) RealDelay) digit) front)

pub fraction_none : (rest tail : List ℕ) (byte : ℕ) → rest ≡ byte ∷ tail → is_decimal byte ≡ false → HasNoFront (if_all is_fraction RealDelay) rest
unfolding if_all is_fraction
fraction_none rest tail byte e digit =
    none_at_rest (fronts is_fraction) rest (byte ∷ tail) e
    (none_here (fronts is_fraction) byte tail (λ m. ap (λ b. when (b && is_fraction_rest m) RealDelay) digit) refl)

pub fraction_empty : (rest : List ℕ) → rest ≡ [] → HasNoFront (if_all is_fraction RealDelay) rest
unfolding if_all is_fraction
fraction_empty rest e = none_at_rest (fronts is_fraction) rest [] e (none_empty (fronts is_fraction) refl)

pub ruleset fraction_rows = (fraction_goes, fraction_none, fraction_empty)

-- behind a byte that is no digit
real_by : (byte : ℕ) (m : List ℕ) → is_decimal_or_underscore byte ≡ false
    → if_all is_real_rest RealDelay (byte ∷ m) ≡ when (cond (nat_eq byte 46) (is_fraction m) (is_exponent_mark byte && is_exponent m)) RealDelay
unfolding if_all is_real_rest
real_by byte m digit =
    ap (λ b. when (cond b (is_real_rest m) (cond (nat_eq byte 46) (is_fraction m) (is_exponent_mark byte && is_exponent m))) RealDelay) digit

real_point_by : (byte : ℕ) (m : List ℕ) → is_decimal_or_underscore byte ≡ false → byte ≡ 46 → if_all is_real_rest RealDelay (byte ∷ m) ≡ if_all is_fraction RealDelay m
unfolding if_all
real_point_by byte m digit is =
    real_by byte m digit ∙ ap (λ x. when (cond (nat_eq x 46) (is_fraction m) (is_exponent_mark byte && is_exponent m)) RealDelay) is

real_mark_by : (byte : ℕ) (m : List ℕ) → is_decimal_or_underscore byte ≡ false → byte ≢ 46 → is_exponent_mark byte ≡ true
    → if_all is_real_rest RealDelay (byte ∷ m) ≡ if_all is_exponent RealDelay m
unfolding if_all
real_mark_by byte m digit no_point mark =
    real_by byte m digit ∙ ap (λ b. when (cond b (is_fraction m) (is_exponent_mark byte && is_exponent m)) RealDelay) (ne_eqb byte 46 no_point)
    ∙ ap (λ b. when (b && is_exponent m) RealDelay) mark

pub real_point : (rest tail : List ℕ) (byte size : ℕ) → prefix_len is_decimal_or_underscore rest ≡ 0 → rest ≡ byte ∷ tail → byte ≡ 46
    → HasFront (if_all is_fraction RealDelay) tail RealDelay size → HasFront (if_all is_real_rest RealDelay) rest RealDelay (1 + size)
real_point rest tail byte size none e is front =
    let digit : is_decimal_or_underscore byte ≡ false = first_stops is_decimal_or_underscore byte rest tail none e in
    at_rest (fronts is_real_rest) rest (byte ∷ tail) RealDelay (1 + size) e
    (goes_on (fronts is_real_rest) (fronts is_fraction) byte tail RealDelay size (λ m. real_point_by byte m digit is) front)

pub real_point_none : (rest tail : List ℕ) (byte : ℕ) → prefix_len is_decimal_or_underscore rest ≡ 0 → rest ≡ byte ∷ tail → byte ≡ 46
    → HasNoFront (if_all is_fraction RealDelay) tail → HasNoFront (if_all is_real_rest RealDelay) rest
unfolding if_all is_real_rest
real_point_none rest tail byte none e is front =
    let digit : is_decimal_or_underscore byte ≡ false = first_stops is_decimal_or_underscore byte rest tail none e in
    none_at_rest (fronts is_real_rest) rest (byte ∷ tail) e
    (none_behind (fronts is_real_rest) (fronts is_fraction) byte tail (λ m. real_point_by byte m digit is) front refl)

pub real_mark : (rest tail : List ℕ) (byte size : ℕ) → prefix_len is_decimal_or_underscore rest ≡ 0 → rest ≡ byte ∷ tail → byte ≢ 46 → is_exponent_mark byte ≡ true
    → HasFront (if_all is_exponent RealDelay) tail RealDelay size → HasFront (if_all is_real_rest RealDelay) rest RealDelay (1 + size)
real_mark rest tail byte size none e no_point mark front =
    let digit : is_decimal_or_underscore byte ≡ false = first_stops is_decimal_or_underscore byte rest tail none e in
    at_rest (fronts is_real_rest) rest (byte ∷ tail) RealDelay (1 + size) e
    (goes_on (fronts is_real_rest) (fronts is_exponent) byte tail RealDelay size (λ m. real_mark_by byte m digit no_point mark) front)

pub real_mark_none : (rest tail : List ℕ) (byte : ℕ) → prefix_len is_decimal_or_underscore rest ≡ 0 → rest ≡ byte ∷ tail → byte ≢ 46 → is_exponent_mark byte ≡ true
    → HasNoFront (if_all is_exponent RealDelay) tail → HasNoFront (if_all is_real_rest RealDelay) rest
unfolding if_all is_real_rest
real_mark_none rest tail byte none e no_point mark front =
    let digit : is_decimal_or_underscore byte ≡ false = first_stops is_decimal_or_underscore byte rest tail none e in
    none_at_rest (fronts is_real_rest) rest (byte ∷ tail) e
    (none_behind (fronts is_real_rest) (fronts is_exponent) byte tail (λ m. real_mark_by byte m digit no_point mark) front refl)

pub real_none : (rest tail : List ℕ) (byte : ℕ) → prefix_len is_decimal_or_underscore rest ≡ 0 → rest ≡ byte ∷ tail → byte ≢ 46 → is_exponent_mark byte ≡ false
    → HasNoFront (if_all is_real_rest RealDelay) rest
unfolding if_all is_real_rest
real_none rest tail byte none e no_point mark =
    let digit : is_decimal_or_underscore byte ≡ false = first_stops is_decimal_or_underscore byte rest tail none e in
    none_at_rest (fronts is_real_rest) rest (byte ∷ tail) e
    (none_here (fronts is_real_rest) byte tail
    (λ m. real_by byte m digit ∙ ap (λ b. when (cond b (is_fraction m) (is_exponent_mark byte && is_exponent m)) RealDelay) (ne_eqb byte 46 no_point)
    ∙ ap (λ b. when (b && is_exponent m) RealDelay) mark) refl)

pub real_empty : (rest : List ℕ) → rest ≡ [] → HasNoFront (if_all is_real_rest RealDelay) rest
unfolding if_all is_real_rest
real_empty rest e = none_at_rest (fronts is_real_rest) rest [] e (none_empty (fronts is_real_rest) refl)

pub ruleset real_end_rows = (real_point, real_point_none, real_mark, real_mark_none, real_none, real_empty)

pub hash_alone : (rest : List ℕ) → rest ≡ [] → HasFront hash_rest rest Symbol 0
unfolding hash_rest
hash_alone rest e = at_rest hash_rest rest [] Symbol 0 e (ends_empty hash_rest Symbol refl)

pub hash_real : (rest tail : List ℕ) (byte size : ℕ) → rest ≡ byte ∷ tail → is_decimal byte ≡ true → HasFront (if_all is_real_rest RealDelay) tail RealDelay size
    → HasFront hash_rest rest RealDelay (1 + size)
unfolding hash_rest if_all
hash_real rest tail byte size e digit front =
    at_rest hash_rest rest (byte ∷ tail) RealDelay (1 + size) e
    (goes_on hash_rest (if_all is_real_rest RealDelay) byte tail RealDelay size (λ m. ap (λ b. when (b && is_real_rest m) RealDelay) digit) front)

pub hash_whole : (rest tail : List ℕ) (byte : ℕ) → rest ≡ byte ∷ tail → is_decimal byte ≡ true → HasNoFront (if_all is_real_rest RealDelay) tail
    → HasFront hash_rest rest Symbol 0
unfolding hash_rest if_all
hash_whole rest tail byte e digit front =
    at_rest hash_rest rest (byte ∷ tail) Symbol 0 e
    (ends_at hash_rest (if_all is_real_rest RealDelay) byte tail Symbol (λ m. ap (λ b. when (b && is_real_rest m) RealDelay) digit) front refl)

pub hash_other : (rest tail : List ℕ) (byte : ℕ) → rest ≡ byte ∷ tail → is_decimal byte ≡ false → HasFront hash_rest rest Symbol 0
unfolding hash_rest
hash_other rest tail byte e digit =
    at_rest hash_rest rest (byte ∷ tail) Symbol 0 e
    (ends_here hash_rest byte tail Symbol (λ m. ap (λ b. when (b && is_real_rest m) RealDelay) digit) refl)

pub ruleset hash_rows = (hash_alone, hash_real, hash_whole, hash_other)
