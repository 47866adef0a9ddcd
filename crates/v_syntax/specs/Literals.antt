-- What a number stands for and what is wrong with it (IEEE 1364-2005, 3.5.1). Bounds of 32 and 128 bits, wildcard
-- digits and the refusal of unknown digits are this project's own.
use Rattle.std.specs.Prelude.{◌≡◌, ℕ, Bool, true, false, ◌+◌, ◌-◌, ◌*◌, ◌^◌, ◌||◌, List, [], ◌∷◌, take, drop, if◌then◌else◌, ◌==◌, nat_lt, Option, Some, None, Result, Ok, Err, position}
use Rattle.std.specs.List.{list_any, prefix_len}
use Rattle.v_syntax.specs.declared.token_kind.TokenKind.{TokenKind}
use Rattle.v_syntax.specs.declared.token_kind.TokenKind.TheVariants.{Number, Wild}
use Rattle.v_syntax.specs.declared.literal.NumberFault.{NumberFault}
use Rattle.v_syntax.specs.declared.literal.NumberFault.TheVariants.{Malformed, Unknown, Wide}
use Rattle.v_syntax.specs.Bytes.{between, is_white, is_decimal}
use Rattle.v_syntax.specs.Numbers.{is_sign, is_wild, is_unknown, is_hexadecimal, is_number}

-- the value of a digit; that of a wildcard is 0
unfoldable pub digit_value : ℕ → ℕ
digit_value byte =
    if is_decimal byte then byte - 48 else if between 97 102 byte then byte - 87 else if between 65 70 byte then byte - 55 else 0

-- the value of the digits up to this byte, from that of the digits before it; what is no digit doesn't count
abbrev pub next_value : ℕ → ℕ → ℕ → ℕ
next_value base value byte = if is_hexadecimal byte || is_wild byte then value * base + digit_value byte else value

-- the value of the digits behind others of this value
abbrev pub value_from : ℕ → ℕ → List ℕ → ℕ
value_from base value [] = value
value_from base value (byte ∷ rest) = value_from base (next_value base value byte) rest

-- the value of a run of digits
abbrev pub value_of : ℕ → List ℕ → ℕ
value_of base digits = value_from base 0 digits

-- the number that a base letter names
unfoldable pub base_of : ℕ → Option ℕ
base_of byte =
    if byte == 98 || byte == 66 then Some 2
    else if byte == 111 || byte == 79 then Some 8
    else if byte == 100 || byte == 68 then Some 10
    else if byte == 104 || byte == 72 then Some 16
    else None

-- what is wrong with a digit in a base
unfoldable pub digit_fault : ℕ → ℕ → Option NumberFault
digit_fault base byte =
    if is_unknown byte then Some Unknown
    else if is_wild byte then (if base == 10 then Some Unknown else None)
    else if is_hexadecimal byte then (if nat_lt (digit_value byte) base then None else Some Malformed)
    else None

-- the leftmost fault
abbrev pub digits_fault : ℕ → List ℕ → Option NumberFault
digits_fault base [] = None
digits_fault base (byte ∷ rest) = elim (digit_fault base byte) [ Some fault ↦ Some fault | None ↦ digits_fault base rest ]

-- the digits of a based number: their faults from the left, and a value too wide last
abbrev pub judge_digits : ℕ → List ℕ → Result TokenKind NumberFault
judge_digits base [] = Err Malformed
judge_digits base (byte ∷ rest) =
    elim (digits_fault base (byte ∷ rest)) [
      | Some fault ↦ Err fault
      | None ↦ if nat_lt (value_of base (byte ∷ rest)) (2 ^ 128) then Ok (if list_any is_wild (byte ∷ rest) then Wild else Number) else Err Wide
    ]

-- the bytes from the first that is no white space
abbrev pub skip_white : List ℕ → List ℕ
skip_white bytes = drop (prefix_len is_white bytes) bytes

-- the base letter and the digits behind it
abbrev pub judge_base : List ℕ → Result TokenKind NumberFault
judge_base [] = Err Malformed
judge_base (byte ∷ rest) = elim (base_of byte) [ Some base ↦ judge_digits base (skip_white rest) | None ↦ Err Malformed ]

-- what stands behind the quote
abbrev pub judge_based : List ℕ → Result TokenKind NumberFault
judge_based [] = Err Malformed
judge_based (byte ∷ rest) = if is_sign byte then judge_base rest else judge_base (byte ∷ rest)

-- a size is 1 to 128
abbrev pub is_bad_size : List ℕ → Bool
is_bad_size [] = false
is_bad_size (byte ∷ rest) = value_of 10 (byte ∷ rest) == 0 || nat_lt 128 (value_of 10 (byte ∷ rest))

-- a plain decimal number has 32 bits
abbrev pub judge_plain : List ℕ → Result TokenKind NumberFault
judge_plain digits = if nat_lt (value_of 10 digits) (2 ^ 32) then Ok Number else Err Wide

-- a number's kind, or what is wrong with it
unfoldable pub judge : List ℕ → Result TokenKind NumberFault
judge bytes =
    elim (position (λ byte. byte == 39) bytes) [
      | Some at ↦ if is_bad_size (take at bytes) then Err Wide else judge_based (drop (at + 1) bytes)
      | None ↦ judge_plain bytes
    ]

-- a number without wildcard digits, as it is written
abbrev pub IsNumber : List ℕ → Type 0
IsNumber text = (is_number text ≡ true) × (judge text ≡ Ok Number)

-- a number with wildcard digits, as it is written
abbrev pub IsWildNumber : List ℕ → Type 0
IsWildNumber text = (is_number text ≡ true) × (judge text ≡ Ok Wild)
