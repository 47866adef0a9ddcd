-- Hex digits and the numbers that they spell.
use Rattle.std.proofs.Common.{◌≡◌, ◌≢◌, ◌⊎◌, inl, inr, ℕ, zero, suc, ◌+◌, ◌*◌, ◌/◌, ◌%◌, ◌^◌, ◌<◌, ◌≤◌, cond, List, [], ◌∷◌, ◌++◌, length, get_or, take, ◌-◌}
use Rattle.std.proofs.Common.{refl, sym, ap, ap₂, ◌∙◌, subst, arith, add-one, length-append}
use Rattle.std.specs.Prelude.{IfNone, None, Option, Some}
use Rattle.std.proofs.lemmas.Bool.{cases_lt, lt-ltb, le-ltb}
use Rattle.std.proofs.lemmas.List.{get_or_append_left, get_or_at, get_or_default, same_from_push, take_all, take_more}
use Rattle.std.proofs.lemmas.Nat.{div-mul-add, mod-mul-add, pow-add}
use Rattle.std.proofs.Math.Nat.{pow-suc}
use Rattle.std.proofs.Math.Pow.{pow_mono}
use Rattle.loc_base.specs.declared.bits.Bits.{Bits}
use Rattle.loc_base.specs.Bits.{value_of, value_of-range, width_of}
use Rattle.printed_text.specs.Numerals.{hex, hex_digit}
use Rattle.report_sets.specs.Found.{word_text}

-- ---- digits
digit-low : (digit : ℕ) → digit < 10 → hex_digit digit ≡ 48 + digit
digit-low digit low = ap (λ b. cond b (48 + digit) (87 + digit)) (lt-ltb digit 10 low)

digit-high : (digit : ℕ) → 10 ≤ digit → hex_digit digit ≡ 87 + digit
digit-high digit high = ap (λ b. cond b (48 + digit) (87 + digit)) (le-ltb digit 10 high)

pub digit-numeral : (byte : ℕ) → 48 ≤ byte → byte ≤ 57 → hex_digit (byte - 48) ≡ byte
digit-numeral byte least most = digit-low (byte - 48) (omega arith) ∙ omega arith

pub digit-letter : (byte : ℕ) → 97 ≤ byte → byte ≤ 102 → hex_digit (byte - 87) ≡ byte
digit-letter byte least most = digit-high (byte - 87) (omega arith) ∙ omega arith

-- a digit is one of the bytes from 48 to 57 and from 97 to 102
pub digit-among : (digit : ℕ) → digit < 16 → ((48 ≤ hex_digit digit) × (hex_digit digit ≤ 57)) ⊎ ((97 ≤ hex_digit digit) × (hex_digit digit ≤ 102))
digit-among digit small = at (cases_lt digit 10)
  where
    at : (digit < 10) ⊎ (10 ≤ digit) → ((48 ≤ hex_digit digit) × (hex_digit digit ≤ 57)) ⊎ ((97 ≤ hex_digit digit) × (hex_digit digit ≤ 102))
    at (inl low) = inl (omega (arith, digit-low digit low), omega (arith, digit-low digit low))
    at (inr high) = inr (omega (arith, digit-high digit high), omega (arith, digit-high digit high))

-- two digits of one byte are one
digit-same : (one other : ℕ) → one < 16 → other < 16 → hex_digit one ≡ hex_digit other → one ≡ other
digit-same one other small few same = at (cases_lt one 10) (cases_lt other 10)
  where
    at : (one < 10) ⊎ (10 ≤ one) → (other < 10) ⊎ (10 ≤ other) → one ≡ other
    at (inl a) (inl b) = omega (arith, digit-low one a, digit-low other b, same)
    at (inl a) (inr b) = omega (arith, digit-low one a, digit-high other b, same)
    at (inr a) (inl b) = omega (arith, digit-high one a, digit-low other b, same)
    at (inr a) (inr b) = omega (arith, digit-high one a, digit-high other b, same)

-- ---- numbers
pub length-hex : (count number : ℕ) → length (hex count number) ≡ count
unfolding hex
length-hex zero number = refl
length-hex (suc count) number =
    omega (arith, length-append (hex count (number / 16)) (hex_digit (number % 16) ∷ []), length-hex count (number / 16))

pub hex-none : (number : ℕ) → hex 0 number ≡ []
unfolding hex
hex-none number = refl

-- one digit more
pub hex-more : (count number digit : ℕ) → digit < 16 → hex (count + 1) (number * 16 + digit) ≡ hex count number ++ hex_digit digit ∷ []
unfolding hex
hex-more count number digit small =
    ap (λ n. hex n (number * 16 + digit)) (add-one count)
    ∙ ap₂ (λ rest last. hex count rest ++ hex_digit last ∷ []) (div-mul-add number 16 digit small) (mod-mul-add number 16 digit small)

-- each byte is a digit
pub hex-digits : (count number place : ℕ) → place < count → (digit : ℕ) × (digit < 16) × (get_or (hex count number) place 0 ≡ hex_digit digit)
unfolding hex
hex-digits zero number place within = absurd (omega (arith, within))
hex-digits (suc count) number place within = at (cases_lt place count) (hex-digits count (number / 16) place)
  where
    long : length (hex count (number / 16)) ≡ count
    long = length-hex count (number / 16)

    at : (place < count) ⊎ (count ≤ place)
        → (place < count → (digit : ℕ) × (digit < 16) × (get_or (hex count (number / 16)) place 0 ≡ hex_digit digit))
        → (digit : ℕ) × (digit < 16) × (get_or (hex count (number / 16) ++ hex_digit (number % 16) ∷ []) place 0 ≡ hex_digit digit)
    at (inl before) rest =
        let (digit, small, is) = rest before in
        (digit, small, get_or_append_left (hex count (number / 16)) (hex_digit (number % 16) ∷ []) 0 place (omega (arith, before, long)) ∙ is)
    at (inr last) rest = (
      number % 16,
      omega arith,
      get_or_at (hex count (number / 16)) (hex_digit (number % 16)) [] 0 place (omega (arith, last, within, long)),
    )

-- two numbers of so many digits, which are the same, are one
pub hex-same : (count one other : ℕ) → one < 16 ^ count → other < 16 ^ count → hex count one ≡ hex count other → one ≡ other
unfolding hex
hex-same zero one other small few same = let a : one < 1 = small in let b : other < 1 = few in omega (arith, a, b)
hex-same (suc count) one other small few same =
    let (front, last) = same_from_push (hex count (one / 16)) (hex count (other / 16)) (hex_digit (one % 16)) (hex_digit (other % 16)) same in
    let power : 16 ^ suc count ≡ 16 ^ count * 16 = pow-suc 16 count in
    let high : one / 16 ≡ other / 16 =
    hex-same count (one / 16) (other / 16) (omega (arith, power, small)) (omega (arith, power, few)) front in
    let low : one % 16 ≡ other % 16 = digit-same (one % 16) (other % 16) (omega arith) (omega arith) last in
    omega (arith, high, low)

pub below-more : (count number digit : ℕ) → number < 16 ^ count → digit < 16 → number * 16 + digit < 16 ^ (count + 1)
below-more count number digit small few =
    let power : 16 ^ suc count ≡ 16 ^ count * 16 = pow-suc 16 count in
    let next : 16 ^ (count + 1) ≡ 16 ^ suc count = ap (λ n. 16 ^ n) (add-one count) in
    omega (arith, power, next, small, few)

-- ---- words
sixteens : (count : ℕ) → 16 ^ count ≡ 2 ^ (4 * count)
sixteens zero = refl
sixteens (suc count) =
    let power : 16 ^ suc count ≡ 16 ^ count * 16 = pow-suc 16 count in
    let more : 2 ^ (4 * count + 4) ≡ 2 ^ (4 * count) * 16 = pow-add 2 (4 * count) 4 in
    let next : 2 ^ (4 * suc count) ≡ 2 ^ (4 * count + 4) = ap (λ n. 2 ^ n) (omega arith) in
    omega (arith, power, more, next, sixteens count)

-- a word has digits for its value
pub word-below : (word : Bits) → value_of word < 16 ^ ((width_of word + 3) / 4)
word-below word =
    let most : 2 ^ width_of word ≤ 2 ^ (4 * ((width_of word + 3) / 4)) =
    pow_mono {i = width_of word} {j = 4 * ((width_of word + 3) / 4)} (omega arith) in
    omega (arith, most, sixteens ((width_of word + 3) / 4), value_of-range word)

pub length-word_text : (word : Bits) → length (word_text word) ≡ (width_of word + 3) / 4
length-word_text word = length-hex ((width_of word + 3) / 4) (value_of word)

-- two words of one width and one text have one value
pub word_text-same : (one other : Bits) → width_of one ≡ width_of other → word_text one ≡ word_text other → value_of one ≡ value_of other
word_text-same one other wide same =
    let count : (width_of other + 3) / 4 ≡ (width_of one + 3) / 4 = ap (λ w. (w + 3) / 4) (sym wide) in
    hex-same ((width_of one + 3) / 4) (value_of one) (value_of other) (word-below one)
    (subst (λ n. value_of other < 16 ^ n) count (word-below other))
    (same ∙ ap (λ n. hex n (value_of other)) count)

-- the text of a word whose width asks for so many digits
pub text-of_word : (word : Bits) (width count : ℕ) → width_of word ≡ width → (width + 3) / 4 ≡ count → word_text word ≡ hex count (value_of word)
text-of_word word width count wide long = ap (λ n. hex n (value_of word)) (ap (λ w. (w + 3) / 4) wide ∙ long)

-- a text of another length is none of a word of the width
pub no-word_long : (width : ℕ) (text : List ℕ) → length text ≢ (width + 3) / 4 → (word : Bits) → width_of word ≡ width → word_text word ≢ text
no-word_long width text other word wide same =
    other (ap length (sym same) ∙ length-word_text word ∙ ap (λ w. (w + 3) / 4) wide)

-- a text that spells no number is none
pub no-word_number : (width : ℕ) (text : List ℕ) → (width + 3) / 4 ≡ length text → ((number : ℕ) → hex (length text) number ≢ text)
    → (word : Bits) → width_of word ≡ width → word_text word ≢ text
no-word_number width text long none word wide same = none (value_of word) (sym (text-of_word word width (length text) wide long) ∙ same)

-- one whose number has more bits is none
pub no-word_great : (width number : ℕ) (text : List ℕ) → (width + 3) / 4 ≡ length text → number < 16 ^ length text
    → hex (length text) number ≡ text → ¬ (number < 2 ^ width) → (word : Bits) → width_of word ≡ width → word_text word ≢ text
no-word_great width number text long small is great word wide same =
    let count : (width_of word + 3) / 4 ≡ length text = ap (λ w. (w + 3) / 4) wide ∙ long in
    let value : value_of word ≡ number =
    hex-same (length text) (value_of word) number (subst (λ n. value_of word < 16 ^ n) count (word-below word)) small
    (sym (text-of_word word width (length text) wide long) ∙ (same ∙ sym is)) in
    great (subst (λ n. n < 2 ^ width) value (subst (λ w. value_of word < 2 ^ w) wide (value_of-range word)))

pub ruleset digit_rules = (digit-numeral, digit-letter)

-- ---- a text, digit by digit
pub none-spelled : (text : List ℕ) → (0 < 16 ^ 0) × (hex 0 0 ≡ take 0 text)
none-spelled text = (omega arith, hex-none 0)

-- the number of one digit more
pub more-spelled : (text : List ℕ) (place number digit byte : ℕ) → place < length text → byte ≡ get_or text place byte → digit < 16
    → hex_digit digit ≡ byte → (number < 16 ^ place) × (hex place number ≡ take place text)
    → (number * 16 + digit < 16 ^ (place + 1)) × (hex (place + 1) (number * 16 + digit) ≡ take (place + 1) text)
more-spelled text place number digit byte within is small spells (below, front) = (
  below-more place number digit below small,
  hex-more place number digit small ∙ ap₂ (λ xs (x : ℕ). xs ++ x ∷ []) front (spells ∙ is) ∙ sym (take_more text place byte within),
)

-- a byte that is no digit
pub none-digit : (text : List ℕ) (place byte : ℕ) → place < length text → byte ≡ get_or text place byte
    → ((digit : ℕ) → digit < 16 → hex_digit digit ≢ byte) → (number : ℕ) → hex (length text) number ≢ text
none-digit text place byte within is none number same =
    let (digit, small, at) = hex-digits (length text) number place within in
    none digit small (sym at ∙ ap (λ t. get_or t place 0) same ∙ sym (is ∙ get_or_default text place byte 0 within))

pub all-spelled : (text : List ℕ) (place number : ℕ) → length text ≤ place → place ≤ length text
    → (number < 16 ^ place) × (hex place number ≡ take place text)
    → (number < 16 ^ length text) × (hex (length text) number ≡ text)
all-spelled text place number past most (below, front) =
    let long : place ≡ length text = omega (arith, past, most) in
    (subst (λ n. number < 16 ^ n) long below, ap (λ n. hex n number) (sym long) ∙ (front ∙ take_all place text past))

-- the number fits 128 bits
pub spelled-fits : (text : List ℕ) (place number digit : ℕ) → length text ≤ 32 → place < length text → digit < 16 → number < 16 ^ place
    → number * 16 + digit < 2 ^ 128
spelled-fits text place number digit few within small below =
    let more : number * 16 + digit < 16 ^ (place + 1) = below-more place number digit below small in
    let most : 2 ^ (4 * (place + 1)) ≤ 2 ^ 128 = pow_mono {i = 4 * (place + 1)} {j = 128} (omega (arith, few, within)) in
    omega (arith, more, most, sixteens (place + 1))

pub ruleset number_rules = (none-spelled, more-spelled, none-digit, all-spelled, spelled-fits)

pub ruleset word_rules = (no-word_long, no-word_number, no-word_great)

-- a fact that holds anyhow
pub if-none : (r : Option ℕ) (P : Type 0) → P → IfNone r P
if-none None P holds = holds
if-none (Some n) P holds = tt
