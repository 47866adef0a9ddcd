-- The identifier codes of variables (IEEE 1364-2005, 18.2): words of the printable characters from `!` to `~`.
use Rattle.std.specs.Prelude.{ℕ, zero, suc, ◌≡◌, ◌<◌, ◌+◌, ◌-◌, ◌*◌, ◌/◌, ◌%◌, ◌^◌, Bool, nat_le, ◌&&◌, ◌==◌, if◌then◌else◌, IsTrue, List, [], ◌∷◌, length, Option, None, Some}
use Rattle.std.specs.List.{list_all}
use Rattle.loc_base.specs.Ascii.{is_visible}

-- the digits of a number in base 94, the least first, each as the byte 33 plus the digit: no more than a number of them
unfoldable pub code_from : ℕ → ℕ → List ℕ
code_from zero number = []
code_from (suc most) number = (33 + number % 94) ∷ (if number / 94 == 0 then [] else code_from most (number / 94))

-- the code of the variable with a number below 2 ^ 64, which has at most ten digits
abbrev pub code_of : ℕ → List ℕ
code_of number = code_from 10 number

-- the number that a code was written for
abbrev pub number_of : List ℕ → ℕ
number_of [] = 0
number_of (byte ∷ code) = byte - 33 + 94 * number_of code

-- the place of a code among all codes: its number with digits from 1 to 94, which tells `!!` from `!`
abbrev pub place_of : List ℕ → ℕ
place_of [] = 0
place_of (byte ∷ code) = byte - 32 + 94 * place_of code

-- a code of at most nine characters
abbrev pub is_short_code : List ℕ → Bool
is_short_code code = nat_le 1 (length code) && nat_le (length code) 9 && list_all is_visible code

-- the place of a word that is such a code
abbrev pub place_in : List ℕ → Option ℕ
place_in code = if is_short_code code then Some (place_of code) else None

-- what holds of codes
pub record CodeLaws : Type 0 where
  -- the number is read back from its code, so that different numbers have different codes
  pub reads_back : (number : ℕ) → number < 2 ^ 64 → number_of (code_of number) ≡ number
  pub code_bytes : (number : ℕ) → IsTrue (list_all is_visible (code_of number))
  -- different codes have different places
  pub places_differ : (one other : List ℕ) → IsTrue (list_all is_visible one) → IsTrue (list_all is_visible other)
      → place_of one ≡ place_of other → one ≡ other
