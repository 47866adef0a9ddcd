-- What rows define and read (Biere, The AIGER And-Inverter Graph (AIG) Format, 2007): a variable is defined by the input, latch or
-- AND whose literal is twice it, and an even literal is negated by 1 more.
use Rattle.std.specs.Prelude.{ℕ, ◌≡◌, ◌+◌, ◌*◌, ◌/◌, ◌%◌, ◌<◌, ◌==◌, Bool, true, false, not, ◌&&◌, ◌||◌, nat_lt, nat_le, is_some, List, map, slice_get, Option, None, Some}
use Rattle.std.specs.Option.{option_map_or}
use Rattle.aiger_text.specs.declared.row.Row.{Row}
use Rattle.aiger_text.specs.declared.row.Row.TheVariants.{Input, Latch, Output, And}
use Rattle.aiger_text.specs.Content.{Content}
use Rattle.aiger_rules.specs.First.{is_key, first_of}

-- the literal that a row defines
abbrev pub defined : Row → Option ℕ
defined (Input literal) = Some literal
defined (Latch literal next) = Some literal
defined (Output literal) = None
defined (And literal left right) = Some literal

-- whether a literal that a row reads passes a test
abbrev pub some_read : (ℕ → Bool) → Row → Bool
some_read test (Input literal) = false
some_read test (Latch literal next) = test next
some_read test (Output literal) = test literal
some_read test (And literal left right) = test left || test right

-- the literal that defines a literal's variable
abbrev pub even : ℕ → ℕ
even literal = literal / 2 * 2

-- the number of the first row that defines a literal
abbrev pub definer : List Row → ℕ → Option ℕ
definer rows literal = first_of (map defined rows) literal

-- whether the row of a number may not define a literal: it is odd, a constant, above the greatest, or an earlier row's
abbrev pub is_bad_definition : ℕ → (ℕ → Option ℕ) → ℕ → ℕ → Bool
is_bad_definition most definer number literal =
    literal % 2 == 1 || nat_lt literal 2 || nat_lt (2 * most) literal || not (is_key number (definer literal))

-- whether a literal may not be read: it is above the greatest, or no row defines its variable
abbrev pub is_bad_read : ℕ → (ℕ → Option ℕ) → ℕ → Bool
is_bad_read most definer literal = nat_lt (2 * most + 1) literal || nat_le 2 literal && not (is_some (definer (even literal)))

-- whether the row of a number has a literal that is wrong
abbrev pub misuses : ℕ → (ℕ → Option ℕ) → ℕ → Row → Bool
misuses most definer number row =
    option_map_or (is_bad_definition most definer number) (defined row) false || some_read (is_bad_read most definer) row

-- the same of the row of a number, where there is one
abbrev pub is_misuse : ℕ → List Row → ℕ → Bool
is_misuse most rows number = option_map_or (misuses most (definer rows) number) (slice_get rows number) false

-- no row has a wrong literal
abbrev pub IsUsedWell : Content → Type 0
IsUsedWell w = (number : ℕ) → is_misuse w.counts.most w.rows number ≡ false

-- the row of a number is the first that has one
pub record IsFirstMisuse (most : ℕ) (rows : List Row) (number : ℕ) : Type 0 where
  pub wrong : is_misuse most rows number ≡ true
  pub before : (k : ℕ) → k < number → is_misuse most rows k ≡ false

-- the line of that row, counted from 1
abbrev pub IsMisused : Content → ℕ → Type 0
IsMisused w line = (number : ℕ) × IsFirstMisuse w.counts.most w.rows number × (line ≡ number + 2)
