-- The places that are noted in a table, and the columns of their bits; only private contracts cite it.
use Rattle.std.specs.Prelude.{ℕ, zero, suc, ◌≡◌, ◌+◌, ◌<◌, ◌≤◌, Bool, if◌then◌else◌, List, [], ◌∷◌, ◌++◌, length, get_or, slice_get, Some}
use Rattle.design_core.specs.Valuation.{number}
use Rattle.unroller.specs.declared.free_bit.FreeBit.{FreeBit}
use Rattle.unroller.specs.Reads.{free_at}
use Rattle.unroller.specs.Unrolls.{Unrolling}
use Rattle.form_laws.specs.Models.{column_of, value_in}
use Rattle.form_values.specs.ModelValues.{width_in}

-- the numbers of the entries that are true, of which the first has a number
abbrev pub numbers_of : ℕ → List Bool → List ℕ
numbers_of i [] = []
numbers_of i (b ∷ bs) = if b then i ∷ numbers_of (i + 1) bs else numbers_of (i + 1) bs

-- none of the free bits from one on is that bit of that place
abbrev pub IsAbsent : List FreeBit → ℕ → ℕ → ℕ → Type 0
IsAbsent bits from place bit = (i : ℕ) → from ≤ i → slice_get bits i ≡ Some (record { place = place; bit = bit }) → ⊥

-- those before a number have no other of the same bit behind them
abbrev pub AreApart : List FreeBit → ℕ → Type 0
AreApart bits n =
    (one other place bit : ℕ) → one < n → one < other → slice_get bits one ≡ Some (record { place = place; bit = bit })
    → slice_get bits other ≡ Some (record { place = place; bit = bit }) → ⊥

-- the columns of the bits of a place below one
abbrev pub columns_to : List FreeBit → ℕ → ℕ → List ℕ
columns_to bits place zero = []
columns_to bits place (suc bit) = columns_to bits place bit ++ column_of bits place bit ∷ []

-- those of all its bits
abbrev pub columns_of : List FreeBit → ℕ → List ℕ
columns_of bits place = columns_to bits place (width_in bits place)

-- from 1 to 128 columns of a form
pub record AreColumns (u : Unrolling) (columns : List ℕ) : Type 0 where
  pub some : 1 ≤ length columns
  pub few : length columns ≤ 128
  pub within : (bit : ℕ) → bit < length columns → get_or columns bit 0 < length u.bits

-- what an assignment gives to the literals of columns in a cycle, and the number of which those are the bits
abbrev pub column_bit : (ℕ → Bool) → Unrolling → ℕ → List ℕ → ℕ → Bool
column_bit a u moment columns bit = value_in a (free_at u moment (get_or columns bit 0))

abbrev pub columns_number : (ℕ → Bool) → Unrolling → ℕ → List ℕ → ℕ
columns_number a u moment columns = number (length columns) (column_bit a u moment columns)
