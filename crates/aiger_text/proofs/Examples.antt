-- Worked examples of texts of the ASCII format.
use Rattle.std.proofs.Common.{◌≡◌, ℕ, zero, suc, ◌<◌, true, false, List, [], ◌∷◌, drop, Some, None, refl, arith, inl}
use Rattle.std.specs.Prelude.{codes, slice_get}
use Rattle.aiger_text.specs.declared.row.Counts.{Counts}
use Rattle.aiger_text.specs.declared.row.Row.TheVariants as row
use Rattle.aiger_text.specs.declared.row.Section.{Section}
use Rattle.aiger_text.specs.declared.row.Section.TheVariants.{Inputs, Latches, Outputs}
use Rattle.aiger_text.specs.Lines.{lines}
use Rattle.aiger_text.specs.Numbers.{number_in, numbers_in}
use Rattle.aiger_text.specs.Rows.{header, header_in, row_at, row_of}
use Rattle.aiger_text.specs.Symbols.{PlainSymbol, symbol_in, first_symbol, is_end}
use Rattle.aiger_text.specs.Content.{Content, IsWritten}
use Rattle.aiger_text.specs.Refusals.{IsMisshapen}

-- ---- numbers

pub a_number_has_no_leading_zeros : (number_in (codes "0") ≡ Some 0) × (number_in (codes "10") ≡ Some 10) × (number_in (codes "02") ≡ None) × (number_in (codes "00") ≡ None)
a_number_has_no_leading_zeros = (refl, refl, refl, refl)

pub a_number_is_held_in_32_bits : (number_in (codes "4294967295") ≡ Some 4294967295) × (number_in (codes "4294967296") ≡ None) × (number_in (codes "99999999999") ≡ None)
a_number_is_held_in_32_bits = (refl, refl, refl)

pub a_number_is_digits_alone : (number_in [] ≡ None) × (number_in (codes "+1") ≡ None) × (number_in (codes "1a") ≡ None)
a_number_is_digits_alone = (refl, refl, refl)

pub words_are_separated_by_single_spaces : (numbers_in (codes "6 2 4") ≡ Some (6 ∷ 2 ∷ 4 ∷ [])) × (numbers_in (codes "6  2") ≡ None) × (numbers_in (codes "6 2 ") ≡ None) × (numbers_in (codes "6\t2") ≡ None)
words_are_separated_by_single_spaces = (refl, refl, refl, refl)

-- ---- headers

abbrev counts : ℕ → ℕ → ℕ → ℕ → ℕ → Counts
counts most inputs latches outputs ands = record { most = most; inputs = inputs; latches = latches; outputs = outputs; ands = ands }

pub a_header_has_five_counts : (header_in (codes "aag 3 2 0 1 1") ≡ Some (counts 3 2 0 1 1)) × (header_in (codes "aag 1 1 0 0") ≡ None) × (header_in (codes "aag 1 1 0 0 0 1") ≡ None)
a_header_has_five_counts = (refl, refl, refl)

pub a_header_begins_with_its_word : (header_in (codes "aig 3 2 0 1 1") ≡ None) × (header_in (codes "aag") ≡ None) × (header_in (codes " aag 3 2 0 1 1") ≡ None)
a_header_begins_with_its_word = (refl, refl, refl)

pub a_carriage_return_is_no_part_of_a_header : header_in (codes "aag 3 2 0 1 1\r") ≡ None
a_carriage_return_is_no_part_of_a_header = refl

pub a_header_is_ended : (header (lines (codes "aag 0 0 0 0 0")) ≡ None) × (header (lines (codes "aag 0 0 0 0 0\n")) ≡ Some (counts 0 0 0 0 0))
a_header_is_ended = (refl, refl)

-- ---- rows and symbols

pub a_latch_begins_at_0 : (row_of Latches (2 ∷ 3 ∷ []) ≡ Some (row.Latch 2 3)) × (row_of Latches (2 ∷ 3 ∷ 0 ∷ []) ≡ Some (row.Latch 2 3))
    × (row_of Latches (2 ∷ 3 ∷ 1 ∷ []) ≡ None) × (row_of Latches (2 ∷ 3 ∷ 2 ∷ []) ≡ None)
a_latch_begins_at_0 = (refl, refl, refl, refl)

abbrev symbol : Section → ℕ → List ℕ → PlainSymbol
symbol section position text = record { section = section; position = position; text = text }

pub a_name_is_all_behind_the_space : (symbol_in (codes "i0 a b") ≡ Some (symbol Inputs 0 (codes "a b"))) × (symbol_in (codes "o12 ") ≡ Some (symbol Outputs 12 []))
    × (symbol_in (codes "l1 r") ≡ Some (symbol Latches 1 (codes "r")))
a_name_is_all_behind_the_space = (refl, refl, refl)

pub a_symbol_has_a_space_and_a_position : (symbol_in (codes "i0") ≡ None) × (symbol_in (codes "i a") ≡ None) × (symbol_in (codes "i00 a") ≡ None)
    × (symbol_in (codes "i4294967296 a") ≡ None) × (symbol_in (codes "a0 a") ≡ None)
a_symbol_has_a_space_and_a_position = (refl, refl, refl, refl, refl)

pub a_comment_is_ended : (is_end (lines (codes "c\nall")) ≡ true) × (is_end (lines (codes "c")) ≡ false) × (is_end (lines []) ≡ true) × (is_end (lines (codes "x")) ≡ false)
a_comment_is_ended = (refl, refl, refl, refl)

-- ---- the half adder of the format's description: the sum is 6, the carry 12

abbrev half_adder : List ℕ
half_adder = codes "aag 7 2 0 2 3\n2\n4\n6\n12\n6 13 15\n12 2 4\n14 3 5\ni0 x\ni1 y\no0 s\no1 c\nc\nhalf adder\n"

abbrev adder : Content
adder = record {
  counts = counts 7 2 0 2 3;
  rows = row.Input 2 ∷ row.Input 4 ∷ row.Output 6 ∷ row.Output 12 ∷ row.And 6 13 15 ∷ row.And 12 2 4 ∷ row.And 14 3 5 ∷ [];
  symbols = symbol Inputs 0 (codes "x") ∷ symbol Inputs 1 (codes "y") ∷ symbol Outputs 0 (codes "s") ∷ symbol Outputs 1 (codes "c") ∷ [];
}

adder_rows : (k : ℕ) → k < 7 → row_at (drop 1 (lines half_adder)) adder.counts k ≡ slice_get adder.rows k
adder_rows zero below = refl
adder_rows (suc zero) below = refl
adder_rows (suc (suc zero)) below = refl
adder_rows (suc (suc (suc zero))) below = refl
adder_rows (suc (suc (suc (suc zero)))) below = refl
adder_rows (suc (suc (suc (suc (suc zero))))) below = refl
adder_rows (suc (suc (suc (suc (suc (suc zero)))))) below = refl
adder_rows (suc (suc (suc (suc (suc (suc (suc k))))))) below = absurd (omega (arith, below))

adder_symbols : (p : ℕ) → p < 4 → first_symbol (drop p (drop 7 (drop 1 (lines half_adder)))) ≡ slice_get adder.symbols p
adder_symbols zero below = refl
adder_symbols (suc zero) below = refl
adder_symbols (suc (suc zero)) below = refl
adder_symbols (suc (suc (suc zero))) below = refl
adder_symbols (suc (suc (suc (suc p)))) below = absurd (omega (arith, below))

pub a_half_adder_is_written : IsWritten half_adder adder
a_half_adder_is_written = record {
  header = refl;
  behind = record { rows = record { long = refl; each = adder_rows }; symbols = record { each = adder_symbols; end = refl } };
}

-- ---- an input is lacking

pub a_row_that_is_lacking_is_named : IsMisshapen (codes "aag 1 1 0 0 0\n") 2
a_row_that_is_lacking_is_named = record {
  counts = counts 1 1 0 0 0;
  header = refl;
  first = inl (0, record { due = omega arith; before = λ j below. absurd (omega (arith, below)); lacking = refl }, refl);
}
