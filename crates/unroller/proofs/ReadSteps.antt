-- Entries of what an unrolled form keeps.
use Rattle.std.proofs.Common.{◌≡◌, ℕ, zero, suc, ◌+◌, ◌*◌, ◌<◌, false, List, [], ◌∷◌, length, get_or, arith}
use Rattle.std.proofs.Math.Nat.{mul_comm}
use Rattle.std.proofs.lemmas.Nat.{mul-add-lt}
use Rattle.std.proofs.lemmas.Option.{slice_get_within}
use Rattle.gate_base.specs.declared.literal.Literal.{Literal}
use Rattle.gate_base.specs.declared.literal.Literal.TheVariants.{Known}
use Rattle.gate_base.specs.Literals.{IsBelow}
use Rattle.unroller.specs.Unrolls.{Unrolling}
use Rattle.unroller.specs.Reads.{IsWordBelow, AreWordsBelow, AreAsLong, IsUnrolled, IsFreeBit}

-- a literal of a word, false behind the last
pub literal-below : (n : ℕ) (xs : List Literal) (b : ℕ) → IsWordBelow n xs → IsBelow n (get_or xs b (Known false))
literal-below n [] b below = tt
literal-below n (x ∷ xs) zero below = below.0
literal-below n (x ∷ xs) (suc b) below = literal-below n xs b below.1

-- a word, none behind the last
pub word-below : (n : ℕ) (words : List (List Literal)) (i : ℕ) → AreWordsBelow n words → IsWordBelow n (get_or words i [])
word-below n [] i below = tt
word-below n (xs ∷ words) zero below = below.0
word-below n (xs ∷ words) (suc i) below = word-below n words i below.1

pub as-long : (n : ℕ) (words : List (List Literal)) (i : ℕ) → AreAsLong n words → i < length words → length (get_or words i []) ≡ n
as-long n [] i long within = absurd (omega (arith, within))
as-long n (xs ∷ words) zero long within = long.0
as-long n (xs ∷ words) (suc i) long within = as-long n words i long.1 (omega (arith, within))

module _ (u : Unrolling) (kept : IsUnrolled u) where
  -- an output of a cycle is there
  pub output-within : (moment output : ℕ) → moment < length u.ends → output < u.each → moment * u.each + output < length u.outputs
  output-within moment output in_ends in_each =
      omega (arith, kept.kept.outputs_each, mul_comm u.each (length u.ends), mul-add-lt moment u.each output (length u.ends) in_ends in_each)

  pub output-below : (row bit : ℕ) → IsBelow (length u.definitions) (get_or (get_or u.outputs row []) bit (Known false))
  output-below row bit =
      literal-below (length u.definitions) (get_or u.outputs row []) bit (word-below (length u.definitions) u.outputs row kept.kept.outputs)

  pub free-below : (row bit : ℕ) → IsBelow (length u.definitions) (get_or (get_or u.frees row []) bit (Known false))
  free-below row bit =
      literal-below (length u.definitions) (get_or u.frees row []) bit (word-below (length u.definitions) u.frees row kept.kept.frees)

  pub free-within : (row column place bit : ℕ) → row < length u.ends → IsFreeBit u place bit column → column < length (get_or u.frees row [])
  free-within row column place bit in_ends is =
      omega (arith, as-long (length u.bits) u.frees row kept.kept.bits_each (omega (arith, in_ends, kept.kept.frees_each)), slice_get_within u.bits column _ is)

pub column-within : (u : Unrolling) (column place bit : ℕ) → IsFreeBit u place bit column → column < length u.bits
column-within u column place bit is = slice_get_within u.bits column _ is

pub ruleset reads = (output-within, output-below, free-below, free-within, column-within)
