-- What an unrolled form keeps, and what is read of it.
use Rattle.std.specs.Prelude.{ℕ, ◌≡◌, ◌+◌, ◌*◌, ◌<◌, ◌≤◌, false, List, [], ◌∷◌, length, get_or, slice_get, Some}
use Rattle.loc_base.specs.Rows.{EndsAscend}
use Rattle.gate_base.specs.declared.literal.Literal.{Literal}
use Rattle.gate_base.specs.declared.literal.Literal.TheVariants as of
use Rattle.gate_base.specs.Literals.{IsBelow}
use Rattle.gate_base.specs.Nodes.{AreOrdered}
use Rattle.unroller.specs.declared.unrolled_lit.UnrolledLit.{UnrolledLit}
use Rattle.unroller.specs.declared.unrolled_lit.UnrolledLit.TheVariants as lit
use Rattle.unroller.specs.Unrolls.{Unrolling, variables_of}

-- each literal of a word is a constant or of a definition with a number below that
abbrev pub IsWordBelow : ℕ → List Literal → Type 0
IsWordBelow n [] = Unit {0}
IsWordBelow n (x ∷ xs) = IsBelow n x × IsWordBelow n xs

-- and each literal of the words
abbrev pub AreWordsBelow : ℕ → List (List Literal) → Type 0
AreWordsBelow n [] = Unit {0}
AreWordsBelow n (xs ∷ words) = IsWordBelow n xs × AreWordsBelow n words

-- each of the words has so many literals
abbrev pub AreAsLong : ℕ → List (List Literal) → Type 0
AreAsLong n [] = Unit {0}
AreAsLong n (xs ∷ words) = (length xs ≡ n) × AreAsLong n words

-- what is kept from cycle to cycle
pub record AreKept (u : Unrolling) : Type 0 where
  -- operands are of definitions before, those of an AND of two different ones
  pub ordered : AreOrdered u.definitions
  -- the cycles' definitions follow each other
  pub ends : EndsAscend 0 u.ends (length u.definitions)
  -- outputs and free bits are constants or of definitions, so many in each cycle
  pub outputs : AreWordsBelow (length u.definitions) u.outputs
  pub frees : AreWordsBelow (length u.definitions) u.frees
  pub outputs_each : length u.outputs ≡ length u.ends * u.each
  pub expected_each : length u.expected ≡ length u.ends * u.each
  pub frees_each : length u.frees ≡ length u.ends
  pub bits_each : AreAsLong (length u.bits) u.frees

-- what an unrolled form keeps: it has no more variables than it may have
pub record IsUnrolled (u : Unrolling) : Type 0 where
  pub some : 1 ≤ u.base
  pub within : variables_of u ≤ 4000000
  pub kept : AreKept u

-- the literal that a literal over definitions is, the first of which has the variable `base`
abbrev pub unrolled_lit : ℕ → Literal → UnrolledLit
unrolled_lit base (of.Known value) = lit.Const value
unrolled_lit base (of.Of node negated) = lit.Of (record { var = base + node; negated = negated })

-- the number of a cycle of a trace among all cycles
abbrev pub moment_of : Unrolling → ℕ → ℕ → ℕ
moment_of u trace cycle = get_or u.firsts trace 0 + cycle

-- the number of the first cycle behind a trace: that of the next trace, or of all cycles
abbrev pub end_of : Unrolling → ℕ → ℕ
end_of u trace = get_or u.firsts (trace + 1) (length u.ends)

-- the literals of an output in a cycle
abbrev pub output_at : Unrolling → ℕ → ℕ → ℕ → List Literal
output_at u trace cycle output = get_or u.outputs (moment_of u trace cycle * u.each + output) []

-- the cycle of the trace is there
pub record HasCycle (u : Unrolling) (trace cycle : ℕ) : Type 0 where
  pub in_traces : trace < length u.firsts
  pub in_cycles : moment_of u trace cycle < length u.ends
  pub in_trace : moment_of u trace cycle < end_of u trace

-- and the bit of the output
pub record HasOutput (u : Unrolling) (trace cycle output bit : ℕ) : Type 0 where
  pub in_trace : HasCycle u trace cycle
  pub in_outputs : output < u.each
  pub in_word : bit < length (output_at u trace cycle output)

-- the bit of the place is the free bit of that number
abbrev pub IsFreeBit : Unrolling → ℕ → ℕ → ℕ → Type 0
IsFreeBit u place bit column = slice_get u.bits column ≡ Some (record { place = place; bit = bit })

-- the bit of the place is one of the free bits
pub record HasFreeBit (u : Unrolling) (place bit : ℕ) : Type 0 where
  pub column : ℕ
  pub is : IsFreeBit u place bit column

-- and the cycle of the trace is there
pub record HasFree (u : Unrolling) (trace cycle place bit : ℕ) : Type 0 where
  pub in_trace : HasCycle u trace cycle
  pub in_bits : HasFreeBit u place bit

-- the literal of a free bit in a cycle
abbrev pub free_at : Unrolling → ℕ → ℕ → UnrolledLit
free_at u moment column = unrolled_lit u.base (get_or (get_or u.frees moment []) column (of.Known false))

-- the literal is that of the bit of the place in the cycle
pub record IsFreeAt (u : Unrolling) (moment place bit : ℕ) (l : UnrolledLit) : Type 0 where
  pub column : ℕ
  pub of_bit : IsFreeBit u place bit column
  pub is : l ≡ free_at u moment column
