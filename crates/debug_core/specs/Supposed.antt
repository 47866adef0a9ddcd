-- Bits whose literals stand in a form; only private contracts cite it.
use Rattle.std.specs.Prelude.{ℕ, ◌≤◌}
use Rattle.clause_base.specs.declared.literal.Lit.{Lit}
use Rattle.unroller.specs.declared.unrolled_lit.UnrolledLit.{UnrolledLit}
use Rattle.unroller.specs.declared.unrolled_lit.UnrolledLit.TheVariants as lit

-- the literal's variable is from 1 to vars
abbrev pub IsLitWithin : ℕ → Lit → Type 0
IsLitWithin vars l = (1 ≤ l.var) × (l.var ≤ vars)

-- the bit is a constant, or such a literal
abbrev pub IsBitWithin : ℕ → UnrolledLit → Type 0
IsBitWithin vars (lit.Const value) = Unit {0}
IsBitWithin vars (lit.Of l) = IsLitWithin vars l
