-- What an expression means in an assignment of a width, 0 for none (IEEE 1364-2005, 5.4 and 5.5): its value in whole numbers, by the bits of
-- the signals, at the width and the sign that the assignment gives it.
use Rattle.std.specs.Prelude.{ℕ, Bool}
use Rattle.v_syntax.specs.Tree.{Tree}
use Rattle.design_core.specs.Valuation.{Valuation}
use Rattle.v_sizes.specs.Look.{Look}
use Rattle.v_sizes.specs.Sizing.{sizing}
use Rattle.v_sizes.specs.Context.{context_width, context_sign}

abbrev pub meaning_in : Look → Tree → ℕ → Bool → Valuation → ℕ
meaning_in look e context unsigned V = (sizing look e).value V (context_width look e context) (context_sign look e unsigned)
