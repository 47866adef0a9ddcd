-- Ranges of 1 to 128 bits.
use Rattle.std.proofs.Common.{◌≡◌, ℕ, ◌+◌, ◌≤◌, Bool, true, false, refl, arith}
use Rattle.std.specs.Prelude.{if◌then◌else◌, ℤ, pos, negsuc, ◌-ℤ◌, ◌==◌, int_lt}
use Rattle.std.proofs.lemmas.Int.{ints}
use Rattle.v_sizes.specs.Selected.{at_least_0, count_between}
use Rattle.v_sizes.specs.Context.{HasRange}
use Rattle.design_core.specs.WellFormed.{spans}
use Rattle.design_core.specs.Valuation.{distance_of}
use Rattle.v_hierarchy.specs.declared.bounds.Bounds.{Bounds}
use Rattle.v_hierarchy.specs.Constants.{bounds, scalar, width, down_from}
use Rattle.v_hierarchy.specs.Stands.{IsRange}

-- a distance that is not below 0 is spanned by one more
spanned : (d : ℤ) (n : ℕ) → d ≡ pos n → spans (at_least_0 d + 1) d ≡ true
spanned (pos k) n is = grind arith
spanned (negsuc k) n is = cc

distance : (left right : ℤ) → spans (count_between left right) (distance_of left right left) ≡ true
distance left right = grind (arith, ints)

pub between : (left right : ℤ) → count_between left right ≤ 128 → IsRange (bounds left right)
between left right most = record { least = omega arith; most = most; range = distance left right }

pub ruleset range_laws = between

pub scalar_range : IsRange scalar
scalar_range = record { least = omega arith; most = omega arith; range = refl }
