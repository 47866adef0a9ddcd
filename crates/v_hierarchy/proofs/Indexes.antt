-- A whole number as an index, by how far it lies from 0.
use Rattle.std.proofs.Common.{◌≡◌, ℕ, ◌<◌, ◌≤◌, true, false, Some, None, arith}
use Rattle.std.specs.Prelude.{ℤ, pos, negsuc, ◌-ℤ◌, if◌then◌else◌, Option}
use Rattle.v_sizes.specs.Operations.{is_below_0, magnitude}
use Rattle.v_hierarchy.specs.Constants.{is_index}

abbrev as_index : ℤ → Option ℤ
as_index z = if is_index z then Some z else None

pub far : (z : ℤ) (d : ℕ) → d ≡ magnitude z → 2147483648 < d → as_index z ≡ None
far (pos n) d is more = grind arith
far (negsuc n) d is more = grind arith

pub below : (z : ℤ) (d : ℕ) → d ≡ magnitude z → is_below_0 z ≡ true → d ≤ 2147483648 → Some (pos 0 -ℤ pos d) ≡ as_index z
below (pos n) d is low most = grind arith
below (negsuc n) d is low most = grind arith

pub above : (z : ℤ) (d : ℕ) → d ≡ magnitude z → is_below_0 z ≡ false → d < 2147483648 → Some (pos d) ≡ as_index z
above (pos n) d is high most = grind arith
above (negsuc n) d is high most = let e : true ≡ false = high in cc

pub ruleset index_laws = (far, below, above)
