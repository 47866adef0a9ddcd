-- A design that means something is not too large, and has no more outputs than signals.
use Rattle.std.proofs.Common.{◌≡◌, ℕ, ◌+◌, ◌<◌, ◌≤◌, ◌^◌, Bool, true, false, List, length, Option, None, refl, arith}
use Rattle.std.specs.Prelude.{◌||◌, nat_lt, eqb, Contains}
use Rattle.std.proofs.lemmas.Bool.{eqb-true, ltb-false, ltb-true, true≢false}
use Rattle.std.proofs.lemmas.Bool.Decides.{Decides-eqb}
use Rattle.std.proofs.lemmas.Map.Made.{IsDistinct-from_AllPairs}
use Rattle.std.proofs.lemmas.Map.Steps.{length-le_from_distinct_below}
use Rattle.std.proofs.lemmas.Map.Views.{Contains-from_any}
use Rattle.std.proofs.lemmas.Option.{none-some}
use Rattle.loc_base.proofs.ShelfLists.{list_all-member}
use Rattle.design_core.specs.declared.design.Design.{Design}
use Rattle.design_core.specs.WellFormed.{IsWellFormed, is_signal}
use Rattle.v_binding.specs.declared.error.BindErr.{BindErr}
use Rattle.v_binding.specs.declared.error.BindErr.TheVariants as fault
use Rattle.design_rules.specs.Size.{is_too_large}
use Rattle.v_hierarchy.specs.Instances.{Instance}
use Rattle.bind_rules.specs.Rules.{AtSize, Driven}
use Rattle.v_design.specs.Means.{beside_binding, IsMeant}

-- ---- size
small-of : (large : Bool) (Next : Option BindErr → Type 0) → AtSize large Next None → large ≡ false
small-of false Next at = refl
small-of true Next at = absurd (none-some fault.Places at)

pub meant-small : (list : List Instance) (clock : Option (List ℕ)) (d : Design) → IsMeant list clock d
    → is_too_large d ≡ false
meant-small list clock d meant = small-of (is_too_large d) (Driven d (beside_binding meant.is.lists)) meant.sound

neither : (a b : Bool) → (a || b) ≡ false → (a ≡ false) × (b ≡ false)
neither false b is = (refl, is)
neither true b is = absurd (true≢false is)

-- how many signals, places and drivers there are
pub record IsFew (d : Design) : Type 0 where
  pub signals : length d.signals.items ≤ 1048576
  pub places : length d.places.items ≤ 65536
  pub drivers : length d.drivers.items < 2 ^ 32

pub few-of : (d : Design) → is_too_large d ≡ false → IsFew d
few-of d small =
    let both = neither (nat_lt 65536 (length d.places.items) || nat_lt 1048576 (length d.signals.items)) _ small in
    let lists = neither (nat_lt 65536 (length d.places.items)) _ both.0 in
    let drivers = ltb-false 1048576 (length d.drivers.items + length d.clocked.items) both.1 in
    record {
      signals = ltb-false 1048576 (length d.signals.items) lists.1;
      places = ltb-false 65536 (length d.places.items) lists.0;
      drivers = omega (arith, drivers);
    }

-- ---- outputs
output-below : (d : Design) → IsWellFormed d → (q : ℕ) → Contains d.outputs.items q → q < length d.signals.items
output-below d well q there = ltb-true q (length d.signals.items)
    (list_all-member (is_signal d.signals.items) d.outputs.items q well.outputs there)

pub few-outputs : (d : Design) → IsWellFormed d → length d.signals.items < 2 ^ 32 → length d.outputs.items < 2 ^ 32
few-outputs d well few =
    let most : length d.outputs.items ≤ length d.signals.items =
    length-le_from_distinct_below d.outputs.items (length d.signals.items)
    (IsDistinct-from_AllPairs Decides-eqb d.outputs.items well.outputs_distinct)
    (λ q found. output-below d well q (Contains-from_any {eq = eqb} eqb-true q d.outputs.items found)) in
    omega (arith, most, few)
