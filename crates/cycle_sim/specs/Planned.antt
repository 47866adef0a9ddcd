-- What the steps of making a design's masks give.
use Rattle.std.specs.Prelude.{ℕ, ◌≡◌, ◌<◌, ◌≤◌, ◌++◌, ◌∷◌, [], Bool, false, not, ◌&&◌, ◌||◌, nat_lt, List, map, slice_get, Some}
use Rattle.std.specs.Option.{option_map_or}
use Rattle.design_core.specs.declared.signal.Signal.{Signal}
use Rattle.design_core.specs.declared.driver.Clocked.{Clocked}
use Rattle.design_core.specs.declared.design.Design.{Design}
use Rattle.loc_base.specs.declared.bits.Bits.{Bits}
use Rattle.loc_base.specs.Bits.{width_of}
use Rattle.design_core.specs.Words.{valuation_of}
use Rattle.design_core.specs.Drives.{is_reg, some_set, block_assigns_later}
use Rattle.cycle_sim.specs.declared.mask.Mask.{Mask}
use Rattle.cycle_sim.specs.declared.block.BlockMasks.{BlockMasks}
use Rattle.cycle_sim.specs.Collected.{set_drives}
use Rattle.cycle_sim.specs.Masks.{AreBlockMasks, AreMasksOf, IsSplit, covers, in_mask}

-- whether a bit is a variable's
abbrev pub is_full_bit : List Signal → ℕ → ℕ → Bool
is_full_bit signals s b = option_map_or (λ signal. is_reg signal.kind && nat_lt b signal.width) (slice_get signals s) false

-- whether a clocked block assigns a bit; where only `=` is asked for, by it
abbrev pub block_assigns : List Signal → Bool → Clocked → ℕ → ℕ → Bool
block_assigns signals only_now block s b =
    some_set (set_drives signals only_now s b) block.body || option_map_or
    (λ r. some_set (set_drives signals only_now s b) r.values) block.reset false

-- one more row of each kind
pub record Pushed (d : Design) (block : Clocked) (old new : BlockMasks) : Type 0 where
  pub own : List Mask
  pub at_once : List Mask
  pub now : List Mask
  pub own_last : new.own ≡ old.own ++ own ∷ []
  pub at_once_last : new.at_once ≡ old.at_once ++ at_once ∷ []
  pub now_last : new.now ≡ old.now ++ now ∷ []
  pub masks : AreBlockMasks d block own at_once now

-- the masks of the words of the first k signals, so far as they have 1 in a bit
pub record ListedSoFar (words : List Bits) (masks : List Mask) (k : ℕ) : Type 0 where
  pub widths : AreMasksOf (map width_of words) masks
  pub done : (s b : ℕ) → s < k → covers masks s b ≡ valuation_of words s b
  pub rest : (s b : ℕ) → k ≤ s → covers masks s b ≡ false

-- a mask is kept where its signal is not assigned by `<=` in a block
pub record Keeps (block : Clocked) (m : Mask) (old new : List Mask) : Type 0 where
  pub widths : (widths : List ℕ) → slice_get widths m.signal ≡ Some (width_of m.bits) → AreMasksOf widths old → AreMasksOf widths new
  pub same : (s b : ℕ) → covers new s b ≡ (covers old s b || (in_mask m s b && not (block_assigns_later s block)))

-- masks stay split where one more is put to their whole words or to their parts
abbrev pub Splits : Mask → List ℕ → List Mask → List ℕ → List Mask → Type 0
Splits m whole parts whole' parts' = (widths : List ℕ) (masks : List Mask) → slice_get widths m.signal ≡ Some (width_of m.bits)
    → IsSplit widths masks whole parts → IsSplit widths (masks ++ m ∷ []) whole' parts'
