-- When what is computed over more signals is the same in a design's own: two valuations, and two states of a statement's updates, that
-- agree on the bits of the first signals; and the room that the conditions of a freed statement have behind these.
use Rattle.std.specs.Prelude.{ℕ, ◌≡◌, ◌+◌, ◌<◌, ◌≤◌, Bool, true, false, List, ◌++◌, length, slice_get, Some}
use Rattle.design_core.specs.declared.signal.Signal.{Signal}
use Rattle.design_core.specs.Valuation.{Valuation, width_at}
use Rattle.design_core.specs.After.{Updates}
use Rattle.design_core.specs.declared.place.Place.{Place}
use Rattle.design_core.specs.WellFormed.{place_fits}
use Rattle.freed_conditions.specs.Kept.{Next}

-- two valuations agree on the bits of the signals below a number
pub record AgreeBelow (count : ℕ) (V W : Valuation) : Type 0 where
  pub same : (s b : ℕ) → s < count → V s b ≡ W s b

-- the updates of two runs of statements do, those that are read and the later ones
pub record Alike (count : ℕ) (m n : Updates) : Type 0 where
  pub now : AgreeBelow count m.now n.now
  pub later : AgreeBelow count m.later n.later

-- from the next signal on, which is none of the design's, there are signals of these widths, and no place from the next one on is freed
pub record Room (signals hidden : List Signal) (frees : ℕ → Bool) (n : Next) (widths : List ℕ) : Type 0 where
  pub behind : length signals ≤ n.signal
  pub wide : (i w : ℕ) → slice_get widths i ≡ Some w → width_at (signals ++ hidden) (n.signal + i) ≡ w
  pub unfreed : (p : ℕ) → n.place ≤ p → frees p ≡ false

-- from the next signal and the next place on there are signals and places of these widths
pub record Fitted (signals : List Signal) (room : List Place) (n : Next) (widths : List ℕ) : Type 0 where
  pub nets : (i w : ℕ) → slice_get widths i ≡ Some w → (n.signal + i < length signals) × (width_at signals (n.signal + i) ≡ w)
  pub places : (i w : ℕ) → slice_get widths i ≡ Some w → place_fits room w (n.place + i) ≡ true
