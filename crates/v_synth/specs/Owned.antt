-- What a clocked block assigns, as code has it; only private contracts cite it.
use Rattle.std.specs.Prelude.{ℕ, ◌≡◌, ◌<◌, Bool, false, List, length, get_or, slice_index, bit_and, All, Contains, IsTrue}
use Rattle.std.specs.List.Sorted.{IsStrictlyIncreasing}
use Rattle.design_core.specs.declared.driver.Clocked.{Clocked}
use Rattle.design_core.specs.declared.design.Design.{Design}
use Rattle.design_core.specs.Drives.{block_assigns_later}
use Rattle.design_core.specs.WellFormed.{clocked_fits}
use Rattle.node_map.specs.declared.pair.Pair.{Pair}
use Rattle.v_synth.specs.declared.assigned.Assigned.{Assigned}
use Rattle.v_synth.specs.Clocked.{own_mask}

-- the registers of a design and the bits that a block drives, which have in common the registers of the block; and whether the block
-- assigns each signal by `<=`
pub record AreOwn (d : Design) (block : Clocked) (registers drives : List ℕ) (later : List Bool) : Type 0 where
  pub each : length registers ≡ length d.signals.items
  pub masks : length drives ≡ length d.signals.items
  pub marks : length later ≡ length d.signals.items
  pub mask : (s : ℕ) → s < length d.signals.items → bit_and (slice_index registers s) (slice_index drives s) ≡ own_mask d block s
  pub mark : (s : ℕ) → s < length d.signals.items → get_or later s false ≡ block_assigns_later s block

-- signals in ascending order, among which are all of which bits are registers of the block
pub record AreDriven (d : Design) (block : Clocked) (driven : List ℕ) : Type 0 where
  pub rises : IsStrictlyIncreasing driven
  pub within : All (λ s. s < length d.signals.items) driven
  pub others : (s : ℕ) → s < length d.signals.items → ¬ Contains driven s → own_mask d block s ≡ 0

-- no bit of so many signals is driven, and none is assigned by `<=`
pub record AreBlank (count : ℕ) (drives : List ℕ) (later : List Bool) : Type 0 where
  pub masks : length drives ≡ count
  pub marks : length later ≡ count
  pub none : (s : ℕ) → s < count → slice_index drives s ≡ 0
  pub unmarked : (s : ℕ) → s < count → get_or later s false ≡ false

-- both maps of so many signals are the same, and are what they were when the branch began
pub record HasBegun (count : ℕ) (both : Pair) : Type 0 where
  pub each : length both.current.now ≡ count
  pub base : both.current.base ≡ both.current.now
  pub same : both.later ≡ both.current

-- nothing of so many signals is assigned
pub record IsBlank (count : ℕ) (assigned : Assigned) : Type 0 where
  pub marks : AreBlank count assigned.drives assigned.later.items
  pub begun : HasBegun count assigned.both

-- a block fits in the design
pub record BlockFits (d : Design) (block : Clocked) : Type 0 where
  pub fits : IsTrue (clocked_fits d block)
