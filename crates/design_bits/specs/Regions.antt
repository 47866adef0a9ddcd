-- Regions of bits, for what is private to this crate.
use Rattle.std.specs.Prelude.{ℕ, Bool, ◌&&◌}
use Rattle.design_core.specs.Drives.{is_among}
use Rattle.design_core.specs.Valuation.{bit}
use Rattle.design_bits.specs.declared.region.Region.{Region}

-- whether a region has a bit: the same ones of each of its signals
abbrev pub region_has : Region → ℕ → ℕ → Bool
region_has region s b = is_among region.first region.count s && bit region.mask b
