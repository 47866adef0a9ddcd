-- The bits of ports at the end of a stamp, by what is kept of their variables.
use Rattle.std.specs.Prelude.{ℕ, Bool, not, ◌==◌, ◌&&◌, nat_le, if◌then◌else◌, slice_get, Option, Some, None, true, false}
use Rattle.std.specs.Option.{option_map_or}
use Rattle.vcd_words.specs.declared.level.Level.{Level}
use Rattle.vcd_words.specs.Levels.{unknown_level, cut_level}
use Rattle.vcd_traces.specs.declared.running.Running.{Running}
use Rattle.vcd_traces.specs.declared.moment.Moment.{Moment}
use Rattle.vcd_traces.specs.declared.moment.Watch.{Watch}
use Rattle.vcd_reading.specs.Events.{is_low, is_high}
use Rattle.vcd_traces.specs.Running.{before_of}
use Rattle.vcd_traces.specs.Samples.{part_level}

-- 1 to 128 bits
abbrev pub has_width : Watch → Bool
has_width watch = nat_le 1 watch.width && nat_le watch.width 128

-- the level that counts of what is kept: with a clock that before the stamp, else the last
abbrev pub kept_of : Bool → ℕ → Running → Level
kept_of clocked time r = if clocked then before_of r time else r.level

abbrev pub kept_level : Moment → ℕ → Level
kept_level m cell = option_map_or (kept_of m.clocked m.time) (slice_get m.running.now cell) unknown_level

-- the bits of a port
abbrev pub kept_sample : Moment → Watch → Level
kept_sample m watch = cut_level watch.width (part_level watch.part (kept_level m watch.cell))

abbrev pub has_unknown : Moment → Watch → Bool
has_unknown m watch = not ((kept_sample m watch).unknowns == 0)

-- whether the stamp is a cycle: there is no clock, or it rises
abbrev pub kept_rises : ℕ → Running → Bool
kept_rises time r = is_low (before_of r time) && is_high r.level

abbrev pub kept_is_cycle : Moment → Option ℕ → Bool
kept_is_cycle m None = true
kept_is_cycle m (Some cell) = option_map_or (kept_rises m.time) (slice_get m.running.now cell) false
