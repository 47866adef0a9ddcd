-- Which blocks use a signal, for what is private to this crate.
use Rattle.std.specs.Prelude.{ℕ, ◌≡◌, ◌<◌, ◌⊎◌, ◌==◌, Bool, true, false, not, ◌||◌, List, length, take, slice_index_or}
use Rattle.std.specs.List.{list_any}
use Rattle.design_core.specs.declared.design.Design.{Design}
use Rattle.design_core.specs.Mentions.{driver_mentions, block_mentions}
use Rattle.design_bits.specs.Masks.{has}
use Rattle.design_rules.specs.Assignments.{home_of}
use Rattle.design_rules.specs.Entries.{is_output_bit}
use Rattle.design_rules.specs.Races.{others}
use Rattle.assign_rules.specs.declared.users.Users.{Users}
use Rattle.assign_rules.specs.declared.users.Users.TheVariants as users

-- whether a signal is used outside the clocked block of that number
abbrev pub is_used_beside : Users → ℕ → Bool
is_used_beside users.Nobody k = false
is_used_beside (users.Block number) k = not (number == k)
is_used_beside users.Several k = true

-- the same of a home by a table
abbrev pub is_used_at : List Users → ℕ → ℕ → Bool
is_used_at table h k = is_used_beside (slice_index_or table h users.Nobody) k

-- a set has a bit of a signal of that home
pub record HasHome (homes own : List ℕ) (h : ℕ) : Type 0 where
  pub signal : ℕ
  pub position : ℕ
  pub within : signal < length own
  pub below : position < 128
  pub at_home : home_of homes signal ≡ h
  pub read : has own signal position ≡ true

-- a set has the bits that pass a test
pub record Reads (set : List ℕ) (test : ℕ → ℕ → Bool) : Type 0 where
  pub bits : (s b : ℕ) → s < length set → b < 128 → has set s b ≡ test s b

-- a table has who it had, and that users use the bits of a set
pub record Notes (old new : List Users) (more : Users) (homes own : List ℕ) : Type 0 where
  pub long : length new ≡ length old
  pub kept : (h k : ℕ) → is_used_at old h k ≡ true → is_used_at new h k ≡ true
  pub noted : (s b k : ℕ) → b < 128 → has own s b ≡ true → is_used_beside more k ≡ true → is_used_at new (home_of homes s) k ≡ true
  pub only : (h k : ℕ) → is_used_at new h k ≡ true → (is_used_at old h k ≡ true) ⊎ ((is_used_beside more k ≡ true) × HasHome homes own h)

-- whether a driver reads a bit, or it is one of an output
abbrev pub is_outside : Design → ℕ → ℕ → Bool
is_outside d s b = list_any (driver_mentions d.signals.items s b) d.drivers.items || is_output_bit d s b

-- a set has the bits that are used outside of clocked blocks
pub record IsOutside (d : Design) (set : List ℕ) : Type 0 where
  pub long : length set ≡ length d.signals.items
  pub bits : (s b : ℕ) → s < length d.signals.items → b < 128 → has set s b ≡ is_outside d s b

-- whether a bit is used outside a clocked block, of the first ones
abbrev pub is_used_among : Design → ℕ → ℕ → ℕ → ℕ → Bool
is_used_among d i k s b = is_outside d s b || list_any (block_mentions d.signals.items s b) (others k (take i d.clocked.items))

-- a bit of a signal of that home is
pub record IsUsed (d : Design) (homes : List ℕ) (i k h : ℕ) : Type 0 where
  pub signal : ℕ
  pub position : ℕ
  pub at_home : home_of homes signal ≡ h
  pub used : is_used_among d i k signal position ≡ true

-- a table has the users of each home, of the first clocked blocks
pub record AreUsers (d : Design) (homes : List ℕ) (i : ℕ) (table : List Users) : Type 0 where
  pub only : (h k : ℕ) → is_used_at table h k ≡ true → IsUsed d homes i k h
  pub all : (s b k : ℕ) → s < length d.signals.items → b < 128 → is_used_among d i k s b ≡ true → is_used_at table (home_of homes s) k ≡ true
