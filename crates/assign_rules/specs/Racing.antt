-- Which signals race, for what is private to this crate.
use Rattle.std.specs.Prelude.{ℕ, ◌≡◌, ◌<◌, true, List, length, slice_get, Some}
use Rattle.design_core.specs.declared.driver.Clocked.{Clocked}
use Rattle.design_core.specs.declared.design.Design.{Design}
use Rattle.design_rules.specs.Assignments.{by_equals, clocked_sets}
use Rattle.assign_rules.specs.declared.users.Users.{Users}
use Rattle.assign_rules.specs.UsedBy.{is_used_at}
use Rattle.assign_rules.specs.Ways.{is_home}

-- one of the first clocked blocks assigns a home by `=`, and it is used outside that block
pub record Assigns (d : Design) (homes : List ℕ) (table : List Users) (i h : ℕ) : Type 0 where
  pub number : ℕ
  pub block : Clocked
  pub before : number < i
  pub is_block : slice_get d.clocked.items number ≡ Some block
  pub assigned : clocked_sets (by_equals homes h) block ≡ true
  pub used : is_used_at table h number ≡ true

-- a set has the homes of which that is so
pub record AreRacing (d : Design) (homes : List ℕ) (table : List Users) (i : ℕ) (set : List ℕ) : Type 0 where
  pub only : (h : ℕ) → h < length set → is_home set h ≡ true → Assigns d homes table i h
  pub all : (h : ℕ) → h < length set → Assigns d homes table i h → is_home set h ≡ true
