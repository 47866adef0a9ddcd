-- A design of what instances bind, with what its rules want to know beside it, for what is private to this crate.
use Rattle.std.specs.Prelude.{ℕ, ◌≡◌, List, Option}
use Rattle.v_hierarchy.specs.Instances.{Instance}
use Rattle.bind_rules.specs.Beside.{Beside}
use Rattle.v_design.specs.declared.listed.Listed.{Listed}
use Rattle.v_design.specs.Means.{beside_binding, IsBound}

abbrev pub listed_beside : Listed → Beside
listed_beside m = record { homes = m.homes; spans = m.spans; initial = m.initial; clock_fault = m.clock_fault }

pub record IsMade (instances : List Instance) (clock : Option (List ℕ)) (m : Listed) : Type 0 where
  pub is : IsBound instances clock m.design
  pub beside : listed_beside m ≡ beside_binding is.lists
