-- What is bound, taken apart.
use Rattle.std.specs.Prelude.{◌≡◌}
use Rattle.v_binding.specs.Bound.{Bound}
use Rattle.bind_clocks.specs.declared.bound.BoundLists.{BoundLists}

-- the lists of what is bound, and what breaks the rule of the clock
pub record AreLists (b : Bound) (lists : BoundLists) : Type 0 where
  pub places : lists.places ≡ b.places
  pub drivers : lists.drivers ≡ b.drivers
  pub clocked : lists.clocked ≡ b.clocked
  pub declared_starts : lists.declared ≡ b.declared
  pub initial_starts : lists.initial ≡ b.initial
  pub misclocked : lists.misclocked ≡ b.misclocked
  pub clock_read : lists.clock_read ≡ b.clock_read
