-- All instances with their scopes, their ports and the numbers of their children.
use Rattle.std.specs.Prelude.{◌≡◌, ℕ, ◌<◌, length, map, slice_get, Some}
use Rattle.v_hierarchy.specs.Views.{instance_of}
use Rattle.v_binding.specs.Binding.{all_sockets}
use Rattle.bind_scopes.specs.Views.{scope_of, socket_of}
use Rattle.bind_scopes.specs.Children.{numbers_from}
use Rattle.v_design.specs.declared.walk.Whole.{Whole}

-- each instance has its scope, its ports and its children
pub record AreAll (w : Whole) : Type 0 where
  pub scopes : length w.scopes.now ≡ length w.instances.now
  pub ports : map (map socket_of) w.ports.now ≡ all_sockets (map instance_of w.instances.now) (map scope_of w.scopes.now)
  pub children : (n : ℕ) → n < length w.instances.now → slice_get w.children.now n ≡ Some (numbers_from n 0 (map instance_of w.instances.now))
