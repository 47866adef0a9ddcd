use Rattle.std.proofs.Common.{◌≡◌, ℕ, List, take, map}
use Rattle.v_syntax.specs.ItemTree.{connection_of}
use Rattle.v_hierarchy.specs.Places.{place_in}
use Rattle.bind_items.specs.Wires.{first_named}
use Rattle.bind_items.proofs.wires.places_of.Given as goal

abbrev pub invariant-loop-i : goal.invariant-loop-i
invariant-loop-i l = (name : List ℕ) → place_in l.places name ≡ first_named name (map connection_of (take l.i l.list))
