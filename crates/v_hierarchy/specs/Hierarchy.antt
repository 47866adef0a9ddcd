-- The hierarchy of a design, apart from how it is walked (IEEE 1364-2005, 12.1): the least set of places that has the top and,
-- with each instance, every child that its text makes under its parameters.
use Rattle.std.specs.Prelude.{◌≡◌, ℕ, List, [], ◌∷◌, slice_get, Some, Ok}
use Rattle.v_syntax.specs.ModuleTree.{PlainModule}
use Rattle.v_hierarchy.specs.declared.left.Left.{Left}
use Rattle.v_hierarchy.specs.Items.{Child, Met}
use Rattle.v_hierarchy.specs.Instances.{contents, children}

-- what an instance's text makes, however much is left
pub record Makes (units : List PlainModule) (c : Child) (met : Met) : Type 0 where
  pub levels : ℕ
  pub left : Left
  pub makes : contents units levels c left ≡ Ok met

-- the instance that stands at a path of child numbers below another
abbrev pub IsAt : List PlainModule → Child → List ℕ → Child → Type 0
IsAt units top [] c = c ≡ top
IsAt units top (k ∷ path) c =
    (met : Met) × Makes units top met
    × ((next : Child) × (slice_get (children met.copies) k ≡ Some next)
    × IsAt units next path c)
