-- What the laws of a design's instances are said of, and what they say (IEEE 1364-2005, clause 12).
use Rattle.std.specs.Prelude.{◌≡◌, ℕ, suc, ◌+◌, List, [], ◌∷◌, slice_get, Option, Some}
use Rattle.v_syntax.specs.ModuleTree.{PlainModule}
use Rattle.v_hierarchy.specs.Unrolled.{Steps, nothing, still, run, branch, choose, repeated, StepList, no_step, step, Arms, no_arm, arm, default_arm, Turns, no_turn}
use Rattle.v_hierarchy.specs.Unrolled as Unrolled
use Rattle.v_hierarchy.specs.Items.{Child, Copied, written, always, child, inner, Block, scope, Copies, no_copy, copy, Met}
use Rattle.v_hierarchy.specs.Items as Items
use Rattle.v_hierarchy.specs.Instances.{Instance, instance, top_child}
use Rattle.v_hierarchy.specs.Hierarchy.{Makes, IsAt}

-- ---- turns of loops
abbrev mutual
  -- the turns of the loops of a statement, those inside a turn too
  pub steps_turns : Steps → ℕ
  steps_turns nothing = 0
  steps_turns (still _) = 0
  steps_turns (run list) = list_turns list
  steps_turns (branch _ one other) = steps_turns one + steps_turns other
  steps_turns (choose _ _ arms) = arms_turns arms
  steps_turns (repeated _ all) = turns_turns all

  pub list_turns : StepList → ℕ
  list_turns no_step = 0
  list_turns (step s rest) = steps_turns s + list_turns rest

  pub arms_turns : Arms → ℕ
  arms_turns no_arm = 0
  arms_turns (arm _ s rest) = steps_turns s + arms_turns rest
  arms_turns (default_arm s rest) = steps_turns s + arms_turns rest

  pub turns_turns : Turns → ℕ
  turns_turns no_turn = 0
  turns_turns (Unrolled.turn _ s rest) = suc (steps_turns s + turns_turns rest)

abbrev mutual
  -- the turns of the loops of a scope, those of generates too
  pub copies_turns : Copies → ℕ
  copies_turns no_copy = 0
  copies_turns (copy x rest) = made_turns x + copies_turns rest

  pub made_turns : Copied → ℕ
  made_turns (written _) = 0
  made_turns (always _ _ s) = steps_turns s
  made_turns (child _ _) = 0
  made_turns (inner (scope _ _ copies)) = copies_turns copies
  made_turns (Items.turn _ _ (scope _ _ copies)) = suc (copies_turns copies)

abbrev pub block_turns : Block → ℕ
block_turns (scope _ _ copies) = copies_turns copies

-- the turns of all instances together
abbrev pub design_turns : List Instance → ℕ
design_turns [] = 0
design_turns (i ∷ rest) = block_turns i.body + design_turns rest

-- ---- the hierarchy
-- the modules of a text, the name of its top, the top, and the instances that the text means
pub record Listed : Type 0 where
  pub units : List PlainModule
  pub name : List ℕ
  pub top : PlainModule
  pub list : List Instance

-- an instance has the names, the parameters and the items that the text of its module gives under the values given to it
pub record IsInstance (units : List PlainModule) (c : Child) (i : Instance) : Type 0 where
  pub met : Met
  pub parent : Option ℕ
  pub makes : Makes units c met
  pub is : i ≡ instance c parent met

-- an instance of the list, with its number
pub record Stands (units : List PlainModule) (list : List Instance) (c : Child) : Type 0 where
  pub number : ℕ
  pub instance : Instance
  pub at : slice_get list number ≡ Some instance
  pub is : IsInstance units c instance

-- an instance of the hierarchy, with its path of child numbers
pub record Comes (units : List PlainModule) (top : PlainModule) (i : Instance) : Type 0 where
  pub path : List ℕ
  pub child : Child
  pub at : IsAt units (top_child top) path child
  pub is : IsInstance units child i

-- the list is the hierarchy: what stands at any path is in it, and each entry stands at some path
pub record IsHierarchy (units : List PlainModule) (top : PlainModule) (list : List Instance) : Type 0 where
  pub whole : (path : List ℕ) (c : Child) → IsAt units (top_child top) path c → Stands units list c
  pub only : (number : ℕ) (i : Instance) → slice_get list number ≡ Some i → Comes units top i
