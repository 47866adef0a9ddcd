-- What is elaborated, as the code has it, without where it lies in memory.
use Rattle.std.specs.Prelude.{List, [], ◌∷◌, map, Option, Some, None, option_map}
use Rattle.std.specs.Borrow.{Bor}
use Rattle.v_syntax.specs.Tree.{Tree, tree_of}
use Rattle.v_syntax.specs.PartTree.{range_of}
use Rattle.v_syntax.specs.StatementTree.{statement_of}
use Rattle.v_syntax.specs.ItemTree.{PlainConnections, ordered, connections_of, sensitivity_of, item_of}
use Rattle.v_syntax.specs.ModuleTree.{module_of}
use Rattle.v_sizes.specs.declared.meaning.Const.{Const}
use Rattle.v_syntax.specs.declared.item.Connections.{Connections}
use Rattle.v_hierarchy.specs.declared.standing.Standing.{Standing}
use Rattle.v_hierarchy.specs.declared.standing.Standing.TheVariants as standing_kind
use Rattle.v_hierarchy.specs.declared.standing.Entry.{Entry}
use Rattle.v_hierarchy.specs.declared.instance.Given.{Given}
use Rattle.v_hierarchy.specs.declared.instance.Port.{Port}
use Rattle.v_hierarchy.specs.declared.instance.Child.{Child}
use Rattle.v_hierarchy.specs.declared.instance.Block.{Block}
use Rattle.v_hierarchy.specs.declared.instance.Copied.{Copied, fold-Copied}
use Rattle.v_hierarchy.specs.declared.instance.Copied.TheFolds.{fold-Block}
use Rattle.v_hierarchy.specs.declared.instance.Copied.TheOpen.{Block-F, Copied-F}
use Rattle.v_hierarchy.specs.declared.instance.Instance.{Instance}
use Rattle.v_hierarchy.specs.declared.instance.Instances.{Instances}
use Rattle.v_hierarchy.specs.declared.steps.Arm.{Arm, fold-Arm}
use Rattle.v_hierarchy.specs.declared.steps.Arm.TheFolds.{fold-Steps, fold-Turn}
use Rattle.v_hierarchy.specs.declared.steps.Arm.TheOpen.{Arm-F, Steps-F, Turn-F}
use Rattle.v_hierarchy.specs.declared.steps.Steps.{Steps}
use Rattle.v_hierarchy.specs.declared.steps.Turn.{Turn}
use Rattle.v_hierarchy.specs.Names as names
use Rattle.v_hierarchy.specs.Parameters as parameters
use Rattle.v_hierarchy.specs.Headers as headers
use Rattle.v_hierarchy.specs.Unrolled as unrolled
use Rattle.v_hierarchy.specs.Items as items
use Rattle.v_hierarchy.specs.Instances as whole

-- ---- names
abbrev pub standing_of : Standing → names.Standing
standing_of (standing_kind.Signal s) = names.signal s
standing_of (standing_kind.Array s range) = names.array s (range_of range.now)
standing_of standing_kind.Integer = names.integer
standing_of standing_kind.Genvar = names.genvar
standing_of (standing_kind.Constant value bounds) = names.constant value bounds

abbrev pub entry_of : Entry → names.Entry
entry_of e = record { name = e.name.now; standing = standing_of e.standing }

abbrev pub given_of : Given → parameters.Given
given_of g = record { name = g.name.now; value = g.value }

abbrev pub port_of : Port → headers.Port
port_of p = record { name = p.name.now; signal = p.signal; start = option_map (λ e. tree_of e.now) p.start }

-- ---- statements
pub data PlainArm : Type 0 where
  labelled : List Tree → unrolled.Steps → PlainArm
  otherwise : unrolled.Steps → PlainArm

pub record PlainTurn : Type 0 where
  pub value : Const
  pub body : unrolled.Steps

abbrev pub step_list_of : List unrolled.Steps → unrolled.StepList
step_list_of [] = unrolled.no_step
step_list_of (x ∷ xs) = unrolled.step x (step_list_of xs)

abbrev pub arms_of : List PlainArm → unrolled.Arms
arms_of [] = unrolled.no_arm
arms_of (labelled labels body ∷ rest) = unrolled.arm labels body (arms_of rest)
arms_of (otherwise body ∷ rest) = unrolled.default_arm body (arms_of rest)

abbrev pub turns_of : List PlainTurn → unrolled.Turns
turns_of [] = unrolled.no_turn
turns_of (t ∷ ts) = unrolled.turn t.value t.body (turns_of ts)

-- one level, with what is inside already seen so
abbrev pub arm_step : Arm-F PlainArm unrolled.Steps PlainTurn → PlainArm
arm_step (Arm-F.Labels labels body) = labelled (map tree_of labels.now.items) body
arm_step (Arm-F.Default body) = otherwise body

abbrev pub steps_step : Steps-F PlainArm unrolled.Steps PlainTurn → unrolled.Steps
steps_step Steps-F.Nothing = unrolled.nothing
steps_step (Steps-F.Still s) = unrolled.still (statement_of s.now)
steps_step (Steps-F.Run steps) = unrolled.run (step_list_of steps)
steps_step (Steps-F.Branch condition on_true other) = unrolled.branch (tree_of condition.now) on_true other
steps_step (Steps-F.Choose kind subject arms) = unrolled.choose kind (tree_of subject.now) (arms_of arms)
steps_step (Steps-F.Repeated variable turns) = unrolled.repeated variable.now (turns_of turns)

abbrev pub turn_step : Turn-F PlainArm unrolled.Steps PlainTurn → PlainTurn
turn_step t = record { value = t.value; body = t.body }

abbrev pub steps_of : Steps → unrolled.Steps
steps_of = fold-Steps PlainArm unrolled.Steps PlainTurn arm_step steps_step turn_step

abbrev pub arm_of : Arm → PlainArm
arm_of = fold-Arm PlainArm unrolled.Steps PlainTurn arm_step steps_step turn_step

abbrev pub turn_of : Turn → PlainTurn
turn_of = fold-Turn PlainArm unrolled.Steps PlainTurn arm_step steps_step turn_step

-- ---- instances
-- the top is connected to nothing
abbrev pub connections_if : Option (Bor Connections) → PlainConnections
connections_if None = ordered []
connections_if (Some c) = connections_of c.now

abbrev pub child_of : Child → items.Child
child_of c = record { «module» = module_of c.«module».now; values = map given_of c.values; path = c.path; connections = connections_if c.connections }

abbrev pub copies_of : List items.Copied → items.Copies
copies_of [] = items.no_copy
copies_of (x ∷ xs) = items.copy x (copies_of xs)

abbrev pub copied_step : Copied-F items.Copied items.Block → items.Copied
copied_step (Copied-F.Written item) = items.written (item_of item.now)
copied_step (Copied-F.Always s sensitivity body) = items.always s (sensitivity_of sensitivity.now) (steps_of body)
copied_step (Copied-F.Child s child) = items.child s (child_of child)
copied_step (Copied-F.Inner block) = items.inner block
copied_step (Copied-F.Turn variable value block) = items.turn variable.now value block

abbrev pub block_step : Block-F items.Copied items.Block → items.Block
block_step b = items.scope b.path (map entry_of b.names) (copies_of b.copies)

abbrev pub copied_of : Copied → items.Copied
copied_of = fold-Copied items.Copied items.Block copied_step block_step

abbrev pub block_of : Block → items.Block
block_of = fold-Block items.Copied items.Block copied_step block_step

abbrev pub instance_of : Instance → whole.Instance
instance_of i =
    record { path = i.path; «module» = module_of i.«module».now; parent = i.parent; connections = connections_if i.connections; ports = map port_of i.ports; body = block_of i.body }

abbrev pub instances_of : Instances → List whole.Instance
instances_of i = map instance_of i.list
