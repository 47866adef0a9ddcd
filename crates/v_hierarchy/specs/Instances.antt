-- The instances of a design (IEEE 1364-2005, clause 12): the top, then the children that each makes, depth first, in the order of
-- their items.
use Rattle.std.specs.Prelude.{ℕ, zero, suc, if◌then◌else◌, List, [], ◌∷◌, ◌++◌, length, Option, Some, None, Result, Ok, Err}
use Rattle.v_syntax.specs.ItemTree.{PlainConnections, ordered, items_of}
use Rattle.v_syntax.specs.ModuleTree.{PlainModule}
use Rattle.v_hierarchy.specs.declared.error.ElabErr.{ElabErr}
use Rattle.v_hierarchy.specs.declared.error.ElabErr.TheVariants as fault
use Rattle.v_hierarchy.specs.declared.left.Left.{Left}
use Rattle.v_hierarchy.specs.Steps.{◌>>=◌, each}
use Rattle.v_hierarchy.specs.Parameters.{header_parameters, is_among}
use Rattle.v_hierarchy.specs.Headers.{Port, header_ports, ports_of}
use Rattle.v_hierarchy.specs.Items.{Child, Copied, written, always, child, inner, turn, Block, scope, Copies, no_copy, copy, Place, Met, begins, items, module_named}

pub record Instance : Type 0 where
  pub path : List ℕ
  pub «module» : PlainModule
  -- the number of the instance that it stands in
  pub parent : Option ℕ
  pub connections : PlainConnections
  pub ports : List Port
  pub body : Block

-- ---- what one instance is
-- where the items of a module stand, at most so many levels of instances above the deepest
abbrev pub place_of : List PlainModule → ℕ → Child → Place
place_of units levels c =
    record { units = units; levels = levels; path = c.path; outer = []; header = Some (c.«module».ports, c.values) }

-- its parameters, its ports, then its items
abbrev pub contents : List PlainModule → ℕ → Child → Left → Result Met ElabErr
contents units levels c left =
    header_parameters c.values c.«module».parameters >>= header_ports c.«module» >>= λ names.
    items (place_of units levels c) (items_of c.«module».items) (begins names left)

abbrev pub instance : Child → Option ℕ → Met → Instance
instance c parent met =
    record { path = c.path; «module» = c.«module»; parent = parent; connections = c.connections; ports = ports_of c.«module».ports met.names; body = scope c.path met.names met.copies }

-- the children that a scope makes, in the order of its items
abbrev mutual
  pub children : Copies → List Child
  children no_copy = []
  children (copy x xs) = made_by x ++ children xs

  pub made_by : Copied → List Child
  made_by (written _) = []
  made_by (always _ _ _) = []
  made_by (child _ c) = c ∷ []
  made_by (inner (scope _ _ copies)) = children copies
  made_by (turn _ _ (scope _ _ copies)) = children copies

-- ---- the walk
pub record Found : Type 0 where
  pub list : List Instance
  pub left : Left

abbrev pub with_instance : Child → Option ℕ → Met → Found → Found
with_instance c parent met found = record { list = found.list ++ instance c parent met ∷ []; left = met.left }

-- an instance, then what stands below it; none stands below the deepest level
abbrev pub walked : List PlainModule → ℕ → Option ℕ → Child → Found → Result Found ElabErr
walked units zero parent c found = contents units 0 c found.left >>= λ met. Ok (with_instance c parent met found)
walked units (suc levels) parent c found =
    contents units (suc levels) c found.left >>= λ met.
    each (walked units levels (Some (length found.list))) (children met.copies) (with_instance c parent met found)

-- ---- the whole
-- no two modules have one name
abbrev pub unit_name : PlainModule → List (List ℕ) → Result (List (List ℕ)) ElabErr
unit_name m seen = if is_among m.name.name seen then Err (fault.DoubleName m.name.site.span) else Ok (seen ++ m.name.name ∷ [])

abbrev pub top_of : List PlainModule → List ℕ → Result PlainModule ElabErr
top_of units name = elim (module_named name units) [
  | Some m ↦ Ok m
  | None ↦ Err fault.NoTop
]

-- the top is an instance too
abbrev pub most_left : Left
most_left = record { turns = 65536; instances = 65535 }

abbrev pub top_child : PlainModule → Child
top_child m = record { «module» = m; values = []; path = m.name.name; connections = ordered [] }

abbrev pub instances : List PlainModule → List ℕ → Result (List Instance) ElabErr
instances units top =
    top_of units top >>= λ m. each unit_name units [] >>= λ _.
    walked units 64 None (top_child m) (record { list = []; left = most_left }) >>= λ found. Ok found.list
