-- Statements and case items as lists, and the arms of a case that were run, as code goes over them; only private contracts cite it.
use Rattle.std.specs.Prelude.{ℕ, ◌&&◌, Bool, IsTrue, List, [], ◌∷◌, length, Option}
use Rattle.std.specs.List.{list_all}
use Rattle.design_core.specs.declared.signal.Signal.{Signal}
use Rattle.design_core.specs.declared.place.Place.{Place}
use Rattle.design_core.specs.declared.statement.Part.{Part}
use Rattle.design_core.specs.declared.statement.CaseItem.{CaseItem}
use Rattle.design_core.specs.declared.statement.Stmt.{Stmt}
use Rattle.design_core.specs.declared.driver.Driver.{Driver}
use Rattle.design_core.specs.Store.{parts_width}
use Rattle.design_core.specs.WellFormed.{label_fits, statement_fits, driver_fits}
use Rattle.node_map.specs.Entries.{AreWithin, put}
use Rattle.word_net.specs.declared.node.Operand.{Operand}
use Rattle.word_net.specs.declared.node.WordNode.{WordNode}
use Rattle.word_net.specs.Build.{Made}
use Rattle.design_core.specs.declared.expression.Typed.{Typed}
use Rattle.synth_parts.specs.Expression.{unsigned, truth_made, typed_made}
use Rattle.synth_parts.specs.Store.{Nodes, indexes_made, parts_stored}
use Rattle.synth_parts.specs.Driver.{assigned_made}
use Rattle.synth_parts.specs.Statement.{Maps, maps, statement_made, item_test, merged}
use Rattle.synth_parts.specs.declared.statement.Arm.{Arm}

-- a statement fits, beside some places
pub record StatementFits (signals : List Signal) (statement : Stmt) : Type 0 where
  pub places : List Place
  pub fits : IsTrue (statement_fits signals places statement)

pub record StatementsFit (signals : List Signal) (statements : List Stmt) : Type 0 where
  pub places : List Place
  pub fits : IsTrue (list_all (statement_fits signals places) statements)

-- an item of a case over a subject of a width
abbrev pub item_fits : List Signal → List Place → ℕ → CaseItem → Bool
item_fits signals places width item = list_all (label_fits signals width) item.labels && statement_fits signals places item.body

pub record ItemsFit (signals : List Signal) (width : ℕ) (items : List CaseItem) : Type 0 where
  pub places : List Place
  pub fits : IsTrue (list_all (item_fits signals places width) items)

-- the condition of an `if`
abbrev pub condition_made : List Signal → List ℕ → List WordNode → Typed → Made
condition_made signals nodes_of nodes e = let c = typed_made signals nodes_of nodes e in truth_made c.nodes c.node e.width

-- statements in order
unfoldable pub all_made : List Signal → Maps → List Stmt → Maps
all_made signals m [] = m
all_made signals m (statement ∷ statements) = all_made signals (statement_made signals m statement) statements

-- the items of a case
unfoldable pub case_made : List Signal → Maps → Operand → List CaseItem → (Maps → Maps) → Maps
case_made signals m subject [] other = other m
case_made signals m subject (item ∷ items) other =
    let t = item_test signals m.now m.nodes subject item.labels in
    let one = statement_made signals (maps t.nodes m.now m.later) item.body in
    let next = case_made signals (maps one.nodes m.now m.later) subject items other in
    merged signals t.node one next 0 (length signals)

-- the arms of a case become one, the last first; they began with these maps
unfoldable pub closed : List Signal → List ℕ → List ℕ → List Arm → Maps → Maps
closed signals current later [] m = m
closed signals current later (arm ∷ arms) m =
    merged signals arm.test (maps [] (put arm.kept.current current) (put arm.kept.later later)) (closed signals current later arms m) 0 (length signals)

-- the entries of an arm are those of signals
pub record ArmFits (signals : List Signal) (arm : Arm) : Type 0 where
  pub current : AreWithin (length signals) arm.kept.current
  pub later : AreWithin (length signals) arm.kept.later

-- a driver fits, beside some places
pub record DriverFits (signals : List Signal) (driver : Driver) : Type 0 where
  pub places : List Place
  pub fits : IsTrue (driver_fits signals places driver)

pub record DriversFit (signals : List Signal) (drivers : List Driver) : Type 0 where
  pub places : List Place
  pub fits : IsTrue (list_all (driver_fits signals places) drivers)

-- a continuous assignment
unfoldable pub continuous_made : List Signal → List WordNode → List ℕ → List Part → Typed → Option ℕ → Nodes
continuous_made signals nodes nodes_of parts computed place =
    let v = typed_made signals nodes_of nodes computed in
    let a = assigned_made v.nodes place (parts_width signals parts) (unsigned v.node computed.width) in
    let i = indexes_made signals nodes_of a.nodes [] parts in
    parts_stored signals i.nodes nodes_of parts i.each a.operand
