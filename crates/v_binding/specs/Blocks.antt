-- Always blocks (IEEE 1364-2005, 9.7.5 and 9.9): one that waits for edges is clocked, any other combinational.
use Rattle.std.specs.Prelude.{⊤, ℕ, Bool, true, false, ◌||◌, List, [], ◌∷◌, Option, Some, None, Result, Ok}
use Rattle.v_syntax.specs.declared.site.Site.{Site}
use Rattle.v_syntax.specs.Tree.{Selection, Selections, no_select, select}
use Rattle.v_syntax.specs.Tree as written
use Rattle.v_syntax.specs.ItemTree.{PlainEvent, edge_event, change_event, PlainSensitivity, all_events, listed}
use Rattle.design_core.specs.declared.signal.Signal.{Signal}
use Rattle.design_core.specs.declared.driver.Driver.TheVariants as driver
use Rattle.design_core.specs.declared.statement.Stmt.{Stmt}
use Rattle.v_hierarchy.specs.Unrolled.{Steps}
use Rattle.v_binding.specs.declared.error.BindErr.{BindErr}
use Rattle.v_binding.specs.Steps.{◌>>=◌, each}
use Rattle.v_binding.specs.Names.{Names}
use Rattle.v_binding.specs.Expressions.{by_itself}
use Rattle.v_binding.specs.Places.{Home}
use Rattle.v_binding.specs.Statements.{bound}
use Rattle.v_binding.specs.Bound.{Bound, with_places, with_driver, with_clocked, with_misclocked, with_clock_read}
use Rattle.v_binding.specs.Clocks.{block_reads_clock, edges, wait_for, clocked_of}

-- the signals of the design and the number of its clock, if it has one
pub record Frame : Type 0 where
  pub signals : List Signal
  pub clock : Option ℕ

-- ---- events: each name is one that could be read
abbrev pub one_select : Option Selection → Selections
one_select None = no_select
one_select (Some s) = select s no_select

abbrev pub event_at : Names → PlainEvent → ⊤ → Result ⊤ BindErr
event_at names (edge_event site _ text) _ = by_itself names (written.name site text no_select) >>= λ _. Ok tt
event_at names (change_event site text s) _ = by_itself names (written.name site text (one_select s)) >>= λ _. Ok tt

abbrev pub is_edge : PlainEvent → Bool
is_edge (edge_event _ _ _) = true
is_edge (change_event _ _ _) = false

abbrev pub has_edge : List PlainEvent → Bool
has_edge [] = false
has_edge (e ∷ es) = is_edge e || has_edge es

abbrev pub events_of : PlainSensitivity → List PlainEvent
events_of (all_events _) = []
events_of (listed _ events) = events

-- ---- blocks
abbrev pub combinational : Frame → Site → Stmt → Bound → Bound
combinational f site s b = with_clock_read (block_reads_clock f.signals f.clock b.roots s) site.span (with_driver (driver.Comb s site.span) b)

abbrev pub clocked : Frame → Names → Site → List PlainEvent → Steps → Stmt → Bound → Bound
clocked f names site events steps s b =
    let made = clocked_of names (wait_for f.clock (edges b.roots names events)) steps s in
    with_clock_read (block_reads_clock f.signals f.clock b.roots s) site.span (with_misclocked made.1 site.span (with_clocked made.0 b))

abbrev pub block_of : Frame → Names → Site → List PlainEvent → Steps → Stmt → Bound → Bound
block_of f names site events steps s b = elim (has_edge events) [
  | true ↦ clocked f names site events steps s b
  | false ↦ combinational f site s b
]

-- events first, then the body
abbrev pub always_block : Frame → Home → Names → Site → PlainSensitivity → Steps → Bound → Result Bound BindErr
always_block f home names site sensitivity steps b =
    each (event_at names) (events_of sensitivity) tt >>= λ _. bound home names steps b.places >>= λ x.
    Ok (block_of f names site (events_of sensitivity) steps x.value (with_places x.places b))
