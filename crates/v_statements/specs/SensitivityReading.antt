-- How the code reads what an always block waits for: the function on lists that each reader is. No public clause speaks of it.
use Rattle.std.specs.Prelude.{ℕ, ◌+◌, List, [], ◌∷◌, length, Result, Ok, Err, if◌then◌else◌, Bool, true, false}
use Rattle.v_lexer.specs.Lexeme.{Lexeme}
use Rattle.v_syntax.specs.declared.statement.Edge.{Edge}
use Rattle.v_syntax.specs.declared.statement.Edge.TheVariants as edges
use Rattle.v_lexer.specs.declared.types.terminal.Terminal.TheVariants as mark
use Rattle.v_tree.specs.declared.fault.Fault.{Fault}
use Rattle.v_tree.specs.declared.fault.Fault.TheVariants.{Unsupported}
use Rattle.v_tree.specs.Marks.{mark_at, same}
use Rattle.v_tree.specs.Sites.{site}
use Rattle.v_tree.specs.Faults.{no_place}
use Rattle.v_syntax.specs.Tree.{Selection}
use Rattle.v_tree.specs.Reading.{Read, ◌>>=◌, expect, below, select_at}
use Rattle.v_parts.specs.Reading.{optional_at, run_at, name_at, unless_at}
use Rattle.v_syntax.specs.ItemTree.{PlainEvent, edge_event, change_event, PlainSensitivity, all_events, listed}
use Rattle.v_statements.specs.Sensitivities.{is_posedge}

unfoldable pub edge_at : List Lexeme → ℕ → Read Edge
edge_at tokens a =
    if same (mark_at tokens a) mark.Posedge then Ok (edges.Posedge, a + 1) else if same (mark_at tokens a) mark.Negedge then Ok (edges.Negedge, a + 1)
    else Err (no_place tokens a)

unfoldable pub separator_at : List Lexeme → ℕ → Read Bool
separator_at tokens a =
    if same (mark_at tokens a) mark.Or then Ok (true, a + 1) else if same (mark_at tokens a) mark.Comma then Ok (false, a + 1) else Err (no_place tokens a)

unfoldable pub edge_event_at : List Lexeme → ℕ → Read PlainEvent
edge_event_at tokens a = edge_at tokens a >>= λ e. name_at tokens e.1 >>= λ x. Ok (edge_event (site tokens e.1 x.1) e.0 x.0, x.1)

abbrev pub index_at : List Lexeme → ℕ → ℕ → Read Selection
index_at tokens nesting_left a = select_at tokens nesting_left (below tokens nesting_left).whole 4097 a

unfoldable pub change_at : List Lexeme → ℕ → ℕ → Read PlainEvent
change_at tokens nesting_left a =
    name_at tokens a >>= λ x. optional_at tokens mark.OpenBracket (index_at tokens nesting_left) x.1 >>= λ y. Ok (change_event (site tokens a y.1) x.0 y.0, y.1)

unfoldable pub next_change_at : List Lexeme → ℕ → ℕ → Read PlainEvent
next_change_at tokens nesting_left a =
    separator_at tokens a >>= λ s. unless_at tokens mark.Posedge s.1 (unless_at tokens mark.Negedge s.1 (change_at tokens nesting_left s.1))

-- the changes behind the first
unfoldable pub more_changes_at : List Lexeme → ℕ → PlainEvent → ℕ → Read (List PlainEvent)
more_changes_at tokens nesting_left first a =
    run_at tokens mark.Close (λ (s : Bool). next_change_at tokens nesting_left) (λ s x. s) (length tokens) true a >>= λ xs. Ok (first ∷ xs.0, xs.1)

unfoldable pub changes_at : List Lexeme → ℕ → ℕ → Read (List PlainEvent)
changes_at tokens nesting_left a = change_at tokens nesting_left a >>= λ x. more_changes_at tokens nesting_left x.0 x.1

unfoldable pub lone_edge_at : List Lexeme → PlainEvent → ℕ → Read (List PlainEvent)
lone_edge_at tokens first a = if is_posedge first then Ok (first ∷ [], a + 1) else Err (Unsupported a)

-- the place behind the ')' of two edges, where a third is left out
unfoldable pub edges_end_at : List Lexeme → ℕ → Result ℕ Fault
edges_end_at tokens a =
    if same (mark_at tokens a) mark.Or then Err (Unsupported a) else if same (mark_at tokens a) mark.Comma then Err (Unsupported a)
    else expect tokens mark.Close a

unfoldable pub close_edges_at : List Lexeme → PlainEvent → PlainEvent → ℕ → Read (List PlainEvent)
close_edges_at tokens first second a = edges_end_at tokens a >>= λ b. Ok (first ∷ second ∷ [], b)

unfoldable pub second_edge_at : List Lexeme → PlainEvent → ℕ → Read (List PlainEvent)
second_edge_at tokens first a =
    separator_at tokens a >>= λ s. unless_at tokens mark.Name s.1 (edge_event_at tokens s.1 >>= λ x. close_edges_at tokens first x.0 x.1)

unfoldable pub edges_at : List Lexeme → ℕ → Read (List PlainEvent)
edges_at tokens a =
    edge_event_at tokens a >>= λ x. (if same (mark_at tokens x.1) mark.Close then lone_edge_at tokens x.0 x.1 else second_edge_at tokens x.0 x.1)

unfoldable pub events_at : List Lexeme → ℕ → ℕ → Read (List PlainEvent)
events_at tokens nesting_left a =
    if same (mark_at tokens a) mark.Posedge then edges_at tokens a else if same (mark_at tokens a) mark.Negedge then edges_at tokens a
    else changes_at tokens nesting_left a

unfoldable pub listed_at : List Lexeme → ℕ → ℕ → ℕ → Read PlainSensitivity
listed_at tokens nesting_left from a = events_at tokens nesting_left a >>= λ xs. Ok (listed (site tokens from xs.1) xs.0, xs.1)

unfoldable pub star_close_at : List Lexeme → ℕ → ℕ → Read PlainSensitivity
star_close_at tokens from a = expect tokens mark.Close (a + 1) >>= λ b. Ok (all_events (site tokens from b), b)

unfoldable pub sensitivity_at : List Lexeme → ℕ → ℕ → Read PlainSensitivity
sensitivity_at tokens nesting_left a =
    if same (mark_at tokens a) mark.Star then Ok (all_events (site tokens a (a + 1)), a + 1)
    else (expect tokens mark.Open a >>= λ m. (if same (mark_at tokens m) mark.Star then star_close_at tokens a m else listed_at tokens nesting_left a m))
