-- What an always block waits for (IEEE 1364-2005, 9.7.2, 9.7.5 and A.6.5): which tree the tokens from a place up to another one
-- spell, where `nesting_left` levels of nesting are left. Each production stands as its comment, as in Productions.
use Rattle.std.specs.Prelude.{◌≡◌, ◌≢◌, ℕ, ◌+◌, ◌≤◌, ◌⊎◌, Bool, true, false, List, [], ◌∷◌, Option}
use Rattle.v_lexer.specs.Lexeme.{Lexeme}
use Rattle.v_syntax.specs.declared.statement.Edge.{Edge}
use Rattle.v_syntax.specs.declared.statement.Edge.TheVariants as edges
use Rattle.v_lexer.specs.declared.types.terminal.Terminal.TheVariants.{Name, Open, Close, OpenBracket, Comma, Or, Star, Posedge, Negedge}
use Rattle.v_tree.specs.Marks.{mark_at}
use Rattle.v_tree.specs.Sites.{site}
use Rattle.v_syntax.specs.Tree.{Selection}
use Rattle.v_tree.specs.Depth.{nesting_of_select, levels_of_select}
use Rattle.v_tree.specs.Expressions.{IsSelect}
use Rattle.v_parts.specs.Productions.{IsOptional, AreRun, IsName}
use Rattle.v_syntax.specs.ItemTree.{PlainEvent, edge_event, change_event, PlainSensitivity, all_events, listed}

-- 'posedge' | 'negedge'
abbrev pub IsEdge : List Lexeme → Edge → ℕ → ℕ → Type 0
IsEdge tokens edge a b =
    ((mark_at tokens a ≡ Posedge) × ((edge ≡ edges.Posedge) × (b ≡ a + 1))) ⊎ ((mark_at tokens a ≡ Negedge) × ((edge ≡ edges.Negedge) × (b ≡ a + 1)))

-- 'or' | ','
abbrev pub IsSeparator : List Lexeme → Bool → ℕ → ℕ → Type 0
IsSeparator tokens is_or a b =
    ((mark_at tokens a ≡ Or) × ((is_or ≡ true) × (b ≡ a + 1))) ⊎ ((mark_at tokens a ≡ Comma) × ((is_or ≡ false) × (b ≡ a + 1)))

-- ('posedge' | 'negedge') NAME; its site is that of the name
abbrev pub IsEdgeEvent : List Lexeme → PlainEvent → ℕ → ℕ → Type 0
IsEdgeEvent tokens event a b =
    (edge : Edge) × (m : ℕ) × IsEdge tokens edge a m
    × ((name : List ℕ) × (n : ℕ) × IsName tokens name m n
    × ((event ≡ edge_event (site tokens m n) edge name) × (b ≡ n)))

-- select, whose index is an expression of its own
pub record IsIndex (tokens : List Lexeme) (nesting_left : ℕ) (select : Selection) (a b : ℕ) : Type 0 where
  pub spelled : IsSelect tokens select a b
  pub nests : nesting_of_select select ≤ nesting_left
  pub rises : levels_of_select select ≤ 4097

-- NAME select?
abbrev pub IsChange : List Lexeme → ℕ → PlainEvent → ℕ → ℕ → Type 0
IsChange tokens nesting_left event a b =
    (name : List ℕ) × (m : ℕ) × IsName tokens name a m
    × ((select : Option Selection) × (n : ℕ) × IsOptional tokens OpenBracket (IsIndex tokens nesting_left) select m n
    × ((event ≡ change_event (site tokens a n) name select) × (b ≡ n)))

-- ('or' | ',') NAME select?, where no edge stands
abbrev pub IsNextChange : List Lexeme → ℕ → PlainEvent → ℕ → ℕ → Type 0
IsNextChange tokens nesting_left event a b =
    (is_or : Bool) × (m : ℕ) × IsSeparator tokens is_or a m
    × ((mark_at tokens m ≢ Posedge) × ((mark_at tokens m ≢ Negedge) × IsChange tokens nesting_left event m b))

-- change (('or' | ',') change)* ')'
abbrev pub AreChanges : List Lexeme → ℕ → List PlainEvent → ℕ → ℕ → Type 0
AreChanges tokens nesting_left events a b =
    (first : PlainEvent) × (m : ℕ) × IsChange tokens nesting_left first a m
    × ((others : List PlainEvent) × (n : ℕ) × AreRun tokens Close (λ (s : Bool). IsNextChange tokens nesting_left) (λ s x. s) true others m n
    × ((events ≡ first ∷ others) × (b ≡ n)))

abbrev pub is_posedge : PlainEvent → Bool
is_posedge (edge_event s edges.Posedge name) = true
is_posedge _ = false

-- ')' behind a posedge
abbrev pub IsLoneEdge : List Lexeme → PlainEvent → List PlainEvent → ℕ → ℕ → Type 0
IsLoneEdge tokens first events a b = (mark_at tokens a ≡ Close) × (is_posedge first ≡ true) × (events ≡ first ∷ []) × (b ≡ a + 1)

-- ('or' | ',') edge ')' behind an edge
abbrev pub IsSecondEdge : List Lexeme → PlainEvent → List PlainEvent → ℕ → ℕ → Type 0
IsSecondEdge tokens first events a b =
    (is_or : Bool) × (m : ℕ) × IsSeparator tokens is_or a m
    × ((mark_at tokens m ≢ Name)
    × ((second : PlainEvent) × (n : ℕ) × IsEdgeEvent tokens second m n
    × ((mark_at tokens n ≢ Or)
    × ((mark_at tokens n ≢ Comma)
    × ((mark_at tokens n ≡ Close)
    × ((events ≡ first ∷ second ∷ []) × (b ≡ n + 1)))))))

-- one posedge, or two events with edges, and ')'
abbrev pub AreEdges : List Lexeme → List PlainEvent → ℕ → ℕ → Type 0
AreEdges tokens events a b =
    (first : PlainEvent) × (m : ℕ) × IsEdgeEvent tokens first a m × (IsLoneEdge tokens first events m b ⊎ IsSecondEdge tokens first events m b)

-- an edge begins a list of edges, and anything else one of changes
abbrev pub AreEvents : List Lexeme → ℕ → List PlainEvent → ℕ → ℕ → Type 0
AreEvents tokens nesting_left events a b =
    ((mark_at tokens a ≡ Posedge) × AreEdges tokens events a b)
    ⊎ ((mark_at tokens a ≢ Posedge)
    × (((mark_at tokens a ≡ Negedge) × AreEdges tokens events a b) ⊎ ((mark_at tokens a ≢ Negedge) × AreChanges tokens nesting_left events a b)))

-- '*' ')' behind the '(' at `from`
abbrev pub IsStarClose : List Lexeme → ℕ → PlainSensitivity → ℕ → ℕ → Type 0
IsStarClose tokens from x a b = (mark_at tokens a ≡ Star) × ((mark_at tokens (a + 1) ≡ Close) × ((x ≡ all_events (site tokens from (a + 1 + 1))) × (b ≡ a + 1 + 1)))

abbrev pub IsListed : List Lexeme → ℕ → ℕ → PlainSensitivity → ℕ → ℕ → Type 0
IsListed tokens nesting_left from x a b =
    (mark_at tokens a ≢ Star) × ((events : List PlainEvent) × (n : ℕ) × AreEvents tokens nesting_left events a n × ((x ≡ listed (site tokens from n) events) × (b ≡ n)))

-- '*' | '(' '*' ')' | '(' events ')'
abbrev pub IsSensitivity : List Lexeme → ℕ → PlainSensitivity → ℕ → ℕ → Type 0
IsSensitivity tokens nesting_left x a b =
    ((mark_at tokens a ≡ Star) × ((x ≡ all_events (site tokens a (a + 1))) × (b ≡ a + 1)))
    ⊎ ((mark_at tokens a ≡ Open) × (IsStarClose tokens a x (a + 1) b ⊎ IsListed tokens nesting_left a x (a + 1) b))
