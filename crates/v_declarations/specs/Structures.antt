-- Continuous assignments, gates and module instances (IEEE 1364-2005, clauses 6, 7 and 12, A.3, A.4 and A.6.1): which tree the
-- tokens from a place up to another one spell, where `nesting_left` levels of nesting are left. Each production stands as its comment, as in
-- Productions.
use Rattle.std.specs.Prelude.{◌≡◌, ◌≢◌, ℕ, ◌+◌, ◌⊎◌, Bool, true, false, List, [], Option, Some, None}
use Rattle.v_lexer.specs.Lexeme.{Lexeme}
use Rattle.v_syntax.specs.declared.declaration.Identifier.{Identifier}
use Rattle.v_syntax.specs.declared.item.GateKind.{GateKind}
use Rattle.v_syntax.specs.declared.item.GateKind.TheVariants as gates
use Rattle.v_lexer.specs.declared.types.terminal.Terminal.{Terminal}
use Rattle.v_lexer.specs.declared.types.terminal.Terminal.TheVariants as mark
use Rattle.v_tree.specs.Marks.{mark_at}
use Rattle.v_tree.specs.Sites.{site}
use Rattle.v_syntax.specs.Tree.{Tree}
use Rattle.v_syntax.specs.PartTree.{PlainDelay, PlainLeft}
use Rattle.v_parts.specs.Productions.{IsOptional, AreListed, IsName, IsIdentifier, IsValue, IsDelay, IsLeft}
use Rattle.v_syntax.specs.ItemTree.{PlainItem, assign_item, gate_item, instance_item, PlainAssignment, PlainGate, PlainConnection, PlainConnections, ordered, named, PlainInstance}

-- left '=' expr
abbrev pub IsAssignment : List Lexeme → ℕ → PlainAssignment → ℕ → ℕ → Type 0
IsAssignment tokens nesting_left x a b =
    (target : PlainLeft) × (m : ℕ) × IsLeft tokens nesting_left target a m
    × ((mark_at tokens m ≡ mark.Equals)
    × ((value : Tree) × (n : ℕ) × IsValue tokens nesting_left value (m + 1) n
    × ((x ≡ record { site = site tokens a n; target = target; value = value }) × (b ≡ n))))

-- 'assign' delay? (left '=' expr),+ ';'
abbrev pub IsAssigns : List Lexeme → ℕ → PlainItem → ℕ → ℕ → Type 0
IsAssigns tokens nesting_left x a b =
    (mark_at tokens a ≡ mark.Assign)
    × ((delay : Option PlainDelay) × (m : ℕ) × IsOptional tokens mark.Hash (IsDelay tokens nesting_left) delay (a + 1) m
    × ((assignments : List PlainAssignment) × (n : ℕ) × AreListed tokens (IsAssignment tokens nesting_left) assignments m n
    × ((mark_at tokens n ≡ mark.Semicolon)
    × ((x ≡ assign_item (site tokens a (n + 1)) delay assignments) × (b ≡ n + 1)))))

-- the gate that a word names
abbrev pub gate_kind : Terminal → Option GateKind
gate_kind mark.And = Some gates.And
gate_kind mark.Or = Some gates.Or
gate_kind mark.Nand = Some gates.Nand
gate_kind mark.Nor = Some gates.Nor
gate_kind mark.Xor = Some gates.Xor
gate_kind mark.Xnor = Some gates.Xnor
gate_kind mark.Buf = Some gates.Buf
gate_kind mark.Not = Some gates.Not
gate_kind _ = None

-- 'and' | 'or' | 'nand' | 'nor' | 'xor' | 'xnor' | 'buf' | 'not'
abbrev pub IsGateWord : List Lexeme → GateKind → ℕ → ℕ → Type 0
IsGateWord tokens kind a b = (gate_kind (mark_at tokens a) ≡ Some kind) × (b ≡ a + 1)

-- NAME? '(' expr,+ ')'
abbrev pub IsGate : List Lexeme → ℕ → PlainGate → ℕ → ℕ → Type 0
IsGate tokens nesting_left x a b =
    (name : Option (List ℕ)) × (m : ℕ) × IsOptional tokens mark.Name (IsName tokens) name a m
    × ((mark_at tokens m ≡ mark.Open)
    × ((terminals : List Tree) × (n : ℕ) × AreListed tokens (IsValue tokens nesting_left) terminals (m + 1) n
    × ((mark_at tokens n ≡ mark.Close)
    × ((x ≡ record { site = site tokens a (n + 1); name = name; terminals = terminals }) × (b ≡ n + 1)))))

-- gate delay? (NAME? '(' expr,+ ')'),+ ';'
abbrev pub AreGates : List Lexeme → ℕ → PlainItem → ℕ → ℕ → Type 0
AreGates tokens nesting_left x a b =
    (kind : GateKind) × (k : ℕ) × IsGateWord tokens kind a k
    × ((delay : Option PlainDelay) × (m : ℕ) × IsOptional tokens mark.Hash (IsDelay tokens nesting_left) delay k m
    × ((list : List PlainGate) × (n : ℕ) × AreListed tokens (IsGate tokens nesting_left) list m n
    × ((mark_at tokens n ≡ mark.Semicolon)
    × ((x ≡ gate_item (site tokens a (n + 1)) kind delay list) × (b ≡ n + 1)))))

-- what stands behind a connection, and where one is left out
abbrev pub ends_connection : Terminal → Bool
ends_connection mark.Comma = true
ends_connection mark.Close = true
ends_connection _ = false

-- expr?, nothing where a comma or a ) stands
abbrev pub IsConnection : List Lexeme → ℕ → Option Tree → ℕ → ℕ → Type 0
IsConnection tokens nesting_left None a b = (ends_connection (mark_at tokens a) ≡ true) × (b ≡ a)
IsConnection tokens nesting_left (Some value) a b = (ends_connection (mark_at tokens a) ≡ false) × IsValue tokens nesting_left value a b

-- '.' NAME '(' expr? ')'
abbrev pub IsNamedConnection : List Lexeme → ℕ → PlainConnection → ℕ → ℕ → Type 0
IsNamedConnection tokens nesting_left x a b =
    (mark_at tokens a ≡ mark.Dot)
    × ((name : Identifier) × (m : ℕ) × IsIdentifier tokens name (a + 1) m
    × ((mark_at tokens m ≡ mark.Open)
    × ((value : Option Tree) × (n : ℕ) × IsConnection tokens nesting_left value (m + 1) n
    × ((mark_at tokens n ≡ mark.Close)
    × ((x ≡ record { site = site tokens a (n + 1); name = name; value = value }) × (b ≡ n + 1))))))

-- nothing, where a ) stands
abbrev pub IsUnconnected : List Lexeme → PlainConnections → ℕ → ℕ → Type 0
IsUnconnected tokens x a b = (mark_at tokens a ≡ mark.Close) × ((x ≡ ordered []) × (b ≡ a))

-- ('.' NAME '(' expr? ')'),+ where a dot stands
abbrev pub IsByName : List Lexeme → ℕ → PlainConnections → ℕ → ℕ → Type 0
IsByName tokens nesting_left x a b =
    (mark_at tokens a ≡ mark.Dot)
    × ((list : List PlainConnection) × (n : ℕ) × AreListed tokens (IsNamedConnection tokens nesting_left) list a n × ((x ≡ named list) × (b ≡ n)))

-- expr?,+ where no ) and no dot stands
abbrev pub IsByOrder : List Lexeme → ℕ → PlainConnections → ℕ → ℕ → Type 0
IsByOrder tokens nesting_left x a b =
    (mark_at tokens a ≢ mark.Close) × (mark_at tokens a ≢ mark.Dot)
    × ((list : List (Option Tree)) × (n : ℕ) × AreListed tokens (IsConnection tokens nesting_left) list a n × ((x ≡ ordered list) × (b ≡ n)))

-- conns?
abbrev pub AreConnections : List Lexeme → ℕ → PlainConnections → ℕ → ℕ → Type 0
AreConnections tokens nesting_left x a b = IsUnconnected tokens x a b ⊎ (IsByName tokens nesting_left x a b ⊎ IsByOrder tokens nesting_left x a b)

-- '(' conns? ')'
abbrev pub AreInParens : List Lexeme → ℕ → PlainConnections → ℕ → ℕ → Type 0
AreInParens tokens nesting_left x a b =
    (mark_at tokens a ≡ mark.Open)
    × ((list : PlainConnections) × (n : ℕ) × AreConnections tokens nesting_left list (a + 1) n
    × ((mark_at tokens n ≡ mark.Close)
    × ((x ≡ list) × (b ≡ n + 1))))

-- '#' '(' conns? ')'
abbrev pub AreOverrides : List Lexeme → ℕ → PlainConnections → ℕ → ℕ → Type 0
AreOverrides tokens nesting_left x a b = (mark_at tokens a ≡ mark.Hash) × AreInParens tokens nesting_left x (a + 1) b

-- NAME '(' conns? ')'
abbrev pub IsInstance : List Lexeme → ℕ → PlainInstance → ℕ → ℕ → Type 0
IsInstance tokens nesting_left x a b =
    (name : Identifier) × (m : ℕ) × IsIdentifier tokens name a m
    × ((connections : PlainConnections) × (n : ℕ) × AreInParens tokens nesting_left connections m n
    × ((x ≡ record { site = site tokens a n; name = name; connections = connections }) × (b ≡ n)))

-- NAME ('#' '(' conns? ')')? (NAME '(' conns? ')'),+ ';'
abbrev pub AreInstances : List Lexeme → ℕ → PlainItem → ℕ → ℕ → Type 0
AreInstances tokens nesting_left x a b =
    (name : Identifier) × (k : ℕ) × IsIdentifier tokens name a k
    × ((parameters : Option PlainConnections) × (m : ℕ) × IsOptional tokens mark.Hash (AreOverrides tokens nesting_left) parameters k m
    × ((list : List PlainInstance) × (n : ℕ) × AreListed tokens (IsInstance tokens nesting_left) list m n
    × ((mark_at tokens n ≡ mark.Semicolon)
    × ((x ≡ instance_item (site tokens a (n + 1)) name parameters list) × (b ≡ n + 1)))))

-- an assignment, gates or instances, by the first token
abbrev pub IsStructure : List Lexeme → ℕ → PlainItem → ℕ → ℕ → Type 0
IsStructure tokens nesting_left x a b = IsAssigns tokens nesting_left x a b ⊎ (AreGates tokens nesting_left x a b ⊎ AreInstances tokens nesting_left x a b)
