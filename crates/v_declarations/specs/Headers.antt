-- The header of a module (IEEE 1364-2005, 12.2, 12.3 and A.1.2 to A.1.3): which parameters and ports the tokens from a place up to
-- another one spell, where `nesting_left` levels of nesting are left. Each production stands as its comment, as in Productions.
use Rattle.std.specs.Prelude.{◌≡◌, ◌≢◌, ℕ, ◌+◌, ◌⊎◌, Bool, true, false, List, [], ◌∷◌, Option, None}
use Rattle.v_lexer.specs.Lexeme.{Lexeme}
use Rattle.v_syntax.specs.declared.declaration.Identifier.{Identifier}
use Rattle.v_syntax.specs.declared.item.Direction.{Direction}
use Rattle.v_syntax.specs.declared.item.NetKind.{NetKind}
use Rattle.v_lexer.specs.declared.types.terminal.Terminal.TheVariants.{Open, Close, OpenBracket, Comma, Equals, Hash, Parameter}
use Rattle.v_tree.specs.Marks.{mark_at}
use Rattle.v_tree.specs.Sites.{site}
use Rattle.v_syntax.specs.Tree.{Tree}
use Rattle.v_syntax.specs.PartTree.{PlainRange}
use Rattle.v_syntax.specs.ItemTree.{PlainParameterType}
use Rattle.v_syntax.specs.ModuleTree.{PlainHeaderParameter, PlainPort, declared_port, same_port, PlainPorts, no_ports, name_ports, declared_ports}
use Rattle.v_parts.specs.Productions.{IsOptional, AreListed, AreRun, IsName, IsIdentifier, IsValue, IsEquals}
use Rattle.v_declarations.specs.Types.{IsDirection, IsNetIf, is_output_reg, IsSignedIf, IsRangeIf, IsParameterType}

-- 'parameter'?
abbrev pub IsParameterWordIf : List Lexeme → Bool → ℕ → ℕ → Type 0
IsParameterWordIf tokens x a b = ((mark_at tokens a ≡ Parameter) × ((x ≡ true) × (b ≡ a + 1))) ⊎ ((mark_at tokens a ≢ Parameter) × ((x ≡ false) × (b ≡ a)))

-- 'parameter'? ptype NAME '=' expr
abbrev pub IsHeaderParameter : List Lexeme → ℕ → PlainHeaderParameter → ℕ → ℕ → Type 0
IsHeaderParameter tokens nesting_left x a b =
    (opens : Bool) × (m : ℕ) × IsParameterWordIf tokens opens a m
    × ((type_of : PlainParameterType) × (n : ℕ) × IsParameterType tokens nesting_left type_of m n
    × ((name : Identifier) × (k : ℕ) × IsIdentifier tokens name n k
    × ((mark_at tokens k ≡ Equals)
    × ((value : Tree) × (l : ℕ) × IsValue tokens nesting_left value (k + 1) l
    × ((x ≡ record { site = site tokens a l; opens = opens; type_of = type_of; name = name; value = value }) × (b ≡ l))))))

-- hparam,+ ')', the first of which begins with the word parameter
abbrev pub AreParametersBehind : List Lexeme → ℕ → List PlainHeaderParameter → ℕ → ℕ → Type 0
AreParametersBehind tokens nesting_left xs a b =
    (mark_at tokens a ≡ Parameter)
    × ((list : List PlainHeaderParameter) × (m : ℕ) × AreListed tokens (IsHeaderParameter tokens nesting_left) list a m
    × ((mark_at tokens m ≡ Close)
    × ((xs ≡ list) × (b ≡ m + 1))))

-- '#' '(' hparam,+ ')'
abbrev pub AreParameters : List Lexeme → ℕ → List PlainHeaderParameter → ℕ → ℕ → Type 0
AreParameters tokens nesting_left xs a b = (mark_at tokens a ≡ Hash) × ((mark_at tokens (a + 1) ≡ Open) × AreParametersBehind tokens nesting_left xs (a + 1 + 1) b)

-- ('#' '(' hparam,+ ')')?
abbrev pub AreHeaderParameters : List Lexeme → ℕ → List PlainHeaderParameter → ℕ → ℕ → Type 0
AreHeaderParameters tokens nesting_left xs a b = AreParameters tokens nesting_left xs a b ⊎ ((mark_at tokens a ≢ Hash) × ((xs ≡ []) × (b ≡ a)))

-- ('=' expr)? of an output reg, or nothing, where no = stands
abbrev pub IsValueOf : List Lexeme → ℕ → Bool → Option Tree → ℕ → ℕ → Type 0
IsValueOf tokens nesting_left true value a b = IsOptional tokens Equals (IsEquals tokens nesting_left) value a b
IsValueOf tokens nesting_left false value a b = (mark_at tokens a ≢ Equals) × ((value ≡ None) × (b ≡ a))

-- what stands behind a port's name, which is no range
abbrev pub IsPortValue : List Lexeme → ℕ → Bool → Option Tree → ℕ → ℕ → Type 0
IsPortValue tokens nesting_left reg value a b = (mark_at tokens a ≢ OpenBracket) × IsValueOf tokens nesting_left reg value a b

-- dir ('wire' | 'reg')? 'signed'? range? NAME ('=' expr)?
abbrev pub IsDeclaredPort : List Lexeme → ℕ → PlainPort → ℕ → ℕ → Type 0
IsDeclaredPort tokens nesting_left x a b =
    (direction : Direction) × (m : ℕ) × IsDirection tokens direction a m
    × ((net : Option NetKind) × (n : ℕ) × IsNetIf tokens net m n
    × ((signed : Bool) × (k : ℕ) × IsSignedIf tokens signed n k
    × ((range : Option PlainRange) × (l : ℕ) × IsRangeIf tokens nesting_left range k l
    × ((name : Identifier) × (o : ℕ) × IsIdentifier tokens name l o
    × ((value : Option Tree) × (p : ℕ) × IsPortValue tokens nesting_left (is_output_reg direction net) value o p
    × ((x ≡ declared_port (site tokens a p) direction net signed range name value) × (b ≡ p)))))))

-- NAME ('=' expr)?, where the port before is an output reg or isn't
abbrev pub IsSamePort : List Lexeme → ℕ → Bool → PlainPort → ℕ → ℕ → Type 0
IsSamePort tokens nesting_left reg x a b =
    (name : Identifier) × (m : ℕ) × IsIdentifier tokens name a m
    × ((value : Option Tree) × (n : ℕ) × IsPortValue tokens nesting_left reg value m n
    × ((x ≡ same_port (site tokens a n) name value) × (b ≡ n)))

-- a port that has its own words, or those of the port before
abbrev pub IsPort : List Lexeme → ℕ → Bool → PlainPort → ℕ → ℕ → Type 0
IsPort tokens nesting_left reg x a b = IsDeclaredPort tokens nesting_left x a b ⊎ IsSamePort tokens nesting_left reg x a b

-- ',' aport
abbrev pub IsNextPort : List Lexeme → ℕ → Bool → PlainPort → ℕ → ℕ → Type 0
IsNextPort tokens nesting_left reg x a b = (mark_at tokens a ≡ Comma) × IsPort tokens nesting_left reg x (a + 1) b

-- whether a port is an output reg, by its own words or those of the port before
abbrev pub is_reg : Bool → PlainPort → Bool
is_reg before (declared_port s direction net signed range name value) = is_output_reg direction net
is_reg before (same_port s name value) = before

-- (',' aport)* ')' behind the first port
abbrev pub ArePorts : List Lexeme → ℕ → PlainPort → List PlainPort → ℕ → ℕ → Type 0
ArePorts tokens nesting_left first ports a b =
    (others : List PlainPort) × (n : ℕ) × AreRun tokens Close (IsNextPort tokens nesting_left) is_reg (is_reg false first) others a n
    × ((ports ≡ first ∷ others) × (b ≡ n))

-- aport,+ ')', the first of which has a direction
abbrev pub IsPortList : List Lexeme → ℕ → PlainPorts → ℕ → ℕ → Type 0
IsPortList tokens nesting_left x a b =
    (first : PlainPort) × (m : ℕ) × IsDeclaredPort tokens nesting_left first a m
    × ((ports : List PlainPort) × (n : ℕ) × ArePorts tokens nesting_left first ports m n
    × ((x ≡ declared_ports ports) × (b ≡ n)))

-- NAME,+ ')'
abbrev pub IsNameList : List Lexeme → PlainPorts → ℕ → ℕ → Type 0
IsNameList tokens x a b =
    (names : List Identifier) × (m : ℕ) × AreListed tokens (IsIdentifier tokens) names a m
    × ((mark_at tokens m ≡ Close)
    × ((x ≡ name_ports names) × (b ≡ m + 1)))

-- ports? ')'
abbrev pub IsPortsBehind : List Lexeme → ℕ → PlainPorts → ℕ → ℕ → Type 0
IsPortsBehind tokens nesting_left x a b = ((mark_at tokens a ≡ Close) × ((x ≡ no_ports) × (b ≡ a + 1))) ⊎ (IsPortList tokens nesting_left x a b ⊎ IsNameList tokens x a b)

-- '(' ports? ')'
abbrev pub IsPortsInParens : List Lexeme → ℕ → PlainPorts → ℕ → ℕ → Type 0
IsPortsInParens tokens nesting_left x a b = (mark_at tokens a ≡ Open) × IsPortsBehind tokens nesting_left x (a + 1) b

-- ('(' ports? ')')?
abbrev pub IsHeaderPorts : List Lexeme → ℕ → PlainPorts → ℕ → ℕ → Type 0
IsHeaderPorts tokens nesting_left x a b = IsPortsInParens tokens nesting_left x a b ⊎ ((mark_at tokens a ≢ Open) × ((x ≡ no_ports) × (b ≡ a)))
