-- Declarations of ports, nets, registers and parameters (IEEE 1364-2005, clause 4 and A.2): which item the tokens from a place up
-- to another one spell, where `nesting_left` levels of nesting are left. Each production stands as its comment, as in Productions.
use Rattle.std.specs.Prelude.{◌≡◌, ◌≢◌, ℕ, ◌+◌, ◌⊎◌, Bool, List, Option, Some, None}
use Rattle.v_lexer.specs.Lexeme.{Lexeme}
use Rattle.v_syntax.specs.declared.declaration.Identifier.{Identifier}
use Rattle.v_syntax.specs.declared.item.Direction.{Direction}
use Rattle.v_syntax.specs.declared.item.NetKind.{NetKind}
use Rattle.v_syntax.specs.declared.item.NetKind.TheVariants as nets
use Rattle.v_syntax.specs.declared.item.ParameterKind.{ParameterKind}
use Rattle.v_syntax.specs.declared.item.ParameterKind.TheVariants as kinds
use Rattle.v_lexer.specs.declared.types.terminal.Terminal.TheVariants.{OpenBracket, Semicolon, Equals, Hash, Genvar, Integer, Localparam, Parameter, Reg, Wire}
use Rattle.v_tree.specs.Marks.{mark_at}
use Rattle.v_tree.specs.Sites.{site}
use Rattle.v_syntax.specs.Tree.{Tree}
use Rattle.v_syntax.specs.PartTree.{PlainRange, PlainNamed, PlainDelay}
use Rattle.v_parts.specs.Productions.{IsOptional, AreListed, IsName, IsIdentifier, IsEquals, IsRange, IsDelay, IsNamedValue}
use Rattle.v_syntax.specs.ItemTree.{PlainParameterType, PlainDeclarator, PlainItem, port_item, net_item, integer_item, genvar_item, parameter_item}
use Rattle.v_declarations.specs.Types.{IsDirection, IsNetIf, IsSignedIf, IsRangeIf, IsParameterType}

-- NAME,+ ';'
abbrev pub AreNames : List Lexeme → List Identifier → ℕ → ℕ → Type 0
AreNames tokens names a b =
    (list : List Identifier) × (m : ℕ) × AreListed tokens (IsIdentifier tokens) list a m
    × ((mark_at tokens m ≡ Semicolon)
    × ((names ≡ list) × (b ≡ m + 1)))

-- ('input' | 'output') ('wire' | 'reg')? 'signed'? range? NAME,+ ';'
abbrev pub IsPorts : List Lexeme → ℕ → PlainItem → ℕ → ℕ → Type 0
IsPorts tokens nesting_left x a b =
    (direction : Direction) × (m : ℕ) × IsDirection tokens direction a m
    × ((net : Option NetKind) × (n : ℕ) × IsNetIf tokens net m n
    × ((signed : Bool) × (k : ℕ) × IsSignedIf tokens signed n k
    × ((range : Option PlainRange) × (l : ℕ) × IsRangeIf tokens nesting_left range k l
    × ((names : List Identifier) × (o : ℕ) × AreNames tokens names l o
    × ((x ≡ port_item (site tokens a o) direction net signed range names) × (b ≡ o))))))

-- 'integer' NAME,+ ';'
abbrev pub IsIntegers : List Lexeme → PlainItem → ℕ → ℕ → Type 0
IsIntegers tokens x a b =
    (mark_at tokens a ≡ Integer)
    × ((names : List Identifier) × (m : ℕ) × AreNames tokens names (a + 1) m
    × ((x ≡ integer_item (site tokens a m) names) × (b ≡ m)))

-- 'genvar' NAME,+ ';'
abbrev pub IsGenvars : List Lexeme → PlainItem → ℕ → ℕ → Type 0
IsGenvars tokens x a b =
    (mark_at tokens a ≡ Genvar)
    × ((names : List Identifier) × (m : ℕ) × AreNames tokens names (a + 1) m
    × ((x ≡ genvar_item (site tokens a m) names) × (b ≡ m)))

-- 'wire' | 'reg'
abbrev pub IsNet : List Lexeme → NetKind → ℕ → ℕ → Type 0
IsNet tokens net a b =
    ((mark_at tokens a ≡ Wire) × ((net ≡ nets.Wire) × (b ≡ a + 1))) ⊎ ((mark_at tokens a ≡ Reg) × ((net ≡ nets.Reg) × (b ≡ a + 1)))

-- range behind the name of a reg from `from` on, where no = stands behind it
abbrev pub IsArray : List Lexeme → ℕ → NetKind → ℕ → Identifier → PlainDeclarator → ℕ → ℕ → Type 0
IsArray tokens nesting_left net from name x a b =
    (mark_at tokens a ≡ OpenBracket) × (net ≡ nets.Reg)
    × ((range : PlainRange) × (m : ℕ) × IsRange tokens nesting_left range a m
    × ((mark_at tokens m ≢ Equals)
    × ((x ≡ record { site = site tokens from m; name = name; range = Some range; value = None }) × (b ≡ m))))

-- ('=' expr)? behind a name from `from` on, where no [ stands
abbrev pub IsScalar : List Lexeme → ℕ → ℕ → Identifier → PlainDeclarator → ℕ → ℕ → Type 0
IsScalar tokens nesting_left from name x a b =
    (mark_at tokens a ≢ OpenBracket)
    × ((value : Option Tree) × (m : ℕ) × IsOptional tokens Equals (IsEquals tokens nesting_left) value a m
    × ((x ≡ record { site = site tokens from m; name = name; range = None; value = value }) × (b ≡ m)))

-- NAME range of a reg, or NAME ('=' expr)?
abbrev pub IsDeclarator : List Lexeme → ℕ → NetKind → PlainDeclarator → ℕ → ℕ → Type 0
IsDeclarator tokens nesting_left net x a b =
    (name : Identifier) × (m : ℕ) × IsIdentifier tokens name a m
    × (IsArray tokens nesting_left net a name x m b ⊎ IsScalar tokens nesting_left a name x m b)

-- ('wire' | 'reg') 'signed'? range? delay? decl,+ ';'
abbrev pub IsNets : List Lexeme → ℕ → PlainItem → ℕ → ℕ → Type 0
IsNets tokens nesting_left x a b =
    (net : NetKind) × (m : ℕ) × IsNet tokens net a m
    × ((signed : Bool) × (n : ℕ) × IsSignedIf tokens signed m n
    × ((range : Option PlainRange) × (k : ℕ) × IsRangeIf tokens nesting_left range n k
    × ((delay : Option PlainDelay) × (l : ℕ) × IsOptional tokens Hash (IsDelay tokens nesting_left) delay k l
    × ((names : List PlainDeclarator) × (o : ℕ) × AreListed tokens (IsDeclarator tokens nesting_left net) names l o
    × ((mark_at tokens o ≡ Semicolon)
    × ((x ≡ net_item (site tokens a (o + 1)) net signed range delay names) × (b ≡ o + 1)))))))

-- 'parameter' | 'localparam'
abbrev pub IsParameterKind : List Lexeme → ParameterKind → ℕ → ℕ → Type 0
IsParameterKind tokens kind a b =
    ((mark_at tokens a ≡ Parameter) × ((kind ≡ kinds.Parameter) × (b ≡ a + 1))) ⊎ ((mark_at tokens a ≡ Localparam) × ((kind ≡ kinds.Local) × (b ≡ a + 1)))

-- ('parameter' | 'localparam') ptype (NAME '=' expr),+ ';'
abbrev pub IsParameters : List Lexeme → ℕ → PlainItem → ℕ → ℕ → Type 0
IsParameters tokens nesting_left x a b =
    (kind : ParameterKind) × (m : ℕ) × IsParameterKind tokens kind a m
    × ((type : PlainParameterType) × (n : ℕ) × IsParameterType tokens nesting_left type m n
    × ((values : List PlainNamed) × (k : ℕ) × AreListed tokens (IsNamedValue tokens nesting_left) values n k
    × ((mark_at tokens k ≡ Semicolon)
    × ((x ≡ parameter_item (site tokens a (k + 1)) kind type values) × (b ≡ k + 1)))))

-- an item that declares
abbrev pub IsDeclaration : List Lexeme → ℕ → PlainItem → ℕ → ℕ → Type 0
IsDeclaration tokens nesting_left x a b =
    IsPorts tokens nesting_left x a b
    ⊎ (IsNets tokens nesting_left x a b
    ⊎ (IsIntegers tokens x a b
    ⊎ (IsGenvars tokens x a b
    ⊎ IsParameters tokens nesting_left x a b)))
