-- Which chapter an item belongs to, by its first token (IEEE 1364-2005, A.1.4).
use Rattle.v_lexer.specs.declared.types.terminal.Terminal.{Terminal}
use Rattle.v_lexer.specs.declared.types.terminal.Terminal.TheVariants as mark
use Rattle.v_parser.specs.declared.item_kinds.ItemKind.{ItemKind}
use Rattle.v_parser.specs.declared.item_kinds.ItemKind.TheVariants.{Declaration, Structure, Procedure, Generated, Nothing}

abbrev pub item_kind : Terminal → ItemKind
item_kind mark.Input = Declaration
item_kind mark.Output = Declaration
item_kind mark.Wire = Declaration
item_kind mark.Reg = Declaration
item_kind mark.Integer = Declaration
item_kind mark.Genvar = Declaration
item_kind mark.Parameter = Declaration
item_kind mark.Localparam = Declaration
item_kind mark.Assign = Structure
item_kind mark.And = Structure
item_kind mark.Or = Structure
item_kind mark.Nand = Structure
item_kind mark.Nor = Structure
item_kind mark.Xor = Structure
item_kind mark.Xnor = Structure
item_kind mark.Buf = Structure
item_kind mark.Not = Structure
item_kind mark.Name = Structure
item_kind mark.Always = Procedure
item_kind mark.Initial = Procedure
item_kind mark.Generate = Generated
item_kind mark.For = Generated
item_kind mark.If = Generated
item_kind _ = Nothing
