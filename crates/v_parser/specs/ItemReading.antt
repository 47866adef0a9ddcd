-- How the code reads items: the function on lists that each reader is. No public clause speaks of it.
use Rattle.std.specs.Prelude.{ℕ, zero, suc, ◌+◌, List, length, Ok, Err, if◌then◌else◌, Bool, true}
use Rattle.v_lexer.specs.Lexeme.{Lexeme}
use Rattle.v_lexer.specs.declared.types.terminal.Terminal.{Terminal}
use Rattle.v_lexer.specs.declared.types.terminal.Terminal.TheVariants as mark
use Rattle.v_tree.specs.declared.fault.Fault.TheVariants.{Deep}
use Rattle.v_tree.specs.Marks.{mark_at, same}
use Rattle.v_tree.specs.Sites.{site}
use Rattle.v_tree.specs.Faults.{no_place}
use Rattle.v_syntax.specs.Tree.{Tree}
use Rattle.v_tree.specs.Reading.{Read, ◌>>=◌, expect, lower}
use Rattle.v_parser.specs.declared.item_kinds.ItemKind.{ItemKind}
use Rattle.v_parser.specs.declared.item_kinds.ItemKind.TheVariants as kind
use Rattle.v_parser.specs.ItemKinds.{item_kind}
use Rattle.v_syntax.specs.ItemTree.{PlainItem, PlainBlock, generate_item, loop_item, if_item, if_else_item, single, several, items_of}
use Rattle.v_parts.specs.Reading.{optional_at, run_at}
use Rattle.v_statements.specs.StatementReading.{label_at, head_at, in_parens_at}
use Rattle.v_declarations.specs.DeclarationReading.{declaration_at}
use Rattle.v_declarations.specs.StructureReading.{structure_at}
use Rattle.v_statements.specs.ProcedureReading.{procedure_at}

abbrev pub ItemReader : Type 0
ItemReader = ℕ → Read PlainItem

-- items up to a token of that mark
unfoldable pub items_at : List Lexeme → Terminal → ItemReader → ℕ → Read (List PlainItem)
items_at tokens last inner a = run_at tokens last (λ (s : Bool). inner) (λ s x. s) (length tokens) true a

unfoldable pub generate_at : List Lexeme → ℕ → ItemReader → ℕ → Read PlainItem
generate_at tokens nesting_left inner a =
    lower nesting_left a >>= λ less. items_at tokens mark.Endgenerate inner (a + 1) >>= λ xs. Ok (generate_item (site tokens a xs.1) (items_of xs.0), xs.1)

unfoldable pub several_at : List Lexeme → ItemReader → ℕ → Read PlainBlock
several_at tokens inner a =
    expect tokens mark.Begin a >>= λ m. optional_at tokens mark.Colon (label_at tokens) m >>= λ l. items_at tokens mark.End inner l.1 >>= λ xs.
    Ok (several (site tokens a xs.1) l.0 (items_of xs.0), xs.1)

unfoldable pub single_at : List Lexeme → ItemReader → ℕ → Read PlainBlock
single_at tokens inner a = inner a >>= λ x. Ok (single (site tokens a x.1) x.0, x.1)

-- what a generate loop or condition holds
unfoldable pub block_item_at : List Lexeme → ItemReader → ℕ → Read PlainBlock
block_item_at tokens inner a = if same (mark_at tokens a) mark.Begin then several_at tokens inner a else single_at tokens inner a

unfoldable pub loop_item_at : List Lexeme → ℕ → ItemReader → ℕ → Read PlainItem
loop_item_at tokens nesting_left inner a =
    lower nesting_left a >>= λ less. head_at tokens less (a + 1) >>= λ h. block_item_at tokens inner h.1 >>= λ y. Ok (loop_item (site tokens a y.1) h.0 y.0, y.1)

-- what stands behind the block that a condition has
unfoldable pub else_item_at : List Lexeme → ItemReader → ℕ → Tree → PlainBlock → ℕ → Read PlainItem
else_item_at tokens inner from condition taken a =
    if same (mark_at tokens a) mark.Else then (block_item_at tokens inner (a + 1) >>= λ y. Ok (if_else_item (site tokens from y.1) condition taken y.0, y.1))
    else Ok (if_item (site tokens from a) condition taken, a)

unfoldable pub if_item_at : List Lexeme → ℕ → ItemReader → ℕ → Read PlainItem
if_item_at tokens nesting_left inner a =
    lower nesting_left a >>= λ less. in_parens_at tokens less (a + 1) >>= λ c. block_item_at tokens inner c.1 >>= λ x. else_item_at tokens inner a c.0 x.0 x.1

-- a generate region, loop or condition
unfoldable pub generated_at : List Lexeme → ℕ → ItemReader → ℕ → Read PlainItem
generated_at tokens nesting_left inner a =
    if same (mark_at tokens a) mark.Generate then generate_at tokens nesting_left inner a
    else if same (mark_at tokens a) mark.For then loop_item_at tokens nesting_left inner a
    else if same (mark_at tokens a) mark.If then if_item_at tokens nesting_left inner a
    else Err (no_place tokens a)

-- an item of that chapter, with the reader of what nests in it
abbrev pub item_of_kind : List Lexeme → ℕ → ItemReader → ℕ → ItemKind → Read PlainItem
item_of_kind tokens nesting_left inner a kind.Declaration = declaration_at tokens nesting_left a
item_of_kind tokens nesting_left inner a kind.Structure = structure_at tokens nesting_left a
item_of_kind tokens nesting_left inner a kind.Procedure = procedure_at tokens nesting_left a
item_of_kind tokens nesting_left inner a kind.Generated = generated_at tokens nesting_left inner a
item_of_kind tokens nesting_left inner a kind.Nothing = Err (no_place tokens a)

unfoldable pub item_with : List Lexeme → ℕ → ItemReader → ItemReader
item_with tokens nesting_left inner a = item_of_kind tokens nesting_left inner a (item_kind (mark_at tokens a))

unfoldable pub item_at : List Lexeme → ℕ → ItemReader
item_at tokens zero = item_with tokens zero (λ a. Err (Deep a))
item_at tokens (suc nesting_left) = item_with tokens (suc nesting_left) (item_at tokens nesting_left)

-- the items within, where so much nesting is left
abbrev pub item_below : List Lexeme → ℕ → ItemReader
item_below tokens zero = λ a. Err (Deep a)
item_below tokens (suc nesting_left) = item_at tokens nesting_left
