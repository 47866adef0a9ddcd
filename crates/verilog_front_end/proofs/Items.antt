-- An item of a text declares no array with a value, and its statements are those of a text.
use Rattle.std.proofs.Common.{◌≡◌, ℕ, zero, suc, Bool, true, List, [], ◌∷◌, refl, sym, subst, inl, inr}
use Rattle.std.specs.Prelude.{Option, Some, None}
use Rattle.v_lexer.specs.Lexeme.{Lexeme}
use Rattle.v_lexer.specs.declared.types.terminal.Terminal.{Terminal}
use Rattle.v_lexer.specs.declared.types.terminal.Terminal.TheVariants.{End, Endgenerate}
use Rattle.v_syntax.specs.declared.item.NetKind.{NetKind}
use Rattle.v_syntax.specs.Tree.{Tree}
use Rattle.v_syntax.specs.PartTree.{PlainRange}
use Rattle.v_syntax.specs.ItemTree.{PlainDeclarator, PlainItem, PlainBlock, items_of}
use Rattle.v_declarations.specs.Declarations.{IsDeclarator, IsDeclaration}
use Rattle.v_declarations.specs.Structures.{IsStructure}
use Rattle.v_statements.specs.Procedures.{IsProcedure}
use Rattle.v_parser.specs.Items.{NestedItem, AreItemsUpTo, IsBlockItem, IsElseItem, IsGenerated, IsItemWith, IsItem}
use Rattle.bind_laws.specs.Every.{Every, IfGiven}
use Rattle.bind_laws.specs.Written.{WrittenDeclarator, WrittenItem, WrittenBlock, WrittenItems}
use Rattle.verilog_front_end.proofs.Steps.{listed-every, run-every}
use Rattle.verilog_front_end.proofs.Statements.{statement-written}

-- what nests in an item is so
abbrev pub AllWritten : NestedItem → Type 0
AllWritten part = (x : PlainItem) (a b : ℕ) → part x a b → WrittenItem x

written-all : (xs : List PlainItem) → Every WrittenItem xs → WrittenItems (items_of xs)
written-all [] all = tt
written-all (x ∷ xs) all = (all.0, written-all xs all.1)

-- items up to a closing token
pub items-written : (tokens : List Lexeme) (last : Terminal) (part : NestedItem) → AllWritten part
    → (xs : List PlainItem) (a b : ℕ) → AreItemsUpTo tokens last part xs a b
    → WrittenItems (items_of xs)
items-written tokens last part each xs a b run = written-all xs (run-every tokens last (λ (s : Bool). part) (λ s x. s) WrittenItem (λ s. each) true xs a b run)

-- ---- declarations
given-none : (o : Option Tree) → IfGiven o (◌≡◌ {A = Option PlainRange} None None)
given-none None = tt
given-none (Some x) = refl

declarator-written : (tokens : List Lexeme) (n : ℕ) (net : NetKind) (x : PlainDeclarator) (a b : ℕ)
    → IsDeclarator tokens n net x a b → WrittenDeclarator x
declarator-written tokens n net x a b (name, m, named, inl (bracket, reg, (range, k, ranged, (equals, (is, end))))) = subst WrittenDeclarator (sym is) tt
declarator-written tokens n net x a b (name, m, named, inr (bracket, (value, k, valued, (is, end)))) = subst WrittenDeclarator (sym is) (given-none value)

declaration-written : (tokens : List Lexeme) (n : ℕ) (x : PlainItem) (a b : ℕ) → IsDeclaration tokens n x a b
    → WrittenItem x
declaration-written tokens n x a b (inl (direction, m, d, (net, k, e, (signed, l, f, (range, o, g, (names, p, h, (is, end))))))) = subst WrittenItem (sym is) tt
declaration-written tokens n x a b (inr (inl (net, m, d, (signed, k, e, (range, l, f, (delay, o, g, (names, p, list, (semicolon, (is, end))))))))) =
    subst WrittenItem (sym is) (listed-every tokens (IsDeclarator tokens n net) WrittenDeclarator (declarator-written tokens n net) names o p list)
declaration-written tokens n x a b (inr (inr (inl (word, (names, m, list, (is, end)))))) = subst WrittenItem (sym is) tt
declaration-written tokens n x a b (inr (inr (inr (inl (word, (names, m, list, (is, end))))))) = subst WrittenItem (sym is) tt
declaration-written tokens n x a b (inr (inr (inr (inr (kind, m, d, (type, k, e, (values, l, list, (semicolon, (is, end))))))))) = subst WrittenItem (sym is) tt

structure-written : (tokens : List Lexeme) (n : ℕ) (x : PlainItem) (a b : ℕ) → IsStructure tokens n x a b
    → WrittenItem x
structure-written tokens n x a b (inl (word, (delay, m, d, (assignments, k, list, (semicolon, (is, end)))))) = subst WrittenItem (sym is) tt
structure-written tokens n x a b (inr (inl (kind, m, d, (delay, k, e, (list, l, are, (semicolon, (is, end))))))) = subst WrittenItem (sym is) tt
structure-written tokens n x a b (inr (inr (name, m, d, (parameters, k, e, (list, l, are, (semicolon, (is, end))))))) = subst WrittenItem (sym is) tt

procedure-written : (tokens : List Lexeme) (n : ℕ) (x : PlainItem) (a b : ℕ) → IsProcedure tokens n x a b
    → WrittenItem x
procedure-written tokens n x a b (inl (word, (at, (events, m, waits, (body, k, here, (is, end)))))) = subst WrittenItem (sym is) (statement-written tokens n body m k here)
procedure-written tokens n x a b (inr (word, (body, k, here, (is, end)))) = subst WrittenItem (sym is) tt

-- ---- generates
block-written : (tokens : List Lexeme) (part : NestedItem) → AllWritten part → (x : PlainBlock) (a b : ℕ)
    → IsBlockItem tokens part x a b → WrittenBlock x
block-written tokens part each x a b (inl (begin, (label, m, named, (items, k, run, (is, end))))) = subst WrittenBlock (sym is) (items-written tokens End part each items m k run)
block-written tokens part each x a b (inr (begin, (one, m, here, (is, end)))) = subst WrittenBlock (sym is) (each one a m here)

else-written : (tokens : List Lexeme) (part : NestedItem) → AllWritten part
    → (from : ℕ) (condition : Tree) (then : PlainBlock) (x : PlainItem) (a b : ℕ) → WrittenBlock then
    → IsElseItem tokens part from condition then x a b → WrittenItem x
else-written tokens part each from condition then x a b first (inl (word, (other, n, here, (is, end)))) = subst WrittenItem (sym is) (first, block-written tokens part each other _ n here)
else-written tokens part each from condition then x a b first (inr (word, (is, end))) = subst WrittenItem (sym is) first

generated-written : (tokens : List Lexeme) (n : ℕ) (part : NestedItem) → AllWritten part → (x : PlainItem) (a b : ℕ)
    → IsGenerated tokens n part x a b → WrittenItem x
generated-written tokens n part each x a b (inl (less, one, word, (items, m, run, (is, end)))) = subst WrittenItem (sym is) (items-written tokens Endgenerate part each items _ m run)
generated-written tokens n part each x a b (inr (inl (less, one, word, (head, m, heads, (body, k, here, (is, end)))))) = subst WrittenItem (sym is) (block-written tokens part each body m k here)
generated-written tokens n part each x a b (inr (inr (less, one, word, (condition, m, parens, (then, k, here, others))))) =
    else-written tokens part each a condition then x k b (block-written tokens part each then m k here) others

-- ---- items
with-written : (tokens : List Lexeme) (n : ℕ) (part : NestedItem) → AllWritten part → (x : PlainItem) (a b : ℕ)
    → IsItemWith tokens n part x a b → WrittenItem x
with-written tokens n part each x a b (inl here) = declaration-written tokens n x a b here
with-written tokens n part each x a b (inr (inl here)) = structure-written tokens n x a b here
with-written tokens n part each x a b (inr (inr (inl here))) = procedure-written tokens n x a b here
with-written tokens n part each x a b (inr (inr (inr here))) = generated-written tokens n part each x a b here

pub item-written : (tokens : List Lexeme) (n : ℕ) (x : PlainItem) (a b : ℕ) → IsItem tokens n x a b → WrittenItem x
item-written tokens zero x a b is = with-written tokens zero (λ x a b. ⊥) (λ x a b none. absurd none) x a b is
item-written tokens (suc n) x a b is = with-written tokens (suc n) (IsItem tokens n) (item-written tokens n) x a b is
