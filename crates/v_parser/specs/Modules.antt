-- Modules and the whole text (IEEE 1364-2005, 12.1, A.1.1 and A.1.2): which trees the tokens spell. Each production stands as its
-- comment, as in Productions.
use Rattle.std.specs.Prelude.{◌≡◌, ℕ, ◌+◌, List, [], ◌∷◌, length, Result, MatchResult}
use Rattle.v_lexer.specs.Lexeme.{Lexeme}
use Rattle.v_syntax.specs.declared.declaration.Identifier.{Identifier}
use Rattle.v_syntax.specs.declared.module.SourceTree.{SourceTree}
use Rattle.v_lexer.specs.declared.types.terminal.Terminal.TheVariants.{Semicolon, Endmodule, Module}
use Rattle.v_tree.specs.declared.fault.ParseErr.{ParseErr}
use Rattle.v_tree.specs.declared.fault.ParseErr.TheVariants as error
use Rattle.v_tree.specs.Marks.{mark_at}
use Rattle.v_tree.specs.Sites.{site}
use Rattle.v_parts.specs.Productions.{IsIdentifier}
use Rattle.v_syntax.specs.ItemTree.{PlainItem}
use Rattle.v_syntax.specs.ModuleTree.{PlainHeaderParameter, PlainPorts, PlainModule, source_of}
use Rattle.v_declarations.specs.Headers.{AreHeaderParameters, IsHeaderPorts}
use Rattle.v_parser.specs.Items.{AreItemsUpTo, IsItem}
use Rattle.v_parts.specs.Answers.{ShowsFault}

-- 'module' NAME ('#' '(' hparam,+ ')')? ('(' ports? ')')? ';' item* 'endmodule', where `nesting_left` levels of nesting are left to each part
abbrev pub IsModule : List Lexeme → ℕ → PlainModule → ℕ → ℕ → Type 0
IsModule tokens nesting_left x a b =
    (mark_at tokens a ≡ Module)
    × ((name : Identifier) × (m : ℕ) × IsIdentifier tokens name (a + 1) m
    × ((parameters : List PlainHeaderParameter) × (n : ℕ) × AreHeaderParameters tokens nesting_left parameters m n
    × ((ports : PlainPorts) × (k : ℕ) × IsHeaderPorts tokens nesting_left ports n k
    × ((mark_at tokens k ≡ Semicolon)
    × ((items : List PlainItem) × (l : ℕ) × AreItemsUpTo tokens Endmodule (IsItem tokens nesting_left) items (k + 1) l
    × ((x ≡ record { site = site tokens a l; name = name; parameters = parameters; ports = ports; items = items }) × (b ≡ l)))))))

-- module*, up to the end of the tokens
abbrev pub AreModules : List Lexeme → List PlainModule → ℕ → Type 0
AreModules tokens [] a = a ≡ length tokens
AreModules tokens (x ∷ xs) a = (m : ℕ) × IsModule tokens 256 x a m × AreModules tokens xs m

-- the modules that all the tokens are, in their order
abbrev pub IsSource : List Lexeme → List PlainModule → Type 0
IsSource tokens modules = AreModules tokens modules 0

-- the answer is that source, unless memory ran out
abbrev pub IsSourceAnswer : Result SourceTree ParseErr → List PlainModule → Type 0
IsSourceAnswer result s = MatchResult result (λ found. source_of found ≡ s) (λ refusal. refusal ≡ error.NoMemory)

-- no tokens that begin as these do, up to the one that tells of the fault, are a source: the error shows such a fault
abbrev pub ShowsNoSource : List Lexeme → ParseErr → Type 0
ShowsNoSource tokens = ShowsFault (λ t s a b. IsSource t s) tokens 0
