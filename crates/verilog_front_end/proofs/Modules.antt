-- The modules of a text are as the grammar gives them.
use Rattle.std.proofs.Common.{◌≡◌, ℕ, true, List, [], ◌∷◌, refl, sym, ap, ◌∙◌, subst, inl, inr}
use Rattle.v_lexer.specs.Lexeme.{Lexeme}
use Rattle.v_lexer.specs.declared.types.terminal.Terminal.TheVariants.{Endmodule}
use Rattle.v_syntax.specs.ModuleTree.{PlainPort, PlainPorts, declared_ports, PlainModule}
use Rattle.v_declarations.specs.Headers.{IsDeclaredPort, IsHeaderPorts}
use Rattle.v_parser.specs.Items.{IsItem}
use Rattle.v_parser.specs.Modules.{IsModule, AreModules, IsSource}
use Rattle.bind_laws.specs.Every.{Every}
use Rattle.bind_laws.specs.Written.{has_words, WrittenModule}
use Rattle.verilog_front_end.proofs.Items.{items-written, item-written}

-- a port with words of its own
first-words : (tokens : List Lexeme) (n : ℕ) (x : PlainPort) (others : List PlainPort) (a b : ℕ)
    → IsDeclaredPort tokens n x a b → has_words (declared_ports (x ∷ others)) ≡ true
first-words tokens n x others a b (direction, m, c, (net, k, d, (signed, l, e, (range, o, f, (name, p, g, (value, q, h, (is, end))))))) =
    subst (λ (y : PlainPort). has_words (declared_ports (y ∷ others)) ≡ true) (sym is) refl

ports-written : (tokens : List Lexeme) (n : ℕ) (x : PlainPorts) (a b : ℕ) → IsHeaderPorts tokens n x a b
    → has_words x ≡ true
ports-written tokens n x a b (inr (bare, (is, end))) = ap has_words is
ports-written tokens n x a b (inl (opens, inl (close, (is, end)))) = ap has_words is
ports-written tokens n x a b (inl (opens, inr (inl (first, m, here, (ports, k, (others, l, run, (list, last)), (is, end)))))) =
    ap has_words is ∙ ap (λ ps. has_words (declared_ports ps)) list ∙ first-words tokens n first others _ m here
ports-written tokens n x a b (inl (opens, inr (inr (names, m, list, (close, (is, end)))))) = ap has_words is

module-written : (tokens : List Lexeme) (n : ℕ) (x : PlainModule) (a b : ℕ) → IsModule tokens n x a b → WrittenModule x
module-written tokens n x a b (word, (name, m, named, (parameters, k, heads, (ports, l, header, (semicolon, (items, o, run, (is, end))))))) =
    subst WrittenModule (sym is)
    (record { ports = ports-written tokens n ports k l header; items = items-written tokens Endmodule (IsItem tokens n) (item-written tokens n) items _ o run })

modules-written : (tokens : List Lexeme) (xs : List PlainModule) (a : ℕ) → AreModules tokens xs a
    → Every WrittenModule xs
modules-written tokens [] a are = tt
modules-written tokens (x ∷ xs) a (m, here, rest) = (module-written tokens 256 x a m here, modules-written tokens xs m rest)

pub source-written : (tokens : List Lexeme) (xs : List PlainModule) → IsSource tokens xs → Every WrittenModule xs
source-written tokens xs are = modules-written tokens xs 0 are
