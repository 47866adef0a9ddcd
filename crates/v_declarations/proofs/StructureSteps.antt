-- The steps of reading gates, as facts.
use Rattle.std.proofs.Common.{◌≡◌, ◌≢◌, ℕ, ◌<◌, List, length, Some, sym, ap, ◌∙◌}
use Rattle.v_lexer.specs.Lexeme.{Lexeme}
use Rattle.v_syntax.specs.declared.item.GateKind.{GateKind}
use Rattle.v_lexer.specs.declared.types.terminal.Terminal.{Terminal}
use Rattle.v_lexer.specs.declared.types.terminal.Terminal.TheVariants.{Nothing}
use Rattle.v_tree.specs.Marks.{mark_at}
use Rattle.v_tree.proofs.PlaceLemmas.{marked_inside}
use Rattle.v_declarations.specs.Structures.{gate_kind}

gate_nothing : (m : Terminal) (k : GateKind) → gate_kind m ≡ Some k → m ≢ Nothing
gate_nothing m k e gone = let h : gate_kind Nothing ≡ Some k = ap gate_kind (sym gone) ∙ e in cc

-- a gate's word is within the list
pub gate_inside : (t : List Lexeme) (n : ℕ) (k : GateKind) → gate_kind (mark_at t n) ≡ Some k → n < length t
gate_inside t n k e = marked_inside t n (gate_nothing _ k e)
