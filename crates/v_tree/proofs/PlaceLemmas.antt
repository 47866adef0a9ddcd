-- Places in the list of tokens.
use Rattle.std.proofs.Common.{◌≡◌, ◌≢◌, ℕ, ◌<◌, ◌≤◌, inl, inr, true, List, length, Some, sym, ap, ◌∙◌}
use Rattle.std.proofs.lemmas.Option.{slice_get_past}
use Rattle.std.proofs.lemmas.Bool.{cases_lt}
use Rattle.v_lexer.specs.Lexeme.{Lexeme}
use Rattle.v_lexer.specs.declared.types.terminal.Terminal.{Terminal}
use Rattle.v_lexer.specs.declared.types.terminal.Terminal.TheVariants.{Nothing}
use Rattle.v_syntax.specs.declared.operator.Unary.{Unary}
use Rattle.v_syntax.specs.declared.operator.Binary.{Binary}
use Rattle.v_syntax.specs.declared.operator.SystemFunction.{SystemFunction}
use Rattle.v_syntax.specs.declared.expression.PartKind.{PartKind}
use Rattle.v_tree.specs.Operators.{unary_of, binary_of, system_of, part_of}
use Rattle.v_tree.specs.Marks.{mark_at, mark_in, same}
use Rattle.v_tree.proofs.MarkLemmas.{same_true}

pub past_nothing : (t : List Lexeme) (n : ℕ) → length t ≤ n → mark_at t n ≡ Nothing
unfolding mark_at
past_nothing t n h = ap mark_in (slice_get_past t n h)

-- where a token of some mark stands is within the list
pub marked_inside : (t : List Lexeme) (n : ℕ) → mark_at t n ≢ Nothing → n < length t
marked_inside t n h = elim (cases_lt n (length t)) [ inl within ↦ within | inr past ↦ absurd (h (past_nothing t n past)) ]

pub found_inside : (t : List Lexeme) (n : ℕ) (m : Terminal) → same (mark_at t n) m ≡ true → m ≢ Nothing → n < length t
found_inside t n m e h = marked_inside t n (λ gone. h (sym (same_true _ m e) ∙ gone))

unary_nothing : (m : Terminal) (u : Unary) → unary_of m ≡ Some u → m ≢ Nothing
unary_nothing m u e gone = let h : unary_of Nothing ≡ Some u = ap unary_of (sym gone) ∙ e in cc

pub unary_inside : (t : List Lexeme) (n : ℕ) (u : Unary) → unary_of (mark_at t n) ≡ Some u → n < length t
unary_inside t n u e = marked_inside t n (unary_nothing _ u e)

binary_nothing : (m : Terminal) (u : Binary) → binary_of m ≡ Some u → m ≢ Nothing
binary_nothing m u e gone = let h : binary_of Nothing ≡ Some u = ap binary_of (sym gone) ∙ e in cc

pub binary_inside : (t : List Lexeme) (n : ℕ) (u : Binary) → binary_of (mark_at t n) ≡ Some u → n < length t
binary_inside t n u e = marked_inside t n (binary_nothing _ u e)

system_nothing : (m : Terminal) (u : SystemFunction) → system_of m ≡ Some u → m ≢ Nothing
system_nothing m u e gone = let h : system_of Nothing ≡ Some u = ap system_of (sym gone) ∙ e in cc

pub system_inside : (t : List Lexeme) (n : ℕ) (u : SystemFunction) → system_of (mark_at t n) ≡ Some u → n < length t
system_inside t n u e = marked_inside t n (system_nothing _ u e)

part_nothing : (m : Terminal) (u : PartKind) → part_of m ≡ Some u → m ≢ Nothing
part_nothing m u e gone = let h : part_of Nothing ≡ Some u = ap part_of (sym gone) ∙ e in cc

pub part_inside : (t : List Lexeme) (n : ℕ) (u : PartKind) → part_of (mark_at t n) ≡ Some u → n < length t
part_inside t n u e = marked_inside t n (part_nothing _ u e)

pub is_mark : (m n : Terminal) → same m n ≡ true → m ≡ n
is_mark m n e = same_true m n e
