-- Why tokens have no tree, and how a reader's result stands to what reading gives.
use Rattle.std.specs.Prelude.{◌≡◌, ℕ, Bool, true, false, ◌+◌, ◌≤◌, slice_get, List, Result, Ok, Err, if◌then◌else◌}
use Rattle.v_lexer.specs.Lexeme.{Lexeme}
use Rattle.v_lexer.specs.declared.types.terminal.Terminal.{Terminal}
use Rattle.v_lexer.specs.declared.types.terminal.Terminal.TheVariants as mark
use Rattle.v_tree.specs.declared.fault.Fault.{Fault}
use Rattle.v_tree.specs.declared.fault.Fault.TheVariants.{Unexpected, Unsupported, Deep}
use Rattle.v_tree.specs.declared.fault.Stop.{Stop}
use Rattle.v_tree.specs.declared.fault.Stop.TheVariants as stop
use Rattle.v_tree.specs.declared.fault.ParseErr.{ParseErr}
use Rattle.v_tree.specs.declared.fault.ParseErr.TheVariants as error
use Rattle.v_tree.specs.Marks.{mark_at, same}
use Rattle.v_tree.specs.Sites.{place_span}

-- the fault of a token without a place: a word of the standard that is left out, or a number with wildcard digits, is of a
-- form that is left out
abbrev pub fault_of_mark : Terminal → ℕ → Fault
fault_of_mark found at = if same found mark.Refused then Unsupported at else if same found mark.Wild then Unsupported at else Unexpected at

unfoldable pub no_place : List Lexeme → ℕ → Fault
no_place tokens at = fault_of_mark (mark_at tokens at) at

-- the number of the token
abbrev pub fault_place : Fault → ℕ
fault_place (Unexpected at) = at
fault_place (Unsupported at) = at
fault_place (Deep at) = at

abbrev pub is_unsupported : Fault → Bool
is_unsupported (Unsupported at) = true
is_unsupported _ = false

abbrev pub is_deep : Fault → Bool
is_deep (Deep at) = true
is_deep _ = false

abbrev pub error_of_fault : List Lexeme → Fault → ParseErr
error_of_fault tokens (Unexpected at) = error.Unexpected (place_span tokens at)
error_of_fault tokens (Unsupported at) = error.Unsupported (place_span tokens at)
error_of_fault tokens (Deep at) = error.Deep (place_span tokens at)

abbrev pub error_of : List Lexeme → Stop → ParseErr
error_of tokens (stop.Fault fault) = error_of_fault tokens fault
error_of tokens stop.NoMemory = error.NoMemory

-- what a reader answered, seen by the view, is what reading gives, unless memory ran out
abbrev pub Fails : {Y : Type 0} → Stop → Result Y Fault → Type 0
Fails (stop.Fault fault) read = read ≡ Err fault
Fails stop.NoMemory read = Unit {0}

abbrev pub Gives : {X Y : Type 0} → (X → Y) → Result X Stop → Result Y Fault → Type 0
Gives view (Ok x) read = read ≡ Ok (view x)
Gives view (Err e) read = Fails e read

-- the others have the tokens up to and including the number n, where the end counts as a token
abbrev pub Begins : List Lexeme → List Lexeme → ℕ → Type 0
Begins tokens others n = (i : ℕ) → i ≤ n → slice_get others i ≡ slice_get tokens i

-- the last token that tells of the fault at n: a number with wildcard digits is told by the token behind it
abbrev pub told_by : List Lexeme → ℕ → ℕ
told_by tokens n = if same (mark_at tokens n) mark.Wild then n + 1 else n
