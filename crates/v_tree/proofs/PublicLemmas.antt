-- What the private reading says of the answers of `expr`.
use Rattle.std.proofs.Common.{◌≡◌, ◌≢◌, ℕ, ◌≤◌, List, length, Ok, sym, ap, ◌∙◌, lit≤, refl}
use Rattle.v_lexer.specs.Lexeme.{Lexeme}
use Rattle.v_tree.specs.declared.fault.Stop.{Stop}
use Rattle.v_tree.specs.declared.fault.Stop.TheVariants as stop
use Rattle.v_tree.specs.declared.fault.ParseErr.TheVariants as error
use Rattle.v_syntax.specs.Tree.{Tree}
use Rattle.v_tree.specs.Expressions.{IsWhole}
use Rattle.v_tree.specs.Faults.{Fails, error_of}
use Rattle.v_tree.specs.Answers.{ShowsFault}
use Rattle.v_tree.specs.Reading.{whole_expression}
use Rattle.v_tree.proofs.BindLemmas.{ok-one, bad_good}
use Rattle.v_tree.proofs.WholeLemmas.{whole_complete, whole_refuses}

pub found_only : (t : List Lexeme) (a : ℕ) (x : Tree) (end : ℕ) → whole_expression t 256 a ≡ Ok (x, end) → (e : Tree) (b : ℕ) → IsWhole t 256 e a b → (x ≡ e) × (end ≡ b)
found_only t a x end is e b h =
    let one = ok-one (x, end) (e, b) (sym is ∙ whole_complete t 256 a e b h) in
    (ap (λ (q : Tree × ℕ). q.0) one, ap (λ (q : Tree × ℕ). q.1) one)

-- where reading refuses, no expression is there, unless memory ran out
pub refused_only : (t : List Lexeme) (a : ℕ) (s : Stop) → Fails s (whole_expression t 256 a) → (e : Tree) (b : ℕ) → IsWhole t 256 e a b → error_of t s ≡ error.NoMemory
refused_only t a (stop.Fault f) is e b h = bad_good f (e, b) (sym is ∙ whole_complete t 256 a e b h)
refused_only t a stop.NoMemory is e b h = refl

pub shows_fault : (t : List Lexeme) (a : ℕ) → a ≤ length t → (s : Stop) → Fails s (whole_expression t 256 a) → error_of t s ≢ error.NoMemory → ShowsFault t 256 a (error_of t s)
shows_fault t a h (stop.Fault f) is k = record { fault = f; shown = refl; refuses = whole_refuses t 256 a f h (lit≤ tt) is }
shows_fault t a h stop.NoMemory is k = absurd (k refl)
