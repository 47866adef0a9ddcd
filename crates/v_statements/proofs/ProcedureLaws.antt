-- The readers of always and initial blocks read what their productions have.
use Rattle.std.proofs.Common.{◌≡◌, ℕ, ◌+◌, inl, inr, List, [], ◌∷◌, ap, ◌∙◌, refl, arith}
use Rattle.v_lexer.specs.Lexeme.{Lexeme}
use Rattle.v_lexer.specs.declared.types.terminal.Terminal.{Terminal}
use Rattle.v_lexer.specs.declared.types.terminal.Terminal.TheVariants as marks
use Rattle.v_tree.specs.Marks.{mark_at}
use Rattle.v_syntax.specs.ItemTree.{PlainItem, always_item, initial_item}
use Rattle.v_statements.specs.StatementReading.{statement_at}
use Rattle.v_statements.specs.Statements.{IsStatement}
use Rattle.v_statements.specs.InitialReading.{initial_at}
use Rattle.v_statements.specs.Initials.{IsInitial}
use Rattle.v_statements.specs.SensitivityReading.{sensitivity_at}
use Rattle.v_statements.specs.Sensitivities.{IsSensitivity}
use Rattle.v_statements.specs.Procedures.{IsAlways, IsInitialItem, IsProcedure}
use Rattle.v_statements.specs.ProcedureReading.{always_at, initial_item_at, procedure_at}
use Rattle.v_parts.proofs.TakingLaws.{TakingFrom, taking_expect, taking_or, tells_one}
use Rattle.v_parts.proofs.Laws.{law_bind, law_expect, law_node}
use Rattle.v_statements.proofs.StatementLaws.{taking_statement}
use Rattle.v_statements.proofs.InitialLaws.{taking_initial}
use Rattle.v_statements.proofs.SensitivityLaws.{law_sensitivity}

taking_always : (base : ℕ) (t u : List Lexeme) (d : ℕ) → TakingFrom base t u d (always_at t d) (always_at u d) (IsAlways t d)
unfolding always_at
taking_always base t u d a st =
    taking_expect base t u d a st marks.Always refl _ _ _ (λ is st2.
    law_expect base t u d (a + 1) st2 marks.At refl _ _ _ (λ at st3.
    law_bind base t u d (a + 1 + 1) st3 (sensitivity_at t d (a + 1 + 1)) (sensitivity_at u d (a + 1 + 1)) _ _ (λ x b. IsSensitivity t d x (a + 1 + 1) b) _ (law_sensitivity base t u d (a + 1 + 1) st3) (λ e m q ge st4.
    law_bind base t u d m st4 (statement_at t d m) (statement_at u d m) _ _ (λ y b. IsStatement t d y m b) _ (taking_statement base t u d m st4).law (λ y n q2 ge2 st5.
    law_node base t u d a n st5 (omega (arith, ge, ge2)) (λ z. always_item z e y)))))

taking_initial_item : (base : ℕ) (t u : List Lexeme) (d : ℕ) → TakingFrom base t u d (initial_item_at t d) (initial_item_at u d) (IsInitialItem t d)
unfolding initial_item_at
taking_initial_item base t u d a st =
    taking_expect base t u d a st marks.Initial refl _ _ _ (λ is st2.
    law_bind base t u d (a + 1) st2 (initial_at t d (a + 1)) (initial_at u d (a + 1)) _ _ (λ y b. IsInitial t d y (a + 1) b) _ (taking_initial base t u d (a + 1) st2).law (λ y n q ge st3.
    law_node base t u d a n st3 (omega (arith, ge)) (λ z. initial_item z y)))

pub taking_procedure : (base : ℕ) (t u : List Lexeme) (d : ℕ) → TakingFrom base t u d (procedure_at t d) (procedure_at u d) (IsProcedure t d)
unfolding procedure_at
taking_procedure base t u d a st =
    taking_or base t u a marks.Always (marks.Initial ∷ []) refl refl _ _ _ _ (λ x b. IsAlways t d x a b) (λ x b. IsInitialItem t d x a b) (λ x b h. h.0)
    (tells_one t a marks.Initial (λ x b. IsInitialItem t d x a b) (λ x b h. h.0))
    (λ is here. taking_always base t u d a st) (λ other. taking_initial_item base t u d a st)

-- what is so of the words that they begin with is so of the first token
pub procedure_tells : {B : Type 0} (f : Terminal → B) (v : B) → f marks.Always ≡ v → f marks.Initial ≡ v → (t : List Lexeme) (d a : ℕ) (x : PlainItem) (b : ℕ) → IsProcedure t d x a b → f (mark_at t a) ≡ v
procedure_tells f v always initial t d a x b h = elim h [
  | inl h ↦ ap f h.0 ∙ always
  | inr h ↦ ap f h.0 ∙ initial
]
