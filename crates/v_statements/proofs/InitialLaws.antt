-- The readers of initial blocks read what their productions have.
use Rattle.std.proofs.Common.{◌≡◌, ℕ, zero, suc, ◌+◌, ◌≤◌, inl, inr, Bool, true, if◌then◌else◌, List, [], ◌∷◌, length, None, Err, ap, ◌∙◌, subst, refl, arith}
use Rattle.loc_base.proofs.ShelfBools.{if-cases}
use Rattle.v_lexer.specs.Lexeme.{Lexeme}
use Rattle.v_lexer.specs.declared.types.terminal.Terminal.TheVariants as marks
use Rattle.v_tree.specs.declared.fault.Fault.TheVariants.{Unsupported, Deep}
use Rattle.v_syntax.specs.declared.statement.AssignKind.TheVariants.{Blocking}
use Rattle.v_tree.specs.Marks.{mark_at}
use Rattle.v_tree.specs.Sites.{site}
use Rattle.v_syntax.specs.Tree.{no_select}
use Rattle.v_tree.proofs.BindLemmas.{bad, bad_good}
use Rattle.v_tree.proofs.CompleteLemmas.{else_of}
use Rattle.v_tree.proofs.SteadyLemmas.{st_look, st_if, site_kept}
use Rattle.v_syntax.specs.PartTree.{name_left}
use Rattle.v_parts.specs.Reading.{optional_at, run_at, name_at, value_at}
use Rattle.v_parts.specs.Productions.{IsOptional, AreRun, IsName, IsValue}
use Rattle.v_syntax.specs.StatementTree.{block, assignment, statements_of}
use Rattle.v_statements.specs.Statements.{Nested, IsLabel}
use Rattle.v_statements.specs.StatementReading.{Inner, label_at, body_at, close_block_at}
use Rattle.v_statements.specs.Initials.{IsInitialBlock, IsInitialAssign, is_left_out, IsInitialWith, IsInitial}
use Rattle.v_statements.specs.InitialReading.{initial_value_at, initial_right_at, initial_equals_at, initial_assign_at, initial_block_at, initial_with, initial_at}
use Rattle.v_parts.proofs.Laws.{law_unless, left_out_steady, Start, Law, law_bind, law_expect, law_found, law_node}
use Rattle.v_parts.proofs.TakingLaws.{Taking, TakingFrom, taking_open, taking_bind, taking_or, Tells, tells_one}
use Rattle.v_parts.proofs.RunLaws.{law_run}
use Rattle.v_parts.proofs.NameLaws.{taking_name, law_value}
use Rattle.v_statements.proofs.StatementLaws.{Within, law_label_if}

law_initial_value : (base : ℕ) (t u : List Lexeme) (d from : ℕ) (name : List ℕ) (m a : ℕ) → from ≤ m → m ≤ a → Start base t d a
    → Law base t u a (initial_value_at t d from name m a) (initial_value_at u d from name m a)
    (λ x b. (value : _) × (n : ℕ) × IsValue t d value a n × ((mark_at t n ≡ marks.Semicolon) × ((x ≡ assignment (site t from (n + 1)) (name_left (site t from m) name no_select) Blocking None value) × (b ≡ n + 1))))
unfolding initial_value_at
law_initial_value base t u d from name m a before up st =
    law_bind base t u d a st (value_at t d a) (value_at u d a) _ _ (λ x b. IsValue t d x a b) _ (law_value base t u d a st) (λ v n q ge st2.
    law_expect base t u d n st2 marks.Semicolon refl _ _ _ (λ is st3.
    law_found base t u (n + 1) (n + 1) _ _ (omega arith) st3.inside (λ b.
    let far : n + 1 ≤ n + 1 = omega arith in
    ap (λ z. assignment z (name_left (site u from m) name no_select) Blocking None v) (site_kept t u (n + 1) from (n + 1) b (omega (arith, before, up, ge)) far)
    ∙ ap (λ z. assignment (site t from (n + 1)) (name_left z name no_select) Blocking None v) (site_kept t u (n + 1) from m b (omega (arith, before, up, ge)) (omega (arith, up, ge))))))

taking_initial_assign : (base : ℕ) (t u : List Lexeme) (d : ℕ) → TakingFrom base t u d (initial_assign_at t d) (initial_assign_at u d) (IsInitialAssign t d)
unfolding initial_assign_at initial_equals_at initial_right_at
taking_initial_assign base t u d a st =
    taking_bind base t u d a st (name_at t a) (name_at u a) _ _ (λ x b. IsName t x a b) _ (taking_name base t u d a st) (λ x m q ge st2.
    law_unless base t u m st2.inside marks.OpenBracket _ _ _ (λ n1.
    law_unless base t u m st2.inside marks.LessEqual _ _ _ (λ n2.
    law_expect base t u d m st2 marks.Equals refl _ _ _ (λ is st3.
    law_unless base t u (m + 1) st3.inside marks.Hash _ _ _ (λ n3.
    law_initial_value base t u d a x m (m + 1) ge (omega arith) st3)))))

law_initial_block : (base : ℕ) (t u : List Lexeme) (d : ℕ) (r s : Inner) (P : Nested) → Within base t u d r s P → (a : ℕ) → Start base t d a → mark_at t a ≡ marks.Begin
    → Taking base t u a (initial_block_at t d r a) (initial_block_at u d s a) (λ x b. IsInitialBlock t d P x a b)
unfolding initial_block_at body_at close_block_at
law_initial_block base t u d r s P under a st is =
    taking_open base t u d a st marks.Begin refl refl is _ _ _ (λ n low st2.
    law_bind base t u n (a + 1) st2 (optional_at t marks.Colon (label_at t) (a + 1)) (optional_at u marks.Colon (label_at u) (a + 1)) _ _ (λ x b. IsOptional t marks.Colon (IsLabel t) x (a + 1) b) _ (law_label_if base t u n (a + 1) st2) (λ l m q ge st3.
    law_bind base t u n m st3 (run_at t marks.End (λ (s : Bool). r) (λ s x. s) (length t) true m) (run_at u marks.End (λ (s2 : Bool). s) (λ s x. s) (length u) true m) _ _ (λ xs b. AreRun t marks.End (λ (s : Bool). P) (λ s x. s) true xs m b) _
    (law_run base t u n marks.End refl (λ (s : Bool). r) (λ (s2 : Bool). s) (λ s x. s) (λ (s : Bool). P) (λ v. under n low) true m (omega (arith, ge)) st3) (λ xs c q2 ge2 st4.
    law_node base t u n a c st4 (omega (arith, ge, ge2)) (λ z. block z l (statements_of xs)))))

assign_tells : (t : List Lexeme) (d a : ℕ) → Tells t a (marks.Name ∷ []) (λ x b. IsInitialAssign t d x a b)
assign_tells t d a = tells_one t a marks.Name (λ x b. IsInitialAssign t d x a b) (λ x b h. h.2.0)

-- a name is none of the statements that are left out
law_taken : (base : ℕ) (t u : List Lexeme) (d a : ℕ) → Start base t d a
    → Taking base t u a (if is_left_out (mark_at t a) then Err (Unsupported a) else initial_assign_at t d a) (if is_left_out (mark_at u a) then Err (Unsupported a) else initial_assign_at u d a) (λ x b. IsInitialAssign t d x a b)
law_taken base t u d a st =
    let l = taking_initial_assign base t u d a st in
    record {
      law = record {
        sound = λ x b e. elim (if-cases (is_left_out (mark_at t a)) _ _ _ e) [
          | inl h ↦ bad_good (Unsupported a) (x, b) h.1
          | inr h ↦ l.law.sound x b h.1
        ];
        complete = λ x b q. else_of _ _ _ _ (ap is_left_out q.2.0) (l.law.complete x b q);
        steady = st_look base t u a (λ n. if is_left_out n then bad (Unsupported a) else initial_assign_at t d a) (λ n. if is_left_out n then bad (Unsupported a) else initial_assign_at u d a)
            (λ n is. st_if base t u a (is_left_out n) _ _ _ _ (λ hit. left_out_steady base t u a st.inside) (λ miss. l.law.steady));
      };
      takes = l.takes;
    }

taking_initial_with : (base : ℕ) (t u : List Lexeme) (d : ℕ) (r s : Inner) (P : Nested) → Within base t u d r s P → TakingFrom base t u d (initial_with t d r) (initial_with u d s) (IsInitialWith t d P)
unfolding initial_with
taking_initial_with base t u d r s P under a st =
    taking_or base t u a marks.Begin (marks.Name ∷ []) refl refl _ _ _ _ (λ x b. IsInitialBlock t d P x a b) (λ x b. IsInitialAssign t d x a b) (λ x b h. h.2) (assign_tells t d a)
    (λ is here. law_initial_block base t u d r s P under a st is) (λ other. law_taken base t u d a st)

pub taking_initial : (base : ℕ) (t u : List Lexeme) (d : ℕ) → TakingFrom base t u d (initial_at t d) (initial_at u d) (IsInitial t d)
unfolding initial_at
taking_initial base t u zero = taking_initial_with base t u zero (λ a. bad (Deep a)) (λ a. bad (Deep a)) (λ x a b. ⊥) (λ n e. absurd (omega (arith, e)))
taking_initial base t u (suc d) = taking_initial_with base t u (suc d) (initial_at t d) (initial_at u d) (IsInitial t d)
    (λ n e. let one : d ≡ n = omega (arith, e) in subst (λ k. TakingFrom base t u k (initial_at t d) (initial_at u d) (IsInitial t d)) one (taking_initial base t u d))
