-- The readers of statements read what their productions have.
use Rattle.std.proofs.Common.{◌≡◌, ◌≢◌, ℕ, zero, suc, ◌+◌, ◌<◌, ◌≤◌, inl, inr, Bool, true, false, if◌then◌else◌, List, [], ◌∷◌, length, Ok, Err, sym, ap, ◌∙◌, subst, refl, arith}
use Rattle.loc_base.proofs.ShelfBools.{if-cases}
use Rattle.v_lexer.specs.Lexeme.{Lexeme}
use Rattle.v_lexer.specs.declared.types.terminal.Terminal.{Terminal}
use Rattle.v_lexer.specs.declared.types.terminal.Terminal.TheVariants as marks
use Rattle.v_tree.specs.declared.fault.Fault.TheVariants.{Unsupported, Deep}
use Rattle.v_syntax.specs.declared.statement.AssignKind.{AssignKind}
use Rattle.v_syntax.specs.declared.statement.AssignKind.TheVariants.{Blocking, Nonblocking}
use Rattle.v_syntax.specs.declared.statement.CaseKind.{CaseKind}
use Rattle.v_syntax.specs.declared.statement.CaseKind.TheVariants as kinds
use Rattle.v_tree.specs.Marks.{mark_at, same}
use Rattle.v_tree.specs.Sites.{site}
use Rattle.v_syntax.specs.Tree.{Tree, wild}
use Rattle.v_tree.specs.Faults.{no_place, Begins}
use Rattle.v_tree.specs.Reading.{Read, ◌>>=◌, whole_expression}
use Rattle.v_tree.specs.Expressions.{IsWild}
use Rattle.v_tree.proofs.MarkLemmas.{same_true, same_of}
use Rattle.v_tree.proofs.BindLemmas.{good, bad, bad_good, bind-inv, from_ok, true_false}
use Rattle.v_tree.proofs.SoundLemmas.{not_mark}
use Rattle.v_tree.proofs.CompleteLemmas.{step, then_of, else_of, apart_of}
use Rattle.v_tree.proofs.SteadyLemmas.{Steady, st_bind, not_by, within_by, site_kept, mark_kept}
use Rattle.v_tree.proofs.WholeLemmas.{whole_sound, whole_complete, begins_plain, wild_bad, st_whole_expression}
use Rattle.v_syntax.specs.PartTree.{PlainDelay}
use Rattle.v_parts.specs.Reading.{optional_at, list_at, run_at, identifier_at, value_at, delay_at, left_at}
use Rattle.v_parts.specs.Productions.{IsOptional, AreListed, AreRun, IsIdentifier, IsValue, IsDelay, IsLeft}
use Rattle.v_syntax.specs.StatementTree.{PlainStatement, empty, block, delayed, if_then, if_else, choice, loop, assignment, statements_of, PlainCaseItem, labelled, otherwise, case_items_of}
use Rattle.v_statements.specs.Statements.{Nested, IsLabel, IsInParens, IsEmpty, IsBlock, IsDelayed, IsElse, IsIf, may_follow_label, IsCasezLabel, IsCaseLabel, IsLabelled, IsColonIf, IsOtherwise, IsCaseItem, case_word, AreItems, IsCase, IsHead, IsLoop, IsAssignKind, IsAssign, IsStatementWith, IsStatement}
use Rattle.v_statements.specs.StatementReading.{loop_step_at, loop_condition_at, assigned_at, Inner, label_at, in_parens_at, close_block_at, block_at, delayed_at, else_at, if_at, casez_label_at, case_label_at, labelled_at, colon_at, default_at, case_item_at, has_default, case_items_at, case_at, body_at, head_at, loop_at, assign_kind_at, assign_at, statement_with, statement_at}
use Rattle.v_parts.proofs.Laws.{ahead_of, Start, Law, LawFrom, later, lower_start, law_as, law_bind, law_expect, law_open_at, law_before, law_no_place, law_found, law_node, law_choice, law_optional}
use Rattle.v_parts.proofs.TakingLaws.{Taking, TakingFrom, law_bind_past, taking_open, taking_expect, taking_bind, taking_after, taking_or, Tells, tells_more}
use Rattle.v_parts.proofs.ListLaws.{law_list}
use Rattle.v_parts.proofs.RunLaws.{law_run}
use Rattle.v_parts.proofs.NameLaws.{law_identifier, law_value, law_delay, taking_delay_behind, taking_left, left_tells}

law_label : (base : ℕ) (t u : List Lexeme) (d : ℕ) → LawFrom base t u d (label_at t) (label_at u) (IsLabel t)
unfolding label_at
law_label base t u d a s = law_expect base t u d a s marks.Colon refl (λ m. identifier_at t m) (λ m. identifier_at u m) _ (λ is st. law_identifier base t u d (a + 1) st)

pub law_label_if : (base : ℕ) (t u : List Lexeme) (d : ℕ) → LawFrom base t u d (optional_at t marks.Colon (label_at t)) (optional_at u marks.Colon (label_at u)) (IsOptional t marks.Colon (IsLabel t))
law_label_if base t u d a s = law_optional base t u d a s marks.Colon refl (label_at t) (label_at u) (IsLabel t) (λ is. law_label base t u d a s)

pub law_in_parens : (base : ℕ) (t u : List Lexeme) (d : ℕ) → LawFrom base t u d (in_parens_at t d) (in_parens_at u d) (IsInParens t d)
unfolding in_parens_at
law_in_parens base t u d a s =
    law_expect base t u d a s marks.Open refl _ _ _ (λ opens st.
    law_bind base t u d (a + 1) st (value_at t d (a + 1)) (value_at u d (a + 1)) _ _ (λ x b. IsValue t d x (a + 1) b) _ (law_value base t u d (a + 1) st) (λ x m q ge st2.
    law_expect base t u d m st2 marks.Close refl _ _ _ (λ close st3.
    law_found base t u (m + 1) (m + 1) x x (omega arith) st3.inside (λ b. refl))))

-- statements where less nesting is left
abbrev pub Within : ℕ → List Lexeme → List Lexeme → ℕ → Inner → Inner → Nested → Type 0
Within base t u d r s P = (n : ℕ) → n + 1 ≡ d → TakingFrom base t u n r s P

law_empty : (base : ℕ) (t u : List Lexeme) (a : ℕ) → a < length t → mark_at t a ≡ marks.Semicolon
    → Taking base t u a (good (empty (site t a (a + 1)), a + 1)) (good (empty (site u a (a + 1)), a + 1)) (λ x b. IsEmpty t x a b)
law_empty base t u a inside is = record {
  law = law_as base t u a _ _ _ _ (law_found base t u a (a + 1) _ _ (omega arith) (omega (arith, inside)) (λ b. ap empty (site_kept t u _ a (a + 1) b (omega arith) (omega arith)))) (λ x b h. (is, h)) (λ x b h. h.1);
  takes = λ x b h. omega (arith, h.1.1);
}

law_block : (base : ℕ) (t u : List Lexeme) (d : ℕ) (r s : Inner) (P : Nested) → Within base t u d r s P → (a : ℕ) → Start base t d a → mark_at t a ≡ marks.Begin
    → Taking base t u a (block_at t d r a) (block_at u d s a) (λ x b. IsBlock t d P x a b)
unfolding block_at body_at close_block_at
law_block base t u d r s P under a st is =
    taking_open base t u d a st marks.Begin refl refl is _ _ _ (λ n low st2.
    law_bind base t u n (a + 1) st2 (optional_at t marks.Colon (label_at t) (a + 1)) (optional_at u marks.Colon (label_at u) (a + 1)) _ _ (λ x b. IsOptional t marks.Colon (IsLabel t) x (a + 1) b) _ (law_label_if base t u n (a + 1) st2) (λ l m q ge st3.
    law_bind base t u n m st3 (run_at t marks.End (λ (s : Bool). r) (λ s x. s) (length t) true m) (run_at u marks.End (λ (s2 : Bool). s) (λ s x. s) (length u) true m) _ _ (λ xs b. AreRun t marks.End (λ (s : Bool). P) (λ s x. s) true xs m b) _
    (law_run base t u n marks.End refl (λ (s : Bool). r) (λ (s2 : Bool). s) (λ s x. s) (λ (s : Bool). P) (λ v. under n low) true m (omega (arith, ge)) st3) (λ xs c q2 ge2 st4.
    law_node base t u n a c st4 (omega (arith, ge, ge2)) (λ z. block z l (statements_of xs)))))

delay_inside : (base : ℕ) (t u : List Lexeme) (n a : ℕ) → a ≤ length t → Start base t n (a + 1) → (x : PlainDelay) (m : ℕ) → IsDelay t n x a m → m ≤ length t
delay_inside base t u n a inside next x m q =
    let l = taking_delay_behind base t u n a inside (λ ok. next) in
    (ahead_of base t a (delay_at t n a) (x, m) (l.law.complete x m q) l.law.steady.ahead).1

-- a delay opens a statement at its #, from behind which the nesting is one less
delayed_on : (base : ℕ) (t u : List Lexeme) (n : ℕ) (r s : Inner) (P : Nested) → TakingFrom base t u n r s P → (a : ℕ) → a ≤ length t → Start base t n (a + 1)
    → Law base t u a (delay_at t n a >>= λ x. r x.1 >>= λ y. Ok (delayed (site t a y.1) x.0 y.0, y.1)) (delay_at u n a >>= λ x. s x.1 >>= λ y. Ok (delayed (site u a y.1) x.0 y.0, y.1))
    (λ v b. (delay : PlainDelay) × (m : ℕ) × IsDelay t n delay a m × ((body : PlainStatement) × (k : ℕ) × P body m k × ((v ≡ delayed (site t a k) delay body) × (b ≡ k))))
delayed_on base t u n r s P under a inside next =
    law_bind_past base t u n a next (delay_at t n a) (delay_at u n a) _ _ (λ x b. IsDelay t n x a b) _ (taking_delay_behind base t u n a inside (λ ok. next)) (λ x m q past st.
    law_bind base t u n m st (r m) (s m) _ _ (λ y b. P y m b) _ (under m st).law (λ y k q2 ge2 st2.
    law_node base t u n a k st2 (omega (arith, past, ge2)) (λ z. delayed z x y)))

law_delayed : (base : ℕ) (t u : List Lexeme) (d : ℕ) (r s : Inner) (P : Nested) → Within base t u d r s P → (a : ℕ) → Start base t d a → a < length t → mark_at t a ≡ marks.Hash
    → Taking base t u a (delayed_at t d r a) (delayed_at u d s a) (λ x b. IsDelayed t d P x a b)
unfolding delayed_at
law_delayed base t u d r s P under a st here is =
    let next = λ (n : ℕ) (low : n + 1 ≡ d). lower_start base t d n a (a + 1) low st (omega arith) (omega (arith, here)) in
    record {
      law = law_open_at base t u d a st marks.Hash refl is _ _ _ (λ n low. delayed_on base t u n r s P (under n low) a st.inside (next n low));
      takes = λ v b (n, low, h, (x, m, q, (y, k, p, (e, f)))).
          let past = (taking_delay_behind base t u n a st.inside (λ ok. next n low)).takes x m q in
          let on = later base t n (a + 1) m (next n low) (omega (arith, past)) (delay_inside base t u n a st.inside (next n low) x m q) in
          let body = (under n low m on).takes y k p in
          omega (arith, past, body, f);
    }

law_else : (base : ℕ) (t u : List Lexeme) (d : ℕ) (r s : Inner) (P : Nested) → TakingFrom base t u d r s P → (from : ℕ) (condition : Tree) (first : PlainStatement) (a : ℕ) → from ≤ a → Start base t d a
    → Law base t u a (else_at t r from condition first a) (else_at u s from condition first a) (λ x b. IsElse t P from condition first x a b)
unfolding else_at
law_else base t u d r s P under from condition first a before st =
    law_choice base t u a marks.Else refl _ _ _ _
    (λ x b. (mark_at t a ≡ marks.Else) × ((other : PlainStatement) × (n : ℕ) × P other (a + 1) n × ((x ≡ if_else (site t from n) condition first other) × (b ≡ n))))
    (λ x b. (mark_at t a ≢ marks.Else) × ((x ≡ if_then (site t from a) condition first) × (b ≡ a)))
    (λ is here.
    let next = later base t d a (a + 1) st (omega arith) (omega (arith, here)) in
    law_as base t u a _ _ _ _ (law_before base t u a (a + 1) _ _ _ (omega arith)
    (law_bind base t u d (a + 1) next (r (a + 1)) (s (a + 1)) _ _ (λ y b. P y (a + 1) b) (λ y n x b. (x ≡ if_else (site t from n) condition first y) × (b ≡ n)) (under (a + 1) next).law (λ y n q ge st2.
    law_node base t u d from n st2 (omega (arith, before, ge)) (λ z. if_else z condition first y)))) (λ x b h. (is, h)) (λ x b h. h.1))
    (λ other. law_as base t u a _ _ _ _ (law_node base t u d from a st before (λ z. if_then z condition first)) (λ x b h. (other, h)) (λ x b h. h.1))
    (λ x b h. h.0) (λ x b h. h.0)

law_if : (base : ℕ) (t u : List Lexeme) (d : ℕ) (r s : Inner) (P : Nested) → Within base t u d r s P → (a : ℕ) → Start base t d a → mark_at t a ≡ marks.If
    → Taking base t u a (if_at t d r a) (if_at u d s a) (λ x b. IsIf t d P x a b)
unfolding if_at
law_if base t u d r s P under a st is =
    taking_open base t u d a st marks.If refl refl is _ _ _ (λ n low st2.
    law_bind base t u n (a + 1) st2 (in_parens_at t n (a + 1)) (in_parens_at u n (a + 1)) _ _ (λ x b. IsInParens t n x (a + 1) b) _ (law_in_parens base t u n (a + 1) st2) (λ c m q ge st3.
    law_bind base t u n m st3 (r m) (s m) _ _ (λ x b. P x m b) _ (under n low m st3).law (λ x k q2 ge2 st4.
    law_else base t u n r s P (under n low) a c x k (omega (arith, ge, ge2)) st4)))

pub law_head : (base : ℕ) (t u : List Lexeme) (d : ℕ) → LawFrom base t u d (head_at t d) (head_at u d) (IsHead t d)
unfolding head_at loop_condition_at loop_step_at
law_head base t u d a s =
    law_expect base t u d a s marks.Open refl _ _ _ (λ opens st.
    law_bind base t u d (a + 1) st (identifier_at t (a + 1)) (identifier_at u (a + 1)) _ _ (λ x b. IsIdentifier t x (a + 1) b) _ (law_identifier base t u d (a + 1) st) (λ v c q ge st2.
    law_expect base t u d c st2 marks.Equals refl _ _ _ (λ equals st3.
    law_bind base t u d (c + 1) st3 (value_at t d (c + 1)) (value_at u d (c + 1)) _ _ (λ x b. IsValue t d x (c + 1) b) _ (law_value base t u d (c + 1) st3) (λ x e q2 ge2 st4.
    law_expect base t u d e st4 marks.Semicolon refl _ _ _ (λ one st5.
    law_bind base t u d (e + 1) st5 (value_at t d (e + 1)) (value_at u d (e + 1)) _ _ (λ x b. IsValue t d x (e + 1) b) _ (law_value base t u d (e + 1) st5) (λ y f q3 ge3 st6.
    law_expect base t u d f st6 marks.Semicolon refl _ _ _ (λ two st7.
    law_bind base t u d (f + 1) st7 (identifier_at t (f + 1)) (identifier_at u (f + 1)) _ _ (λ x b. IsIdentifier t x (f + 1) b) _ (law_identifier base t u d (f + 1) st7) (λ w g q4 ge4 st8.
    law_expect base t u d g st8 marks.Equals refl _ _ _ (λ again st9.
    law_bind base t u d (g + 1) st9 (value_at t d (g + 1)) (value_at u d (g + 1)) _ _ (λ x b. IsValue t d x (g + 1) b) _ (law_value base t u d (g + 1) st9) (λ z h q5 ge5 st10.
    law_expect base t u d h st10 marks.Close refl _ _ _ (λ close st11.
    law_node base t u d a (h + 1) st11 (omega (arith, ge, ge2, ge3, ge4, ge5)) (λ k. record { site = k; variable = v; start = x; condition = y; next = w; step = z }))))))))))))

law_loop : (base : ℕ) (t u : List Lexeme) (d : ℕ) (r s : Inner) (P : Nested) → Within base t u d r s P → (a : ℕ) → Start base t d a → mark_at t a ≡ marks.For
    → Taking base t u a (loop_at t d r a) (loop_at u d s a) (λ x b. IsLoop t d P x a b)
unfolding loop_at
law_loop base t u d r s P under a st is =
    taking_open base t u d a st marks.For refl refl is _ _ _ (λ n low st2.
    law_bind base t u n (a + 1) st2 (head_at t n (a + 1)) (head_at u n (a + 1)) _ _ (λ x b. IsHead t n x (a + 1) b) _ (law_head base t u n (a + 1) st2) (λ h m q ge st3.
    law_bind base t u n m st3 (r m) (s m) _ _ (λ x b. P x m b) _ (under n low m st3).law (λ y k q2 ge2 st4.
    law_node base t u n a k st4 (omega (arith, ge, ge2)) (λ z. loop z h y))))

law_assign_kind : (base : ℕ) (t u : List Lexeme) (d : ℕ) → LawFrom base t u d (assign_kind_at t) (assign_kind_at u) (IsAssignKind t)
unfolding assign_kind_at
law_assign_kind base t u d a s =
    let found = λ (m : Terminal) (k : AssignKind) (is : mark_at t a ≡ m) (here : a < length t). law_as base t u a (good (k, a + 1)) (good (k, a + 1)) (λ x b. (x ≡ k) × (b ≡ a + 1)) (λ x b. (mark_at t a ≡ m) × ((x ≡ k) × (b ≡ a + 1)))
    (law_found base t u a (a + 1) k k (omega arith) (omega (arith, here)) (λ b. refl)) (λ x b h. (is, h)) (λ x b h. h.1) in
    law_choice base t u a marks.Equals refl _ _ _ _ (λ x b. (mark_at t a ≡ marks.Equals) × ((x ≡ Blocking) × (b ≡ a + 1))) (λ x b. (mark_at t a ≡ marks.LessEqual) × ((x ≡ Nonblocking) × (b ≡ a + 1)))
    (λ is here. found marks.Equals Blocking is here)
    (λ other. law_as base t u a _ _ _ _ (law_choice base t u a marks.LessEqual refl _ _ _ _ (λ x b. (mark_at t a ≡ marks.LessEqual) × ((x ≡ Nonblocking) × (b ≡ a + 1))) (λ x b. ⊥)
    (λ is here. found marks.LessEqual Nonblocking is here) (λ last. law_no_place base t u a s.inside) (λ x b h. h.0) (λ x b h. absurd h))
    (λ x b h. elim h [ inl h ↦ h | inr h ↦ absurd h ]) (λ x b h. inl h))
    (λ x b h. h.0) (λ x b h e. not_by marks.LessEqual marks.Equals refl (sym h.0 ∙ e))

taking_assign : (base : ℕ) (t u : List Lexeme) (d : ℕ) → TakingFrom base t u d (assign_at t d) (assign_at u d) (IsAssign t d)
unfolding assign_at assigned_at
taking_assign base t u d a s =
    taking_bind base t u d a s (left_at t d a) (left_at u d a) _ _ (λ x b. IsLeft t d x a b) _ (taking_left base t u d a s) (λ x m q ge st.
    law_bind base t u d m st (assign_kind_at t m) (assign_kind_at u m) _ _ (λ x b. IsAssignKind t x m b) _ (law_assign_kind base t u d m st) (λ k n q2 ge2 st2.
    law_bind base t u d n st2 (optional_at t marks.Hash (delay_at t d) n) (optional_at u marks.Hash (delay_at u d) n) _ _ (λ x b. IsOptional t marks.Hash (IsDelay t d) x n b) _
    (law_optional base t u d n st2 marks.Hash refl (delay_at t d) (delay_at u d) (IsDelay t d) (λ is. law_delay base t u d n st2)) (λ y c q3 ge3 st3.
    law_bind base t u d c st3 (value_at t d c) (value_at u d c) _ _ (λ x b. IsValue t d x c b) _ (law_value base t u d c st3) (λ v e q4 ge4 st4.
    law_expect base t u d e st4 marks.Semicolon refl _ _ _ (λ one st5.
    law_node base t u d a (e + 1) st5 (omega (arith, ge, ge2, ge3, ge4)) (λ z. assignment z x k y v))))))

casez_sound : (t : List Lexeme) (d a : ℕ) (x : Tree) (b : ℕ) → casez_label_at t d a ≡ good (x, b) → IsCasezLabel t d x a b
unfolding casez_label_at
casez_sound t d a x b e =
    let i = bind-inv (whole_expression t d a) _ _ e in
    let w = whole_sound t d a i.0.0 i.0.1 i.1 in
    elim (if-cases (same (mark_at t a) marks.Wild) _ _ _ i.2) [
      | inl p ↦ elim (if-cases (may_follow_label (mark_at t i.0.1)) _ _ _ p.1) [
        | inl q ↦ from_ok (λ x b. IsCasezLabel t d x a b) _ _ _ _ q.1 record { whole = w; alone = λ h. q.0 }
        | inr q ↦ bad_good (Unsupported a) (x, b) q.1
      ]
      | inr p ↦ from_ok (λ x b. IsCasezLabel t d x a b) _ _ _ _ p.1 record { whole = w; alone = λ h. absurd (not_mark _ _ p.0 h) }
    ]

casez_by : (t : List Lexeme) (d a : ℕ) (x : Tree) (b : ℕ) → IsCasezLabel t d x a b → (c : Bool) → same (mark_at t a) marks.Wild ≡ c
    → (if same (mark_at t a) marks.Wild then (if may_follow_label (mark_at t b) then good {A = Tree × ℕ} (x, b) else bad (Unsupported a)) else good (x, b)) ≡ good (x, b)
casez_by t d a x b l true e = then_of _ _ _ _ e (then_of _ _ _ _ (l.alone (same_true _ _ e)) refl)
casez_by t d a x b l false e = else_of _ _ _ _ e refl

casez_complete : (t : List Lexeme) (d a : ℕ) (x : Tree) (b : ℕ) → IsCasezLabel t d x a b → casez_label_at t d a ≡ good (x, b)
unfolding casez_label_at
casez_complete t d a x b l = step (whole_expression t d a) (x, b) _ _ (whole_complete t d a x b l.whole) (casez_by t d a x b l (same (mark_at t a) marks.Wild) refl)

abbrev checked : List Lexeme → ℕ → Tree × ℕ → Read Tree
checked t a x = if same (mark_at t a) marks.Wild then (if may_follow_label (mark_at t x.1) then Ok x else Err (Unsupported a)) else Ok x

wild_end : (t : List Lexeme) (e : Tree) (a b : ℕ) → IsWild t e a b → b ≡ a + 1
wild_end t (wild s text) a b (m, x, e, z) = e
wild_end t _ a b h = absurd h

whole_wild_end : (t : List Lexeme) (d a : ℕ) (x : Tree × ℕ) → mark_at t a ≡ marks.Wild → whole_expression t d a ≡ good x → x.1 ≡ a + 1
whole_wild_end t d a x is e =
    elim (whole_sound t d a x.0 x.1 e).spelled [
      | inl s ↦ absurd (begins_plain t x.0 a x.1 s is)
      | inr w ↦ wild_end t x.0 a x.1 w
    ]

checked_by : (t : List Lexeme) (a : ℕ) (x : Tree × ℕ) → mark_at t a ≡ marks.Wild → (c : Bool) → may_follow_label (mark_at t x.1) ≡ c → checked t a x ≡ (if c then good x else bad (Unsupported a))
checked_by t a x is true e = then_of _ _ _ _ (same_of _ _ is) (then_of _ _ _ _ e refl)
checked_by t a x is false e = then_of _ _ _ _ (same_of _ _ is) (else_of _ _ _ _ e refl)

-- the same is checked in the others
checked_there : (t u : List Lexeme) (a : ℕ) (x : Tree × ℕ) → mark_at t a ≡ marks.Wild → x.1 ≡ a + 1 → Begins t u (a + 1) → (c : Bool) → may_follow_label (mark_at t x.1) ≡ c
    → checked u a x ≡ (if c then good x else bad (Unsupported a))
checked_there t u a x is end b c e =
    checked_by u a x (mark_kept t u (a + 1) a b (omega arith) ∙ is) c (ap may_follow_label (mark_kept t u (a + 1) x.1 b (omega (arith, end))) ∙ e)

casez_found : (base : ℕ) (t u : List Lexeme) (d a : ℕ) → a < length t → mark_at t a ≡ marks.Wild → (x : Tree × ℕ) → whole_expression t d a ≡ good x → Steady base t u a (good x) (whole_expression u d a)
    → (c : Bool) → may_follow_label (mark_at t x.1) ≡ c → Steady base t u a (if c then good x else bad (Unsupported a)) (whole_expression u d a >>= checked u a)
casez_found base t u d a here is x e w true f =
    let end = whole_wild_end t d a x is e in
    record {
      ahead = w.ahead;
      same_read = λ b.
          let near : Begins t u (a + 1) = subst (Begins t u) end b in
          step (whole_expression u d a) x (checked u a) (good x) (w.same_read b) (checked_there t u a x is end near true f);
    }
casez_found base t u d a here is x e w false f =
    let end = whole_wild_end t d a x is e in
    wild_bad base t u a _ here is (λ b.
    let far : Begins t u x.1 = subst (Begins t u) (sym end) b in
    step (whole_expression u d a) x (checked u a) (bad (Unsupported a)) (w.same_read far) (checked_there t u a x is end b false f))

casez_wild : (base : ℕ) (t u : List Lexeme) (d a : ℕ) → a < length t → mark_at t a ≡ marks.Wild → (o : Read Tree) → whole_expression t d a ≡ o → Steady base t u a o (whole_expression u d a)
    → Steady base t u a (o >>= checked t a) (whole_expression u d a >>= checked u a)
casez_wild base t u d a here is (Err f) e w = record { ahead = w.ahead; same_read = λ b. ap (λ q. q >>= checked u a) (w.same_read b) }
casez_wild base t u d a here is (Ok x) e w =
    let c = may_follow_label (mark_at t x.1) in
    subst (λ (q : Read Tree). Steady base t u a q (whole_expression u d a >>= checked u a)) (sym (checked_by t a x is c refl)) (casez_found base t u d a here is x e w c refl)

casez_plain : (base : ℕ) (t u : List Lexeme) (d a : ℕ) → mark_at t a ≢ marks.Wild → Steady base t u a (whole_expression t d a) (whole_expression u d a)
    → Steady base t u a (whole_expression t d a >>= checked t a) (whole_expression u d a >>= checked u a)
casez_plain base t u d a other w =
    st_bind base t u a (whole_expression t d a) (whole_expression u d a) (checked t a) (checked u a) w (λ x ge le e.
    let mine : checked t a x ≡ good x = else_of _ _ _ _ (apart_of _ _ other) refl in
    subst (λ (q : Read Tree). Steady base t u x.1 q (checked u a x)) (sym mine) record {
      ahead = (omega arith, le);
      same_read = λ b. else_of _ _ _ _ (apart_of _ _ (λ h. other (sym (mark_kept t u x.1 a b ge) ∙ h))) refl;
    })

casez_steady : (base : ℕ) (t u : List Lexeme) (d a : ℕ) → Start base t d a → (c : Bool) → same (mark_at t a) marks.Wild ≡ c → Steady base t u a (casez_label_at t d a) (casez_label_at u d a)
unfolding casez_label_at
casez_steady base t u d a s true e =
    casez_wild base t u d a (within_by t a (mark_at t a) marks.Wild refl e refl) (same_true _ _ e) (whole_expression t d a) refl (st_whole_expression base t u d a s.inside s.deep s.far)
casez_steady base t u d a s false e = casez_plain base t u d a (not_mark _ _ e) (st_whole_expression base t u d a s.inside s.deep s.far)

law_case_label : (base : ℕ) (t u : List Lexeme) (d : ℕ) (kind : CaseKind) → LawFrom base t u d (case_label_at t d kind) (case_label_at u d kind) (IsCaseLabel t d kind)
law_case_label base t u d kinds.Case a s = law_value base t u d a s
law_case_label base t u d kinds.Casez a s = record { sound = casez_sound t d a; complete = casez_complete t d a; steady = casez_steady base t u d a s (same (mark_at t a) marks.Wild) refl }

taking_labelled : (base : ℕ) (t u : List Lexeme) (d : ℕ) (kind : CaseKind) (r s : Inner) (P : Nested) → TakingFrom base t u d r s P → TakingFrom base t u d (labelled_at t d kind r) (labelled_at u d kind s) (IsLabelled t d kind P)
unfolding labelled_at
taking_labelled base t u d kind r s P under a st =
    taking_after base t u d a st (list_at t (case_label_at t d kind) a) (list_at u (case_label_at u d kind) a) _ _ (λ xs b. AreListed t (IsCaseLabel t d kind) xs a b) _
    (law_list base t u d (case_label_at t d kind) (case_label_at u d kind) (IsCaseLabel t d kind) (law_case_label base t u d kind) a st) (λ xs m q ge st2.
    taking_expect base t u d m st2 marks.Colon refl _ _ _ (λ colon st3.
    law_bind base t u d (m + 1) st3 (r (m + 1)) (s (m + 1)) _ _ (λ y b. P y (m + 1) b) _ (under (m + 1) st3).law (λ y n q2 ge2 st4.
    law_node base t u d a n st4 (omega (arith, ge, ge2)) (λ z. labelled z xs y))))

law_colon : (base : ℕ) (t u : List Lexeme) (d : ℕ) → LawFrom base t u d (colon_at t) (colon_at u) (IsColonIf t)
unfolding colon_at
law_colon base t u d a s =
    law_choice base t u a marks.Colon refl _ _ _ _ (λ x b. (mark_at t a ≡ marks.Colon) × ((x ≡ true) × (b ≡ a + 1))) (λ x b. (mark_at t a ≢ marks.Colon) × ((x ≡ false) × (b ≡ a)))
    (λ is here. law_as base t u a _ _ _ _ (law_found base t u a (a + 1) true true (omega arith) (omega (arith, here)) (λ b. refl)) (λ x b h. (is, h)) (λ x b h. h.1))
    (λ other. law_as base t u a _ _ _ _ (law_found base t u a a false false (omega arith) s.inside (λ b. refl)) (λ x b h. (other, h)) (λ x b h. h.1))
    (λ x b h. h.0) (λ x b h. h.0)

taking_default : (base : ℕ) (t u : List Lexeme) (d : ℕ) (r s : Inner) (P : Nested) → TakingFrom base t u d r s P → TakingFrom base t u d (default_at t r) (default_at u s) (IsOtherwise t P)
unfolding default_at
taking_default base t u d r s P under a st =
    taking_expect base t u d a st marks.Default refl _ _ _ (λ is st2.
    law_bind base t u d (a + 1) st2 (colon_at t (a + 1)) (colon_at u (a + 1)) _ _ (λ c b. IsColonIf t c (a + 1) b) _ (law_colon base t u d (a + 1) st2) (λ c m q ge st3.
    law_bind base t u d m st3 (r m) (s m) _ _ (λ y b. P y m b) _ (under m st3).law (λ y n q2 ge2 st4.
    law_node base t u d a n st4 (omega (arith, ge, ge2)) (λ z. otherwise z y))))

default_if : (base : ℕ) (t u : List Lexeme) (d : ℕ) (r s : Inner) (P : Nested) → TakingFrom base t u d r s P → (had : Bool) (a : ℕ) → Start base t d a → mark_at t a ≡ marks.Default
    → Law base t u a (if had then Err (no_place t a) else default_at t r a) (if had then Err (no_place u a) else default_at u s a) (λ x b. (mark_at t a ≡ marks.Default) × (had ≡ false) × IsOtherwise t P x a b)
default_if base t u d r s P under true a st is = law_as base t u a _ _ _ _ (law_no_place base t u a st.inside) (λ x b h. absurd h) (λ x b h. true_false h.1)
default_if base t u d r s P under false a st is = law_as base t u a _ _ _ _ (taking_default base t u d r s P under a st).law (λ x b h. (is, refl, h)) (λ x b h. h.2)

taking_case_item : (base : ℕ) (t u : List Lexeme) (d : ℕ) (kind : CaseKind) (r s : Inner) (P : Nested) → TakingFrom base t u d r s P → (had : Bool)
    → TakingFrom base t u d (case_item_at t d kind r had) (case_item_at u d kind s had) (IsCaseItem t d kind P had)
unfolding case_item_at
taking_case_item base t u d kind r s P under had a st = record {
  law = law_choice base t u a marks.Default refl _ _ _ _ (λ x b. (mark_at t a ≡ marks.Default) × (had ≡ false) × IsOtherwise t P x a b) (λ x b. (mark_at t a ≢ marks.Default) × IsLabelled t d kind P x a b)
      (λ is here. default_if base t u d r s P under had a st is)
      (λ other. law_as base t u a _ _ _ _ (taking_labelled base t u d kind r s P under a st).law (λ x b h. (other, h)) (λ x b h. h.1))
      (λ x b h. h.0) (λ x b h. h.0);
  takes = λ x b h. elim h [
    | inl h ↦ (taking_default base t u d r s P under a st).takes x b h.2
    | inr h ↦ (taking_labelled base t u d kind r s P under a st).takes x b h.1
  ];
}

law_items : (base : ℕ) (t u : List Lexeme) (d : ℕ) (kind : CaseKind) (r s : Inner) (P : Nested) → TakingFrom base t u d r s P → (x : PlainCaseItem) (a : ℕ) → 1 ≤ a → Start base t d a
    → Law base t u a (case_items_at t d kind r x a) (case_items_at u d kind s x a) (λ ys b. AreItems t d kind P x ys a b)
unfolding case_items_at
law_items base t u d kind r s P under x a behind st =
    law_bind base t u d a st (run_at t marks.Endcase (case_item_at t d kind r) has_default (length t) (has_default false x) a) (run_at u marks.Endcase (case_item_at u d kind s) has_default (length u) (has_default false x) a) _ _
    (λ xs b. AreRun t marks.Endcase (IsCaseItem t d kind P) has_default (has_default false x) xs a b) _
    (law_run base t u d marks.Endcase refl (case_item_at t d kind r) (case_item_at u d kind s) has_default (IsCaseItem t d kind P) (taking_case_item base t u d kind r s P under) (has_default false x) a behind st) (λ xs n q ge st2.
    law_found base t u n n (x ∷ xs) (x ∷ xs) (omega arith) st2.inside (λ b. refl))

law_case : (base : ℕ) (t u : List Lexeme) (d : ℕ) (kind : CaseKind) (r s : Inner) (P : Nested) → Within base t u d r s P → (a : ℕ) → Start base t d a
    → same (case_word kind) marks.Refused ≡ false → same (case_word kind) marks.Nothing ≡ false → mark_at t a ≡ case_word kind
    → Taking base t u a (case_at t d kind r a) (case_at u d kind s a) (λ x b. IsCase t d kind P x a b)
unfolding case_at
law_case base t u d kind r s P under a st allowed some is =
    taking_open base t u d a st (case_word kind) allowed some is _ _ _ (λ n low st2.
    law_bind base t u n (a + 1) st2 (in_parens_at t n (a + 1)) (in_parens_at u n (a + 1)) _ _ (λ x b. IsInParens t n x (a + 1) b) _ (law_in_parens base t u n (a + 1) st2) (λ c m q ge st3.
    law_bind base t u n m st3 (case_item_at t n kind r false m) (case_item_at u n kind s false m) _ _ (λ x b. IsCaseItem t n kind P false x m b) _ (taking_case_item base t u n kind r s P (under n low) false m st3).law (λ x k q2 ge2 st4.
    law_bind base t u n k st4 (case_items_at t n kind r x k) (case_items_at u n kind s x k) _ _ (λ ys b. AreItems t n kind P x ys k b) _ (law_items base t u n kind r s P (under n low) x k (omega (arith, ge, ge2)) st4) (λ ys l q3 ge3 st5.
    law_node base t u n a l st5 (omega (arith, ge, ge2, ge3)) (λ z. choice z kind c (case_items_of ys))))))

assign_tells : (t : List Lexeme) (d a : ℕ) → Tells t a (marks.OpenBrace ∷ marks.Name ∷ []) (λ x b. IsAssign t d x a b)
assign_tells t d a x b (target, m, q, r) = left_tells t d a target m q

-- the marks that the later kinds of statements begin with
abbrev s1 : List Terminal
s1 = marks.OpenBrace ∷ marks.Name ∷ []

abbrev s2 : List Terminal
s2 = marks.For ∷ s1

abbrev s3 : List Terminal
s3 = marks.Casez ∷ s2

abbrev s4 : List Terminal
s4 = marks.Case ∷ s3

abbrev s5 : List Terminal
s5 = marks.If ∷ s4

abbrev s6 : List Terminal
s6 = marks.Hash ∷ s5

abbrev s7 : List Terminal
s7 = marks.Begin ∷ s6

taking_statement_with : (base : ℕ) (t u : List Lexeme) (d : ℕ) (r s : Inner) (P : Nested) → Within base t u d r s P → TakingFrom base t u d (statement_with t d r) (statement_with u d s) (IsStatementWith t d P)
unfolding statement_with
taking_statement_with base t u d r s P under a st =
    let t1 = assign_tells t d a in
    let t2 = tells_more t a marks.For s1 (λ x b. IsLoop t d P x a b) _ (λ x b h. h.2) t1 in
    let t3 = tells_more t a marks.Casez s2 (λ x b. IsCase t d kinds.Casez P x a b) _ (λ x b h. h.2) t2 in
    let t4 = tells_more t a marks.Case s3 (λ x b. IsCase t d kinds.Case P x a b) _ (λ x b h. h.2) t3 in
    let t5 = tells_more t a marks.If s4 (λ x b. IsIf t d P x a b) _ (λ x b h. h.2) t4 in
    let t6 = tells_more t a marks.Hash s5 (λ x b. IsDelayed t d P x a b) _ (λ x b h. h.2) t5 in
    let t7 = tells_more t a marks.Begin s6 (λ x b. IsBlock t d P x a b) _ (λ x b h. h.2) t6 in
    taking_or base t u a marks.Semicolon s7 refl refl _ _ _ _ (λ x b. IsEmpty t x a b) _ (λ x b h. h.0) t7 (λ is here. law_empty base t u a here is) (λ n1.
    taking_or base t u a marks.Begin s6 refl refl _ _ _ _ (λ x b. IsBlock t d P x a b) _ (λ x b h. h.2) t6 (λ is here. law_block base t u d r s P under a st is) (λ n2.
    taking_or base t u a marks.Hash s5 refl refl _ _ _ _ (λ x b. IsDelayed t d P x a b) _ (λ x b h. h.2) t5 (λ is here. law_delayed base t u d r s P under a st here is) (λ n3.
    taking_or base t u a marks.If s4 refl refl _ _ _ _ (λ x b. IsIf t d P x a b) _ (λ x b h. h.2) t4 (λ is here. law_if base t u d r s P under a st is) (λ n4.
    taking_or base t u a marks.Case s3 refl refl _ _ _ _ (λ x b. IsCase t d kinds.Case P x a b) _ (λ x b h. h.2) t3 (λ is here. law_case base t u d kinds.Case r s P under a st refl refl is) (λ n5.
    taking_or base t u a marks.Casez s2 refl refl _ _ _ _ (λ x b. IsCase t d kinds.Casez P x a b) _ (λ x b h. h.2) t2 (λ is here. law_case base t u d kinds.Casez r s P under a st refl refl is) (λ n6.
    taking_or base t u a marks.For s1 refl refl _ _ _ _ (λ x b. IsLoop t d P x a b) _ (λ x b h. h.2) t1 (λ is here. law_loop base t u d r s P under a st is) (λ n7.
    taking_assign base t u d a st)))))))

pub taking_statement : (base : ℕ) (t u : List Lexeme) (d : ℕ) → TakingFrom base t u d (statement_at t d) (statement_at u d) (IsStatement t d)
unfolding statement_at
taking_statement base t u zero = taking_statement_with base t u zero (λ a. bad (Deep a)) (λ a. bad (Deep a)) (λ x a b. ⊥) (λ n e. absurd (omega (arith, e)))
taking_statement base t u (suc d) = taking_statement_with base t u (suc d) (statement_at t d) (statement_at u d) (IsStatement t d)
    (λ n e. let one : d ≡ n = omega (arith, e) in subst (λ k. TakingFrom base t u k (statement_at t d) (statement_at u d) (IsStatement t d)) one (taking_statement base t u d))
