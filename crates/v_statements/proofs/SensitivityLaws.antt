-- The readers of what an always block waits for read what their productions have.
use Rattle.std.proofs.Common.{◌≡◌, ◌≢◌, ℕ, ◌+◌, ◌<◌, ◌≤◌, ◌⊎◌, inl, inr, Bool, true, false, if◌then◌else◌, List, [], ◌∷◌, length, Result, Err, sym, ap, ◌∙◌, refl, arith}
use Rattle.v_lexer.specs.Lexeme.{Lexeme}
use Rattle.v_lexer.specs.declared.types.terminal.Terminal.{Terminal}
use Rattle.v_lexer.specs.declared.types.terminal.Terminal.TheVariants as marks
use Rattle.v_syntax.specs.declared.statement.Edge.TheVariants as edges
use Rattle.v_tree.specs.declared.fault.Fault.{Fault}
use Rattle.v_tree.specs.declared.fault.Fault.TheVariants.{Unsupported}
use Rattle.v_tree.specs.Marks.{mark_at, same}
use Rattle.v_tree.specs.Sites.{site}
use Rattle.v_tree.specs.Faults.{no_place}
use Rattle.v_tree.specs.Reading.{Read, ◌>>=◌, expect}
use Rattle.v_tree.proofs.BindLemmas.{good, bad, bad_good, true_false}
use Rattle.v_tree.proofs.CompleteLemmas.{complete_select}
use Rattle.v_tree.proofs.PlaceLemmas.{marked_inside}
use Rattle.v_tree.proofs.SteadyLemmas.{not_by, site_kept}
use Rattle.v_tree.proofs.SelectLemmas.{select_found, steady_select}
use Rattle.v_parts.specs.Reading.{optional_at, run_at, name_at, unless_at}
use Rattle.v_parts.specs.Productions.{IsOptional, AreRun, IsName}
use Rattle.v_syntax.specs.ItemTree.{PlainEvent, edge_event, change_event, all_events, listed}
use Rattle.v_statements.specs.Sensitivities.{IsEdge, IsSeparator, IsEdgeEvent, IsIndex, IsChange, IsNextChange, AreChanges, is_posedge, IsLoneEdge, IsSecondEdge, AreEdges, AreEvents, IsStarClose, IsListed, IsSensitivity}
use Rattle.v_statements.specs.SensitivityReading.{edge_at, separator_at, edge_event_at, index_at, change_at, next_change_at, more_changes_at, changes_at, lone_edge_at, edges_end_at, close_edges_at, second_edge_at, edges_at, events_at, listed_at, star_close_at, sensitivity_at}
use Rattle.v_parts.proofs.Laws.{Start, Law, LawFrom, later, law_as, law_same, law_there, law_bind, law_before, law_expect, law_no_place, law_found, law_node, law_choice, law_optional, law_unless, left_out_steady}
use Rattle.v_parts.proofs.TakingLaws.{Taking, TakingFrom, taking_bind, ends_from}
use Rattle.v_parts.proofs.RunLaws.{law_run}
use Rattle.v_parts.proofs.NameLaws.{law_name}

-- one of two tokens
law_either : {A : Type 0} (base : ℕ) (t u : List Lexeme) (d a : ℕ) → Start base t d a → (m n : Terminal) → same m marks.Nothing ≡ false → same n marks.Nothing ≡ false → same n m ≡ false → (x y : A)
    → Taking base t u a (if same (mark_at t a) m then good (x, a + 1) else if same (mark_at t a) n then good (y, a + 1) else bad (no_place t a)) (if same (mark_at u a) m then good (x, a + 1) else if same (mark_at u a) n then good (y, a + 1) else bad (no_place u a))
    (λ z b. ((mark_at t a ≡ m) × ((z ≡ x) × (b ≡ a + 1))) ⊎ ((mark_at t a ≡ n) × ((z ≡ y) × (b ≡ a + 1))))
law_either {A} base t u d a st m n some also apart x y =
    let found = λ (k : Terminal) (z : A) (is : mark_at t a ≡ k) (here : a < length t). law_as base t u a (good (z, a + 1)) (good (z, a + 1)) (λ w b. (w ≡ z) × (b ≡ a + 1)) (λ w b. (mark_at t a ≡ k) × ((w ≡ z) × (b ≡ a + 1)))
    (law_found base t u a (a + 1) z z (omega arith) (omega (arith, here)) (λ b. refl)) (λ w b h. (is, h)) (λ w b h. h.1) in
    record {
      law = law_choice base t u a m some _ _ _ _ (λ z b. (mark_at t a ≡ m) × ((z ≡ x) × (b ≡ a + 1))) (λ z b. (mark_at t a ≡ n) × ((z ≡ y) × (b ≡ a + 1)))
          (λ is here. found m x is here)
          (λ other. law_as base t u a _ _ _ _ (law_choice base t u a n also _ _ _ _ (λ z b. (mark_at t a ≡ n) × ((z ≡ y) × (b ≡ a + 1))) (λ z b. ⊥)
          (λ is here. found n y is here) (λ last. law_no_place base t u a st.inside) (λ z b h. h.0) (λ z b h. absurd h))
          (λ z b h. elim h [ inl h ↦ h | inr h ↦ absurd h ]) (λ z b h. inl h))
          (λ z b h. h.0) (λ z b h e. not_by n m apart (sym h.0 ∙ e));
      takes = λ z b h. elim h [ inl h ↦ omega (arith, h.1.1) | inr h ↦ omega (arith, h.1.1) ];
    }

taking_edge : (base : ℕ) (t u : List Lexeme) (d : ℕ) → TakingFrom base t u d (edge_at t) (edge_at u) (IsEdge t)
unfolding edge_at
taking_edge base t u d a st = law_either base t u d a st marks.Posedge marks.Negedge refl refl refl edges.Posedge edges.Negedge

taking_separator : (base : ℕ) (t u : List Lexeme) (d : ℕ) → TakingFrom base t u d (separator_at t) (separator_at u) (IsSeparator t)
unfolding separator_at
taking_separator base t u d a st = law_either base t u d a st marks.Or marks.Comma refl refl refl true false

law_edge_event : (base : ℕ) (t u : List Lexeme) (d : ℕ) → LawFrom base t u d (edge_event_at t) (edge_event_at u) (IsEdgeEvent t)
unfolding edge_event_at
law_edge_event base t u d a st =
    law_bind base t u d a st (edge_at t a) (edge_at u a) _ _ (λ x b. IsEdge t x a b) _ (taking_edge base t u d a st).law (λ e m q ge st2.
    law_bind base t u d m st2 (name_at t m) (name_at u m) _ _ (λ x b. IsName t x m b) _ (law_name base t u d m st2) (λ x n q2 ge2 st3.
    law_node base t u d m n st3 ge2 (λ z. edge_event z e x)))

law_index : (base : ℕ) (t u : List Lexeme) (d a : ℕ) → Start base t d a → mark_at t a ≡ marks.OpenBracket → Law base t u a (index_at t d a) (index_at u d a) (λ x b. IsIndex t d x a b)
law_index base t u d a st is = record {
  sound = λ x b e. let f = select_found t d 4097 a x b is e in record { spelled = f.spelled; nests = f.nests; rises = f.rises };
  complete = λ x b i. complete_select t x d 4097 a b i.spelled i.nests i.rises;
  steady = steady_select base t u d 4097 a (marked_inside t a (λ gone. not_by marks.OpenBracket marks.Nothing refl (sym is ∙ gone))) is st.deep (omega (arith, st.far));
}

law_change : (base : ℕ) (t u : List Lexeme) (d : ℕ) → LawFrom base t u d (change_at t d) (change_at u d) (IsChange t d)
unfolding change_at
law_change base t u d a st =
    law_bind base t u d a st (name_at t a) (name_at u a) _ _ (λ x b. IsName t x a b) _ (law_name base t u d a st) (λ x m q ge st2.
    law_bind base t u d m st2 (optional_at t marks.OpenBracket (index_at t d) m) (optional_at u marks.OpenBracket (index_at u d) m) _ _ (λ y b. IsOptional t marks.OpenBracket (IsIndex t d) y m b) _
    (law_optional base t u d m st2 marks.OpenBracket refl (index_at t d) (index_at u d) (IsIndex t d) (λ is. law_index base t u d m st2 is)) (λ y n q2 ge2 st3.
    law_node base t u d a n st3 (omega (arith, ge, ge2)) (λ z. change_event z x y)))

taking_next_change : (base : ℕ) (t u : List Lexeme) (d : ℕ) → TakingFrom base t u d (next_change_at t d) (next_change_at u d) (IsNextChange t d)
unfolding next_change_at
taking_next_change base t u d a st =
    taking_bind base t u d a st (separator_at t a) (separator_at u a) _ _ (λ x b. IsSeparator t x a b) _ (taking_separator base t u d a st) (λ s m q ge st2.
    law_unless base t u m st2.inside marks.Posedge _ _ _ (λ n1.
    law_unless base t u m st2.inside marks.Negedge _ _ (λ x b. IsChange t d x m b) (λ n2. law_change base t u d m st2)))

change_past : (base : ℕ) (t u : List Lexeme) (d a : ℕ) (x : PlainEvent) (m : ℕ) → Start base t d a → IsChange t d x a m → 1 ≤ m
unfolding change_at
change_past base t u d a x m st (name, k, n, (select, l, o, (e, f))) =
    let next : k ≡ a + 1 = n.2 in
    let more = ends_from base t u a (change_at t d a) (change_at u d a) (λ y b. IsChange t d y a b) (law_change base t u d a st) x m (name, k, n, (select, l, o, (e, f))) in
    let inside = marked_inside t a (λ gone. not_by marks.Name marks.Nothing refl (sym n.0 ∙ gone)) in
    let there = later base t d a k st (omega (arith, next)) (omega (arith, next, inside)) in
    let rest = ends_from base t u k (optional_at t marks.OpenBracket (index_at t d) k) (optional_at u marks.OpenBracket (index_at u d) k) (λ y b. IsOptional t marks.OpenBracket (IsIndex t d) y k b)
    (law_optional base t u d k there marks.OpenBracket refl (index_at t d) (index_at u d) (IsIndex t d) (λ is. law_index base t u d k there is)) select l o in
    omega (arith, next, rest, f)

law_changes : (base : ℕ) (t u : List Lexeme) (d : ℕ) → LawFrom base t u d (changes_at t d) (changes_at u d) (AreChanges t d)
unfolding changes_at more_changes_at
law_changes base t u d a st =
    law_bind base t u d a st (change_at t d a) (change_at u d a) _ _ (λ x b. IsChange t d x a b) _ (law_change base t u d a st) (λ x m q ge st2.
    law_bind base t u d m st2 (run_at t marks.Close (λ (s : Bool). next_change_at t d) (λ s x. s) (length t) true m) (run_at u marks.Close (λ (s : Bool). next_change_at u d) (λ s x. s) (length u) true m) _ _
    (λ xs b. AreRun t marks.Close (λ (s : Bool). IsNextChange t d) (λ s x. s) true xs m b) _
    (law_run base t u d marks.Close refl (λ (s : Bool). next_change_at t d) (λ (s : Bool). next_change_at u d) (λ s x. s) (λ (s : Bool). IsNextChange t d) (λ v. taking_next_change base t u d) true m (change_past base t u d a x m st q) st2) (λ xs n q2 ge2 st3.
    law_found base t u n n (x ∷ xs) (x ∷ xs) (omega arith) st3.inside (λ b. refl)))

law_lone : (base : ℕ) (t u : List Lexeme) (d : ℕ) (first : PlainEvent) (a : ℕ) → Start base t d a → mark_at t a ≡ marks.Close → (c : Bool) → is_posedge first ≡ c
    → Law base t u a (if c then good (first ∷ [], a + 1) else bad (Unsupported a)) (if c then good (first ∷ [], a + 1) else bad (Unsupported a)) (λ x b. IsLoneEdge t first x a b)
law_lone base t u d first a st is true e =
    let here = marked_inside t a (λ gone. not_by marks.Close marks.Nothing refl (sym is ∙ gone)) in
    law_as base t u a _ _ _ _ (law_found base t u a (a + 1) (first ∷ []) (first ∷ []) (omega arith) (omega (arith, here)) (λ b. refl)) (λ x b h. (is, e, h.0, h.1)) (λ x b h. (h.2, h.3))
law_lone base t u d first a st is false e = record {
  sound = λ x b h. bad_good (Unsupported a) (x, b) h;
  complete = λ x b h. absurd (true_false (sym h.1 ∙ e));
  steady = left_out_steady base t u a st.inside;
}

abbrev two : PlainEvent → PlainEvent → ℕ → Read (List PlainEvent)
two first second b = good (first ∷ second ∷ [], b)

unless_then : {A B : Type 0} (c : Bool) (g : Fault) (o : Result A Fault) (f : A → Result B Fault) → ((if c then Err g else o) >>= f) ≡ (if c then Err g else (o >>= f))
unless_then true g o f = refl
unless_then false g o f = refl

abbrev close_read : List Lexeme → PlainEvent → PlainEvent → ℕ → Read (List PlainEvent)
close_read t first second a = unless_at t marks.Or a (unless_at t marks.Comma a (expect t marks.Close a >>= two first second))

close_over : (t : List Lexeme) (first second : PlainEvent) (a : ℕ) → close_edges_at t first second a ≡ close_read t first second a
unfolding close_edges_at edges_end_at
close_over t first second a =
    unless_then (same (mark_at t a) marks.Or) (Unsupported a) _ (two first second)
    ∙ ap (unless_at t marks.Or a) (unless_then (same (mark_at t a) marks.Comma) (Unsupported a) (expect t marks.Close a) (two first second))

law_close_edges : (base : ℕ) (t u : List Lexeme) (d : ℕ) (first second : PlainEvent) (a : ℕ) → Start base t d a
    → Law base t u a (close_edges_at t first second a) (close_edges_at u first second a)
    (λ x b. (mark_at t a ≢ marks.Or) × ((mark_at t a ≢ marks.Comma) × ((mark_at t a ≡ marks.Close) × ((x ≡ first ∷ second ∷ []) × (b ≡ a + 1)))))
law_close_edges base t u d first second a st =
    let here = law_unless base t u a st.inside marks.Or _ _ _ (λ n1.
    law_unless base t u a st.inside marks.Comma _ _ _ (λ n2.
    law_expect base t u d a st marks.Close refl (two first second) (two first second) _ (λ is st2.
    law_found base t u (a + 1) (a + 1) (first ∷ second ∷ []) (first ∷ second ∷ []) (omega arith) st2.inside (λ b. refl)))) in
    law_same base t u a _ (close_read t first second a) _ _ (close_over t first second a)
    (law_there base t u a _ _ (close_read u first second a) _ here (λ b. close_over u first second a))

law_second : (base : ℕ) (t u : List Lexeme) (d : ℕ) (first : PlainEvent) → LawFrom base t u d (second_edge_at t first) (second_edge_at u first) (IsSecondEdge t first)
unfolding second_edge_at
law_second base t u d first a st =
    law_bind base t u d a st (separator_at t a) (separator_at u a) _ _ (λ x b. IsSeparator t x a b) _ (taking_separator base t u d a st).law (λ s m q ge st2.
    law_unless base t u m st2.inside marks.Name _ _ _ (λ n1.
    law_bind base t u d m st2 (edge_event_at t m) (edge_event_at u m) _ _ (λ x b. IsEdgeEvent t x m b) _ (law_edge_event base t u d m st2) (λ x n q2 ge2 st3.
    law_close_edges base t u d first x n st3)))

second_tells : (t : List Lexeme) (a : ℕ) {is_or : Bool} {b : ℕ} → IsSeparator t is_or a b → mark_at t a ≢ marks.Close
second_tells t a s e = elim s [ inl h ↦ not_by marks.Or marks.Close refl (sym h.0 ∙ e) | inr h ↦ not_by marks.Comma marks.Close refl (sym h.0 ∙ e) ]

law_edges : (base : ℕ) (t u : List Lexeme) (d : ℕ) → LawFrom base t u d (edges_at t) (edges_at u) (AreEdges t)
unfolding edges_at lone_edge_at
law_edges base t u d a st =
    law_bind base t u d a st (edge_event_at t a) (edge_event_at u a) _ _ (λ x b. IsEdgeEvent t x a b) _ (law_edge_event base t u d a st) (λ x m q ge st2.
    law_choice base t u m marks.Close refl _ _ _ _ (λ xs b. IsLoneEdge t x xs m b) (λ xs b. IsSecondEdge t x xs m b)
    (λ is here. law_lone base t u d x m st2 is (is_posedge x) refl) (λ other. law_second base t u d x m st2)
    (λ xs b h. h.0) (λ xs b h. second_tells t m h.2))

law_events : (base : ℕ) (t u : List Lexeme) (d : ℕ) → LawFrom base t u d (events_at t d) (events_at u d) (AreEvents t d)
unfolding events_at
law_events base t u d a st =
    law_choice base t u a marks.Posedge refl _ _ _ _ (λ x b. (mark_at t a ≡ marks.Posedge) × AreEdges t x a b)
    (λ x b. (mark_at t a ≢ marks.Posedge) × (((mark_at t a ≡ marks.Negedge) × AreEdges t x a b) ⊎ ((mark_at t a ≢ marks.Negedge) × AreChanges t d x a b)))
    (λ is here. law_as base t u a _ _ _ _ (law_edges base t u d a st) (λ x b h. (is, h)) (λ x b h. h.1))
    (λ n1. law_as base t u a _ _ _ _
    (law_choice base t u a marks.Negedge refl _ _ _ _ (λ x b. (mark_at t a ≡ marks.Negedge) × AreEdges t x a b) (λ x b. (mark_at t a ≢ marks.Negedge) × AreChanges t d x a b)
    (λ is here. law_as base t u a _ _ _ _ (law_edges base t u d a st) (λ x b h. (is, h)) (λ x b h. h.1))
    (λ n2. law_as base t u a _ _ _ _ (law_changes base t u d a st) (λ x b h. (n2, h)) (λ x b h. h.1))
    (λ x b h. h.0) (λ x b h. h.0))
    (λ x b h. (n1, h)) (λ x b h. h.1))
    (λ x b h. h.0) (λ x b h. h.0)

law_star_close : (base : ℕ) (t u : List Lexeme) (d from a : ℕ) → from ≤ a → Start base t d a → mark_at t a ≡ marks.Star → Law base t u a (star_close_at t from a) (star_close_at u from a) (λ x b. IsStarClose t from x a b)
unfolding star_close_at
law_star_close base t u d from a before st is =
    let here = marked_inside t a (λ gone. not_by marks.Star marks.Nothing refl (sym is ∙ gone)) in
    let next = later base t d a (a + 1) st (omega arith) (omega (arith, here)) in
    law_as base t u a _ _ _ _ (law_before base t u a (a + 1) _ _ _ (omega arith)
    (law_expect base t u d (a + 1) next marks.Close refl (λ b. good (all_events (site t from b), b)) (λ b. good (all_events (site u from b), b)) (λ x b. (x ≡ all_events (site t from (a + 1 + 1))) × (b ≡ a + 1 + 1)) (λ close st2.
    law_node base t u d from (a + 1 + 1) st2 (omega (arith, before)) all_events)))
    (λ x b h. (is, h)) (λ x b h. h.1)

pub law_sensitivity : (base : ℕ) (t u : List Lexeme) (d : ℕ) → LawFrom base t u d (sensitivity_at t d) (sensitivity_at u d) (IsSensitivity t d)
unfolding sensitivity_at listed_at
law_sensitivity base t u d a st =
    law_choice base t u a marks.Star refl _ _ _ _ (λ x b. (mark_at t a ≡ marks.Star) × ((x ≡ all_events (site t a (a + 1))) × (b ≡ a + 1)))
    (λ x b. (mark_at t a ≡ marks.Open) × (IsStarClose t a x (a + 1) b ⊎ IsListed t d a x (a + 1) b))
    (λ is here. law_as base t u a _ _ _ _ (law_found base t u a (a + 1) _ _ (omega arith) (omega (arith, here)) (λ b. ap all_events (site_kept t u (a + 1) a (a + 1) b (omega arith) (omega arith)))) (λ x b h. (is, h)) (λ x b h. h.1))
    (λ other. law_expect base t u d a st marks.Open refl _ _ _ (λ opens st2.
    law_choice base t u (a + 1) marks.Star refl _ _ _ _ (λ x b. IsStarClose t a x (a + 1) b) (λ x b. IsListed t d a x (a + 1) b)
    (λ is here. law_star_close base t u d a (a + 1) (omega arith) st2 is)
    (λ n1. law_as base t u (a + 1) _ _ _ _
    (law_bind base t u d (a + 1) st2 (events_at t d (a + 1)) (events_at u d (a + 1)) (λ xs. good (listed (site t a xs.1) xs.0, xs.1)) (λ xs. good (listed (site u a xs.1) xs.0, xs.1)) (λ xs b. AreEvents t d xs (a + 1) b) (λ xs n x b. (x ≡ listed (site t a n) xs) × (b ≡ n)) (law_events base t u d (a + 1) st2) (λ xs n q ge st3.
    law_node base t u d a n st3 (omega (arith, ge)) (λ z. listed z xs)))
    (λ x b h. (n1, h)) (λ x b h. h.1))
    (λ x b h. h.0) (λ x b h. h.0)))
    (λ x b h. h.0) (λ x b h e. not_by marks.Open marks.Star refl (sym h.0 ∙ e))
