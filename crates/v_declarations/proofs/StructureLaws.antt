-- The readers of assignments, gates and instances read what their productions have.
use Rattle.std.proofs.Common.{◌≡◌, ◌≢◌, ℕ, ◌+◌, ◌≤◌, ◌⊎◌, inl, inr, true, false, if◌then◌else◌, List, [], length, Some, None, Option, is_some, sym, ap, ◌∙◌, subst, refl, arith}
use Rattle.v_lexer.specs.Lexeme.{Lexeme}
use Rattle.v_syntax.specs.declared.item.GateKind.{GateKind}
use Rattle.v_lexer.specs.declared.types.terminal.Terminal.{Terminal}
use Rattle.v_lexer.specs.declared.types.terminal.Terminal.TheVariants as marks
use Rattle.v_tree.specs.Marks.{mark_at}
use Rattle.v_syntax.specs.Tree.{Tree}
use Rattle.v_tree.specs.Faults.{no_place}
use Rattle.v_tree.proofs.BindLemmas.{good, bad_good, ok-one}
use Rattle.v_tree.proofs.SteadyLemmas.{Steady, st_look, st_ok, st_no_place, not_by}
use Rattle.v_parts.specs.Reading.{optional_at, list_at, name_at, identifier_at, value_at, delay_at, left_at}
use Rattle.v_parts.specs.Productions.{IsOptional, AreListed, IsName, IsIdentifier, IsValue, IsDelay, IsLeft}
use Rattle.v_syntax.specs.ItemTree.{PlainItem, assign_item, gate_item, instance_item, PlainConnections, ordered, named}
use Rattle.v_declarations.specs.Structures.{IsAssignment, IsAssigns, gate_kind, IsGateWord, IsGate, AreGates, ends_connection, IsConnection, IsNamedConnection, IsUnconnected, IsByName, IsByOrder, AreConnections, AreInParens, AreOverrides, IsInstance, AreInstances, IsStructure}
use Rattle.v_declarations.specs.StructureReading.{assignment_at, assigns_at, kind_found, gate_word_at, gate_at, gates_at, connection_at, named_connection_at, by_name_at, by_order_at, connections_at, connected_at, overrides_at, instance_at, instances_at, is_gate, structure_at}
use Rattle.v_declarations.proofs.StructureSteps.{gate_inside}
use Rattle.v_parts.proofs.Laws.{Start, Law, LawFrom, law_as, law_bind, law_expect, law_found, law_node, law_choice, law_optional, law_test}
use Rattle.v_parts.proofs.TakingLaws.{Taking, TakingFrom, taking_expect, taking_bind}
use Rattle.v_parts.proofs.ListLaws.{law_list}
use Rattle.v_parts.proofs.NameLaws.{law_name, law_identifier, taking_name, taking_identifier, law_value, law_delay, taking_left}

law_delay_if : (base : ℕ) (t u : List Lexeme) (d : ℕ) → LawFrom base t u d (optional_at t marks.Hash (delay_at t d)) (optional_at u marks.Hash (delay_at u d)) (IsOptional t marks.Hash (IsDelay t d))
law_delay_if base t u d a s = law_optional base t u d a s marks.Hash refl (delay_at t d) (delay_at u d) (IsDelay t d) (λ is. law_delay base t u d a s)

law_assignment : (base : ℕ) (t u : List Lexeme) (d : ℕ) → LawFrom base t u d (assignment_at t d) (assignment_at u d) (IsAssignment t d)
unfolding assignment_at
law_assignment base t u d a s =
    law_bind base t u d a s (left_at t d a) (left_at u d a) _ _ (λ x b. IsLeft t d x a b) _ (taking_left base t u d a s).law (λ x m q ge st.
    law_expect base t u d m st marks.Equals refl _ _ _ (λ equals st2.
    law_bind base t u d (m + 1) st2 (value_at t d (m + 1)) (value_at u d (m + 1)) _ _ (λ y b. IsValue t d y (m + 1) b) _ (law_value base t u d (m + 1) st2) (λ y n q2 ge2 st3.
    law_node base t u d a n st3 (omega (arith, ge, ge2)) (λ z. record { site = z; target = x; value = y }))))

taking_assigns : (base : ℕ) (t u : List Lexeme) (d : ℕ) → TakingFrom base t u d (assigns_at t d) (assigns_at u d) (IsAssigns t d)
unfolding assigns_at
taking_assigns base t u d a s =
    taking_expect base t u d a s marks.Assign refl _ _ _ (λ word st.
    law_bind base t u d (a + 1) st (optional_at t marks.Hash (delay_at t d) (a + 1)) (optional_at u marks.Hash (delay_at u d) (a + 1)) _ _ (λ y b. IsOptional t marks.Hash (IsDelay t d) y (a + 1) b) _ (law_delay_if base t u d (a + 1) st) (λ y m q ge st2.
    law_bind base t u d m st2 (list_at t (assignment_at t d) m) (list_at u (assignment_at u d) m) _ _ (λ xs b. AreListed t (IsAssignment t d) xs m b) _
    (law_list base t u d (assignment_at t d) (assignment_at u d) (IsAssignment t d) (law_assignment base t u d) m st2) (λ xs n q2 ge2 st3.
    law_expect base t u d n st3 marks.Semicolon refl _ _ _ (λ end st4.
    law_node base t u d a (n + 1) st4 (omega (arith, ge, ge2)) (λ z. assign_item z y xs)))))

word_sound : (t : List Lexeme) (a : ℕ) (o : Option GateKind) (x : GateKind) (b : ℕ) → kind_found t a o ≡ good (x, b) → (o ≡ Some x) × (b ≡ a + 1)
word_sound t a None x b e = absurd (bad_good (no_place t a) (x, b) e)
word_sound t a (Some k) x b e =
    let one = ok-one (k, a + 1) (x, b) e in
    (ap (λ (q : GateKind × ℕ). Some q.0) one, sym (ap (λ (q : GateKind × ℕ). q.1) one))

word_complete : (t : List Lexeme) (a : ℕ) (o : Option GateKind) (x : GateKind) (b : ℕ) → o ≡ Some x → b ≡ a + 1 → kind_found t a o ≡ good (x, b)
word_complete t a o x b e f = ap (kind_found t a) e ∙ ap (λ n. good {A = GateKind × ℕ} (x, n)) (sym f)

word_steady : (base : ℕ) (t u : List Lexeme) (a : ℕ) → a ≤ length t → (o : Option GateKind) → gate_kind (mark_at t a) ≡ o → Steady base t u a (kind_found t a o) (kind_found u a o)
word_steady base t u a inside None e = st_no_place base t u a inside
word_steady base t u a inside (Some k) e = let here = gate_inside t a k e in st_ok base t u a (a + 1) k k (omega arith) (omega (arith, here)) (λ b. refl)

taking_gate_word : (base : ℕ) (t u : List Lexeme) (d : ℕ) → TakingFrom base t u d (gate_word_at t) (gate_word_at u) (IsGateWord t)
unfolding gate_word_at
taking_gate_word base t u d a s = record {
  law = record {
    sound = λ x b e. word_sound t a (gate_kind (mark_at t a)) x b e;
    complete = λ x b (e, f). word_complete t a (gate_kind (mark_at t a)) x b e f;
    steady = st_look base t u a (λ n. kind_found t a (gate_kind n)) (λ n. kind_found u a (gate_kind n)) (λ n is. word_steady base t u a s.inside (gate_kind n) (ap gate_kind is));
  };
  takes = λ x b h. omega (arith, h.1);
}

law_gate : (base : ℕ) (t u : List Lexeme) (d : ℕ) → LawFrom base t u d (gate_at t d) (gate_at u d) (IsGate t d)
unfolding gate_at
law_gate base t u d a s =
    law_bind base t u d a s (optional_at t marks.Name (name_at t) a) (optional_at u marks.Name (name_at u) a) _ _ (λ x b. IsOptional t marks.Name (IsName t) x a b) _
    (law_optional base t u d a s marks.Name refl (name_at t) (name_at u) (IsName t) (λ is. law_name base t u d a s)) (λ x m q ge st.
    law_expect base t u d m st marks.Open refl _ _ _ (λ opens st2.
    law_bind base t u d (m + 1) st2 (list_at t (value_at t d) (m + 1)) (list_at u (value_at u d) (m + 1)) _ _ (λ xs b. AreListed t (IsValue t d) xs (m + 1) b) _
    (law_list base t u d (value_at t d) (value_at u d) (IsValue t d) (law_value base t u d) (m + 1) st2) (λ xs n q2 ge2 st3.
    law_expect base t u d n st3 marks.Close refl _ _ _ (λ close st4.
    law_node base t u d a (n + 1) st4 (omega (arith, ge, ge2)) (λ z. record { site = z; name = x; terminals = xs })))))

taking_gates : (base : ℕ) (t u : List Lexeme) (d : ℕ) → TakingFrom base t u d (gates_at t d) (gates_at u d) (AreGates t d)
unfolding gates_at
taking_gates base t u d a s =
    taking_bind base t u d a s (gate_word_at t a) (gate_word_at u a) _ _ (λ k b. IsGateWord t k a b) _ (taking_gate_word base t u d a s) (λ k c q ge st.
    law_bind base t u d c st (optional_at t marks.Hash (delay_at t d) c) (optional_at u marks.Hash (delay_at u d) c) _ _ (λ y b. IsOptional t marks.Hash (IsDelay t d) y c b) _ (law_delay_if base t u d c st) (λ y m q2 ge2 st2.
    law_bind base t u d m st2 (list_at t (gate_at t d) m) (list_at u (gate_at u d) m) _ _ (λ xs b. AreListed t (IsGate t d) xs m b) _ (law_list base t u d (gate_at t d) (gate_at u d) (IsGate t d) (law_gate base t u d) m st2) (λ xs n q3 ge3 st3.
    law_expect base t u d n st3 marks.Semicolon refl _ _ _ (λ end st4.
    law_node base t u d a (n + 1) st4 (omega (arith, ge, ge2, ge3)) (λ z. gate_item z k y xs)))))

connection_as : (t : List Lexeme) (d a : ℕ) (y : Option Tree) (b : ℕ) → IsConnection t d y a b
    → ((ends_connection (mark_at t a) ≡ true) × ((y ≡ None) × (b ≡ a))) ⊎ ((ends_connection (mark_at t a) ≡ false) × ((x : Tree) × (n : ℕ) × IsValue t d x a n × ((y ≡ Some x) × (b ≡ n))))
connection_as t d a None b (out, e) = inl (out, (refl, e))
connection_as t d a (Some x) b (is, q) = inr (is, (x, b, q, (refl, refl)))

law_connection : (base : ℕ) (t u : List Lexeme) (d : ℕ) → LawFrom base t u d (connection_at t d) (connection_at u d) (IsConnection t d)
unfolding connection_at
law_connection base t u d a s =
    let found = law_bind base t u d a s (value_at t d a) (value_at u d a) (λ x. good (Some x.0, x.1)) (λ x. good (Some x.0, x.1)) (λ x b. IsValue t d x a b) (λ x n y b. (y ≡ Some x) × (b ≡ n)) (law_value base t u d a s)
    (λ x n q ge there. law_found base t u n n (Some x) (Some x) (omega arith) there.inside (λ b. refl)) in
    let none : Law base t u a (good {A = Option Tree × ℕ} (None, a)) (good (None, a)) (λ y b. (y ≡ None) × (b ≡ a)) = law_found base t u a a None None (omega arith) s.inside (λ b. refl) in
    let both = law_test base t u a ends_connection _ _ _ _ (λ y b. (ends_connection (mark_at t a) ≡ true) × ((y ≡ None) × (b ≡ a)))
    (λ y b. (ends_connection (mark_at t a) ≡ false) × ((x : Tree) × (n : ℕ) × IsValue t d x a n × ((y ≡ Some x) × (b ≡ n))))
    (λ out. law_as base t u a _ _ _ _ none (λ y b h. (out, h)) (λ y b h. h.1))
    (λ is. law_as base t u a _ _ _ _ found (λ y b h. (is, h)) (λ y b h. h.1)) (λ y b h. h.0) (λ y b h. h.0) in
    law_as base t u a _ _ _ _ both
    (λ y b h. elim h [
      | inl (out, (e, f)) ↦ subst (λ v. IsConnection t d v a b) (sym e) (out, f)
      | inr (is, (x, n, q, (e, f))) ↦ subst (λ v. IsConnection t d v a b) (sym e) (is, subst (λ v. IsValue t d x a v) (sym f) q)
    ])
    (connection_as t d a)

law_named_connection : (base : ℕ) (t u : List Lexeme) (d : ℕ) → LawFrom base t u d (named_connection_at t d) (named_connection_at u d) (IsNamedConnection t d)
unfolding named_connection_at
law_named_connection base t u d a s =
    law_expect base t u d a s marks.Dot refl _ _ _ (λ dot st.
    law_bind base t u d (a + 1) st (identifier_at t (a + 1)) (identifier_at u (a + 1)) _ _ (λ x b. IsIdentifier t x (a + 1) b) _ (law_identifier base t u d (a + 1) st) (λ x m q ge st2.
    law_expect base t u d m st2 marks.Open refl _ _ _ (λ opens st3.
    law_bind base t u d (m + 1) st3 (connection_at t d (m + 1)) (connection_at u d (m + 1)) _ _ (λ y b. IsConnection t d y (m + 1) b) _ (law_connection base t u d (m + 1) st3) (λ y n q2 ge2 st4.
    law_expect base t u d n st4 marks.Close refl _ _ _ (λ close st5.
    law_node base t u d a (n + 1) st5 (omega (arith, ge, ge2)) (λ z. record { site = z; name = x; value = y }))))))

law_by_name : (base : ℕ) (t u : List Lexeme) (d a : ℕ) → Start base t d a → mark_at t a ≡ marks.Dot → Law base t u a (by_name_at t d a) (by_name_at u d a) (λ x b. IsByName t d x a b)
unfolding by_name_at
law_by_name base t u d a s is =
    law_as base t u a _ _ _ _
    (law_bind base t u d a s (list_at t (named_connection_at t d) a) (list_at u (named_connection_at u d) a) (λ xs. good (named xs.0, xs.1)) (λ xs. good (named xs.0, xs.1)) (λ xs b. AreListed t (IsNamedConnection t d) xs a b) (λ xs n x b. (x ≡ named xs) × (b ≡ n))
    (law_list base t u d (named_connection_at t d) (named_connection_at u d) (IsNamedConnection t d) (law_named_connection base t u d) a s) (λ xs n q ge st.
    law_found base t u n n (named xs) (named xs) (omega arith) st.inside (λ b. refl)))
    (λ x b h. (is, h)) (λ x b h. h.1)

law_by_order : (base : ℕ) (t u : List Lexeme) (d a : ℕ) → Start base t d a → mark_at t a ≢ marks.Close → mark_at t a ≢ marks.Dot → Law base t u a (by_order_at t d a) (by_order_at u d a) (λ x b. IsByOrder t d x a b)
unfolding by_order_at
law_by_order base t u d a s some none =
    law_as base t u a _ _ _ _
    (law_bind base t u d a s (list_at t (connection_at t d) a) (list_at u (connection_at u d) a) (λ xs. good (ordered xs.0, xs.1)) (λ xs. good (ordered xs.0, xs.1)) (λ xs b. AreListed t (IsConnection t d) xs a b) (λ xs n x b. (x ≡ ordered xs) × (b ≡ n))
    (law_list base t u d (connection_at t d) (connection_at u d) (IsConnection t d) (law_connection base t u d) a s) (λ xs n q ge st.
    law_found base t u n n (ordered xs) (ordered xs) (omega arith) st.inside (λ b. refl)))
    (λ x b h. (some, none, h)) (λ x b h. h.2)

law_connections : (base : ℕ) (t u : List Lexeme) (d : ℕ) → LawFrom base t u d (connections_at t d) (connections_at u d) (AreConnections t d)
unfolding connections_at
law_connections base t u d a s =
    let none : Law base t u a (good {A = PlainConnections × ℕ} (ordered [], a)) (good (ordered [], a)) (λ x b. (x ≡ ordered []) × (b ≡ a)) = law_found base t u a a (ordered []) (ordered []) (omega arith) s.inside (λ b. refl) in
    law_choice base t u a marks.Close refl _ _ _ _ (λ x b. IsUnconnected t x a b) (λ x b. IsByName t d x a b ⊎ IsByOrder t d x a b)
    (λ is here. law_as base t u a _ _ _ _ none (λ x b h. (is, h)) (λ x b h. h.1))
    (λ some. law_choice base t u a marks.Dot refl _ _ _ _ (λ x b. IsByName t d x a b) (λ x b. IsByOrder t d x a b)
    (λ is here. law_by_name base t u d a s is) (λ none. law_by_order base t u d a s some none) (λ x b h. h.0) (λ x b h. h.1))
    (λ x b h. h.0)
    (λ x b h. elim h [ inl p ↦ (λ e. not_by marks.Dot marks.Close refl (sym p.0 ∙ e)) | inr p ↦ p.0 ])

law_connected : (base : ℕ) (t u : List Lexeme) (d : ℕ) → LawFrom base t u d (connected_at t d) (connected_at u d) (AreInParens t d)
unfolding connected_at
law_connected base t u d a s =
    law_expect base t u d a s marks.Open refl _ _ _ (λ opens st.
    law_bind base t u d (a + 1) st (connections_at t d (a + 1)) (connections_at u d (a + 1)) _ _ (λ x b. AreConnections t d x (a + 1) b) _ (law_connections base t u d (a + 1) st) (λ x n q ge st2.
    law_expect base t u d n st2 marks.Close refl _ _ _ (λ close st3.
    law_found base t u (n + 1) (n + 1) x x (omega arith) st3.inside (λ b. refl))))

law_overrides : (base : ℕ) (t u : List Lexeme) (d : ℕ) → LawFrom base t u d (overrides_at t d) (overrides_at u d) (AreOverrides t d)
unfolding overrides_at
law_overrides base t u d a s = law_expect base t u d a s marks.Hash refl (λ m. connected_at t d m) (λ m. connected_at u d m) _ (λ is st. law_connected base t u d (a + 1) st)

law_instance : (base : ℕ) (t u : List Lexeme) (d : ℕ) → LawFrom base t u d (instance_at t d) (instance_at u d) (IsInstance t d)
unfolding instance_at
law_instance base t u d a s =
    law_bind base t u d a s (identifier_at t a) (identifier_at u a) _ _ (λ x b. IsIdentifier t x a b) _ (law_identifier base t u d a s) (λ x m q ge st.
    law_bind base t u d m st (connected_at t d m) (connected_at u d m) _ _ (λ y b. AreInParens t d y m b) _ (law_connected base t u d m st) (λ y n q2 ge2 st2.
    law_node base t u d a n st2 (omega (arith, ge, ge2)) (λ z. record { site = z; name = x; connections = y })))

taking_instances : (base : ℕ) (t u : List Lexeme) (d : ℕ) → TakingFrom base t u d (instances_at t d) (instances_at u d) (AreInstances t d)
unfolding instances_at
taking_instances base t u d a s =
    taking_bind base t u d a s (identifier_at t a) (identifier_at u a) _ _ (λ x b. IsIdentifier t x a b) _ (taking_identifier base t u d a s) (λ x c q ge st.
    law_bind base t u d c st (optional_at t marks.Hash (overrides_at t d) c) (optional_at u marks.Hash (overrides_at u d) c) _ _ (λ y b. IsOptional t marks.Hash (AreOverrides t d) y c b) _
    (law_optional base t u d c st marks.Hash refl (overrides_at t d) (overrides_at u d) (AreOverrides t d) (λ is. law_overrides base t u d c st)) (λ y m q2 ge2 st2.
    law_bind base t u d m st2 (list_at t (instance_at t d) m) (list_at u (instance_at u d) m) _ _ (λ xs b. AreListed t (IsInstance t d) xs m b) _
    (law_list base t u d (instance_at t d) (instance_at u d) (IsInstance t d) (law_instance base t u d) m st2) (λ xs n q3 ge3 st3.
    law_expect base t u d n st3 marks.Semicolon refl _ _ _ (λ end st4.
    law_node base t u d a (n + 1) st4 (omega (arith, ge, ge2, ge3)) (λ z. instance_item z x y xs)))))

-- a gate's word isn't assign, and a name is neither
gates_tell : (t : List Lexeme) (d a : ℕ) (x : PlainItem) (b : ℕ) → AreGates t d x a b → is_gate (mark_at t a) ≡ true
gates_tell t d a x b (k, c, (e, f), r) = ap is_some e

name_is_no_gate : (t : List Lexeme) (d a : ℕ) (x : PlainItem) (b : ℕ) → AreInstances t d x a b → is_gate (mark_at t a) ≡ false
name_is_no_gate t d a x b (name, c, q, r) = ap is_gate q.2.0

not_assign : (m : Terminal) (k : GateKind) → gate_kind m ≡ Some k → m ≢ marks.Assign
not_assign m k e is = let h : gate_kind marks.Assign ≡ Some k = ap gate_kind (sym is) ∙ e in cc

taking_others : (base : ℕ) (t u : List Lexeme) (d a : ℕ) → Start base t d a
    → Taking base t u a (if is_gate (mark_at t a) then gates_at t d a else instances_at t d a) (if is_gate (mark_at u a) then gates_at u d a else instances_at u d a) (λ x b. AreGates t d x a b ⊎ AreInstances t d x a b)
taking_others base t u d a s = record {
  law = law_test base t u a is_gate _ _ _ _ (λ x b. AreGates t d x a b) (λ x b. AreInstances t d x a b)
      (λ is. (taking_gates base t u d a s).law) (λ none. (taking_instances base t u d a s).law) (gates_tell t d a) (name_is_no_gate t d a);
  takes = λ x b h. elim h [
    | inl h ↦ (taking_gates base t u d a s).takes x b h
    | inr h ↦ (taking_instances base t u d a s).takes x b h
  ];
}

others_tell : (t : List Lexeme) (d a : ℕ) (x : PlainItem) (b : ℕ) → AreGates t d x a b ⊎ AreInstances t d x a b → mark_at t a ≢ marks.Assign
others_tell t d a x b (inl (k, c, (e, f), r)) = not_assign (mark_at t a) k e
others_tell t d a x b (inr (name, c, q, r)) = λ e. not_by marks.Name marks.Assign refl (sym q.2.0 ∙ e)

pub taking_structure : (base : ℕ) (t u : List Lexeme) (d : ℕ) → TakingFrom base t u d (structure_at t d) (structure_at u d) (IsStructure t d)
unfolding structure_at
taking_structure base t u d a s = record {
  law = law_choice base t u a marks.Assign refl _ _ _ _ (λ x b. IsAssigns t d x a b) (λ x b. AreGates t d x a b ⊎ AreInstances t d x a b)
      (λ is here. (taking_assigns base t u d a s).law) (λ none. (taking_others base t u d a s).law) (λ x b h. h.0) (others_tell t d a);
  takes = λ x b h. elim h [
    | inl h ↦ (taking_assigns base t u d a s).takes x b h
    | inr h ↦ (taking_others base t u d a s).takes x b h
  ];
}

-- what is so of the words that they begin with is so of the first token
pub structure_tells : {B : Type 0} (f : Terminal → B) (v : B) → f marks.Assign ≡ v → ((m : Terminal) (k : GateKind) → gate_kind m ≡ Some k → f m ≡ v) → f marks.Name ≡ v
    → (t : List Lexeme) (d a : ℕ) (x : PlainItem) (b : ℕ) → IsStructure t d x a b → f (mark_at t a) ≡ v
structure_tells f v assign gate name t d a x b (inl h) = ap f h.0 ∙ assign
structure_tells f v assign gate name t d a x b (inr (inl (k, c, (e, end), r))) = gate (mark_at t a) k e
structure_tells f v assign gate name t d a x b (inr (inr (n, c, q, r))) = ap f q.2.0 ∙ name
