-- The readers of a module's header read what their productions have.
use Rattle.std.proofs.Common.{◌≡◌, ◌≢◌, ℕ, ◌+◌, ◌≤◌, ◌⊎◌, inl, inr, Bool, true, false, List, [], ◌∷◌, length, None, sym, ap, ◌∙◌, refl, arith}
use Rattle.v_lexer.specs.Lexeme.{Lexeme}
use Rattle.v_syntax.specs.declared.item.Direction.{Direction}
use Rattle.v_lexer.specs.declared.types.terminal.Terminal.{Terminal}
use Rattle.v_lexer.specs.declared.types.terminal.Terminal.TheVariants as marks
use Rattle.v_syntax.specs.declared.declaration.Identifier.{Identifier}
use Rattle.v_tree.specs.Marks.{mark_at}
use Rattle.v_tree.specs.Reading.{◌>>=◌, expect}
use Rattle.v_tree.proofs.BindLemmas.{good, true_false}
use Rattle.v_tree.proofs.SteadyLemmas.{not_by}
use Rattle.v_syntax.specs.ModuleTree.{PlainHeaderParameter, PlainPort, declared_port, same_port, PlainPorts, no_ports, name_ports, declared_ports}
use Rattle.v_parts.specs.Reading.{list_at, run_at, name_at, identifier_at, value_at, equals_at}
use Rattle.v_parts.specs.Productions.{AreListed, AreRun, IsName, IsIdentifier, IsValue, IsEquals}
use Rattle.v_declarations.specs.Types.{IsDirection, is_direction, IsNetIf, is_output_reg, IsSignedIf, IsRangeIf, IsParameterType}
use Rattle.v_declarations.specs.TypeReading.{direction_at, net_if_at, signed_if_at, range_if_at, parameter_type_at}
use Rattle.v_declarations.specs.Headers.{IsParameterWordIf, IsHeaderParameter, AreParametersBehind, AreParameters, AreHeaderParameters, IsValueOf, IsPortValue, IsDeclaredPort, IsSamePort, IsPort, IsNextPort, is_reg, ArePorts, IsPortList, IsNameList, IsPortsBehind, IsPortsInParens, IsHeaderPorts}
use Rattle.v_declarations.specs.HeaderReading.{parameter_word_at, header_parameter_at, closed_parameters_at, parameters_behind_at, parameters_at, header_parameters_at, value_of_at, port_value_at, port_name_at, declared_port_at, same_port_at, port_at, next_port_at, ports_at, port_list_at, close_names_at, name_list_at, some_ports_at, ports_behind_at, ports_in_parens_at, header_ports_at}
use Rattle.v_parts.proofs.Laws.{Start, Law, LawFrom, law_as, law_bind, law_expect, law_no_place, law_found, law_node, law_choice, law_optional, law_unless, law_test}
use Rattle.v_parts.proofs.TakingLaws.{TakingFrom, taking_expect}
use Rattle.v_parts.proofs.ListLaws.{law_list}
use Rattle.v_parts.proofs.RunLaws.{law_run}
use Rattle.v_parts.proofs.NameLaws.{law_name, law_identifier, law_value, law_equals}
use Rattle.v_declarations.proofs.TypeLaws.{law_word, taking_direction, law_net_if, law_signed_if, law_range_if, law_parameter_type}

-- nothing, where no token of that mark stands
law_absent : {A : Type 0} (base : ℕ) (t u : List Lexeme) (d a : ℕ) → Start base t d a → (m : Terminal) (x : A) → mark_at t a ≢ m
    → Law base t u a (good (x, a)) (good (x, a)) (λ y b. (mark_at t a ≢ m) × ((y ≡ x) × (b ≡ a)))
law_absent {A} base t u d a s m x other =
    law_as base t u a (good {A = A × ℕ} (x, a)) (good (x, a)) (λ y b. (y ≡ x) × (b ≡ a)) _ (law_found base t u a a x x (omega arith) s.inside (λ b. refl)) (λ y b h. (other, h)) (λ y b h. h.1)

-- what is read, and the closing parenthesis behind it
law_close : {A : Type 0} (base : ℕ) (t u : List Lexeme) (d a : ℕ) → Start base t d a → (x : A)
    → Law base t u a (expect t marks.Close a >>= λ b. good (x, b)) (expect u marks.Close a >>= λ b. good (x, b)) (λ y b. (mark_at t a ≡ marks.Close) × ((y ≡ x) × (b ≡ a + 1)))
law_close base t u d a s x =
    law_expect base t u d a s marks.Close refl _ _ _ (λ is st. law_found base t u (a + 1) (a + 1) x x (omega arith) st.inside (λ b. refl))

law_parameter_word : (base : ℕ) (t u : List Lexeme) (d : ℕ) → LawFrom base t u d (parameter_word_at t) (parameter_word_at u) (IsParameterWordIf t)
unfolding parameter_word_at
law_parameter_word base t u d a s =
    law_choice base t u a marks.Parameter refl _ _ _ _ (λ x b. (mark_at t a ≡ marks.Parameter) × ((x ≡ true) × (b ≡ a + 1))) (λ x b. (mark_at t a ≢ marks.Parameter) × ((x ≡ false) × (b ≡ a)))
    (λ is here. law_word base t u a marks.Parameter true is here) (λ other. law_absent base t u d a s marks.Parameter false other)
    (λ x b h. h.0) (λ x b h. h.0)

law_header_parameter : (base : ℕ) (t u : List Lexeme) (d : ℕ) → LawFrom base t u d (header_parameter_at t d) (header_parameter_at u d) (IsHeaderParameter t d)
unfolding header_parameter_at
law_header_parameter base t u d a s =
    law_bind base t u d a s (parameter_word_at t a) (parameter_word_at u a) _ _ (λ x b. IsParameterWordIf t x a b) _ (law_parameter_word base t u d a s) (λ o m q ge st.
    law_bind base t u d m st (parameter_type_at t d m) (parameter_type_at u d m) _ _ (λ x b. IsParameterType t d x m b) _ (law_parameter_type base t u d m st) (λ k n q2 ge2 st2.
    law_bind base t u d n st2 (identifier_at t n) (identifier_at u n) _ _ (λ x b. IsIdentifier t x n b) _ (law_identifier base t u d n st2) (λ x c q3 ge3 st3.
    law_expect base t u d c st3 marks.Equals refl _ _ _ (λ equals st4.
    law_bind base t u d (c + 1) st4 (value_at t d (c + 1)) (value_at u d (c + 1)) _ _ (λ y b. IsValue t d y (c + 1) b) _ (law_value base t u d (c + 1) st4) (λ y l q4 ge4 st5.
    law_node base t u d a l st5 (omega (arith, ge, ge2, ge3, ge4)) (λ z. record { site = z; opens = o; type_of = k; name = x; value = y }))))))

law_closed_parameters : (base : ℕ) (t u : List Lexeme) (d a : ℕ) → Start base t d a → Law base t u a (closed_parameters_at t d a) (closed_parameters_at u d a)
    (λ xs b. (list : List PlainHeaderParameter) × (m : ℕ) × AreListed t (IsHeaderParameter t d) list a m × ((mark_at t m ≡ marks.Close) × ((xs ≡ list) × (b ≡ m + 1))))
unfolding closed_parameters_at
law_closed_parameters base t u d a s =
    law_bind base t u d a s (list_at t (header_parameter_at t d) a) (list_at u (header_parameter_at u d) a) _ _ (λ xs b. AreListed t (IsHeaderParameter t d) xs a b) _
    (law_list base t u d (header_parameter_at t d) (header_parameter_at u d) (IsHeaderParameter t d) (law_header_parameter base t u d) a s) (λ xs m q ge st.
    law_close base t u d m st xs)

law_parameters_behind : (base : ℕ) (t u : List Lexeme) (d : ℕ) → LawFrom base t u d (parameters_behind_at t d) (parameters_behind_at u d) (AreParametersBehind t d)
unfolding parameters_behind_at
law_parameters_behind base t u d a s =
    law_as base t u a _ _ _ _ (law_choice base t u a marks.Parameter refl _ _ _ _ (λ xs b. AreParametersBehind t d xs a b) (λ xs b. ⊥)
    (λ is here. law_as base t u a _ _ _ _ (law_closed_parameters base t u d a s) (λ xs b h. (is, h)) (λ xs b h. h.1)) (λ other. law_no_place base t u a s.inside) (λ xs b h. h.0) (λ xs b h. absurd h))
    (λ xs b h. elim h [ inl h ↦ h | inr h ↦ absurd h ]) (λ xs b h. inl h)

law_parameters : (base : ℕ) (t u : List Lexeme) (d : ℕ) → LawFrom base t u d (parameters_at t d) (parameters_at u d) (AreParameters t d)
unfolding parameters_at
law_parameters base t u d a s =
    law_expect base t u d a s marks.Hash refl _ _ _ (λ hash st.
    law_expect base t u d (a + 1) st marks.Open refl (λ n. parameters_behind_at t d n) (λ n. parameters_behind_at u d n) _ (λ opens st2. law_parameters_behind base t u d (a + 1 + 1) st2))

pub law_header_parameters : (base : ℕ) (t u : List Lexeme) (d : ℕ) → LawFrom base t u d (header_parameters_at t d) (header_parameters_at u d) (AreHeaderParameters t d)
unfolding header_parameters_at
law_header_parameters base t u d a s =
    law_choice base t u a marks.Hash refl _ _ _ _ (λ xs b. AreParameters t d xs a b) (λ xs b. (mark_at t a ≢ marks.Hash) × ((xs ≡ []) × (b ≡ a)))
    (λ is here. law_parameters base t u d a s) (λ other. law_absent base t u d a s marks.Hash [] other)
    (λ xs b h. h.0) (λ xs b h. h.0)

law_value_of : (base : ℕ) (t u : List Lexeme) (d : ℕ) (reg : Bool) → LawFrom base t u d (value_of_at t d reg) (value_of_at u d reg) (IsValueOf t d reg)
unfolding value_of_at
law_value_of base t u d true a s = law_optional base t u d a s marks.Equals refl (equals_at t d) (equals_at u d) (IsEquals t d) (λ is. law_equals base t u d a s)
law_value_of base t u d false a s = law_unless base t u a s.inside marks.Equals _ _ _ (λ other. law_found base t u a a None None (omega arith) s.inside (λ b. refl))

law_port_value : (base : ℕ) (t u : List Lexeme) (d : ℕ) (reg : Bool) → LawFrom base t u d (port_value_at t d reg) (port_value_at u d reg) (IsPortValue t d reg)
unfolding port_value_at
law_port_value base t u d reg a s = law_unless base t u a s.inside marks.OpenBracket _ _ _ (λ other. law_value_of base t u d reg a s)

pub law_declared_port : (base : ℕ) (t u : List Lexeme) (d : ℕ) → LawFrom base t u d (declared_port_at t d) (declared_port_at u d) (IsDeclaredPort t d)
unfolding declared_port_at port_name_at
law_declared_port base t u d a s =
    law_bind base t u d a s (direction_at t a) (direction_at u a) _ _ (λ x b. IsDirection t x a b) _ (taking_direction base t u d a s).law (λ v m q ge st.
    law_bind base t u d m st (net_if_at t m) (net_if_at u m) _ _ (λ x b. IsNetIf t x m b) _ (law_net_if base t u d m st) (λ w n q2 ge2 st2.
    law_bind base t u d n st2 (signed_if_at t n) (signed_if_at u n) _ _ (λ x b. IsSignedIf t x n b) _ (law_signed_if base t u d n st2) (λ g k q3 ge3 st3.
    law_bind base t u d k st3 (range_if_at t d k) (range_if_at u d k) _ _ (λ x b. IsRangeIf t d x k b) _ (law_range_if base t u d k st3) (λ r l q4 ge4 st4.
    law_bind base t u d l st4 (identifier_at t l) (identifier_at u l) _ _ (λ x b. IsIdentifier t x l b) _ (law_identifier base t u d l st4) (λ x o q5 ge5 st5.
    law_bind base t u d o st5 (port_value_at t d (is_output_reg v w) o) (port_value_at u d (is_output_reg v w) o) _ _ (λ y b. IsPortValue t d (is_output_reg v w) y o b) _ (law_port_value base t u d (is_output_reg v w) o st5) (λ y p q6 ge6 st6.
    law_node base t u d a p st6 (omega (arith, ge, ge2, ge3, ge4, ge5, ge6)) (λ z. declared_port z v w g r x y)))))))

law_same_port : (base : ℕ) (t u : List Lexeme) (d : ℕ) (reg : Bool) → LawFrom base t u d (same_port_at t d reg) (same_port_at u d reg) (IsSamePort t d reg)
unfolding same_port_at
law_same_port base t u d reg a s =
    law_bind base t u d a s (identifier_at t a) (identifier_at u a) _ _ (λ x b. IsIdentifier t x a b) _ (law_identifier base t u d a s) (λ x m q ge st.
    law_bind base t u d m st (port_value_at t d reg m) (port_value_at u d reg m) _ _ (λ y b. IsPortValue t d reg y m b) _ (law_port_value base t u d reg m st) (λ y n q2 ge2 st2.
    law_node base t u d a n st2 (omega (arith, ge, ge2)) (λ z. same_port z x y)))

-- the word of a direction tells of a port that has one
direction_told : (t : List Lexeme) (a : ℕ) (x : Direction) (m : ℕ) → IsDirection t x a m → is_direction (mark_at t a) ≡ true
direction_told t a x m h = elim h [ inl h ↦ ap is_direction h.0 | inr h ↦ ap is_direction h.0 ]

law_port : (base : ℕ) (t u : List Lexeme) (d : ℕ) (reg : Bool) → LawFrom base t u d (port_at t d reg) (port_at u d reg) (IsPort t d reg)
unfolding port_at
law_port base t u d reg a s =
    law_test base t u a is_direction _ _ _ _ (λ x b. IsDeclaredPort t d x a b) (λ x b. IsSamePort t d reg x a b) (λ is. law_declared_port base t u d a s) (λ other. law_same_port base t u d reg a s)
    (λ x b (direction, m, q, r). direction_told t a direction m q) (λ x b h. ap is_direction h.2.2.0)

pub taking_next_port : (base : ℕ) (t u : List Lexeme) (d : ℕ) (reg : Bool) → TakingFrom base t u d (next_port_at t d reg) (next_port_at u d reg) (IsNextPort t d reg)
unfolding next_port_at
taking_next_port base t u d reg a s = taking_expect base t u d a s marks.Comma refl (λ m. port_at t d reg m) (λ m. port_at u d reg m) _ (λ is st. law_port base t u d reg (a + 1) st)

law_ports : (base : ℕ) (t u : List Lexeme) (d : ℕ) (first : PlainPort) (a : ℕ) → 1 ≤ a → Start base t d a → Law base t u a (ports_at t d first a) (ports_at u d first a) (λ xs b. ArePorts t d first xs a b)
unfolding ports_at
law_ports base t u d first a behind s =
    law_bind base t u d a s (run_at t marks.Close (next_port_at t d) is_reg (length t) (is_reg false first) a) (run_at u marks.Close (next_port_at u d) is_reg (length u) (is_reg false first) a) _ _
    (λ xs b. AreRun t marks.Close (IsNextPort t d) is_reg (is_reg false first) xs a b) _
    (law_run base t u d marks.Close refl (next_port_at t d) (next_port_at u d) is_reg (IsNextPort t d) (taking_next_port base t u d) (is_reg false first) a behind s) (λ xs n q ge st.
    law_found base t u n n (first ∷ xs) (first ∷ xs) (omega arith) st.inside (λ b. refl))

law_port_list : (base : ℕ) (t u : List Lexeme) (d a : ℕ) → 1 ≤ a → Start base t d a → Law base t u a (port_list_at t d a) (port_list_at u d a) (λ x b. IsPortList t d x a b)
unfolding port_list_at
law_port_list base t u d a behind s =
    law_bind base t u d a s (declared_port_at t d a) (declared_port_at u d a) _ _ (λ x b. IsDeclaredPort t d x a b) _ (law_declared_port base t u d a s) (λ x m q ge st.
    law_bind base t u d m st (ports_at t d x m) (ports_at u d x m) _ _ (λ xs b. ArePorts t d x xs m b) _ (law_ports base t u d x m (omega (arith, behind, ge)) st) (λ xs n q2 ge2 st2.
    law_found base t u n n (declared_ports xs) (declared_ports xs) (omega arith) st2.inside (λ b. refl)))

law_close_names : (base : ℕ) (t u : List Lexeme) (d : ℕ) (x : PlainPorts) (a : ℕ) → Start base t d a
    → Law base t u a (close_names_at t x a) (close_names_at u x a) (λ y b. (mark_at t a ≡ marks.Close) × ((y ≡ x) × (b ≡ a + 1)))
unfolding close_names_at
law_close_names base t u d x a s =
    law_as base t u a _ _ _ _ (law_unless base t u a s.inside marks.Equals _ _ _ (λ other. law_close base t u d a s x)) (λ y b h. h.1)
    (λ y b h. (λ e. not_by marks.Close marks.Equals refl (sym h.0 ∙ e), h))

names_begin : (t : List Lexeme) (a : ℕ) (names : List Identifier) (b : ℕ) → AreListed t (IsIdentifier t) names a b → mark_at t a ≡ marks.Name
names_begin t a [] b h = absurd h
names_begin t a (first ∷ names) b (m, (name, n, q, e), more) = q.0

law_name_list : (base : ℕ) (t u : List Lexeme) (d : ℕ) → LawFrom base t u d (name_list_at t) (name_list_at u) (IsNameList t)
unfolding name_list_at
law_name_list base t u d a s =
    law_bind base t u d a s (list_at t (identifier_at t) a) (list_at u (identifier_at u) a) _ _ (λ xs b. AreListed t (IsIdentifier t) xs a b) _
    (law_list base t u d (identifier_at t) (identifier_at u) (IsIdentifier t) (law_identifier base t u d) a s) (λ xs m q ge st.
    law_close_names base t u d (name_ports xs) m st)

law_some_ports : (base : ℕ) (t u : List Lexeme) (d a : ℕ) → 1 ≤ a → Start base t d a → Law base t u a (some_ports_at t d a) (some_ports_at u d a) (λ x b. IsPortList t d x a b ⊎ IsNameList t x a b)
unfolding some_ports_at
law_some_ports base t u d a behind s =
    law_test base t u a is_direction _ _ _ _ (λ x b. IsPortList t d x a b) (λ x b. IsNameList t x a b) (λ is. law_port_list base t u d a behind s) (λ other. law_name_list base t u d a s)
    (λ x b (first, m, (direction, n, q, r), rest). direction_told t a direction n q) (λ x b (names, m, q, r). ap is_direction (names_begin t a names m q))

-- no closing parenthesis stands where a port does
some_told : (t : List Lexeme) (d a : ℕ) (x : PlainPorts) (b : ℕ) → IsPortList t d x a b ⊎ IsNameList t x a b → mark_at t a ≢ marks.Close
some_told t d a x b h e = elim h [
  | inl (first, m, (direction, n, q, r), rest) ↦ true_false (sym (direction_told t a direction n q) ∙ ap is_direction e)
  | inr (names, m, q, r) ↦ not_by marks.Name marks.Close refl (sym (names_begin t a names m q) ∙ e)
]

law_ports_behind : (base : ℕ) (t u : List Lexeme) (d a : ℕ) → 1 ≤ a → Start base t d a → Law base t u a (ports_behind_at t d a) (ports_behind_at u d a) (λ x b. IsPortsBehind t d x a b)
unfolding ports_behind_at
law_ports_behind base t u d a behind s =
    law_choice base t u a marks.Close refl _ _ _ _ (λ x b. (mark_at t a ≡ marks.Close) × ((x ≡ no_ports) × (b ≡ a + 1))) (λ x b. IsPortList t d x a b ⊎ IsNameList t x a b)
    (λ is here. law_word base t u a marks.Close no_ports is here) (λ other. law_some_ports base t u d a behind s)
    (λ x b h. h.0) (some_told t d a)

law_ports_in_parens : (base : ℕ) (t u : List Lexeme) (d : ℕ) → LawFrom base t u d (ports_in_parens_at t d) (ports_in_parens_at u d) (IsPortsInParens t d)
unfolding ports_in_parens_at
law_ports_in_parens base t u d a s =
    law_expect base t u d a s marks.Open refl (λ m. ports_behind_at t d m) (λ m. ports_behind_at u d m) _ (λ is st. law_ports_behind base t u d (a + 1) (omega arith) st)

pub law_header_ports : (base : ℕ) (t u : List Lexeme) (d : ℕ) → LawFrom base t u d (header_ports_at t d) (header_ports_at u d) (IsHeaderPorts t d)
unfolding header_ports_at
law_header_ports base t u d a s =
    law_choice base t u a marks.Open refl _ _ _ _ (λ x b. IsPortsInParens t d x a b) (λ x b. (mark_at t a ≢ marks.Open) × ((x ≡ no_ports) × (b ≡ a)))
    (λ is here. law_ports_in_parens base t u d a s) (λ other. law_absent base t u d a s marks.Open no_ports other)
    (λ x b h. h.0) (λ x b h. h.0)
