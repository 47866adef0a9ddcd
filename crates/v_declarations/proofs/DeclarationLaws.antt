-- The readers of declarations read what their productions have.
use Rattle.std.proofs.Common.{◌≡◌, ◌≢◌, ℕ, ◌+◌, ◌≤◌, ◌⊎◌, inl, inr, Bool, true, false, ◌&&◌, if◌then◌else◌, List, length, not, Some, None, Ok, Err, sym, ap, ◌∙◌, refl, arith}
use Rattle.v_lexer.specs.Lexeme.{Lexeme}
use Rattle.v_lexer.specs.declared.types.terminal.Terminal.{Terminal}
use Rattle.v_lexer.specs.declared.types.terminal.Terminal.TheVariants as marks
use Rattle.v_tree.specs.declared.fault.Fault.TheVariants.{Unsupported}
use Rattle.v_syntax.specs.declared.declaration.Identifier.{Identifier}
use Rattle.v_syntax.specs.declared.item.NetKind.{NetKind}
use Rattle.v_syntax.specs.declared.item.NetKind.TheVariants as nets
use Rattle.v_syntax.specs.declared.item.ParameterKind.TheVariants as kinds
use Rattle.v_tree.specs.Marks.{mark_at, same}
use Rattle.v_tree.specs.Sites.{site}
use Rattle.v_tree.specs.Faults.{no_place}
use Rattle.v_tree.specs.Reading.{Read}
use Rattle.v_tree.proofs.BindLemmas.{bad, bad_good, true_false}
use Rattle.v_tree.proofs.SteadyLemmas.{not_by}
use Rattle.v_parts.specs.Reading.{optional_at, list_at, name_at, identifier_at, equals_at, range_at, delay_at, named_value_at, unless_at}
use Rattle.v_parts.specs.Productions.{IsOptional, AreListed, IsName, IsIdentifier, IsEquals, IsRange, IsDelay, IsNamedValue}
use Rattle.v_syntax.specs.ItemTree.{PlainItem, port_item, net_item, integer_item, genvar_item, parameter_item}
use Rattle.v_declarations.specs.Types.{is_direction, is_output_reg, IsDirection, IsNetIf, IsSignedIf, IsRangeIf, IsParameterType}
use Rattle.v_declarations.specs.TypeReading.{direction_at, net_if_at, signed_if_at, range_if_at, parameter_type_at}
use Rattle.v_declarations.specs.Declarations.{AreNames, IsPorts, IsIntegers, IsGenvars, IsNet, IsArray, IsScalar, IsDeclarator, IsNets, IsParameterKind, IsParameters, IsDeclaration}
use Rattle.v_declarations.specs.DeclarationReading.{close_names_at, names_at, port_names_at, ports_at, integers_at, genvars_at, net_at, array_at, array_of, scalar_at, behind_name_at, declarator_at, net_names_at, nets_at, parameter_kind_at, parameters_at, is_net, declaration_at}
use Rattle.v_parts.proofs.Laws.{Start, Law, LawFrom, law_as, law_bind, law_expect, law_no_place, law_found, law_node, law_choice, law_optional, left_out_steady, law_unless, law_test}
use Rattle.v_parts.proofs.TakingLaws.{Taking, TakingFrom, taking_expect, taking_bind}
use Rattle.v_parts.proofs.ListLaws.{law_list}
use Rattle.v_parts.proofs.NameLaws.{law_name, law_identifier, law_equals, law_range, law_delay, law_named_value}
use Rattle.v_declarations.proofs.TypeLaws.{law_word, taking_direction, law_net_if, law_signed_if, law_range_if, law_parameter_type}

-- a form that is left out
law_left_out : {A : Type 0} (base : ℕ) (t u : List Lexeme) (a : ℕ) → a ≤ length t → Law {A = A} base t u a (bad (Unsupported a)) (bad (Unsupported a)) (λ x b. ⊥)
law_left_out base t u a h = record { sound = λ x b e. bad_good (Unsupported a) (x, b) e; complete = λ x b q. absurd q; steady = left_out_steady base t u a h }

-- what is read where no token of that mark stands, with which it doesn't begin
law_apart : {A : Type 0} (base : ℕ) (t u : List Lexeme) (a : ℕ) → a ≤ length t → (m : Terminal) (o p : Read A) (P : A → ℕ → Type 0) → Law base t u a o p P → ((x : A) (b : ℕ) → P x b → mark_at t a ≢ m)
    → Law base t u a (unless_at t m a o) (unless_at u m a p) P
law_apart base t u a inside m o p P l other = law_as base t u a _ _ _ _ (law_unless base t u a inside m o p P (λ none. l)) (λ x b h. h.1) (λ x b h. (other x b h, h))

-- the same, where it is so
law_apart_if : {A : Type 0} (base : ℕ) (t u : List Lexeme) (a : ℕ) → a ≤ length t → (so : Bool) (m : Terminal) (o p : Read A) (P : A → ℕ → Type 0) → Law base t u a o p P → ((x : A) (b : ℕ) → P x b → mark_at t a ≢ m)
    → Law base t u a (if so && same (mark_at t a) m then Err (Unsupported a) else o) (if so && same (mark_at u a) m then Err (Unsupported a) else p) P
law_apart_if base t u a inside true m o p P l other = law_apart base t u a inside m o p P l other
law_apart_if base t u a inside false m o p P l other = l

-- one of two words
taking_word : {A : Type 0} (base : ℕ) (t u : List Lexeme) (d : ℕ) (m n : Terminal) → same m marks.Nothing ≡ false → same n marks.Nothing ≡ false → same n m ≡ false → (x y : A) (a : ℕ) → Start base t d a
    → Taking base t u a (if same (mark_at t a) m then Ok (x, a + 1) else if same (mark_at t a) n then Ok (y, a + 1) else Err (no_place t a))
    (if same (mark_at u a) m then Ok (x, a + 1) else if same (mark_at u a) n then Ok (y, a + 1) else Err (no_place u a))
    (λ z b. ((mark_at t a ≡ m) × ((z ≡ x) × (b ≡ a + 1))) ⊎ ((mark_at t a ≡ n) × ((z ≡ y) × (b ≡ a + 1))))
taking_word base t u d m n some also apart x y a s = record {
  law = law_choice base t u a m some _ _ _ _ (λ z b. (mark_at t a ≡ m) × ((z ≡ x) × (b ≡ a + 1))) (λ z b. (mark_at t a ≡ n) × ((z ≡ y) × (b ≡ a + 1)))
      (λ is here. law_word base t u a m x is here)
      (λ other. law_as base t u a _ _ _ _ (law_choice base t u a n also _ _ _ _ (λ z b. (mark_at t a ≡ n) × ((z ≡ y) × (b ≡ a + 1))) (λ z b. ⊥)
      (λ is here. law_word base t u a n y is here) (λ last. law_no_place base t u a s.inside) (λ z b h. h.0) (λ z b h. absurd h))
      (λ z b h. elim h [ inl h ↦ h | inr h ↦ absurd h ]) (λ z b h. inl h))
      (λ z b h. h.0) (λ z b h e. not_by n m apart (sym h.0 ∙ e));
  takes = λ z b h. elim h [ inl h ↦ omega (arith, h.1.1) | inr h ↦ omega (arith, h.1.1) ];
}

law_close_names : (base : ℕ) (t u : List Lexeme) (d : ℕ) (plain : Bool) (names : List Identifier) (a : ℕ) → Start base t d a
    → Law base t u a (close_names_at t plain names a) (close_names_at u plain names a) (λ x b. (mark_at t a ≡ marks.Semicolon) × ((x ≡ names) × (b ≡ a + 1)))
unfolding close_names_at
law_close_names base t u d plain names a st =
    let semicolon = λ (m : Terminal) (other : same marks.Semicolon m ≡ false) (x : List Identifier) (b : ℕ) (h : (mark_at t a ≡ marks.Semicolon) × ((x ≡ names) × (b ≡ a + 1))) (e : mark_at t a ≡ m). not_by marks.Semicolon m other (sym h.0 ∙ e) in
    law_apart base t u a st.inside marks.OpenBracket _ _ _
    (law_apart_if base t u a st.inside plain marks.Equals _ _ _
    (law_expect base t u d a st marks.Semicolon refl _ _ _ (λ is st2. law_found base t u (a + 1) (a + 1) names names (omega arith) st2.inside (λ b. refl)))
    (semicolon marks.Equals refl))
    (semicolon marks.OpenBracket refl)

law_names : (base : ℕ) (t u : List Lexeme) (d : ℕ) (plain : Bool) → LawFrom base t u d (names_at t plain) (names_at u plain) (AreNames t)
unfolding names_at
law_names base t u d plain a st =
    law_bind base t u d a st (list_at t (identifier_at t) a) (list_at u (identifier_at u) a) _ _ (λ xs b. AreListed t (IsIdentifier t) xs a b) _
    (law_list base t u d (identifier_at t) (identifier_at u) (IsIdentifier t) (law_identifier base t u d) a st) (λ xs m q ge st2.
    law_close_names base t u d plain xs m st2)

taking_ports : (base : ℕ) (t u : List Lexeme) (d : ℕ) → TakingFrom base t u d (ports_at t d) (ports_at u d) (IsPorts t d)
unfolding ports_at port_names_at
taking_ports base t u d a st =
    taking_bind base t u d a st (direction_at t a) (direction_at u a) _ _ (λ x b. IsDirection t x a b) _ (taking_direction base t u d a st) (λ v m q ge st2.
    law_bind base t u d m st2 (net_if_at t m) (net_if_at u m) _ _ (λ x b. IsNetIf t x m b) _ (law_net_if base t u d m st2) (λ w n q2 ge2 st3.
    law_bind base t u d n st3 (signed_if_at t n) (signed_if_at u n) _ _ (λ x b. IsSignedIf t x n b) _ (law_signed_if base t u d n st3) (λ s k q3 ge3 st4.
    law_bind base t u d k st4 (range_if_at t d k) (range_if_at u d k) _ _ (λ x b. IsRangeIf t d x k b) _ (law_range_if base t u d k st4) (λ r l q4 ge4 st5.
    law_bind base t u d l st5 (names_at t (not (is_output_reg v w)) l) (names_at u (not (is_output_reg v w)) l) _ _ (λ xs b. AreNames t xs l b) _ (law_names base t u d (not (is_output_reg v w)) l st5) (λ xs o q5 ge5 st6.
    law_node base t u d a o st6 (omega (arith, ge, ge2, ge3, ge4, ge5)) (λ z. port_item z v w s r xs))))))

taking_integers : (base : ℕ) (t u : List Lexeme) (d : ℕ) → TakingFrom base t u d (integers_at t) (integers_at u) (IsIntegers t)
unfolding integers_at
taking_integers base t u d a st =
    taking_expect base t u d a st marks.Integer refl _ _ _ (λ is st2.
    law_bind base t u d (a + 1) st2 (names_at t false (a + 1)) (names_at u false (a + 1)) _ _ (λ xs b. AreNames t xs (a + 1) b) _ (law_names base t u d false (a + 1) st2) (λ xs m q ge st3.
    law_node base t u d a m st3 (omega (arith, ge)) (λ z. integer_item z xs)))

taking_genvars : (base : ℕ) (t u : List Lexeme) (d : ℕ) → TakingFrom base t u d (genvars_at t) (genvars_at u) (IsGenvars t)
unfolding genvars_at
taking_genvars base t u d a st =
    taking_expect base t u d a st marks.Genvar refl _ _ _ (λ is st2.
    law_bind base t u d (a + 1) st2 (names_at t false (a + 1)) (names_at u false (a + 1)) _ _ (λ xs b. AreNames t xs (a + 1) b) _ (law_names base t u d false (a + 1) st2) (λ xs m q ge st3.
    law_node base t u d a m st3 (omega (arith, ge)) (λ z. genvar_item z xs)))

taking_net : (base : ℕ) (t u : List Lexeme) (d : ℕ) → TakingFrom base t u d (net_at t) (net_at u) (IsNet t)
unfolding net_at
taking_net base t u d a st = taking_word base t u d marks.Wire marks.Reg refl refl refl nets.Wire nets.Reg a st

taking_parameter_kind : (base : ℕ) (t u : List Lexeme) (d : ℕ) → TakingFrom base t u d (parameter_kind_at t) (parameter_kind_at u) (IsParameterKind t)
unfolding parameter_kind_at
taking_parameter_kind base t u d a st = taking_word base t u d marks.Parameter marks.Localparam refl refl refl kinds.Parameter kinds.Local a st

law_array : (base : ℕ) (t u : List Lexeme) (d from : ℕ) (name : Identifier) (a : ℕ) → from ≤ a → Start base t d a → mark_at t a ≡ marks.OpenBracket
    → Law base t u a (array_at t d from name a) (array_at u d from name a)
    (λ x b. (range : _) × (m : ℕ) × IsRange t d range a m × ((mark_at t m ≢ marks.Equals) × ((x ≡ record { site = site t from m; name = name; range = Some range; value = None }) × (b ≡ m))))
unfolding array_at
law_array base t u d from name a before st is =
    law_bind base t u d a st (range_at t d a) (range_at u d a) _ _ (λ x b. IsRange t d x a b) _ (law_range base t u d a st is) (λ r m q ge st2.
    law_unless base t u m st2.inside marks.Equals _ _ _ (λ none.
    law_node base t u d from m st2 (omega (arith, before, ge)) (λ z. record { site = z; name = name; range = Some r; value = None })))

abbrev is_reg : NetKind → Bool
is_reg nets.Wire = false
is_reg nets.Reg = true

law_array_of : (base : ℕ) (t u : List Lexeme) (d : ℕ) (net : NetKind) (from : ℕ) (name : Identifier) (a : ℕ) → from ≤ a → Start base t d a → mark_at t a ≡ marks.OpenBracket
    → Law base t u a (array_of t d net from name a) (array_of u d net from name a) (λ x b. IsArray t d net from name x a b)
law_array_of base t u d nets.Wire from name a before st is = law_as base t u a _ _ _ _ (law_left_out base t u a st.inside) (λ x b h. absurd h) (λ x b h. true_false (sym (ap is_reg h.1)))
law_array_of base t u d nets.Reg from name a before st is = law_as base t u a _ _ _ _ (law_array base t u d from name a before st is) (λ x b h. (is, refl, h)) (λ x b h. h.2)

law_scalar : (base : ℕ) (t u : List Lexeme) (d from : ℕ) (name : Identifier) (a : ℕ) → from ≤ a → Start base t d a → mark_at t a ≢ marks.OpenBracket
    → Law base t u a (scalar_at t d from name a) (scalar_at u d from name a) (λ x b. IsScalar t d from name x a b)
unfolding scalar_at
law_scalar base t u d from name a before st none =
    law_as base t u a _ _ _ _
    (law_bind base t u d a st (optional_at t marks.Equals (equals_at t d) a) (optional_at u marks.Equals (equals_at u d) a) _ _ (λ x b. IsOptional t marks.Equals (IsEquals t d) x a b) _
    (law_optional base t u d a st marks.Equals refl (equals_at t d) (equals_at u d) (IsEquals t d) (λ is. law_equals base t u d a st)) (λ v m q ge st2.
    law_node base t u d from m st2 (omega (arith, before, ge)) (λ z. record { site = z; name = name; range = None; value = v })))
    (λ x b h. (none, h)) (λ x b h. h.1)

law_behind_name : (base : ℕ) (t u : List Lexeme) (d : ℕ) (net : NetKind) (from : ℕ) (name : Identifier) (a : ℕ) → from ≤ a → Start base t d a
    → Law base t u a (behind_name_at t d net from name a) (behind_name_at u d net from name a) (λ x b. IsArray t d net from name x a b ⊎ IsScalar t d from name x a b)
unfolding behind_name_at
law_behind_name base t u d net from name a before st =
    law_choice base t u a marks.OpenBracket refl _ _ _ _ (λ x b. IsArray t d net from name x a b) (λ x b. IsScalar t d from name x a b)
    (λ is here. law_array_of base t u d net from name a before st is) (λ none. law_scalar base t u d from name a before st none)
    (λ x b h. h.0) (λ x b h. h.0)

law_declarator : (base : ℕ) (t u : List Lexeme) (d : ℕ) (net : NetKind) → LawFrom base t u d (declarator_at t d net) (declarator_at u d net) (IsDeclarator t d net)
unfolding declarator_at
law_declarator base t u d net a st =
    law_bind base t u d a st (identifier_at t a) (identifier_at u a) _ _ (λ x b. IsIdentifier t x a b) _ (law_identifier base t u d a st) (λ x m q ge st2.
    law_behind_name base t u d net a x m ge st2)

taking_nets : (base : ℕ) (t u : List Lexeme) (d : ℕ) → TakingFrom base t u d (nets_at t d) (nets_at u d) (IsNets t d)
unfolding nets_at net_names_at
taking_nets base t u d a st =
    taking_bind base t u d a st (net_at t a) (net_at u a) _ _ (λ x b. IsNet t x a b) _ (taking_net base t u d a st) (λ v m q ge st2.
    law_bind base t u d m st2 (signed_if_at t m) (signed_if_at u m) _ _ (λ x b. IsSignedIf t x m b) _ (law_signed_if base t u d m st2) (λ s n q2 ge2 st3.
    law_bind base t u d n st3 (range_if_at t d n) (range_if_at u d n) _ _ (λ x b. IsRangeIf t d x n b) _ (law_range_if base t u d n st3) (λ r k q3 ge3 st4.
    law_bind base t u d k st4 (optional_at t marks.Hash (delay_at t d) k) (optional_at u marks.Hash (delay_at u d) k) _ _ (λ x b. IsOptional t marks.Hash (IsDelay t d) x k b) _
    (law_optional base t u d k st4 marks.Hash refl (delay_at t d) (delay_at u d) (IsDelay t d) (λ is. law_delay base t u d k st4)) (λ w l q4 ge4 st5.
    law_bind base t u d l st5 (list_at t (declarator_at t d v) l) (list_at u (declarator_at u d v) l) _ _ (λ xs b. AreListed t (IsDeclarator t d v) xs l b) _
    (law_list base t u d (declarator_at t d v) (declarator_at u d v) (IsDeclarator t d v) (law_declarator base t u d v) l st5) (λ xs o q5 ge5 st6.
    law_expect base t u d o st6 marks.Semicolon refl _ _ _ (λ is st7.
    law_node base t u d a (o + 1) st7 (omega (arith, ge, ge2, ge3, ge4, ge5)) (λ z. net_item z v s r w xs)))))))

taking_parameters : (base : ℕ) (t u : List Lexeme) (d : ℕ) → TakingFrom base t u d (parameters_at t d) (parameters_at u d) (IsParameters t d)
unfolding parameters_at
taking_parameters base t u d a st =
    taking_bind base t u d a st (parameter_kind_at t a) (parameter_kind_at u a) _ _ (λ x b. IsParameterKind t x a b) _ (taking_parameter_kind base t u d a st) (λ k m q ge st2.
    law_bind base t u d m st2 (parameter_type_at t d m) (parameter_type_at u d m) _ _ (λ x b. IsParameterType t d x m b) _ (law_parameter_type base t u d m st2) (λ v n q2 ge2 st3.
    law_bind base t u d n st3 (list_at t (named_value_at t d) n) (list_at u (named_value_at u d) n) _ _ (λ xs b. AreListed t (IsNamedValue t d) xs n b) _
    (law_list base t u d (named_value_at t d) (named_value_at u d) (IsNamedValue t d) (law_named_value base t u d) n st3) (λ xs l q3 ge3 st4.
    law_expect base t u d l st4 marks.Semicolon refl _ _ _ (λ is st5.
    law_node base t u d a (l + 1) st5 (omega (arith, ge, ge2, ge3)) (λ z. parameter_item z k v xs)))))

-- a choice by what the token at a is, where each alternative tells it
taking_by : {A : Type 0} (base : ℕ) (t u : List Lexeme) (a : ℕ) (f : Terminal → Bool) (o p q r : Read A) (P Q : A → ℕ → Type 0)
    → ((x : A) (b : ℕ) → P x b → f (mark_at t a) ≡ true) → ((x : A) (b : ℕ) → Q x b → f (mark_at t a) ≡ false) → Taking base t u a o q P → Taking base t u a p r Q
    → Taking base t u a (if f (mark_at t a) then o else p) (if f (mark_at u a) then q else r) (λ x b. P x b ⊎ Q x b)
taking_by base t u a f o p q r P Q told untold k l = record {
  law = law_test base t u a f o p q r P Q (λ hit. k.law) (λ miss. l.law) told untold;
  takes = λ x b s. elim s [
    | inl h ↦ k.takes x b h
    | inr h ↦ l.takes x b h
  ];
}

-- what is so of the marks that an item begins with is so of its first token
ports_tell : {B : Type 0} (f : Terminal → B) (v : B) → f marks.Input ≡ v → f marks.Output ≡ v → (t : List Lexeme) (d a : ℕ) (x : PlainItem) (b : ℕ) → IsPorts t d x a b → f (mark_at t a) ≡ v
ports_tell f v input output t d a x b (direction, m, q, r) = elim q [ inl h ↦ ap f h.0 ∙ input | inr h ↦ ap f h.0 ∙ output ]

nets_tell : {B : Type 0} (f : Terminal → B) (v : B) → f marks.Wire ≡ v → f marks.Reg ≡ v → (t : List Lexeme) (d a : ℕ) (x : PlainItem) (b : ℕ) → IsNets t d x a b → f (mark_at t a) ≡ v
nets_tell f v wire reg t d a x b (net, m, q, r) = elim q [ inl h ↦ ap f h.0 ∙ wire | inr h ↦ ap f h.0 ∙ reg ]

parameters_tell : {B : Type 0} (f : Terminal → B) (v : B) → f marks.Parameter ≡ v → f marks.Localparam ≡ v → (t : List Lexeme) (d a : ℕ) (x : PlainItem) (b : ℕ) → IsParameters t d x a b → f (mark_at t a) ≡ v
parameters_tell f v parameter localparam t d a x b (kind, m, q, r) = elim q [ inl h ↦ ap f h.0 ∙ parameter | inr h ↦ ap f h.0 ∙ localparam ]

from_genvars_tell : {B : Type 0} (f : Terminal → B) (v : B) → f marks.Genvar ≡ v → f marks.Parameter ≡ v → f marks.Localparam ≡ v
    → (t : List Lexeme) (d a : ℕ) (x : PlainItem) (b : ℕ) → IsGenvars t x a b ⊎ IsParameters t d x a b → f (mark_at t a) ≡ v
from_genvars_tell f v genvar parameter localparam t d a x b s = elim s [ inl h ↦ ap f h.0 ∙ genvar | inr h ↦ parameters_tell f v parameter localparam t d a x b h ]

from_integers_tell : {B : Type 0} (f : Terminal → B) (v : B) → f marks.Integer ≡ v → f marks.Genvar ≡ v → f marks.Parameter ≡ v → f marks.Localparam ≡ v
    → (t : List Lexeme) (d a : ℕ) (x : PlainItem) (b : ℕ) → IsIntegers t x a b ⊎ (IsGenvars t x a b ⊎ IsParameters t d x a b) → f (mark_at t a) ≡ v
from_integers_tell f v integer genvar parameter localparam t d a x b s =
    elim s [ inl h ↦ ap f h.0 ∙ integer | inr h ↦ from_genvars_tell f v genvar parameter localparam t d a x b h ]

from_nets_tell : {B : Type 0} (f : Terminal → B) (v : B) → f marks.Wire ≡ v → f marks.Reg ≡ v → f marks.Integer ≡ v → f marks.Genvar ≡ v → f marks.Parameter ≡ v → f marks.Localparam ≡ v
    → (t : List Lexeme) (d a : ℕ) (x : PlainItem) (b : ℕ) → IsNets t d x a b ⊎ (IsIntegers t x a b ⊎ (IsGenvars t x a b ⊎ IsParameters t d x a b)) → f (mark_at t a) ≡ v
from_nets_tell f v wire reg integer genvar parameter localparam t d a x b s =
    elim s [ inl h ↦ nets_tell f v wire reg t d a x b h | inr h ↦ from_integers_tell f v integer genvar parameter localparam t d a x b h ]

pub declaration_tells : {B : Type 0} (f : Terminal → B) (v : B) → f marks.Input ≡ v → f marks.Output ≡ v → f marks.Wire ≡ v → f marks.Reg ≡ v → f marks.Integer ≡ v → f marks.Genvar ≡ v
    → f marks.Parameter ≡ v → f marks.Localparam ≡ v → (t : List Lexeme) (d a : ℕ) (x : PlainItem) (b : ℕ) → IsDeclaration t d x a b → f (mark_at t a) ≡ v
declaration_tells f v input output wire reg integer genvar parameter localparam t d a x b s =
    elim s [ inl h ↦ ports_tell f v input output t d a x b h | inr h ↦ from_nets_tell f v wire reg integer genvar parameter localparam t d a x b h ]

pub taking_declaration : (base : ℕ) (t u : List Lexeme) (d : ℕ) → TakingFrom base t u d (declaration_at t d) (declaration_at u d) (IsDeclaration t d)
unfolding declaration_at
taking_declaration base t u d a st =
    taking_by base t u a is_direction _ _ _ _ (λ x b. IsPorts t d x a b) _ (ports_tell is_direction true refl refl t d a) (from_nets_tell is_direction false refl refl refl refl refl refl t d a) (taking_ports base t u d a st)
    (taking_by base t u a is_net _ _ _ _ (λ x b. IsNets t d x a b) _ (nets_tell is_net true refl refl t d a) (from_integers_tell is_net false refl refl refl refl t d a) (taking_nets base t u d a st)
    (taking_by base t u a (λ n. same n marks.Integer) _ _ _ _ (λ x b. IsIntegers t x a b) _ (λ x b h. ap (λ n. same n marks.Integer) h.0) (from_genvars_tell (λ n. same n marks.Integer) false refl refl refl t d a) (taking_integers base t u d a st)
    (taking_by base t u a (λ n. same n marks.Genvar) _ _ _ _ (λ x b. IsGenvars t x a b) (λ x b. IsParameters t d x a b) (λ x b h. ap (λ n. same n marks.Genvar) h.0) (parameters_tell (λ n. same n marks.Genvar) false refl refl t d a) (taking_genvars base t u d a st)
    (taking_parameters base t u d a st))))
