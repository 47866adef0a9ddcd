-- The readers of the words and the types of declarations read what their productions have.
use Rattle.std.proofs.Common.{◌≡◌, ◌≢◌, ℕ, ◌+◌, ◌<◌, ◌⊎◌, inl, inr, true, false, List, [], ◌∷◌, Some, None, length, sym, ◌∙◌, refl, arith}
use Rattle.v_lexer.specs.Lexeme.{Lexeme}
use Rattle.v_syntax.specs.declared.item.Direction.TheVariants as direction
use Rattle.v_syntax.specs.declared.item.NetKind.TheVariants as net
use Rattle.v_lexer.specs.declared.types.terminal.Terminal.{Terminal}
use Rattle.v_lexer.specs.declared.types.terminal.Terminal.TheVariants as marks
use Rattle.v_tree.specs.Marks.{mark_at}
use Rattle.v_tree.proofs.BindLemmas.{good}
use Rattle.v_tree.proofs.SteadyLemmas.{not_by}
use Rattle.v_syntax.specs.ItemTree.{vector_type, integer_type}
use Rattle.v_parts.specs.Reading.{range_at}
use Rattle.v_parts.specs.Productions.{IsRange}
use Rattle.v_declarations.specs.Types.{IsDirection, IsNetIf, IsSignedIf, IsRangeIf, IsVectorType, IsParameterType}
use Rattle.v_declarations.specs.TypeReading.{direction_at, net_if_at, signed_if_at, range_if_at, vector_type_at, parameter_type_at}
use Rattle.v_parts.proofs.Laws.{Law, LawFrom, law_as, law_bind, law_no_place, law_found, law_choice, law_optional}
use Rattle.v_parts.proofs.TakingLaws.{TakingFrom, Tells, tells_one, tells_more}
use Rattle.v_parts.proofs.NameLaws.{law_range}

-- a word that tells what is found
pub law_word : {A : Type 0} (base : ℕ) (t u : List Lexeme) (a : ℕ) (m : Terminal) (x : A) → mark_at t a ≡ m → a < length t
    → Law base t u a (good (x, a + 1)) (good (x, a + 1)) (λ y b. (mark_at t a ≡ m) × ((y ≡ x) × (b ≡ a + 1)))
law_word {A} base t u a m x is here =
    law_as base t u a (good {A = A × ℕ} (x, a + 1)) (good (x, a + 1)) (λ y b. (y ≡ x) × (b ≡ a + 1)) _ (law_found base t u a (a + 1) x x (omega arith) (omega (arith, here)) (λ b. refl)) (λ y b h. (is, h)) (λ y b h. h.1)

law_direction : (base : ℕ) (t u : List Lexeme) (d : ℕ) → LawFrom base t u d (direction_at t) (direction_at u) (IsDirection t)
unfolding direction_at
law_direction base t u d a s =
    law_choice base t u a marks.Input refl _ _ _ _ (λ x b. (mark_at t a ≡ marks.Input) × ((x ≡ direction.Input) × (b ≡ a + 1))) (λ x b. (mark_at t a ≡ marks.Output) × ((x ≡ direction.Output) × (b ≡ a + 1)))
    (λ is here. law_word base t u a marks.Input direction.Input is here)
    (λ other. law_as base t u a _ _ _ _ (law_choice base t u a marks.Output refl _ _ _ _ (λ x b. (mark_at t a ≡ marks.Output) × ((x ≡ direction.Output) × (b ≡ a + 1))) (λ x b. ⊥)
    (λ is here. law_word base t u a marks.Output direction.Output is here) (λ last. law_no_place base t u a s.inside) (λ x b h. h.0) (λ x b h. absurd h))
    (λ x b h. elim h [ inl h ↦ h | inr h ↦ absurd h ]) (λ x b h. inl h))
    (λ x b h. h.0) (λ x b h e. not_by marks.Output marks.Input refl (sym h.0 ∙ e))

pub taking_direction : (base : ℕ) (t u : List Lexeme) (d : ℕ) → TakingFrom base t u d (direction_at t) (direction_at u) (IsDirection t)
taking_direction base t u d a s = record { law = law_direction base t u d a s; takes = λ x b h. elim h [ inl h ↦ omega (arith, h.1.1) | inr h ↦ omega (arith, h.1.1) ] }

pub direction_tells : (t : List Lexeme) (a : ℕ) → Tells t a (marks.Input ∷ marks.Output ∷ []) (λ x b. IsDirection t x a b)
direction_tells t a =
    tells_more t a marks.Input (marks.Output ∷ []) (λ x b. (mark_at t a ≡ marks.Input) × ((x ≡ direction.Input) × (b ≡ a + 1))) (λ x b. (mark_at t a ≡ marks.Output) × ((x ≡ direction.Output) × (b ≡ a + 1))) (λ x b h. h.0)
    (tells_one t a marks.Output (λ x b. (mark_at t a ≡ marks.Output) × ((x ≡ direction.Output) × (b ≡ a + 1))) (λ x b h. h.0))

pub law_net_if : (base : ℕ) (t u : List Lexeme) (d : ℕ) → LawFrom base t u d (net_if_at t) (net_if_at u) (IsNetIf t)
unfolding net_if_at
law_net_if base t u d a s =
    law_choice base t u a marks.Wire refl _ _ _ _ (λ x b. (mark_at t a ≡ marks.Wire) × ((x ≡ Some net.Wire) × (b ≡ a + 1)))
    (λ x b. ((mark_at t a ≡ marks.Reg) × ((x ≡ Some net.Reg) × (b ≡ a + 1))) ⊎ ((mark_at t a ≢ marks.Wire) × (mark_at t a ≢ marks.Reg) × ((x ≡ None) × (b ≡ a))))
    (λ is here. law_word base t u a marks.Wire (Some net.Wire) is here)
    (λ other. law_choice base t u a marks.Reg refl _ _ _ _ (λ x b. (mark_at t a ≡ marks.Reg) × ((x ≡ Some net.Reg) × (b ≡ a + 1))) (λ x b. (mark_at t a ≢ marks.Wire) × (mark_at t a ≢ marks.Reg) × ((x ≡ None) × (b ≡ a)))
    (λ is here. law_word base t u a marks.Reg (Some net.Reg) is here)
    (λ last. law_as base t u a _ _ _ _ (law_found base t u a a None None (omega arith) s.inside (λ b. refl)) (λ x b h. (other, last, h)) (λ x b h. h.2))
    (λ x b h. h.0) (λ x b h. h.1))
    (λ x b h. h.0) (λ x b h e. elim h [ inl h ↦ not_by marks.Reg marks.Wire refl (sym h.0 ∙ e) | inr h ↦ h.0 e ])

pub law_signed_if : (base : ℕ) (t u : List Lexeme) (d : ℕ) → LawFrom base t u d (signed_if_at t) (signed_if_at u) (IsSignedIf t)
unfolding signed_if_at
law_signed_if base t u d a s =
    law_choice base t u a marks.Signed refl _ _ _ _ (λ x b. (mark_at t a ≡ marks.Signed) × ((x ≡ true) × (b ≡ a + 1))) (λ x b. (mark_at t a ≢ marks.Signed) × ((x ≡ false) × (b ≡ a)))
    (λ is here. law_word base t u a marks.Signed true is here)
    (λ other. law_as base t u a _ _ _ _ (law_found base t u a a false false (omega arith) s.inside (λ b. refl)) (λ x b h. (other, h)) (λ x b h. h.1))
    (λ x b h. h.0) (λ x b h. h.0)

pub law_range_if : (base : ℕ) (t u : List Lexeme) (d : ℕ) → LawFrom base t u d (range_if_at t d) (range_if_at u d) (IsRangeIf t d)
law_range_if base t u d a s = law_optional base t u d a s marks.OpenBracket refl (range_at t d) (range_at u d) (IsRange t d) (λ is. law_range base t u d a s is)

law_vector_type : (base : ℕ) (t u : List Lexeme) (d : ℕ) → LawFrom base t u d (vector_type_at t d) (vector_type_at u d) (IsVectorType t d)
unfolding vector_type_at
law_vector_type base t u d a s =
    law_bind base t u d a s (signed_if_at t a) (signed_if_at u a) _ _ (λ x b. IsSignedIf t x a b) _ (law_signed_if base t u d a s) (λ x m q ge st.
    law_bind base t u d m st (range_if_at t d m) (range_if_at u d m) _ _ (λ y b. IsRangeIf t d y m b) _ (law_range_if base t u d m st) (λ y n q2 ge2 st2.
    law_found base t u n n (vector_type x y) (vector_type x y) (omega arith) st2.inside (λ b. refl)))

pub law_parameter_type : (base : ℕ) (t u : List Lexeme) (d : ℕ) → LawFrom base t u d (parameter_type_at t d) (parameter_type_at u d) (IsParameterType t d)
unfolding parameter_type_at
law_parameter_type base t u d a s =
    law_choice base t u a marks.Integer refl _ _ _ _ (λ x b. (mark_at t a ≡ marks.Integer) × ((x ≡ integer_type) × (b ≡ a + 1))) (λ x b. (mark_at t a ≢ marks.Integer) × IsVectorType t d x a b)
    (λ is here. law_word base t u a marks.Integer integer_type is here)
    (λ other. law_as base t u a _ _ _ _ (law_vector_type base t u d a s) (λ x b h. (other, h)) (λ x b h. h.1))
    (λ x b h. h.0) (λ x b h. h.0)
