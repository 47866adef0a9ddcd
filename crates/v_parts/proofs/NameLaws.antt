-- The readers of names, ranges, delays and left sides read what their productions have.
use Rattle.std.proofs.Common.{◌≡◌, ◌≢◌, ℕ, zero, suc, ◌+◌, ◌<◌, ◌≤◌, ◌⊎◌, inl, inr, false, if◌then◌else◌, List, [], ◌∷◌, length, sym, ap₂, ◌∙◌, subst, refl, arith}
use Rattle.loc_base.proofs.ShelfBools.{if-cases}
use Rattle.v_lexer.specs.Lexeme.{Lexeme}
use Rattle.v_lexer.specs.declared.types.terminal.Terminal.{Terminal}
use Rattle.v_lexer.specs.declared.types.terminal.Terminal.TheVariants as marks
use Rattle.v_tree.specs.declared.fault.Fault.TheVariants.{Unsupported, Deep}
use Rattle.v_tree.specs.Marks.{mark_at, same}
use Rattle.v_tree.specs.Sites.{text_at}
use Rattle.v_syntax.specs.Tree.{Tree, wild}
use Rattle.v_tree.specs.Reading.{Read, below, selects_at, whole_expression}
use Rattle.v_tree.specs.Expressions.{IsWild, IsWhole}
use Rattle.v_tree.proofs.MarkLemmas.{same_true}
use Rattle.v_tree.proofs.BindLemmas.{good, bad, bad_good}
use Rattle.v_tree.proofs.SoundLemmas.{not_mark}
use Rattle.v_tree.proofs.CompleteLemmas.{else_of, apart_of, complete_selects}
use Rattle.v_tree.proofs.SteadyLemmas.{Steady, st_look, st_if, not_by, within_by, text_kept, site_kept}
use Rattle.v_tree.proofs.SelectLemmas.{selects_found, steady_selects}
use Rattle.v_tree.proofs.WholeLemmas.{whole_sound, whole_complete, begins_plain, wild_bad, st_whole_expression}
use Rattle.v_syntax.specs.PartTree.{number_delay, name_delay, parens_delay, PlainLeft, name_left, concat_left, lefts_of}
use Rattle.v_parts.specs.Reading.{name_at, identifier_at, value_at, equals_at, range_at, parens_delay_at, name_delay_at, number_delay_at, behind_hash_at, delay_at, name_left_at, concat_left_at, close_left_at, left_with, left_at, list_at, named_value_at}
use Rattle.v_parts.specs.Productions.{IsName, IsIdentifier, IsValue, IsEquals, IsRange, IsNumberDelay, IsParensDelay, IsNameDelay, IsDelay, AreIndexes, IsNameLeft, IsConcatLeft, IsLeftWith, IsLeft, AreListed, IsNamedValue}
use Rattle.v_parts.proofs.Laws.{Start, Law, LawFrom, later, law_as, law_bind, law_expect, law_open, law_no_place, law_found, law_node, law_choice}
use Rattle.v_parts.proofs.TakingLaws.{Taking, TakingFrom, taking_open, taking_token, taking_bind, taking_or, Tells, tells_one, tells_more}
use Rattle.v_parts.proofs.ListLaws.{law_list}

pub law_name : (base : ℕ) (t u : List Lexeme) (d : ℕ) → LawFrom base t u d (name_at t) (name_at u) (IsName t)
unfolding name_at
law_name base t u d a s =
    law_as base t u a _ _ _ _
    (law_choice base t u a marks.Name refl _ _ _ _ (λ x b. (mark_at t a ≡ marks.Name) × (x ≡ text_at t a) × (b ≡ a + 1)) (λ x b. ⊥)
    (λ is here. law_as base t u a _ _ _ _ (law_found base t u a (a + 1) (text_at t a) (text_at u a) (omega arith) (omega (arith, here)) (λ b. text_kept t u (a + 1) a b (omega arith))) (λ x b (e, f). (is, e, f)) (λ x b h. (h.1, h.2)))
    (λ none. law_no_place base t u a s.inside) (λ x b h. h.0) (λ x b h. absurd h))
    (λ x b h. elim h [ inl h ↦ h | inr h ↦ absurd h ]) (λ x b h. inl h)

pub law_identifier : (base : ℕ) (t u : List Lexeme) (d : ℕ) → LawFrom base t u d (identifier_at t) (identifier_at u) (IsIdentifier t)
unfolding identifier_at
law_identifier base t u d a s =
    law_bind base t u d a s (name_at t a) (name_at u a) _ _ (λ x b. IsName t x a b) _ (law_name base t u d a s) (λ x m q ge there.
    law_node base t u d a m there ge (λ z. record { site = z; name = x }))

wild_not : (t : List Lexeme) (e : Tree) (a b : ℕ) → IsWild t e a b → mark_at t a ≢ marks.Wild → ⊥
wild_not t (wild s text) a b (m, x, e, z) plain = plain m
wild_not t _ a b h plain = absurd h

whole_value : (t : List Lexeme) (d : ℕ) (e : Tree) (a b : ℕ) → mark_at t a ≢ marks.Wild → IsWhole t d e a b → IsValue t d e a b
whole_value t d e a b plain w =
    elim w.spelled [
      | inl s ↦ record { spelled = s; ends = w.ends; within = w.within }
      | inr h ↦ absurd (wild_not t e a b h plain)
    ]

value_sound : (t : List Lexeme) (d a : ℕ) (e : Tree) (b : ℕ) → value_at t d a ≡ good (e, b) → IsValue t d e a b
unfolding value_at
value_sound t d a e b is =
    elim (if-cases (same (mark_at t a) marks.Wild) _ _ _ is) [
      | inl p ↦ bad_good (Unsupported a) (e, b) p.1
      | inr p ↦ whole_value t d e a b (not_mark _ _ p.0) (whole_sound t d a e b p.1)
    ]

value_complete : (t : List Lexeme) (d a : ℕ) (e : Tree) (b : ℕ) → IsValue t d e a b → value_at t d a ≡ good (e, b)
unfolding value_at
value_complete t d a e b v =
    else_of _ _ _ _ (apart_of _ _ (begins_plain t e a b v.spelled)) (whole_complete t d a e b record { spelled = inl v.spelled; ends = v.ends; within = v.within })

value_steady : (base : ℕ) (t u : List Lexeme) (d a : ℕ) → Start base t d a → Steady base t u a (value_at t d a) (value_at u d a)
unfolding value_at
value_steady base t u d a s =
    st_look base t u a (λ k. if same k marks.Wild then bad (Unsupported a) else whole_expression t d a) (λ k. if same k marks.Wild then bad (Unsupported a) else whole_expression u d a) (λ k is.
    st_if base t u a (same k marks.Wild) _ _ _ _
    (λ hit. wild_bad base t u a _ (within_by t a k marks.Wild is hit refl) (is ∙ same_true _ _ hit) (λ b. refl))
    (λ miss. st_whole_expression base t u d a s.inside s.deep s.far))

pub law_value : (base : ℕ) (t u : List Lexeme) (d : ℕ) → LawFrom base t u d (value_at t d) (value_at u d) (IsValue t d)
law_value base t u d a s = record { sound = value_sound t d a; complete = value_complete t d a; steady = value_steady base t u d a s }

pub law_equals : (base : ℕ) (t u : List Lexeme) (d : ℕ) → LawFrom base t u d (equals_at t d) (equals_at u d) (IsEquals t d)
unfolding equals_at
law_equals base t u d a s = law_expect base t u d a s marks.Equals refl (λ m. value_at t d m) (λ m. value_at u d m) _ (λ is there. law_value base t u d (a + 1) there)

pub law_range : (base : ℕ) (t u : List Lexeme) (d a : ℕ) → Start base t d a → mark_at t a ≡ marks.OpenBracket → Law base t u a (range_at t d a) (range_at u d a) (λ x b. IsRange t d x a b)
unfolding range_at
law_range base t u d a s is =
    law_open base t u d a s marks.OpenBracket refl refl is _ _ _ (λ n low st.
    law_bind base t u n (a + 1) st (value_at t n (a + 1)) (value_at u n (a + 1)) _ _ (λ x b. IsValue t n x (a + 1) b) _ (law_value base t u n (a + 1) st) (λ x m q ge st2.
    law_expect base t u n m st2 marks.Colon refl _ _ _ (λ colon st3.
    law_bind base t u n (m + 1) st3 (value_at t n (m + 1)) (value_at u n (m + 1)) _ _ (λ x b. IsValue t n x (m + 1) b) _ (law_value base t u n (m + 1) st3) (λ y k q2 ge2 st4.
    law_expect base t u n k st4 marks.CloseBracket refl _ _ _ (λ close st5.
    law_node base t u n a (k + 1) st5 (omega (arith, ge, ge2)) (λ z. record { site = z; left = x; right = y }))))))

law_parens_delay : (base : ℕ) (t u : List Lexeme) (d from a : ℕ) → from ≤ a → Start base t d a → mark_at t a ≡ marks.Open
    → Law base t u a (parens_delay_at t d from a) (parens_delay_at u d from a) (λ x b. IsParensDelay t d from x a b)
unfolding parens_delay_at
law_parens_delay base t u d from a before s is =
    law_open base t u d a s marks.Open refl refl is _ _ _ (λ n low st.
    law_bind base t u n (a + 1) st (value_at t n (a + 1)) (value_at u n (a + 1)) _ _ (λ x b. IsValue t n x (a + 1) b) _ (law_value base t u n (a + 1) st) (λ x m q ge st2.
    law_expect base t u n m st2 marks.Close refl _ _ _ (λ close st3.
    law_node base t u n from (m + 1) st3 (omega (arith, ge, before)) (λ z. parens_delay z x))))

law_name_delay : (base : ℕ) (t u : List Lexeme) (d from a : ℕ) → from ≤ a → Start base t d a
    → Law base t u a (name_delay_at t from a) (name_delay_at u from a) (λ x b. IsNameDelay t from x a b)
unfolding name_delay_at
law_name_delay base t u d from a before s =
    law_bind base t u d a s (name_at t a) (name_at u a) _ _ (λ x b. IsName t x a b) _ (law_name base t u d a s) (λ x m q ge there.
    law_node base t u d from m there (omega (arith, ge, before)) (λ z. name_delay z x))

law_number_delay : (base : ℕ) (t u : List Lexeme) (from a : ℕ) → from ≤ a → a < length t → mark_at t a ≡ marks.Number
    → Law base t u a (number_delay_at t from a) (number_delay_at u from a) (λ x b. IsNumberDelay t from x a b)
unfolding number_delay_at
law_number_delay base t u from a before inside is =
    law_as base t u a _ _ _ _ (law_found base t u a (a + 1) _ _ (omega arith) (omega (arith, inside))
    (λ b. ap₂ (λ z w. number_delay z w) (site_kept t u _ from (a + 1) b (omega (arith, before)) (omega arith)) (text_kept t u _ a b (omega arith)))) (λ x b h. (is, h)) (λ x b h. h.1)

marks_apart : (t : List Lexeme) (a : ℕ) (m n : Terminal) → mark_at t a ≡ m → same m n ≡ false → mark_at t a ≢ n
marks_apart t a m n is apart h = not_by m n apart (sym is ∙ h)

law_behind_hash : (base : ℕ) (t u : List Lexeme) (d from a : ℕ) → from ≤ a → Start base t d a
    → Law base t u a (behind_hash_at t d from a) (behind_hash_at u d from a)
    (λ x b. IsNumberDelay t from x a b ⊎ (IsParensDelay t d from x a b ⊎ IsNameDelay t from x a b))
unfolding behind_hash_at
law_behind_hash base t u d from a before s =
    law_choice base t u a marks.Number refl _ _ _ _ (λ x b. IsNumberDelay t from x a b) (λ x b. IsParensDelay t d from x a b ⊎ IsNameDelay t from x a b)
    (λ is here. law_number_delay base t u from a before here is)
    (λ other. law_choice base t u a marks.Open refl _ _ _ _ (λ x b. IsParensDelay t d from x a b) (λ x b. IsNameDelay t from x a b)
    (λ is here. law_parens_delay base t u d from a before s is) (λ last. law_name_delay base t u d from a before s)
    (λ x b h. h.2) (λ x b h. marks_apart t a marks.Name marks.Open h.2.0 refl))
    (λ x b h. h.0)
    (λ x b h. elim h [ inl p ↦ marks_apart t a marks.Open marks.Number p.2 refl | inr p ↦ marks_apart t a marks.Name marks.Number p.2.0 refl ])

-- the nesting that is left is enough from the token behind the # on
pub taking_delay_behind : (base : ℕ) (t u : List Lexeme) (d a : ℕ) → a ≤ length t → (a + 1 ≤ length t → Start base t d (a + 1)) → Taking base t u a (delay_at t d a) (delay_at u d a) (λ x b. IsDelay t d x a b)
unfolding delay_at
taking_delay_behind base t u d a inside next =
    taking_token base t u a inside marks.Hash refl (λ m. behind_hash_at t d a m) (λ m. behind_hash_at u d a m) _ (λ is ok. law_behind_hash base t u d a (a + 1) (omega arith) (next ok))

pub law_delay : (base : ℕ) (t u : List Lexeme) (d : ℕ) → LawFrom base t u d (delay_at t d) (delay_at u d) (IsDelay t d)
law_delay base t u d a s = (taking_delay_behind base t u d a s.inside (λ ok. later base t d a (a + 1) s (omega arith) ok)).law

law_indexes : (base : ℕ) (t u : List Lexeme) (d : ℕ)
    → LawFrom base t u d (λ a. selects_at t d (below t d).whole 4097 2 a) (λ a. selects_at u d (below u d).whole 4097 2 a) (AreIndexes t d)
law_indexes base t u d a s = record {
  sound = λ xs b e.
      let f = selects_found t d 4097 2 a xs b e in
      record { spelled = f.spelled; two = f.count; ends = f.stops; nests = f.nests; rises = f.rises };
  complete = λ xs b i. complete_selects t xs d 4097 2 a b i.spelled i.two i.nests i.rises i.ends;
  steady = steady_selects base t u d 4097 2 a s.inside s.deep (omega (arith, s.far));
}

pub taking_name : (base : ℕ) (t u : List Lexeme) (d : ℕ) → TakingFrom base t u d (name_at t) (name_at u) (IsName t)
taking_name base t u d a s = record { law = law_name base t u d a s; takes = λ x b h. omega (arith, h.2) }

pub taking_identifier : (base : ℕ) (t u : List Lexeme) (d : ℕ) → TakingFrom base t u d (identifier_at t) (identifier_at u) (IsIdentifier t)
unfolding identifier_at
taking_identifier base t u d a s =
    taking_bind base t u d a s (name_at t a) (name_at u a) _ _ (λ x b. IsName t x a b) _ (taking_name base t u d a s) (λ x m q ge there.
    law_node base t u d a m there ge (λ z. record { site = z; name = x }))

taking_name_left : (base : ℕ) (t u : List Lexeme) (d : ℕ) → TakingFrom base t u d (name_left_at t d) (name_left_at u d) (IsNameLeft t d)
unfolding name_left_at
taking_name_left base t u d a s =
    taking_bind base t u d a s (name_at t a) (name_at u a) _ _ (λ x b. IsName t x a b) _ (taking_name base t u d a s) (λ x m q ge st.
    law_bind base t u d m st (selects_at t d (below t d).whole 4097 2 m) (selects_at u d (below u d).whole 4097 2 m) _ _ (λ xs b. AreIndexes t d xs m b) _ (law_indexes base t u d m st) (λ xs n q2 ge2 st2.
    law_node base t u d a n st2 (omega (arith, ge, ge2)) (λ z. name_left z x xs)))

-- left sides where less nesting is left
abbrev LeftsWithin : ℕ → List Lexeme → List Lexeme → ℕ → (ℕ → Read PlainLeft) → (ℕ → Read PlainLeft) → (PlainLeft → ℕ → ℕ → Type 0) → Type 0
LeftsWithin base t u d r s P = (n : ℕ) → n + 1 ≡ d → TakingFrom base t u n r s P

taking_concat_left : (base : ℕ) (t u : List Lexeme) (d : ℕ) (r s : ℕ → Read PlainLeft) (P : PlainLeft → ℕ → ℕ → Type 0) → LeftsWithin base t u d r s P → (a : ℕ) → Start base t d a → mark_at t a ≡ marks.OpenBrace
    → Taking base t u a (concat_left_at t d r a) (concat_left_at u d s a) (λ x b. IsConcatLeft t d P x a b)
unfolding concat_left_at close_left_at
taking_concat_left base t u d r s P under a st is =
    taking_open base t u d a st marks.OpenBrace refl refl is _ _ _ (λ n low st2.
    law_bind base t u n (a + 1) st2 (list_at t r (a + 1)) (list_at u s (a + 1)) _ _ (λ xs b. AreListed t P xs (a + 1) b) _ (law_list base t u n r s P (λ c sc. (under n low c sc).law) (a + 1) st2) (λ xs m q ge st3.
    law_expect base t u n m st3 marks.CloseBrace refl _ _ _ (λ close st4.
    law_node base t u n a (m + 1) st4 (omega (arith, ge)) (λ z. concat_left z (lefts_of xs)))))

name_left_tells : (t : List Lexeme) (d a : ℕ) → Tells t a (marks.Name ∷ []) (λ x b. IsNameLeft t d x a b)
name_left_tells t d a = tells_one t a marks.Name (λ x b. IsNameLeft t d x a b) (λ x b h. h.2.0)

taking_left_with : (base : ℕ) (t u : List Lexeme) (d : ℕ) (r s : ℕ → Read PlainLeft) (P : PlainLeft → ℕ → ℕ → Type 0) → LeftsWithin base t u d r s P
    → TakingFrom base t u d (left_with t d r) (left_with u d s) (IsLeftWith t d P)
unfolding left_with
taking_left_with base t u d r s P under a st =
    taking_or base t u a marks.OpenBrace (marks.Name ∷ []) refl refl _ _ _ _ (λ x b. IsConcatLeft t d P x a b) (λ x b. IsNameLeft t d x a b) (λ x b h. h.2) (name_left_tells t d a)
    (λ is here. taking_concat_left base t u d r s P under a st is) (λ other. taking_name_left base t u d a st)

left_with_tells : (t : List Lexeme) (d : ℕ) (P : PlainLeft → ℕ → ℕ → Type 0) (a : ℕ) → Tells t a (marks.OpenBrace ∷ marks.Name ∷ []) (λ x b. IsLeftWith t d P x a b)
left_with_tells t d P a = tells_more t a marks.OpenBrace (marks.Name ∷ []) (λ x b. IsConcatLeft t d P x a b) (λ x b. IsNameLeft t d x a b) (λ x b h. h.2) (name_left_tells t d a)

pub left_tells : (t : List Lexeme) (d a : ℕ) → Tells t a (marks.OpenBrace ∷ marks.Name ∷ []) (λ x b. IsLeft t d x a b)
left_tells t zero a = left_with_tells t zero (λ x a b. ⊥) a
left_tells t (suc d) a = left_with_tells t (suc d) (IsLeft t d) a

pub taking_left : (base : ℕ) (t u : List Lexeme) (d : ℕ) → TakingFrom base t u d (left_at t d) (left_at u d) (IsLeft t d)
unfolding left_at
taking_left base t u zero = taking_left_with base t u zero (λ a. bad (Deep a)) (λ a. bad (Deep a)) (λ x a b. ⊥) (λ n e. absurd (omega (arith, e)))
taking_left base t u (suc d) = taking_left_with base t u (suc d) (left_at t d) (left_at u d) (IsLeft t d)
    (λ n e. let one : d ≡ n = omega (arith, e) in subst (λ k. TakingFrom base t u k (left_at t d) (left_at u d) (IsLeft t d)) one (taking_left base t u d))

pub law_named_value : (base : ℕ) (t u : List Lexeme) (d : ℕ) → LawFrom base t u d (named_value_at t d) (named_value_at u d) (IsNamedValue t d)
unfolding named_value_at
law_named_value base t u d a s =
    law_bind base t u d a s (identifier_at t a) (identifier_at u a) _ _ (λ x b. IsIdentifier t x a b) _ (law_identifier base t u d a s) (λ x m q ge st.
    law_expect base t u d m st marks.Equals refl _ _ _ (λ equals st2.
    law_bind base t u d (m + 1) st2 (value_at t d (m + 1)) (value_at u d (m + 1)) _ _ (λ y b. IsValue t d y (m + 1) b) _ (law_value base t u d (m + 1) st2) (λ y n q2 ge2 st3.
    law_node base t u d a n st3 (omega (arith, ge, ge2)) (λ z. record { site = z; name = x; value = y }))))
