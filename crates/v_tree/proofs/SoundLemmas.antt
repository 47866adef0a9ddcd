-- What reading finds is an expression of the tokens.
use Rattle.std.proofs.Common.{◌≡◌, ◌≢◌, ℕ, zero, suc, ◌+◌, ◌<◌, ◌≤◌, inl, inr, true, false, List, length, Some, None, Option, Ok, sym, ap, ◌∙◌, subst, refl, arith, nat_lt, ltb-true, ltb-false, lit≤}
use Rattle.loc_base.proofs.ShelfBools.{if-cases}
use Rattle.loc_base.proofs.ShelfOptions.{Some-same}
use Rattle.v_lexer.specs.Lexeme.{Lexeme}
use Rattle.v_lexer.specs.declared.types.terminal.Terminal.{Terminal}
use Rattle.v_lexer.specs.declared.types.terminal.Terminal.TheVariants as marks
use Rattle.v_syntax.specs.declared.operator.Unary.{Unary}
use Rattle.v_syntax.specs.declared.operator.Binary.{Binary}
use Rattle.v_syntax.specs.declared.operator.SystemFunction.{SystemFunction}
use Rattle.v_syntax.specs.declared.expression.PartKind.{PartKind}
use Rattle.v_tree.specs.Marks.{mark_at, same}
use Rattle.v_tree.specs.Sites.{site}
use Rattle.v_tree.specs.Operators.{unary_of, binary_of, strength, system_of, part_of}
use Rattle.v_syntax.specs.Tree.{Tree, number, wild, name, parens, concat, repeat, system, unary, binary, conditional, Trees, no_tree, tree, Selection, bit, part, Selections, no_select, select}
use Rattle.v_tree.specs.Depth.{nesting, levels, nesting_of_parts, levels_of_parts, nesting_of_select, levels_of_select, nesting_of_selects, levels_of_selects}
use Rattle.v_tree.specs.Expressions.{Ends, tightness, how_many, takes_select, IsExpr, AreParts, AreMore, IsSelect, AreSelects}
use Rattle.v_tree.specs.Faults.{no_place}
use Rattle.v_tree.specs.Reading.{Reader, Readers, readers, below, operand_with, signed_at, called_at, plain_at, whole_with, lower, above, expect, chain, chain_step, climb, more_parts, parts_from, selects_at, select_at, behind_at, close_bit, close_part, name_at, parens_at, close_parens, braces_at, repeat_at, concat_at, close_repeat, close_concat, system_at, close_system, unary_at, question_at}
use Rattle.v_tree.proofs.MarkLemmas.{same_true, same_of}
use Rattle.v_tree.proofs.BindLemmas.{bind-inv, from_ok, lower-inv, above-inv, expect-inv, bad_good, true_false}
use Rattle.v_tree.proofs.StepLemmas.{whole_over, operand_over, below_less, strength_most}
use Rattle.v_tree.proofs.PlaceLemmas.{binary_inside}
use Rattle.v_syntax.specs.declared.operator.Binary.TheVariants as ops

pub record Sound (t : List Lexeme) (d levels_left : ℕ) (x : Tree) (a b : ℕ) : Type 0 where
  pub spelled : IsExpr t x a b
  pub nests : nesting x ≤ d
  pub rises : levels x ≤ levels_left
  pub stops : takes_select x ≡ true → mark_at t b ≢ marks.OpenBracket

pub record SoundOperand (t : List Lexeme) (d levels_left : ℕ) (x : Tree) (a b : ℕ) : Type 0 where
  pub sound : Sound t d levels_left x a b
  pub tight : 12 ≤ tightness x

abbrev pub SoundReader : List Lexeme → ℕ → Reader → Type 0
SoundReader t d r = (levels_left a : ℕ) (x : Tree) (b : ℕ) → r levels_left a ≡ Ok (x, b) → Sound t d levels_left x a b

abbrev pub SoundOperands : List Lexeme → ℕ → Reader → Type 0
SoundOperands t d r = (levels_left a : ℕ) (x : Tree) (b : ℕ) → r levels_left a ≡ Ok (x, b) → SoundOperand t d levels_left x a b

pub never : {A : Type 0} → true ≡ false → A
never e = absurd (true_false e)

pub none_stops : {A : Type 0} → false ≡ true → A
none_stops e = never (sym e)

parens-sound : (t : List Lexeme) (d : ℕ) (w : Reader) → ((n : ℕ) → n + 1 ≡ d → SoundReader t n w) → (levels_left a : ℕ) (x : Tree) (b : ℕ)
    → mark_at t a ≡ marks.Open → parens_at t d w levels_left a ≡ Ok (x, b) → SoundOperand t d levels_left x a b
unfolding parens_at close_parens
parens-sound t d w under levels_left a x b o e =
    let i = bind-inv (lower d a) _ _ e in
    let j = bind-inv (w levels_left (a + 1)) _ _ i.2 in
    let k = bind-inv (expect t marks.Close j.0.1) _ _ j.2 in
    let low = lower-inv d a i.0 i.1 in
    let s = under i.0 low levels_left (a + 1) j.0.0 j.0.1 j.1 in
    let c = expect-inv t marks.Close j.0.1 k.0 k.1 in
    from_ok (λ x b. SoundOperand t d levels_left x a b) _ _ _ _ k.2 record {
      sound = record { spelled = (j.0.1, o, s.spelled, c.0, c.1, refl); nests = omega (arith, low, s.nests); rises = s.rises; stops = none_stops };
      tight = omega arith;
    }

system-sound : (t : List Lexeme) (d : ℕ) (w : Reader) → ((n : ℕ) → n + 1 ≡ d → SoundReader t n w) → (f : SystemFunction) (levels_left a : ℕ) (x : Tree) (b : ℕ)
    → system_of (mark_at t a) ≡ Some f → system_at t d w f levels_left a ≡ Ok (x, b) → SoundOperand t d levels_left x a b
unfolding system_at close_system
system-sound t d w under f levels_left a x b o e =
    let i = bind-inv (lower d a) _ _ e in
    let r = bind-inv (lower levels_left a) _ _ i.2 in
    let m = bind-inv (expect t marks.Open (a + 1)) _ _ r.2 in
    let j = bind-inv (w r.0 m.0) _ _ m.2 in
    let k = bind-inv (expect t marks.Close j.0.1) _ _ j.2 in
    let low = lower-inv d a i.0 i.1 in
    let less = lower-inv levels_left a r.0 r.1 in
    let n = expect-inv t marks.Open (a + 1) m.0 m.1 in
    let s = under i.0 low r.0 m.0 j.0.0 j.0.1 j.1 in
    let c = expect-inv t marks.Close j.0.1 k.0 k.1 in
    let inner : IsExpr t j.0.0 (a + 1 + 1) j.0.1 = subst (λ p. IsExpr t j.0.0 p j.0.1) n.1 s.spelled in
    from_ok (λ x b. SoundOperand t d levels_left x a b) _ _ _ _ k.2 record {
      sound = record { spelled = (j.0.1, o, n.0, inner, c.0, c.1, refl); nests = omega (arith, low, s.nests); rises = omega (arith, less, s.rises); stops = none_stops };
      tight = omega arith;
    }

unary-sound : (t : List Lexeme) (d : ℕ) (w : Reader) → ((n : ℕ) → n + 1 ≡ d → SoundOperands t n w) → (u : Unary) (levels_left a : ℕ) (x : Tree) (b : ℕ)
    → unary_of (mark_at t a) ≡ Some u → unary_at t d w u levels_left a ≡ Ok (x, b) → SoundOperand t d levels_left x a b
unfolding unary_at
unary-sound t d w under u levels_left a x b o e =
    let i = bind-inv (lower d a) _ _ e in
    let r = bind-inv (lower levels_left a) _ _ i.2 in
    let j = bind-inv (w r.0 (a + 1)) _ _ r.2 in
    let low = lower-inv d a i.0 i.1 in
    let less = lower-inv levels_left a r.0 r.1 in
    let p = under i.0 low r.0 (a + 1) j.0.0 j.0.1 j.1 in
    let s = p.sound in
    from_ok (λ x b. SoundOperand t d levels_left x a b) _ _ _ _ j.2 record {
      sound = record { spelled = (o, s.spelled, p.tight, refl); nests = omega (arith, low, s.nests); rises = omega (arith, less, s.rises); stops = s.stops };
      tight = omega arith;
    }

-- (',' expr)*
record SoundMore (t : List Lexeme) (d levels_left : ℕ) (xs : Trees) (a b : ℕ) : Type 0 where
  spelled : AreMore t xs a b
  nests : nesting_of_parts xs ≤ d
  rises : levels_of_parts xs ≤ levels_left

more-sound : (t : List Lexeme) (d : ℕ) (w : Reader) → SoundReader t d w → (levels_left n a : ℕ) (xs : Trees) (b : ℕ) → more_parts t w levels_left n a ≡ Ok (xs, b) → SoundMore t d levels_left xs a b
unfolding more_parts
more-sound t d w under levels_left zero a xs b e = from_ok (λ xs b. SoundMore t d levels_left xs a b) _ _ _ _ e record { spelled = refl; nests = omega arith; rises = omega arith }
more-sound t d w under levels_left (suc n) a xs b e =
    elim (if-cases (same (mark_at t a) marks.Comma) _ _ _ e) [
      | inr p ↦ from_ok (λ xs b. SoundMore t d levels_left xs a b) _ _ _ _ p.1 record { spelled = refl; nests = omega arith; rises = omega arith }
      | inl p ↦
          let i = bind-inv (w levels_left (a + 1)) _ _ p.1 in
          let j = bind-inv (more_parts t w levels_left n i.0.1) _ _ i.2 in
          let s = under levels_left (a + 1) i.0.0 i.0.1 i.1 in
          let m = more-sound t d w under levels_left n i.0.1 j.0.0 j.0.1 j.1 in
          from_ok (λ xs b. SoundMore t d levels_left xs a b) _ _ _ _ j.2
          record { spelled = (i.0.1, same_true _ _ p.0, s.spelled, m.spelled); nests = omega (arith, s.nests, m.nests); rises = omega (arith, s.rises, m.rises) }
    ]

-- expr,+ behind a first expression
record SoundParts (t : List Lexeme) (d levels_left : ℕ) (xs : Trees) (a b : ℕ) : Type 0 where
  spelled : AreParts t xs a b
  nests : nesting_of_parts xs ≤ d
  rises : levels_of_parts xs ≤ levels_left

parts-sound : (t : List Lexeme) (d : ℕ) (w : Reader) → SoundReader t d w → (levels_left : ℕ) (first : Tree) (a m : ℕ) → Sound t d levels_left first a m → (xs : Trees) (b : ℕ)
    → parts_from t w levels_left first m ≡ Ok (xs, b) → SoundParts t d levels_left xs a b
unfolding parts_from
parts-sound t d w under levels_left first a m s xs b e =
    let i = bind-inv (more_parts t w levels_left (length t) m) _ _ e in
    let r = more-sound t d w under levels_left (length t) m i.0.0 i.0.1 i.1 in
    from_ok (λ xs b. SoundParts t d levels_left xs a b) _ _ _ _ i.2
    record { spelled = (m, s.spelled, r.spelled); nests = omega (arith, s.nests, r.nests); rises = omega (arith, s.rises, r.rises) }

braces-sound : (t : List Lexeme) (d : ℕ) (w : Reader) → ((n : ℕ) → n + 1 ≡ d → SoundReader t n w) → (levels_left a : ℕ) (x : Tree) (b : ℕ)
    → mark_at t a ≡ marks.OpenBrace → braces_at t d w levels_left a ≡ Ok (x, b) → SoundOperand t d levels_left x a b
unfolding braces_at repeat_at concat_at close_repeat close_concat
braces-sound t d w under levels_left a x b o e =
    let i = bind-inv (lower d a) _ _ e in
    let r = bind-inv (lower levels_left a) _ _ i.2 in
    let j = bind-inv (w r.0 (a + 1)) _ _ r.2 in
    let low = lower-inv d a i.0 i.1 in
    let less = lower-inv levels_left a r.0 r.1 in
    let s = under i.0 low r.0 (a + 1) j.0.0 j.0.1 j.1 in
    elim (if-cases (same (mark_at t j.0.1) marks.OpenBrace) _ _ _ j.2) [
      | inl p ↦
          let k = bind-inv (w r.0 (j.0.1 + 1)) _ _ p.1 in
          let z = under i.0 low r.0 (j.0.1 + 1) k.0.0 k.0.1 k.1 in
          let l = bind-inv (parts_from t w r.0 k.0.0 k.0.1) _ _ k.2 in
          let ps = parts-sound t i.0 w (under i.0 low) r.0 k.0.0 (j.0.1 + 1) k.0.1 z l.0.0 l.0.1 l.1 in
          let m = bind-inv (expect t marks.CloseBrace l.0.1) _ _ l.2 in
          let n = bind-inv (expect t marks.CloseBrace m.0) _ _ m.2 in
          let c = expect-inv t marks.CloseBrace l.0.1 m.0 m.1 in
          let f = expect-inv t marks.CloseBrace m.0 n.0 n.1 in
          let last : mark_at t (l.0.1 + 1) ≡ marks.CloseBrace = sym (ap (mark_at t) c.1) ∙ f.0 in
          let end : n.0 ≡ l.0.1 + 1 + 1 = f.1 ∙ ap (λ q. q + 1) c.1 in
          from_ok (λ x b. SoundOperand t d levels_left x a b) _ _ _ _ n.2 record {
            sound = record {
              spelled = (j.0.1, l.0.1, o, s.spelled, same_true _ _ p.0, ps.spelled, c.0, last, end, refl);
              nests = omega (arith, low, s.nests, ps.nests);
              rises = omega (arith, less, s.rises, ps.rises);
              stops = none_stops;
            };
            tight = omega arith;
          }
      | inr p ↦
          let l = bind-inv (parts_from t w r.0 j.0.0 j.0.1) _ _ p.1 in
          let ps = parts-sound t i.0 w (under i.0 low) r.0 j.0.0 (a + 1) j.0.1 s l.0.0 l.0.1 l.1 in
          let m = bind-inv (expect t marks.CloseBrace l.0.1) _ _ l.2 in
          let c = expect-inv t marks.CloseBrace l.0.1 m.0 m.1 in
          from_ok (λ x b. SoundOperand t d levels_left x a b) _ _ _ _ m.2 record {
            sound = record { spelled = (l.0.1, o, ps.spelled, c.0, c.1, refl); nests = omega (arith, low, ps.nests); rises = omega (arith, less, ps.rises); stops = none_stops };
            tight = omega arith;
          }
    ]

pub record SoundSelect (t : List Lexeme) (d levels_left : ℕ) (x : Selection) (a b : ℕ) : Type 0 where
  pub spelled : IsSelect t x a b
  pub nests : nesting_of_select x ≤ d
  pub rises : levels_of_select x ≤ levels_left

behind-sound : (t : List Lexeme) (d : ℕ) (w : Reader) (n : ℕ) → n + 1 ≡ d → SoundReader t n w → (levels_left a less : ℕ) → less + 1 ≡ levels_left → (left : Tree) (m : ℕ)
    → mark_at t a ≡ marks.OpenBracket → Sound t n less left (a + 1) m → (k : Option PartKind) → part_of (mark_at t m) ≡ k → (x : Selection) (b : ℕ)
    → behind_at t w less a left m k ≡ Ok (x, b) → SoundSelect t d levels_left x a b
unfolding close_bit close_part
behind-sound t d w n low under levels_left a less fewer left m o s None is x b e =
    let k = bind-inv (expect t marks.CloseBracket m) _ _ e in
    let c = expect-inv t marks.CloseBracket m k.0 k.1 in
    from_ok (λ x b. SoundSelect t d levels_left x a b) _ _ _ _ k.2
    record { spelled = (m, o, s.spelled, c.0, c.1, refl); nests = omega (arith, low, s.nests); rises = omega (arith, fewer, s.rises) }
behind-sound t d w n low under levels_left a less fewer left m o s (Some kind) is x b e =
    let j = bind-inv (w less (m + 1)) _ _ e in
    let z = under less (m + 1) j.0.0 j.0.1 j.1 in
    let k = bind-inv (expect t marks.CloseBracket j.0.1) _ _ j.2 in
    let c = expect-inv t marks.CloseBracket j.0.1 k.0 k.1 in
    from_ok (λ x b. SoundSelect t d levels_left x a b) _ _ _ _ k.2
    record { spelled = (m, j.0.1, o, s.spelled, is, z.spelled, c.0, c.1, refl); nests = omega (arith, low, s.nests, z.nests); rises = omega (arith, fewer, s.rises, z.rises) }

pub select-sound : (t : List Lexeme) (d : ℕ) (w : Reader) → ((n : ℕ) → n + 1 ≡ d → SoundReader t n w) → (levels_left a : ℕ) (x : Selection) (b : ℕ)
    → mark_at t a ≡ marks.OpenBracket → select_at t d w levels_left a ≡ Ok (x, b) → SoundSelect t d levels_left x a b
unfolding select_at
select-sound t d w under levels_left a x b o e =
    let i = bind-inv (lower d a) _ _ e in
    let r = bind-inv (lower levels_left a) _ _ i.2 in
    let j = bind-inv (w r.0 (a + 1)) _ _ r.2 in
    let low = lower-inv d a i.0 i.1 in
    let less = lower-inv levels_left a r.0 r.1 in
    let s = under i.0 low r.0 (a + 1) j.0.0 j.0.1 j.1 in
    behind-sound t d w i.0 low (under i.0 low) levels_left a r.0 less j.0.0 j.0.1 o s (part_of (mark_at t j.0.1)) refl x b j.2

-- at most so many selects; where fewer were found, no [ follows
pub record SoundSelects (t : List Lexeme) (d levels_left n : ℕ) (xs : Selections) (a b : ℕ) : Type 0 where
  pub spelled : AreSelects t xs a b
  pub count : how_many xs ≤ n
  pub nests : nesting_of_selects xs ≤ d
  pub rises : levels_of_selects xs ≤ levels_left
  pub stops : how_many xs < n → mark_at t b ≢ marks.OpenBracket

pub not_mark : (m n : Terminal) → same m n ≡ false → m ≢ n
not_mark m n e is = never (sym (same_of m n is) ∙ e)

pub selects-sound : (t : List Lexeme) (d : ℕ) (w : Reader) → ((n : ℕ) → n + 1 ≡ d → SoundReader t n w) → (levels_left n a : ℕ) (xs : Selections) (b : ℕ)
    → selects_at t d w levels_left n a ≡ Ok (xs, b) → SoundSelects t d levels_left n xs a b
unfolding selects_at
selects-sound t d w under levels_left zero a xs b e =
    from_ok (λ xs b. SoundSelects t d levels_left 0 xs a b) _ _ _ _ e record { spelled = refl; count = omega arith; nests = omega arith; rises = omega arith; stops = λ h. absurd (omega (arith, h)) }
selects-sound t d w under levels_left (suc n) a xs b e =
    elim (if-cases (same (mark_at t a) marks.OpenBracket) _ _ _ e) [
      | inr p ↦ from_ok (λ xs b. SoundSelects t d levels_left (suc n) xs a b) _ _ _ _ p.1
          record { spelled = refl; count = omega arith; nests = omega arith; rises = omega arith; stops = λ h. not_mark _ _ p.0 }
      | inl p ↦
          let i = bind-inv (select_at t d w levels_left a) _ _ p.1 in
          let j = bind-inv (selects_at t d w levels_left n i.0.1) _ _ i.2 in
          let s = select-sound t d w under levels_left a i.0.0 i.0.1 (same_true _ _ p.0) i.1 in
          let m = selects-sound t d w under levels_left n i.0.1 j.0.0 j.0.1 j.1 in
          from_ok (λ xs b. SoundSelects t d levels_left (suc n) xs a b) _ _ _ _ j.2 record {
            spelled = (i.0.1, s.spelled, m.spelled);
            count = omega (arith, m.count);
            nests = omega (arith, s.nests, m.nests);
            rises = omega (arith, s.rises, m.rises);
            stops = λ h. m.stops (omega (arith, h));
          }
    ]

name-sound : (t : List Lexeme) (d : ℕ) (w : Reader) → ((n : ℕ) → n + 1 ≡ d → SoundReader t n w) → (levels_left a : ℕ) (x : Tree) (b : ℕ)
    → mark_at t a ≡ marks.Name → name_at t d w levels_left a ≡ Ok (x, b) → SoundOperand t d levels_left x a b
unfolding name_at
name-sound t d w under levels_left a x b o e =
    let i = bind-inv (selects_at t d w levels_left 2 (a + 1)) _ _ e in
    let s = selects-sound t d w under levels_left 2 (a + 1) i.0.0 i.0.1 i.1 in
    from_ok (λ x b. SoundOperand t d levels_left x a b) _ _ _ _ i.2 record {
      sound = record { spelled = (o, refl, s.spelled, s.count, refl); nests = s.nests; rises = s.rises; stops = λ h. s.stops (ltb-true _ _ h) };
      tight = omega arith;
    }

plain-sound : (t : List Lexeme) (d : ℕ) (w : Reader) → ((n : ℕ) → n + 1 ≡ d → SoundReader t n w) → (levels_left a : ℕ) (x : Tree) (b : ℕ)
    → plain_at t d w (mark_at t a) levels_left a ≡ Ok (x, b) → SoundOperand t d levels_left x a b
unfolding plain_at
plain-sound t d w under levels_left a x b e =
    elim (if-cases (same (mark_at t a) marks.Number) _ _ _ e) [
      | inl p ↦ from_ok (λ x b. SoundOperand t d levels_left x a b) _ _ _ _ p.1 record {
        sound = record { spelled = (same_true _ _ p.0, refl, refl, refl); nests = omega arith; rises = omega arith; stops = none_stops };
        tight = omega arith;
      }
      | inr p ↦ elim (if-cases (same (mark_at t a) marks.Name) _ _ _ p.1) [
        | inl q ↦ name-sound t d w under levels_left a x b (same_true _ _ q.0) q.1
        | inr q ↦ elim (if-cases (same (mark_at t a) marks.Open) _ _ _ q.1) [
          | inl r ↦ parens-sound t d w under levels_left a x b (same_true _ _ r.0) r.1
          | inr r ↦ elim (if-cases (same (mark_at t a) marks.OpenBrace) _ _ _ r.1) [
            | inl s ↦ braces-sound t d w under levels_left a x b (same_true _ _ s.0) s.1
            | inr s ↦ bad_good (no_place t a) (x, b) s.1
          ]
        ]
      ]
    ]

called-sound : (t : List Lexeme) (d : ℕ) (w : Reader) → ((n : ℕ) → n + 1 ≡ d → SoundReader t n w) → (levels_left a : ℕ) (x : Tree) (b : ℕ) (f : Option SystemFunction)
    → system_of (mark_at t a) ≡ f → called_at t d w (mark_at t a) f levels_left a ≡ Ok (x, b) → SoundOperand t d levels_left x a b
called-sound t d w under levels_left a x b None is e = plain-sound t d w under levels_left a x b e
called-sound t d w under levels_left a x b (Some f) is e = system-sound t d w under f levels_left a x b is e

signed-sound : (t : List Lexeme) (d : ℕ) (o w : Reader) → ((n : ℕ) → n + 1 ≡ d → SoundOperands t n o) → ((n : ℕ) → n + 1 ≡ d → SoundReader t n w)
    → (levels_left a : ℕ) (x : Tree) (b : ℕ) (u : Option Unary) → unary_of (mark_at t a) ≡ u → signed_at t d o w (mark_at t a) u levels_left a ≡ Ok (x, b) → SoundOperand t d levels_left x a b
signed-sound t d o w opens under levels_left a x b None is e = called-sound t d w under levels_left a x b _ refl e
signed-sound t d o w opens under levels_left a x b (Some u) is e = unary-sound t d o opens u levels_left a x b is e

operand-sound : (t : List Lexeme) (d : ℕ) (o w : Reader) → ((n : ℕ) → n + 1 ≡ d → SoundOperands t n o) → ((n : ℕ) → n + 1 ≡ d → SoundReader t n w)
    → SoundOperands t d (operand_with t d o w)
unfolding operand_with
operand-sound t d o w opens under levels_left a x b e = signed-sound t d o w opens under levels_left a x b _ refl e

-- an expression of operators from `least` on: no such operator follows
pub record SoundClimb (t : List Lexeme) (d levels_left least : ℕ) (x : Tree) (a b : ℕ) : Type 0 where
  pub sound : Sound t d levels_left x a b
  pub tight : least ≤ tightness x
  pub ended : (o : Binary) → binary_of (mark_at t b) ≡ Some o → strength o < least

-- an expression takes at least one token more than it has levels
mutual
  pub forward : (t : List Lexeme) (x : Tree) (a b : ℕ) → IsExpr t x a b → levels x + a < b
  forward t (number s text) a b (m, x, e, z) = omega (arith, e)
  forward t (wild s text) a b h = absurd h
  forward t (name s text selects) a b (m, x, ss, c, z) = let h = forward_selects t selects (a + 1) b ss in omega (arith, h)
  forward t (parens s inner) a b (m, o, i, c, e, z) = let h = forward t inner (a + 1) m i in omega (arith, h, e)
  forward t (concat s parts) a b (m, o, ps, c, e, z) = let h = forward_parts t parts (a + 1) m ps in omega (arith, h, e)
  forward t (repeat s count parts) a b (m, n, o, i, p, ps, c, l, e, z) = let h = forward t count (a + 1) m i in let k = forward_parts t parts (m + 1) n ps in omega (arith, h, k, e)
  forward t (system s f argument) a b (m, o, p, i, c, e, z) = let h = forward t argument (a + 1 + 1) m i in omega (arith, h, e)
  forward t (unary s u operand) a b (o, i, k, z) = let h = forward t operand (a + 1) b i in omega (arith, h)
  forward t (binary s o left right) a b (m, l, k, p, r, q, z) = let h = forward t left a m l in let g = forward t right (m + 1) b r in omega (arith, h, g)
  forward t (conditional s c x y) a b (m, n, i, k, p, j, q, l, z) = let h = forward t c a m i in let g = forward t x (m + 1) n j in let f = forward t y (n + 1) b l in omega (arith, h, g, f)

  forward_parts : (t : List Lexeme) (xs : Trees) (a b : ℕ) → AreParts t xs a b → levels_of_parts xs + a < b
  forward_parts t no_tree a b h = absurd h
  forward_parts t (tree x xs) a b (m, i, js) = let h = forward t x a m i in let g = forward_more t xs m b js in omega (arith, h, g)

  pub forward_more : (t : List Lexeme) (xs : Trees) (a b : ℕ) → AreMore t xs a b → levels_of_parts xs + a ≤ b
  forward_more t no_tree a b e = omega (arith, e)
  forward_more t (tree x xs) a b (m, c, i, js) = let h = forward t x (a + 1) m i in let g = forward_more t xs m b js in omega (arith, h, g)

  forward_select : (t : List Lexeme) (x : Selection) (a b : ℕ) → IsSelect t x a b → levels_of_select x + a < b
  forward_select t (bit s index) a b (m, o, i, c, e, z) = let h = forward t index (a + 1) m i in omega (arith, h, e)
  forward_select t (part s k l r) a b (m, n, o, i, p, j, c, e, z) = let h = forward t l (a + 1) m i in let g = forward t r (m + 1) n j in omega (arith, h, g, e)

  pub forward_selects : (t : List Lexeme) (xs : Selections) (a b : ℕ) → AreSelects t xs a b → levels_of_selects xs + a ≤ b
  forward_selects t no_select a b e = omega (arith, e)
  forward_selects t (select x xs) a b (m, i, js) = let h = forward_select t x a m i in let g = forward_selects t xs m b js in omega (arith, h, g)

pub strength_least : (o : Binary) → 1 ≤ strength o
strength_least ops.Power = lit≤ tt
strength_least ops.Multiply = lit≤ tt
strength_least ops.Divide = lit≤ tt
strength_least ops.Modulus = lit≤ tt
strength_least ops.Add = lit≤ tt
strength_least ops.Subtract = lit≤ tt
strength_least ops.ShiftLeft = lit≤ tt
strength_least ops.ShiftRight = lit≤ tt
strength_least ops.SignedShiftLeft = lit≤ tt
strength_least ops.SignedShiftRight = lit≤ tt
strength_least ops.Less = lit≤ tt
strength_least ops.LessEqual = lit≤ tt
strength_least ops.Greater = lit≤ tt
strength_least ops.GreaterEqual = lit≤ tt
strength_least ops.Equal = lit≤ tt
strength_least ops.NotEqual = lit≤ tt
strength_least ops.And = lit≤ tt
strength_least ops.Xor = lit≤ tt
strength_least ops.Xnor = lit≤ tt
strength_least ops.Or = lit≤ tt
strength_least ops.LogicalAnd = lit≤ tt
strength_least ops.LogicalOr = lit≤ tt

abbrev pub nothing : {A : Type 0} → Option A
nothing = None

pub none_some : {A P : Type 0} (x : A) → nothing ≡ Some x → P
none_some {A} x e = absurd (let h : nothing {A = A} ≡ Some x = e in cc)

-- behind the last token no operator stands
past_operator : (t : List Lexeme) (a : ℕ) → length t ≤ a → (o : Binary) → binary_of (mark_at t a) ≡ Some o → ⊥
past_operator t a past o e = let h = binary_inside t a o e in omega (arith, h, past)

abbrev SoundRight : List Lexeme → ℕ → ℕ → (ℕ → Reader) → Type 0
SoundRight t d least right = (level : ℕ) → level ≤ 12 → least < level → (levels_left a : ℕ) (x : Tree) (b : ℕ) → right level levels_left a ≡ Ok (x, b) → SoundClimb t d levels_left level x a b

abbrev ChainClaim : List Lexeme → ℕ → (ℕ → Reader) → ℕ → ℕ → ℕ → ℕ → Type 0
ChainClaim t d right least levels_left from n = (left : Tree) (a : ℕ)
    → Sound t d levels_left left from a → least ≤ tightness left → ((o : Binary) → binary_of (mark_at t a) ≡ Some o → strength o ≤ tightness left) → length t ≤ n + a
    → (x : Tree) (b : ℕ) → chain t right least levels_left from n left a ≡ Ok (x, b) → SoundClimb t d levels_left least x from b

step-sound : (t : List Lexeme) (d : ℕ) (right : ℕ → Reader) (least : ℕ) → SoundRight t d least right → (levels_left from n : ℕ) → ChainClaim t d right least levels_left from n → (left : Tree) (a : ℕ)
    → Sound t d levels_left left from a → least ≤ tightness left → ((o : Binary) → binary_of (mark_at t a) ≡ Some o → strength o ≤ tightness left) → length t ≤ n + 1 + a
    → (k : Option Binary) → binary_of (mark_at t a) ≡ k
    → (x : Tree) (b : ℕ) → chain_step (chain t right least levels_left from n) t right least levels_left from left a k ≡ Ok (x, b) → SoundClimb t d levels_left least x from b
step-sound t d right least under levels_left from n again left a s tight ends fuel None is x b e =
    from_ok (λ x b. SoundClimb t d levels_left least x from b) _ _ _ _ e record { sound = s; tight = tight; ended = λ o h. none_some o (sym is ∙ h) }
step-sound t d right least under levels_left from n again left a s tight ends fuel (Some op) is x b e =
    elim (if-cases (nat_lt (strength op) least) _ _ _ e) [
      | inl p ↦ from_ok (λ x b. SoundClimb t d levels_left least x from b) _ _ _ _ p.1
          record { sound = s; tight = tight; ended = λ o h. let low : strength op < least = ltb-true _ _ p.0 in let one : op ≡ o = Some-same (sym is ∙ h) in subst (λ q. strength q < least) one low }
      | inr p ↦
          let high : least ≤ strength op = ltb-false _ _ p.0 in
          let i = bind-inv (above levels_left (levels left) a) _ _ p.1 in
          let j = bind-inv (right (strength op + 1) i.0 (a + 1)) _ _ i.2 in
          let up = above-inv levels_left (levels left) a i.0 i.1 in
          let most = strength_most op in
          let r = under (strength op + 1) (omega (arith, most)) (omega (arith, high)) i.0 (a + 1) j.0.0 j.0.1 j.1 in
          let moved = forward t j.0.0 (a + 1) j.0.1 r.sound.spelled in
          let joined : Sound t d levels_left (binary (site t from j.0.1) op left j.0.0) from j.0.1 = record {
            spelled = (a, s.spelled, ends op is, is, r.sound.spelled, (let h = r.tight in omega (arith, h)), refl);
            nests = omega (arith, s.nests, r.sound.nests);
            rises = omega (arith, up.0, up.1, r.sound.rises);
            stops = r.sound.stops;
          } in
          again (binary (site t from j.0.1) op left j.0.0) j.0.1 joined high
          (λ o h. let less = r.ended o h in omega (arith, less)) (omega (arith, fuel, moved)) x b j.2
    ]

chain-sound : (t : List Lexeme) (d : ℕ) (right : ℕ → Reader) (least : ℕ) → SoundRight t d least right → (levels_left from n : ℕ) → ChainClaim t d right least levels_left from n
unfolding chain
chain-sound t d right least under levels_left from zero left a s tight ends fuel x b e =
    from_ok (λ x b. SoundClimb t d levels_left least x from b) _ _ _ _ e
    record { sound = s; tight = tight; ended = λ o h. absurd (past_operator t a (omega (arith, fuel)) o h) }
chain-sound t d right least under levels_left from (suc n) left a s tight ends fuel x b e =
    step-sound t d right least under levels_left from n (chain-sound t d right least under levels_left from n) left a s tight ends (omega (arith, fuel)) (binary_of (mark_at t a)) refl x b e

pub climb-sound : (t : List Lexeme) (d : ℕ) (o : Reader) → SoundOperands t d o → (n least : ℕ) → 12 ≤ n + least → least ≤ 12 → 1 ≤ least
    → (levels_left a : ℕ) (x : Tree) (b : ℕ) → climb t o n least levels_left a ≡ Ok (x, b) → SoundClimb t d levels_left least x a b
unfolding climb
climb-sound t d o under zero least enough most some levels_left a x b e =
    let s = under levels_left a x b e in
    record { sound = s.sound; tight = (let h = s.tight in omega (arith, h, most)); ended = λ op h. let low = strength_most op in omega (arith, enough, low) }
climb-sound t d o under (suc n) least enough most some levels_left a x b e =
    let i = bind-inv (o levels_left a) _ _ e in
    let s = under levels_left a i.0.0 i.0.1 i.1 in
    let tight = s.tight in
    chain-sound t d (climb t o n) least (λ level low high r c y f g. climb-sound t d o under n level (omega (arith, enough, most, high)) low (omega (arith, high)) r c y f g)
    levels_left a (length t) i.0.0 i.0.1 s.sound (omega (arith, tight, most)) (λ op h. let low = strength_most op in omega (arith, low, tight)) (omega arith) x b i.2

pub record SoundWhole (t : List Lexeme) (d levels_left : ℕ) (x : Tree) (a b : ℕ) : Type 0 where
  pub sound : Sound t d levels_left x a b
  pub ends : Ends t x b

no_operator_of : (k : Option Binary) → ((o : Binary) → k ≡ Some o → ⊥) → k ≡ None
no_operator_of None h = refl
no_operator_of (Some o) h = absurd (h o refl)

whole-sound : (t : List Lexeme) (d : ℕ) (o w : Reader) → SoundOperands t d o
    → ((n : ℕ) → n + 1 ≡ d → (levels_left a : ℕ) (x : Tree) (b : ℕ) → w levels_left a ≡ Ok (x, b) → SoundWhole t n levels_left x a b)
    → (levels_left a : ℕ) (x : Tree) (b : ℕ) → whole_with t d o w levels_left a ≡ Ok (x, b) → SoundWhole t d levels_left x a b
unfolding whole_with question_at
whole-sound t d o w opens under levels_left a x b e =
    let i = bind-inv (climb t o 12 1 levels_left a) _ _ e in
    let c = climb-sound t d o opens 12 1 (lit≤ tt) (lit≤ tt) (lit≤ tt) levels_left a i.0.0 i.0.1 i.1 in
    elim (if-cases (same (mark_at t i.0.1) marks.Question) _ _ _ i.2) [
      | inr p ↦ from_ok (λ x b. SoundWhole t d levels_left x a b) _ _ _ _ p.1 record {
        sound = c.sound;
        ends = record {
          no_operator = no_operator_of _ (λ op h. let low = c.ended op h in let some = strength_least op in omega (arith, low, some));
          no_question = not_mark _ _ p.0;
          no_select = c.sound.stops;
        };
      }
      | inl p ↦
          let l = bind-inv (lower d i.0.1) _ _ p.1 in
          let r = bind-inv (above levels_left (levels i.0.0) i.0.1) _ _ l.2 in
          let y = bind-inv (w r.0 (i.0.1 + 1)) _ _ r.2 in
          let k = bind-inv (expect t marks.Colon y.0.1) _ _ y.2 in
          let z = bind-inv (w r.0 k.0) _ _ k.2 in
          let low = lower-inv d i.0.1 l.0 l.1 in
          let up = above-inv levels_left (levels i.0.0) i.0.1 r.0 r.1 in
          let f = under l.0 low r.0 (i.0.1 + 1) y.0.0 y.0.1 y.1 in
          let q = expect-inv t marks.Colon y.0.1 k.0 k.1 in
          let g = under l.0 low r.0 k.0 z.0.0 z.0.1 z.1 in
          let last : IsExpr t z.0.0 (y.0.1 + 1) z.0.1 = subst (λ v. IsExpr t z.0.0 v z.0.1) q.1 g.sound.spelled in
          from_ok (λ x b. SoundWhole t d levels_left x a b) _ _ _ _ z.2 record {
            sound = record {
              spelled = (i.0.1, y.0.1, c.sound.spelled, c.tight, same_true _ _ p.0, f.sound.spelled, q.0, last, refl);
              nests = omega (arith, low, c.sound.nests, f.sound.nests, g.sound.nests);
              rises = omega (arith, up.0, up.1, f.sound.rises, g.sound.rises);
              stops = g.sound.stops;
            };
            ends = record { no_operator = g.ends.no_operator; no_question = g.ends.no_question; no_select = g.ends.no_select };
          }
    ]

pub record SoundReaders (t : List Lexeme) (d : ℕ) : Type 0 where
  pub operands : SoundOperands t d (readers t d).operand
  pub wholes : (levels_left a : ℕ) (x : Tree) (b : ℕ) → (readers t d).whole levels_left a ≡ Ok (x, b) → SoundWhole t d levels_left x a b

-- what reads with so much nesting left is sound where what reads with one less is
sound_step : (t : List Lexeme) (d : ℕ) → ((n : ℕ) → n + 1 ≡ d → SoundReaders t n) → SoundReaders t d
sound_step t d under =
    let opens : (n : ℕ) → n + 1 ≡ d → SoundOperands t n (below t d).operand =
    λ n e. subst (λ (r : Readers). SoundOperands t n r.operand) (sym (below_less t d n e)) (under n e).operands in
    let wholes : (n : ℕ) → n + 1 ≡ d → (levels_left a : ℕ) (x : Tree) (b : ℕ) → (below t d).whole levels_left a ≡ Ok (x, b) → SoundWhole t n levels_left x a b =
    λ n e. subst (λ (r : Readers). (levels_left a : ℕ) (x : Tree) (b : ℕ) → r.whole levels_left a ≡ Ok (x, b) → SoundWhole t n levels_left x a b) (sym (below_less t d n e)) (under n e).wholes in
    let here : SoundOperands t d (readers t d).operand =
    λ levels_left a x b e. operand-sound t d (below t d).operand (below t d).whole opens (λ n h r c y f g. (wholes n h r c y f g).sound) levels_left a x b (sym (operand_over t d levels_left a) ∙ e) in
    record { operands = here; wholes = λ levels_left a x b e. whole-sound t d (readers t d).operand (below t d).whole here wholes levels_left a x b (sym (whole_over t d levels_left a) ∙ e) }

pub sound_readers : (t : List Lexeme) (d : ℕ) → SoundReaders t d
sound_readers t zero = sound_step t zero (λ n e. absurd (omega (arith, e)))
sound_readers t (suc d) = sound_step t (suc d) (λ n e. let same : d ≡ n = omega (arith, e) in subst (SoundReaders t) same (sound_readers t d))
