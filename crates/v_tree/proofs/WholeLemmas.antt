-- Expressions of their own: what reading finds is one, each one is found, and where reading refuses there is none.
use Rattle.std.proofs.Common.{◌≡◌, ◌≢◌, ℕ, ◌+◌, ◌<◌, ◌≤◌, inl, inr, Bool, true, false, if◌then◌else◌, List, length, Some, None, Option, Ok, Err, sym, ap, ◌∙◌, subst, refl, arith, lit≤}
use Rattle.loc_base.proofs.ShelfBools.{if-cases}
use Rattle.v_lexer.specs.Lexeme.{Lexeme}
use Rattle.v_syntax.specs.declared.site.Site.{Site}
use Rattle.v_lexer.specs.declared.types.terminal.Terminal.TheVariants as marks
use Rattle.v_tree.specs.declared.fault.Fault.{Fault}
use Rattle.v_tree.specs.declared.fault.Fault.TheVariants.{Unsupported}
use Rattle.v_syntax.specs.declared.operator.Binary.{Binary}
use Rattle.v_tree.specs.Marks.{mark_at, same}
use Rattle.v_tree.specs.Sites.{site, text_at}
use Rattle.v_tree.specs.Operators.{unary_of, binary_of, system_of}
use Rattle.v_syntax.specs.Tree.{Tree, number, wild, name, parens, concat, repeat, system, unary, binary, conditional}
use Rattle.v_tree.specs.Expressions.{IsExpr, IsWild, Ends, IsWhole}
use Rattle.v_tree.specs.Faults.{Begins, told_by}
use Rattle.v_tree.specs.Answers.{Refuses}
use Rattle.v_tree.specs.Reading.{Read, readers, wild_at, whole_expression}
use Rattle.v_tree.proofs.MarkLemmas.{same_true, same_of}
use Rattle.v_tree.proofs.BindLemmas.{good, bad, bad_good, from_ok, true_false}
use Rattle.v_tree.proofs.SoundLemmas.{none_some, none_stops, not_mark, sound_readers}
use Rattle.v_tree.proofs.CompleteLemmas.{complete, then_of, else_of, is_false, finish}
use Rattle.v_tree.proofs.SteadyLemmas.{Steady, Fair, mark_kept, text_kept, site_kept, st_look, st_if, not_by, within_by, steady_readers}

wild_sound : (t : List Lexeme) (d a : ℕ) → mark_at t a ≡ marks.Wild → (q : Option Binary) → binary_of (mark_at t (a + 1)) ≡ q → (x : Tree) (b : ℕ) → wild_at t a q ≡ Ok (x, b) → IsWhole t d x a b
wild_sound t d a is (Some o) next x b e = bad_good (Unsupported a) (x, b) e
wild_sound t d a is None next x b e =
    elim (if-cases (same (mark_at t (a + 1)) marks.Question) _ _ _ e) [
      | inl p ↦ bad_good (Unsupported a) (x, b) p.1
      | inr p ↦ from_ok (λ x b. IsWhole t d x a b) _ _ _ _ p.1 record {
        spelled = inr (is, refl, refl, refl);
        ends = record { no_operator = next; no_question = not_mark _ _ p.0; no_select = none_stops };
        within = record { nests = omega arith; rises = lit≤ tt };
      }
    ]

pub whole_sound : (t : List Lexeme) (d a : ℕ) (x : Tree) (b : ℕ) → whole_expression t d a ≡ Ok (x, b) → IsWhole t d x a b
unfolding whole_expression
whole_sound t d a x b e =
    elim (if-cases (same (mark_at t a) marks.Wild) _ _ _ e) [
      | inl p ↦ wild_sound t d a (same_true _ _ p.0) (binary_of (mark_at t (a + 1))) refl x b p.1
      | inr p ↦
          let s = (sound_readers t d).wholes 4096 a x b p.1 in
          record { spelled = inl s.sound.spelled; ends = s.ends; within = record { nests = s.sound.nests; rises = s.sound.rises } }
    ]

-- no expression begins with a number with wildcard digits
pub begins_plain : (t : List Lexeme) (e : Tree) (a b : ℕ) → IsExpr t e a b → mark_at t a ≢ marks.Wild
begins_plain t (number s text) a b (m, x, e, z) h = not_by marks.Number marks.Wild refl (sym m ∙ h)
begins_plain t (wild s text) a b h is = absurd h
begins_plain t (name s text selects) a b (m, x, ss, c, z) h = not_by marks.Name marks.Wild refl (sym m ∙ h)
begins_plain t (parens s inner) a b (m, o, i, c, e, z) h = not_by marks.Open marks.Wild refl (sym o ∙ h)
begins_plain t (concat s parts) a b (m, o, ps, c, e, z) h = not_by marks.OpenBrace marks.Wild refl (sym o ∙ h)
begins_plain t (repeat s count parts) a b (m, n, o, i, p, ps, c, l, e, z) h = not_by marks.OpenBrace marks.Wild refl (sym o ∙ h)
begins_plain t (system s f argument) a b (m, o, p, i, c, e, z) h = none_some f (sym (ap system_of h) ∙ o)
begins_plain t (unary s u operand) a b (o, i, k, z) h = none_some u (sym (ap unary_of h) ∙ o)
begins_plain t (binary s o left right) a b (m, l, k, p, r, q, z) h = begins_plain t left a m l h
begins_plain t (conditional s c x y) a b (m, n, i, k, p, j, q, l, z) h = begins_plain t c a m i h

wild_reads : (t : List Lexeme) (s : Site) (text : List ℕ) (d a b : ℕ) → IsWild t (wild s text) a b → Ends t (wild s text) b → whole_expression t d a ≡ Ok (wild s text, b)
unfolding whole_expression
wild_reads t s text d a b (m, x, e, z) ends =
    let next : binary_of (mark_at t (a + 1)) ≡ None = sym (ap (λ v. binary_of (mark_at t v)) e) ∙ ends.no_operator in
    let plain : same (mark_at t (a + 1)) marks.Question ≡ false = is_false _ (λ h. ends.no_question (ap (mark_at t) e ∙ same_true _ _ h)) in
    then_of _ _ _ _ (same_of _ _ m) (ap (wild_at t a) next
    ∙ else_of _ _ _ _ plain (ap (λ q. good {A = Tree × ℕ} (wild (site t a (a + 1)) q, a + 1)) (sym x) ∙ finish (λ q. wild q text) t a b (a + 1) s e z))

wild_whole : (t : List Lexeme) (d : ℕ) (e : Tree) (a b : ℕ) → IsWild t e a b → Ends t e b → whole_expression t d a ≡ Ok (e, b)
wild_whole t d (wild s text) a b is ends = wild_reads t s text d a b is ends
wild_whole t d _ a b is ends = absurd is

pub whole_complete : (t : List Lexeme) (d a : ℕ) (e : Tree) (b : ℕ) → IsWhole t d e a b → whole_expression t d a ≡ Ok (e, b)
unfolding whole_expression
whole_complete t d a e b is =
    elim is.spelled [
      | inl s ↦ else_of _ _ _ _ (is_false _ (λ h. begins_plain t e a b s (same_true _ _ h))) ((complete t e).wholes d 4096 a b s is.within.nests is.within.rises is.ends)
      | inr w ↦ wild_whole t d e a b w is.ends
    ]

told_wild : (t : List Lexeme) (a : ℕ) → mark_at t a ≡ marks.Wild → told_by t a ≡ a + 1
told_wild t a is = then_of _ _ _ _ (same_of _ _ is) refl

pub wild_fair : (t : List Lexeme) (base a : ℕ) → mark_at t a ≡ marks.Wild → Fair t base (Unsupported a)
wild_fair t base a is = record { refused = λ _. refl; deep = λ h. absurd (true_false (sym h)) }

pub wild_bad : (base : ℕ) (t u : List Lexeme) (a : ℕ) (p : Read Tree) → a < length t → mark_at t a ≡ marks.Wild → (Begins t u (a + 1) → p ≡ bad (Unsupported a)) → Steady base t u a (bad (Unsupported a)) p
wild_bad base t u a p h is k = record { ahead = (omega arith, omega (arith, h), wild_fair t base a is); same_read = λ b. k (subst (Begins t u) (told_wild t a is) b) }

wild_case : (base : ℕ) (t u : List Lexeme) (a : ℕ) → a < length t → mark_at t a ≡ marks.Wild → (q : Option Binary) → binary_of (mark_at t (a + 1)) ≡ q → (c : Bool) → same (mark_at t (a + 1)) marks.Question ≡ c
    → Steady base t u a (wild_at t a q) (wild_at u a (binary_of (mark_at u (a + 1))))
wild_case base t u a h is (Some o) next c e = wild_bad base t u a _ h is (λ b. ap (wild_at u a) (ap binary_of (mark_kept t u (a + 1) (a + 1) b (omega arith)) ∙ next))
wild_case base t u a h is None next true e =
    let mine : wild_at t a None ≡ bad (Unsupported a) = then_of _ _ _ _ e refl in
    rw mine (wild_bad base t u a _ h is (λ b.
    let kept = mark_kept t u (a + 1) (a + 1) b (omega arith) in
    ap (wild_at u a) (ap binary_of kept ∙ next) ∙ then_of _ _ _ _ (ap (λ m. same m marks.Question) kept ∙ e) refl))
wild_case base t u a h is None next false e =
    let mine : wild_at t a None ≡ good (wild (site t a (a + 1)) (text_at t a), a + 1) = else_of _ _ _ _ e refl in
    rw mine record {
      ahead = (omega arith, omega (arith, h));
      same_read = λ b.
          let kept = mark_kept t u (a + 1) (a + 1) b (omega arith) in
          ap (wild_at u a) (ap binary_of kept ∙ next) ∙ else_of _ _ _ _ (ap (λ m. same m marks.Question) kept ∙ e)
          (ap (λ s. good {A = Tree × ℕ} (wild s (text_at u a), a + 1)) (site_kept t u (a + 1) a (a + 1) b (omega arith) (omega arith))
          ∙ ap (λ v. good {A = Tree × ℕ} (wild (site t a (a + 1)) v, a + 1)) (text_kept t u (a + 1) a b (omega arith)));
    }

pub st_whole_expression : (base : ℕ) (t u : List Lexeme) (d a : ℕ) → a ≤ length t → base + 256 ≤ a + d → base ≤ a → Steady base t u a (whole_expression t d a) (whole_expression u d a)
unfolding whole_expression
st_whole_expression base t u d a h deep far =
    st_look base t u a (λ k. if same k marks.Wild then wild_at t a (binary_of (mark_at t (a + 1))) else (readers t d).whole 4096 a)
    (λ k. if same k marks.Wild then wild_at u a (binary_of (mark_at u (a + 1))) else (readers u d).whole 4096 a) (λ k is.
    st_if base t u a (same k marks.Wild) _ _ _ _
    (λ hit. wild_case base t u a (within_by t a k marks.Wild is hit refl) (is ∙ same_true _ _ hit) (binary_of (mark_at t (a + 1))) refl (same (mark_at t (a + 1)) marks.Question) refl)
    (λ miss. (steady_readers base t u d).wholes 4096 a h deep (omega (arith, far))))

pub whole_refuses : (t : List Lexeme) (d a : ℕ) (f : Fault) → a ≤ length t → 256 ≤ d → whole_expression t d a ≡ Err f → Refuses t d a f
whole_refuses t d a f h deep e =
    let steady = λ (u : List Lexeme). let s : Steady a t u a (bad {A = Tree × ℕ} f) (whole_expression u d a) = subst (λ (o : Read Tree). Steady a t u a o (whole_expression u d a)) e (st_whole_expression a t u d a h (omega (arith, deep)) (omega arith)) in s in
    let here = (steady t).ahead in
    record {
      after = here.0;
      inside = here.1;
      no_tree = λ others b x c is. bad_good f (x, c) (sym ((steady others).same_read b) ∙ whole_complete others d a x c is);
      refused = here.2.refused;
      deep = here.2.deep;
    }
