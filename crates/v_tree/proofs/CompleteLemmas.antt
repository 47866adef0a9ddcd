-- Each expression of the tokens is found by reading.
use Rattle.std.proofs.Common.{◌≡◌, ◌≢◌, ℕ, zero, suc, ◌+◌, ◌-◌, ◌<◌, ◌≤◌, Bool, true, false, if◌then◌else◌, List, length, Some, None, Option, Ok, Result, sym, ap, ◌∙◌, subst, refl, arith, nat_lt, le-ltb, lt-ltb, ne_eqb, ◌==◌, lit≤}
use Rattle.loc_base.proofs.ShelfOptions.{Some-same}
use Rattle.v_lexer.specs.Lexeme.{Lexeme}
use Rattle.v_syntax.specs.declared.site.Site.{Site}
use Rattle.v_lexer.specs.declared.types.terminal.Terminal.{Terminal}
use Rattle.v_lexer.specs.declared.types.terminal.Terminal.TheVariants as marks
use Rattle.v_tree.specs.declared.fault.Fault.{Fault}
use Rattle.v_syntax.specs.declared.operator.Unary.{Unary}
use Rattle.v_syntax.specs.declared.operator.Binary.{Binary}
use Rattle.v_syntax.specs.declared.operator.SystemFunction.{SystemFunction}
use Rattle.v_syntax.specs.declared.expression.PartKind.{PartKind}
use Rattle.v_tree.specs.Marks.{mark_at, same}
use Rattle.v_tree.specs.Sites.{site}
use Rattle.v_tree.specs.Operators.{unary_of, binary_of, strength, system_of, part_of}
use Rattle.v_syntax.specs.Tree.{Tree, number, wild, name, parens, concat, repeat, system, unary, binary, conditional, Trees, no_tree, tree, Selection, bit, part, Selections, no_select, select}
use Rattle.v_tree.specs.Depth.{nesting, levels, nesting_of_parts, levels_of_parts, nesting_of_select, levels_of_select, nesting_of_selects, levels_of_selects}
use Rattle.v_tree.specs.Expressions.{Ends, tightness, how_many, takes_select, IsExpr, AreMore, IsSelect, AreSelects}
use Rattle.v_tree.specs.Reading.{Reader, Readers, readers, below, operand_with, signed_at, called_at, plain_at, whole_with, ◌>>=◌, lower, above, expect, chain, chain_step, climb, more_parts, parts_from, selects_at, select_at, behind_at, close_bit, close_part, name_at, parens_at, close_parens, braces_at, repeat_at, concat_at, close_repeat, close_concat, system_at, close_system, unary_at, question_at}
use Rattle.v_tree.proofs.MarkLemmas.{same_true, same_of}
use Rattle.v_tree.proofs.BindLemmas.{good, expect-of}
use Rattle.v_tree.proofs.PlaceLemmas.{binary_inside, marked_inside}
use Rattle.v_tree.proofs.StepLemmas.{whole_over, operand_over, below_less, strength_most, climb_more, climb_same, chain_more}
use Rattle.v_tree.proofs.SoundLemmas.{none_some, forward, strength_least, never}

pub step : {A B : Type 0} (r : Result A Fault) (x : A) (f : A → Result B Fault) (y : Result B Fault) → r ≡ good x → f x ≡ y → (r >>= f) ≡ y
step r x f y e h = ap (λ q. q >>= f) e ∙ h

pub lower-of : (d a : ℕ) → d ≢ 0 → lower d a ≡ Ok (d - 1)
lower-of d a h = let no : (d == 0) ≡ false = ne_eqb d 0 h in rw no refl

above-of : (levels_left used a : ℕ) → used < levels_left → above levels_left used a ≡ Ok (levels_left - 1)
above-of levels_left used a h = let yes : nat_lt used levels_left ≡ true = lt-ltb _ _ h in rw yes refl

pub then_of : {A : Type 0} (b : Bool) (x y z : A) → b ≡ true → x ≡ z → (if b then x else y) ≡ z
then_of true x y z e h = h
then_of false x y z e h = never (sym e)

pub else_of : {A : Type 0} (b : Bool) (x y z : A) → b ≡ false → y ≡ z → (if b then x else y) ≡ z
else_of true x y z e h = never e
else_of false x y z e h = h

pub is_false : (b : Bool) → (b ≡ true → ⊥) → b ≡ false
is_false true h = absurd (h refl)
is_false false h = refl

pub apart_of : (m n : Terminal) → m ≢ n → same m n ≡ false
apart_of m n h = is_false (same m n) (λ e. h (same_true m n e))

pub finish : {A : Type 0} (node : Site → A) (t : List Lexeme) (a b c : ℕ) (s : Site) → b ≡ c → s ≡ site t a b → good {A = A × ℕ} (node (site t a c), c) ≡ good {A = A × ℕ} (node s, b)
finish {A} node t a b c s e h =
    let one : good {A = A × ℕ} (node (site t a c), c) ≡ good {A = A × ℕ} (node (site t a b), b) = ap (λ q. good {A = A × ℕ} (node (site t a q), q)) (sym e) in
    let two : good {A = A × ℕ} (node (site t a b), b) ≡ good {A = A × ℕ} (node s, b) = ap (λ z. good {A = A × ℕ} (node z, b)) (sym h) in
    one ∙ two

-- a mark at which an expression ends
pub ends_by : (t : List Lexeme) (e : Tree) (b : ℕ) (m : Terminal) → mark_at t b ≡ m → binary_of m ≡ None → same m marks.Question ≡ false → same m marks.OpenBracket ≡ false → Ends t e b
ends_by t e b m is op question bracket = record {
  no_operator = ap binary_of is ∙ op;
  no_question = λ h. never (sym (same_of m marks.Question (sym is ∙ h)) ∙ question);
  no_select = λ _ h. never (sym (same_of m marks.OpenBracket (sym is ∙ h)) ∙ bracket);
}

part_ends : (m : Terminal) (k : PartKind) → part_of m ≡ Some k → (binary_of m ≡ None) × (same m marks.Question ≡ false) × (same m marks.OpenBracket ≡ false)
part_ends marks.Colon k e = (refl, refl, refl)
part_ends marks.PlusColon k e = (refl, refl, refl)
part_ends marks.MinusColon k e = (refl, refl, refl)
part_ends _ k e = none_some k e

system_unary : (m : Terminal) (f : SystemFunction) → system_of m ≡ Some f → unary_of m ≡ None
system_unary marks.SystemSigned f e = refl
system_unary marks.SystemUnsigned f e = refl
system_unary marks.SystemClog2 f e = refl
system_unary _ f e = none_some f e

-- the last name takes no more selects
abbrev Done : List Lexeme → Tree → ℕ → Type 0
Done t e b = takes_select e ≡ true → mark_at t b ≢ marks.OpenBracket

-- operators that follow bind no tighter
abbrev Looser : List Lexeme → ℕ → ℕ → Type 0
Looser t least b = (o : Binary) → binary_of (mark_at t b) ≡ Some o → strength o ≤ least

pub record Chained (t : List Lexeme) (d levels_left least : ℕ) (e : Tree) (a b : ℕ) : Type 0 where
  pub left : ℕ
  pub enough : length t ≤ left + b
  pub reads : climb t (readers t d).operand 12 least levels_left a ≡ chain t (climb t (readers t d).operand 11) least levels_left a left e b

pub record Complete (t : List Lexeme) (e : Tree) : Type 0 where
  pub operands : (d levels_left a b : ℕ) → 12 ≤ tightness e → IsExpr t e a b → nesting e ≤ d → levels e ≤ levels_left → Done t e b → (readers t d).operand levels_left a ≡ Ok (e, b)
  pub climbs : (d levels_left least a b : ℕ) → least ≤ tightness e → 1 ≤ least → IsExpr t e a b → nesting e ≤ d → levels e ≤ levels_left → Done t e b → Looser t (tightness e) b
      → Chained t d levels_left least e a b
  pub wholes : (d levels_left a b : ℕ) → IsExpr t e a b → nesting e ≤ d → levels e ≤ levels_left → Ends t e b → (readers t d).whole levels_left a ≡ Ok (e, b)

stop_at : (t : List Lexeme) (right : ℕ → Reader) (least levels_left from n : ℕ) (e : Tree) (b : ℕ) (k : Option Binary) → ((o : Binary) → k ≡ Some o → strength o < least)
    → chain_step (chain t right least levels_left from n) t right least levels_left from e b k ≡ Ok (e, b)
stop_at t right least levels_left from n e b None h = refl
stop_at t right least levels_left from n e b (Some o) h = then_of _ _ _ _ (lt-ltb _ _ (h o refl)) refl

pub chain-stops : (t : List Lexeme) (right : ℕ → Reader) (least levels_left from n : ℕ) (e : Tree) (b : ℕ) → ((o : Binary) → binary_of (mark_at t b) ≡ Some o → strength o < least)
    → chain t right least levels_left from n e b ≡ Ok (e, b)
unfolding chain
chain-stops t right least levels_left from zero e b h = refl
chain-stops t right least levels_left from (suc n) e b h = stop_at t right least levels_left from n e b (binary_of (mark_at t b)) h

-- an operand is what a chain begins with
operand_climbs : (t : List Lexeme) (e : Tree) (d levels_left least a b : ℕ) → (readers t d).operand levels_left a ≡ Ok (e, b) → Chained t d levels_left least e a b
operand_climbs t e d levels_left least a b is = record {
  left = length t;
  enough = omega arith;
  reads = climb_more t (readers t d).operand 11 least levels_left a ∙ step ((readers t d).operand levels_left a) (e, b) _ _ is refl;
}

-- where no operator follows, the chain is the whole
climb_wholes : (t : List Lexeme) (e : Tree) (d levels_left a b : ℕ) → Chained t d levels_left 1 e a b → Ends t e b → (readers t d).whole levels_left a ≡ Ok (e, b)
unfolding whole_with
climb_wholes t e d levels_left a b c ends =
    let over = chain-stops t (climb t (readers t d).operand 11) 1 levels_left a c.left e b (λ o h. none_some o (sym ends.no_operator ∙ h)) in
    whole_over t d levels_left a ∙ step (climb t (readers t d).operand 12 1 levels_left a) (e, b) _ _ (c.reads ∙ over) (else_of _ _ _ _ (apart_of _ _ ends.no_question) refl)

-- what binds as an operand does is complete where its operands are
by_operand : (t : List Lexeme) (e : Tree) → tightness e ≡ 12
    → ((d levels_left a b : ℕ) → IsExpr t e a b → nesting e ≤ d → levels e ≤ levels_left → Done t e b → (readers t d).operand levels_left a ≡ Ok (e, b)) → Complete t e
by_operand t e is reads = record {
  operands = λ d levels_left a b tight s n l done. reads d levels_left a b s n l done;
  climbs = λ d levels_left least a b tight some s n l done loose. operand_climbs t e d levels_left least a b (reads d levels_left a b s n l done);
  wholes = λ d levels_left a b s n l ends. climb_wholes t e d levels_left a b (operand_climbs t e d levels_left 1 a b (reads d levels_left a b s n l ends.no_select)) ends;
}

comma_brace : marks.Comma ≡ marks.CloseBrace → ⊥
comma_brace e = let h : marks.Comma ≡ marks.CloseBrace = e in cc

comma_nothing : marks.Comma ≡ marks.Nothing → ⊥
comma_nothing e = let h : marks.Comma ≡ marks.Nothing = e in cc

question_bracket : marks.Question ≡ marks.OpenBracket → ⊥
question_bracket e = let h : marks.Question ≡ marks.OpenBracket = e in cc

brace_brace : marks.CloseBrace ≡ marks.OpenBrace → ⊥
brace_brace e = let h : marks.CloseBrace ≡ marks.OpenBrace = e in cc

comma_open : marks.Comma ≡ marks.OpenBrace → ⊥
comma_open e = let h : marks.Comma ≡ marks.OpenBrace = e in cc

next_not_brace : (t : List Lexeme) (xs : Trees) (m b : ℕ) → AreMore t xs m b → mark_at t b ≡ marks.CloseBrace → mark_at t m ≢ marks.OpenBrace
next_not_brace t no_tree m b e c h = brace_brace (sym c ∙ ap (mark_at t) e ∙ h)
next_not_brace t (tree y ys) m b (n, k, i, js) c h = comma_open (sym k ∙ h)

not_less : (a b : ℕ) → b ≤ a → nat_lt a b ≡ false
not_less a b h = le-ltb a b h

-- the reader within, where there are levels left
within : (t : List Lexeme) (d levels_left a : ℕ) → d ≢ 0 → (below t d).whole levels_left a ≡ (readers t (d - 1)).whole levels_left a
within t d levels_left a h = ap (λ (r : Readers). r.whole levels_left a) (below_less t d (d - 1) (omega (arith, h)))

within_operand : (t : List Lexeme) (d levels_left a : ℕ) → d ≢ 0 → (below t d).operand levels_left a ≡ (readers t (d - 1)).operand levels_left a
within_operand t d levels_left a h = ap (λ (r : Readers). r.operand levels_left a) (below_less t d (d - 1) (omega (arith, h)))

at_mark : (t : List Lexeme) (d : ℕ) (o w : Reader) (levels_left a : ℕ) (m : Terminal) → mark_at t a ≡ m → operand_with t d o w levels_left a ≡ signed_at t d o w m (unary_of m) levels_left a
unfolding operand_with
at_mark t d o w levels_left a m e = ap (λ n. signed_at t d o w n (unary_of n) levels_left a) e

number_reads : (t : List Lexeme) (s : Site) (text : List ℕ) (d levels_left a b : ℕ) → IsExpr t (number s text) a b → (readers t d).operand levels_left a ≡ Ok (number s text, b)
unfolding plain_at
number_reads t s text d levels_left a b (m, x, e, z) =
    operand_over t d levels_left a ∙ at_mark t d _ _ levels_left a marks.Number m ∙ ap (λ q. good {A = Tree × ℕ} (number (site t a (a + 1)) q, a + 1)) (sym x) ∙ finish (λ q. number q text) t a b (a + 1) s e z

parens_reads : (t : List Lexeme) (s : Site) (inner : Tree) → Complete t inner → (d levels_left a b : ℕ) → IsExpr t (parens s inner) a b → nesting inner + 1 ≤ d → levels inner ≤ levels_left
    → (readers t d).operand levels_left a ≡ Ok (parens s inner, b)
unfolding plain_at parens_at close_parens
parens_reads t s inner ih d levels_left a b (m, o, i, c, e, z) n l =
    let some : d ≢ 0 = omega (arith, n) in
    let ends = ends_by t inner m marks.Close c refl refl refl in
    let read = within t d levels_left (a + 1) some ∙ ih.wholes (d - 1) levels_left (a + 1) m i (omega (arith, n)) l ends in
    operand_over t d levels_left a ∙ at_mark t d _ _ levels_left a marks.Open o
    ∙ step (lower d a) (d - 1) _ _ (lower-of d a some) (step ((below t d).whole levels_left (a + 1)) (inner, m) _ _ read (step (expect t marks.Close m) (m + 1) _ _ (expect-of t marks.Close m c) (finish (λ q. parens q inner) t a b (m + 1) s e z)))

system_reads : (t : List Lexeme) (s : Site) (f : SystemFunction) (inner : Tree) → Complete t inner → (d levels_left a b : ℕ) → IsExpr t (system s f inner) a b → nesting inner + 1 ≤ d → levels inner + 1 ≤ levels_left
    → (readers t d).operand levels_left a ≡ Ok (system s f inner, b)
unfolding operand_with system_at close_system
system_reads t s f inner ih d levels_left a b (m, o, p, i, c, e, z) n l =
    let some : d ≢ 0 = omega (arith, n) in
    let much : levels_left ≢ 0 = omega (arith, l) in
    let ends = ends_by t inner m marks.Close c refl refl refl in
    let read = within t d (levels_left - 1) (a + 1 + 1) some ∙ ih.wholes (d - 1) (levels_left - 1) (a + 1 + 1) m i (omega (arith, n)) (omega (arith, l)) ends in
    operand_over t d levels_left a
    ∙ ap (λ k. signed_at t d (below t d).operand (below t d).whole (mark_at t a) k levels_left a) (system_unary _ f o)
    ∙ ap (λ k. called_at t d (below t d).whole (mark_at t a) k levels_left a) o
    ∙ step (lower d a) (d - 1) _ _ (lower-of d a some) (step (lower levels_left a) (levels_left - 1) _ _ (lower-of levels_left a much) (step (expect t marks.Open (a + 1)) (a + 1 + 1) _ _ (expect-of t marks.Open (a + 1) p)
    (step ((below t d).whole (levels_left - 1) (a + 1 + 1)) (inner, m) _ _ read (step (expect t marks.Close m) (m + 1) _ _ (expect-of t marks.Close m c) (finish (λ q. system q f inner) t a b (m + 1) s e z)))))

unary_reads : (t : List Lexeme) (s : Site) (u : Unary) (inner : Tree) → Complete t inner → (d levels_left a b : ℕ) → IsExpr t (unary s u inner) a b → nesting inner + 1 ≤ d → levels inner + 1 ≤ levels_left
    → Done t inner b → (readers t d).operand levels_left a ≡ Ok (unary s u inner, b)
unfolding operand_with unary_at
unary_reads t s u inner ih d levels_left a b (o, i, k, z) n l done =
    let some : d ≢ 0 = omega (arith, n) in
    let much : levels_left ≢ 0 = omega (arith, l) in
    let read = within_operand t d (levels_left - 1) (a + 1) some ∙ ih.operands (d - 1) (levels_left - 1) (a + 1) b k i (omega (arith, n)) (omega (arith, l)) done in
    operand_over t d levels_left a
    ∙ ap (λ k. signed_at t d (below t d).operand (below t d).whole (mark_at t a) k levels_left a) o
    ∙ step (lower d a) (d - 1) _ _ (lower-of d a some) (step (lower levels_left a) (levels_left - 1) _ _ (lower-of levels_left a much)
    (step ((below t d).operand (levels_left - 1) (a + 1)) (inner, b) _ _ read (finish (λ q. unary q u inner) t a b b s refl z)))

abbrev CompleteMore : List Lexeme → Trees → Type 0
CompleteMore t xs = (d levels_left n a b : ℕ) → AreMore t xs a b → nesting_of_parts xs ≤ d → levels_of_parts xs ≤ levels_left → length t ≤ n + a → mark_at t b ≡ marks.CloseBrace
    → more_parts t (readers t d).whole levels_left n a ≡ Ok (xs, b)

none_more : (t : List Lexeme) → CompleteMore t no_tree
unfolding more_parts
none_more t d levels_left zero a b e k l fuel c = ap (λ q. good {A = Trees × ℕ} (no_tree, q)) (sym e)
none_more t d levels_left (suc n) a b e k l fuel c =
    let here : same (mark_at t a) marks.Comma ≡ false = apart_of _ _ (λ h. comma_brace (sym h ∙ ap (mark_at t) (sym e) ∙ c)) in
    else_of _ _ _ _ here (ap (λ q. good {A = Trees × ℕ} (no_tree, q)) (sym e))

-- what follows an expression of a list
next_ends : (t : List Lexeme) (x : Tree) (xs : Trees) (m b : ℕ) → AreMore t xs m b → mark_at t b ≡ marks.CloseBrace → Ends t x m
next_ends t x no_tree m b e c = ends_by t x m marks.CloseBrace (ap (mark_at t) (sym e) ∙ c) refl refl refl
next_ends t x (tree y ys) m b (n, k, i, js) c = ends_by t x m marks.Comma k refl refl refl

one_more : (t : List Lexeme) (x : Tree) (xs : Trees) → Complete t x → CompleteMore t xs → CompleteMore t (tree x xs)
unfolding more_parts
one_more t x xs ih more d levels_left zero a b (m, k, i, js) n l fuel c =
    absurd (let h = marked_inside t a (λ gone. comma_nothing (sym k ∙ gone)) in omega (arith, h, fuel))
one_more t x xs ih more d levels_left (suc f) a b (m, k, i, js) n l fuel c =
    let moved = forward t x (a + 1) m i in
    let read = ih.wholes d levels_left (a + 1) m i (omega (arith, n)) (omega (arith, l)) (next_ends t x xs m b js c) in
    then_of _ _ _ _ (same_of _ _ k) (step ((readers t d).whole levels_left (a + 1)) (x, m) _ _ read
    (step (more_parts t (readers t d).whole levels_left f m) (xs, b) _ _ (more d levels_left f m b js (omega (arith, n)) (omega (arith, l)) (omega (arith, fuel, moved)) c) refl))

parts_read : (t : List Lexeme) (x : Tree) (xs : Trees) → CompleteMore t xs → (d levels_left m b : ℕ) → AreMore t xs m b → nesting_of_parts xs ≤ d → levels_of_parts xs ≤ levels_left
    → mark_at t b ≡ marks.CloseBrace → parts_from t (readers t d).whole levels_left x m ≡ Ok (tree x xs, b)
unfolding parts_from
parts_read t x xs more d levels_left m b js n l c = step (more_parts t (readers t d).whole levels_left (length t) m) (xs, b) _ _ (more d levels_left (length t) m b js n l (omega arith) c) refl

concat_reads : (t : List Lexeme) (s : Site) (x : Tree) (xs : Trees) → Complete t x → CompleteMore t xs → (d levels_left a b : ℕ) → IsExpr t (concat s (tree x xs)) a b
    → nesting (concat s (tree x xs)) ≤ d → levels (concat s (tree x xs)) ≤ levels_left → (readers t d).operand levels_left a ≡ Ok (concat s (tree x xs), b)
unfolding plain_at braces_at concat_at close_concat
concat_reads t s x xs ih more d levels_left a b (m, o, (k, i, js), c, e, z) n l =
    let some : d ≢ 0 = omega (arith, n) in
    let much : levels_left ≢ 0 = omega (arith, l) in
    let w = (below t d).whole in
    let ends = next_ends t x xs k m js c in
    let read = within t d (levels_left - 1) (a + 1) some ∙ ih.wholes (d - 1) (levels_left - 1) (a + 1) k i (omega (arith, n)) (omega (arith, l)) ends in
    let same_reader : w ≡ (readers t (d - 1)).whole = ap (λ (r : Readers). r.whole) (below_less t d (d - 1) (omega (arith, some))) in
    let parts : parts_from t w (levels_left - 1) x k ≡ Ok (tree x xs, m) =
    ap (λ q. parts_from t q (levels_left - 1) x k) same_reader ∙ parts_read t x xs more (d - 1) (levels_left - 1) k m js (omega (arith, n)) (omega (arith, l)) c in
    let plain : same (mark_at t k) marks.OpenBrace ≡ false = apart_of _ _ (next_not_brace t xs k m js c) in
    operand_over t d levels_left a ∙ at_mark t d _ _ levels_left a marks.OpenBrace o
    ∙ step (lower d a) (d - 1) _ _ (lower-of d a some) (step (lower levels_left a) (levels_left - 1) _ _ (lower-of levels_left a much) (step (w (levels_left - 1) (a + 1)) (x, k) _ _ read
    (else_of _ _ _ _ plain (step (parts_from t w (levels_left - 1) x k) (tree x xs, m) _ _ parts
    (step (expect t marks.CloseBrace m) (m + 1) _ _ (expect-of t marks.CloseBrace m c) (finish (λ q. concat q (tree x xs)) t a b (m + 1) s e z))))))

repeat_reads : (t : List Lexeme) (s : Site) (count x : Tree) (xs : Trees) → Complete t count → Complete t x → CompleteMore t xs → (d levels_left a b : ℕ)
    → IsExpr t (repeat s count (tree x xs)) a b → nesting (repeat s count (tree x xs)) ≤ d → levels (repeat s count (tree x xs)) ≤ levels_left
    → (readers t d).operand levels_left a ≡ Ok (repeat s count (tree x xs), b)
unfolding plain_at braces_at repeat_at close_repeat
repeat_reads t s count x xs ch ih more d levels_left a b (m, n, o, i, p, (k, j, js), c, f, e, z) deep l =
    let some : d ≢ 0 = omega (arith, deep) in
    let much : levels_left ≢ 0 = omega (arith, l) in
    let w = (below t d).whole in
    let read = within t d (levels_left - 1) (a + 1) some ∙ ch.wholes (d - 1) (levels_left - 1) (a + 1) m i (omega (arith, deep)) (omega (arith, l)) (ends_by t count m marks.OpenBrace p refl refl refl) in
    let first = within t d (levels_left - 1) (m + 1) some ∙ ih.wholes (d - 1) (levels_left - 1) (m + 1) k j (omega (arith, deep)) (omega (arith, l)) (next_ends t x xs k n js c) in
    let same_reader : w ≡ (readers t (d - 1)).whole = ap (λ (r : Readers). r.whole) (below_less t d (d - 1) (omega (arith, some))) in
    let parts : parts_from t w (levels_left - 1) x k ≡ Ok (tree x xs, n) =
    ap (λ q. parts_from t q (levels_left - 1) x k) same_reader ∙ parts_read t x xs more (d - 1) (levels_left - 1) k n js (omega (arith, deep)) (omega (arith, l)) c in
    operand_over t d levels_left a ∙ at_mark t d _ _ levels_left a marks.OpenBrace o
    ∙ step (lower d a) (d - 1) _ _ (lower-of d a some) (step (lower levels_left a) (levels_left - 1) _ _ (lower-of levels_left a much) (step (w (levels_left - 1) (a + 1)) (count, m) _ _ read
    (then_of _ _ _ _ (same_of _ _ p) (step (w (levels_left - 1) (m + 1)) (x, k) _ _ first (step (parts_from t w (levels_left - 1) x k) (tree x xs, n) _ _ parts
    (step (expect t marks.CloseBrace n) (n + 1) _ _ (expect-of t marks.CloseBrace n c) (step (expect t marks.CloseBrace (n + 1)) (n + 1 + 1) _ _ (expect-of t marks.CloseBrace (n + 1) f)
    (finish (λ q. repeat q count (tree x xs)) t a b (n + 1 + 1) s e z))))))))

abbrev pub CompleteSelect : List Lexeme → Selection → Type 0
CompleteSelect t x = (d levels_left a b : ℕ) → IsSelect t x a b → nesting_of_select x ≤ d → levels_of_select x ≤ levels_left → select_at t d (below t d).whole levels_left a ≡ Ok (x, b)

bit_reads : (t : List Lexeme) (s : Site) (index : Tree) → Complete t index → CompleteSelect t (bit s index)
unfolding select_at close_bit
bit_reads t s index ih d levels_left a b (m, o, i, c, e, z) n l =
    let some : d ≢ 0 = omega (arith, n) in
    let much : levels_left ≢ 0 = omega (arith, l) in
    let w = (below t d).whole in
    let read = within t d (levels_left - 1) (a + 1) some ∙ ih.wholes (d - 1) (levels_left - 1) (a + 1) m i (omega (arith, n)) (omega (arith, l)) (ends_by t index m marks.CloseBracket c refl refl refl) in
    step (lower d a) (d - 1) _ _ (lower-of d a some) (step (lower levels_left a) (levels_left - 1) _ _ (lower-of levels_left a much) (step (w (levels_left - 1) (a + 1)) (index, m) _ _ read
    (ap (λ q. behind_at t w (levels_left - 1) a index m (part_of q)) c ∙ step (expect t marks.CloseBracket m) (m + 1) _ _ (expect-of t marks.CloseBracket m c) (finish (λ q. bit q index) t a b (m + 1) s e z))))

part_reads : (t : List Lexeme) (s : Site) (kind : PartKind) (left right : Tree) → Complete t left → Complete t right → CompleteSelect t (part s kind left right)
unfolding select_at close_part
part_reads t s kind left right lh rh d levels_left a b (m, k, o, i, p, j, c, e, z) n l =
    let some : d ≢ 0 = omega (arith, n) in
    let much : levels_left ≢ 0 = omega (arith, l) in
    let w = (below t d).whole in
    let pe = part_ends _ kind p in
    let read = within t d (levels_left - 1) (a + 1) some ∙ lh.wholes (d - 1) (levels_left - 1) (a + 1) m i (omega (arith, n)) (omega (arith, l)) (ends_by t left m _ refl pe.0 pe.1 pe.2) in
    let second = within t d (levels_left - 1) (m + 1) some ∙ rh.wholes (d - 1) (levels_left - 1) (m + 1) k j (omega (arith, n)) (omega (arith, l)) (ends_by t right k marks.CloseBracket c refl refl refl) in
    step (lower d a) (d - 1) _ _ (lower-of d a some) (step (lower levels_left a) (levels_left - 1) _ _ (lower-of levels_left a much) (step (w (levels_left - 1) (a + 1)) (left, m) _ _ read
    (ap (λ q. behind_at t w (levels_left - 1) a left m q) p ∙ step (w (levels_left - 1) (m + 1)) (right, k) _ _ second
    (step (expect t marks.CloseBracket k) (k + 1) _ _ (expect-of t marks.CloseBracket k c) (finish (λ q. part q kind left right) t a b (k + 1) s e z)))))

abbrev pub CompleteSelects : List Lexeme → Selections → Type 0
CompleteSelects t xs = (d levels_left n a b : ℕ) → AreSelects t xs a b → how_many xs ≤ n → nesting_of_selects xs ≤ d → levels_of_selects xs ≤ levels_left
    → (how_many xs < n → mark_at t b ≢ marks.OpenBracket) → selects_at t d (below t d).whole levels_left n a ≡ Ok (xs, b)

none_selects : (t : List Lexeme) → CompleteSelects t no_select
unfolding selects_at
none_selects t d levels_left zero a b e k n l stops = ap (λ q. good {A = Selections × ℕ} (no_select, q)) (sym e)
none_selects t d levels_left (suc f) a b e k n l stops =
    else_of _ _ _ _ (apart_of _ _ (λ h. stops (omega arith) (ap (mark_at t) e ∙ h))) (ap (λ q. good {A = Selections × ℕ} (no_select, q)) (sym e))

pub select_mark : (t : List Lexeme) (x : Selection) (a b : ℕ) → IsSelect t x a b → mark_at t a ≡ marks.OpenBracket
select_mark t (bit s index) a b (m, o, i, c, e, z) = o
select_mark t (part s k l r) a b (m, n, o, i, p, j, c, e, z) = o

one_select : (t : List Lexeme) (x : Selection) (xs : Selections) → CompleteSelect t x → CompleteSelects t xs → CompleteSelects t (select x xs)
unfolding selects_at
one_select t x xs ih more d levels_left zero a b (m, i, js) k n l stops = absurd (omega (arith, k))
one_select t x xs ih more d levels_left (suc f) a b (m, i, js) k n l stops =
    then_of _ _ _ _ (same_of _ _ (select_mark t x a m i)) (step (select_at t d (below t d).whole levels_left a) (x, m) _ _ (ih d levels_left a m i (omega (arith, n)) (omega (arith, l)))
    (step (selects_at t d (below t d).whole levels_left f m) (xs, b) _ _ (more d levels_left f m b js (omega (arith, k)) (omega (arith, n)) (omega (arith, l)) (λ h. stops (omega (arith, h)))) refl))

name_reads : (t : List Lexeme) (s : Site) (text : List ℕ) (xs : Selections) → CompleteSelects t xs → (d levels_left a b : ℕ) → IsExpr t (name s text xs) a b
    → nesting_of_selects xs ≤ d → levels_of_selects xs ≤ levels_left → Done t (name s text xs) b → (readers t d).operand levels_left a ≡ Ok (name s text xs, b)
unfolding plain_at name_at
name_reads t s text xs ih d levels_left a b (m, x, ss, c, z) n l done =
    operand_over t d levels_left a ∙ at_mark t d _ _ levels_left a marks.Name m
    ∙ step (selects_at t d (below t d).whole levels_left 2 (a + 1)) (xs, b) _ _ (ih d levels_left 2 (a + 1) b ss c n l (λ h. done (lt-ltb _ _ h)))
    (ap (λ q. good {A = Tree × ℕ} (name (site t a b) q xs, b)) (sym x) ∙ finish (λ q. name q text xs) t a b b s refl z)

operator_no_bracket : (m : Terminal) (o : Binary) → binary_of m ≡ Some o → m ≢ marks.OpenBracket
operator_no_bracket m o e gone = none_some o (sym (ap binary_of gone) ∙ e)

operator_no_question : (m : Terminal) (o : Binary) → binary_of m ≡ Some o → m ≢ marks.Question
operator_no_question m o e gone = none_some o (sym (ap binary_of gone) ∙ e)

binary_chains : (t : List Lexeme) (s : Site) (op : Binary) (left right : Tree) → Complete t left → Complete t right → (d levels_left least a b : ℕ) → least ≤ strength op → 1 ≤ least
    → IsExpr t (binary s op left right) a b → nesting (binary s op left right) ≤ d → levels (binary s op left right) ≤ levels_left → Done t right b → Looser t (strength op) b
    → Chained t d levels_left least (binary s op left right) a b
binary_chains t s op left right lh rh d levels_left least a b low some (m, l, k, p, r, q, z) deep up done loose =
    let climbs = climb t (readers t d).operand 11 in
    let inside = binary_inside t m op p in
    let c = lh.climbs d levels_left least a m (omega (arith, low, k)) some l (omega (arith, deep)) (omega (arith, up)) (λ h. operator_no_bracket _ op p)
    (λ o h. subst (λ v. strength v ≤ tightness left) (Some-same (sym p ∙ h)) k) in
    let left_over : c.left ≢ 0 = (let h = c.enough in omega (arith, h, inside)) in
    let most = strength_most op in
    let f = rh.climbs d (levels_left - 1) (strength op + 1) (m + 1) b (omega (arith, q)) (omega arith) r (omega (arith, deep)) (omega (arith, up)) done (λ o h. let g = loose o h in omega (arith, g, q)) in
    let second : climbs (strength op + 1) (levels_left - 1) (m + 1) ≡ Ok (right, b) =
    climb_same t (readers t d).operand 11 12 (strength op + 1) (levels_left - 1) (m + 1) (omega (arith, low, some)) (omega arith) ∙ f.reads
    ∙ chain-stops t climbs (strength op + 1) (levels_left - 1) (m + 1) f.left right b (λ o h. let g = loose o h in omega (arith, g)) in
    let node : binary (site t a b) op left right ≡ binary s op left right = ap (λ v. binary v op left right) (sym z) in
    record {
      left = c.left - 1;
      enough = (let h = c.enough in let g = forward t right (m + 1) b r in omega (arith, h, g, left_over));
      reads = c.reads ∙ chain_more t climbs least levels_left a c.left left m left_over
          ∙ ap (λ v. chain_step (chain t climbs least levels_left a (c.left - 1)) t climbs least levels_left a left m v) p
          ∙ else_of _ _ _ _ (not_less (strength op) least low) (step (above levels_left (levels left) m) (levels_left - 1) _ _ (above-of levels_left (levels left) m (omega (arith, up)))
          (step (climbs (strength op + 1) (levels_left - 1) (m + 1)) (right, b) _ _ second (ap (λ v. chain t climbs least levels_left a (c.left - 1) v b) node)));
    }

by_binary : (t : List Lexeme) (s : Site) (op : Binary) (left right : Tree) → Complete t left → Complete t right → Complete t (binary s op left right)
by_binary t s op left right lh rh = record {
  operands = λ d levels_left a b tight s n l done. let h = strength_most op in absurd (omega (arith, tight, h));
  climbs = λ d levels_left least a b tight some s n l done loose. binary_chains t _ op left right lh rh d levels_left least a b tight some s n l done loose;
  wholes = λ d levels_left a b s n l ends.
      climb_wholes t _ d levels_left a b (binary_chains t _ op left right lh rh d levels_left 1 a b (strength_least op) (lit≤ tt) s n l ends.no_select (λ o h. none_some o (sym ends.no_operator ∙ h))) ends;
}

question_reads : (t : List Lexeme) (s : Site) (c x y : Tree) → Complete t c → Complete t x → Complete t y → (d levels_left a b : ℕ) → IsExpr t (conditional s c x y) a b
    → nesting (conditional s c x y) ≤ d → levels (conditional s c x y) ≤ levels_left → Ends t (conditional s c x y) b → (readers t d).whole levels_left a ≡ Ok (conditional s c x y, b)
unfolding whole_with question_at
question_reads t s c x y ch xh yh d levels_left a b (m, n, i, k, p, j, q, l, z) deep up ends =
    let some : d ≢ 0 = omega (arith, deep) in
    let climbs = climb t (readers t d).operand 11 in
    let w = (below t d).whole in
    let no : binary_of (mark_at t m) ≡ None = ap binary_of p in
    let f = ch.climbs d levels_left 1 a m k (lit≤ tt) i (omega (arith, deep)) (omega (arith, up)) (λ _ h. question_bracket (sym p ∙ h)) (λ o h. none_some o (sym no ∙ h)) in
    let first : climb t (readers t d).operand 12 1 levels_left a ≡ Ok (c, m) = f.reads ∙ chain-stops t climbs 1 levels_left a f.left c m (λ o h. none_some o (sym no ∙ h)) in
    let second = within t d (levels_left - 1) (m + 1) some ∙ xh.wholes (d - 1) (levels_left - 1) (m + 1) n j (omega (arith, deep)) (omega (arith, up)) (ends_by t x n marks.Colon q refl refl refl) in
    let third = within t d (levels_left - 1) (n + 1) some ∙ yh.wholes (d - 1) (levels_left - 1) (n + 1) b l (omega (arith, deep)) (omega (arith, up))
    (record { no_operator = ends.no_operator; no_question = ends.no_question; no_select = ends.no_select }) in
    whole_over t d levels_left a ∙ step (climb t (readers t d).operand 12 1 levels_left a) (c, m) _ _ first (then_of _ _ _ _ (same_of _ _ p)
    (step (lower d m) (d - 1) _ _ (lower-of d m some) (step (above levels_left (levels c) m) (levels_left - 1) _ _ (above-of levels_left (levels c) m (omega (arith, up)))
    (step (w (levels_left - 1) (m + 1)) (x, n) _ _ second (step (expect t marks.Colon n) (n + 1) _ _ (expect-of t marks.Colon n q)
    (step (w (levels_left - 1) (n + 1)) (y, b) _ _ third (finish (λ v. conditional v c x y) t a b b s refl z)))))))

by_question : (t : List Lexeme) (s : Site) (c x y : Tree) → Complete t c → Complete t x → Complete t y → Complete t (conditional s c x y)
by_question t s c x y ch xh yh = record {
  operands = λ d levels_left a b tight s n l done. absurd (omega (arith, tight));
  climbs = λ d levels_left least a b tight some s n l done loose. absurd (omega (arith, tight, some));
  wholes = λ d levels_left a b is n l ends. question_reads t _ c x y ch xh yh d levels_left a b is n l ends;
}

mutual
  pub complete : (t : List Lexeme) (e : Tree) → Complete t e
  complete t (number s text) = by_operand t _ refl (λ d levels_left a b is n l done. number_reads t s text d levels_left a b is)
  complete t (wild s text) = by_operand t _ refl (λ d levels_left a b is n l done. absurd is)
  complete t (name s text xs) = by_operand t _ refl (λ d levels_left a b is n l done. name_reads t s text xs (complete_selects t xs) d levels_left a b is n l done)
  complete t (parens s inner) = by_operand t _ refl (λ d levels_left a b is n l done. parens_reads t s inner (complete t inner) d levels_left a b is n l)
  complete t (concat s no_tree) = by_operand t _ refl (λ d levels_left a b is n l done. absurd is.2)
  complete t (concat s (tree x xs)) = by_operand t _ refl (λ d levels_left a b is n l done. concat_reads t s x xs (complete t x) (complete_more t xs) d levels_left a b is n l)
  complete t (repeat s count no_tree) = by_operand t _ refl (λ d levels_left a b is n l done. absurd is.5)
  complete t (repeat s count (tree x xs)) = by_operand t _ refl (λ d levels_left a b is n l done. repeat_reads t s count x xs (complete t count) (complete t x) (complete_more t xs) d levels_left a b is n l)
  complete t (system s f inner) = by_operand t _ refl (λ d levels_left a b is n l done. system_reads t s f inner (complete t inner) d levels_left a b is n l)
  complete t (unary s u inner) = by_operand t _ refl (λ d levels_left a b is n l done. unary_reads t s u inner (complete t inner) d levels_left a b is n l done)
  complete t (binary s op left right) = by_binary t s op left right (complete t left) (complete t right)
  complete t (conditional s c x y) = by_question t s c x y (complete t c) (complete t x) (complete t y)

  complete_more : (t : List Lexeme) (xs : Trees) → CompleteMore t xs
  complete_more t no_tree = none_more t
  complete_more t (tree x xs) = one_more t x xs (complete t x) (complete_more t xs)

  pub complete_select : (t : List Lexeme) (x : Selection) → CompleteSelect t x
  complete_select t (bit s index) = bit_reads t s index (complete t index)
  complete_select t (part s kind left right) = part_reads t s kind left right (complete t left) (complete t right)

  pub complete_selects : (t : List Lexeme) (xs : Selections) → CompleteSelects t xs
  complete_selects t no_select = none_selects t
  complete_selects t (select x xs) = one_select t x xs (complete_select t x) (complete_selects t xs)
