-- The steps of reading, as equations.
use Rattle.std.proofs.Common.{◌≡◌, ◌≢◌, ℕ, zero, suc, ◌+◌, ◌-◌, ◌<◌, ◌≤◌, Bool, true, false, if◌then◌else◌, List, [], ◌∷◌, ◌++◌, map, length, max, Some, None, Ok, Err, Result, sym, ap, ◌∙◌, refl, arith, nat_lt, lit<, ltb-false, lt-ltb, le-ltb, lit≤}
use Rattle.v_lexer.specs.Lexeme.{Lexeme}
use Rattle.v_lexer.specs.declared.types.terminal.Terminal.TheVariants as marks
use Rattle.v_syntax.specs.declared.operator.Binary.{Binary}
use Rattle.v_syntax.specs.declared.operator.Binary.TheVariants as ops
use Rattle.v_syntax.specs.declared.expression.Expr.{Expr}
use Rattle.v_syntax.specs.declared.expression.Select.{Select}
use Rattle.v_tree.specs.declared.fault.Stop.{Stop}
use Rattle.v_tree.specs.declared.fault.Stop.TheVariants as stop
use Rattle.v_tree.specs.Faults.{Fails}
use Rattle.v_tree.specs.Sites.{site}
use Rattle.v_tree.specs.declared.fault.Fault.{Fault}
use Rattle.v_tree.specs.Marks.{mark_at, same}
use Rattle.v_tree.specs.Operators.{binary_of, strength}
use Rattle.v_syntax.specs.Tree.{Tree, binary, tree_of, selection_of, Trees, no_tree, tree, trees_of, append_parts, Selection, Selections, no_select, select, selections_of, append_selects}
use Rattle.v_tree.specs.Depth.{levels_of_parts, levels, levels_of_selects, levels_of_select}
use Rattle.v_tree.specs.Reading.{Read, above, Reader, Readers, readers, readers_over, below, operand_with, whole_with, ◌>>=◌, chain, chain_step, climb, more_parts, selects_at, select_at}

pub readers_are : (t : List Lexeme) (d : ℕ) → readers t d ≡ readers_over t d (below t d)
unfolding readers
readers_are t zero = refl
readers_are t (suc d) = refl

pub operand_over : (t : List Lexeme) (d : ℕ) (levels_left a : ℕ) → (readers t d).operand levels_left a ≡ operand_with t d (below t d).operand (below t d).whole levels_left a
operand_over t d levels_left a = ap (λ (r : Readers). r.operand levels_left a) (readers_are t d)

pub whole_over : (t : List Lexeme) (d : ℕ) (levels_left a : ℕ) → (readers t d).whole levels_left a ≡ whole_with t d (readers t d).operand (below t d).whole levels_left a
unfolding readers
whole_over t zero levels_left a = refl
whole_over t (suc d) levels_left a = refl

pub below_less : (t : List Lexeme) (d n : ℕ) → n + 1 ≡ d → below t d ≡ readers t n
below_less t zero n e = absurd (omega arith)
below_less t (suc d) n e = let same : d ≡ n = omega arith in ap (readers t) same

pub chain_zero : (t : List Lexeme) (right : ℕ → Reader) (least levels_left from : ℕ) (left : Tree) (a : ℕ) → chain t right least levels_left from 0 left a ≡ Ok (left, a)
unfolding chain
chain_zero t right least levels_left from left a = refl

pub chain_more : (t : List Lexeme) (right : ℕ → Reader) (least levels_left from n : ℕ) (left : Tree) (a : ℕ) → n ≢ 0
    → chain t right least levels_left from n left a ≡ chain_step (chain t right least levels_left from (n - 1)) t right least levels_left from left a (binary_of (mark_at t a))
unfolding chain
chain_more t right least levels_left from zero left a h = absurd (h refl)
chain_more t right least levels_left from (suc n) left a h = let e : suc n - 1 ≡ n = omega arith in ap (λ k. chain_step (chain t right least levels_left from k) t right least levels_left from left a (binary_of (mark_at t a))) (sym e)

pub climb_more : (t : List Lexeme) (operand : Reader) (n least levels_left a : ℕ)
    → climb t operand (suc n) least levels_left a ≡ (operand levels_left a >>= λ x. chain t (climb t operand n) least levels_left a (length t) x.0 x.1)
unfolding climb
climb_more t operand n least levels_left a = refl

pub strength_most : (o : Binary) → strength o < 12
strength_most ops.Power = lit< tt
strength_most ops.Multiply = lit< tt
strength_most ops.Divide = lit< tt
strength_most ops.Modulus = lit< tt
strength_most ops.Add = lit< tt
strength_most ops.Subtract = lit< tt
strength_most ops.ShiftLeft = lit< tt
strength_most ops.ShiftRight = lit< tt
strength_most ops.SignedShiftLeft = lit< tt
strength_most ops.SignedShiftRight = lit< tt
strength_most ops.Less = lit< tt
strength_most ops.LessEqual = lit< tt
strength_most ops.Greater = lit< tt
strength_most ops.GreaterEqual = lit< tt
strength_most ops.Equal = lit< tt
strength_most ops.NotEqual = lit< tt
strength_most ops.And = lit< tt
strength_most ops.Xor = lit< tt
strength_most ops.Xnor = lit< tt
strength_most ops.Or = lit< tt
strength_most ops.LogicalAnd = lit< tt
strength_most ops.LogicalOr = lit< tt

bind-ok : {A : Type 0} (r : Result A Fault) → (r >>= λ x. Ok x) ≡ r
bind-ok (Ok x) = refl
bind-ok (Err e) = refl

-- two chains are one where their readers behind operators of the levels that they take are one
chosen-agrees : {A : Type 0} (b : Bool) (x y z : A) → (b ≡ false → y ≡ z) → (if b then x else y) ≡ (if b then x else z)
chosen-agrees true x y z h = refl
chosen-agrees false x y z h = h refl

bind-agrees : {A B : Type 0} (r : Result A Fault) (f g : A → Result B Fault) → ((x : A) → f x ≡ g x) → (r >>= f) ≡ (r >>= g)
bind-agrees (Ok x) f g h = h x
bind-agrees (Err e) f g h = refl

bind-both : {A B : Type 0} (r s : Result A Fault) (f g : A → Result B Fault) → r ≡ s → ((x : A) → f x ≡ g x) → (r >>= f) ≡ (s >>= g)
bind-both r s f g e h = ap (λ q. q >>= f) e ∙ bind-agrees s f g h

chain-agrees : (t : List Lexeme) (f g : ℕ → Reader) (least levels_left from n : ℕ) (left : Tree) (a : ℕ)
    → ((level levels_left a : ℕ) → least < level → f level levels_left a ≡ g level levels_left a) → chain t f least levels_left from n left a ≡ chain t g least levels_left from n left a
unfolding chain
chain-agrees t f g least levels_left from zero left a h = refl
chain-agrees t f g least levels_left from (suc n) left a h =
    elim (binary_of (mark_at t a)) as
    (λ o. chain_step (chain t f least levels_left from n) t f least levels_left from left a o ≡ chain_step (chain t g least levels_left from n) t g least levels_left from left a o) [
      | None ↦ refl
      | Some o ↦
          chosen-agrees (nat_lt (strength o) least) _ _ _ (λ e.
          bind-agrees _ _ _ (λ less. bind-both _ _ _ _ (h (strength o + 1) less (a + 1) (let b : least ≤ strength o = ltb-false _ _ e in omega (arith, b)))
          (λ y. chain-agrees t f g least levels_left from n _ y.1 h)))
    ]

-- no operator has a level of 12 or more
chain-alone : (t : List Lexeme) (right : ℕ → Reader) (least levels_left from n : ℕ) (left : Tree) (a : ℕ) → 12 ≤ least → chain t right least levels_left from n left a ≡ Ok (left, a)
unfolding chain
chain-alone t right least levels_left from zero left a h = refl
chain-alone t right least levels_left from (suc n) left a h =
    elim (binary_of (mark_at t a)) as (λ o. chain_step (chain t right least levels_left from n) t right least levels_left from left a o ≡ Ok (left, a)) [
      | None ↦ refl
      | Some o ↦ let most = strength_most o in let b : nat_lt (strength o) least ≡ true = lt-ltb _ _ (omega (arith, most)) in rw b refl
    ]

climb-alone : (t : List Lexeme) (operand : Reader) (n least levels_left a : ℕ) → 12 ≤ least → climb t operand (suc n) least levels_left a ≡ operand levels_left a
unfolding climb
climb-alone t operand n least levels_left a h = bind-agrees (operand levels_left a) _ _ (λ x. chain-alone t _ least levels_left a (length t) x.0 x.1 h) ∙ bind-ok (operand levels_left a)

pub climb_same : (t : List Lexeme) (operand : Reader) (n m least levels_left a : ℕ) → 12 ≤ n + least → 12 ≤ m + least
    → climb t operand n least levels_left a ≡ climb t operand m least levels_left a
unfolding climb
climb_same t operand zero zero least levels_left a h k = refl
climb_same t operand zero (suc m) least levels_left a h k = sym (climb-alone t operand m least levels_left a (omega arith))
climb_same t operand (suc n) zero least levels_left a h k = climb-alone t operand n least levels_left a (omega arith)
climb_same t operand (suc n) (suc m) least levels_left a h k =
    bind-agrees (operand levels_left a) _ _ (λ x. chain-agrees t _ _ least levels_left a (length t) x.0 x.1 (λ level r b over. climb_same t operand n m level r b (omega arith) (omega arith)))

pub more_parts_more : (t : List Lexeme) (whole : Reader) (levels_left n a : ℕ) → n ≢ 0
    → more_parts t whole levels_left n a
    ≡ (if same (mark_at t a) marks.Comma then (whole levels_left (a + 1) >>= λ x. more_parts t whole levels_left (n - 1) x.1 >>= λ xs. Ok (tree x.0 xs.0, xs.1)) else Ok (no_tree, a))
unfolding more_parts
more_parts_more t whole levels_left zero a h = absurd (h refl)
more_parts_more t whole levels_left (suc n) a h =
    let e : suc n - 1 ≡ n = omega arith in
    ap (λ k. if same (mark_at t a) marks.Comma then (whole levels_left (a + 1) >>= λ x. more_parts t whole levels_left k x.1 >>= λ xs. Ok (tree x.0 xs.0, xs.1)) else Ok (no_tree, a)) (sym e)

pub more_parts_zero : (t : List Lexeme) (whole : Reader) (levels_left a : ℕ) → more_parts t whole levels_left 0 a ≡ Ok (no_tree, a)
unfolding more_parts
more_parts_zero t whole levels_left a = refl

pub selects_zero : (t : List Lexeme) (nesting_left : ℕ) (whole : Reader) (levels_left a : ℕ) → selects_at t nesting_left whole levels_left 0 a ≡ Ok (no_select, a)
unfolding selects_at
selects_zero t nesting_left whole levels_left a = refl

pub selects_more : (t : List Lexeme) (nesting_left : ℕ) (whole : Reader) (levels_left n a : ℕ) → n ≢ 0
    → selects_at t nesting_left whole levels_left n a
    ≡ (if same (mark_at t a) marks.OpenBracket then (select_at t nesting_left whole levels_left a >>= λ x. selects_at t nesting_left whole levels_left (n - 1) x.1 >>= λ xs. Ok (select x.0 xs.0, xs.1)) else Ok (no_select, a))
unfolding selects_at
selects_more t nesting_left whole levels_left zero a h = absurd (h refl)
selects_more t nesting_left whole levels_left (suc n) a h =
    let e : suc n - 1 ≡ n = omega arith in
    ap (λ k. if same (mark_at t a) marks.OpenBracket then (select_at t nesting_left whole levels_left a >>= λ x. selects_at t nesting_left whole levels_left k x.1 >>= λ xs. Ok (select x.0 xs.0, xs.1)) else Ok (no_select, a)) (sym e)

pub append_parts_none : (xs : Trees) → append_parts xs no_tree ≡ xs
append_parts_none no_tree = refl
append_parts_none (tree t ts) = ap (tree t) (append_parts_none ts)

pub append_selects_none : (xs : Selections) → append_selects xs no_select ≡ xs
append_selects_none no_select = refl
append_selects_none (select t ts) = ap (select t) (append_selects_none ts)

pub append_parts_one : (xs : List Tree) (y : Tree) (zs : Trees) → append_parts (trees_of (xs ++ y ∷ [])) zs ≡ append_parts (trees_of xs) (tree y zs)
append_parts_one [] y zs = refl
append_parts_one (x ∷ xs) y zs = ap (tree x) (append_parts_one xs y zs)

pub append_selects_one : (xs : List Selection) (y : Selection) (zs : Selections) → append_selects (selections_of (xs ++ y ∷ [])) zs ≡ append_selects (selections_of xs) (select y zs)
append_selects_one [] y zs = refl
append_selects_one (x ∷ xs) y zs = ap (select x) (append_selects_one xs y zs)

pub levels_one_more : (xs : List Tree) (y : Tree) → levels_of_parts (trees_of (xs ++ y ∷ [])) ≡ max (levels_of_parts (trees_of xs)) (levels y)
levels_one_more [] y = omega arith
levels_one_more (x ∷ xs) y = let rest = levels_one_more xs y in omega (arith, rest)

pub levels_one_select : (xs : List Selection) (y : Selection) → levels_of_selects (selections_of (xs ++ y ∷ [])) ≡ max (levels_of_selects (selections_of xs)) (levels_of_select y)
levels_one_select [] y = omega arith
levels_one_select (x ∷ xs) y = let rest = levels_one_select xs y in omega (arith, rest)

strength_some : (o : Binary) → 1 ≤ strength o
strength_some ops.Power = lit≤ tt
strength_some ops.Multiply = lit≤ tt
strength_some ops.Divide = lit≤ tt
strength_some ops.Modulus = lit≤ tt
strength_some ops.Add = lit≤ tt
strength_some ops.Subtract = lit≤ tt
strength_some ops.ShiftLeft = lit≤ tt
strength_some ops.ShiftRight = lit≤ tt
strength_some ops.SignedShiftLeft = lit≤ tt
strength_some ops.SignedShiftRight = lit≤ tt
strength_some ops.Less = lit≤ tt
strength_some ops.LessEqual = lit≤ tt
strength_some ops.Greater = lit≤ tt
strength_some ops.GreaterEqual = lit≤ tt
strength_some ops.Equal = lit≤ tt
strength_some ops.NotEqual = lit≤ tt
strength_some ops.And = lit≤ tt
strength_some ops.Xor = lit≤ tt
strength_some ops.Xnor = lit≤ tt
strength_some ops.Or = lit≤ tt
strength_some ops.LogicalAnd = lit≤ tt
strength_some ops.LogicalOr = lit≤ tt

abbrev fine : {A : Type 0} → A → Result A Fault
fine x = Ok x

pub climb_eleven : (t : List Lexeme) (operand : Reader) (o : Binary) (levels_left a : ℕ) → climb t operand 11 (strength o + 1) levels_left a ≡ climb t operand 12 (strength o + 1) levels_left a
climb_eleven t operand o levels_left a = let some = strength_some o in climb_same t operand 11 12 (strength o + 1) levels_left a (omega (arith, some)) (omega arith)

bind_at : {A B : Type 0} (r : Result A Fault) (x : A) (f : A → Result B Fault) (y : Result B Fault) → r ≡ Ok x → f x ≡ y → (r >>= f) ≡ y
bind_at r x f y e h = ap (λ q. q >>= f) e ∙ h

bind_bad : {A B : Type 0} (r : Result A Fault) (g : Fault) (f : A → Result B Fault) → r ≡ Err g → (r >>= f) ≡ Err g
bind_bad r g f e = ap (λ q. q >>= f) e

pub climb_from : (t : List Lexeme) (operand : Reader) (least levels_left a : ℕ) (x : Tree) (b : ℕ) → operand levels_left a ≡ Ok (x, b)
    → climb t operand 12 least levels_left a ≡ chain t (climb t operand 11) least levels_left a (length t) x b
climb_from t operand least levels_left a x b e = climb_more t operand 11 least levels_left a ∙ bind_at (operand levels_left a) (x, b) _ _ e refl

if_false : {A : Type 0} (b : Bool) (x y z : A) → b ≡ false → y ≡ z → (if b then x else y) ≡ z
if_false true x y z e h = absurd (let k : true ≡ false = e in cc)
if_false false x y z e h = h

if_true : {A : Type 0} (b : Bool) (x y z : A) → b ≡ true → x ≡ z → (if b then x else y) ≡ z
if_true true x y z e h = h
if_true false x y z e h = absurd (let k : false ≡ true = e in cc)

pub chain_turn : (t : List Lexeme) (right : ℕ → Reader) (least levels_left from n : ℕ) (left : Tree) (a : ℕ) (op : Binary) (less : ℕ) (y : Tree) (m : ℕ) → n ≢ 0
    → binary_of (mark_at t a) ≡ Some op → least ≤ strength op → above levels_left (levels left) a ≡ Ok less → right (strength op + 1) less (a + 1) ≡ Ok (y, m)
    → chain t right least levels_left from n left a ≡ chain t right least levels_left from (n - 1) (binary (site t from m) op left y) m
chain_turn t right least levels_left from n left a op less y m some is low up read =
    chain_more t right least levels_left from n left a some
    ∙ ap (chain_step (chain t right least levels_left from (n - 1)) t right least levels_left from left a) is
    ∙ if_false _ _ _ _ (le-ltb _ _ low) (bind_at (above levels_left (levels left) a) less _ _ up (bind_at (right (strength op + 1) less (a + 1)) (y, m) _ _ read refl))

pub chain_refused : (t : List Lexeme) (right : ℕ → Reader) (least levels_left from n : ℕ) (left : Tree) (a : ℕ) (op : Binary) (less : ℕ) (g : Fault) → n ≢ 0
    → binary_of (mark_at t a) ≡ Some op → least ≤ strength op → above levels_left (levels left) a ≡ Ok less → right (strength op + 1) less (a + 1) ≡ Err g
    → chain t right least levels_left from n left a ≡ Err g
chain_refused t right least levels_left from n left a op less g some is low up read =
    chain_more t right least levels_left from n left a some
    ∙ ap (chain_step (chain t right least levels_left from (n - 1)) t right least levels_left from left a) is
    ∙ if_false _ _ _ _ (le-ltb _ _ low) (bind_at (above levels_left (levels left) a) less _ _ up (bind_bad (right (strength op + 1) less (a + 1)) g _ read))

pub chain_done : (t : List Lexeme) (right : ℕ → Reader) (least levels_left from n : ℕ) (left : Tree) (a : ℕ) → n ≡ 0 → chain t right least levels_left from n left a ≡ Ok (left, a)
chain_done t right least levels_left from n left a e = ap (λ k. chain t right least levels_left from k left a) e ∙ chain_zero t right least levels_left from left a

-- a reader's error is passed on
pub fails_along : {A B : Type 0} (e : Stop) (r : Result A Fault) (s : Result B Fault) → ((g : Fault) → r ≡ Err g → s ≡ Err g) → Fails e r → Fails e s
fails_along (stop.Fault g) r s h f = h g f
fails_along stop.NoMemory r s h f = tt

abbrev pub with_parts : List Expr → Read Trees → Read Trees
with_parts front r = r >>= λ xs. Ok (append_parts (trees_of (map tree_of front)) xs.0, xs.1)

abbrev pub with_selects : List Select → Read Selections → Read Selections
with_selects front r = r >>= λ xs. Ok (append_selects (selections_of (map selection_of front)) xs.0, xs.1)

map_one : {A B : Type 0} (f : A → B) (xs : List A) (y : A) → map f (xs ++ y ∷ []) ≡ map f xs ++ f y ∷ []
map_one f [] y = refl
map_one f (x ∷ xs) y = ap (λ r. f x ∷ r) (map_one f xs y)

pub levels_pushed : (xs : List Expr) (y : Expr) → levels_of_parts (trees_of (map tree_of (xs ++ y ∷ []))) ≡ max (levels_of_parts (trees_of (map tree_of xs))) (levels (tree_of y))
levels_pushed xs y = ap (λ r. levels_of_parts (trees_of r)) (map_one tree_of xs y) ∙ levels_one_more (map tree_of xs) (tree_of y)

pub levels_selected : (xs : List Select) (y : Select)
    → levels_of_selects (selections_of (map selection_of (xs ++ y ∷ []))) ≡ max (levels_of_selects (selections_of (map selection_of xs))) (levels_of_select (selection_of y))
levels_selected xs y = ap (λ r. levels_of_selects (selections_of r)) (map_one selection_of xs y) ∙ levels_one_select (map selection_of xs) (selection_of y)

front_one : (xs : List Expr) (y : Expr) (r : Read Trees) → with_parts xs (r >>= λ zs. Ok (tree (tree_of y) zs.0, zs.1)) ≡ with_parts (xs ++ y ∷ []) r
front_one xs y (Err g) = refl
front_one xs y (Ok zs) =
    let same_trees : append_parts (trees_of (map tree_of xs)) (tree (tree_of y) zs.0) ≡ append_parts (trees_of (map tree_of (xs ++ y ∷ []))) zs.0 =
    sym (ap (λ r. append_parts (trees_of r) zs.0) (map_one tree_of xs y) ∙ append_parts_one (map tree_of xs) (tree_of y) zs.0) in
    ap (λ q. fine {A = Trees × ℕ} (q, zs.1)) same_trees

front_select : (xs : List Select) (y : Select) (r : Read Selections) → with_selects xs (r >>= λ zs. Ok (select (selection_of y) zs.0, zs.1)) ≡ with_selects (xs ++ y ∷ []) r
front_select xs y (Err g) = refl
front_select xs y (Ok zs) =
    let same_selects : append_selects (selections_of (map selection_of xs)) (select (selection_of y) zs.0) ≡ append_selects (selections_of (map selection_of (xs ++ y ∷ []))) zs.0 =
    sym (ap (λ r. append_selects (selections_of r) zs.0) (map_one selection_of xs y) ∙ append_selects_one (map selection_of xs) (selection_of y) zs.0) in
    ap (λ q. fine {A = Selections × ℕ} (q, zs.1)) same_selects

pub parts_turn : (t : List Lexeme) (whole : Reader) (levels_left n a : ℕ) (front : List Expr) (y : Expr) (m : ℕ) → n ≢ 0 → same (mark_at t a) marks.Comma ≡ true
    → whole levels_left (a + 1) ≡ Ok (tree_of y, m) → with_parts front (more_parts t whole levels_left n a) ≡ with_parts (front ++ y ∷ []) (more_parts t whole levels_left (n - 1) m)
parts_turn t whole levels_left n a front y m some comma read =
    ap (with_parts front) (more_parts_more t whole levels_left n a some ∙ if_true _ _ _ _ comma (bind_at (whole levels_left (a + 1)) (tree_of y, m) _ _ read refl))
    ∙ front_one front y (more_parts t whole levels_left (n - 1) m)

pub parts_done : (t : List Lexeme) (whole : Reader) (levels_left n a : ℕ) (front : List Expr) → n ≡ 0 → with_parts front (more_parts t whole levels_left n a) ≡ Ok (trees_of (map tree_of front), a)
parts_done t whole levels_left n a front e =
    ap (with_parts front) (ap (λ k. more_parts t whole levels_left k a) e ∙ more_parts_zero t whole levels_left a)
    ∙ ap (λ q. fine {A = Trees × ℕ} (q, a)) (append_parts_none (trees_of (map tree_of front)))

pub selects_turn : (t : List Lexeme) (nesting_left : ℕ) (whole : Reader) (levels_left n a : ℕ) (front : List Select) (y : Select) (m : ℕ) → n ≢ 0 → same (mark_at t a) marks.OpenBracket ≡ true
    → select_at t nesting_left whole levels_left a ≡ Ok (selection_of y, m)
    → with_selects front (selects_at t nesting_left whole levels_left n a) ≡ with_selects (front ++ y ∷ []) (selects_at t nesting_left whole levels_left (n - 1) m)
selects_turn t nesting_left whole levels_left n a front y m some bracket read =
    ap (with_selects front) (selects_more t nesting_left whole levels_left n a some ∙ if_true _ _ _ _ bracket (bind_at (select_at t nesting_left whole levels_left a) (selection_of y, m) _ _ read refl))
    ∙ front_select front y (selects_at t nesting_left whole levels_left (n - 1) m)

pub selects_done : (t : List Lexeme) (nesting_left : ℕ) (whole : Reader) (levels_left n a : ℕ) (front : List Select) → n ≡ 0
    → with_selects front (selects_at t nesting_left whole levels_left n a) ≡ Ok (selections_of (map selection_of front), a)
selects_done t nesting_left whole levels_left n a front e =
    ap (with_selects front) (ap (λ k. selects_at t nesting_left whole levels_left k a) e ∙ selects_zero t nesting_left whole levels_left a)
    ∙ ap (λ q. fine {A = Selections × ℕ} (q, a)) (append_selects_none (selections_of (map selection_of front)))
