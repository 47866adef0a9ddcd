-- Steps of the loops over statements and arms as the code has them, and of a whole loop.
use Rattle.std.proofs.Common.{◌≡◌, ℕ, suc, ◌+◌, ◌-◌, ◌<◌, ◌≤◌, Bool, true, false, arith, List, [], ◌∷◌, ◌++◌, length, get_or, map, drop, refl, sym, ap, ◌∙◌, subst, ◌⊎◌, inl, inr}
use Rattle.std.specs.Prelude.{⊤, Result, Ok, Err, IfOk}
use Rattle.std.proofs.lemmas.List.{drop_all}
use Rattle.loc_base.proofs.ShelfLists.{drop-at}
use Rattle.loc_base.specs.declared.span.Span.{Span}
use Rattle.v_syntax.specs.declared.statement.CaseItem.{CaseItem}
use Rattle.v_syntax.specs.declared.statement.Statement.{Statement}
use Rattle.v_syntax.specs.StatementTree.{PlainHead, PlainStatement, statement_of, statements_of, case_item_of, case_items_of}
use Rattle.v_sizes.specs.declared.meaning.Const.{Const}
use Rattle.v_hierarchy.specs.declared.error.ElabErr.{ElabErr}
use Rattle.v_hierarchy.specs.declared.left.Left.{Left}
use Rattle.v_hierarchy.specs.declared.steps.Arm.{Arm}
use Rattle.v_hierarchy.specs.declared.steps.Steps.{Steps}
use Rattle.v_hierarchy.specs.declared.steps.Turn.{Turn}
use Rattle.v_hierarchy.specs.declared.error.ElabErr.TheVariants as fault
use Rattle.v_hierarchy.specs.Frames.{Refuses}
use Rattle.v_hierarchy.specs.Names.{Entry}
use Rattle.v_hierarchy.specs.Steps.{◌>>=◌}
use Rattle.v_hierarchy.specs.Unrolled.{StepList, Arms, Looped, repeated, loop_variable, begun, stepped, unrolled, unrolled_all, unrolled_arms}
use Rattle.v_hierarchy.specs.Views.{PlainTurn, steps_of, step_list_of, arm_of, arms_of, turn_of, turns_of}
use Rattle.v_loops.specs.Loops.{loop_arm, one_turn, loop_turns, loop_unrolled}
use Rattle.v_loops.proofs.GatherSteps.{steps_so_far, steps-end, steps-next, steps-refused, arms_so_far, arms-end, arms-next, arms-refused, turns_from, turns-next, turns-refused, turns-step_refused, turns-end, turns-too_many}

-- an answer through an equation
pub through : {A B : Type 0} (r : Result A ElabErr) (x y : Result B ElabErr) (g : A → B) → y ≡ x → IfOk r (λ a. x ≡ Ok (g a)) → IfOk r (λ a. y ≡ Ok (g a))
through (Ok a) x y g same ok = same ∙ ok
through (Err e) x y g same ok = tt

map-push : {A B : Type 0} (f : A → B) (xs : List A) (x : A) → map f (xs ++ x ∷ []) ≡ map f xs ++ f x ∷ []
map-push f [] x = refl
map-push f (y ∷ ys) x = ap (λ zs. f y ∷ zs) (map-push f ys x)

module _ (frames : List (List Entry)) (xs : List Statement) (i : ℕ) (x : Statement) (within : i < length xs) (at : x ≡ get_or xs i x) (done : List Steps) (left : Left) where
  begin : unrolled_all frames (statements_of (map statement_of (drop i xs))) left ≡ unrolled_all frames (statements_of (map statement_of (x ∷ drop (i + 1) xs))) left
  begin = ap (λ ys. unrolled_all frames (statements_of (map statement_of ys)) left) (drop-at xs i x within at)

  pub statement-next : (all : List Steps) (s : Steps) (after : Left) → all ≡ done ++ s ∷ [] → unrolled frames (statement_of x) left ≡ Ok (steps_of s, after)
      → steps_so_far (map steps_of all) (unrolled_all frames (statements_of (map statement_of (drop (i + 1) xs))) after)
      ≡ steps_so_far (map steps_of done) (unrolled_all frames (statements_of (map statement_of (drop i xs))) left)
  statement-next all s after is made =
      let rest = unrolled_all frames (statements_of (map statement_of (drop (i + 1) xs))) after in
      ap (λ ys. steps_so_far (map steps_of ys) rest) is ∙ ap (λ ys. steps_so_far ys rest) (map-push steps_of done s)
      ∙ sym (ap (steps_so_far (map steps_of done)) begin
      ∙ steps-next frames (statement_of x) (statements_of (map statement_of (drop (i + 1) xs))) (map steps_of done) (steps_of s) left after made)

  pub statement-refuses : (e : ElabErr) (whole : Result (StepList × Left) ElabErr) → steps_so_far (map steps_of done) (unrolled_all frames (statements_of (map statement_of (drop i xs))) left) ≡ whole
      → Refuses (unrolled frames (statement_of x) left) e → Refuses whole e
  statement-refuses e whole inside (inl none) = inl none
  statement-refuses e whole inside (inr is) =
      inr (sym inside ∙ ap (steps_so_far (map steps_of done)) begin
      ∙ steps-refused frames (statement_of x) (statements_of (map statement_of (drop (i + 1) xs))) (map steps_of done) left e is)

pub statements-ended : (frames : List (List Entry)) (xs : List Statement) (i : ℕ) → length xs ≤ i → (done : List Steps) (left : Left) (whole : Result (StepList × Left) ElabErr)
    → steps_so_far (map steps_of done) (unrolled_all frames (statements_of (map statement_of (drop i xs))) left) ≡ whole → whole ≡ Ok (step_list_of (map steps_of done), left)
statements-ended frames xs i all done left whole rest =
    sym rest ∙ ap (λ ys. steps_so_far (map steps_of done) (unrolled_all frames (statements_of (map statement_of ys)) left)) (drop_all i xs all)
    ∙ steps-end (map steps_of done) left

module _ (frames : List (List Entry)) (xs : List CaseItem) (i : ℕ) (x : CaseItem) (within : i < length xs) (at : x ≡ get_or xs i x) (done : List Arm) (left : Left) where
  begin-arms : unrolled_arms frames (case_items_of (map case_item_of (drop i xs))) left ≡ unrolled_arms frames (case_items_of (map case_item_of (x ∷ drop (i + 1) xs))) left
  begin-arms = ap (λ ys. unrolled_arms frames (case_items_of (map case_item_of ys)) left) (drop-at xs i x within at)

  pub arm-next : (all : List Arm) (a : Arm) (after : Left) → all ≡ done ++ a ∷ [] → loop_arm frames (case_item_of x) left ≡ Ok (arm_of a, after)
      → arms_so_far (map arm_of all) (unrolled_arms frames (case_items_of (map case_item_of (drop (i + 1) xs))) after)
      ≡ arms_so_far (map arm_of done) (unrolled_arms frames (case_items_of (map case_item_of (drop i xs))) left)
  arm-next all a after is made =
      let rest = unrolled_arms frames (case_items_of (map case_item_of (drop (i + 1) xs))) after in
      ap (λ ys. arms_so_far (map arm_of ys) rest) is ∙ ap (λ ys. arms_so_far ys rest) (map-push arm_of done a)
      ∙ sym (ap (arms_so_far (map arm_of done)) begin-arms
      ∙ arms-next frames (case_item_of x) (case_items_of (map case_item_of (drop (i + 1) xs))) (map arm_of done) (arm_of a) left after made)

pub arms-ended : (frames : List (List Entry)) (xs : List CaseItem) (i : ℕ) → length xs ≤ i → (done : List Arm) (left : Left) (whole : Result (Arms × Left) ElabErr)
    → arms_so_far (map arm_of done) (unrolled_arms frames (case_items_of (map case_item_of (drop i xs))) left) ≡ whole → whole ≡ Ok (arms_of (map arm_of done), left)
arms-ended frames xs i all done left whole rest =
    sym rest ∙ ap (λ ys. arms_so_far (map arm_of done) (unrolled_arms frames (case_items_of (map case_item_of ys)) left)) (drop_all i xs all)
    ∙ arms-end (map arm_of done) left

-- ---- a whole loop
module _ (frames around : List (List Entry)) (same : around ≡ frames) (span : Span) (head : PlainHead) (body : PlainStatement) (left : Left) (value : Const) (runs : Bool)
    (u : ⊤) (found : loop_variable frames head.variable ≡ Ok u) (begins : begun frames head ≡ Ok (value, runs)) where
  loop-is : loop_unrolled frames span head body left ≡ loop_turns around span head body (value, runs) left >>= λ x. Ok (repeated head.variable x.met, x.left)
  loop-is =
      ap (λ (r : Result ⊤ ElabErr). r >>= λ _. begun frames head >>= λ first. loop_turns frames span head body first left >>= λ x. Ok (repeated head.variable x.met, x.left)) found
      ∙ ap (λ (r : Result (Const × Bool) ElabErr). r >>= λ first. loop_turns frames span head body first left >>= λ x. Ok (repeated head.variable x.met, x.left)) begins
      ∙ ap (λ fs. loop_turns fs span head body (value, runs) left >>= λ x. Ok (repeated head.variable x.met, x.left)) (sym same)

  pub loop-ok : (x : Looped) → loop_turns around span head body (value, runs) left ≡ Ok x → loop_unrolled frames span head body left ≡ Ok (repeated head.variable x.met, x.left)
  loop-ok x ran = loop-is ∙ ap (λ (r : Result Looped ElabErr). r >>= λ x. Ok (repeated head.variable x.met, x.left)) ran

  pub loop-refuses : (e : ElabErr) → Refuses (loop_turns around span head body (value, runs) left) e → Refuses (loop_unrolled frames span head body left) e
  loop-refuses e (inl none) = inl none
  loop-refuses e (inr is) = inr (loop-is ∙ ap (λ (r : Result Looped ElabErr). r >>= λ x. Ok (repeated head.variable x.met, x.left)) is)

-- ---- the turns of a loop
module _ (frames around : List (List Entry)) (same : around ≡ frames) (span : Span) (head : PlainHead) (body : PlainStatement) (n : ℕ) (few : n < 65536)
    (value : Const) (runs : Bool) (goes : runs ≡ true) (done : List Turn) (left : Left) (whole : Result Looped ElabErr)
    (rest : turns_from frames span head body (65536 - n) value runs (map turn_of done) left ≡ whole) where
  one-less : 65536 - n ≡ suc (65536 - (n + 1))
  one-less = omega (arith, few)

  inside : {r : Result (PlainTurn × Left) ElabErr} → one_turn around span head body value left ≡ r → one_turn frames span head body value left ≡ r
  inside is = ap (λ fs. one_turn fs span head body value left) (sym same) ∙ is

  pub turn-next : (t : Turn) (after : Left) (scopes : List (List Entry)) (next : Const) (more : Bool) (all : List Turn)
      → one_turn around span head body value left ≡ Ok (turn_of t, after) → scopes ≡ frames → stepped scopes head value ≡ Ok (next, more) → all ≡ done ++ t ∷ []
      → turns_from frames span head body (65536 - (n + 1)) next more (map turn_of all) after ≡ whole
  turn-next t after scopes next more all made back steps is =
      ap (λ ts. turns_from frames span head body (65536 - (n + 1)) next more (map turn_of ts) after) is
      ∙ ap (λ ts. turns_from frames span head body (65536 - (n + 1)) next more ts after) (map-push turn_of done t)
      ∙ sym (turns-next frames span head body (65536 - n) (65536 - (n + 1)) value runs (map turn_of done) left after (turn_of t) next more goes one-less
      (inside made) (ap (λ fs. stepped fs head value) (sym back) ∙ steps)) ∙ rest

  pub turn-refuses : (e : ElabErr) → Refuses (one_turn around span head body value left) e → Refuses whole e
  turn-refuses e (inl none) = inl none
  turn-refuses e (inr is) =
      inr (sym rest ∙ turns-refused frames span head body (65536 - n) (65536 - (n + 1)) value runs (map turn_of done) left e goes one-less (inside is))

  pub step-refuses : (t : Turn) (after : Left) (scopes : List (List Entry)) (e : ElabErr)
      → one_turn around span head body value left ≡ Ok (turn_of t, after) → scopes ≡ frames → Refuses (stepped scopes head value) e → Refuses whole e
  step-refuses t after scopes e made back (inl none) = inl none
  step-refuses t after scopes e made back (inr is) =
      inr (sym rest ∙ turns-step_refused frames span head body (65536 - n) (65536 - (n + 1)) value runs (map turn_of done) left after (turn_of t) e goes one-less
      (inside made) (ap (λ fs. stepped fs head value) (sym back) ∙ is))

pub turns-ended : (frames : List (List Entry)) (span : Span) (head : PlainHead) (body : PlainStatement) (n : ℕ) (value : Const) (runs : Bool) (done : List Turn) (left : Left)
    (whole : Result Looped ElabErr) → turns_from frames span head body (65536 - n) value runs (map turn_of done) left ≡ whole → runs ≡ false
    → whole ≡ Ok (record { met = turns_of (map turn_of done); left = left })
turns-ended frames span head body n value runs done left whole rest ends = sym rest ∙ turns-end frames span head body (65536 - n) value runs (map turn_of done) left ends

pub turns-beyond : (frames : List (List Entry)) (span : Span) (head : PlainHead) (body : PlainStatement) (n : ℕ) (value : Const) (runs : Bool) (done : List Turn) (left : Left)
    (whole : Result Looped ElabErr) → turns_from frames span head body (65536 - n) value runs (map turn_of done) left ≡ whole → runs ≡ true → 65536 ≤ n
    → whole ≡ Err (fault.Turns span)
turns-beyond frames span head body n value runs done left whole rest goes many =
    let none : 65536 - n ≡ 0 = omega (arith, many) in
    sym rest ∙ turns-too_many frames span head body (65536 - n) value runs (map turn_of done) left goes none
