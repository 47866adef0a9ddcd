-- Two runs of the unrolling of a statement: they make the same, and leave the count of instances.
use Rattle.std.proofs.Common.{◌≡◌, ℕ, zero, suc, ◌+◌, Bool, List, [], ◌∷◌, refl, sym, ap, ◌∙◌, arith}
use Rattle.std.specs.Prelude.{Result, Ok, Err}
use Rattle.loc_base.specs.declared.span.Span.{Span}
use Rattle.v_syntax.specs.declared.declaration.Identifier.{Identifier}
use Rattle.v_syntax.specs.StatementTree.{PlainStatement, empty, block, delayed, if_then, if_else, choice, loop, assignment, Statements, no_statement, statement, labelled, otherwise, CaseItems, no_item, item}
use Rattle.v_sizes.specs.declared.meaning.Const.{Const}
use Rattle.v_hierarchy.specs.declared.error.ElabErr.{ElabErr}
use Rattle.v_hierarchy.specs.declared.left.Left.{Left}
use Rattle.v_hierarchy.specs.Steps.{◌>>=◌, less_of, turned}
use Rattle.v_hierarchy.specs.Names.{Entry}
use Rattle.v_hierarchy.specs.Unrolled.{Steps, nothing, still, run, branch, choose, repeated, StepList, no_step, step, Arms, no_arm, arm, default_arm, Turns, no_turn, turn, Looped, and_turn, at_turn, loop_turned, loop_turn, loop_variable, begun, stepped, turns, most_turns, unrolled, unrolled_all, unrolled_arms}
use Rattle.v_elaborate.specs.Laws.{steps_turns, list_turns, arms_turns, turns_turns}
use Rattle.v_elaborate.proofs.Runs.{Ok-same, Err-Ok, both, apart, ended, turns-run}

-- a turn leaves the count of instances
pub turned-keeps : (span : Span) (l m : Left) → turned span l ≡ Ok m → m.instances ≡ l.instances
turned-keeps span l m is = go (less_of l.turns span) is
  where
    go : (r : Result ℕ ElabErr) → r >>= (λ n. Ok (record { turns = n; instances = l.instances })) ≡ Ok m → m.instances ≡ l.instances
    go (Ok n) is = ap (λ (x : Left). x.instances) (sym (Ok-same is))
    go (Err e) is = Err-Ok is

-- a turn is one less
pub turned-less : (span : Span) (l m : Left) → turned span l ≡ Ok m → l.turns ≡ suc m.turns
turned-less span l m is = go l.turns is
  where
    go : (n : ℕ) → less_of n span >>= (λ n. Ok (record { turns = n; instances = l.instances })) ≡ Ok m → n ≡ suc m.turns
    go zero is = Err-Ok is
    go (suc n) is = ap suc (ap (λ (x : Left). x.turns) (Ok-same is))

-- what two runs make of a statement or of several: the same, with the turns that are counted
pub record Alike (A : Type 0) (count : A → ℕ) (l : Left) (x y : A × Left) : Type 0 where
  pub same : x.0 ≡ y.0
  pub kept : x.1.instances ≡ l.instances
  pub total : count x.0 + x.1.turns ≡ l.turns

-- what two runs have met of a loop, so many turns after the last that is met
record AlikeTurns (now : ℕ) (l : Left) (m n : Looped) : Type 0 where
  same : m.met ≡ n.met
  kept : m.left.instances ≡ l.instances
  total : now + (turns_turns m.met + m.left.turns) ≡ l.turns

turns-and_turn : (ts : Turns) (value : Const) (body : Steps) → turns_turns (and_turn ts value body) ≡ suc (steps_turns body + turns_turns ts)
turns-and_turn no_turn value body = refl
turns-and_turn (turn v b rest) value body = omega (arith, turns-and_turn rest value body)

turned-alike : (k : Left) (span : Span) (m n a b : Looped) → AlikeTurns 0 k m n → loop_turned span m ≡ Ok a → loop_turned span n ≡ Ok b → AlikeTurns 1 k a b
turned-alike k span m n a b holds one other =
    apart (turned span m.left) (turned span n.left) _ _ a b (AlikeTurns 1 k a b) one other λ p q first second one other.
    let less = turned-less span m.left p first in
    ended (AlikeTurns 1 k) (record { met = m.met; left = p }) (record { met = n.met; left = q }) a b one other
    (record { same = holds.same; kept = turned-keeps span m.left p first ∙ holds.kept; total = omega (arith, less, holds.total) })

turn-alike : (body : List (List Entry) → Left → Result (Steps × Left) ElabErr)
    → ((scopes : List (List Entry)) (l r : Left) (x y : Steps × Left) → body scopes l ≡ Ok x → body scopes r ≡ Ok y → Alike Steps steps_turns l x y)
    → (k : Left) (frames : List (List Entry)) (variable : Identifier) (value : Const) (m n a b : Looped) → AlikeTurns 1 k m n
    → loop_turn body frames variable value m ≡ Ok a → loop_turn body frames variable value n ≡ Ok b → AlikeTurns 0 k a b
turn-alike body alike k frames variable value m n a b holds one other =
    apart (body (at_turn variable value frames) m.left) (body (at_turn variable value frames) n.left) _ _ a b (AlikeTurns 0 k a b) one other λ p q first second one other.
    let h = alike (at_turn variable value frames) m.left n.left p q first second in
    ended (AlikeTurns 0 k) (record { met = and_turn m.met value p.0; left = p.1 }) (record { met = and_turn n.met value q.0; left = q.1 }) a b one other
    (record {
      same = ap (λ t. and_turn t value p.0) holds.same ∙ ap (and_turn n.met value) h.same;
      kept = h.kept ∙ holds.kept;
      total = omega (arith, turns-and_turn m.met value p.0, h.total, holds.total);
    })

-- a loop from its first value on
abbrev loop_end : ℕ → Span → Identifier → (List (List Entry) → Left → Result (Steps × Left) ElabErr) → List (List Entry) → (Const → Result (Const × Bool) ElabErr)
    → Left → Const × Bool → Result (Steps × Left) ElabErr
loop_end most span variable body frames next left first =
    turns most span (loop_turned span) (loop_turn body frames variable) next first (record { met = no_turn; left = left }) >>= λ x. Ok (repeated variable x.met, x.left)

loop-alike : (most : ℕ) (span : Span) (variable : Identifier) (body : List (List Entry) → Left → Result (Steps × Left) ElabErr) (frames : List (List Entry))
    (next : Const → Result (Const × Bool) ElabErr) (first : Const × Bool)
    → ((scopes : List (List Entry)) (l r : Left) (x y : Steps × Left) → body scopes l ≡ Ok x → body scopes r ≡ Ok y → Alike Steps steps_turns l x y)
    → (l r : Left) (x y : Steps × Left) → loop_end most span variable body frames next l first ≡ Ok x → loop_end most span variable body frames next r first ≡ Ok y
    → Alike Steps steps_turns l x y
loop-alike most span variable body frames next first alike l r x y one other =
    apart (turns most span (loop_turned span) (loop_turn body frames variable) next first (record { met = no_turn; left = l }))
    (turns most span (loop_turned span) (loop_turn body frames variable) next first (record { met = no_turn; left = r }))
    (λ z. Ok (repeated variable z.met, z.left)) (λ z. Ok (repeated variable z.met, z.left)) x y (Alike Steps steps_turns l x y) one other λ p q third fourth one other.
    let h = turns-run (AlikeTurns 0 l) (AlikeTurns 1 l) span (loop_turned span) (loop_turn body frames variable) (loop_turn body frames variable) next
    (turned-alike l span) (turn-alike body alike l frames variable)
    most first.0 first.1 (record { met = no_turn; left = l }) (record { met = no_turn; left = r }) p q (record { same = refl; kept = refl; total = omega arith }) third fourth in
    let counted : turns_turns p.met + p.left.turns ≡ l.turns = omega (arith, h.total) in
    ended (Alike Steps steps_turns l) (repeated variable p.met, p.left) (repeated variable q.met, q.left) x y one other
    (record { same = ap (repeated variable) h.same; kept = h.kept; total = counted })

mutual
  pub unrolled-alike : (frames : List (List Entry)) (s : PlainStatement) (l r : Left) (x y : Steps × Left)
      → unrolled frames s l ≡ Ok x → unrolled frames s r ≡ Ok y → Alike Steps steps_turns l x y
  unrolled-alike frames (empty _) l r x y one other = ended (Alike Steps steps_turns l) (nothing, l) (nothing, r) x y one other (record { same = refl; kept = refl; total = omega arith })
  unrolled-alike frames (block _ _ body) l r x y one other =
      apart (unrolled_all frames body l) (unrolled_all frames body r) _ _ x y (Alike Steps steps_turns l x y) one other λ p q first second one other.
      let h = all-alike frames body l r p q first second in
      ended (Alike Steps steps_turns l) (run p.0, p.1) (run q.0, q.1) x y one other (record { same = ap run h.same; kept = h.kept; total = h.total })
  unrolled-alike frames (delayed _ _ body) l r x y one other = unrolled-alike frames body l r x y one other
  unrolled-alike frames (if_then _ condition on_true) l r x y one other =
      apart (unrolled frames on_true l) (unrolled frames on_true r) _ _ x y (Alike Steps steps_turns l x y) one other λ p q first second one other.
      let h = unrolled-alike frames on_true l r p q first second in
      ended (Alike Steps steps_turns l) (branch condition p.0 nothing, p.1) (branch condition q.0 nothing, q.1) x y one other
      (record { same = ap (λ b. branch condition b nothing) h.same; kept = h.kept; total = omega (arith, h.total) })
  unrolled-alike frames (if_else _ condition on_true on_false) l r x y one other =
      apart (unrolled frames on_true l) (unrolled frames on_true r) _ _ x y (Alike Steps steps_turns l x y) one other λ p q first second one other.
      let h = unrolled-alike frames on_true l r p q first second in
      apart (unrolled frames on_false p.1) (unrolled frames on_false q.1) _ _ x y (Alike Steps steps_turns l x y) one other λ p' q' third fourth one other.
      let h' = unrolled-alike frames on_false p.1 q.1 p' q' third fourth in
      ended (Alike Steps steps_turns l) (branch condition p.0 p'.0, p'.1) (branch condition q.0 q'.0, q'.1) x y one other
      (record { same = ap (λ b. branch condition b p'.0) h.same ∙ ap (branch condition q.0) h'.same; kept = h'.kept ∙ h.kept; total = omega (arith, h.total, h'.total) })
  unrolled-alike frames (choice _ kind subject items) l r x y one other =
      apart (unrolled_arms frames items l) (unrolled_arms frames items r) _ _ x y (Alike Steps steps_turns l x y) one other λ p q first second one other.
      let h = arms-alike frames items l r p q first second in
      ended (Alike Steps steps_turns l) (choose kind subject p.0, p.1) (choose kind subject q.0, q.1) x y one other (record { same = ap (choose kind subject) h.same; kept = h.kept; total = h.total })
  unrolled-alike frames (loop s head body) l r x y one other =
      both (loop_variable frames head.variable) _ _ x y (Alike Steps steps_turns l x y) one other λ _ one other.
      both (begun frames head) (loop_end most_turns s.span head.variable (λ scopes. unrolled scopes body) frames (stepped frames head) l)
      (loop_end most_turns s.span head.variable (λ scopes. unrolled scopes body) frames (stepped frames head) r) x y (Alike Steps steps_turns l x y) one other λ first one other.
      loop-alike most_turns s.span head.variable (λ scopes. unrolled scopes body) frames (stepped frames head) first
      (λ scopes l r x y one other. unrolled-alike scopes body l r x y one other) l r x y one other
  unrolled-alike frames (assignment s target kind delay value) l r x y one other =
      ended (Alike Steps steps_turns l) (still (assignment s target kind delay value), l) (still (assignment s target kind delay value), r) x y one other (record { same = refl; kept = refl; total = omega arith })

  pub all-alike : (frames : List (List Entry)) (ss : Statements) (l r : Left) (x y : StepList × Left)
      → unrolled_all frames ss l ≡ Ok x → unrolled_all frames ss r ≡ Ok y → Alike StepList list_turns l x y
  all-alike frames no_statement l r x y one other = ended (Alike StepList list_turns l) (no_step, l) (no_step, r) x y one other (record { same = refl; kept = refl; total = omega arith })
  all-alike frames (statement s ss) l r x y one other =
      apart (unrolled frames s l) (unrolled frames s r) _ _ x y (Alike StepList list_turns l x y) one other λ p q first second one other.
      let h = unrolled-alike frames s l r p q first second in
      apart (unrolled_all frames ss p.1) (unrolled_all frames ss q.1) _ _ x y (Alike StepList list_turns l x y) one other λ p' q' third fourth one other.
      let h' = all-alike frames ss p.1 q.1 p' q' third fourth in
      ended (Alike StepList list_turns l) (step p.0 p'.0, p'.1) (step q.0 q'.0, q'.1) x y one other
      (record { same = ap (λ b. step b p'.0) h.same ∙ ap (step q.0) h'.same; kept = h'.kept ∙ h.kept; total = omega (arith, h.total, h'.total) })

  pub arms-alike : (frames : List (List Entry)) (items : CaseItems) (l r : Left) (x y : Arms × Left)
      → unrolled_arms frames items l ≡ Ok x → unrolled_arms frames items r ≡ Ok y → Alike Arms arms_turns l x y
  arms-alike frames no_item l r x y one other = ended (Alike Arms arms_turns l) (no_arm, l) (no_arm, r) x y one other (record { same = refl; kept = refl; total = omega arith })
  arms-alike frames (item (labelled _ labels body) rest) l r x y one other =
      apart (unrolled frames body l) (unrolled frames body r) _ _ x y (Alike Arms arms_turns l x y) one other λ p q first second one other.
      let h = unrolled-alike frames body l r p q first second in
      apart (unrolled_arms frames rest p.1) (unrolled_arms frames rest q.1) _ _ x y (Alike Arms arms_turns l x y) one other λ p' q' third fourth one other.
      let h' = arms-alike frames rest p.1 q.1 p' q' third fourth in
      ended (Alike Arms arms_turns l) (arm labels p.0 p'.0, p'.1) (arm labels q.0 q'.0, q'.1) x y one other
      (record { same = ap (λ b. arm labels b p'.0) h.same ∙ ap (arm labels q.0) h'.same; kept = h'.kept ∙ h.kept; total = omega (arith, h.total, h'.total) })
  arms-alike frames (item (otherwise _ body) rest) l r x y one other =
      apart (unrolled frames body l) (unrolled frames body r) _ _ x y (Alike Arms arms_turns l x y) one other λ p q first second one other.
      let h = unrolled-alike frames body l r p q first second in
      apart (unrolled_arms frames rest p.1) (unrolled_arms frames rest q.1) _ _ x y (Alike Arms arms_turns l x y) one other λ p' q' third fourth one other.
      let h' = arms-alike frames rest p.1 q.1 p' q' third fourth in
      ended (Alike Arms arms_turns l) (default_arm p.0 p'.0, p'.1) (default_arm q.0 q'.0, q'.1) x y one other
      (record { same = ap (λ b. default_arm b p'.0) h.same ∙ ap (default_arm q.0) h'.same; kept = h'.kept ∙ h.kept; total = omega (arith, h.total, h'.total) })
