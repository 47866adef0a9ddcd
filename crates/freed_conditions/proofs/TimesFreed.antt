-- How many times a place stands in a freed statement: as often as in the statement, and once more where it is that of a condition.
use Rattle.std.proofs.Common.{ℕ, ◌+◌, ◌≡◌, ◌<◌, ◌≤◌, true, false, List, [], ◌∷◌, ◌++◌, length, ap, ◌∙◌, sym, arith, length-append, ◌⊎◌, inl, inr}
use Rattle.std.specs.Prelude.{◌==◌, nat_le, nat_lt, if◌then◌else◌}
use Rattle.std.proofs.lemmas.Bool.{and_from, and_left, and_right, lt-ltb, le-ltb, le-leb, lt-leb, eq-eqb, ne_eqb, cases_lt}
use Rattle.design_core.specs.declared.expression.Typed.{Typed}
use Rattle.design_core.specs.declared.statement.Stmt.{Stmt, Row_of-Stmt, end_of-Stmt, more_of-Stmt, Row_of-CaseItem, end_of-CaseItem, more_of-CaseItem}
use Rattle.design_core.specs.declared.statement.Stmt.TheVariants.{Nothing, Block', If', Case', Set}
use Rattle.design_core.specs.Constant.{is_constant}
use Rattle.design_core.specs.Operator.{one_if}
use Rattle.design_core.specs.Drives.{is_among}
use Rattle.design_core.specs.WellFormed.{times_in, times_in_all, times_in_items}
use Rattle.freed_conditions.specs.Kept.{Next, behind, behind_one, truth, kept_of, subject_of, whole, keep}
use Rattle.freed_conditions.specs.Widths.{own_width, widths, widths_of, widths_in}
use Rattle.freed_conditions.specs.Freed.{both, freed, freed_all, freed_in}
use Rattle.freed_conditions.proofs.FitsFreed.{if_known}

-- whether a place is one of so many from a first on, as a number
abbrev pub counted : ℕ → ℕ → ℕ → ℕ
counted first count p = one_if (is_among first count p)

pub counted-before : (first count p : ℕ) → p < first → counted first count p ≡ 0
counted-before first count p below = ap one_if (and_left (nat_le first p) (nat_lt p (first + count)) (lt-leb first p below))

pub counted-behind : (first count p : ℕ) → first + count ≤ p → counted first count p ≡ 0
counted-behind first count p above = ap one_if (and_right (nat_le first p) (nat_lt p (first + count)) (le-ltb p (first + count) above))

pub counted-at : (first count p : ℕ) → first ≤ p → p < first + count → counted first count p ≡ 1
counted-at first count p above below =
    ap one_if (and_from (nat_le first p) (nat_lt p (first + count)) (le-leb first p above) (lt-ltb p (first + count) below))

pub counted-none : (first p : ℕ) → counted first 0 p ≡ 0
counted-none first p = at (cases_lt p first)
  where
    at : (p < first) ⊎ (first ≤ p) → counted first 0 p ≡ 0
    at (inl below) = counted-before first 0 p below
    at (inr above) = counted-behind first 0 p (omega arith)

pub counted-sum : (first x y p : ℕ) → counted first (x + y) p ≡ counted first x p + counted (first + x) y p
counted-sum first x y p = at (cases_lt p first) (cases_lt p (first + x)) (cases_lt p (first + x + y))
  where
    at : (p < first) ⊎ (first ≤ p) → (p < first + x) ⊎ (first + x ≤ p) → (p < first + x + y) ⊎ (first + x + y ≤ p)
        → counted first (x + y) p ≡ counted first x p + counted (first + x) y p
    at (inl below) middle last = omega (arith, counted-before first (x + y) p below, counted-before first x p below, counted-before (first + x) y p (omega arith))
    at (inr above) (inl below) last = omega (arith, counted-at first (x + y) p above (omega arith), counted-at first x p above below, counted-before (first + x) y p below)
    at (inr above) (inr behind) (inl below) = omega (arith, counted-at first (x + y) p above (omega arith), counted-behind first x p behind, counted-at (first + x) y p behind (omega arith))
    at (inr above) (inr behind) (inr last) = omega (arith, counted-behind first (x + y) p (omega arith), counted-behind first x p behind, counted-behind (first + x) y p (omega arith))

-- those of two lists of conditions
pub counted-append : (first : ℕ) (xs ys : List ℕ) (p : ℕ) → counted first (length (xs ++ ys)) p ≡ counted first (length xs) p + counted (first + length xs) (length ys) p
counted-append first xs ys p = ap (λ k. counted first k p) (length-append xs ys) ∙ counted-sum first (length xs) (length ys) p

-- one place
pub counted-one : (first p : ℕ) → (if first == p then 1 else 0) ≡ counted first 1 p
counted-one first p = at (cases_lt p first) (cases_lt p (first + 1))
  where
    at : (p < first) ⊎ (first ≤ p) → (p < first + 1) ⊎ (first + 1 ≤ p) → (if first == p then 1 else 0) ≡ counted first 1 p
    at (inl below) next = ap one_if (ne_eqb first p (λ same. absurd (omega arith))) ∙ sym (counted-before first 1 p below)
    at (inr above) (inl below) = ap one_if (eq-eqb first p (omega arith)) ∙ sym (counted-at first 1 p above below)
    at (inr above) (inr behind) = ap one_if (ne_eqb first p (λ same. absurd (omega arith))) ∙ sym (counted-behind first 1 p behind)

-- a statement with a condition of its own, where the arms are known
constant-times : (n : Next) (e : Typed) (w : ℕ) (xs ys : List ℕ) (p a a' b b' : ℕ) → is_constant e.node ≡ true
    → a' ≡ a + counted n.place (length xs) p → b' ≡ b + counted (n.place + length xs) (length ys) p
    → a' + b' ≡ (a + b) + counted n.place (length (own_width e w ++ (xs ++ ys))) p
constant-times n e w xs ys p a a' b b' is one other =
    let own : own_width e w ≡ [] = ap (λ t. if t then [] else (w ∷ [])) is in
    let whole : counted n.place (length (own_width e w ++ (xs ++ ys))) p ≡ counted n.place (length (xs ++ ys)) p =
    ap (λ (ws : List ℕ). counted n.place (length (ws ++ (xs ++ ys))) p) own in
    omega (arith, whole, counted-append n.place xs ys p, one, other)

kept-times : (n : Next) (e : Typed) (w : ℕ) (xs ys : List ℕ) (p a a' b b' : ℕ) → is_constant e.node ≡ false
    → a' ≡ a + counted (n.place + 1) (length xs) p → b' ≡ b + counted (n.place + 1 + length xs) (length ys) p
    → (if n.place == p then 1 else 0) + ((a' + b') + 0) ≡ (a + b) + counted n.place (length (own_width e w ++ (xs ++ ys))) p
kept-times n e w xs ys p a a' b b' is one other =
    let own : own_width e w ≡ (w ∷ []) = ap (λ t. if t then [] else (w ∷ [])) is in
    let whole : counted n.place (length (own_width e w ++ (xs ++ ys))) p ≡ counted n.place (length ((w ∷ []) ++ (xs ++ ys))) p =
    ap (λ (ws : List ℕ). counted n.place (length (ws ++ (xs ++ ys))) p) own in
    omega (arith, whole, counted-append n.place (w ∷ []) (xs ++ ys) p, counted-append (n.place + 1) xs ys p, counted-one n.place p, one, other)

mutual
  pub times-freed : (p : ℕ) (n : Next) (statement : Stmt) → times_in p (freed n statement) ≡ times_in p statement + counted n.place (length (widths statement)) p
  times-freed p n Nothing = omega (arith, counted-none n.place p)
  times-freed p n (Block' _ statements) = times_all-freed p n statements
  times-freed p n (If' test _ (more_of-Stmt on_true end_of-Stmt) _ (more_of-Stmt on_false end_of-Stmt)) =
      let i = behind_one n in
      if_known (λ s. times_in p s ≡ (times_in p on_true + times_in p on_false) + counted n.place (length (own_width test 1 ++ (widths on_true ++ widths on_false))) p) (is_constant test.node)
      (If' test _ (more_of-Stmt (freed n on_true) end_of-Stmt) _ (more_of-Stmt (freed (behind (widths on_true) n) on_false) end_of-Stmt))
      (both (keep n (truth test))
      (If' (whole 1 false n.signal) _ (more_of-Stmt (freed i on_true) end_of-Stmt) _ (more_of-Stmt (freed (behind (widths on_true) i) on_false) end_of-Stmt)))
      (λ is. constant-times n test 1 (widths on_true) (widths on_false) p (times_in p on_true) (times_in p (freed n on_true)) (times_in p on_false)
      (times_in p (freed (behind (widths on_true) n) on_false)) is (times-freed p n on_true) (times-freed p (behind (widths on_true) n) on_false))
      (λ is. kept-times n test 1 (widths on_true) (widths on_false) p (times_in p on_true) (times_in p (freed i on_true)) (times_in p on_false)
      (times_in p (freed (behind (widths on_true) i) on_false)) is (times-freed p i on_true) (times-freed p (behind (widths on_true) i) on_false))
  times-freed p n (Case' subject shape items _ (more_of-Stmt other end_of-Stmt) wild) =
      let i = behind_one n in
      if_known (λ s. times_in p s ≡ (times_in_items p items + times_in p other) + counted n.place (length (own_width subject (kept_of subject).width ++ (widths_in items ++ widths other))) p)
      (is_constant subject.node)
      (Case' subject shape (freed_in n items) _ (more_of-Stmt (freed (behind (widths_in items) n) other) end_of-Stmt) wild)
      (both (keep n (kept_of subject))
      (Case' (subject_of subject n.signal) shape (freed_in i items) _ (more_of-Stmt (freed (behind (widths_in items) i) other) end_of-Stmt) wild))
      (λ is. constant-times n subject (kept_of subject).width (widths_in items) (widths other) p (times_in_items p items) (times_in_items p (freed_in n items)) (times_in p other)
      (times_in p (freed (behind (widths_in items) n) other)) is (times_items-freed p n items) (times-freed p (behind (widths_in items) n) other))
      (λ is. kept-times n subject (kept_of subject).width (widths_in items) (widths other) p (times_in_items p items) (times_in_items p (freed_in i items)) (times_in p other)
      (times_in p (freed (behind (widths_in items) i) other)) is (times_items-freed p i items) (times-freed p (behind (widths_in items) i) other))
  times-freed p n (Set place _ _ _) = omega (arith, counted-none n.place p)

  pub times_all-freed : {shape : _} (p : ℕ) (n : Next) (statements : Row_of-Stmt shape)
      → times_in_all p (freed_all n statements) ≡ times_in_all p statements + counted n.place (length (widths_of statements)) p
  times_all-freed p n end_of-Stmt = omega (arith, counted-none n.place p)
  times_all-freed p n (more_of-Stmt statement rest) =
      omega (arith, counted-append n.place (widths statement) (widths_of rest) p, times-freed p n statement, times_all-freed p (behind (widths statement) n) rest)

  pub times_items-freed : {shape : _} (p : ℕ) (n : Next) (items : Row_of-CaseItem shape)
      → times_in_items p (freed_in n items) ≡ times_in_items p items + counted n.place (length (widths_in items)) p
  times_items-freed p n end_of-CaseItem = omega (arith, counted-none n.place p)
  times_items-freed p n (more_of-CaseItem labels body rest) =
      omega (arith, counted-append n.place (widths body) (widths_in rest) p, times-freed p n body, times_items-freed p (behind (widths body) n) rest)
