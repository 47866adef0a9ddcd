-- What a place computes where its statement is executed; a statement does the same where more places are freed and the
-- added ones are given what they compute, in the bits that they have.
use Rattle.std.proofs.Common.{ℕ, ◌+◌, ◌≡◌, ◌≤◌, Bool, true, false, cond, ◌&&◌, List, refl, ap, ◌∙◌, subst, arith, Option, Some, None}
use Rattle.std.specs.Prelude.{◌==◌, nat_lt, if◌then◌else◌, slice_get}
use Rattle.std.specs.List.{list_any, list_all}
use Rattle.std.specs.Option.{option_map_or}
use Rattle.std.proofs.lemmas.Bool.{and_parts, eqb-true, eq-eqb, lt-ltb, le-ltb, cond-true, cond-false}
use Rattle.design_core.specs.declared.signal.Signal.{Signal}
use Rattle.design_core.specs.declared.place.Place.{Place}
use Rattle.design_core.specs.declared.statement.Part.{Part}
use Rattle.design_core.specs.declared.statement.Stmt.{Stmt, Row_of-Stmt, end_of-Stmt, more_of-Stmt, Row_of-CaseItem, end_of-CaseItem, more_of-CaseItem}
use Rattle.design_core.specs.declared.statement.Stmt.TheVariants.{Nothing, Block', If', Case', Set}
use Rattle.design_core.specs.Valuation.{Valuation, bit}
use Rattle.design_core.specs.Operator.{is_true}
use Rattle.design_core.specs.Value.{value}
use Rattle.design_core.specs.Store.{parts_width}
use Rattle.design_core.specs.After.{Choice, assigned, Updates, matches, after_set, after, after_all, after_case}
use Rattle.design_core.specs.WellFormed.{place_fits, assignment_fits, typed_fits, statement_fits, statements_fit, items_fit, label_fits, times_in, times_in_all, times_in_items}
use Rattle.design_core.proofs.StoreBits.{SameBelow, store-bits}

abbrev mutual
  -- what a place that stands in a statement computes, where the statement is begun in m
  pub computed : List Signal → Choice → ℕ → Stmt → Updates → ℕ
  computed signals choice p Nothing m = 0
  computed signals choice p (Block' _ statements) m = computed_all signals choice p statements m
  computed signals choice p (If' cond _ (more_of-Stmt on_true end_of-Stmt) _ (more_of-Stmt on_false end_of-Stmt)) m =
      if is_true (value signals m.now cond) then computed signals choice p on_true m else computed signals choice p on_false m
  computed signals choice p (Case' subject _ items _ (more_of-Stmt other end_of-Stmt) _) m =
      computed_case signals choice p (value signals m.now subject) items m (computed signals choice p other m)
  computed signals choice p (Set _ _ e _) m = value signals m.now e

  pub computed_all : {shape : _} → List Signal → Choice → ℕ → Row_of-Stmt shape → Updates → ℕ
  computed_all signals choice p end_of-Stmt m = 0
  computed_all signals choice p (more_of-Stmt statement rest) m =
      if nat_lt 0 (times_in p statement)
      then computed signals choice p statement m
      else computed_all signals choice p rest (after signals choice statement m)

  pub computed_case : {shape : _} → List Signal → Choice → ℕ → ℕ → Row_of-CaseItem shape → Updates → ℕ → ℕ
  computed_case signals choice p subject end_of-CaseItem m other = other
  computed_case signals choice p subject (more_of-CaseItem labels body rest) m other =
      if list_any (matches signals m.now subject) labels
      then computed signals choice p body m
      else computed_case signals choice p subject rest m other

-- a place that stands at most once assigns the same bits by two choices, where it computes a value
pub record SamePlaces (places : List Place) (choice wider : Choice) (times computes : ℕ → ℕ) : Type 0 where
  pub once : (p : ℕ) (place : Place) → slice_get places p ≡ Some place → times p ≤ 1
  pub same : (p : ℕ) (place : Place) → slice_get places p ≡ Some place → 1 ≤ times p
      → SameBelow place.width (bit (assigned wider p (computes p))) (bit (assigned choice p (computes p)))

-- a place that fits a width is one of the list, with this width
pub place_fits-at : (places : List Place) (width p : ℕ) → place_fits places width p ≡ true
    → (place : Place) × (slice_get places p ≡ Some place) × (place.width ≡ width)
place_fits-at places width p h = found (slice_get places p) refl h
  where
    found : (o : Option Place) → slice_get places p ≡ o → option_map_or (λ place. place.width == width) o false ≡ true
        → (place : Place) × (slice_get places p ≡ Some place) × (place.width ≡ width)
    found None at h = cc
    found (Some place) at h = (place, at, eqb-true place.width width h)

-- what is said of more places is said of fewer, where these compute the same
pub narrowed : (places : List Place) (choice wider : Choice) (times times' computes computes' : ℕ → ℕ)
    → SamePlaces places choice wider times computes
    → ((p : ℕ) → times' p ≤ times p)
    → ((p : ℕ) → 1 ≤ times' p → times p ≤ 1 → computes p ≡ computes' p)
    → SamePlaces places choice wider times' computes'
narrowed places choice wider times times' computes computes' h fewer agree =
    record {
      once = λ p place at. let one : times p ≤ 1 = h.once p place at in let less : times' p ≤ times p = fewer p in omega arith;
      same = λ p place at stands.
          let less : times' p ≤ times p = fewer p in
          let P : ℕ → Type 0 = λ n. SameBelow place.width (bit (assigned wider p n)) (bit (assigned choice p n)) in
          subst P (agree p stands (h.once p place at)) (h.same p place at (omega arith));
    }

-- both arms of a condition
arms_same : {A : Type 0} (t : Bool) (x y x' y' : A) → (t ≡ true → x' ≡ x) → (t ≡ false → y' ≡ y) → (if t then x' else y') ≡ (if t then x else y)
arms_same true x y x' y' at_true at_false = at_true refl
arms_same false x y x' y' at_true at_false = at_false refl

-- an assignment of the same bits
pub after_set-bits : (signals : List Signal) (parts : List Part) (f g : ℕ → Bool) (later : Bool) (m : Updates)
    → SameBelow (parts_width signals parts) f g → after_set signals parts f later m ≡ after_set signals parts g later m
after_set-bits signals parts f g true m same =
    ap (λ (M : Valuation). let n : Updates = record m { later = M } in n) (store-bits signals m.now m.later parts f g same)
after_set-bits signals parts f g false m same =
    ap (λ (M : Valuation). let n : Updates = record m { now = M } in n) (store-bits signals m.now m.now parts f g same)

mutual
  pub after-wider : (signals : List Signal) (places : List Place) (choice wider : Choice) (statement : Stmt) (m : Updates)
      → statement_fits signals places statement ≡ true
      → SamePlaces places choice wider (λ p. times_in p statement) (λ p. computed signals choice p statement m)
      → after signals wider statement m ≡ after signals choice statement m
  after-wider signals places choice wider Nothing m fits h = refl
  after-wider signals places choice wider (Block' _ statements) m fits h = after_all-wider signals places choice wider statements m fits h
  after-wider signals places choice wider (If' e x (more_of-Stmt on_true end_of-Stmt) x' (more_of-Stmt on_false end_of-Stmt)) m fits h =
      let test : Bool = is_true (value signals m.now e) in
      let when_true : ℕ → ℕ = λ p. computed signals choice p on_true m in
      let when_false : ℕ → ℕ = λ p. computed signals choice p on_false m in
      let times : ℕ → ℕ = λ p. times_in p on_true + times_in p on_false in
      let arms_fit = and_parts (typed_fits signals e && statement_fits signals places on_true) (statement_fits signals places on_false) fits in
      arms_same test (after signals choice on_true m) (after signals choice on_false m) (after signals wider on_true m) (after signals wider on_false m)
      (λ is. after-wider signals places choice wider on_true m (and_parts (typed_fits signals e) (statement_fits signals places on_true) arms_fit.0).1
      (narrowed places choice wider times (λ p. times_in p on_true) (λ p. if test then when_true p else when_false p) when_true h
      (λ p. omega arith) (λ p stands once. cond-true test (when_true p) (when_false p) is)))
      (λ is. after-wider signals places choice wider on_false m arms_fit.1
      (narrowed places choice wider times (λ p. times_in p on_false) (λ p. if test then when_true p else when_false p) when_false h
      (λ p. omega arith) (λ p stands once. cond-false test (when_true p) (when_false p) is)))
  after-wider signals places choice wider (Case' subject x items x' (more_of-Stmt other end_of-Stmt) x'') m fits h =
      let fit = and_parts (typed_fits signals subject && items_fit signals places subject.width items) (statement_fits signals places other) fits in
      after_case-wider signals places choice wider (value signals m.now subject) subject.width items m (after signals choice other m) (after signals wider other m)
      (λ p. times_in p other) (λ p. computed signals choice p other m)
      (λ inner. after-wider signals places choice wider other m fit.1 inner)
      (and_parts (typed_fits signals subject) (items_fit signals places subject.width items) fit.0).1 h
  after-wider signals places choice wider (Set p target e later) m fits h =
      let fit = and_parts (assignment_fits signals target.parts e) (place_fits places (parts_width signals target.parts) p) fits in
      let (place, at, width) = place_fits-at places (parts_width signals target.parts) p fit.1 in
      let times : ℕ = if p == p then 1 else 0 in
      let one : times ≡ 1 = cond-true (p == p) 1 0 (eq-eqb p p refl) in
      after_set-bits signals target.parts (bit (assigned wider p (value signals m.now e))) (bit (assigned choice p (value signals m.now e))) later m
      (λ b below. h.same p place at (omega (arith, one)) b (omega (arith, width)))

  pub after_all-wider : {shape : _} (signals : List Signal) (places : List Place) (choice wider : Choice) (statements : Row_of-Stmt shape) (m : Updates)
      → statements_fit signals places statements ≡ true
      → SamePlaces places choice wider (λ p. times_in_all p statements) (λ p. computed_all signals choice p statements m)
      → after_all signals wider statements m ≡ after_all signals choice statements m
  after_all-wider signals places choice wider end_of-Stmt m fits h = refl
  after_all-wider signals places choice wider (more_of-Stmt statement rest) m fits h =
      let fit = and_parts (statement_fits signals places statement) (statements_fit signals places rest) fits in
      let times : ℕ → ℕ = λ p. times_in p statement + times_in_all p rest in
      let next : Updates = after signals choice statement m in
      let here : ℕ → ℕ = λ p. computed signals choice p statement m in
      let behind : ℕ → ℕ = λ p. computed_all signals choice p rest next in
      let computes : ℕ → ℕ = λ p. if nat_lt 0 (times_in p statement) then here p else behind p in
      let first : after signals wider statement m ≡ next =
      after-wider signals places choice wider statement m fit.0
      (narrowed places choice wider times (λ p. times_in p statement) computes here h (λ p. omega arith)
      (λ p stands once. cond-true (nat_lt 0 (times_in p statement)) (here p) (behind p) (lt-ltb 0 (times_in p statement) (omega arith)))) in
      ap (λ n. after_all signals wider rest n) first
      ∙ after_all-wider signals places choice wider rest next fit.1
      (narrowed places choice wider times (λ p. times_in_all p rest) computes behind h (λ p. omega arith)
      (λ p stands once. cond-false (nat_lt 0 (times_in p statement)) (here p) (behind p) (le-ltb 0 (times_in p statement) (omega arith))))

  pub after_case-wider : {shape : _} (signals : List Signal) (places : List Place) (choice wider : Choice) (subject width : ℕ) (items : Row_of-CaseItem shape)
      (m other other' : Updates) (times_other computes_other : ℕ → ℕ)
      → (SamePlaces places choice wider times_other computes_other → other' ≡ other)
      → items_fit signals places width items ≡ true
      → SamePlaces places choice wider (λ p. times_in_items p items + times_other p) (λ p. computed_case signals choice p subject items m (computes_other p))
      → after_case signals wider subject items m other' ≡ after_case signals choice subject items m other
  after_case-wider signals places choice wider subject width end_of-CaseItem m other other' times_other computes_other same fits h =
      same (narrowed places choice wider (λ p. 0 + times_other p) times_other computes_other computes_other h (λ p. omega arith) (λ p stands once. refl))
  after_case-wider signals places choice wider subject width (more_of-CaseItem labels body rest) m other other' times_other computes_other same fits h =
      let test : Bool = list_any (matches signals m.now subject) labels in
      let fit = and_parts (list_all (label_fits signals width) labels && statement_fits signals places body) (items_fit signals places width rest) fits in
      let times : ℕ → ℕ = λ p. (times_in p body + times_in_items p rest) + times_other p in
      let here : ℕ → ℕ = λ p. computed signals choice p body m in
      let behind : ℕ → ℕ = λ p. computed_case signals choice p subject rest m (computes_other p) in
      arms_same test (after signals choice body m) (after_case signals choice subject rest m other)
      (after signals wider body m) (after_case signals wider subject rest m other')
      (λ is. after-wider signals places choice wider body m (and_parts (list_all (label_fits signals width) labels) (statement_fits signals places body) fit.0).1
      (narrowed places choice wider times (λ p. times_in p body) (λ p. if test then here p else behind p) here h
      (λ p. omega arith) (λ p stands once. cond-true test (here p) (behind p) is)))
      (λ is. after_case-wider signals places choice wider subject width rest m other other' times_other computes_other same fit.1
      (narrowed places choice wider times (λ p. times_in_items p rest + times_other p) (λ p. if test then here p else behind p) behind h
      (λ p. omega arith) (λ p stands once. cond-false test (here p) (behind p) is)))
