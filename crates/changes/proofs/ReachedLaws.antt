-- What a place computes in a statement is the same by two choices that assign the same bits to each place that is carried out, and so is
-- what the statement leaves.
use Rattle.std.proofs.Common.{ℕ, suc, zero, ◌+◌, ◌%◌, ◌^◌, ◌≡◌, ◌≤◌, Bool, true, false, ◌&&◌, List, refl, ap, sym, ◌∙◌, arith, Option, Some, None}
use Rattle.std.specs.Prelude.{◌==◌, if◌then◌else◌, slice_get}
use Rattle.std.specs.List.{list_any, list_all}
use Rattle.std.specs.Option.{option_or}
use Rattle.std.proofs.lemmas.Bool.{and_parts, eq-eqb, cond-true, cond-false}
use Rattle.design_core.specs.declared.signal.Signal.{Signal}
use Rattle.design_core.specs.declared.place.Place.{Place}
use Rattle.design_core.specs.declared.statement.Stmt.{Stmt, Row_of-Stmt, end_of-Stmt, more_of-Stmt, Row_of-CaseItem, end_of-CaseItem, more_of-CaseItem}
use Rattle.design_core.specs.declared.statement.Stmt.TheVariants.{Nothing, Block', If', Case', Set}
use Rattle.design_core.specs.Valuation.{bit}
use Rattle.design_core.specs.Operator.{is_true}
use Rattle.design_core.specs.Value.{value}
use Rattle.design_core.specs.Store.{parts_width}
use Rattle.design_core.specs.After.{Choice, assigned, Updates, matches, after, after_all, after_case}
use Rattle.design_core.specs.WellFormed.{place_fits, assignment_fits, typed_fits, statement_fits, statements_fit, items_fit, label_fits, times_in, times_in_all, times_in_items}
use Rattle.design_core.proofs.StoreBits.{SameBelow}
use Rattle.design_core.proofs.Computed.{place_fits-at, after_set-bits}
use Rattle.changes.specs.Reached.{fitted, reached_set, reached_in, reached_all, reached_case}

-- a place that stands at most once assigns the same bits by two choices, where it is carried out
pub record SameReached (places : List Place) (A B : Choice) (times : ℕ → ℕ) (reaches : ℕ → Option ℕ) : Type 0 where
  pub once : (p : ℕ) (place : Place) → slice_get places p ≡ Some place → times p ≤ 1
  pub same : (p n : ℕ) (place : Place) → slice_get places p ≡ Some place → reaches p ≡ Some (n % 2 ^ place.width)
      → SameBelow place.width (bit (assigned B p n)) (bit (assigned A p n))

-- what is said of more places is said of fewer, where these compute the same
pub narrowed : (places : List Place) (A B : Choice) (times times' : ℕ → ℕ) (reaches reaches' : ℕ → Option ℕ)
    → SameReached places A B times reaches
    → ((p : ℕ) → times' p ≤ times p)
    → ((p v : ℕ) → times p ≤ 1 → reaches' p ≡ Some v → reaches p ≡ Some v)
    → SameReached places A B times' reaches'
narrowed places A B times times' reaches reaches' h fewer agree =
    record {
      once = λ p place at. let one : times p ≤ 1 = h.once p place at in let less : times' p ≤ times p = fewer p in omega arith;
      same = λ p n place at reached. h.same p n place at (agree p (n % 2 ^ place.width) (h.once p place at) reached);
    }

-- both arms of a condition
pub arms_same : {A : Type 0} (t : Bool) (x y x' y' : A) → (t ≡ true → x' ≡ x) → (t ≡ false → y' ≡ y)
    → (if t then x' else y') ≡ (if t then x else y)
arms_same true x y x' y' at_true at_false = at_true refl
arms_same false x y x' y' at_true at_false = at_false refl

arms_none : (t : Bool) (x y : Option ℕ) → x ≡ None → y ≡ None → (if t then x else y) ≡ None
arms_none true x y first second = first
arms_none false x y first second = second

none_first : (x y : Option ℕ) → x ≡ None → y ≡ None → option_or x y ≡ None
none_first x y first second = ap (λ o. option_or o y) first ∙ second

-- 1 where a test passes
abbrev pub one_where : Bool → ℕ
one_where t = if t then 1 else 0

pub set_none : (t : Bool) (n : ℕ) → one_where t ≡ 0 → (if t then Some n else None) ≡ None
set_none true n e = cc
set_none false n e = refl

-- where a value is there only for a number that isn't 0, the number is at least 1
pub stands : (times : ℕ) (o : Option ℕ) (v : ℕ) → (times ≡ 0 → o ≡ None) → o ≡ Some v → 1 ≤ times
stands zero o v none is = let e : o ≡ None = none refl in cc
stands (suc n) o v none is = omega arith

mutual
  -- a place that doesn't stand in a statement isn't carried out in it
  pub reached_in-none : (signals : List Signal) (A : Choice) (p : ℕ) (statement : Stmt) (m : Updates) → times_in p statement ≡ 0
      → reached_in signals A p statement m ≡ None
  reached_in-none signals A p Nothing m none = refl
  reached_in-none signals A p (Block' _ statements) m none = reached_all-none signals A p statements m none
  reached_in-none signals A p (If' e _ (more_of-Stmt on_true end_of-Stmt) _ (more_of-Stmt on_false end_of-Stmt)) m none =
      arms_none (is_true (value signals m.now e)) (reached_in signals A p on_true m) (reached_in signals A p on_false m)
      (reached_in-none signals A p on_true m (omega (arith, none))) (reached_in-none signals A p on_false m (omega (arith, none)))
  reached_in-none signals A p (Case' subject _ items _ (more_of-Stmt other end_of-Stmt) _) m none =
      reached_case-none signals A p (value signals m.now subject) items m (reached_in signals A p other m) (omega (arith, none))
      (reached_in-none signals A p other m (omega (arith, none)))
  reached_in-none signals A p (Set place target e later) m none = set_none (place == p)
      (fitted signals target.parts (value signals m.now e)) none

  pub reached_all-none : {shape : _} (signals : List Signal) (A : Choice) (p : ℕ) (statements : Row_of-Stmt shape)
      (m : Updates) → times_in_all p statements ≡ 0
      → reached_all signals A p statements m ≡ None
  reached_all-none signals A p end_of-Stmt m none = refl
  reached_all-none signals A p (more_of-Stmt statement rest) m none =
      none_first (reached_in signals A p statement m) (reached_all signals A p rest (after signals A statement m))
      (reached_in-none signals A p statement m (omega (arith, none)))
      (reached_all-none signals A p rest (after signals A statement m) (omega (arith, none)))

  pub reached_case-none : {shape : _} (signals : List Signal) (A : Choice) (p subject : ℕ)
      (items : Row_of-CaseItem shape) (m : Updates) (other : Option ℕ)
      → times_in_items p items ≡ 0 → other ≡ None → reached_case signals A p subject items m other ≡ None
  reached_case-none signals A p subject end_of-CaseItem m other none no_other = no_other
  reached_case-none signals A p subject (more_of-CaseItem labels body rest) m other none no_other =
      arms_none (list_any (matches signals m.now subject) labels) (reached_in signals A p body m)
      (reached_case signals A p subject rest m other)
      (reached_in-none signals A p body m (omega (arith, none)))
      (reached_case-none signals A p subject rest m other (omega (arith, none)) no_other)

-- what the later statements of a block compute, the block computes, where each place stands once
behind : (here next : Option ℕ) (first rest v : ℕ) → (first ≡ 0 → here ≡ None) → (rest ≡ 0 → next ≡ None) → first + rest ≤ 1
    → next ≡ Some v → option_or here next ≡ Some v
behind here next first rest v none_here none_next once is =
    let later : 1 ≤ rest = stands rest next v none_next is in
    let none : here ≡ None = none_here (omega arith) in
    ap (λ o. option_or o next) none ∙ is

first_or : (here next : Option ℕ) (v : ℕ) → here ≡ Some v → option_or here next ≡ Some v
first_or here next v is = ap (λ o. option_or o next) is

block-first : {shape : _} (signals : List Signal) (places : List Place) (A B : Choice) (statement : Stmt)
    (rest : Row_of-Stmt shape) (m : Updates)
    → SameReached places A B (λ p. times_in_all p (more_of-Stmt statement rest))
    (λ p. reached_all signals A p (more_of-Stmt statement rest) m)
    → SameReached places A B (λ p. times_in p statement) (λ p. reached_in signals A p statement m)
block-first signals places A B statement rest m h =
    let next : Updates = after signals A statement m in
    narrowed places A B (λ p. times_in p statement + times_in_all p rest) (λ p. times_in p statement)
    (λ p. option_or (reached_in signals A p statement m) (reached_all signals A p rest next)) (λ p. reached_in signals A p statement m) h
    (λ p. omega arith)
    (λ p v once is. first_or (reached_in signals A p statement m) (reached_all signals A p rest next) v is)

block-rest : {shape : _} (signals : List Signal) (places : List Place) (A B : Choice) (statement : Stmt)
    (rest : Row_of-Stmt shape) (m : Updates)
    → SameReached places A B (λ p. times_in_all p (more_of-Stmt statement rest))
    (λ p. reached_all signals A p (more_of-Stmt statement rest) m)
    → SameReached places A B (λ p. times_in_all p rest) (λ p. reached_all signals A p rest (after signals A statement m))
block-rest signals places A B statement rest m h =
    let next : Updates = after signals A statement m in
    narrowed places A B (λ p. times_in p statement + times_in_all p rest) (λ p. times_in_all p rest)
    (λ p. option_or (reached_in signals A p statement m) (reached_all signals A p rest next)) (λ p. reached_all signals A p rest next) h
    (λ p. omega arith)
    (λ p v once is. behind (reached_in signals A p statement m) (reached_all signals A p rest next)
    (times_in p statement) (times_in_all p rest) v
    (reached_in-none signals A p statement m) (reached_all-none signals A p rest next) once is)

-- what is said of both arms is said of the one that is taken
taken_arm : (places : List Place) (A B : Choice) (times more : ℕ → ℕ) (t : Bool) (x y : ℕ → Option ℕ) → t ≡ true
    → SameReached places A B (λ p. times p + more p) (λ p. if t then x p else y p) → SameReached places A B times x
taken_arm places A B times more t x y is h =
    narrowed places A B (λ p. times p + more p) times (λ p. if t then x p else y p) x h (λ p. omega arith)
    (λ p v once found. cond-true t (x p) (y p) is ∙ found)

other_arm : (places : List Place) (A B : Choice) (times more : ℕ → ℕ) (t : Bool) (x y : ℕ → Option ℕ) → t ≡ false
    → SameReached places A B (λ p. more p + times p) (λ p. if t then x p else y p) → SameReached places A B times y
other_arm places A B times more t x y is h =
    narrowed places A B (λ p. more p + times p) times (λ p. if t then x p else y p) y h (λ p. omega arith)
    (λ p v once found. cond-false t (x p) (y p) is ∙ found)

-- what an assignment computes is of the width of its place
pub set-same : (signals : List Signal) (places : List Place) (A B : Choice) (p n : ℕ) (parts : List _)
    → place_fits places (parts_width signals parts) p ≡ true
    → SameReached places A B (λ q. if p == q then 1 else 0) (λ q. reached_set p q (fitted signals parts n))
    → SameBelow (parts_width signals parts) (bit (assigned B p n)) (bit (assigned A p n))
set-same signals places A B p n parts fits h b below =
    let (place, at, width) = place_fits-at places (parts_width signals parts) p fits in
    h.same p n place at
    (cond-true (p == p) (Some (n % 2 ^ parts_width signals parts)) None (eq-eqb p p refl) ∙ ap (λ w. Some (n % 2 ^ w)) (sym width))
    b (omega (arith, width))

mutual
  -- a statement leaves the same
  pub after-alike : (signals : List Signal) (places : List Place) (A B : Choice) (statement : Stmt) (m : Updates)
      → statement_fits signals places statement ≡ true
      → SameReached places A B (λ p. times_in p statement) (λ p. reached_in signals A p statement m)
      → after signals B statement m ≡ after signals A statement m
  after-alike signals places A B Nothing m fits h = refl
  after-alike signals places A B (Block' _ statements) m fits h = after_all-alike signals places A B statements m fits h
  after-alike signals places A B (If' e x (more_of-Stmt on_true end_of-Stmt) x' (more_of-Stmt on_false end_of-Stmt)) m fits h =
      let test : Bool = is_true (value signals m.now e) in
      let arms_fit = and_parts (typed_fits signals e && statement_fits signals places on_true)
      (statement_fits signals places on_false) fits in
      arms_same test (after signals A on_true m) (after signals A on_false m) (after signals B on_true m) (after signals B on_false m)
      (λ is. after-alike signals places A B on_true m
      (and_parts (typed_fits signals e) (statement_fits signals places on_true) arms_fit.0).1
      (taken_arm places A B (λ p. times_in p on_true) (λ p. times_in p on_false) test
      (λ p. reached_in signals A p on_true m) (λ p. reached_in signals A p on_false m) is h))
      (λ is. after-alike signals places A B on_false m arms_fit.1
      (other_arm places A B (λ p. times_in p on_false) (λ p. times_in p on_true) test
      (λ p. reached_in signals A p on_true m) (λ p. reached_in signals A p on_false m) is h))
  after-alike signals places A B (Case' subject x items x' (more_of-Stmt other end_of-Stmt) x'') m fits h =
      let fit = and_parts (typed_fits signals subject && items_fit signals places subject.width items)
      (statement_fits signals places other) fits in
      after_case-alike signals places A B (value signals m.now subject) subject.width items m
      (after signals A other m) (after signals B other m)
      (λ p. times_in p other) (λ p. reached_in signals A p other m)
      (λ inner. after-alike signals places A B other m fit.1 inner)
      (and_parts (typed_fits signals subject) (items_fit signals places subject.width items) fit.0).1 h
  after-alike signals places A B (Set p target e later) m fits h =
      let fit = and_parts (assignment_fits signals target.parts e) (place_fits places (parts_width signals target.parts) p) fits in
      after_set-bits signals target.parts (bit (assigned B p (value signals m.now e))) (bit (assigned A p (value signals m.now e))) later m
      (set-same signals places A B p (value signals m.now e) target.parts fit.1 h)

  pub after_all-alike : {shape : _} (signals : List Signal) (places : List Place) (A B : Choice)
      (statements : Row_of-Stmt shape) (m : Updates)
      → statements_fit signals places statements ≡ true
      → SameReached places A B (λ p. times_in_all p statements) (λ p. reached_all signals A p statements m)
      → after_all signals B statements m ≡ after_all signals A statements m
  after_all-alike signals places A B end_of-Stmt m fits h = refl
  after_all-alike signals places A B (more_of-Stmt statement rest) m fits h =
      let fit = and_parts (statement_fits signals places statement) (statements_fit signals places rest) fits in
      ap (λ n. after_all signals B rest n)
      (after-alike signals places A B statement m fit.0 (block-first signals places A B statement rest m h))
      ∙ after_all-alike signals places A B rest (after signals A statement m) fit.1 (block-rest signals places A B statement rest m h)

  pub after_case-alike : {shape : _} (signals : List Signal) (places : List Place) (A B : Choice) (subject width : ℕ)
      (items : Row_of-CaseItem shape)
      (m other other' : Updates) (times_other : ℕ → ℕ) (reaches_other : ℕ → Option ℕ)
      → (SameReached places A B times_other reaches_other → other' ≡ other)
      → items_fit signals places width items ≡ true
      → SameReached places A B (λ p. times_in_items p items + times_other p)
      (λ p. reached_case signals A p subject items m (reaches_other p))
      → after_case signals B subject items m other' ≡ after_case signals A subject items m other
  after_case-alike signals places A B subject width end_of-CaseItem m other other' times_other reaches_other same fits h =
      same (narrowed places A B (λ p. 0 + times_other p) times_other reaches_other reaches_other h (λ p. omega arith) (λ p v once is. is))
  after_case-alike signals places A B subject width
      (more_of-CaseItem labels body rest) m other other' times_other reaches_other same fits h =
      let test : Bool = list_any (matches signals m.now subject) labels in
      let fit = and_parts (list_all (label_fits signals width) labels && statement_fits signals places body)
      (items_fit signals places width rest) fits in
      let here : ℕ → Option ℕ = λ p. reached_in signals A p body m in
      let more : ℕ → Option ℕ = λ p. reached_case signals A p subject rest m (reaches_other p) in
      let split : SameReached places A B (λ p. times_in p body + (times_in_items p rest + times_other p))
      (λ p. if test then here p else more p) =
      narrowed places A B (λ p. (times_in p body + times_in_items p rest) + times_other p)
      (λ p. times_in p body + (times_in_items p rest + times_other p))
      (λ p. if test then here p else more p) (λ p. if test then here p else more p) h (λ p. omega arith) (λ p v once is. is) in
      arms_same test (after signals A body m) (after_case signals A subject rest m other)
      (after signals B body m) (after_case signals B subject rest m other')
      (λ is. after-alike signals places A B body m
      (and_parts (list_all (label_fits signals width) labels) (statement_fits signals places body) fit.0).1
      (taken_arm places A B (λ p. times_in p body) (λ p. times_in_items p rest + times_other p) test here more is split))
      (λ is. after_case-alike signals places A B subject width rest m other other' times_other reaches_other same fit.1
      (other_arm places A B (λ p. times_in_items p rest + times_other p) (λ p. times_in p body) test here more is split))

mutual
  -- and each place computes the same in it
  pub reached_in-alike : (signals : List Signal) (places : List Place) (A B : Choice) (q : ℕ) (statement : Stmt)
      (m : Updates) → statement_fits signals places statement ≡ true
      → SameReached places A B (λ p. times_in p statement) (λ p. reached_in signals A p statement m)
      → reached_in signals B q statement m ≡ reached_in signals A q statement m
  reached_in-alike signals places A B q Nothing m fits h = refl
  reached_in-alike signals places A B q (Block' _ statements) m fits h = reached_all-alike signals places A B q statements m fits h
  reached_in-alike signals places A B q (If' e x (more_of-Stmt on_true end_of-Stmt) x' (more_of-Stmt on_false end_of-Stmt)) m fits h =
      let test : Bool = is_true (value signals m.now e) in
      let arms_fit = and_parts (typed_fits signals e && statement_fits signals places on_true)
      (statement_fits signals places on_false) fits in
      arms_same test (reached_in signals A q on_true m) (reached_in signals A q on_false m)
      (reached_in signals B q on_true m) (reached_in signals B q on_false m)
      (λ is. reached_in-alike signals places A B q on_true m
      (and_parts (typed_fits signals e) (statement_fits signals places on_true) arms_fit.0).1
      (taken_arm places A B (λ p. times_in p on_true) (λ p. times_in p on_false) test
      (λ p. reached_in signals A p on_true m) (λ p. reached_in signals A p on_false m) is h))
      (λ is. reached_in-alike signals places A B q on_false m arms_fit.1
      (other_arm places A B (λ p. times_in p on_false) (λ p. times_in p on_true) test
      (λ p. reached_in signals A p on_true m) (λ p. reached_in signals A p on_false m) is h))
  reached_in-alike signals places A B q (Case' subject x items x' (more_of-Stmt other end_of-Stmt) x'') m fits h =
      let fit = and_parts (typed_fits signals subject && items_fit signals places subject.width items)
      (statement_fits signals places other) fits in
      reached_case-alike signals places A B q (value signals m.now subject) subject.width items m
      (reached_in signals A q other m) (reached_in signals B q other m)
      (λ p. times_in p other) (λ p. reached_in signals A p other m)
      (λ inner. reached_in-alike signals places A B q other m fit.1 inner)
      (and_parts (typed_fits signals subject) (items_fit signals places subject.width items) fit.0).1 h
  reached_in-alike signals places A B q (Set p target e later) m fits h = refl

  pub reached_all-alike : {shape : _} (signals : List Signal) (places : List Place) (A B : Choice) (q : ℕ)
      (statements : Row_of-Stmt shape) (m : Updates)
      → statements_fit signals places statements ≡ true
      → SameReached places A B (λ p. times_in_all p statements) (λ p. reached_all signals A p statements m)
      → reached_all signals B q statements m ≡ reached_all signals A q statements m
  reached_all-alike signals places A B q end_of-Stmt m fits h = refl
  reached_all-alike signals places A B q (more_of-Stmt statement rest) m fits h =
      let fit = and_parts (statement_fits signals places statement) (statements_fit signals places rest) fits in
      let first : SameReached places A B (λ p. times_in p statement)
      (λ p. reached_in signals A p statement m) = block-first signals places A B statement rest m h in
      ap (λ o. option_or o (reached_all signals B q rest (after signals B statement m)))
      (reached_in-alike signals places A B q statement m fit.0 first)
      ∙ ap (λ n. option_or (reached_in signals A q statement m) (reached_all signals B q rest n))
      (after-alike signals places A B statement m fit.0 first)
      ∙ ap (option_or (reached_in signals A q statement m))
      (reached_all-alike signals places A B q rest (after signals A statement m) fit.1 (block-rest signals places A B statement rest m h))

  pub reached_case-alike : {shape : _} (signals : List Signal) (places : List Place) (A B : Choice)
      (q subject width : ℕ) (items : Row_of-CaseItem shape)
      (m : Updates) (other other' : Option ℕ) (times_other : ℕ → ℕ) (reaches_other : ℕ → Option ℕ)
      → (SameReached places A B times_other reaches_other → other' ≡ other)
      → items_fit signals places width items ≡ true
      → SameReached places A B (λ p. times_in_items p items + times_other p)
      (λ p. reached_case signals A p subject items m (reaches_other p))
      → reached_case signals B q subject items m other' ≡ reached_case signals A q subject items m other
  reached_case-alike signals places A B q subject width end_of-CaseItem m other other' times_other reaches_other same fits h =
      same (narrowed places A B (λ p. 0 + times_other p) times_other reaches_other reaches_other h (λ p. omega arith) (λ p v once is. is))
  reached_case-alike signals places A B q subject width
      (more_of-CaseItem labels body rest) m other other' times_other reaches_other same fits h =
      let test : Bool = list_any (matches signals m.now subject) labels in
      let fit = and_parts (list_all (label_fits signals width) labels && statement_fits signals places body)
      (items_fit signals places width rest) fits in
      let here : ℕ → Option ℕ = λ p. reached_in signals A p body m in
      let more : ℕ → Option ℕ = λ p. reached_case signals A p subject rest m (reaches_other p) in
      let split : SameReached places A B (λ p. times_in p body + (times_in_items p rest + times_other p))
      (λ p. if test then here p else more p) =
      narrowed places A B (λ p. (times_in p body + times_in_items p rest) + times_other p)
      (λ p. times_in p body + (times_in_items p rest + times_other p))
      (λ p. if test then here p else more p) (λ p. if test then here p else more p) h (λ p. omega arith) (λ p v once is. is) in
      arms_same test (reached_in signals A q body m) (reached_case signals A q subject rest m other)
      (reached_in signals B q body m) (reached_case signals B q subject rest m other')
      (λ is. reached_in-alike signals places A B q body m
      (and_parts (list_all (label_fits signals width) labels) (statement_fits signals places body) fit.0).1
      (taken_arm places A B (λ p. times_in p body) (λ p. times_in_items p rest + times_other p) test here more is split))
      (λ is. reached_case-alike signals places A B q subject width rest m other other' times_other reaches_other same fit.1
      (other_arm places A B (λ p. times_in_items p rest + times_other p) (λ p. times_in p body) test here more is split))
