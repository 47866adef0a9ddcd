-- What a place computes in a statement is the same where the bits that the statement reads are the same; so a combinational block that
-- reads none of its own bits before it assigns them can be begun with these as they are.
use Rattle.std.proofs.Common.{ℕ, ◌≡◌, Bool, true, false, not, ◌&&◌, ◌||◌, List, [], ◌∷◌, length, refl, ap, sym, ◌∙◌, ◌⊎◌, inl, inr, Option, Some, None}
use Rattle.std.specs.Prelude.{◌==◌, if◌then◌else◌, bit_or, slice_get, All, Contains}
use Rattle.std.specs.List.{list_any, list_all}
use Rattle.std.specs.Option.{option_or}
use Rattle.std.proofs.lemmas.Bool.{and_parts, cases_Bool}
use Rattle.std.proofs.lemmas.Option.{slice_get_within}
use Rattle.loc_base.specs.Bits.{value_of}
use Rattle.loc_base.proofs.ShelfLists.{Contains-place, All-member, list_all-member}
use Rattle.design_core.specs.declared.signal.Signal.{Signal}
use Rattle.design_core.specs.declared.place.Place.{Place}
use Rattle.design_core.specs.declared.statement.Label.{Label}
use Rattle.design_core.specs.declared.statement.Stmt.{Stmt, Row_of-Stmt, end_of-Stmt, more_of-Stmt, Row_of-CaseItem, end_of-CaseItem, more_of-CaseItem}
use Rattle.design_core.specs.declared.statement.Stmt.TheVariants.{Nothing, Block', If', Case', Set}
use Rattle.design_core.specs.declared.driver.Driver.{Driver}
use Rattle.design_core.specs.declared.driver.Driver.TheVariants.{Cont, Comb}
use Rattle.design_core.specs.declared.design.Design.{Design}
use Rattle.design_core.specs.Valuation.{Valuation}
use Rattle.design_core.specs.Operator.{is_true}
use Rattle.design_core.specs.Value.{value}
use Rattle.design_core.specs.After.{Choice, Updates, matches, after}
use Rattle.design_core.specs.Cycle.{without}
use Rattle.design_core.specs.Drives.{driver_drives}
use Rattle.design_core.specs.Reads.{AgreeOn, reads, part_reads, assigns, statement_reads, statements_read, items_read, driver_reads, Depends, IsOrder}
use Rattle.design_core.specs.WellFormed.{typed_fits, label_fits, statement_fits, statements_fit, items_fit, driver_fits, IsWellFormed}
use Rattle.design_core.proofs.ValueAgrees.{agree_left, agree_right, value-agrees}
use Rattle.design_core.proofs.StatementAgrees.{after-agrees}
use Rattle.changes.specs.Reached.{fitted, reached_set, reached_in, reached_all, reached_case, begun, reached_driver}

-- a label is equal to the subject or not alike
any_same : {X : Type 0} (p q : X → Bool) (xs : List X) (f : X → ℕ → ℕ → Bool) (V W : Valuation)
    → AgreeOn (λ s b. list_any (λ x. f x s b) xs) V W → ((x : X) → AgreeOn (f x) V W → p x ≡ q x) → list_any p xs ≡ list_any q xs
any_same p q [] f V W h same = refl
any_same p q (x ∷ xs) f V W h same =
    let here : p x ≡ q x = same x (agree_left (f x) (λ s b. list_any (λ y. f y s b) xs) V W h) in
    let later : list_any p xs ≡ list_any q xs = any_same p q xs f V W (agree_right (f x) (λ s b. list_any (λ y. f y s b) xs) V W h) same in
    cc

matches_same : (signals : List Signal) (V W : Valuation) (subject : ℕ) (labels : List Label)
    → AgreeOn (λ s b. list_any (λ label. reads signals s b label.value) labels) V W
    → list_any (matches signals V subject) labels ≡ list_any (matches signals W subject) labels
matches_same signals V W subject labels h =
    any_same (matches signals V subject) (matches signals W subject) labels (λ label s b. reads signals s b label.value) V W h
    (λ label own. ap (λ v. bit_or subject (value_of label.wild) == bit_or v (value_of label.wild))
    (value-agrees signals V W label.value own))

-- the arms of a condition agree
arms_agree : (t u : Bool) (x y x' y' : Option ℕ) → t ≡ u → x ≡ x' → y ≡ y' → (if t then x else y) ≡ (if u then x' else y')
arms_agree true true x y x' y' test one other = one
arms_agree true false x y x' y' test one other = cc
arms_agree false true x y x' y' test one other = cc
arms_agree false false x y x' y' test one other = other

-- a bit that is read behind a statement is surely assigned by it or the same before
behind : (first later x y : Bool) → later ≡ true → ((not first && later) ≡ true → x ≡ y) → (x ≡ y) ⊎ (first ≡ true)
behind true later x y is same = inr refl
behind false later x y is same = inl (same is)

mutual
  pub reached_in-agrees : (signals : List Signal) (places : List Place) (A : Choice) (p : ℕ) (statement : Stmt) (m n : Updates)
      → statement_fits signals places statement ≡ true
      → AgreeOn (λ s b. statement_reads signals s b statement) m.now n.now
      → reached_in signals A p statement m ≡ reached_in signals A p statement n
  reached_in-agrees signals places A p Nothing m n fits h = refl
  reached_in-agrees signals places A p (Block' _ statements) m n fits h = reached_all-agrees signals places A p statements m n fits h
  reached_in-agrees signals places A p (If' e _ (more_of-Stmt on_true end_of-Stmt) _ (more_of-Stmt on_false end_of-Stmt)) m n fits h =
      let test : ℕ → ℕ → Bool = λ s b. reads signals s b e in
      let one : ℕ → ℕ → Bool = λ s b. statement_reads signals s b on_true in
      let other : ℕ → ℕ → Bool = λ s b. statement_reads signals s b on_false in
      let arms : AgreeOn (λ s b. one s b || other s b) m.now n.now = agree_right test (λ s b. one s b || other s b) m.now n.now h in
      let fit = and_parts (typed_fits signals e && statement_fits signals places on_true) (statement_fits signals places on_false) fits in
      arms_agree (is_true (value signals m.now e)) (is_true (value signals n.now e))
      (reached_in signals A p on_true m) (reached_in signals A p on_false m) (reached_in signals A p on_true n)
      (reached_in signals A p on_false n)
      (ap is_true (value-agrees signals m.now n.now e (agree_left test (λ s b. one s b || other s b) m.now n.now h)))
      (reached_in-agrees signals places A p on_true m n (and_parts (typed_fits signals e)
      (statement_fits signals places on_true) fit.0).1 (agree_left one other m.now n.now arms))
      (reached_in-agrees signals places A p on_false m n fit.1 (agree_right one other m.now n.now arms))
  reached_in-agrees signals places A p (Case' subject x items x' (more_of-Stmt other end_of-Stmt) x'') m n fits h =
      let test : ℕ → ℕ → Bool = λ s b. reads signals s b subject in
      let one : ℕ → ℕ → Bool = λ s b. items_read signals s b items in
      let rest : ℕ → ℕ → Bool = λ s b. statement_reads signals s b other in
      let arms : AgreeOn (λ s b. one s b || rest s b) m.now n.now = agree_right test (λ s b. one s b || rest s b) m.now n.now h in
      let fit = and_parts (typed_fits signals subject && items_fit signals places subject.width items)
      (statement_fits signals places other) fits in
      ap (λ v. reached_case signals A p v items m (reached_in signals A p other m))
      (value-agrees signals m.now n.now subject (agree_left test (λ s b. one s b || rest s b) m.now n.now h))
      ∙ reached_case-agrees signals places A p (value signals n.now subject) subject.width items m n
      (reached_in signals A p other m) (reached_in signals A p other n)
      (and_parts (typed_fits signals subject) (items_fit signals places subject.width items) fit.0).1
      (agree_left one rest m.now n.now arms)
      (reached_in-agrees signals places A p other m n fit.1 (agree_right one rest m.now n.now arms))
  reached_in-agrees signals places A p (Set place target e later) m n fits h =
      ap (λ v. reached_set place p (fitted signals target.parts v))
      (value-agrees signals m.now n.now e (agree_left (λ s b. reads signals s b e)
      (λ s b. list_any (part_reads signals s b) target.parts) m.now n.now h))

  pub reached_all-agrees : {shape : _} (signals : List Signal) (places : List Place) (A : Choice) (p : ℕ)
      (statements : Row_of-Stmt shape) (m n : Updates)
      → statements_fit signals places statements ≡ true
      → AgreeOn (λ s b. statements_read signals s b statements) m.now n.now
      → reached_all signals A p statements m ≡ reached_all signals A p statements n
  reached_all-agrees signals places A p end_of-Stmt m n fits h = refl
  reached_all-agrees signals places A p (more_of-Stmt statement rest) m n fits h =
      let own : ℕ → ℕ → Bool = λ s b. statement_reads signals s b statement in
      let more : ℕ → ℕ → Bool = λ s b. not (assigns signals s b statement) && statements_read signals s b rest in
      let fit = and_parts (statement_fits signals places statement) (statements_fit signals places rest) fits in
      let before : AgreeOn own m.now n.now = agree_left own more m.now n.now h in
      ap (λ o. option_or o (reached_all signals A p rest (after signals A statement m)))
      (reached_in-agrees signals places A p statement m n fit.0 before)
      ∙ ap (option_or (reached_in signals A p statement n))
      (reached_all-agrees signals places A p rest (after signals A statement m) (after signals A statement n) fit.1
      (record {
        same = λ s b read. after-agrees signals places A statement m n s b fit.0 before
            (behind (assigns signals s b statement) (statements_read signals s b rest) (m.now s b) (n.now s b) read
            ((agree_right own more m.now n.now h).same s b));
      }))

  pub reached_case-agrees : {shape : _} (signals : List Signal) (places : List Place) (A : Choice) (p subject width : ℕ)
      (items : Row_of-CaseItem shape)
      (m n : Updates) (other other' : Option ℕ)
      → items_fit signals places width items ≡ true
      → AgreeOn (λ s b. items_read signals s b items) m.now n.now → other ≡ other'
      → reached_case signals A p subject items m other ≡ reached_case signals A p subject items n other'
  reached_case-agrees signals places A p subject width end_of-CaseItem m n other other' fits h same = same
  reached_case-agrees signals places A p subject width (more_of-CaseItem labels body rest) m n other other' fits h same =
      let test : ℕ → ℕ → Bool = λ s b. list_any (λ label. reads signals s b label.value) labels in
      let one : ℕ → ℕ → Bool = λ s b. statement_reads signals s b body in
      let more : ℕ → ℕ → Bool = λ s b. items_read signals s b rest in
      let arms : AgreeOn (λ s b. one s b || more s b) m.now n.now = agree_right test (λ s b. one s b || more s b) m.now n.now h in
      let fit = and_parts (list_all (label_fits signals width) labels && statement_fits signals places body)
      (items_fit signals places width rest) fits in
      arms_agree (list_any (matches signals m.now subject) labels) (list_any (matches signals n.now subject) labels)
      (reached_in signals A p body m) (reached_case signals A p subject rest m other) (reached_in signals A p body n)
      (reached_case signals A p subject rest n other')
      (matches_same signals m.now n.now subject labels (agree_left test (λ s b. one s b || more s b) m.now n.now h))
      (reached_in-agrees signals places A p body m n (and_parts (list_all (label_fits signals width) labels)
      (statement_fits signals places body) fit.0).1
      (agree_left one more m.now n.now arms))
      (reached_case-agrees signals places A p subject width rest m n other other' fit.1 (agree_right one more m.now n.now arms) same)

-- no driver of a design whose drivers stand in an order reads a bit that it drives
own_unread : (d : Design) (order : List ℕ) → IsOrder d order → (driver : Driver) → Contains d.drivers.items driver → (s b : ℕ)
    → driver_reads d.signals.items s b driver ≡ true → driver_drives d.signals.items s b driver ≡ false
own_unread d order ordered driver member s b read = at (cases_Bool (driver_drives d.signals.items s b driver))
  where
    at : (driver_drives d.signals.items s b driver ≡ true) ⊎ (driver_drives d.signals.items s b driver ≡ false)
        → driver_drives d.signals.items s b driver ≡ false
    at (inl drives) =
        let (i, is) = Contains-place d.drivers.items driver member in
        let depends : Depends d i i =
        record {
          reader = driver;
          source = driver;
          is_reader = is;
          is_source = is;
          signal = s;
          position = b;
          read = read;
          driven = drives;
        } in
        absurd (All-member (λ i. ¬ Depends d i i) order i ordered.not_itself
        (ordered.complete i (slice_get_within d.drivers.items i driver is)) depends)
    at (inr none) = none

-- a combinational block computes the same where it is begun with its own bits as they are
pub comb-begun : (d : Design) (order : List ℕ) (A : Choice) (V : Valuation) (p : ℕ) (body : Stmt) (span : _) → IsWellFormed d
    → IsOrder d order
    → Contains d.drivers.items (Comb body span)
    → reached_driver d.signals.items A V p (Comb body span) ≡ reached_in d.signals.items A p body (begun V)
comb-begun d order A V p body span well ordered member =
    let own : Driver = Comb body span in
    reached_in-agrees d.signals.items d.places.items A p body (begun (without d.signals.items own V)) (begun V)
    (list_all-member (driver_fits d.signals.items d.places.items) d.drivers.items own well.drivers member)
    (record { same = λ s b read. ap (λ t. not t && V s b) (own_unread d order ordered own member s b read) })
