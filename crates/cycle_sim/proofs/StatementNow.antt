-- A statement leaves, in what is read, the bits that it does not assign by `=`; and what is read after it does not depend
-- on later updates.
use Rattle.std.proofs.Common.{ℕ, ◌≡◌, Bool, true, false, not, ◌&&◌, List, refl, ◌∙◌, inl}
use Rattle.std.specs.Prelude.{if◌then◌else◌}
use Rattle.std.specs.List.{list_any, list_all}
use Rattle.std.proofs.lemmas.Bool.{or_parts, and_parts}
use Rattle.design_core.specs.declared.signal.Signal.{Signal}
use Rattle.design_core.specs.declared.place.Place.{Place}
use Rattle.design_core.specs.declared.statement.Part.{Part}
use Rattle.design_core.specs.declared.statement.Stmt.{Stmt, Row_of-Stmt, end_of-Stmt, more_of-Stmt, Row_of-CaseItem, end_of-CaseItem, more_of-CaseItem}
use Rattle.design_core.specs.declared.statement.Stmt.TheVariants.{Nothing, Block', If', Case', Set}
use Rattle.design_core.specs.Valuation.{Valuation, bit}
use Rattle.design_core.specs.Operator.{is_true}
use Rattle.design_core.specs.Value.{value}
use Rattle.design_core.specs.After.{Choice, assigned, Updates, matches, after_set, after, after_all, after_case}
use Rattle.design_core.specs.Drives.{part_drives, some_set_of, some_set_in}
use Rattle.design_core.specs.WellFormed.{typed_fits, part_fits, label_fits, statement_fits, statements_fit, items_fit}
use Rattle.design_core.proofs.StoreOutside.{store-outside}
use Rattle.design_core.proofs.StatementAgrees.{after-agrees}
use Rattle.cycle_sim.specs.Masks.{assigns_now}
use Rattle.cycle_sim.proofs.DrivesBelow.{set-parts}

-- whether an assignment assigns a bit by `=`
abbrev now_drives : List Signal → ℕ → ℕ → List Part → Bool → Bool
now_drives signals s b parts later = not later && list_any (part_drives signals s b) parts

either : (t : Bool) (x y m : Updates) (s b : ℕ) → x.now s b ≡ m.now s b → y.now s b ≡ m.now s b → (if t then x else y).now s b ≡ m.now s b
either true x y m s b one other = one
either false x y m s b one other = other

set-leaves : (signals : List Signal) (parts : List Part) (bits : ℕ → Bool) (later : Bool) (m : Updates) (s b : ℕ)
    → list_all (part_fits signals) parts ≡ true
    → now_drives signals s b parts later ≡ false → (after_set signals parts bits later m).now s b ≡ m.now s b
set-leaves signals parts bits true m s b fits out = refl
set-leaves signals parts bits false m s b fits out = store-outside signals m.now m.now parts bits s b fits out

mutual
  pub now-leaves : (signals : List Signal) (places : List Place) (choice : Choice) (statement : Stmt) (m : Updates) (s b : ℕ)
      → statement_fits signals places statement ≡ true → assigns_now signals s b statement ≡ false
      → (after signals choice statement m).now s b ≡ m.now s b
  now-leaves signals places choice Nothing m s b fits out = refl
  now-leaves signals places choice (Block' _ statements) m s b fits out = now-leaves_all signals places choice statements m s b fits out
  now-leaves signals places choice (If' e _ (more_of-Stmt on_true end_of-Stmt) _ (more_of-Stmt on_false end_of-Stmt)) m s b fits out =
      let fit = and_parts (typed_fits signals e && statement_fits signals places on_true) (statement_fits signals places on_false) fits in
      let none = or_parts (assigns_now signals s b on_true) (assigns_now signals s b on_false) out in
      either (is_true (value signals m.now e)) (after signals choice on_true m) (after signals choice on_false m) m s b
      (now-leaves signals places choice on_true m s b
      (and_parts (typed_fits signals e) (statement_fits signals places on_true) fit.0).1 none.0)
      (now-leaves signals places choice on_false m s b fit.1 none.1)
  now-leaves signals places choice (Case' subject _ items _ (more_of-Stmt other end_of-Stmt) _) m s b fits out =
      let fit = and_parts (typed_fits signals subject && items_fit signals places subject.width items)
      (statement_fits signals places other) fits in
      let none = or_parts (some_set_in (now_drives signals s b) items) (assigns_now signals s b other) out in
      now-leaves_case signals places choice (value signals m.now subject) subject.width items m (after signals choice other m) s b
      (and_parts (typed_fits signals subject) (items_fit signals places subject.width items) fit.0).1 none.0
      (now-leaves signals places choice other m s b fit.1 none.1)
  now-leaves signals places choice (Set place target e later) m s b fits out =
      set-leaves signals target.parts (bit (assigned choice place (value signals m.now e))) later m s b
      (set-parts signals places place target.parts e fits) out

  now-leaves_all : {shape : _} (signals : List Signal) (places : List Place) (choice : Choice)
      (statements : Row_of-Stmt shape) (m : Updates) (s b : ℕ)
      → statements_fit signals places statements ≡ true → some_set_of (now_drives signals s b) statements ≡ false
      → (after_all signals choice statements m).now s b ≡ m.now s b
  now-leaves_all signals places choice end_of-Stmt m s b fits out = refl
  now-leaves_all signals places choice (more_of-Stmt statement rest) m s b fits out =
      let fit = and_parts (statement_fits signals places statement) (statements_fit signals places rest) fits in
      let none = or_parts (assigns_now signals s b statement) (some_set_of (now_drives signals s b) rest) out in
      now-leaves_all signals places choice rest (after signals choice statement m) s b fit.1 none.1
      ∙ now-leaves signals places choice statement m s b fit.0 none.0

  now-leaves_case : {shape : _} (signals : List Signal) (places : List Place) (choice : Choice) (subject width : ℕ)
      (items : Row_of-CaseItem shape)
      (m other : Updates) (s b : ℕ)
      → items_fit signals places width items ≡ true → some_set_in (now_drives signals s b) items ≡ false → other.now s b ≡ m.now s b
      → (after_case signals choice subject items m other).now s b ≡ m.now s b
  now-leaves_case signals places choice subject width end_of-CaseItem m other s b fits out left = left
  now-leaves_case signals places choice subject width (more_of-CaseItem labels body rest) m other s b fits out left =
      let fit = and_parts (list_all (label_fits signals width) labels && statement_fits signals places body)
      (items_fit signals places width rest) fits in
      let none = or_parts (assigns_now signals s b body) (some_set_in (now_drives signals s b) rest) out in
      either (list_any (matches signals m.now subject) labels) (after signals choice body m)
      (after_case signals choice subject rest m other) m s b
      (now-leaves signals places choice body m s b
      (and_parts (list_all (label_fits signals width) labels) (statement_fits signals places body) fit.0).1 none.0)
      (now-leaves_case signals places choice subject width rest m other s b fit.1 none.1 left)

-- what is read after a statement is the same whatever the later updates are
pub now-alike : (signals : List Signal) (places : List Place) (choice : Choice) (statement : Stmt) (V L M : Valuation)
    (s b : ℕ) → statement_fits signals places statement ≡ true
    → (after signals choice statement (record { now = V; later = L })).now s b
    ≡ (after signals choice statement (record { now = V; later = M })).now s b
now-alike signals places choice statement V L M s b fits =
    after-agrees signals places choice statement (record { now = V; later = L }) (record { now = V; later = M }) s b fits
    (record { same = λ s b read. refl }) (inl refl)
