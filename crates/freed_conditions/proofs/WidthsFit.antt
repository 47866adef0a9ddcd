-- The conditions of a statement that fits have widths of 1 to 128 bits, and its places are those of the design.
use Rattle.std.proofs.Common.{ℕ, ◌≡◌, ◌≤◌, Bool, true, false, ◌&&◌, List, [], ◌∷◌, ◌++◌, length, refl, ap, ◌∙◌, arith, Some, None}
use Rattle.std.specs.Prelude.{◌==◌, nat_le, slice_get, if◌then◌else◌}
use Rattle.std.specs.Option.{option_map_or}
use Rattle.std.specs.List.{list_all}
use Rattle.std.proofs.lemmas.Bool.{and_parts, and_from, ne_eqb, both_ways}
use Rattle.std.proofs.lemmas.List.Folds.{list_all-append}
use Rattle.design_core.specs.declared.signal.Signal.{Signal}
use Rattle.design_core.specs.declared.place.Place.{Place}
use Rattle.design_core.specs.declared.expression.Typed.{Typed}
use Rattle.design_core.specs.declared.statement.Stmt.{Stmt, Row_of-Stmt, end_of-Stmt, more_of-Stmt, Row_of-CaseItem, end_of-CaseItem, more_of-CaseItem}
use Rattle.design_core.specs.declared.statement.Stmt.TheVariants.{Nothing, Block', If', Case', Set}
use Rattle.design_core.specs.declared.driver.Driver.{Driver}
use Rattle.design_core.specs.declared.driver.Driver.TheVariants.{Cont, Comb}
use Rattle.design_core.specs.Constant.{is_constant}
use Rattle.design_core.specs.Operator.{one_if}
use Rattle.design_core.specs.Store.{parts_width}
use Rattle.design_core.specs.WellFormed.{is_width, typed_fits, part_fits, place_fits, assignment_fits, label_fits, statement_fits, statements_fit, items_fit, driver_fits, times_in, times_in_all, times_in_items}
use Rattle.freed_conditions.specs.Kept.{kept_of}
use Rattle.freed_conditions.specs.Widths.{own_width, widths, widths_of, widths_in, widths_of_drivers, widths_of_connections}
use Rattle.freed_conditions.proofs.SignalsMore.{slice_get-none}
use Rattle.freed_conditions.proofs.KeptLaws.{kept-fits}
use Rattle.freed_conditions.proofs.FitsFreed.{node_fits-width}

-- ---- widths
pub all-append : (xs ys : List ℕ) → list_all is_width xs ≡ true → list_all is_width ys ≡ true → list_all is_width (xs ++ ys) ≡ true
all-append xs ys one other = list_all-append is_width xs ys ∙ and_from (list_all is_width xs) (list_all is_width ys) one other

own-fits : (e : Typed) (w : ℕ) → is_width w ≡ true → list_all is_width (own_width e w) ≡ true
own-fits e w wide = at (is_constant e.node)
  where
    at : (t : Bool) → list_all is_width (if t then [] else (w ∷ [])) ≡ true
    at true = refl
    at false = and_from (is_width w) true wide refl

mutual
  pub widths-fit : (signals : List Signal) (places : List Place) (statement : Stmt) → statement_fits signals places statement ≡ true → list_all is_width (widths statement) ≡ true
  widths-fit signals places Nothing fits = refl
  widths-fit signals places (Block' _ statements) fits = widths_of-fit signals places statements fits
  widths-fit signals places (If' test _ (more_of-Stmt on_true end_of-Stmt) _ (more_of-Stmt on_false end_of-Stmt)) fits =
      let fit = and_parts (typed_fits signals test && statement_fits signals places on_true) (statement_fits signals places on_false) fits in
      let front = and_parts (typed_fits signals test) (statement_fits signals places on_true) fit.0 in
      all-append (own_width test 1) (widths on_true ++ widths on_false) (own-fits test 1 refl)
      (all-append (widths on_true) (widths on_false) (widths-fit signals places on_true front.1) (widths-fit signals places on_false fit.1))
  widths-fit signals places (Case' subject _ items _ (more_of-Stmt other end_of-Stmt) _) fits =
      let fit = and_parts (typed_fits signals subject && items_fit signals places subject.width items) (statement_fits signals places other) fits in
      let front = and_parts (typed_fits signals subject) (items_fit signals places subject.width items) fit.0 in
      let e : Typed = kept_of subject in
      all-append (own_width subject e.width) (widths_in items ++ widths other)
      (own-fits subject e.width (node_fits-width signals e.width e.signed e.node (kept-fits signals subject.width subject.signed subject.node front.0)))
      (all-append (widths_in items) (widths other) (widths_in-fit signals places subject.width items front.1) (widths-fit signals places other fit.1))
  widths-fit signals places (Set _ _ _ _) fits = refl

  pub widths_of-fit : {shape : _} (signals : List Signal) (places : List Place) (statements : Row_of-Stmt shape) → statements_fit signals places statements ≡ true
      → list_all is_width (widths_of statements) ≡ true
  widths_of-fit signals places end_of-Stmt fits = refl
  widths_of-fit signals places (more_of-Stmt statement rest) fits =
      let fit = and_parts (statement_fits signals places statement) (statements_fit signals places rest) fits in
      all-append (widths statement) (widths_of rest) (widths-fit signals places statement fit.0) (widths_of-fit signals places rest fit.1)

  pub widths_in-fit : {shape : _} (signals : List Signal) (places : List Place) (width : ℕ) (items : Row_of-CaseItem shape) → items_fit signals places width items ≡ true
      → list_all is_width (widths_in items) ≡ true
  widths_in-fit signals places width end_of-CaseItem fits = refl
  widths_in-fit signals places width (more_of-CaseItem labels body rest) fits =
      let fit = and_parts (list_all (label_fits signals width) labels && statement_fits signals places body) (items_fit signals places width rest) fits in
      let front = and_parts (list_all (label_fits signals width) labels) (statement_fits signals places body) fit.0 in
      all-append (widths body) (widths_in rest) (widths-fit signals places body front.1) (widths_in-fit signals places width rest fit.1)

-- the width of a left side
left-fits : (signals : List Signal) (places : List Place) (target_parts : _) (e : Typed) → assignment_fits signals target_parts e ≡ true → is_width (parts_width signals target_parts) ≡ true
left-fits signals places parts e fits =
    let front = and_parts (list_all (part_fits signals) parts && is_width (parts_width signals parts) && typed_fits signals e) (nat_le (parts_width signals parts) e.width) fits in
    let more = and_parts (list_all (part_fits signals) parts && is_width (parts_width signals parts)) (typed_fits signals e) front.0 in
    (and_parts (list_all (part_fits signals) parts) (is_width (parts_width signals parts)) more.0).1

pub drivers-widths : (signals : List Signal) (places : List Place) (drivers : List Driver) → list_all (driver_fits signals places) drivers ≡ true
    → (list_all is_width (widths_of_drivers drivers) ≡ true) × (list_all is_width (widths_of_connections signals drivers) ≡ true)
drivers-widths signals places [] fits = (refl, refl)
drivers-widths signals places (Cont target e None span ∷ rest) fits =
    let fit = and_parts (driver_fits signals places (Cont target e None span)) (list_all (driver_fits signals places) rest) fits in
    let own = and_parts (assignment_fits signals target.parts e) true fit.0 in
    let more = drivers-widths signals places rest fit.1 in
    (more.0, and_from (is_width (parts_width signals target.parts)) (list_all is_width (widths_of_connections signals rest)) (left-fits signals places target.parts e own.0) more.1)
drivers-widths signals places (Cont target e (Some p) span ∷ rest) fits =
    drivers-widths signals places rest (and_parts (driver_fits signals places (Cont target e (Some p) span)) (list_all (driver_fits signals places) rest) fits).1
drivers-widths signals places (Comb body span ∷ rest) fits =
    let fit = and_parts (statement_fits signals places body) (list_all (driver_fits signals places) rest) fits in
    let more = drivers-widths signals places rest fit.1 in
    (all-append (widths body) (widths_of_drivers rest) (widths-fit signals places body fit.0) more.0, more.1)

-- ---- places behind the design's stand in none of its statements
pub place-below : (places : List Place) (width p q : ℕ) → place_fits places width q ≡ true → length places ≤ p → one_if (q == p) ≡ 0
place-below places width p q fits above = ap one_if (ne_eqb q p (λ same. absurd (apart same)))
  where
    apart : q ≡ p → ⊥
    apart same =
        let none : slice_get places q ≡ None = slice_get-none places q (omega arith) in
        both_ways (place_fits places width q) (ap (λ o. option_map_or (λ (place : Place). place.width == width) o false) none) fits

mutual
  pub times-none : (signals : List Signal) (places : List Place) (p : ℕ) (statement : Stmt) → length places ≤ p → statement_fits signals places statement ≡ true → times_in p statement ≡ 0
  times-none signals places p Nothing above fits = refl
  times-none signals places p (Block' _ statements) above fits = times_all-none signals places p statements above fits
  times-none signals places p (If' test _ (more_of-Stmt on_true end_of-Stmt) _ (more_of-Stmt on_false end_of-Stmt)) above fits =
      let fit = and_parts (typed_fits signals test && statement_fits signals places on_true) (statement_fits signals places on_false) fits in
      let front = and_parts (typed_fits signals test) (statement_fits signals places on_true) fit.0 in
      omega (arith, times-none signals places p on_true above front.1, times-none signals places p on_false above fit.1)
  times-none signals places p (Case' subject _ items _ (more_of-Stmt other end_of-Stmt) _) above fits =
      let fit = and_parts (typed_fits signals subject && items_fit signals places subject.width items) (statement_fits signals places other) fits in
      let front = and_parts (typed_fits signals subject) (items_fit signals places subject.width items) fit.0 in
      omega (arith, times_items-none signals places p subject.width items above front.1, times-none signals places p other above fit.1)
  times-none signals places p (Set place target e later) above fits =
      let fit = and_parts (assignment_fits signals target.parts e) (place_fits places (parts_width signals target.parts) place) fits in
      place-below places (parts_width signals target.parts) p place fit.1 above

  pub times_all-none : {shape : _} (signals : List Signal) (places : List Place) (p : ℕ) (statements : Row_of-Stmt shape) → length places ≤ p → statements_fit signals places statements ≡ true
      → times_in_all p statements ≡ 0
  times_all-none signals places p end_of-Stmt above fits = refl
  times_all-none signals places p (more_of-Stmt statement rest) above fits =
      let fit = and_parts (statement_fits signals places statement) (statements_fit signals places rest) fits in
      omega (arith, times-none signals places p statement above fit.0, times_all-none signals places p rest above fit.1)

  pub times_items-none : {shape : _} (signals : List Signal) (places : List Place) (p width : ℕ) (items : Row_of-CaseItem shape) → length places ≤ p → items_fit signals places width items ≡ true
      → times_in_items p items ≡ 0
  times_items-none signals places p width end_of-CaseItem above fits = refl
  times_items-none signals places p width (more_of-CaseItem labels body rest) above fits =
      let fit = and_parts (list_all (label_fits signals width) labels && statement_fits signals places body) (items_fit signals places width rest) fits in
      let front = and_parts (list_all (label_fits signals width) labels) (statement_fits signals places body) fit.0 in
      omega (arith, times-none signals places p body above front.1, times_items-none signals places p width rest above fit.1)
