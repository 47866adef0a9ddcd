-- Each bit of a freed design gets its value once where each of the design does: a net of a condition, in the statement of that condition.
use Rattle.std.proofs.Common.{ℕ, zero, suc, ◌+◌, ◌≡◌, ◌<◌, ◌≤◌, Bool, true, false, not, ◌&&◌, ◌||◌, List, [], ◌∷◌, ◌++◌, length, refl, ap, ◌∙◌, sym, subst, arith, length-append, ◌⊎◌, inl, inr, Some, None}
use Rattle.std.specs.Prelude.{◌==◌, ◌-◌, nat_lt, slice_get, if◌then◌else◌, Contains}
use Rattle.std.specs.Option.{option_map_or}
use Rattle.std.specs.List.{AllZip, list_any, list_all}
use Rattle.std.proofs.lemmas.Bool.{and_parts, or_cases, eqb-true, both_ways, cases_lt}
use Rattle.loc_base.proofs.ShelfLists.{Contains-at, Contains-place}
use Rattle.design_core.specs.declared.signal.Signal.{Signal}
use Rattle.design_core.specs.declared.place.Place.{Place}
use Rattle.design_core.specs.declared.expression.Typed.{Typed}
use Rattle.design_core.specs.declared.statement.Part.{Part}
use Rattle.design_core.specs.declared.statement.Stmt.{Stmt, Row_of-Stmt, end_of-Stmt, more_of-Stmt, Row_of-CaseItem, end_of-CaseItem, more_of-CaseItem}
use Rattle.design_core.specs.declared.statement.Stmt.TheVariants.{Nothing, Block', If', Case', Set}
use Rattle.design_core.specs.declared.driver.Driver.{Driver}
use Rattle.design_core.specs.declared.driver.Driver.TheVariants.{Cont, Comb}
use Rattle.design_core.specs.declared.design.Design.{Design}
use Rattle.design_core.specs.Constant.{is_constant}
use Rattle.design_core.specs.Valuation.{width_at}
use Rattle.design_core.specs.Store.{parts_width}
use Rattle.design_core.specs.After.{Choice}
use Rattle.design_core.specs.DrivenOnce.{IsDrivenOnce}
use Rattle.design_core.specs.Drives.{is_reg, is_driven, is_register_bit, is_listed, part_drives, some_set_of, some_set_in, statement_drives, driver_drives}
use Rattle.design_core.specs.WellFormed.{typed_fits, place_fits, assignment_fits, label_fits, statement_fits, statements_fit, items_fit, driver_fits, IsWellFormed}
use Rattle.freed_conditions.specs.Kept.{Next, behind, behind_one, truth, kept_of, subject_of, whole, keep}
use Rattle.freed_conditions.specs.Widths.{own_width, widths, widths_of, widths_in, widths_of_drivers}
use Rattle.freed_conditions.specs.Freed.{both, freed, freed_all, freed_in}
use Rattle.freed_conditions.specs.IsFreed.{freed_drivers, connected, begins, condition_widths, IsKeptIn, IsFreed}
use Rattle.freed_conditions.proofs.SignalsMore.{slice_get-behind}
use Rattle.freed_conditions.proofs.ClockedFreed.{ClockedAlike}
use Rattle.freed_conditions.proofs.Beside.{Beside, beside}
use Rattle.freed_conditions.proofs.CycleFreed.{register-same}
use Rattle.freed_conditions.proofs.DrivesFreed.{set-parts, parts_drive-hidden}
use Rattle.freed_conditions.proofs.FitsFreed.{if_known}
use Rattle.freed_conditions.proofs.DriversFreed.{DriverAlike, assignment-parts}

-- a signal is one of the nets of some conditions
pub record Among (n : Next) (count s : ℕ) : Type 0 where
  pub from : n.signal ≤ s
  pub below : s < n.signal + count

among-left : (n : Next) (xs ys : List ℕ) (s : ℕ) → Among n (length xs) s → Among n (length (xs ++ ys)) s
among-left n xs ys s h = let from : n.signal ≤ s = h.from in let below : s < n.signal + length xs = h.below in
    record { from = from; below = omega (arith, length-append xs ys) }

among-right : (n : Next) (xs ys : List ℕ) (s : ℕ) → Among (behind xs n) (length ys) s → Among n (length (xs ++ ys)) s
among-right n xs ys s h = let from : n.signal + length xs ≤ s = h.from in let below : s < (n.signal + length xs) + length ys = h.below in
    record { from = omega arith; below = omega (arith, length-append xs ys) }

among-arms : (n : Next) (xs ys : List ℕ) (s : ℕ) (a b : Bool) → (a ≡ true → Among n (length xs) s) → (b ≡ true → Among (behind xs n) (length ys) s)
    → (a || b) ≡ true → Among n (length (xs ++ ys)) s
among-arms n xs ys s a b first second is =
    elim (or_cases a b is) [ inl here ↦ among-left n xs ys s (first here) | inr there ↦ among-right n xs ys s (second there) ]

-- what keeps a condition drives its net alone
keep-among : (signals : List Signal) (n : Next) (e : Typed) (s b : ℕ) → statement_drives signals s b (keep n e) ≡ true → Among n 1 s
keep-among signals n e s b is =
    let here = only (s == n.signal && nat_lt b (width_at signals n.signal)) is in
    let same : s ≡ n.signal = eqb-true s n.signal (and_parts (s == n.signal) (nat_lt b (width_at signals n.signal)) here).0 in
    record { from = omega arith; below = omega arith }
  where
    only : (x : Bool) → (x || false) ≡ true → x ≡ true
    only true is = refl
    only false is = cc

-- with it, the statement behind it
kept-among : (signals : List Signal) (n : Next) (e : Typed) (w : ℕ) (ws : List ℕ) (s b : ℕ) (x : Bool) → (x ≡ true → Among (behind_one n) (length ws) s)
    → (statement_drives signals s b (keep n e) || (x || false)) ≡ true → Among n (length ((w ∷ []) ++ ws)) s
kept-among signals n e w ws s b x later is =
    among-arms n (w ∷ []) ws s (statement_drives signals s b (keep n e)) (x || false) (keep-among signals n e s b) (λ rest. later (only x rest)) is
  where
    only : (x : Bool) → (x || false) ≡ true → x ≡ true
    only true is = refl
    only false is = cc

own-among : (n : Next) (e : Typed) (w : ℕ) (ws : List ℕ) (s : ℕ) (t : Bool) → is_constant e.node ≡ t
    → Among n (length ((if t then [] else (w ∷ [])) ++ ws)) s → Among n (length (own_width e w ++ ws)) s
own-among n e w ws s t is h = subst (λ x. Among n (length ((if x then [] else (w ∷ [])) ++ ws)) s) (sym is) h

mutual
  pub drives-among : (signals hidden : List Signal) (places : List Place) (n : Next) (statement : Stmt) (s b : ℕ) → statement_fits signals places statement ≡ true
      → length signals ≤ s → statement_drives (signals ++ hidden) s b (freed n statement) ≡ true → Among n (length (widths statement)) s
  drives-among signals hidden places n Nothing s b fits above is = cc
  drives-among signals hidden places n (Block' _ statements) s b fits above is = all-among signals hidden places n statements s b fits above is
  drives-among signals hidden places n (If' test _ (more_of-Stmt on_true end_of-Stmt) _ (more_of-Stmt on_false end_of-Stmt)) s b fits above is =
      let S = signals ++ hidden in
      let fit = and_parts (typed_fits signals test && statement_fits signals places on_true) (statement_fits signals places on_false) fits in
      let front = and_parts (typed_fits signals test) (statement_fits signals places on_true) fit.0 in
      let arms = widths on_true ++ widths on_false in
      let i = behind_one n in
      if_known (λ st. statement_drives S s b st ≡ true → Among n (length (own_width test 1 ++ arms)) s) (is_constant test.node)
      (If' test _ (more_of-Stmt (freed n on_true) end_of-Stmt) _ (more_of-Stmt (freed (behind (widths on_true) n) on_false) end_of-Stmt))
      (both (keep n (truth test))
      (If' (whole 1 false n.signal) _ (more_of-Stmt (freed i on_true) end_of-Stmt) _ (more_of-Stmt (freed (behind (widths on_true) i) on_false) end_of-Stmt)))
      (λ constant drives. own-among n test 1 arms s true constant
      (among-arms n (widths on_true) (widths on_false) s (statement_drives S s b (freed n on_true)) (statement_drives S s b (freed (behind (widths on_true) n) on_false))
      (drives-among signals hidden places n on_true s b front.1 above) (drives-among signals hidden places (behind (widths on_true) n) on_false s b fit.1 above) drives))
      (λ constant drives. own-among n test 1 arms s false constant
      (kept-among S n (truth test) 1 arms s b (statement_drives S s b (freed i on_true) || statement_drives S s b (freed (behind (widths on_true) i) on_false))
      (among-arms i (widths on_true) (widths on_false) s (statement_drives S s b (freed i on_true)) (statement_drives S s b (freed (behind (widths on_true) i) on_false))
      (drives-among signals hidden places i on_true s b front.1 above) (drives-among signals hidden places (behind (widths on_true) i) on_false s b fit.1 above)) drives)) is
  drives-among signals hidden places n (Case' subject shape items _ (more_of-Stmt other end_of-Stmt) wild) s b fits above is =
      let S = signals ++ hidden in
      let fit = and_parts (typed_fits signals subject && items_fit signals places subject.width items) (statement_fits signals places other) fits in
      let front = and_parts (typed_fits signals subject) (items_fit signals places subject.width items) fit.0 in
      let e : Typed = kept_of subject in
      let arms = widths_in items ++ widths other in
      let i = behind_one n in
      let test : List Part → Bool → Bool = λ parts later. list_any (part_drives S s b) parts in
      if_known (λ st. statement_drives S s b st ≡ true → Among n (length (own_width subject e.width ++ arms)) s) (is_constant subject.node)
      (Case' subject shape (freed_in n items) _ (more_of-Stmt (freed (behind (widths_in items) n) other) end_of-Stmt) wild)
      (both (keep n e)
      (Case' (subject_of subject n.signal) shape (freed_in i items) _ (more_of-Stmt (freed (behind (widths_in items) i) other) end_of-Stmt) wild))
      (λ constant drives. own-among n subject e.width arms s true constant
      (among-arms n (widths_in items) (widths other) s (some_set_in test (freed_in n items)) (statement_drives S s b (freed (behind (widths_in items) n) other))
      (in-among signals hidden places n subject.width items s b front.1 above) (drives-among signals hidden places (behind (widths_in items) n) other s b fit.1 above) drives))
      (λ constant drives. own-among n subject e.width arms s false constant
      (kept-among S n e e.width arms s b (some_set_in test (freed_in i items) || statement_drives S s b (freed (behind (widths_in items) i) other))
      (among-arms i (widths_in items) (widths other) s (some_set_in test (freed_in i items)) (statement_drives S s b (freed (behind (widths_in items) i) other))
      (in-among signals hidden places i subject.width items s b front.1 above) (drives-among signals hidden places (behind (widths_in items) i) other s b fit.1 above)) drives)) is
  drives-among signals hidden places n (Set place target e later) s b fits above is =
      absurd (both_ways (list_any (part_drives (signals ++ hidden) s b) target.parts)
      (parts_drive-hidden signals hidden s b target.parts above (set-parts signals places place target.parts e fits)) is)

  pub all-among : {shape : _} (signals hidden : List Signal) (places : List Place) (n : Next) (statements : Row_of-Stmt shape) (s b : ℕ) → statements_fit signals places statements ≡ true
      → length signals ≤ s → some_set_of (λ parts later. list_any (part_drives (signals ++ hidden) s b) parts) (freed_all n statements) ≡ true → Among n (length (widths_of statements)) s
  all-among signals hidden places n end_of-Stmt s b fits above is = cc
  all-among signals hidden places n (more_of-Stmt statement rest) s b fits above is =
      let fit = and_parts (statement_fits signals places statement) (statements_fit signals places rest) fits in
      among-arms n (widths statement) (widths_of rest) s (statement_drives (signals ++ hidden) s b (freed n statement))
      (some_set_of (λ parts later. list_any (part_drives (signals ++ hidden) s b) parts) (freed_all (behind (widths statement) n) rest))
      (drives-among signals hidden places n statement s b fit.0 above) (all-among signals hidden places (behind (widths statement) n) rest s b fit.1 above) is

  pub in-among : {shape : _} (signals hidden : List Signal) (places : List Place) (n : Next) (width : ℕ) (items : Row_of-CaseItem shape) (s b : ℕ) → items_fit signals places width items ≡ true
      → length signals ≤ s → some_set_in (λ parts later. list_any (part_drives (signals ++ hidden) s b) parts) (freed_in n items) ≡ true → Among n (length (widths_in items)) s
  in-among signals hidden places n width end_of-CaseItem s b fits above is = cc
  in-among signals hidden places n width (more_of-CaseItem labels body rest) s b fits above is =
      let fit = and_parts (list_all (label_fits signals width) labels && statement_fits signals places body) (items_fit signals places width rest) fits in
      let front = and_parts (list_all (label_fits signals width) labels) (statement_fits signals places body) fit.0 in
      among-arms n (widths body) (widths_in rest) s (statement_drives (signals ++ hidden) s b (freed n body))
      (some_set_in (λ parts later. list_any (part_drives (signals ++ hidden) s b) parts) (freed_in (behind (widths body) n) rest))
      (drives-among signals hidden places n body s b front.1 above) (in-among signals hidden places (behind (widths body) n) width rest s b fit.1 above) is

-- ---- the drivers of the freed design
cont-hidden : (signals hidden : List Signal) (parts : List Part) (e : Typed) (s b : ℕ) → assignment_fits signals parts e ≡ true → length signals ≤ s
    → list_any (part_drives (signals ++ hidden) s b) parts ≡ true → ⊥
cont-hidden signals hidden parts e s b fits above is =
    both_ways (list_any (part_drives (signals ++ hidden) s b) parts) (parts_drive-hidden signals hidden s b parts above (assignment-parts signals parts e fits).0) is

-- the first of a list
first-is : {X : Type 0} (x y : X) (xs : List X) → slice_get (x ∷ xs) zero ≡ Some y → y ≡ x
first-is x y xs at = cc

-- one that drives a net is a block with its condition
drivers-among : (signals hidden : List Signal) (places : List Place) (n : Next) (q : ℕ) (drivers : List Driver) (i : ℕ) (driver : Driver) (s b : ℕ)
    → list_all (driver_fits signals places) drivers ≡ true → length signals ≤ s → slice_get (connected q (freed_drivers n drivers)) i ≡ Some driver
    → driver_drives (signals ++ hidden) s b driver ≡ true → Among n (length (widths_of_drivers drivers)) s
drivers-among signals hidden places n q [] i driver s b fits above at drives = cc
drivers-among signals hidden places n q (Cont target e None span ∷ rest) zero driver s b fits above at drives =
    let fit = and_parts (driver_fits signals places (Cont target e None span)) (list_all (driver_fits signals places) rest) fits in
    let own = and_parts (assignment_fits signals target.parts e) true fit.0 in
    let same : driver ≡ Cont target e (Some q) span = first-is (Cont target e (Some q) span) driver (connected (q + 1) (freed_drivers n rest)) at in
    absurd (cont-hidden signals hidden target.parts e s b own.0 above (sym (ap (driver_drives (signals ++ hidden) s b) same) ∙ drives))
drivers-among signals hidden places n q (Cont target e None span ∷ rest) (suc i) driver s b fits above at drives =
    let fit = and_parts (driver_fits signals places (Cont target e None span)) (list_all (driver_fits signals places) rest) fits in
    drivers-among signals hidden places n (q + 1) rest i driver s b fit.1 above at drives
drivers-among signals hidden places n q (Cont target e (Some p) span ∷ rest) zero driver s b fits above at drives =
    let fit = and_parts (driver_fits signals places (Cont target e (Some p) span)) (list_all (driver_fits signals places) rest) fits in
    let own = and_parts (assignment_fits signals target.parts e) (place_fits places (parts_width signals target.parts) p) fit.0 in
    let same : driver ≡ Cont target e (Some p) span = first-is (Cont target e (Some p) span) driver (connected q (freed_drivers n rest)) at in
    absurd (cont-hidden signals hidden target.parts e s b own.0 above (sym (ap (driver_drives (signals ++ hidden) s b) same) ∙ drives))
drivers-among signals hidden places n q (Cont target e (Some p) span ∷ rest) (suc i) driver s b fits above at drives =
    let fit = and_parts (driver_fits signals places (Cont target e (Some p) span)) (list_all (driver_fits signals places) rest) fits in
    drivers-among signals hidden places n q rest i driver s b fit.1 above at drives
drivers-among signals hidden places n q (Comb body span ∷ rest) zero driver s b fits above at drives =
    let fit = and_parts (statement_fits signals places body) (list_all (driver_fits signals places) rest) fits in
    let same : driver ≡ Comb (freed n body) span = first-is (Comb (freed n body) span) driver (connected q (freed_drivers (behind (widths body) n) rest)) at in
    among-left n (widths body) (widths_of_drivers rest) s
    (drives-among signals hidden places n body s b fit.0 above (sym (ap (driver_drives (signals ++ hidden) s b) same) ∙ drives))
drivers-among signals hidden places n q (Comb body span ∷ rest) (suc i) driver s b fits above at drives =
    let fit = and_parts (statement_fits signals places body) (list_all (driver_fits signals places) rest) fits in
    among-right n (widths body) (widths_of_drivers rest) s (drivers-among signals hidden places (behind (widths body) n) q rest i driver s b fit.1 above at drives)

-- a block and a later driver have no net in common
apart : (signals hidden : List Signal) (places : List Place) (n : Next) (q : ℕ) (body : Stmt) (rest : List Driver) (i : ℕ) (other : Driver) (s b : ℕ)
    → statement_fits signals places body ≡ true → list_all (driver_fits signals places) rest ≡ true → length signals ≤ s
    → statement_drives (signals ++ hidden) s b (freed n body) ≡ true → slice_get (connected q (freed_drivers (behind (widths body) n) rest)) i ≡ Some other
    → driver_drives (signals ++ hidden) s b other ≡ true → ⊥
apart signals hidden places n q body rest i other s b fit fits above one at two =
    let h = drives-among signals hidden places n body s b fit above one in
    let g = drivers-among signals hidden places (behind (widths body) n) q rest i other s b fits above at two in
    let low : s < n.signal + length (widths body) = h.below in
    let high : n.signal + length (widths body) ≤ s = g.from in
    omega arith

pub drivers-apart : (signals hidden : List Signal) (places : List Place) (n : Next) (q : ℕ) (drivers : List Driver) (i j : ℕ) (one other : Driver) (s b : ℕ)
    → list_all (driver_fits signals places) drivers ≡ true → length signals ≤ s
    → slice_get (connected q (freed_drivers n drivers)) i ≡ Some one → slice_get (connected q (freed_drivers n drivers)) j ≡ Some other
    → driver_drives (signals ++ hidden) s b one ≡ true → driver_drives (signals ++ hidden) s b other ≡ true → i ≡ j
drivers-apart signals hidden places n q [] i j one other s b fits above at_i at_j di dj = cc
drivers-apart signals hidden places n q (driver ∷ rest) zero zero one other s b fits above at_i at_j di dj = refl
drivers-apart signals hidden places n q (Cont target e None span ∷ rest) zero (suc j) one other s b fits above at_i at_j di dj =
    let fit = and_parts (driver_fits signals places (Cont target e None span)) (list_all (driver_fits signals places) rest) fits in
    let own = and_parts (assignment_fits signals target.parts e) true fit.0 in
    let same : one ≡ Cont target e (Some q) span = first-is (Cont target e (Some q) span) one (connected (q + 1) (freed_drivers n rest)) at_i in
    absurd (cont-hidden signals hidden target.parts e s b own.0 above (sym (ap (driver_drives (signals ++ hidden) s b) same) ∙ di))
drivers-apart signals hidden places n q (Cont target e None span ∷ rest) (suc i) zero one other s b fits above at_i at_j di dj =
    let fit = and_parts (driver_fits signals places (Cont target e None span)) (list_all (driver_fits signals places) rest) fits in
    let own = and_parts (assignment_fits signals target.parts e) true fit.0 in
    let same : other ≡ Cont target e (Some q) span = first-is (Cont target e (Some q) span) other (connected (q + 1) (freed_drivers n rest)) at_j in
    absurd (cont-hidden signals hidden target.parts e s b own.0 above (sym (ap (driver_drives (signals ++ hidden) s b) same) ∙ dj))
drivers-apart signals hidden places n q (Cont target e None span ∷ rest) (suc i) (suc j) one other s b fits above at_i at_j di dj =
    let fit = and_parts (driver_fits signals places (Cont target e None span)) (list_all (driver_fits signals places) rest) fits in
    ap suc (drivers-apart signals hidden places n (q + 1) rest i j one other s b fit.1 above at_i at_j di dj)
drivers-apart signals hidden places n q (Cont target e (Some p) span ∷ rest) zero (suc j) one other s b fits above at_i at_j di dj =
    let fit = and_parts (driver_fits signals places (Cont target e (Some p) span)) (list_all (driver_fits signals places) rest) fits in
    let own = and_parts (assignment_fits signals target.parts e) (place_fits places (parts_width signals target.parts) p) fit.0 in
    let same : one ≡ Cont target e (Some p) span = first-is (Cont target e (Some p) span) one (connected q (freed_drivers n rest)) at_i in
    absurd (cont-hidden signals hidden target.parts e s b own.0 above (sym (ap (driver_drives (signals ++ hidden) s b) same) ∙ di))
drivers-apart signals hidden places n q (Cont target e (Some p) span ∷ rest) (suc i) zero one other s b fits above at_i at_j di dj =
    let fit = and_parts (driver_fits signals places (Cont target e (Some p) span)) (list_all (driver_fits signals places) rest) fits in
    let own = and_parts (assignment_fits signals target.parts e) (place_fits places (parts_width signals target.parts) p) fit.0 in
    let same : other ≡ Cont target e (Some p) span = first-is (Cont target e (Some p) span) other (connected q (freed_drivers n rest)) at_j in
    absurd (cont-hidden signals hidden target.parts e s b own.0 above (sym (ap (driver_drives (signals ++ hidden) s b) same) ∙ dj))
drivers-apart signals hidden places n q (Cont target e (Some p) span ∷ rest) (suc i) (suc j) one other s b fits above at_i at_j di dj =
    let fit = and_parts (driver_fits signals places (Cont target e (Some p) span)) (list_all (driver_fits signals places) rest) fits in
    ap suc (drivers-apart signals hidden places n q rest i j one other s b fit.1 above at_i at_j di dj)
drivers-apart signals hidden places n q (Comb body span ∷ rest) zero (suc j) one other s b fits above at_i at_j di dj =
    let fit = and_parts (statement_fits signals places body) (list_all (driver_fits signals places) rest) fits in
    let same : one ≡ Comb (freed n body) span = first-is (Comb (freed n body) span) one (connected q (freed_drivers (behind (widths body) n) rest)) at_i in
    absurd (apart signals hidden places n q body rest j other s b fit.0 fit.1 above (sym (ap (driver_drives (signals ++ hidden) s b) same) ∙ di) at_j dj)
drivers-apart signals hidden places n q (Comb body span ∷ rest) (suc i) zero one other s b fits above at_i at_j di dj =
    let fit = and_parts (statement_fits signals places body) (list_all (driver_fits signals places) rest) fits in
    let same : other ≡ Comb (freed n body) span = first-is (Comb (freed n body) span) other (connected q (freed_drivers (behind (widths body) n) rest)) at_j in
    absurd (apart signals hidden places n q body rest i one s b fit.0 fit.1 above (sym (ap (driver_drives (signals ++ hidden) s b) same) ∙ dj) at_i di)
drivers-apart signals hidden places n q (Comb body span ∷ rest) (suc i) (suc j) one other s b fits above at_i at_j di dj =
    let fit = and_parts (statement_fits signals places body) (list_all (driver_fits signals places) rest) fits in
    ap suc (drivers-apart signals hidden places (behind (widths body) n) q rest i j one other s b fit.1 above at_i at_j di dj)

-- ---- the design
zip-got : {X Y : Type 0} (R : X → Y → Type 0) (xs : List X) (ys : List Y) (i : ℕ) (y : Y) → AllZip R xs ys → slice_get ys i ≡ Some y
    → (x : X) × (slice_get xs i ≡ Some x) × R x y
zip-got R [] [] i y all at = cc
zip-got R [] (b ∷ ys) i y all at = absurd all
zip-got R (a ∷ xs) [] i y all at = cc
zip-got R (a ∷ xs) (b ∷ ys) zero y all at = let same : b ≡ y = cc in (a, refl, subst (λ z. R a z) same all.0)
zip-got R (a ∷ xs) (b ∷ ys) (suc i) y all at = zip-got R xs ys i y all.1 at

-- a net is no register
nets-no_register : (ws : List ℕ) (hidden : List Signal) (i : ℕ) → AllZip IsKeptIn ws hidden
    → option_map_or (λ (signal : Signal). is_reg signal.kind) (slice_get hidden i) false ≡ false
nets-no_register [] [] i all = refl
nets-no_register [] (s ∷ hidden) i all = absurd all
nets-no_register (w ∷ ws) [] i all = absurd all
nets-no_register (w ∷ ws) (s ∷ hidden) zero all = ap is_reg all.0.kind
nets-no_register (w ∷ ws) (s ∷ hidden) (suc i) all = nets-no_register ws hidden i all.1

register-old : (d e : Design) → IsFreed d e → (s b : ℕ) → is_register_bit e s b ≡ true → s < length d.signals.items
register-old d e f s b is = at (cases_lt s (length d.signals.items))
  where
    at : (s < length d.signals.items) ⊎ (length d.signals.items ≤ s) → s < length d.signals.items
    at (inl below) = below
    at (inr above) =
        let k : ℕ = s - length d.signals.items in
        let moved : s ≡ length d.signals.items + k = omega arith in
        let here : slice_get e.signals.items s ≡ slice_get f.hidden k =
        ap (λ (S : List Signal). slice_get S s) f.signals ∙ ap (slice_get (d.signals.items ++ f.hidden)) moved ∙ slice_get-behind d.signals.items f.hidden k in
        let fails : option_map_or (λ (signal : Signal). is_reg signal.kind) (slice_get e.signals.items s) false ≡ false =
        ap (λ o. option_map_or (λ (signal : Signal). is_reg signal.kind) o false) here ∙ nets-no_register (condition_widths d) f.hidden k f.are_kept_in in
        absurd (both_ways (option_map_or (λ (signal : Signal). is_reg signal.kind) (slice_get e.signals.items s) false) fails
        (and_parts (option_map_or (λ (signal : Signal). is_reg signal.kind) (slice_get e.signals.items s) false) (not (is_driven e s b)) is).0)

abbrev nothing : Choice
nothing = record { frees = λ _. false; chosen = λ _. 0 }

pub once-freed : (d e : Design) → IsWellFormed d → IsDrivenOnce d → IsFreed d e → IsDrivenOnce e
once-freed d e well once f =
    let h : Beside d e nothing = beside d e well f nothing (record { unfreed = λ p above. refl }) in
    record {
      drivers = λ i j one other s b at_i at_j di dj. by_signal h i j one other s b at_i at_j di dj (cases_lt s (length d.signals.items));
      inputs = λ driver s b member drives. unlisted h driver s b member drives (is_listed d s) refl;
      blocks = λ i j one other s b at_i at_j register di dj.
          let below : s < length d.signals.items = register-old d e f s b register in
          let (x, at_x, x_alike) = zip-got (ClockedAlike d.signals.items e.signals.items nothing) d.clocked.items e.clocked.items i one h.clocked at_i in
          let (y, at_y, y_alike) = zip-got (ClockedAlike d.signals.items e.signals.items nothing) d.clocked.items e.clocked.items j other h.clocked at_j in
          once.blocks i j x y s b at_x at_y (sym (register-same d e nothing h s b below) ∙ register) (sym (x_alike.drives s b below) ∙ di) (sym (y_alike.drives s b below) ∙ dj);
    }
  where
    by_signal : Beside d e nothing → (i j : ℕ) (one other : Driver) (s b : ℕ) → slice_get e.drivers.items i ≡ Some one → slice_get e.drivers.items j ≡ Some other
        → driver_drives e.signals.items s b one ≡ true → driver_drives e.signals.items s b other ≡ true
        → (s < length d.signals.items) ⊎ (length d.signals.items ≤ s) → i ≡ j
    by_signal h i j one other s b at_i at_j di dj (inl below) =
        let (x, at_x, x_alike) = zip-got (DriverAlike d.signals.items e.signals.items nothing) d.drivers.items e.drivers.items i one h.drivers at_i in
        let (y, at_y, y_alike) = zip-got (DriverAlike d.signals.items e.signals.items nothing) d.drivers.items e.drivers.items j other h.drivers at_j in
        once.drivers i j x y s b at_x at_y (sym (x_alike.drives s b below) ∙ di) (sym (y_alike.drives s b below) ∙ dj)
    by_signal h i j one other s b at_i at_j di dj (inr above) =
        drivers-apart d.signals.items f.hidden d.places.items (begins d) (length d.places.items + length (condition_widths d)) d.drivers.items i j one other s b well.drivers above
        (sym (ap (λ (ds : List Driver). slice_get ds i) f.drivers) ∙ at_i) (sym (ap (λ (ds : List Driver). slice_get ds j) f.drivers) ∙ at_j)
        (sym (ap (λ (S : List Signal). driver_drives S s b one) f.signals) ∙ di) (sym (ap (λ (S : List Signal). driver_drives S s b other) f.signals) ∙ dj)

    unlisted : Beside d e nothing → (driver : Driver) (s b : ℕ) → Contains e.drivers.items driver → driver_drives e.signals.items s b driver ≡ true
        → (t : Bool) → is_listed d s ≡ t → not (is_listed e s) ≡ true
    unlisted h driver s b member drives false is = ap not (ap (list_any (λ input. input == s)) h.inputs ∙ is)
    unlisted h driver s b member drives true is =
        let below : s < length d.signals.items = h.listed s is in
        let (k, at) = Contains-place e.drivers.items driver member in
        let (x, at_x, alike) = zip-got (DriverAlike d.signals.items e.signals.items nothing) d.drivers.items e.drivers.items k driver h.drivers at in
        let free : not (is_listed d s) ≡ true = once.inputs x s b (Contains-at d.drivers.items k x at_x) (sym (alike.drives s b below) ∙ drives) in
        ap not (ap (list_any (λ input. input == s)) h.inputs) ∙ free
