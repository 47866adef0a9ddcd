-- Always blocks keep what is bound well formed: their statements fit, and a reset is on an input of one bit of the top.
use Rattle.std.proofs.Common.{◌≡◌, ℕ, ◌+◌, Bool, true, false, List, [], ◌∷◌, length, Option, Some, None, refl, sym, ◌∙◌, ap, subst, arith}
use Rattle.std.specs.Prelude.{◌==◌, if◌then◌else◌, Ok, option_and_then}
use Rattle.std.specs.Option.{option_map_or}
use Rattle.std.proofs.lemmas.Bool.{and_parts, and_from, eq-eqb}
use Rattle.loc_base.proofs.ShelfOptions.{Some-same}
use Rattle.design_core.specs.declared.driver.Driver.TheVariants as driver
use Rattle.design_core.specs.declared.driver.Clocked.{Clocked}
use Rattle.design_core.specs.declared.statement.Stmt.{Stmt, Row_of-Stmt, end_of-Stmt, more_of-Stmt}
use Rattle.design_core.specs.declared.statement.Stmt.TheVariants as stmt
use Rattle.design_core.specs.Valuation.{width_at}
use Rattle.design_core.specs.WellFormed.{statement_fits, statements_fit, is_reset_values, times_in, times_in_all, times_in_clocked}
use Rattle.v_syntax.specs.declared.site.Site.{Site}
use Rattle.v_syntax.specs.ItemTree.{PlainEvent, edge_event, change_event, PlainSensitivity}
use Rattle.v_hierarchy.specs.Unrolled.{Steps}
use Rattle.v_binding.specs.Steps.{◌>>=◌, each}
use Rattle.v_binding.specs.Names.{Names, find}
use Rattle.v_binding.specs.Places.{Home, Placed}
use Rattle.v_binding.specs.Statements.{bound}
use Rattle.v_binding.specs.Bound.{Root, Bound, with_places, with_driver, with_clocked, with_misclocked}
use Rattle.v_binding.specs.Clocks.{root_of, signal_of, root_named, is_clock, Waited, edges, is_clock_edge, Resetting, resetting, Wait, by_clock, by_clock_and, by_others, wait_with, wait_for, Arms, arms_here, arms_alone, arms_of, condition_of, is_active, reset_arms, with_reset, without_reset, clocked_of}
use Rattle.v_binding.specs.Blocks.{Frame, event_at, has_edge, events_of, combinational, clocked, block_of, always_block}
use Rattle.bind_laws.specs.Every.{Every}
use Rattle.bind_laws.specs.Fit.{NamesFit, StepsFit, Begins}
use Rattle.bind_laws.specs.Whole.{Whole, below, clocked_fits, RootFits}
use Rattle.bind_laws.proofs.Lists.{Ok-same, between}
use Rattle.bind_laws.proofs.Bodies.{Binds, bound-binds}
use Rattle.bind_laws.proofs.Goes.{Goes, driver-more, clocked-more, read-more, misclocked-more}

-- ---- roots
-- an input that a name is connected to fits
pub root-fits : (w : Whole) (roots : List Root) (s input : ℕ) → Every (λ (r : Root). RootFits w r.input) roots
    → root_of roots s ≡ Some input → RootFits w input
root-fits w [] s input all is = cc
root-fits w (r ∷ rs) s input all is = by (r.signal == s) is (λ later. root-fits w rs s input all.1 later)
  where
    by : (same : Bool) → (if same then Some r.input else root_of rs s) ≡ Some input
        → (root_of rs s ≡ Some input → RootFits w input) → RootFits w input
    by true is later = subst (RootFits w) (Some-same is) all.0
    by false is later = later is

pub named-fits : (w : Whole) (roots : List Root) (names : Names) (text : List ℕ) (input : ℕ)
    → Every (λ (r : Root). RootFits w r.input) roots
    → root_named roots names text ≡ Some input → RootFits w input
named-fits w roots names text input all is = by (signal_of (find names text)) is
  where
    by : (o : Option ℕ) → option_and_then (root_of roots) o ≡ Some input → RootFits w input
    by None is = cc
    by (Some s) is = root-fits w roots s input all is

-- ---- what is waited for
abbrev WaitedFits : Whole → Waited → Type 0
WaitedFits w x = (input : ℕ) → x.root ≡ Some input → RootFits w input

edges-fit : (w : Whole) (roots : List Root) (names : Names) (events : List PlainEvent)
    → Every (λ (r : Root). RootFits w r.input) roots
    → Every (WaitedFits w) (edges roots names events)
edges-fit w roots names [] all = tt
edges-fit w roots names (edge_event _ e text ∷ es) all = (λ input is. named-fits w roots names text input all is, edges-fit w roots names es all)
edges-fit w roots names (change_event _ _ _ ∷ es) all = edges-fit w roots names es all

-- a reset that a block waits for is on an input that fits and that isn't the clock
pub record ResetFits (w : Whole) (r : Resetting) : Type 0 where
  pub root : RootFits w r.input
  pub other : is_clock w.clock r.input ≡ false

resetting-fits : (w : Whole) (x : Waited) (r : Resetting) → WaitedFits w x → resetting w.clock x ≡ Some r
    → ResetFits w r
resetting-fits w x r fits is = by x.root fits is
  where
    made : ℕ → Resetting
    made input = record { input = input; level = x.rising; text = x.text }

    chosen : (input : ℕ) → RootFits w input → (clocks : Bool) → is_clock w.clock input ≡ clocks
        → (if clocks then None else Some (made input)) ≡ Some r → ResetFits w r
    chosen input root true at is = cc
    chosen input root false at is = subst (ResetFits w) (Some-same is) (record { root = root; other = at })

    by : (o : Option ℕ) → ((input : ℕ) → o ≡ Some input → RootFits w input) → ◌≡◌ {A = Option Resetting} (elim o [
      | Some input ↦ if is_clock w.clock input then None else Some (record { input = input; level = x.rising; text = x.text })
      | None ↦ None
    ]) (Some r) → ResetFits w r
    by None fits is = cc
    by (Some input) fits is = chosen input (fits input refl) (is_clock w.clock input) refl is

abbrev WaitFits : Whole → Wait → Type 0
WaitFits w x = (r : Resetting) → x ≡ by_clock_and r → ResetFits w r

with-fits : (w : Whole) (x : Waited) → WaitedFits w x → WaitFits w (wait_with (resetting w.clock x))
with-fits w x fits = by (resetting w.clock x) refl
  where
    by : (o : Option Resetting) → resetting w.clock x ≡ o → WaitFits w (wait_with o)
    by None at r is = cc
    by (Some one) at r is = let same : one ≡ r = cc in subst (ResetFits w) same (resetting-fits w x one fits at)

others-fit : (w : Whole) → WaitFits w by_others
others-fit w r is = cc

clock-fits : (w : Whole) → WaitFits w by_clock
clock-fits w r is = cc

wait-fits : (w : Whole) (xs : List Waited) → Every (WaitedFits w) xs → WaitFits w (wait_for w.clock xs)
wait-fits w [] fits = others-fit w
wait-fits w (x ∷ []) fits = by (is_clock_edge w.clock x)
  where
    by : (clocks : Bool) → WaitFits w (if clocks then by_clock else by_others)
    by true = clock-fits w
    by false = others-fit w
wait-fits w (one ∷ other ∷ []) fits = by (is_clock_edge w.clock one) (is_clock_edge w.clock other)
  where
    by : (first second : Bool)
        → WaitFits w (if first then wait_with (resetting w.clock other) else if second then wait_with (resetting w.clock one) else by_others)
    by true second = with-fits w other fits.1.0
    by false true = with-fits w one fits.0
    by false false = others-fit w
wait-fits w (one ∷ other ∷ more ∷ rest) fits = others-fit w

-- ---- the arms of a reset
-- both arms of a statement fit where it does, and have its places
pub record ArmsFit (w : Whole) (count : ℕ → ℕ) (arms : Arms) : Type 0 where
  pub values : statement_fits w.signals w.places arms.values ≡ true
  pub body : statement_fits w.signals w.places arms.body ≡ true
  pub times : (p : ℕ) → times_in p arms.body + times_in p arms.values ≡ count p

either-order : (a b : ℕ) → a + b ≡ b + a
either-order a b = omega arith

here-fit : (w : Whole) (s : Stmt) (arms : Arms) → statement_fits w.signals w.places s ≡ true → arms_here s ≡ Some arms
    → ArmsFit w (λ p. times_in p s) arms
here-fit w (stmt.If' cond _ (more_of-Stmt on_true end_of-Stmt) _ (more_of-Stmt on_false end_of-Stmt)) arms fits is =
    let f = and_parts _ _ fits in
    let g = and_parts _ _ f.0 in
    subst (ArmsFit w (λ p. times_in p on_true + times_in p on_false)) (Some-same is)
    (record { values = g.1; body = f.1; times = λ p. either-order (times_in p on_false) (times_in p on_true) })
here-fit w stmt.Nothing arms fits is = cc
here-fit w (stmt.Block' _ _) arms fits is = cc
here-fit w (stmt.Case' _ _ _ _ _ _) arms fits is = cc
here-fit w (stmt.Set _ _ _ _) arms fits is = cc

alone-fit : {shape : _} (w : Whole) (row : Row_of-Stmt shape) (arms : Arms)
    → statements_fit w.signals w.places row ≡ true → arms_alone row ≡ Some arms
    → ArmsFit w (λ p. times_in_all p row) arms
alone-fit w end_of-Stmt arms fits is = cc
alone-fit w (more_of-Stmt s end_of-Stmt) arms fits is =
    let inner = here-fit w s arms (and_parts _ _ fits).0 is in
    record { values = inner.values; body = inner.body; times = λ p. omega (arith, inner.times p) }
alone-fit w (more_of-Stmt s (more_of-Stmt t rest)) arms fits is = cc

arms-fit : (w : Whole) (s : Stmt) (arms : Arms) → statement_fits w.signals w.places s ≡ true → arms_of s ≡ Some arms
    → ArmsFit w (λ p. times_in p s) arms
arms-fit w (stmt.Block' tag row) arms fits is = alone-fit w row arms fits is
arms-fit w stmt.Nothing arms fits is = cc
arms-fit w (stmt.If' cond one on_true other on_false) arms fits is = here-fit w (stmt.If' cond one on_true other on_false) arms fits is
arms-fit w (stmt.Case' _ _ _ _ _ _) arms fits is = cc
arms-fit w (stmt.Set _ _ _ _) arms fits is = cc

-- the arms that a reset has are of constants
pub record ResetArms (w : Whole) (s : Stmt) (arms : Arms) : Type 0 where
  pub fit : ArmsFit w (λ p. times_in p s) arms
  pub constants : is_reset_values arms.values ≡ true

reset-fits : (w : Whole) (names : Names) (r : Resetting) (steps : Steps) (s : Stmt) (arms : Arms)
    → statement_fits w.signals w.places s ≡ true
    → reset_arms names r steps s ≡ Some arms → ResetArms w s arms
reset-fits w names r steps s arms fits is = outer (option_map_or (is_active names r) (condition_of steps) false) is
  where
    chosen : (found : Arms) → arms_of s ≡ Some found → (constant : Bool) → is_reset_values found.values ≡ constant
        → (if constant then Some found else None) ≡ Some arms → ResetArms w s arms
    chosen found at true holds is = subst (ResetArms w s) (Some-same is) (record { fit = arms-fit w s found fits at; constants = holds })
    chosen found at false holds is = cc

    inner : (o : Option Arms) → arms_of s ≡ o
        → option_and_then (λ (a : Arms). if is_reset_values a.values then Some a else None) o ≡ Some arms
        → ResetArms w s arms
    inner None at is = cc
    inner (Some found) at is = chosen found at (is_reset_values found.values) refl is

    outer : (active : Bool)
        → (if active then option_and_then (λ (a : Arms). if is_reset_values a.values then Some a else None) (arms_of s) else None)
        ≡ Some arms → ResetArms w s arms
    outer true is = inner (arms_of s) refl is
    outer false is = cc

-- ---- a clocked block
-- it fits, and has the places of its statement
pub record ClockedFits (w : Whole) (s : Stmt) (block : Clocked) : Type 0 where
  pub fits : clocked_fits w block ≡ true
  pub times : (p : ℕ) → times_in_clocked p block ≡ times_in p s

without-fits : (w : Whole) (s : Stmt) → statement_fits w.signals w.places s ≡ true → ClockedFits w s (without_reset s)
without-fits w s fits = record { fits = and_from _ _ fits refl; times = λ p. omega arith }

with-reset-fits : (w : Whole) (s : Stmt) (r : Resetting) (arms : Arms) → ResetFits w r → ResetArms w s arms
    → ClockedFits w s (with_reset r arms)
with-reset-fits w s r arms reset a = record {
  fits = and_from _ _ a.fit.body
      (and_from _ _ (and_from _ _ (and_from _ _ (reset.root.given reset.other) (eq-eqb (width_at w.signals r.input) 1 reset.root.of_width)) a.constants) a.fit.values);
  times = a.fit.times;
}

abbrev block_in : Clocked × Bool → Clocked
block_in x = x.0

clocked-fits : (w : Whole) (names : Names) (x : Wait) (steps : Steps) (s : Stmt) → WaitFits w x
    → statement_fits w.signals w.places s ≡ true
    → ClockedFits w s (clocked_of names x steps s).0
clocked-fits w names by_clock steps s waits fits = without-fits w s fits
clocked-fits w names by_others steps s waits fits = without-fits w s fits
clocked-fits w names (by_clock_and r) steps s waits fits = by (reset_arms names r steps s) refl
  where
    reset : ResetFits w r
    reset = waits r refl

    by : (o : Option Arms) → reset_arms names r steps s ≡ o → ClockedFits w s (block_in (elim o [
      | Some arms ↦ (with_reset r arms, false)
      | None ↦ (without_reset s, true)
    ]))
    by None at = without-fits w s fits
    by (Some arms) at = with-reset-fits w s r arms reset (reset-fits w names r steps s arms fits at)

-- ---- blocks
-- a statement with the places that it makes becomes a driver
combinational-goes : (w : Whole) (f : Frame) (site : Site) (x : Placed Stmt) (b : Bound)
    → (Begins x.places w.places → Binds w.signals w.places b.places x)
    → Goes w b (combinational f site x.value (with_places x.places b))
combinational-goes w f site x b binds begins =
    let s = binds begins in
    record {
      front = s.front;
      keeps = λ before. read-more w _ site.span (with_driver (driver.Comb x.value site.span) (with_places x.places b))
          (driver-more w x.places (driver.Comb x.value site.span) b s.fits s.times s.widths before);
    }

clocked-goes : (w : Whole) (f : Frame) (names : Names) (site : Site) (events : List PlainEvent) (steps : Steps)
    (x : Placed Stmt) (b : Bound) → f.clock ≡ w.clock
    → (Begins x.places w.places → Binds w.signals w.places b.places x)
    → Goes w b (clocked f names site events steps x.value (with_places x.places b))
clocked-goes w f names site events steps x b same binds begins =
    let s = binds begins in
    record {
      front = s.front;
      keeps = λ before.
          let waits = subst (λ clock. WaitFits w (wait_for clock (edges b.roots names events))) (sym same)
          (wait-fits w (edges b.roots names events) (edges-fit w b.roots names events before.roots)) in
          let made = clocked_of names (wait_for f.clock (edges b.roots names events)) steps x.value in
          let fits = clocked-fits w names (wait_for f.clock (edges b.roots names events)) steps x.value waits s.fits in
          read-more w _ site.span (with_misclocked made.1 site.span (with_clocked made.0 (with_places x.places b)))
          (misclocked-more w made.1 site.span (with_clocked made.0 (with_places x.places b))
          (clocked-more w x.places made.0 b fits.fits (λ p. ap (λ n. n + below p (length b.places)) (fits.times p) ∙ s.times p) s.widths before));
    }

block-goes : (w : Whole) (f : Frame) (names : Names) (site : Site) (events : List PlainEvent) (steps : Steps)
    (x : Placed Stmt) (b : Bound) → f.clock ≡ w.clock
    → (Begins x.places w.places → Binds w.signals w.places b.places x)
    → Goes w b (block_of f names site events steps x.value (with_places x.places b))
block-goes w f names site events steps x b same binds = by (has_edge events)
  where
    by : (edged : Bool) → Goes w b (elim edged [
      | true ↦ clocked f names site events steps x.value (with_places x.places b)
      | false ↦ combinational f site x.value (with_places x.places b)
    ])
    by true = clocked-goes w f names site events steps x b same binds
    by false = combinational-goes w f site x b binds

pub always-goes : (w : Whole) (f : Frame) (home : Home) (names : Names) (site : Site) (sensitivity : PlainSensitivity)
    (steps : Steps) (b c : Bound)
    → NamesFit w.signals names → StepsFit steps → f.clock ≡ w.clock
    → always_block f home names site sensitivity steps b ≡ Ok c → Goes w b c
always-goes w f home names site sensitivity steps b c fit turns same is =
    between (each (event_at names) (events_of sensitivity) tt) (λ _. bound home names steps b.places >>= λ x. Ok (block_of f names site (events_of sensitivity) steps x.value (with_places x.places b))) c (Goes w b c) is
    λ _ _ is.
    between (bound home names steps b.places) (λ x. Ok (block_of f names site (events_of sensitivity) steps x.value (with_places x.places b))) c (Goes w b c) is
    λ x first last.
    subst (Goes w b) (Ok-same last)
    (block-goes w f names site (events_of sensitivity) steps x b same (λ begins. bound-binds w.signals w.places home names steps b.places x fit turns first begins))
