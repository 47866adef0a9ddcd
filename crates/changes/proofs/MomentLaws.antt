-- What is answered of a place in a driver, and of what it computes.
use Rattle.std.proofs.Common.{◌≡◌, ℕ, zero, suc, Bool, true, false, ◌&&◌, List, [], ◌∷◌, ap, sym, ◌∙◌, refl, subst, arith, Option, Some, None, option_map}
use Rattle.std.specs.Prelude.{◌==◌, ◌<◌, if◌then◌else◌, nat_lt, Contains}
use Rattle.std.specs.Option.{option_map_or, option_or}
use Rattle.std.proofs.lemmas.Bool.{cond-true, cond-false, eq-eqb, ne_eqb, lt-ltb}
use Rattle.loc_base.specs.declared.bits.Bits.{Bits}
use Rattle.loc_base.specs.Bits.{value_of, width_of}
use Rattle.loc_base.proofs.ShelfLists.{list_all-member}
use Rattle.design_core.specs.declared.design.Design.{Design}
use Rattle.design_core.specs.declared.expression.Typed.{Typed}
use Rattle.design_core.specs.declared.driver.Driver.{Driver}
use Rattle.design_core.specs.declared.driver.Driver.TheVariants.{Cont, Comb}
use Rattle.design_core.specs.declared.statement.Stmt.{Stmt}
use Rattle.design_core.specs.declared.statement.Target.{Target}
use Rattle.design_core.specs.Explained.{place_width}
use Rattle.design_core.specs.Valuation.{Valuation}
use Rattle.design_core.specs.After.{Choice, Updates}
use Rattle.design_core.specs.Store.{parts_width}
use Rattle.design_core.specs.WellFormed.{assignment_fits, driver_fits, place_fits, statement_fits, times_in}
use Rattle.design_core.specs.Words.{AreWordsOf, valuation_of}
use Rattle.changes.specs.declared.moment.Executed.{Executed}
use Rattle.changes.specs.Execution.{Execution, computes_at, executed_in, executed_set, first_executed}
use Rattle.changes.specs.Reached.{reached_in}
use Rattle.changes.specs.Lists.{stands_in}
use Rattle.changes.specs.Moments.{Executes, IsComputed, IsExecuted, IsSide, execution_of, execution_with}
use Rattle.changes.proofs.ExecutionLaws.{in-computes, none-executed}
use Rattle.changes.proofs.ReachedLaws.{reached_in-none}
use Rattle.changes.proofs.WalkLaws.{is-placed}

-- nothing is answered where there is nothing
pub executes-none : (d : Design) (p : ℕ) (execution : Option Execution) → execution ≡ None → Executes d p execution None
executes-none d p execution none = record { is = sym none; can = tt }

none_of : (n : ℕ) → nat_lt 0 n ≡ false → n ≡ 0
none_of zero h = refl
none_of (suc n) h = let positive : nat_lt 0 (suc n) ≡ true = lt-ltb 0 (suc n) (omega arith) in cc

-- a place that doesn't stand in a statement
pub stands-nowhere : (d : Design) (A : Choice) (p : ℕ) (statement : Stmt) (m : Updates)
    → statement_fits d.signals.items d.places.items statement ≡ true
    → stands_in p statement ≡ false → Executes d p (executed_in d.signals.items A p statement m) None
stands-nowhere d A p statement m fits none =
    executes-none d p (executed_in d.signals.items A p statement m)
    (none-executed (computes_at d p) (executed_in d.signals.items A p statement m)
    (sym (reached_in-none d.signals.items A p statement m (none_of (times_in p statement) none)) ∙ in-computes d A p statement m fits))

-- what is known of a continuous assignment of the place
pub cont-side : (d : Design) (p : ℕ) (target : Target) (side : Typed) (own : Option ℕ) (span : _)
    → driver_fits d.signals.items d.places.items (Cont target side own span) ≡ true → own ≡ Some p → IsSide d p side
cont-side d p target side own span fits is =
    let wide : ℕ = parts_width d.signals.items target.parts in
    is-placed d target.parts side p
    (ap (λ o. assignment_fits d.signals.items target.parts side && option_map_or (place_fits d.places.items wide) o true) (sym is) ∙ fits)

-- what an execution computes
pub computed-is : (d : Design) (p : ℕ) (execution : Option Execution) (e : Executed) (word : Bits) (reaches : Option ℕ)
    → reaches ≡ option_map (computes_at d p) execution → Executes d p execution (Some e)
    → width_of word ≡ place_width d p → value_of word ≡ computes_at d p (execution_of e) → IsComputed d p reaches (Some word)
computed-is d p execution e word reaches is h width value =
    record { number = ap Some value ∙ ap (option_map (computes_at d p)) h.is ∙ sym is; width = width }

pub computed-none : (d : Design) (p : ℕ) (execution : Option Execution) (reaches : Option ℕ)
    → reaches ≡ option_map (computes_at d p) execution
    → Executes d p execution None → IsComputed d p reaches None
computed-none d p execution reaches is h = record { number = ap (option_map (computes_at d p)) h.is ∙ sym is; width = tt }
