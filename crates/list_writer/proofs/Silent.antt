-- The writes of texts print nothing.
use Rattle.std.proofs.Common.{◌≡◌, ℕ, zero, suc, ◌+◌, false, cond, List, [], ◌∷◌, ◌++◌, take, Option, Some, None, refl, ap, arith}
use Rattle.std.specs.Prelude.{count_by}
use Rattle.std.proofs.lemmas.List.Sums.{sum_by-cons}
use Rattle.design_core.specs.declared.trace.Trace.{Trace}
use Rattle.design_core.specs.declared.values.Values.{Values}
use Rattle.design_core.specs.declared.values.SetWithValues.{SetWithValues}
use Rattle.design_core.specs.Valuation.{Valuation}
use Rattle.write_order.specs.Writes.{Write}
use Rattle.set_waves.specs.Waved.{Runs, Waved}
use Rattle.set_waves.specs.Writes.{set_writes, waves_of, waves_writes}
use Rattle.list_writer.specs.Asked.{Asked}
use Rattle.list_writer.specs.Due.{prints}
use Rattle.list_writer.specs.Texts.{waved_for, waves}

abbrev pub AreSilent : List Write → Type 0
AreSilent [] = Unit {0}
AreSilent (write ∷ writes) = (prints write ≡ false) × AreSilent writes

pub silent-print : (writes : List Write) → AreSilent writes → (c : ℕ) → count_by prints (take c writes) ≡ 0
silent-print writes silent zero = refl
silent-print [] silent (suc c) = refl
silent-print (w ∷ writes) silent (suc c) = omega (
  arith,
  sum_by-cons (λ x. cond (prints x) 1 0) w (take c writes),
  ap {B = ℕ} (λ b. cond b 1 0) silent.0,
  silent-print writes silent.1 c,
)

silent-append : (one next : List Write) → AreSilent one → AreSilent next → AreSilent (one ++ next)
silent-append [] next first then = then
silent-append (w ∷ one) next first then = (first.0, silent-append one next first.1 then)

set-silent : (w : Waved) (prefix : List ℕ) (number : ℕ) (values : Values) (runs : ℕ → List Valuation) (j : ℕ) (traces : List Trace)
    → AreSilent (set_writes w prefix number values runs j traces)
set-silent w prefix number values runs j [] = tt
set-silent w prefix number values runs j (trace ∷ traces) = (refl, (refl, set-silent w prefix number values runs (j + 1) traces))

sets-silent : (w : Waved) (prefix : List ℕ) (runs : Runs) (s : ℕ) (sets : List SetWithValues) → AreSilent (waves_writes w prefix runs s sets)
sets-silent w prefix runs s [] = tt
sets-silent w prefix runs s (set ∷ sets) =
    silent-append (set_writes w prefix (s + 1) set.values (runs s) 0 w.traces) (waves_writes w prefix runs (s + 1) sets)
    (set-silent w prefix (s + 1) set.values (runs s) 0 w.traces) (sets-silent w prefix runs (s + 1) sets)

of-prefix : (prefix : Option (List ℕ)) (w : Waved) (runs : Runs) (sets : List SetWithValues) → AreSilent (waves_of prefix w runs sets)
of-prefix None w runs sets = tt
of-prefix (Some prefix) w runs sets = sets-silent w prefix runs 0 sets

pub waves-silent : (asked : Asked) (found : List SetWithValues) (runs : Runs) → AreSilent (waves asked found runs)
waves-silent asked found runs = of-prefix asked.waves (waved_for asked) runs found
