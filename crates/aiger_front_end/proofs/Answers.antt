-- From what a step answers to what this front end answers.
use Rattle.std.proofs.Common.{◌≡◌, ℕ, ◌<◌, ◌^◌, inl, inr, List, length, Option, sym, ap, subst, Result, Ok, Err, arith}
use Rattle.std.specs.Prelude.{IfOk}
use Rattle.std.proofs.lemmas.Bool.{cases_eq}
use Rattle.design_core.specs.declared.design.Design.{Design}
use Rattle.design_core.specs.WellFormed.{IsWellFormed}
use Rattle.design_core.specs.DrivenOnce.{IsDrivenOnce}
use Rattle.design_order.specs.DriverOrder.{IsTheOrder}
use Rattle.front_end.specs.declared.reader.Ordered.{Ordered}
use Rattle.front_end.specs.Means.{IsReady}
use Rattle.aiger_text.specs.declared.fault.AigerErr.{AigerErr}
use Rattle.aiger_design.specs.Means.{IsFile, AigerCause}
use Rattle.aiger_design.specs.Laws.{IsNotTooLarge}
use Rattle.aiger_front_end.specs.declared.error.GraphErr.{GraphErr}
use Rattle.aiger_front_end.specs.declared.error.GraphErr.TheVariants.{Text}
use Rattle.aiger_front_end.specs.Errors.{graph_status, text_status, Refuses}
use Rattle.aiger_front_end.specs.Meaning.{Means}
use Rattle.aiger_front_end.specs.Refusals.{IsRefusal}

-- there are fewer drivers than numbers of 32 bits
pub few-drivers : (d : Design) → IsNotTooLarge d → length d.drivers.items < 2 ^ 32
few-drivers d handled = omega (arith, handled.drivers)

-- what is known of a design with its order
pub ready : (d : Design) (answer : Result Ordered GraphErr) → IsWellFormed d → IsDrivenOnce d → IsNotTooLarge d
    → IfOk answer (λ o. o.design ≡ d) → IfOk answer (λ o. IsTheOrder d o.order) → IfOk answer (λ o. IsReady o.design o.order)
ready d (Ok o) well once handled same order =
    subst (λ e. IsReady e o.order) (sym same)
    (record {
      well_formed = well;
      once = once;
      ordered = order.carried_out;
      least = order.least;
      signals = handled.signals;
      places = handled.places;
      outputs = omega (arith, handled.outputs);
    })
ready d (Err fault) well once handled same order = tt

-- it is the one that the text means
pub meant : (text top : List ℕ) (clock : Option (List ℕ)) (d : Design) (answer : Result Ordered GraphErr) → IsFile text top clock d
    → IfOk answer (λ o. o.design ≡ d) → IfOk answer (λ o. IsTheOrder d o.order) → IfOk answer (λ o. Means text top clock o.design)
meant text top clock d (Ok o) file same order =
    subst (λ e. Means text top clock e) (sym same) (record { is_file = file; no_circle = order.no_circle })
meant text top clock d (Err fault) file same order = tt

-- a text that breaks a rule of the format is refused
pub breaks : (text top : List ℕ) (clock : Option (List ℕ)) (fault : AigerErr) → AigerCause text clock fault
    → Refuses (IsRefusal text top clock) (Text fault)
breaks text top clock fault cause other = record { rule = λ memory. other (ap text_status memory); cause = cause }

-- a text that means a design is refused for want of memory alone
pub spared : (text top : List ℕ) (clock : Option (List ℕ)) (fault : GraphErr) → Refuses (IsRefusal text top clock) fault
    → (IsRefusal text top clock fault → ⊥) → graph_status fault ≡ 7
spared text top clock fault refused none =
    elim (cases_eq (graph_status fault) 7) [
      | inl want ↦ want
      | inr other ↦ absurd (none (refused other))
    ]
