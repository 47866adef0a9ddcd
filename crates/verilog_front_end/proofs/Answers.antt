-- From what a step answers to what this front end answers.
use Rattle.std.proofs.Common.{◌≡◌, inl, inr, ℕ, List, Option, sym, subst, Result, Ok, Err, arith}
use Rattle.std.specs.Prelude.{IfErr, IfOk, IsErrAnd}
use Rattle.std.proofs.lemmas.Bool.{cases_eq}
use Rattle.design_core.specs.declared.design.Design.{Design}
use Rattle.design_core.specs.WellFormed.{IsWellFormed}
use Rattle.design_core.specs.DrivenOnce.{IsDrivenOnce}
use Rattle.v_syntax.specs.ModuleTree.{PlainModule}
use Rattle.v_hierarchy.specs.Instances.{Instance, instances}
use Rattle.v_binding.specs.Standing.{InstancesStand}
use Rattle.bind_laws.specs.OfText.{OfText}
use Rattle.bind_laws.proofs.Whole.{instances-stand}
use Rattle.bind_laws.proofs.OfWhole.{instances-of}
use Rattle.verilog_front_end.proofs.Modules.{source-written}
use Rattle.design_order.specs.DriverOrder.{IsTheOrder}
use Rattle.verilog_front_end.specs.declared.error.DesignErr.{DesignErr}
use Rattle.front_end.specs.declared.reader.Ordered.{Ordered}
use Rattle.front_end.specs.Means.{IsReady}
use Rattle.verilog_front_end.specs.Errors.{Refuses}
use Rattle.verilog_front_end.specs.Errors.{design_status}
use Rattle.verilog_front_end.specs.Meaning.{HasModules, HasInstances, HasDesign, Means}
use Rattle.verilog_front_end.specs.Refusals.{IsRefusal}
use Rattle.verilog_front_end.proofs.Sizes.{meant-small, IsFew, few-of, few-outputs}
use Rattle.verilog_front_end.proofs.OneMeaning.{no-refusal}

-- a refusal that is handed on
pub handed-on : {T : Type 0} (R : DesignErr → Type 0) (answer : Result T DesignErr) (fault : DesignErr)
    → IsErrAnd answer (λ e. e ≡ fault) → R fault → IfErr answer R
handed-on R (Ok x) fault same holds = tt
handed-on R (Err e) fault same holds = subst R (sym same) holds

-- ---- what the instances of a text are
pub made : (text top : List ℕ) (units : List PlainModule) (list : List Instance) → HasModules text units
    → instances units top ≡ Ok list → HasInstances text top list
made text top units list has are = record { units = units; has_modules = has; are_instances = are }

pub stand : (text top : List ℕ) (list : List Instance) → HasInstances text top list → InstancesStand list
stand text top list has = instances-stand has.units top list has.are_instances

pub of-text : (text top : List ℕ) (list : List Instance) → HasInstances text top list → OfText list
of-text text top list has =
    instances-of has.units top list (source-written has.has_modules.tokens has.units has.has_modules.are_modules)
    has.are_instances

-- ---- what is known of a design with its order
pub ready : (text top : List ℕ) (clock : Option (List ℕ)) (d : Design) (answer : Result Ordered DesignErr)
    → HasDesign text top clock d → IsWellFormed d → IsDrivenOnce d → IfOk answer (λ o. o.design ≡ d)
    → IfOk answer (λ o. IsTheOrder d o.order) → IfOk answer (λ o. IsReady o.design o.order)
ready text top clock d (Ok o) has well once same order =
    let few : IsFew d = few-of d (meant-small has.list clock d has.is_meant) in
    subst (λ e. IsReady e o.order) (sym same)
    (record {
      well_formed = well;
      once = once;
      ordered = order.carried_out;
      least = order.least;
      signals = few.signals;
      places = few.places;
      outputs = few-outputs d well (omega (arith, few.signals));
    })
ready text top clock d (Err fault) has well once same order = tt

-- ---- a text that means a design is not refused
pub spared : (text top : List ℕ) (clock : Option (List ℕ)) (fault : DesignErr) → Refuses (IsRefusal text top clock) fault
    → (d : Design) → Means text top clock d → design_status fault ≡ 7
spared text top clock fault refused d means =
    elim (cases_eq (design_status fault) 7) [
      | inl want ↦ want
      | inr other ↦ absurd (no-refusal text top clock d fault means (refused other))
    ]
