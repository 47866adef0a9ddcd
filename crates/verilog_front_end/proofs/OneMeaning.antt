-- A text has one meaning: its designs have the same lists, and it is not refused as well.
use Rattle.std.proofs.Common.{◌≡◌, inl, inr, ℕ, List, Option, Some, refl, sym, ap, ◌∙◌, subst, Result, Ok, Err}
use Rattle.design_core.specs.declared.design.Design.{Design}
use Rattle.v_lexer.proofs.Unique.{no_other_tokens, no_tokens}
use Rattle.v_tree.specs.declared.fault.ParseErr.{ParseErr}
use Rattle.v_syntax.specs.ModuleTree.{PlainModule}
use Rattle.v_parser.specs.Modules.{IsSource}
use Rattle.v_parser.proofs.FewParts.{one_source}
use Rattle.v_hierarchy.specs.Instances.{Instance, instances}
use Rattle.v_binding.specs.declared.error.BindErr.{BindErr}
use Rattle.v_binding.specs.Binding.{Binding, binding}
use Rattle.bind_laws.specs.Whole.{IsDesignOf}
use Rattle.bind_rules.specs.Rules.{IsFirstBroken}
use Rattle.v_design.specs.Means.{beside_binding, IsBound, IsMeant, IsRefused}
use Rattle.verilog_front_end.specs.declared.error.DesignErr.{DesignErr}
use Rattle.verilog_front_end.specs.declared.error.DesignErr.TheVariants.{Lexical, Syntax, Elaboration, Binding as Bound, Circle, NoMemory}
use Rattle.verilog_front_end.specs.Meaning.{HasModules, HasInstances, HasDesign, Means}
use Rattle.verilog_front_end.specs.Refusals.{HasNoModules, IsRefusal}
use Rattle.verilog_front_end.specs.Laws.{AreAlike}
use Rattle.verilog_front_end.proofs.Circles.{has-circle}
use Rattle.verilog_front_end.proofs.SameLists.{circle-moved, none-broken}

same-value : {A E : Type 0} {x y : A} (r : Result A E) → r ≡ Ok x → r ≡ Ok y → x ≡ y
same-value r one other = cc

not-both : {A E : Type 0} {x : A} {e : E} (r : Result A E) → r ≡ Ok x → r ≡ Err e → ⊥
not-both r one other = cc

-- ---- each step has one value
same-modules : (text : List ℕ) (units others : List PlainModule) → HasModules text units → HasModules text others
    → units ≡ others
same-modules text units others one other =
    one_source other.tokens units others
    (subst (λ tokens. IsSource tokens units)
    (no_other_tokens text one.tokens one.has_tokens other.tokens other.has_tokens) one.are_modules) other.are_modules

same-instances : (text top : List ℕ) (list others : List Instance) → HasInstances text top list
    → HasInstances text top others → list ≡ others
same-instances text top list others one other =
    same-value (instances other.units top)
    (ap (λ units. instances units top)
    (sym (same-modules text one.units other.units one.has_modules other.has_modules)) ∙ one.are_instances)
    other.are_instances

same-bound : (list : List Instance) (clock : Option (List ℕ)) (d e : Design) (one : IsBound list clock d)
    (other : IsBound list clock e) → one.lists ≡ other.lists
same-bound list clock d e one other = same-value (binding list clock) one.bound other.bound

alike-of : (b : Binding) (d e : Design) → IsDesignOf b d → IsDesignOf b e → AreAlike d e
alike-of b d e one other = record {
  signals = one.signals ∙ sym other.signals;
  drivers = one.drivers ∙ sym other.drivers;
  clocked = one.clocked ∙ sym other.clocked;
  places = one.places ∙ sym other.places;
  inputs = one.inputs ∙ sym other.inputs;
  outputs = one.outputs ∙ sym other.outputs;
}

bound-alike : (list : List Instance) (clock : Option (List ℕ)) (d e : Design) → IsBound list clock d
    → IsBound list clock e → AreAlike d e
bound-alike list clock d e one other =
    alike-of other.lists d e (subst (λ b. IsDesignOf b d) (same-bound list clock d e one other) one.of) other.of

pub same-design : (text top : List ℕ) (clock : Option (List ℕ)) (d e : Design) → HasDesign text top clock d
    → HasDesign text top clock e → AreAlike d e
same-design text top clock d e one other =
    bound-alike other.list clock d e
    (subst (λ list. IsBound list clock d)
    (same-instances text top one.list other.list one.has_instances other.has_instances) one.is_meant.is)
    other.is_meant.is

-- ---- and no other answer
no-modules : (text : List ℕ) (units : List PlainModule) (fault : ParseErr) → HasModules text units
    → HasNoModules text fault → ⊥
no-modules text units fault has none =
    none.no_modules.refuses.no_tree none.tokens (λ i within. refl) units 0
    (subst (λ tokens. IsSource tokens units)
    (no_other_tokens text has.tokens has.has_tokens none.tokens none.has_tokens) has.are_modules)

not-refused : (list : List Instance) (clock : Option (List ℕ)) (d : Design) (fault : BindErr) → IsMeant list clock d
    → IsRefused list clock fault → ⊥
not-refused list clock d fault meant (inl refused) = not-both (binding list clock) meant.is.bound refused
not-refused list clock d fault meant (inr broken) =
    none-broken d broken.design (beside_binding meant.is.lists) fault
    (bound-alike list clock broken.design d broken.is meant.is) meant.sound
    (subst (λ b. IsFirstBroken broken.design (beside_binding b) (Some fault))
    (same-bound list clock broken.design d broken.is meant.is) broken.first)

pub no-refusal : (text top : List ℕ) (clock : Option (List ℕ)) (d : Design) (fault : DesignErr)
    → Means text top clock d → IsRefusal text top clock fault → ⊥
no-refusal text top clock d (Lexical fault) means refused =
    let has = means.has_design.has_instances.has_modules in no_tokens text fault refused has.tokens has.has_tokens
no-refusal text top clock d (Syntax fault) means refused =
    no-modules text means.has_design.has_instances.units fault means.has_design.has_instances.has_modules refused
no-refusal text top clock d (Elaboration fault) means refused =
    let has = means.has_design.has_instances in
    not-both (instances refused.units top)
    (ap (λ units. instances units top)
    (sym (same-modules text has.units refused.units has.has_modules refused.has_modules)) ∙ has.are_instances)
    refused.no_instances
no-refusal text top clock d (Bound fault) means refused =
    let has = means.has_design in
    not-refused refused.list clock d fault
    (subst (λ list. IsMeant list clock d)
    (same-instances text top has.list refused.list has.has_instances refused.has_instances) has.is_meant)
    refused.no_design
no-refusal text top clock d (Circle span) means refused =
    means.no_circle
    (circle-moved refused.design d (same-design text top clock refused.design d refused.has_design means.has_design)
    (has-circle refused.design refused.no_order.drivers refused.no_order.circle))
no-refusal text top clock d NoMemory means refused = refused
