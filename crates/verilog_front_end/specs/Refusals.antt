-- Why a Verilog text means no design: each step up to one has a value, and that one refuses.
use Rattle.std.specs.Prelude.{ℕ, ◌≡◌, ◌≤◌, List, Option, Err, All, Contains}
use Rattle.loc_base.specs.declared.span.Span.{Span}
use Rattle.design_core.specs.declared.design.Design.{Design}
use Rattle.v_lexer.specs.Lexeme.{Lexeme}
use Rattle.v_lexer.specs.Tokens.{HasTokens, HasFault}
use Rattle.v_tree.specs.declared.fault.ParseErr.{ParseErr}
use Rattle.v_syntax.specs.ModuleTree.{PlainModule}
use Rattle.v_parser.specs.Modules.{ShowsNoSource}
use Rattle.v_hierarchy.specs.declared.error.ElabErr.{ElabErr}
use Rattle.v_hierarchy.specs.Instances.{Instance, instances}
use Rattle.v_binding.specs.declared.error.BindErr.{BindErr}
use Rattle.bind_rules.specs.Rules.{driver_span}
use Rattle.v_design.specs.Means.{IsRefused}
use Rattle.design_order.specs.Circle.{IsCircle}
use Rattle.verilog_front_end.specs.declared.error.DesignErr.{DesignErr}
use Rattle.verilog_front_end.specs.declared.error.DesignErr.TheVariants.{Lexical, Syntax, Elaboration, Binding, Circle, NoMemory}
use Rattle.verilog_front_end.specs.Meaning.{HasModules, HasInstances, HasDesign}

-- it has tokens, and no tokens that begin as these do, up to the one that tells of the fault, are modules by the grammar
pub record HasNoModules (text : List ℕ) (fault : ParseErr) : Type 0 where
  pub tokens : List Lexeme
  pub has_tokens : HasTokens text tokens
  pub no_modules : ShowsNoSource tokens fault

-- it has modules, and these make no instances of the top: the fault is the first rule that is broken
pub record HasNoInstances (text top : List ℕ) (fault : ElabErr) : Type 0 where
  pub units : List PlainModule
  pub has_modules : HasModules text units
  pub no_instances : instances units top ≡ Err fault

-- it has instances of the top, and these mean no design: binding refuses them, or what they bind breaks a rule
pub record HasNoDesign (text top : List ℕ) (clock : Option (List ℕ)) (fault : BindErr) : Type 0 where
  pub list : List Instance
  pub has_instances : HasInstances text top list
  pub no_design : IsRefused list clock fault

-- drivers that depend on each other in a circle, the least of which has the span
pub record ShowsCircle (d : Design) (span : Span) : Type 0 where
  pub drivers : List ℕ
  pub circle : IsCircle d drivers
  pub number : ℕ
  pub stands : Contains drivers number
  pub least : All (λ i. number ≤ i) drivers
  pub shown : span ≡ driver_span d number

-- it has a design, with such drivers
pub record HasNoOrder (text top : List ℕ) (clock : Option (List ℕ)) (span : Span) : Type 0 where
  pub design : Design
  pub has_design : HasDesign text top clock design
  pub no_order : ShowsCircle design span

-- the first step that refuses, by the kind of the refusal; want of memory is none of the text's
abbrev pub IsRefusal : List ℕ → List ℕ → Option (List ℕ) → DesignErr → Type 0
IsRefusal text top clock (Lexical fault) = HasFault text fault
IsRefusal text top clock (Syntax fault) = HasNoModules text fault
IsRefusal text top clock (Elaboration fault) = HasNoInstances text top fault
IsRefusal text top clock (Binding fault) = HasNoDesign text top clock fault
IsRefusal text top clock (Circle span) = HasNoOrder text top clock span
IsRefusal text top clock NoMemory = ⊥
