-- What the laws of texts are said of.
use Rattle.std.specs.Prelude.{ℕ, ◌≡◌, Bool, List, Option}
use Rattle.v_lexer.specs.Lexeme.{Lexeme}
use Rattle.v_syntax.specs.ModuleTree.{PlainModule}
use Rattle.design_core.specs.declared.design.Design.{Design}
use Rattle.design_core.specs.declared.trace.Trace.{Trace}
use Rattle.design_core.specs.Valuation.{Valuation}
use Rattle.design_core.specs.Run.{Choices, IsRun}
use Rattle.v_hierarchy.specs.Instances.{Instance}
use Rattle.v_binding.specs.Binding.{Binding}

-- the tokens of a text, with the modules that they are
pub record Text : Type 0 where
  pub tokens : List Lexeme
  pub units : List PlainModule

-- with the name of a top and its instances, the name of a clock, what binding gives, and a design of it
pub record DesignOfText : Type 0 where
  pub text : Text
  pub top : List ℕ
  pub list : List Instance
  pub clock : Option (List ℕ)
  pub binding : Binding
  pub design : Design

-- such a design with an order of its drivers
pub record OrderedText : Type 0 where
  pub of : DesignOfText
  pub order : List ℕ

-- a trace has one run, with some places freed and values chosen for them
pub record HasOneRun (d : Design) (trace : Trace) (freed : ℕ → Bool) (c : Choices) : Type 0 where
  pub run : List Valuation
  pub is : IsRun d trace freed c run
  pub only : (other : List Valuation) → IsRun d trace freed c other → run ≡ other
