-- Which design a Verilog text means: the text has tokens (IEEE 1364-2005, clauses 3 and 19), these are modules by the
-- grammar (annex A), the modules make instances of a top (clause 12), and the instances mean a design (clauses 4 to 9).
use Rattle.std.specs.Prelude.{ℕ, ◌≡◌, List, Option, Ok}
use Rattle.design_core.specs.declared.design.Design.{Design}
use Rattle.design_core.specs.Order.{HasCircle}
use Rattle.v_lexer.specs.Lexeme.{Lexeme}
use Rattle.v_lexer.specs.Tokens.{HasTokens}
use Rattle.v_syntax.specs.ModuleTree.{PlainModule}
use Rattle.v_parser.specs.Modules.{IsSource}
use Rattle.v_hierarchy.specs.Instances.{Instance, instances}
use Rattle.v_design.specs.Means.{IsMeant}

-- a text has modules: it has tokens, and these are the modules by the grammar
pub record HasModules (text : List ℕ) (units : List PlainModule) : Type 0 where
  pub tokens : List Lexeme
  pub has_tokens : HasTokens text tokens
  pub are_modules : IsSource tokens units

-- it has instances of a top: it has modules, and these make the instances
pub record HasInstances (text top : List ℕ) (list : List Instance) : Type 0 where
  pub units : List PlainModule
  pub has_modules : HasModules text units
  pub are_instances : instances units top ≡ Ok list

-- it has a design, under the name of a clock if one is given: it has instances of the top, and these mean the design
pub record HasDesign (text top : List ℕ) (clock : Option (List ℕ)) (d : Design) : Type 0 where
  pub list : List Instance
  pub has_instances : HasInstances text top list
  pub is_meant : IsMeant list clock d

-- it means the design: it has it, and no drivers of it depend on each other in a circle
pub record Means (text top : List ℕ) (clock : Option (List ℕ)) (d : Design) : Type 0 where
  pub has_design : HasDesign text top clock d
  pub no_circle : ¬ HasCircle d
