-- A design of what a text means is well formed.
use Rattle.std.proofs.Common.{◌≡◌, ℕ, ◌<◌, ◌^◌, List, Option, length}
use Rattle.std.specs.Prelude.{Ok}
use Rattle.v_lexer.specs.Lexeme.{Lexeme}
use Rattle.v_syntax.specs.ModuleTree.{PlainModule}
use Rattle.design_core.specs.declared.design.Design.{Design}
use Rattle.design_core.specs.Given.{CanRun}
use Rattle.design_core.specs.WellFormed.{IsWellFormed}
use Rattle.v_parser.specs.Modules.{IsSource}
use Rattle.v_hierarchy.specs.Instances.{Instance, instances}
use Rattle.v_binding.specs.Binding.{Binding, binding}
use Rattle.bind_laws.proofs.Whole.{instances-stand}
use Rattle.bind_laws.proofs.OfWhole.{instances-of}
use Rattle.bind_laws.specs.Whole.{IsDesignOf}
use Rattle.bind_laws.proofs.Designs.{lists-fit, design-runs, design-well_formed}
use Rattle.verilog_front_end.proofs.Modules.{source-written}

pub record IsFit (d : Design) : Type 0 where
  pub well_formed : IsWellFormed d
  pub runs : CanRun d

pub design-of_text : (tokens : List Lexeme) (units : List PlainModule) (top : List ℕ) (list : List Instance)
    (clock : Option (List ℕ)) (b : Binding) (d : Design)
    → IsSource tokens units → instances units top ≡ Ok list → binding list clock ≡ Ok b → length b.signals < 2 ^ 32
    → IsDesignOf b d → IsFit d
design-of_text tokens units top list clock b d source elaborated accepted few is =
    let stand = instances-stand units top list elaborated in
    let of = instances-of units top list (source-written tokens units source) elaborated in
    let lists = lists-fit list clock b stand of few accepted in
    record { well_formed = design-well_formed b d lists.0 is lists.1; runs = design-runs b d lists.0 is lists.1 }
