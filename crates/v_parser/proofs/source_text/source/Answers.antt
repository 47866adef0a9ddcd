use Rattle.std.proofs.Common.{length, map, subst, sym, ◌∙◌, refl, arith}
use Rattle.v_syntax.specs.ModuleTree.{module_of}
use Rattle.v_parser.specs.Modules.{ShowsNoSource}
use Rattle.v_parser.specs.ModuleReading.{source_at}
use Rattle.v_parts.proofs.AnswerLemmas.{found_one, found_only, refused_only, shows_fault}
use Rattle.v_parser.proofs.ModuleLaws.{AreModulesTo, source_law, shows_no_source}
use Rattle.v_parser.proofs.source_text.source.Goals as goal

pub returns-in-Ok-clause-found : goal.returns-in-Ok-clause-found
returns-in-Ok-clause-found c =
    (found_one source_at AreModulesTo source_law c.args.tokens.now 0 (omega arith) (map module_of c.in-Ok.modules.items) c.in-Ok.field-0-1 c.in-Ok.ensures.gives).0

pub returns-in-Ok-clause-only : goal.returns-in-Ok-clause-only
returns-in-Ok-clause-only c s h =
    (found_only source_at AreModulesTo source_law c.args.tokens.now 0 (omega arith) (map module_of c.in-Ok.modules.items) c.in-Ok.field-0-1 c.in-Ok.ensures.gives s (length c.args.tokens.now) (h, refl)).0

pub returns-in-Err-clause-only : goal.returns-in-Err-clause-only
returns-in-Err-clause-only c s h =
    c.error_of.ensures
    ∙ refused_only source_at AreModulesTo source_law c.args.tokens.now 0 (omega arith) c.in-Err.stop c.in-Err.ensures.gives s (length c.args.tokens.now) (h, refl)

pub returns-in-Err-clause-refused : goal.returns-in-Err-clause-refused
returns-in-Err-clause-refused c some =
    subst (ShowsNoSource c.args.tokens.now) (sym c.error_of.ensures)
    (shows_no_source c.args.tokens.now _ (shows_fault source_at AreModulesTo source_law c.args.tokens.now 0 (omega arith) c.in-Err.stop c.in-Err.ensures.gives (λ h. some (c.error_of.ensures ∙ h))))
