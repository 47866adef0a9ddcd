use Rattle.std.proofs.Common.{subst, sym, ◌∙◌}
use Rattle.v_syntax.specs.Tree.{tree_of}
use Rattle.v_tree.specs.Answers.{ShowsFault}
use Rattle.v_tree.proofs.WholeLemmas.{whole_sound}
use Rattle.v_tree.proofs.PublicLemmas.{found_only, refused_only, shows_fault}
use Rattle.v_tree.proofs.public.expr.Goals as goal

pub returns-in-Ok-clause-found : goal.returns-in-Ok-clause-found
returns-in-Ok-clause-found c = whole_sound c.args.tokens.now 256 c.args.at (tree_of c.in-Ok.found.tree) c.in-Ok.found.end c.in-Ok.ensures.gives

pub returns-in-Ok-clause-only : goal.returns-in-Ok-clause-only
returns-in-Ok-clause-only c = found_only c.args.tokens.now c.args.at (tree_of c.in-Ok.found.tree) c.in-Ok.found.end c.in-Ok.ensures.gives

pub returns-in-Err-clause-only : goal.returns-in-Err-clause-only
returns-in-Err-clause-only c e b h = c.error_of.ensures ∙ refused_only c.args.tokens.now c.args.at c.in-Err.stop c.in-Err.ensures.gives e b h

pub returns-in-Err-clause-refused : goal.returns-in-Err-clause-refused
returns-in-Err-clause-refused c some =
    subst (ShowsFault c.args.tokens.now 256 c.args.at) (sym c.error_of.ensures)
    (shows_fault c.args.tokens.now c.args.at c.requires.inside c.in-Err.stop c.in-Err.ensures.gives (λ h. some (c.error_of.ensures ∙ h)))
