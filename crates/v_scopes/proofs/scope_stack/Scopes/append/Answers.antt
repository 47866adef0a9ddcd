use Rattle.std.proofs.Common.{◌∙◌, ap}
use Rattle.v_sizes.specs.Scopes.{look_of}
use Rattle.v_sizes.specs.Table.{with_meaning}
use Rattle.v_hierarchy.specs.Frames.{names_of}
use Rattle.v_hierarchy.specs.Views.{entry_of}
use Rattle.v_scopes.specs.Outer.{around}
use Rattle.v_scopes.proofs.OutwardLaws.{looks-appended}
use Rattle.v_scopes.proofs.scope_stack.Scopes.append.Goals as goal

pub invariant_of-self-in-Ok : goal.invariant_of-self-in-Ok
invariant_of-self-in-Ok c = record {
  looks = looks-appended (look_of c.args.self.now.meanings) (look_of c.put.new.self) (entry_of c.args.new) (names_of c.args.self.now.inner) (names_of c.append.new.self)
      (around c.args.self.now.outer.items) c.args.self.now.looks
      (λ q. c.in_ok-was.ensures.ok q ∙ ap (λ m. with_meaning c.args.new.name.now.name m (look_of c.args.self.now.meanings) q) c.meaning.ensures)
      c.requires.fresh c.in-Ok.ensures.ok;
}
