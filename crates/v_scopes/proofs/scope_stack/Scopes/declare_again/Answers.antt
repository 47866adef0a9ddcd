use Rattle.v_sizes.specs.Scopes.{look_of}
use Rattle.v_hierarchy.specs.Frames.{names_of}
use Rattle.v_hierarchy.specs.Views.{entry_of}
use Rattle.v_scopes.specs.Outer.{around}
use Rattle.v_scopes.proofs.OutwardLaws.{looks-declared}
use Rattle.v_scopes.proofs.scope_stack.Scopes.declare_again.Goals as goal

pub invariant_of-self-2 : goal.invariant_of-self-2
invariant_of-self-2 c = record {
  looks = looks-declared (look_of c.args.self.now.meanings) (look_of c.set.new.self) (entry_of c.args.new) (names_of c.args.self.now.inner) (names_of c.declare.new.self)
      (around c.args.self.now.outer.items) c.meaning-both.result c.args.self.now.looks c.in_ok-declare.ensures.ok c.meaning-both.ensures.found c.set.ensures.look;
}
