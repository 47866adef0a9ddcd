use Rattle.std.proofs.Common.{◌++◌, Some, ◌∙◌, ap, sym}
use Rattle.std.specs.Option.{option_to_list}
use Rattle.v_sizes.specs.Scopes.{look_of}
use Rattle.v_hierarchy.specs.Names.{look_in}
use Rattle.v_scopes.specs.Outer.{around}
use Rattle.v_scopes.proofs.OutwardLaws.{looks_left}
use Rattle.v_scopes.proofs.scope_stack.Scopes.leave.Goals as goal

pub invariant_of-self : goal.invariant_of-self
invariant_of-self c = record {
  looks = looks_left (look_of c.put_back.new.meanings) c.args.self.now.outer.items c.pop.new.self.items c.replace-inner.new.dest
      (λ q. c.put_back.ensures q ∙ ap (λ f. look_in (around f) q) c.as_slice.ensures.value)
      (c.pop.ensures.items ∙ ap (λ o. c.pop.new.self.items ++ option_to_list o) (c.unwrap-around.ensures ∙ ap Some (sym c.replace-inner.ensures.after)));
}
