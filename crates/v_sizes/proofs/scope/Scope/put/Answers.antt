use Rattle.v_sizes.proofs.Scoped.{stands-put}
use Rattle.v_sizes.proofs.scope.Scope.put.Goals as goal

pub invariant_of-self : goal.invariant_of-self
invariant_of-self c = record {
  stands = stands-put c.put.result c.args.self.now.table c.put.new.self c.as_bytes.result.now c.args.meaning c.args.self.now.stands c.requires c.put.ensures.ok c.put.ensures.err;
}
