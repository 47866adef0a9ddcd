use Rattle.std.proofs.Common.{rules}
use Rattle.v_hierarchy.specs.Places.{place_in}
use Rattle.v_scopes.proofs.TableLaws.{pushed-new}
use Rattle.v_scopes.proofs.name_list.NameList.push_new.Goals as goal

pub invariant_of-self-2 : goal.invariant_of-self-2
invariant_of-self-2 c = record {
  tells = pushed-new (λ n. n.now) (place_in c.args.self.now.places) (place_in c.put.new.self) c.args.self.now.list.items c.push.new.self.items c.args.name c.len.result
      c.as_bytes.result.now (search rules) (search rules) (search rules) c.requires c.args.self.now.tells c.in_ok-put.ensures.put;
}
