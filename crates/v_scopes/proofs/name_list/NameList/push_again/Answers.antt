use Rattle.std.specs.Prelude.{is_ok}
use Rattle.v_hierarchy.specs.Places.{place_in}
use Rattle.v_scopes.proofs.TableLaws.{pushed-maybe}
use Rattle.v_scopes.proofs.name_list.NameList.push_again.Goals as goal

pub invariant_of-self : goal.invariant_of-self
invariant_of-self c = record {
  tells = pushed-maybe (λ n. n.now) (place_in c.args.self.now.places) c.args.self.now.list.items c.push.new.self.items c.args.name c.args.place (is_ok c.push.result) c.push.ensures.items c.requires c.args.self.now.tells;
}
