use Rattle.std.proofs.Common.{rules, map}
use Rattle.v_hierarchy.specs.Places.{place_in}
use Rattle.v_hierarchy.specs.Views.{entry_of}
use Rattle.v_hierarchy.proofs.FrameLaws.{place-none}
use Rattle.v_hierarchy.proofs.Framed.{pushed, pushed-stands}
use Rattle.v_hierarchy.proofs.frame.Frame.append.Goals as goal

pub invariant_of-self-2 : goal.invariant_of-self-2
invariant_of-self-2 c = record {
  tells = pushed (place_in c.args.self.now.places) (place_in c.put.new.self) c.args.self.now.entries.items c.push.new.self.items c.args.new c.len.result
      c.as_bytes.result.now (search rules) (search rules) (search rules)
      (place-none c.args.new.name.now.name (map entry_of c.args.self.now.entries.items) c.requires.fresh) c.args.self.now.tells c.in_ok-put.ensures.put;
  stands = pushed-stands c.args.self.now.entries.items c.push.new.self.items c.args.new (search rules) c.requires.fresh c.requires.stands c.args.self.now.stands;
}
