use Rattle.trail_core.proofs.Calls.{watching_back}
use Rattle.trail_core.proofs.trail.Trail.back_to.Goals as goal

pub invariant_of-self : goal.invariant_of-self
invariant_of-self c = watching_back c.self.inside.plain c.back_to.new.self c.args.self.now c.args.level c.self.inside.watches c.go_back.new.watches c.self.inside.shorts c.len.result c.self.view_is c.self.invariant c.requires c.back_to.ensures.after c.back_to.ensures.trail c.len.ensures c.go_back.ensures.low c.go_back.ensures.short c.go_back.ensures.which c.go_back.ensures.pairs c.go_back.ensures.lists
