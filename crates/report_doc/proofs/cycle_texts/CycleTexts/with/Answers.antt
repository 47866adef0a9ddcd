use Rattle.std.proofs.Common.{rules}
use Rattle.report_doc.proofs.Texts.{one_more}
use Rattle.report_doc.proofs.cycle_texts.CycleTexts.with.Goals as goal

pub invariant_of-result : goal.invariant_of-result
invariant_of-result c =
    (one_more c.self.inside.texts c.args.cycle.now c.append.new.texts c.self.inside.ends.items c.push.new.self.items c.self.invariant (search rules) (search rules)).0

pub returns : goal.returns
returns c =
    rw (← c.self.view_is) (one_more c.self.inside.texts c.args.cycle.now c.append.new.texts c.self.inside.ends.items c.push.new.self.items c.self.invariant (search rules) (search rules)).1
