use Rattle.node_map.proofs.PairSteps.{AreChanged, changed}
use Rattle.node_map.proofs.pair.Pair.changed.Goals as goal

all : (c : goal.After-from_vec) → AreChanged c.args.more.items c.from_vec.result c.args.self.now.current c.args.self.now.later
all c =
    changed c.args.more.items c.add_signals.new.signals.items c.add_signals-2.new.signals.items c.ascending.new.numbers.items c.from_vec.result c.replaced.result.now c.replaced-2.result.now
    c.args.self.now.current c.args.self.now.later c.in_ok-add_signals.ensures c.in_ok-add_signals-2.ensures c.ascending.ensures.keeps c.ascending.ensures.adds_none c.from_vec.ensures
    c.replaced.ensures.base c.replaced.ensures.within c.replaced-2.ensures.base c.replaced-2.ensures.within c.requires.alike c.requires.within

pub returns-clause-current : goal.returns-clause-current
returns-clause-current c = (all c).current

pub returns-clause-later : goal.returns-clause-later
returns-clause-later c = (all c).later

pub returns-clause-keeps : goal.returns-clause-keeps
returns-clause-keeps c = (all c).keeps
