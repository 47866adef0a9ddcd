use Rattle.std.proofs.Common.{◌≡◌, ℕ, List, Contains, subst, sym}
use Rattle.v_synth.proofs.AssignedSteps.{driven-are}
use Rattle.v_synth.proofs.block.Block.driven.Goals as goal

pub returns : goal.returns
returns c =
    let all : List ℕ = c.signals.result.now in
    let same : c.in_ok-driven.driven.items ≡ all = c.in_ok-driven.ensures in
    driven-are c.args.self.now.design.now c.args.self.now.block.now c.args.self.now.registers.now c.args.assigned.now.drives all
    c.ascending.new.numbers.items c.args.assigned.now.later.items c.requires.own c.signals.ensures.within c.signals.ensures.all
    c.ascending.ensures.rises
    (λ s member. c.ascending.ensures.keeps s (subst (λ xs. Contains xs s) (sym same) member))
    (λ s member. subst (λ xs. Contains xs s) same (c.ascending.ensures.adds_none s member))
