use Rattle.std.proofs.Common.{◌∙◌, arith, false}
use Rattle.std.proofs.lemmas.List.{length-set}
use Rattle.cycle_sim.proofs.Choosing.{none-freed, none-chosen, all-none, all-zero}
use Rattle.cycle_sim.proofs.miss_search.free_none.Goals as goal

pub loop-p-preserved : goal.loop-p-preserved
loop-p-preserved c =
    record {
      freed_length = length-set c.loop-p.freed c.loop-p.p false ∙ c.loop-p.invariant.freed_length;
      choice_length = length-set c.loop-p.choice c.loop-p.p c.zero.result ∙ c.loop-p.invariant.choice_length;
      freed = none-freed c.loop-p.freed c.loop-p.p (omega (arith, c.loop-p-test.true, c.loop-p.invariant.freed_length))
          c.loop-p.invariant.freed;
      choice = none-chosen c.loop-p.choice c.loop-p.p c.zero.result
          (omega (arith, c.loop-p-test.true, c.loop-p.invariant.choice_length, c.requires)) c.zero.ensures.value c.loop-p.invariant.choice;
    }

pub returns-clause-freed : goal.returns-clause-freed
returns-clause-freed c =
    all-none c.loop-p.p c.loop-p.freed (omega (arith, c.loop-p-test.false, c.loop-p.invariant.freed_length)) c.loop-p.invariant.freed

pub returns-clause-choice : goal.returns-clause-choice
returns-clause-choice c = all-zero c.loop-p.p c.loop-p.choice
    (omega (arith, c.loop-p-test.false, c.loop-p.invariant.choice_length, c.requires)) c.loop-p.invariant.choice
