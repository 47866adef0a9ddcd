use Rattle.std.proofs.Common.{◌≡◌, ◌+◌, ℕ, List, length, ap, sym, subst, ◌∙◌}
use Rattle.std.proofs.lemmas.List.{length_push}
use Rattle.loc_base.specs.declared.bits.Bits.{Bits}
use Rattle.cycle_sim.specs.Replaying.{chosen_at}
use Rattle.value_runs.proofs.EntryLaws.{chosen-push}
use Rattle.value_runs.proofs.entries.none_chosen.Goals as goal

pub loop-k-preserved : goal.loop-k-preserved
loop-k-preserved c = record {
  count = ap length c.in_ok-push.ensures.items ∙ length_push c.loop-k.choice.items c.zero.result
      ∙ ap (λ n. n + 1) c.loop-k.invariant.count;
  zeros = subst (λ (xs : List Bits). (p : ℕ) → chosen_at xs p ≡ 0) (sym c.in_ok-push.ensures.items)
      (chosen-push c.loop-k.choice.items c.zero.result c.zero.ensures.value c.loop-k.invariant.zeros);
}
