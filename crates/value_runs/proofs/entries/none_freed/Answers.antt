use Rattle.std.proofs.Common.{◌≡◌, ◌+◌, ℕ, List, Bool, length, false, ap, sym, subst, ◌∙◌}
use Rattle.std.proofs.lemmas.List.{length_push}
use Rattle.design_core.specs.Given.{freed_of}
use Rattle.value_runs.proofs.EntryLaws.{freed-push}
use Rattle.value_runs.proofs.entries.none_freed.Goals as goal

pub loop-k-preserved : goal.loop-k-preserved
loop-k-preserved c = record {
  count = ap length c.in_ok-push.ensures.items ∙ length_push c.loop-k.freed.items false ∙ ap (λ n. n + 1) c.loop-k.invariant.count;
  none = subst (λ (xs : List Bool). (p : ℕ) → freed_of xs p ≡ false) (sym c.in_ok-push.ensures.items)
      (freed-push c.loop-k.freed.items c.loop-k.invariant.none);
}
