use Rattle.suspect_map.proofs.ChooseLaws.{AreChosen}
use Rattle.suspect_map.proofs.choose.chosen.Given as goal

abbrev pub invariant-loop-name : goal.invariant-loop-name
invariant-loop-name g l =
    AreChosen l.kinds (λ k. (goal.Granularity-dyn g (k.vtable, k.value)).called k.value) (λ k. (goal.Granularity-dyn g (k.vtable, k.value)).lists k.value) l.names l.places l.name-index l.groups.items
