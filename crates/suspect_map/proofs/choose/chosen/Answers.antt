use Rattle.std.proofs.Common.{◌∙◌, ◌++◌, sym, ap, subst, length, Option, List}
use Rattle.std.specs.Prelude.{IfSome}
use Rattle.suspect_map.specs.declared.group.Group.{Group}
use Rattle.suspect_map.specs.Groups.{AreAscending, AreWithin}
use Rattle.suspect_map.proofs.ChooseLaws.{chosen-next}
use Rattle.suspect_map.proofs.choose.chosen.Goals as goal

pub loop-name-preserved : goal.loop-name-preserved
loop-name-preserved g c =
    chosen-next c.args.kinds.now (λ k. (goal.Granularity-dyn g (k.vtable, k.value)).called k.value) (λ k. (goal.Granularity-dyn g (k.vtable, k.value)).lists k.value) c.args.names.now c.args.places.now c.loop-name.name-index c.name-item.result
    c.loop-name.groups.items c.in-Some.more c.append.new.self.items c.loop-name-test.true c.name-item.is
    (sym c.in-Some.is ∙ c.in_ok-more.ensures.lists)
    (c.in_ok-append-in-Some.ensures.items ∙ ap (λ (xs : List Group). c.loop-name.groups.items ++ xs) c.into_vec.ensures)
    (subst (λ (found : Option (List Group)). IfSome found (AreWithin (length c.args.places.now))) c.in-Some.is c.in_ok-more.ensures.within)
    (subst (λ (found : Option (List Group)). IfSome found AreAscending) c.in-Some.is c.in_ok-more.ensures.ascending)
    c.loop-name.invariant
