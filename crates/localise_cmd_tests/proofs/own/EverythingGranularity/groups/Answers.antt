use Rattle.std.proofs.Common.{◌≡◌, ◌++◌, ◌∷◌, [], ◌∙◌, sym, ap, subst, length, true, List, ℕ}
use Rattle.std.specs.Prelude.{codes}
use Rattle.std.proofs.lemmas.List.{take_all}
use Rattle.std.proofs.lemmas.Option.{get_or_from_slice_get}
use Rattle.loc_base.proofs.ShelfLists.{slice_get-some}
use Rattle.suspect_map.specs.declared.group.Group.{Group}
use Rattle.suspect_map.specs.Groups.{AreAscending, AreWithin, numbers_at}
use Rattle.localise_cmd_tests.proofs.Everything.{every-next, everything-within, everything-ascends}
use Rattle.localise_cmd_tests.proofs.own.EverythingGranularity.groups.Goals as goal

pub loop-place-preserved : goal.loop-place-preserved
loop-place-preserved c =
    let places = c.args.places.now in
    let i = c.loop-place.place in
    let found = slice_get-some places i c.loop-place-test.true in
    c.in_ok-push.ensures.ok ∙ ap (λ (numbers : List ℕ). numbers ++ i ∷ []) c.loop-place.invariant
    ∙ every-next places i found.0 c.loop-place-test.true (sym (get_or_from_slice_get places i found.0 found.0 found.1))

suspect : List ℕ → List ℕ → List ℕ → List Group
suspect kind label places = record { kind = kind; label = label; places = places } ∷ []

pub returns-clause-lists : goal.returns-clause-lists
unfolding suspect
returns-clause-lists c =
    let numbers : c.loop-place.numbers ≡ numbers_at (λ _. true) 0 c.args.places.now =
    c.loop-place.invariant ∙ ap (numbers_at (λ _. true) 0) (take_all c.loop-place.place c.args.places.now c.loop-place-test.false) in
    c.in_ok-push-2.ensures.ok ∙ ap (λ (groups : List Group). groups ++ suspect c.in_ok-name_of.field-0 c.in_ok-name_of-2.field-0 c.loop-place.numbers) c.new-groups.ensures
    ∙ ap (λ kind. suspect kind c.in_ok-name_of-2.field-0 c.loop-place.numbers) c.in_ok-name_of.ensures
    ∙ ap (λ label. suspect (codes "all") label c.loop-place.numbers) c.in_ok-name_of-2.ensures ∙ ap (suspect (codes "all") (codes "all")) numbers

pub returns-clause-within : goal.returns-clause-within
returns-clause-within c = subst (AreWithin (length c.args.places.now)) (sym (returns-clause-lists c)) (everything-within c.args.places.now)

pub returns-clause-ascending : goal.returns-clause-ascending
returns-clause-ascending c = subst AreAscending (sym (returns-clause-lists c)) (everything-ascends c.args.places.now)
