use Rattle.std.proofs.Common.{◌≡◌, ◌<◌, ◌++◌, ◌∷◌, [], ◌∙◌, sym, ap, arith, rules, true, false, get_or, length, List, None}
use Rattle.std.proofs.lemmas.Bool.{cond-true, cond-false}
use Rattle.std.proofs.lemmas.List.{get_or_default}
use Rattle.std.proofs.lemmas.Option.{get_or_from_slice_get}
use Rattle.loc_base.proofs.ShelfLists.{slice_get-some}
use Rattle.suspect_map.specs.declared.group.Group.{Group}
use Rattle.suspect_map.specs.Groups.{numbers_at}
use Rattle.suspect_map.specs.Grouping.{is_number, group_of, led_from}
use Rattle.suspect_map.proofs.GroupLaws.{led-next}
use Rattle.suspect_map.proofs.grouping.Grain.groups.Goals.{then-is_own+in_ok-places+in_ok-group+in_ok-push, else-is_own}
use Rattle.suspect_map.proofs.grouping.Grain.groups.Goals as goal

pub loop-at-preserved : goal.loop-at-preserved
loop-at-preserved c =
    let label = c.args.self.now.label in
    let kind = c.args.self.now.kind.now in
    let places = c.args.self.now.places.now in
    let firsts = c.args.firsts.now in
    let at = c.loop-at.at in
    let first = get_or firsts at None in
    let in_firsts : at < length firsts = c.loop-at-test.true in
    let in_places : at < length places = omega (arith, in_firsts, c.requires.long) in
    let first_is : first ≡ get_or firsts at first = get_or_default firsts at None first in_firsts in
    elim c.if-is_own.branch [
      | then-is_own+in_ok-places+in_ok-group+in_ok-push w ↦
          let place = w.index-self-at.result in
          let own : is_number at first ≡ true = sym c.is_own.ensures ∙ w.if-is_own.true in
          let places_are : w.in_ok-places.places ≡ numbers_at (is_number at) 0 firsts = w.in_ok-places.ensures (numbers_at (is_number at) 0 firsts) (c.in_ok-chains.ensures.runs at in_firsts) in
          let there : w.in_ok-group.group ≡ group_of label kind (get_or places at place) w.in_ok-places.places = w.in_ok-group.ensures in
          let made : w.in_ok-group.group ≡ group_of label kind place w.in_ok-places.places = there ∙ ap (λ p. group_of label kind p w.in_ok-places.places) (sym w.index-self-at.is) in
          let group : w.in_ok-group.group ≡ group_of label kind place (numbers_at (is_number at) 0 firsts) = made ∙ ap (group_of label kind place) places_are in
          led-next label kind firsts places c.loop-at.groups c.if-is_own.groups (led_from label kind firsts 0 places firsts) at place first in_places in_firsts w.index-self-at.is first_is
          (w.groups-is ∙ w.in_ok-push.ensures.ok ∙ ap (λ (x : Group). c.loop-at.groups ++ x ∷ []) group ∙ ap (λ (xs : List Group). c.loop-at.groups ++ xs) (sym (cond-true _ _ _ own)))
          c.loop-at.invariant
      | else-is_own w ↦
          let found = slice_get-some places at in_places in
          let other : is_number at first ≡ false = sym c.is_own.ensures ∙ w.if-is_own.false in
          let nothing : c.loop-at.groups ≡ c.loop-at.groups ++ [] = search rules in
          led-next label kind firsts places c.loop-at.groups c.if-is_own.groups (led_from label kind firsts 0 places firsts) at found.0 first in_places in_firsts
          (sym (get_or_from_slice_get places at found.0 found.0 found.1)) first_is
          (w.groups-is ∙ nothing ∙ ap (λ (xs : List Group). c.loop-at.groups ++ xs) (sym (cond-false _ _ _ other)))
          c.loop-at.invariant
    ]
