use Rattle.std.proofs.Common.{◌≡◌, ◌<◌, None, Some, length, rules, sym, subst}
use Rattle.std.specs.Prelude.{slice_get, slice_index_or}
use Rattle.std.proofs.lemmas.Option.{slice_get-get_or}
use Rattle.v_hierarchy.specs.declared.instance.Given.{Given}
use Rattle.v_scopes.specs.Listed.{listed}
use Rattle.v_scopes.proofs.TableLaws.{told, told-within, given-none, given-some}
use Rattle.v_scopes.proofs.values.Values.given.Goals as goal

pub returns-in_default : goal.returns-in_default
returns-in_default c =
    let place = told (λ (g : Given). g.name.now) c.args.self.now.list (listed c.args.self.now.names) c.args.name.now c.place.result None c.args.self.now.same c.place.ensures c.in_default.is in
    sym (given-none c.args.name.now c.args.self.now.list place)

pub offset_bounds-as_slice-place : goal.offset_bounds-as_slice-place
offset_bounds-as_slice-place c =
    let place = told (λ (g : Given). g.name.now) c.args.self.now.list (listed c.args.self.now.names) c.args.name.now c.place.result (Some c.in-Some.place) c.args.self.now.same c.place.ensures c.in-Some.is in
    let inside : c.in-Some.place < length c.as_slice.result.now =
    subst (λ l. c.in-Some.place < length l) (sym c.as_slice.ensures) (told-within (λ (g : Given). g.name.now) c.args.self.now.list c.args.name.now c.in-Some.place place) in
    search (rules, inside)

pub bounds-as_slice-place : goal.bounds-as_slice-place
bounds-as_slice-place c =
    let place = told (λ (g : Given). g.name.now) c.args.self.now.list (listed c.args.self.now.names) c.args.name.now c.place.result (Some c.in-Some.place) c.args.self.now.same c.place.ensures c.in-Some.is in
    subst (λ l. c.in-Some.place < length l) (sym c.as_slice.ensures) (told-within (λ (g : Given). g.name.now) c.args.self.now.list c.args.name.now c.in-Some.place place)

pub bounds-as_slice-place-in-Some : goal.bounds-as_slice-place-in-Some
bounds-as_slice-place-in-Some c =
    let place = told (λ (g : Given). g.name.now) c.args.self.now.list (listed c.args.self.now.names) c.args.name.now c.place.result (Some c.in-Some.place) c.args.self.now.same c.place.ensures c.in-Some.is in
    subst (λ l. c.in-Some.place < length l) (sym c.as_slice.ensures) (told-within (λ (g : Given). g.name.now) c.args.self.now.list c.args.name.now c.in-Some.place place)

pub returns : goal.returns
returns c =
    let place = told (λ (g : Given). g.name.now) c.args.self.now.list (listed c.args.self.now.names) c.args.name.now c.place.result (Some c.in-Some.place) c.args.self.now.same c.place.ensures c.in-Some.is in
    let inside : c.in-Some.place < length c.as_slice.result.now =
    subst (λ l. c.in-Some.place < length l) (sym c.as_slice.ensures) (told-within (λ (g : Given). g.name.now) c.args.self.now.list c.args.name.now c.in-Some.place place) in
    let found : Given = slice_index_or c.as_slice.result.now c.in-Some.place c.index-as_slice-place.result in
    let at : slice_get c.args.self.now.list c.in-Some.place ≡ Some found =
    subst (λ l. slice_get l c.in-Some.place ≡ Some found) c.as_slice.ensures (slice_get-get_or c.as_slice.result.now c.in-Some.place c.index-as_slice-place.result inside) in
    sym (given-some c.args.name.now c.args.self.now.list c.in-Some.place found place at)
