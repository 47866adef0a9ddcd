use Rattle.std.proofs.Common.{◌<◌, None, Some, length, rules, sym}
use Rattle.std.proofs.lemmas.Option.{slice_get-get_or}
use Rattle.v_syntax.specs.declared.module.Module.{Module}
use Rattle.v_scopes.specs.Listed.{listed}
use Rattle.v_scopes.proofs.TableLaws.{told, told-within, unit-none, unit-some}
use Rattle.v_scopes.proofs.units.Units.find.Goals as goal

pub returns-in_default : goal.returns-in_default
returns-in_default c =
    let place = told (λ (m : Module). m.name.name) c.args.self.now.list.now (listed c.args.self.now.names) c.args.name.now c.place.result None c.args.self.now.same c.place.ensures c.in_default.is in
    sym (unit-none c.args.name.now c.args.self.now.list.now place)

pub offset_bounds-self-place : goal.offset_bounds-self-place
offset_bounds-self-place c =
    let place = told (λ (m : Module). m.name.name) c.args.self.now.list.now (listed c.args.self.now.names) c.args.name.now c.place.result (Some c.in-Some.place) c.args.self.now.same c.place.ensures c.in-Some.is in
    let inside : c.in-Some.place < length c.args.self.now.list.now = told-within (λ (m : Module). m.name.name) c.args.self.now.list.now c.args.name.now c.in-Some.place place in
    search (rules, inside)

pub bounds-self-place : goal.bounds-self-place
bounds-self-place c =
    let place = told (λ (m : Module). m.name.name) c.args.self.now.list.now (listed c.args.self.now.names) c.args.name.now c.place.result (Some c.in-Some.place) c.args.self.now.same c.place.ensures c.in-Some.is in
    told-within (λ (m : Module). m.name.name) c.args.self.now.list.now c.args.name.now c.in-Some.place place

pub returns : goal.returns
returns c =
    let place = told (λ (m : Module). m.name.name) c.args.self.now.list.now (listed c.args.self.now.names) c.args.name.now c.place.result (Some c.in-Some.place) c.args.self.now.same c.place.ensures c.in-Some.is in
    let inside = told-within (λ (m : Module). m.name.name) c.args.self.now.list.now c.args.name.now c.in-Some.place place in
    sym (unit-some c.args.name.now c.args.self.now.list.now c.in-Some.place _ place (slice_get-get_or c.args.self.now.list.now c.in-Some.place c.index-self-place.result inside))
