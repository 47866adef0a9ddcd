use Rattle.std.proofs.Common.{◌∙◌, sym, ap, Ok, inr, arith}
use Rattle.std.specs.Prelude.{option_map}
use Rattle.v_hierarchy.specs.Views.{entry_of, standing_of}
use Rattle.v_hierarchy.specs.Places.{place_in}
use Rattle.v_hierarchy.specs.Frames.{names_of}
use Rattle.v_hierarchy.proofs.FrameLaws.{declared-new, find-none}
use Rattle.v_hierarchy.proofs.DeclaredLaws.{stands-declared}
use Rattle.v_hierarchy.proofs.Framed.{found, found-within, refused, replaced, still-tells}
use Rattle.v_hierarchy.proofs.frame.Frame.declare.Goals as goal

pub append-requires-clause-fresh : goal.append-requires-clause-fresh
append-requires-clause-fresh c =
    let none = found (place_in c.args.self.now.places) c.args.self.now.entries.items c.as_bytes.result.now c.args.new.name.now.name c.find.result c.as_bytes.ensures.same c.find.ensures c.args.self.now.tells ∙ c.in_default.is in
    find-none c.args.new.name.now.name (names_of c.args.self.now) none

pub returns-in_default-clause-ok : goal.returns-in_default-clause-ok
returns-in_default-clause-ok c =
    let none = found (place_in c.args.self.now.places) c.args.self.now.entries.items c.as_bytes.result.now c.args.new.name.now.name c.find.result c.as_bytes.ensures.same c.find.ensures c.args.self.now.tells ∙ c.in_default.is in
    declared-new (entry_of c.args.new) (names_of c.args.self.now) none ∙ ap Ok (sym c.in_ok-append.ensures.ok)

pub index-requires : goal.index-requires
index-requires c =
    let place = found (place_in c.args.self.now.places) c.args.self.now.entries.items c.as_bytes.result.now c.args.new.name.now.name c.find.result c.as_bytes.ensures.same c.find.ensures c.args.self.now.tells ∙ c.in-Some.is in
    omega (arith, found-within c.args.self.now.entries.items c.args.new.name.now.name c.in-Some.place place, c.args.self.now.entries.ok.0)

pub returns-in_default-again-clause-err : goal.returns-in_default-again-clause-err
returns-in_default-again-clause-err c =
    let place = found (place_in c.args.self.now.places) c.args.self.now.entries.items c.as_bytes.result.now c.args.new.name.now.name c.find.result c.as_bytes.ensures.same c.find.ensures c.args.self.now.tells ∙ c.in-Some.is in
    let within = found-within c.args.self.now.entries.items c.args.new.name.now.name c.in-Some.place place in
    inr (refused c.args.self.now.entries.items c.in-Some.place c.index.result.now within c.index.ensures c.args.new place
    (sym c.again.ensures ∙ ap (option_map standing_of) c.in_default-again.is))

pub index_mut-requires : goal.index_mut-requires
index_mut-requires c =
    let place = found (place_in c.args.self.now.places) c.args.self.now.entries.items c.as_bytes.result.now c.args.new.name.now.name c.find.result c.as_bytes.ensures.same c.find.ensures c.args.self.now.tells ∙ c.in-Some.is in
    omega (arith, found-within c.args.self.now.entries.items c.args.new.name.now.name c.in-Some.place place, c.args.self.now.entries.ok.0)

pub invariant_of-self : goal.invariant_of-self
invariant_of-self c =
    let place = found (place_in c.args.self.now.places) c.args.self.now.entries.items c.as_bytes.result.now c.args.new.name.now.name c.find.result c.as_bytes.ensures.same c.find.ensures c.args.self.now.tells ∙ c.in-Some.is in
    let within = found-within c.args.self.now.entries.items c.args.new.name.now.name c.in-Some.place place in
    record {
      tells = still-tells c.args.self.now.entries.items c.in-Some.place c.index.result.now within c.index.ensures c.in-Some-again.both (place_in c.args.self.now.places) c.args.self.now.tells;
      stands = stands-declared (entry_of c.args.new) (names_of c.args.self.now) _ c.requires c.args.self.now.stands
          (replaced c.args.self.now.entries.items c.in-Some.place c.index.result.now within c.index.ensures c.args.new c.in-Some-again.both place
          (sym c.again.ensures ∙ ap (option_map standing_of) c.in-Some-again.is));
    }

pub returns-clause-ok : goal.returns-clause-ok
returns-clause-ok c =
    let place = found (place_in c.args.self.now.places) c.args.self.now.entries.items c.as_bytes.result.now c.args.new.name.now.name c.find.result c.as_bytes.ensures.same c.find.ensures c.args.self.now.tells ∙ c.in-Some.is in
    let within = found-within c.args.self.now.entries.items c.args.new.name.now.name c.in-Some.place place in
    replaced c.args.self.now.entries.items c.in-Some.place c.index.result.now within c.index.ensures c.args.new c.in-Some-again.both place
    (sym c.again.ensures ∙ ap (option_map standing_of) c.in-Some-again.is)
