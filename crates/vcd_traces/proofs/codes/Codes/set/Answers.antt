use Rattle.std.proofs.Common.{◌∙◌, refl, sym, Some}
use Rattle.std.proofs.lemmas.List.{length-set}
use Rattle.std.proofs.lemmas.Map.Text.{hash_map_updates_str}
use Rattle.vcd_traces.proofs.NearLaws.{set_near, set_far}
use Rattle.vcd_traces.proofs.codes.Codes.set.Goals as goal

pub returns-in-Some : goal.returns-in-Some
returns-in-Some c =
    set_near c.args.self.now _ c.args.code.now c.in-Some.place c.args.role (sym c.near_place.ensures.place ∙ c.in-Some.is) c.in-Some.ensures.within refl
    (length-set c.args.self.now.near.items c.in-Some.place (Some c.args.role)) refl

pub returns-in_ok-insert-in-None : goal.returns-in_ok-insert-in-None
returns-in_ok-insert-in-None c =
    set_far c.args.self.now _ c.args.code.now c.args.role (sym c.near_place.ensures.place ∙ c.in-None.is) refl
    (hash_map_updates_str c.args.code.now c.args.self.now.far c.insert.new.self _ c.in_ok-insert-in-None.ensures.updates)
