use Rattle.std.proofs.Common.{refl, sym, ap, ◌∙◌}
use Rattle.std.proofs.lemmas.List.{length-map}
use Rattle.v_hierarchy.specs.Constants.{width}
use Rattle.v_binding.specs.declared.known.Use.TheVariants.{Stands as stands}
use Rattle.v_binding.specs.Names.{known}
use Rattle.v_binding.specs.Held.{known_of}
use Rattle.v_binding.specs.Seen.{names_in}
use Rattle.bind_scopes.specs.Addressed.{addresses_of}
use Rattle.bind_scopes.specs.Views.{numbered_of}
use Rattle.bind_signals.specs.Scopings.{scoping_of}
use Rattle.bind_signals.specs.Grounds.{ground_in}
use Rattle.bind_signals.proofs.ArrayLaws.{array_added}
use Rattle.bind_signals.proofs.ground.Ground.add_array.Goals as goal

pub returns-clause-ok : goal.returns-clause-ok
returns-clause-ok c =
    array_added (ground_in c.args.self.now (names_in c.args.met.now.seen)) c.args.declaration.name.now c.args.declaration.signal (addresses_of c.args.addresses)
    (scoping_of c.args.met.now) (scoping_of c.add_array.new.self) c.in_ok-path.path c.range-bounds.result (width c.range-bounds.result) c.in_ok-first.first (known_of c.new.result)
    c.in_ok-add_array.ensures.ok c.in_ok-path.ensures c.range-bounds.ensures refl
    (c.in_ok-first.ensures ∙ sym (length-map c.args.met.now.signals numbered_of))
    (ap (λ n. known n c.new.result.use_of) c.new.ensures.name ∙ ap (known c.args.declaration.name.now.name) (c.new.ensures.is ∙ ap stands c.array_meaning-meaning.ensures))
