-- What is numbered so far, as definitions have it.
use Rattle.std.specs.Prelude.{List, [], ◌∷◌, ◌++◌, map}
use Rattle.v_binding.specs.Names as plain
use Rattle.v_binding.specs.Signals as signals
use Rattle.v_binding.specs.Held.{known_of}
use Rattle.bind_scopes.specs.declared.numbered.Numbered.{Numbered}
use Rattle.bind_scopes.specs.Views.{numbered_of, scopes_of}
use Rattle.bind_signals.specs.declared.met.Met.{Met}
use Rattle.bind_signals.specs.declared.met.Own.{Own}

abbrev pub scoping : List Numbered → Own → signals.Scoping
scoping ns own = record { signals = map numbered_of ns; names = map known_of own.names; inside = scopes_of own.inside }

abbrev pub scoping_of : Met → signals.Scoping
scoping_of met = scoping met.signals met.own

-- signals more, with one name for them
abbrev pub with_numbered : List signals.Numbered → plain.Known → signals.Scoping → signals.Scoping
with_numbered ns k met = record { signals = met.signals ++ ns; names = met.names ++ k ∷ []; inside = met.inside }

abbrev pub with_name : plain.Known → signals.Scoping → signals.Scoping
with_name k met = record { signals = met.signals; names = met.names ++ k ∷ []; inside = met.inside }
