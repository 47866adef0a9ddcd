-- Signals, scopes and ports as the code has them, without where they lie in memory.
use Rattle.std.specs.Prelude.{List, [], ◌∷◌, map}
use Rattle.bind_scopes.specs.declared.numbered.Numbered.{Numbered}
use Rattle.bind_scopes.specs.declared.scope.Scope.{Scope, fold-Scope}
use Rattle.bind_scopes.specs.declared.scope.Scope.TheOpen.{Scope-F}
use Rattle.bind_scopes.specs.declared.scope.Whole.{Whole}
use Rattle.bind_scopes.specs.declared.socket.Socket.{Socket}
use Rattle.v_binding.specs.Signals as signals
use Rattle.v_binding.specs.Connections as connections
use Rattle.v_binding.specs.Held.{known_of}

abbrev pub numbered_of : Numbered → signals.Numbered
numbered_of n = record { signal = n.signal; home = n.home; span = n.span }

-- scopes in their order
abbrev pub in_order : List signals.Scope → signals.Scopes
in_order [] = signals.no_scope
in_order (s ∷ ss) = signals.more_scopes s (in_order ss)

-- one level, with what is inside already seen so
abbrev pub scope_step : Scope-F signals.Scope → signals.Scope
scope_step s = signals.scoped (map known_of s.names) (in_order s.inside)

abbrev pub scope_of : Scope → signals.Scope
scope_of = fold-Scope signals.Scope scope_step

abbrev pub scopes_of : List Scope → signals.Scopes
scopes_of inside = in_order (map scope_of inside)

abbrev pub whole_of : Whole → signals.Whole
whole_of w = record { scopes = map scope_of w.scopes; signals = map numbered_of w.signals }

abbrev pub socket_of : Socket → connections.Socket
socket_of s = record { name = s.name.now; input = s.input; signal = s.signal; width = s.width; signed = s.signed }
