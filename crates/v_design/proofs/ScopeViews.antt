-- The plain data of a scope.
use Rattle.std.proofs.Common.{◌≡◌, map}
use Rattle.v_binding.specs.Signals as signals
use Rattle.v_binding.specs.Held.{known_of}
use Rattle.bind_scopes.specs.declared.scope.Scope.{Scope, out-Scope}
use Rattle.bind_scopes.specs.declared.scope.Scope.TheFolds.{fold_out-Scope}
use Rattle.bind_scopes.specs.Views.{scope_of, in_order, scope_step}

pub scope_of_scope : (s : Scope) → scope_of s ≡ signals.scoped (map known_of (out-Scope s).names) (in_order (map scope_of (out-Scope s).inside))
scope_of_scope s = fold_out-Scope signals.Scope scope_step s

pub ruleset scope_views = (scope_of_scope)
