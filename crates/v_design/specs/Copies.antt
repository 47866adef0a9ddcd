-- The walk over what the items of a scope make, one after another; only private contracts cite it.
use Rattle.std.specs.Prelude.{List, Bool, true, false, if◌then◌else◌, drop, Result, Ok}
use Rattle.v_hierarchy.specs.Items.{Child, Copied, written, always, child, inner, turn}
use Rattle.v_binding.specs.declared.error.BindErr.{BindErr}
use Rattle.v_binding.specs.Steps.{◌>>=◌}
use Rattle.v_binding.specs.Names.{Names, turned}
use Rattle.v_binding.specs.Signals.{Scope, Scopes}
use Rattle.v_binding.specs.Places.{Home}
use Rattle.v_binding.specs.Blocks.{Frame, always_block}
use Rattle.v_binding.specs.Connections as connections
use Rattle.v_binding.specs.Items.{Met, with_bound, Ground, home_of, written_of, ports_next, children_after, scopes_after, bound_block}
use Rattle.v_design.specs.declared.item_walk.Walk.{Walk}
use Rattle.v_design.specs.Children.{children_of}

-- what is met so far
abbrev pub met_of : Walk → Met
met_of w = record { children = drop w.turn (children_of w.children); bound = w.bound }

-- a module instance with its ports
abbrev pub joined_at : Frame → Home → Names → List connections.Socket → Child → Met → Result Met BindErr
joined_at f home names ports c met =
    connections.child_of f home names ports c met.bound >>= λ b. Ok (record { children = children_after met.children; bound = b })

-- what one of them adds, where a scope inside has these names
abbrev pub copy_at : Ground → Names → Scope → Copied → Met → Result Met BindErr
copy_at g names own (written item) met = written_of g names item met.bound >>= λ b. Ok (with_bound met b)
copy_at g names own (always s sensitivity body) met = always_block g.frame (home_of g s) names s sensitivity body met.bound >>= λ b. Ok (with_bound met b)
copy_at g names own (child s c) met = joined_at g.frame (home_of g s) names (ports_next met.children) c met
copy_at g names own (inner block) met = bound_block g names own block met
copy_at g names own (turn variable value block) met = bound_block g (turned variable value names) own block met

-- whether it is a scope
abbrev pub is_scope : Copied → Bool
is_scope (written _) = false
is_scope (always _ _ _) = false
is_scope (child _ _) = false
is_scope (inner _) = true
is_scope (turn _ _ _) = true

-- the scopes whose turn is still to come behind it
abbrev pub scopes_behind : Copied → Scopes → Scopes
scopes_behind x scopes = if is_scope x then scopes_after scopes else scopes
