-- The items of an instance in the order of the text (IEEE 1364-2005, 12.1 to 12.4), each with what it adds to the design.
use Rattle.std.specs.Prelude.{ℕ, List, [], ◌∷◌, Result, Ok}
use Rattle.v_syntax.specs.declared.site.Site.{Site}
use Rattle.v_syntax.specs.ItemTree.{PlainItem, net_item, assign_item, gate_item, initial_item}
use Rattle.v_hierarchy.specs.Items.{written, always, child, inner, turn, Block, scope, Copies, no_copy, copy}
use Rattle.v_binding.specs.declared.error.BindErr.{BindErr}
use Rattle.v_binding.specs.Steps.{◌>>=◌, each}
use Rattle.v_binding.specs.Names.{Names, within, turned}
use Rattle.v_binding.specs.Places.{Home}
use Rattle.v_binding.specs.Signals.{Scope, scoped, Scopes, no_scope, more_scopes}
use Rattle.v_binding.specs.Bound.{Bound}
use Rattle.v_binding.specs.Blocks.{Frame, always_block}
use Rattle.v_binding.specs.Assignments.{assignment_of, declarator_of, initial_block}
use Rattle.v_binding.specs.Gates.{gate_of}
use Rattle.v_binding.specs.Connections.{Socket, child_of}

-- the ports of the children whose turn is still to come, and what is bound so far
pub record Met : Type 0 where
  pub children : List (List Socket)
  pub bound : Bound

abbrev pub with_bound : Met → Bound → Met
with_bound met b = record { children = met.children; bound = b }

-- a scope: the design's frame, the module of its text and its path
pub record Ground : Type 0 where
  pub frame : Frame
  pub «module» : List ℕ
  pub path : List ℕ

abbrev pub home_of : Ground → Site → Home
home_of g s = record { «module» = g.«module»; path = g.path; item = s.token }

abbrev pub inside : Ground → List ℕ → Ground
inside g path = record { frame = g.frame; «module» = g.«module»; path = path }

-- ---- an item as it is written
abbrev pub written_of : Ground → Names → PlainItem → Bound → Result Bound BindErr
written_of g names (net_item s kind _ _ _ list) b = each (declarator_of g.frame (home_of g s) names kind) list b
written_of g names (assign_item s _ list) b = each (assignment_of g.frame (home_of g s) names) list b
written_of g names (gate_item s kind _ list) b = each (gate_of g.frame (home_of g s) names kind) list b
written_of g names (initial_item _ body) b = initial_block names body b
written_of g names _ b = Ok b

-- ---- a child takes the next ports
abbrev pub ports_next : List (List Socket) → List Socket
ports_next [] = []
ports_next (ports ∷ _) = ports

abbrev pub children_after : List (List Socket) → List (List Socket)
children_after [] = []
children_after (_ ∷ rest) = rest

-- ---- a scope inside takes the next names
abbrev pub scope_next : Scopes → Scope
scope_next no_scope = scoped [] no_scope
scope_next (more_scopes s _) = s

abbrev pub scopes_after : Scopes → Scopes
scopes_after no_scope = no_scope
scopes_after (more_scopes _ rest) = rest

abbrev pub names_of : Scope → Names
names_of (scoped names _) = names

abbrev pub scopes_of : Scope → Scopes
scopes_of (scoped _ inside) = inside

abbrev mutual
  pub bound_copies : Ground → Names → Scopes → Copies → Met → Result Met BindErr
  bound_copies g names scopes no_copy met = Ok met
  bound_copies g names scopes (copy (written item) rest) met =
      written_of g names item met.bound >>= λ b. bound_copies g names scopes rest (with_bound met b)
  bound_copies g names scopes (copy (always s sensitivity body) rest) met =
      always_block g.frame (home_of g s) names s sensitivity body met.bound >>= λ b. bound_copies g names scopes rest (with_bound met b)
  bound_copies g names scopes (copy (child s c) rest) met =
      child_of g.frame (home_of g s) names (ports_next met.children) c met.bound >>= λ b.
      bound_copies g names scopes rest (record { children = children_after met.children; bound = b })
  bound_copies g names scopes (copy (inner block) rest) met =
      bound_block g names (scope_next scopes) block met >>= bound_copies g names (scopes_after scopes) rest
  bound_copies g names scopes (copy (turn variable value block) rest) met =
      bound_block g (turned variable value names) (scope_next scopes) block met >>= bound_copies g names (scopes_after scopes) rest

  -- a scope inside: its names hide those around it
  pub bound_block : Ground → Names → Scope → Block → Met → Result Met BindErr
  bound_block g names own (scope path _ copies) met =
      bound_copies (inside g path) (within (names_of own) names) (scopes_of own) copies met
