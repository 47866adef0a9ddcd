-- Procedural statements (IEEE 1364-2005, 9.2, 9.4, 9.5, 9.8), with loops unrolled: each assignment is a place. Parts are met from
-- the left: a left side before its right side, a condition before what it guards.
use Rattle.std.specs.Prelude.{Bool, true, false, not, List, [], ◌∷◌, ◌++◌, length, Result, Ok}
use Rattle.v_syntax.specs.declared.declaration.Identifier.{Identifier}
use Rattle.v_syntax.specs.declared.site.Site.{Site}
use Rattle.v_syntax.specs.declared.statement.AssignKind.{AssignKind}
use Rattle.v_syntax.specs.declared.statement.AssignKind.TheVariants as assign_kind
use Rattle.v_syntax.specs.Tree.{Tree}
use Rattle.v_syntax.specs.PartTree.{PlainLeft}
use Rattle.v_syntax.specs.StatementTree.{PlainStatement, assignment}
use Rattle.design_core.specs.declared.place.Place.{Place}
use Rattle.design_core.specs.declared.place.PlaceKind.TheVariants as place_kind
use Rattle.design_core.specs.declared.statement.CaseItem.{CaseItem}
use Rattle.design_core.specs.declared.statement.Stmt.{Stmt}
use Rattle.design_core.specs.declared.statement.Stmt.TheVariants as stmt
use Rattle.v_hierarchy.specs.Unrolled.{Steps, nothing, still, run, branch, choose, repeated, StepList, no_step, step, Arms, no_arm, arm, default_arm, Turns, no_turn, turn}
use Rattle.v_binding.specs.declared.error.BindErr.{BindErr}
use Rattle.v_binding.specs.Steps.{◌>>=◌, each}
use Rattle.v_binding.specs.Names.{Names, turned}
use Rattle.v_binding.specs.Expressions.{sized_in, assigned, by_itself}
use Rattle.v_binding.specs.Lefts.{target}
use Rattle.v_binding.specs.Places.{Home, Placed, placed, place}
use Rattle.v_binding.specs.Cases.{Context, context_of, label_at, is_wild_case}

-- ---- assignments
abbrev pub is_later : AssignKind → Bool
is_later assign_kind.Blocking = false
is_later assign_kind.Nonblocking = true

abbrev pub set : Home → Names → Site → PlainLeft → AssignKind → Tree → List Place → Result (Placed Stmt) BindErr
set home names site left kind value places =
    target names left >>= λ l. assigned names value l.width >>= λ e.
    Ok (placed (stmt.Set (length places) (record { parts = l.parts }) e (is_later kind)) (places ++ place place_kind.Step home site 0 l ∷ []))

-- what stands as it is written is an assignment
abbrev pub set_of : Home → Names → PlainStatement → List Place → Result (Placed Stmt) BindErr
set_of home names (assignment site left kind _ value) places = set home names site left kind value places
set_of home names _ places = Ok (placed stmt.Nothing places)

-- ---- cases
-- the items so far, and the statement that stands for all other values
pub record Chosen : Type 0 where
  pub items : List CaseItem
  pub other : Stmt

abbrev pub nothing_chosen : Chosen
nothing_chosen = record { items = []; other = stmt.Nothing }

-- a default without a statement is one that is there
abbrev pub as_default : Stmt → Stmt
as_default stmt.Nothing = stmt.Block []
as_default s = s

-- ---- statements
abbrev mutual
  pub bound : Home → Names → Steps → List Place → Result (Placed Stmt) BindErr
  bound home names nothing places = Ok (placed stmt.Nothing places)
  bound home names (still s) places = set_of home names s places
  bound home names (run steps) places = bound_all home names steps [] places
  bound home names (branch condition on_true other) places =
      by_itself names condition >>= λ cond. bound home names on_true places >>= λ one. bound home names other one.places >>= λ rest.
      Ok (placed (stmt.If cond one.value rest.value) rest.places)
  bound home names (choose kind subject arms) places =
      let c = context_of names subject arms in
      sized_in names subject c.width (not c.signed) >>= λ e. bound_arms home names c arms nothing_chosen places >>= λ x.
      Ok (placed (stmt.Case e x.value.items x.value.other (is_wild_case kind)) x.places)
  bound home names (repeated variable turns) places = bound_turns home names variable turns [] places

  -- those of a block, behind those that stand before
  pub bound_all : Home → Names → StepList → List Stmt → List Place → Result (Placed Stmt) BindErr
  bound_all home names no_step done places = Ok (placed (stmt.Block done) places)
  bound_all home names (step x xs) done places =
      bound home names x places >>= λ one. bound_all home names xs (done ++ one.value ∷ []) one.places

  -- the turns of a loop
  pub bound_turns : Home → Names → Identifier → Turns → List Stmt → List Place → Result (Placed Stmt) BindErr
  bound_turns home names variable no_turn done places = Ok (placed (stmt.Block done) places)
  bound_turns home names variable (turn value x xs) done places =
      bound home (turned variable value names) x places >>= λ one.
      bound_turns home names variable xs (done ++ one.value ∷ []) one.places

  -- the arms of a case: labels, then what stands for them
  pub bound_arms : Home → Names → Context → Arms → Chosen → List Place → Result (Placed Chosen) BindErr
  bound_arms home names c no_arm done places = Ok (placed done places)
  bound_arms home names c (arm labels x xs) done places =
      each (label_at names c) labels [] >>= λ list. bound home names x places >>= λ one.
      bound_arms home names c xs (record { items = done.items ++ record { labels = list; body = one.value } ∷ []; other = done.other }) one.places
  bound_arms home names c (default_arm x xs) done places =
      bound home names x places >>= λ one.
      bound_arms home names c xs (record { items = done.items; other = as_default one.value }) one.places
