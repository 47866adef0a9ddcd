-- How the fields of a trail stand for what contracts see of it.
use Rattle.std.specs.Prelude.{◌≡◌, ℕ, ◌+◌, ◌^◌, ◌<◌, ◌≤◌, Bool, true, not, Option, None, is_some, List, map, length, take, count_by, slice_index, slice_index_or}
use Rattle.std.specs.Option.{option_map}
use Rattle.std.specs.Vec.{vec_capacity}
use Rattle.trail_core.specs.declared.entry.Entry.{Entry}
use Rattle.trail_core.specs.declared.plain.PlainTrail.TheInside.{Inside}
use Rattle.trail_core.specs.Values.{IsVariable}
use Rattle.trail_core.specs.TrailState.{TrailState, IsTrail, entry_of, is_decision, decisions}

-- the trail that the fields stand for
abbrev pub state_of : Inside → TrailState
state_of a = record { vars = length a.assigned.items; clauses = a.clauses; entries = a.entries.items; level = length a.starts.items }

-- the value that an entry gives its variable
abbrev pub value_in : Option Entry → Option Bool
value_in o = option_map (λ e. not e.lit.negated) o

-- the table has, at a variable less 1, the variable's entry
abbrev pub IsIndex : List (Option Entry) → List Entry → Type 0
IsIndex table entries = (i : ℕ) → i < length table → slice_index_or table i None ≡ entry_of entries (i + 1)

-- each entry is of one of the variables, which has no entry before it
abbrev pub AreNew : ℕ → List Entry → Type 0
AreNew vars entries = (place : ℕ) (d : Entry) → place < length entries → IsVariable vars (slice_index_or entries place d).lit.var × (entry_of (take place entries) (slice_index_or entries place d).lit.var ≡ None)

-- the starts are the places of the decisions, in order
pub record AreStarts (starts : List ℕ) (entries : List Entry) : Type 0 where
  pub within : (k : ℕ) → k < length starts → slice_index starts k < length entries
  pub decision : (k : ℕ) (d : Entry) → k < length starts → is_decision (slice_index_or entries (slice_index starts k) d) ≡ true
  pub count : (k : ℕ) → k < length starts → decisions (take (slice_index starts k) entries) ≡ k

-- what holds of the fields
pub record IsLaidOut (a : Inside) : Type 0 where
  pub trail : IsTrail (state_of a)
  pub index : IsIndex a.assigned.items a.entries.items
  pub values : a.values.items ≡ map value_in a.assigned.items
  pub value_size : length a.values.items ≡ length a.assigned.items
  pub counted : count_by is_some a.assigned.items ≡ length a.entries.items
  pub starts : AreStarts a.starts.items a.entries.items
  pub small : length a.assigned.items < 2 ^ 32
  pub few_clauses : length a.clauses < 2 ^ 32
  pub entry_room : length a.assigned.items ≤ vec_capacity a.entries
  pub start_room : length a.assigned.items ≤ vec_capacity a.starts
