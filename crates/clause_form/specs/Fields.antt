-- What is kept while the clauses of a form are counted and made; only private contracts cite it.
use Rattle.std.specs.Prelude.{ℕ, ◌≡◌, ◌≤◌, ◌+◌, Bool, if◌then◌else◌, List, [], ◌++◌, length, get_or}
use Rattle.clause_base.specs.declared.literal.Lit.{Lit}
use Rattle.suspect_map.specs.declared.group.Group.{Group}
use Rattle.unroller.specs.Unrolls.{Unrolling, variables_of}
use Rattle.clause_form.specs.declared.sink.Sink.{Sink}
use Rattle.clause_form.specs.declared.beginning.Beginning.{Beginning}
use Rattle.clause_form.specs.Clauses.{cycles_clauses, literals_in, selector_clauses, selectors_of}
use Rattle.clause_form.specs.Named.{Planned, named_from}
use Rattle.clause_form.specs.Variables.{AreSelectors}

-- the variable of the first definition, whether clauses are kept, the marks of those that are wanted, how many literals the clauses
-- have, and those that were kept
pub record Sunk : Type 0 where
  pub base : ℕ
  pub writes : Bool
  pub named : List Bool
  pub count : ℕ
  pub clauses : List (List Lit)

abbrev pub sunk_of : Sink → Sunk
sunk_of s = record { base = s.base; writes = s.writes; named = s.kept.named; count = s.count; clauses = s.kept.clauses }

-- clauses, counted and, where they are kept, kept
abbrev pub after : Sunk → List (List Lit) → Sunk
after s more = record {
  base = s.base;
  writes = s.writes;
  named = s.named;
  count = s.count + literals_in more;
  clauses = if s.writes then s.clauses ++ named_from s.named (length s.clauses) more else s.clauses;
}

-- the clauses of a form with this beginning
abbrev pub whole_of : Beginning → Unrolling → List (List Lit)
whole_of b u = b.counter ++ cycles_clauses u (λ place. get_or b.selectors place []) 0 0 u.ends

-- what is said of the suspects is that of these groups
pub record Begins (groups : List Group) (k : ℕ) (b : Beginning) : Type 0 where
  pub counter : b.counter ≡ selector_clauses (length groups) k
  pub selectors : (place : ℕ) → get_or b.selectors place [] ≡ selectors_of groups place
  pub count : b.count ≡ literals_in b.counter
  pub few : b.count ≤ 64000000

-- clauses of an unrolled form can stand behind it
pub record CanBegin (u : Unrolling) (b : Beginning) : Type 0 where
  pub selectors : AreSelectors u.base b.selectors
  pub count : b.count ≡ literals_in b.counter
  pub few : b.count ≤ 64000000

-- what holds of each plan: it hasn't too many literals
pub record IsPlan (u : Unrolling) (b : Beginning) : Type 0 where
  pub can : CanBegin u b
  pub few : literals_in (whole_of b u) ≤ 64000000

abbrev pub planned : Unrolling → Beginning → Planned
planned u b = record { vars = variables_of u; clauses = whole_of b u }
