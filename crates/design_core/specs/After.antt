-- What a statement does (IEEE 1364-2005, clause 9): a blocking assignment takes effect at once, a nonblocking one
-- reads its right side where it stands and updates later (9.2.1, 9.2.2).
use Rattle.std.specs.Prelude.{ℕ, Bool, if◌then◌else◌, ◌==◌, bit_or, List}
use Rattle.std.specs.List.{list_any}
use Rattle.loc_base.specs.Bits.{value_of}
use Rattle.design_core.specs.declared.signal.Signal.{Signal}
use Rattle.design_core.specs.declared.statement.Part.{Part}
use Rattle.design_core.specs.declared.statement.Label.{Label}
use Rattle.design_core.specs.declared.statement.Stmt.{Stmt, Row_of-Stmt, end_of-Stmt, more_of-Stmt, Row_of-CaseItem, end_of-CaseItem, more_of-CaseItem}
use Rattle.design_core.specs.declared.statement.Stmt.TheVariants.{Nothing, Block', If', Case', Set}
use Rattle.design_core.specs.Valuation.{Valuation, bit}
use Rattle.design_core.specs.Operator.{is_true}
use Rattle.design_core.specs.Value.{value}
use Rattle.design_core.specs.Store.{store}

-- which places are freed, and the values chosen for them in a cycle
pub record Choice : Type 0 where
  pub frees : ℕ → Bool
  pub chosen : ℕ → ℕ

-- what a place assigns: the chosen value where it is freed, else the computed one
abbrev pub assigned : Choice → ℕ → ℕ → ℕ
assigned choice place computed = if choice.frees place then choice.chosen place else computed

-- the valuation that is read, and that of later updates
pub record Updates : Type 0 where
  pub now : Valuation
  pub later : Valuation

-- whether a label is equal to the subject outside its wild bits (9.5)
abbrev pub matches : List Signal → Valuation → ℕ → Label → Bool
matches signals V subject label =
    bit_or subject (value_of label.wild) == bit_or (value signals V label.value) (value_of label.wild)

-- a value assigned to a left side
abbrev pub after_set : List Signal → List Part → (ℕ → Bool) → Bool → Updates → Updates
after_set signals parts bits later m =
    if later
    then record m { later = store signals m.now m.later parts bits }
    else record m { now = store signals m.now m.now parts bits }

abbrev mutual
  -- the updates after a statement
  pub after : List Signal → Choice → Stmt → Updates → Updates
  after signals choice Nothing m = m
  after signals choice (Block' _ statements) m = after_all signals choice statements m
  after signals choice (If' cond _ (more_of-Stmt on_true end_of-Stmt) _ (more_of-Stmt on_false end_of-Stmt)) m =
      if is_true (value signals m.now cond) then after signals choice on_true m else after signals choice on_false m
  after signals choice (Case' subject _ items _ (more_of-Stmt other end_of-Stmt) _) m =
      after_case signals choice (value signals m.now subject) items m (after signals choice other m)
  after signals choice (Set place target computed later) m =
      after_set signals target.parts (bit (assigned choice place (value signals m.now computed))) later m

  -- after statements in order
  pub after_all : {shape : _} → List Signal → Choice → Row_of-Stmt shape → Updates → Updates
  after_all signals choice end_of-Stmt m = m
  after_all signals choice (more_of-Stmt statement rest) m = after_all signals choice rest (after signals choice statement m)

  -- after the first item that has a label equal to the subject, else as given
  pub after_case : {shape : _} → List Signal → Choice → ℕ → Row_of-CaseItem shape → Updates → Updates → Updates
  after_case signals choice subject end_of-CaseItem m other = other
  after_case signals choice subject (more_of-CaseItem labels body rest) m other =
      if list_any (matches signals m.now subject) labels
      then after signals choice body m
      else after_case signals choice subject rest m other
