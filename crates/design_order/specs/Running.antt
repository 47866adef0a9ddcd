-- What holds while numbers are taken, for what is private to this crate.
use Rattle.std.specs.Prelude.{ℕ, ◌≡◌, ◌<◌, ◌==◌, Bool, true, false, not, ◌&&◌, nat_lt, List, [], ◌∷◌, length, slice_index, slice_index_or}
use Rattle.std.specs.Ordering.{nat_cmp}
use Rattle.std.specs.BTreeSet.{contains}
use Rattle.design_core.specs.Order.{AreNext, Leads}
use Rattle.design_order.specs.declared.least.State.{State}
use Rattle.design_order.specs.Rows.{row, Listed, has, left}

pub record IsRunning (needs : List (List ℕ)) (s : State) : Type 0 where
  pub next : AreNext (Listed needs) (length needs) [] s.order.items
  pub taken_long : length s.taken.items ≡ length needs
  pub counts_long : length s.counts.items ≡ length needs
  pub taken : (k : ℕ) → slice_index_or s.taken.items k false ≡ has s.order.items k
  pub counts : (k : ℕ) → slice_index s.counts.items k ≡ left (has s.order.items) (row needs k)
  pub done : (k : ℕ) → has s.order.items k ≡ true → slice_index s.counts.items k ≡ 0
  pub ready : (k : ℕ) → contains nat_cmp s.ready k ≡ (nat_lt k (length needs) && (not (has s.order.items k) && slice_index s.counts.items k == 0))

-- a walk along numbers that were not taken, each of which needs the next one: `met` has those that stand on its path, which leads
-- to a number
abbrev pub LeadsTo : (ℕ → ℕ → Type 0) → List ℕ → ℕ → Type 0
LeadsTo D [] last = Unit {0}
LeadsTo D (i ∷ path) last = Leads D i path last

pub record IsWalk (needs : List (List ℕ)) (taken met : List Bool) (path : List ℕ) (number : ℕ) : Type 0 where
  pub within : number < length needs
  pub left : slice_index_or taken number false ≡ false
  pub long : length met ≡ length needs
  pub on_path : (k : ℕ) → slice_index_or met k false ≡ has path k
  pub path_within : (k : ℕ) → has path k ≡ true → k < length needs
  pub leads : LeadsTo (Listed needs) path number
