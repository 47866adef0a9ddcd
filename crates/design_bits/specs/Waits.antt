-- What a walk over statements keeps, for what is private to this crate.
use Rattle.std.specs.Prelude.{ℕ, ◌≡◌, ◌<◌, Bool, true, not, ◌&&◌, ◌||◌, List, length, slice_index}
use Rattle.design_bits.specs.declared.waits.Walk.{Walk}
use Rattle.design_bits.specs.declared.listed.SignalBits.{SignalBits}
use Rattle.design_bits.specs.declared.shared.Shared.{Shared}
use Rattle.design_bits.specs.Listed.{Lists, lists, undone}
use Rattle.design_bits.specs.Masks.{Adds, has}

-- a walk has a place for each signal, and its empty set is empty
pub record AreFit (n : ℕ) (walk : Walk) : Type 0 where
  pub reads_long : length walk.reads ≡ n
  pub sure_long : length walk.sure.items ≡ n
  pub empty_long : length walk.empty ≡ n
  pub empty : (s : ℕ) → slice_index walk.empty s ≡ 0

-- the walk has read bits that pass a test, but for those that were surely assigned before, and is otherwise as it was
pub record HasGone (n : ℕ) (old new : Walk) (test : ℕ → ℕ → Bool) : Type 0 where
  pub fit : AreFit n new
  pub same : new.sure.items ≡ old.sure.items
  pub reads : Adds old.reads new.reads (λ s b. test s b && not (has old.sure.items s b))

-- a walk is within a block: what the block's statements so far read, and surely assign, and how their bits are taken out again
pub record IsInBlock (n : ℕ) (start now : Walk) (before list : List SignalBits) (read assigned : ℕ → ℕ → Bool) : Type 0 where
  pub fit : AreFit n now
  pub undone : undone before now.sure.items ≡ start.sure.items
  pub sure : Adds start.sure.items now.sure.items assigned
  pub reads : Adds start.reads now.reads (λ s b. read s b && not (has start.sure.items s b))
  pub all : Lists n list assigned

-- whether each of some paths assigns a bit
abbrev pub shares : Shared → ℕ → ℕ → Bool
shares shared s b = shared.every || lists shared.list.items s b

-- the bits of the first n signals that pass a test are those that each path assigns
pub record Shares (n : ℕ) (shared : Shared) (test : ℕ → ℕ → Bool) : Type 0 where
  pub bits : (s b : ℕ) → s < n → b < 128 → shares shared s b ≡ test s b

-- a walk is among the items of a case: what those so far read, and what each of them surely assigns
pub record IsInItems (n : ℕ) (start now : Walk) (before together : Shared) (turns : ℕ) (read assigned : ℕ → ℕ → Bool) : Type 0 where
  pub gone : HasGone n start now read
  pub shared : Shares n together (λ s b. shares before s b && assigned s b)
  pub every : together.every ≡ true → (before.every ≡ true) × (turns ≡ 0)

-- a walk between drivers: no bit is surely assigned yet
pub record IsIdle (walk : Walk) : Type 0 where
  pub fit : AreFit (length walk.reads) walk
  pub none : (s : ℕ) → slice_index walk.sure.items s ≡ 0

-- a walk has gone over a statement for what it assigns: the bits that pass a test were added, and no bit is surely assigned but those before
pub record HasAssigned (n : ℕ) (old new : Walk) (test : ℕ → ℕ → Bool) : Type 0 where
  pub fit : AreFit n new
  pub same : new.sure.items ≡ old.sure.items
  pub added : Adds old.reads new.reads test

-- a walk is as it was
pub record IsKept (n : ℕ) (old new : Walk) : Type 0 where
  pub fit : AreFit n new
  pub sure : new.sure.items ≡ old.sure.items
  pub reads : new.reads ≡ old.reads

-- a walk is among the items of a case, for what each of them assigns
pub record IsInList (n : ℕ) (start now : Walk) (before together : Shared) (turns : ℕ) (assigned : ℕ → ℕ → Bool) : Type 0 where
  pub kept : IsKept n start now
  pub shared : Shares n together (λ s b. shares before s b && assigned s b)
  pub every : together.every ≡ true → (before.every ≡ true) × (turns ≡ 0)
