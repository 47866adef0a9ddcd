-- A branch that begins, and one that ends.
use Rattle.std.proofs.Common.{◌≡◌, ℕ, List, length, Result, Ok, Err, sym, ◌∙◌, ap}
use Rattle.std.specs.Prelude.{OnOk}
use Rattle.loc_base.specs.declared.memory.NoMemory.{NoMemory}
use Rattle.node_map.specs.declared.pair.Pair.{Pair}
use Rattle.word_net.specs.declared.node.WordNode.{WordNode}
use Rattle.synth_parts.specs.Statement.{Maps, maps}

-- both maps begin a branch where they are
abbrev pub begun : Pair → Pair
begun m = record { current = record { now = m.current.now; base = m.current.now }; later = record { now = m.later.now; base = m.later.now } }

-- what is known where a branch begins
pub record Begins (n : ℕ) (old new : Pair) : Type 0 where
  pub current : length new.current.now ≡ n
  pub later : length new.later.now ≡ n
  pub begun : new.current.base ≡ new.current.now
  pub begun_later : new.later.base ≡ new.later.now
  pub now : new.current.now ≡ old.current.now
  pub past : new.later.now ≡ old.later.now

pub begins : (n : ℕ) (old new : Pair) → new ≡ begun old → length old.current.now ≡ n → length old.later.now ≡ n → Begins n old new
begins n old new is long long_later =
    let now : new.current.now ≡ old.current.now = ap (λ (m : Pair). m.current.now) is in
    let past : new.later.now ≡ old.later.now = ap (λ (m : Pair). m.later.now) is in
    record {
      current = ap length now ∙ long;
      later = ap length past ∙ long_later;
      begun = ap (λ (m : Pair). m.current.base) is ∙ sym now;
      begun_later = ap (λ (m : Pair). m.later.base) is ∙ sym past;
      now = now;
      past = past;
    }

-- where a branch has ended, the maps are what they were
pub ended : (r : Result (Unit {0}) NoMemory) (nodes : List WordNode) (old new : Pair) (base base_later : List ℕ) (made : Maps) → maps nodes old.current.now old.later.now ≡ made
    → OnOk r (new ≡ record { current = record { now = old.current.now; base = base }; later = record { now = old.later.now; base = base_later } })
    → OnOk r (maps nodes new.current.now new.later.now ≡ made)
ended (Ok v) nodes old new base base_later made same is = ap (λ (p : Pair). maps nodes p.current.now p.later.now) is ∙ same
ended (Err e) nodes old new base base_later made same is = is
