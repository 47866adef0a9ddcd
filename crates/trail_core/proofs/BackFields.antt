-- The fields after going back to a level.
use Rattle.std.proofs.Common.{◌≡◌, ℕ, ◌<◌, map, length, get_or, take, sym, ap, ◌∙◌, subst, arith}
use Rattle.std.specs.Prelude.{is_some}
use Rattle.std.specs.List.{count_by}
use Rattle.std.specs.Vec.{vec_capacity}
use Rattle.std.proofs.lemmas.List.{length-take-le}
use Rattle.trail_core.specs.declared.plain.PlainTrail.TheInside.{Inside}
use Rattle.trail_core.specs.TrailState.{IsTrail, back_at, up_to}
use Rattle.trail_core.specs.Layout.{state_of, value_in, IsIndex, AreStarts, IsLaidOut}
use Rattle.trail_core.proofs.Back.{IsStart, up_to_start, IsTrail-back_at, AreStarts-take}

-- b has the fields of a, gone back to level k, whose entries end at the place m
pub record GoesBack (a b : Inside) (k m : ℕ) : Type 0 where
  pub below : k < length a.starts.items
  pub start : m ≡ get_or a.starts.items k 0
  pub clauses : b.clauses ≡ a.clauses
  pub entries : b.entries.items ≡ take m a.entries.items
  pub starts : b.starts.items ≡ take k a.starts.items
  pub size : length b.assigned.items ≡ length a.assigned.items
  pub index : IsIndex b.assigned.items b.entries.items
  pub counted : count_by is_some b.assigned.items ≡ length b.entries.items
  pub values : b.values.items ≡ map value_in b.assigned.items
  pub value_size : length b.values.items ≡ length b.assigned.items
  pub entry_room : vec_capacity b.entries ≡ vec_capacity a.entries
  pub start_room : vec_capacity b.starts ≡ vec_capacity a.starts

start_is : (a b : Inside) (k m : ℕ) → IsLaidOut a → GoesBack a b k m → IsStart a.entries.items k m
start_is a b k m h g =
    subst (IsStart a.entries.items k) (sym g.start) record { within = h.starts.within k g.below; decision = λ d. h.starts.decision k d g.below; count = h.starts.count k g.below }

-- what callers see
pub state_back : (a b : Inside) (k m : ℕ) → IsLaidOut a → GoesBack a b k m → state_of b ≡ back_at (state_of a) k
state_back a b k m h g =
    let entries = g.entries ∙ sym (up_to_start a.entries.items k m h.trail.leveled (start_is a b k m h g)) in
    let level : length b.starts.items ≡ k = ap length g.starts ∙ length-take-le k a.starts.items (omega (arith, g.below)) in
    ap (λ v. record { vars = v; clauses = b.clauses; entries = b.entries.items; level = length b.starts.items }) g.size
    ∙ (ap (λ cs. record { vars = length a.assigned.items; clauses = cs; entries = b.entries.items; level = length b.starts.items }) g.clauses
    ∙ (ap (λ es. record { vars = length a.assigned.items; clauses = a.clauses; entries = es; level = length b.starts.items }) entries
    ∙ ap (λ j. record { vars = length a.assigned.items; clauses = a.clauses; entries = up_to k a.entries.items; level = j }) level))

pub trail_back : (a b : Inside) (k m : ℕ) → IsLaidOut a → GoesBack a b k m → IsTrail (state_of b)
trail_back a b k m h g = subst IsTrail (sym (state_back a b k m h g)) (IsTrail-back_at (state_of a) k m h.trail (omega (arith, g.below)) (start_is a b k m h g))

pub laid_out_back : (a b : Inside) (k m : ℕ) → IsLaidOut a → GoesBack a b k m → IsLaidOut b
laid_out_back a b k m h g = record {
  trail = trail_back a b k m h g;
  index = g.index;
  values = g.values;
  value_size = g.value_size;
  counted = g.counted;
  starts = subst (λ s. AreStarts s b.entries.items) (sym g.starts)
      (subst (λ es. AreStarts (take k a.starts.items) es) (sym (g.entries ∙ ap (λ j. take j a.entries.items) g.start)) (AreStarts-take a.starts.items a.entries.items k h.starts g.below));
  small = omega (arith, h.small, g.size);
  few_clauses = omega (arith, h.few_clauses, ap length g.clauses);
  entry_room = omega (arith, h.entry_room, g.size, g.entry_room);
  start_room = omega (arith, h.start_room, g.size, g.start_room);
}
