-- The fields after an entry was appended.
use Rattle.std.proofs.Common.{◌≡◌, ℕ, ◌+◌, ◌-◌, ◌<◌, ◌≤◌, true, not, List, [], ◌∷◌, ◌++◌, map, length, set, Some, None, sym, ap, ◌∙◌, subst, arith}
use Rattle.std.specs.Prelude.{is_some}
use Rattle.std.specs.List.{count_by}
use Rattle.std.specs.Vec.{vec_capacity}
use Rattle.std.proofs.lemmas.List.{length-set, length-map, map-set}
use Rattle.std.proofs.lemmas.List.Sums.{count_by-le-length}
use Rattle.loc_base.proofs.ShelfOptions.{option_map-none}
use Rattle.clause_base.specs.declared.literal.Lit.{Lit}
use Rattle.trail_core.specs.declared.entry.Entry.{Entry}
use Rattle.trail_core.specs.declared.plain.PlainTrail.TheInside.{Inside}
use Rattle.trail_core.specs.Values.{IsVariable, IsUnassignedIn}
use Rattle.trail_core.specs.TrailState.{TrailState, IsTrail, IsReason, AllRest, entry_of, values_of, is_decision}
use Rattle.trail_core.specs.Layout.{state_of, value_in, IsIndex, AreStarts, IsLaidOut}
use Rattle.trail_core.proofs.Changes.{MayAppend, MayAppend-decision, MayAppend-forced, with_entry, IsTrail-with_entry}
use Rattle.trail_core.proofs.LayoutLemmas.{IsFree, room_for, IsIndex-push, counted_push, AreStarts-decide}

-- b has the fields of a with the entry appended
pub record Appends (a b : Inside) (e : Entry) : Type 0 where
  pub clauses : b.clauses ≡ a.clauses
  pub table : b.assigned.items ≡ set a.assigned.items (e.lit.var - 1) (Some e)
  pub values : b.values.items ≡ set a.values.items (e.lit.var - 1) (Some (not e.lit.negated))
  pub entries : b.entries.items ≡ a.entries.items ++ e ∷ []
  pub entry_room : vec_capacity a.entries ≤ vec_capacity b.entries
  pub start_room : vec_capacity a.starts ≤ vec_capacity b.starts
  pub level : length b.starts.items ≡ e.decision_level

-- an unassigned variable is free
pub free_at : (a : Inside) (l : Lit) → IsVariable (state_of a).vars l.var → IsUnassignedIn (values_of a.entries.items) l → IsFree a.assigned.items a.entries.items l.var
free_at a l v u = record { above = v.above; within = v.within; none = option_map-none (λ (e : Entry). not e.lit.negated) (entry_of a.entries.items l.var) u }

-- there is room for the entry of an unassigned variable
pub room_at : (a : Inside) (l : Lit) → IsLaidOut a → IsVariable (state_of a).vars l.var → IsUnassignedIn (values_of a.entries.items) l → length a.entries.items < length a.assigned.items
room_at a l h v u = room_for a.assigned.items a.entries.items l.var h.index h.counted (free_at a l v u)

same_state : (a b : Inside) (e : Entry) → Appends a b e → with_entry (state_of a) e ≡ state_of b
same_state a b e p =
    let vars : length b.assigned.items ≡ length a.assigned.items = ap length p.table ∙ length-set a.assigned.items (e.lit.var - 1) (Some e) in
    ap (λ v. record { vars = v; clauses = a.clauses; entries = a.entries.items ++ e ∷ []; level = e.decision_level }) (sym vars)
    ∙ (ap (λ cs. record { vars = length b.assigned.items; clauses = cs; entries = a.entries.items ++ e ∷ []; level = e.decision_level }) (sym p.clauses)
    ∙ (ap (λ es. record { vars = length b.assigned.items; clauses = b.clauses; entries = es; level = e.decision_level }) (sym p.entries)
    ∙ ap (λ k. record { vars = length b.assigned.items; clauses = b.clauses; entries = b.entries.items; level = k }) (sym p.level)))

-- the trail after an entry
pub trail_after : (a b : Inside) (e : Entry) → IsLaidOut a → Appends a b e → MayAppend (state_of a) e → IsTrail (state_of b)
trail_after a b e h p m = subst IsTrail (same_state a b e p) (IsTrail-with_entry (state_of a) e h.trail m)

-- the fields after an entry
pub laid_out_after : (a b : Inside) (e : Entry) → IsLaidOut a → Appends a b e → MayAppend (state_of a) e → AreStarts b.starts.items (a.entries.items ++ e ∷ []) → IsLaidOut b
laid_out_after a b e h p m s =
    let size : length b.assigned.items ≡ length a.assigned.items = ap length p.table ∙ length-set a.assigned.items (e.lit.var - 1) (Some e) in
    let free = free_at a e.lit m.justified.variable m.justified.unassigned in
    let values : b.values.items ≡ map value_in b.assigned.items = p.values ∙ (ap (λ vs. set vs (e.lit.var - 1) (Some (not e.lit.negated))) h.values ∙ (sym (map-set value_in a.assigned.items (e.lit.var - 1) (Some e)) ∙ ap (map value_in) (sym p.table))) in
    record {
      trail = trail_after a b e h p m;
      index = subst (λ es. IsIndex b.assigned.items es) (sym p.entries)
          (subst (λ t. IsIndex t (a.entries.items ++ e ∷ [])) (sym p.table) (IsIndex-push a.assigned.items a.entries.items e h.index free));
      values = values;
      value_size = ap length values ∙ length-map b.assigned.items value_in;
      counted = ap (count_by is_some) p.table ∙ (counted_push a.assigned.items a.entries.items e h.index h.counted free ∙ sym (ap length p.entries));
      starts = subst (λ es. AreStarts b.starts.items es) (sym p.entries) s;
      small = omega (arith, h.small, size);
      few_clauses = omega (arith, h.few_clauses, ap length p.clauses);
      entry_room = omega (arith, h.entry_room, size, p.entry_room);
      start_room = omega (arith, h.start_room, size, p.start_room);
    }

-- a literal may be forced, as callers see the trail
pub forced_at : (a : Inside) (seen : TrailState) (l : Lit) (level n : ℕ) → state_of a ≡ seen → IsLaidOut a → level ≡ length a.starts.items → IsVariable seen.vars l.var → IsReason seen.clauses (values_of seen.entries) n l → MayAppend (state_of a) record { lit = l; decision_level = level; reason = Some n }
forced_at a seen l level n e h q v r =
    let v' = subst (λ (s : TrailState). IsVariable s.vars l.var) (sym e) v in
    let r' = subst (λ (s : TrailState). IsReason s.clauses (values_of s.entries) n l) (sym e) r in
    subst (λ k. MayAppend (state_of a) record { lit = l; decision_level = k; reason = Some n }) (sym q)
    (MayAppend-forced (state_of a) l n h.trail v' r' (room_at a l h v' r'.unit.unassigned))

-- a literal may be decided, as callers see the trail
pub decided_at : (a : Inside) (seen : TrailState) (l : Lit) (level : ℕ) → state_of a ≡ seen → IsLaidOut a → level ≡ length a.starts.items + 1 → IsVariable seen.vars l.var → IsUnassignedIn (values_of seen.entries) l → AllRest seen.clauses (values_of seen.entries) → MayAppend (state_of a) record { lit = l; decision_level = level; reason = None }
decided_at a seen l level e h q v u r =
    let v' = subst (λ (s : TrailState). IsVariable s.vars l.var) (sym e) v in
    let u' = subst (λ (s : TrailState). IsUnassignedIn (values_of s.entries) l) (sym e) u in
    let r' = subst (λ (s : TrailState). AllRest s.clauses (values_of s.entries)) (sym e) r in
    subst (λ k. MayAppend (state_of a) record { lit = l; decision_level = k; reason = None }) (sym q)
    (MayAppend-decision (state_of a) l h.trail v' u' r' (room_at a l h v' u'))

-- there is room, as callers see the trail
pub room_seen : (a : Inside) (seen : TrailState) (l : Lit) → state_of a ≡ seen → IsLaidOut a → IsVariable seen.vars l.var → IsUnassignedIn (values_of seen.entries) l → length a.entries.items < length a.assigned.items
room_seen a seen l e h v u =
    room_at a l h (subst (λ (s : TrailState). IsVariable s.vars l.var) (sym e) v) (subst (λ (s : TrailState). IsUnassignedIn (values_of s.entries) l) (sym e) u)

-- a level is at most the number of entries
pub level_le_length : (a : Inside) → IsLaidOut a → length a.starts.items ≤ length a.entries.items
level_le_length a h = omega (arith, h.trail.level, count_by-le-length is_decision a.entries.items)

-- the starts after a decision
pub starts_after : (a : Inside) (e : Entry) (starts : List ℕ) (start : ℕ) → IsLaidOut a → is_decision e ≡ true → start ≡ length a.entries.items → starts ≡ a.starts.items ++ start ∷ [] → AreStarts starts (a.entries.items ++ e ∷ [])
starts_after a e starts start h d q p =
    subst (λ s. AreStarts s (a.entries.items ++ e ∷ [])) (sym p)
    (subst (λ k. AreStarts (a.starts.items ++ k ∷ []) (a.entries.items ++ e ∷ [])) (sym q)
    (AreStarts-decide a.starts.items a.entries.items e h.starts d (sym h.trail.level)))
