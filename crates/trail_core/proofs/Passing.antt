-- A pass over the list of a literal that became false.
use Rattle.std.proofs.Common.{◌≡◌, ◌≢◌, ℕ, ◌+◌, ◌-◌, ◌*◌, ◌<◌, ◌≤◌, Bool, true, false, not, cond, leb, List, [], ◌++◌, length, get_or, set, take, drop, Option, Some, None, refl, sym, ap, ◌∙◌, subst, arith, ◌⊎◌, inl, inr}
use Rattle.std.specs.Prelude.{IfSome}
use Rattle.std.specs.Option.{option_map}
use Rattle.std.specs.Vec.{vec_capacity}
use Rattle.std.proofs.lemmas.Bool.{cases_lt, cases_eq, cases_Bool, lt-leb}
use Rattle.std.proofs.lemmas.List.{get_or-take, get_or-drop, take_more, take-append-drop, length-drop, length-take-le, append-nil}
use Rattle.std.proofs.lemmas.List.Elements.{filter-append}
use Rattle.clause_base.specs.declared.literal.Lit.{Lit}
use Rattle.clause_base.specs.Acceptance.{numbered}
use Rattle.clause_base.specs.Literal.{same_lit}
use Rattle.clause_base.proofs.Sets.{lit_ext, same_lit-true, same_lit_itself}
use Rattle.trail_core.specs.declared.entry.Entry.{Entry}
use Rattle.trail_core.specs.declared.watches.Pair.{Pair}
use Rattle.trail_core.specs.declared.watches.Watches.{Watches}
use Rattle.trail_core.specs.declared.watch.Sweep.{Sweep}
use Rattle.trail_core.specs.declared.visit.Seen.{Seen}
use Rattle.trail_core.specs.Listing.{Listing}
use Rattle.trail_core.specs.Values.{IsFalseIn, IsVariable}
use Rattle.trail_core.specs.TrailState.{TrailState, IsTrail, Propagates, values_of, up_to}
use Rattle.trail_core.specs.Look.{Falsifies}
use Rattle.trail_core.specs.Watching.{with_list, room_of, unwatched, AreNumbers, IsOpen, IsCovered, IsWatch, IsPaired, Stands, IsListed, IsKept, list_of, code_of}
use Rattle.trail_core.specs.Visits.{IsGone, IsOther, IsVisited, IsKnown, IsWatchNow, IsGoing, VisitsAs, Holds, HasRoom, WatchesWell, IsFreeBelow, held_in, held_at, leaving}
use Rattle.trail_core.proofs.Truth.{values-take_some}
use Rattle.trail_core.proofs.LayoutLemmas.{entry_of_push_other}
use Rattle.trail_core.proofs.Keeping.{IsFront, part_front, values_front, level_front, covered_front, watch_front, settled_front, paired_map}
use Rattle.trail_core.proofs.Listing.{cases_lit, list_set_same, list_set_other, stands_in, kept_front, rest_after, rest_set, kept_left, with_list-length, with_list-room, with_list-numbers, numbers_take}
use Rattle.trail_core.proofs.Lists.{filter_none}
use Rattle.trail_core.proofs.Counting.{same_lit-false}
use Rattle.trail_core.proofs.Visiting.{some_same}

-- the same literals at the beginning of the entries
pub gone_front : (t new : TrailState) (g : ℕ) (gone : Lit) → Propagates t new → g < length t.entries → IsGone t g gone → IsGone new g gone
gone_front t new g gone p l h = record {
  variable = subst (λ v. IsVariable v gone.var) (sym p.vars) h.variable;
  is_false = values_front t.entries new.entries gone.var gone.negated p.prefix h.is_false;
  level = level_front t.entries new.entries gone.var gone.negated p.prefix h.is_false ∙ (h.level ∙ ap Some (sym p.level));
  later = ap (λ es. values_of es gone.var) (part_front t.entries new.entries g p.prefix (omega (arith, l))) ∙ h.later;
  here = λ d. ap (λ (x : Entry). x.lit.var) (kept_place t new p g d l) ∙ h.here d;
}
  where
    kept_place : (a b : TrailState) → Propagates a b → (i : ℕ) (d : Entry) → i < length a.entries → get_or b.entries i d ≡ get_or a.entries i d
    kept_place a b q i d m = sym (ap (λ es. get_or es i d) (sym q.prefix) ∙ get_or-take (length a.entries) b.entries i d m)

-- entries that are appended are of the present level
pub present_front : (t new : TrailState) (g : ℕ) → Propagates t new → ((at : ℕ) (d : Entry) → g ≤ at → at < length t.entries → (get_or t.entries at d).decision_level ≡ t.level) → (at : ℕ) (d : Entry) → g ≤ at → at < length new.entries → (get_or new.entries at d).decision_level ≡ new.level
present_front t new g p h at d low high = elim (cases_lt at (length t.entries)) [
  | inl m ↦ ap (λ (x : Entry). x.decision_level) (sym (ap (λ es. get_or es at d) (sym p.prefix) ∙ get_or-take (length t.entries) new.entries at d m)) ∙ (h at d low m ∙ sym p.level)
  | inr m ↦ p.leveled at d m high ∙ sym p.level
]

-- a literal of a variable has a list
pub code_within : (t : TrailState) (w : Watches) (f : ℕ) (held : Lit → ℕ) (l : Lit) → HasRoom t w f held → IsVariable t.vars l.var → code_of l < length w.lists.items
code_within t w f held l h v = omega (arith, h.lists, v.within, cond_le l.negated)
  where
    cond_le : (b : Bool) → cond b 1 0 ≤ 1
    cond_le true = omega arith
    cond_le false = omega arith

-- at the beginning of a pass all places are in use as they were
held_begin : (lists : List Listing) (gone l : Lit) → held_at lists record { gone = gone; kept = 0; conflict = None } 0 l ≤ length (list_of lists l)
held_begin lists gone l = elim (cases_Bool (same_lit l gone)) [
  | inl t ↦ let e : l ≡ gone = same_lit-true l gone t in rw t (subst (λ z. 0 + (length (list_of lists gone) - 0) ≤ length (list_of lists z)) (sym e) (omega arith))
  | inr f ↦ rw f (omega arith)
]

-- in a pass, the places in use of the list that is gone over, and of another one
pub held_gone : (lists : List Listing) (s : Sweep) (place : ℕ) → held_at lists s place s.gone ≡ s.kept + (length (list_of lists s.gone) - place)
held_gone lists s place = rw (same_lit_itself s.gone) refl

pub held_other : (lists : List Listing) (s : Sweep) (place : ℕ) (l : Lit) → l ≢ s.gone → held_at lists s place l ≡ length (list_of lists l)
held_other lists s place l d = rw (same_lit-false l s.gone d) refl

-- the entries up to a lower level stay
pub up_to_propagates : (t new : TrailState) (k : ℕ) → Propagates t new → k < t.level → up_to k new.entries ≡ up_to k t.entries
up_to_propagates t new k p l =
    let high : up_to k (drop (length t.entries) new.entries) ≡ [] =
    filter_none (λ (e : Entry). leb e.decision_level k) (drop (length t.entries) new.entries) (λ i d m.
    let q : length t.entries + i < length new.entries = omega (arith, m, length-drop (length t.entries) new.entries) in
    let level : (get_or new.entries (length t.entries + i) d).decision_level ≡ t.level = p.leveled (length t.entries + i) d (omega arith) q in
    rw (get_or-drop (length t.entries) new.entries i d) (lt-leb (get_or new.entries (length t.entries + i) d).decision_level k (omega (arith, level, l)))) in
    ap (up_to k) (sym (take-append-drop (length t.entries) new.entries) ∙ ap (λ es. es ++ drop (length t.entries) new.entries) p.prefix)
    ∙ (filter-append (λ (e : Entry). leb e.decision_level k) t.entries (drop (length t.entries) new.entries) ∙ (ap (λ es. up_to k t.entries ++ es) high ∙ append-nil (up_to k t.entries)))

-- a clause without a pair is as open as before
pub free_propagates : (t new : TrailState) (n : ℕ) → Propagates t new → IsFreeBelow t n → IsFreeBelow new n
free_propagates t new n p h k l =
    let low : k < t.level = omega (arith, l, p.level) in
    subst (λ cs. IsOpen (values_of (up_to k new.entries)) (numbered cs n)) (sym p.clauses) (subst (λ es. IsOpen (values_of es) (numbered t.clauses n)) (sym (up_to_propagates t new k p low)) (h k low))

-- the pass begins
pub going_begin : (t : TrailState) (w : Watches) (gone : Lit) → IsTrail t → WatchesWell t w 0 w.gone_over → IsGone t w.gone_over gone → w.gone_over < length t.entries → IsGoing t w record { gone = gone; kept = 0; conflict = None } 0
going_begin t w gone trail well is l = record {
  trail = trail;
  few = well.kept.few;
  entries = l;
  present = well.kept.present;
  gone = is;
  list = code_within t w 0 (held_in w.lists.items) gone well.room is.variable;
  kept = omega arith;
  conflict = tt;
  room = record {
    lists = well.room.lists;
    pairs = well.room.pairs;
    numbers = well.room.numbers;
    room = λ x v. omega (arith, well.room.room x v, held_begin w.lists.items gone x);
    unpaired = well.room.unpaired;
  };
  paired = λ i d m. paired_map t.entries t.entries (IsWatch t.entries w.gone_over w.lists.items (i + 1)) (IsWatchNow t.entries w.gone_over w.lists.items s 0 (i + 1)) (numbered t.clauses (i + 1)) (get_or w.pairs.items i d) (λ z. z)
      (λ x y u. record { at_gone = λ e. inr (subst (λ z. Stands (list_of w.lists.items z) 0 (length (list_of w.lists.items z)) (i + 1)) e u.listed); elsewhere = λ _. u }) (well.kept.paired i d m);
}
  where
    s : Sweep
    s = record { gone = gone; kept = 0; conflict = None }

-- what a visit needs
pub going_known : (t : TrailState) (w : Watches) (s : Sweep) (place n : ℕ) → IsGoing t w s place → place < length (list_of w.lists.items s.gone) → get_or (list_of w.lists.items s.gone) place 0 ≡ n → IsKnown t w n s.gone
going_known t w s place n h l e = record {
  above = b.0;
  within = b.1;
  number = record { above = b.0; within = omega (arith, b.1, h.few) };
  entries = omega (arith, h.entries);
  is_gone = h.gone;
  trail = h.trail;
  lists = h.room.lists;
  room = λ x d v. omega (arith, h.room.room x v, held_other w.lists.items s place x d);
  paired = λ d.
      let q : n - 1 + 1 ≡ n = omega (arith, b.0) in
      subst (λ m. IsPaired t.entries (IsOther t.entries w.gone_over w.lists.items s.gone m) (numbered t.clauses m) (get_or w.pairs.items (n - 1) d)) q
      (paired_map t.entries t.entries (IsWatchNow t.entries w.gone_over w.lists.items s place (n - 1 + 1)) (IsOther t.entries w.gone_over w.lists.items s.gone (n - 1 + 1)) (numbered t.clauses (n - 1 + 1)) (get_or w.pairs.items (n - 1) d) (λ z. z) (λ x y u. u.elsewhere)
      (h.paired (n - 1) d (omega (arith, b.0, b.1))));
}
  where
    b : (1 ≤ n) × (n ≤ length w.pairs.items)
    b = subst (λ m. (1 ≤ m) × (m ≤ length w.pairs.items)) e (h.room.numbers s.gone place l)

-- how the list of the literal that is gone changes at a place, where the number stands
pub record Turns (xs ys : List ℕ) (kept after place n : ℕ) : Type 0 where
  pub front : (m : ℕ) → Stands xs 0 kept m → Stands ys 0 after m
  pub rest : (m : ℕ) → m ≢ n → Stands xs place (length xs) m → Stands ys (place + 1) (length ys) m
  pub le : after ≤ place + 1

pub turns_keep : (xs : List ℕ) (kept place n : ℕ) → kept ≤ place → get_or xs place 0 ≡ n → Turns xs (set xs kept n) kept (kept + 1) place n
turns_keep xs kept place n k e = record {
  front = λ m s. kept_front xs kept n m s;
  rest = λ m d s. rest_set xs kept place n m k (rest_after xs place m (λ q. d (sym q ∙ e)) s);
  le = omega (arith, k);
}

pub turns_leave : (xs : List ℕ) (kept place n : ℕ) → kept ≤ place → get_or xs place 0 ≡ n → Turns xs xs kept kept place n
turns_leave xs kept place n k e = record {
  front = λ m s. s;
  rest = λ m d s. rest_after xs place m (λ q. d (sym q ∙ e)) s;
  le = omega (arith, k);
}

-- a visit, and what becomes of the list: `b` is after the visit, `w` after the list was changed
pub record Follows (t new : TrailState) (a b w : Watches) (s r : Sweep) (place n : ℕ) (k : Seen) : Type 0 where
  pub visits : VisitsAs t new a b s.gone n k
  pub same_gone_over : b.gone_over ≡ a.gone_over
  pub pairs : w.pairs.items ≡ b.pairs.items
  pub gone_over : w.gone_over ≡ b.gone_over
  pub gone : r.gone ≡ s.gone
  pub lists : length w.lists.items ≡ length b.lists.items
  pub others : (l : Lit) → l ≢ s.gone → list_of w.lists.items l ≡ list_of b.lists.items l
  pub turns : Turns (list_of b.lists.items s.gone) (list_of w.lists.items s.gone) s.kept r.kept place n
  pub within : place < length (list_of a.lists.items s.gone)
  pub rooms : (l : Lit) → room_of w.lists.items l ≡ room_of b.lists.items l
  pub numbers : (l : Lit) → AreNumbers (list_of b.lists.items l) (length b.pairs.items) → AreNumbers (list_of w.lists.items l) (length b.pairs.items)
  pub same_length : length (list_of w.lists.items s.gone) ≡ length (list_of b.lists.items s.gone)
  pub counted : r.kept + leaving k ≤ s.kept + 1
  pub capacity : vec_capacity w.pairs ≡ vec_capacity a.pairs
  pub conflict : IfSome r.conflict (λ m. Falsifies new m)
  pub before : r.conflict ≡ None → s.conflict ≡ None
  pub own : (x y : Lit) → x ≡ s.gone → Holds k (IsCovered new.entries x y) → Stands (list_of w.lists.items s.gone) 0 r.kept n × (r.conflict ≡ None → IsCovered new.entries x y)

-- the pass goes on
pub going_next : (t new : TrailState) (a b w : Watches) (s r : Sweep) (place n : ℕ) (k : Seen) → IsGoing t a s place → Follows t new a b w s r place n k → IsGoing new w r (place + 1)
going_next t new a b w s r place n k h f = record {
  trail = f.visits.trail;
  few = omega (arith, h.few, ap length f.pairs, f.visits.size, ap length f.visits.appends.clauses);
  entries = omega (arith, f.gone_over, f.same_gone_over, h.entries, f.visits.appends.longer);
  present = λ at d low. present_front t new a.gone_over f.visits.appends h.present at d (omega (arith, low, f.gone_over, f.same_gone_over));
  gone = subst (λ g. IsGone new g r.gone) (sym over) (subst (IsGone new a.gone_over) (sym f.gone) (gone_front t new a.gone_over s.gone f.visits.appends h.entries h.gone));
  list = subst (λ l. code_of l < length w.lists.items) (sym f.gone) (omega (arith, h.list, f.lists, f.visits.lists));
  kept = f.turns.le;
  conflict = f.conflict;
  room = record {
    lists = f.lists ∙ (f.visits.lists ∙ (h.room.lists ∙ ap (λ v. 2 * v + 2) (sym f.visits.appends.vars)));
    pairs = omega (arith, ap length f.visits.appends.clauses, h.room.pairs, f.capacity);
    numbers = λ l. subst (AreNumbers (list_of w.lists.items l)) (sym (ap length f.pairs)) (f.numbers l (subst (AreNumbers (list_of b.lists.items l)) (sym f.visits.size) (f.visits.numbers l (h.room.numbers l))));
    room = room;
    unpaired = λ n' k' low high. free_propagates t new n' f.visits.appends (λ j u. h.room.unpaired n' j (omega (arith, low, ap length f.pairs, f.visits.size)) (omega (arith, high, ap length f.visits.appends.clauses)) u) k';
  };
  paired = λ i d m. elim (cases_eq (i + 1) n) [
    | inl e ↦ own_paired i d e m
    | inr e ↦ other_paired i d e m
  ];
}
  where
    over : w.gone_over ≡ a.gone_over
    over = f.gone_over ∙ f.same_gone_over

    front : IsFront t.entries new.entries
    front = f.visits.appends.prefix

    now : Lit → Lit → ℕ → Type 0
    now x y m = IsWatchNow new.entries w.gone_over w.lists.items r (place + 1) m x y

    counts : (l : Lit) → unwatched 0 new.clauses w.pairs.items l ≡ unwatched 0 t.clauses b.pairs.items l
    counts l = ap (λ cs. unwatched 0 cs w.pairs.items l) f.visits.appends.clauses ∙ ap (λ ps. unwatched 0 t.clauses ps l) f.pairs

    rooms : (l : Lit) → room_of w.lists.items l ≡ room_of a.lists.items l
    rooms l = f.rooms l ∙ f.visits.rooms l

    at_gone : IsVariable t.vars s.gone.var → r.kept + (length (list_of w.lists.items s.gone) - (place + 1)) + unwatched 0 new.clauses w.pairs.items s.gone ≤ room_of w.lists.items s.gone
    at_gone v = omega (arith, h.room.room s.gone v, held_gone a.lists.items s place, counts s.gone, rooms s.gone, f.counted, f.same_length, ap length f.visits.same, f.within, f.visits.left)

    room : (l : Lit) → IsVariable new.vars l.var → held_at w.lists.items r (place + 1) l + unwatched 0 new.clauses w.pairs.items l ≤ room_of w.lists.items l
    room l v =
        let u : IsVariable t.vars l.var = subst (λ m. IsVariable m l.var) f.visits.appends.vars v in
        elim (cases_lit l s.gone) [
          | inl e ↦
              let g : held_at w.lists.items r (place + 1) r.gone ≡ r.kept + (length (list_of w.lists.items r.gone) - (place + 1)) = held_gone w.lists.items r (place + 1) in
              let q : held_at w.lists.items r (place + 1) s.gone ≡ r.kept + (length (list_of w.lists.items s.gone) - (place + 1)) = subst (λ z. held_at w.lists.items r (place + 1) z ≡ r.kept + (length (list_of w.lists.items z) - (place + 1))) f.gone g in
              subst (λ z. held_at w.lists.items r (place + 1) z + unwatched 0 new.clauses w.pairs.items z ≤ room_of w.lists.items z) (sym e) (omega (arith, q, at_gone (subst (λ z. IsVariable t.vars z.var) e u)))
          | inr d ↦ omega (arith, held_other w.lists.items r (place + 1) l (λ e. d (e ∙ f.gone)), ap length (f.others l d), f.visits.spare l d, counts l, rooms l, h.room.room l u, held_other a.lists.items s place l d)
        ]

    -- what holds of a literal but the one that is gone
    other_watch : (m : ℕ) (x y : Lit) → IsOther new.entries a.gone_over b.lists.items s.gone m x y → IsOther new.entries w.gone_over w.lists.items r.gone m x y
    other_watch m x y u d =
        let e : x ≢ s.gone = λ q. d (q ∙ sym f.gone) in
        record {
          listed = stands_in (list_of b.lists.items x) (list_of w.lists.items x) 0 m (sym (f.others x e)) (u e).listed;
          covered = subst (λ g. IsFalseIn (values_of (take g new.entries)) x → IsCovered new.entries x y) (sym over) (u e).covered;
        }

    own_paired : (i : ℕ) (d : Pair) → i + 1 ≡ n → i < length w.pairs.items → IsPaired new.entries (λ x y. now x y (i + 1)) (numbered new.clauses (i + 1)) (get_or w.pairs.items i d)
    own_paired i d e m =
        subst (λ j. IsPaired new.entries (λ x y. now x y j) (numbered new.clauses j) (get_or w.pairs.items i d)) (sym e)
        (subst (IsPaired new.entries (λ x y. now x y n) (numbered new.clauses n)) (sym (ap (λ ps. get_or ps i d) f.pairs))
        (paired_map new.entries new.entries (IsVisited new.entries a.gone_over b.lists.items s.gone k n) (λ x y. now x y n) (numbered new.clauses n) (get_or b.pairs.items i d) (λ z. z)
        (λ x y u. record {
          at_gone = λ q.
              let p = f.own x y (q ∙ f.gone) (u.at_gone (q ∙ f.gone)) in
              inl (subst (λ g. Stands (list_of w.lists.items g) 0 r.kept n) (sym f.gone) p.0, p.1);
          elsewhere = other_watch n x y u.elsewhere;
        })
        (f.visits.paired i d e (omega (arith, m, ap length f.pairs)))))

    other_paired : (i : ℕ) (d : Pair) → i + 1 ≢ n → i < length w.pairs.items → IsPaired new.entries (λ x y. now x y (i + 1)) (numbered new.clauses (i + 1)) (get_or w.pairs.items i d)
    other_paired i d e m =
        subst (IsPaired new.entries (λ x y. now x y (i + 1)) (numbered new.clauses (i + 1))) (sym (ap (λ ps. get_or ps i d) f.pairs ∙ f.visits.others i d e))
        (subst (λ cs. IsPaired new.entries (λ x y. now x y (i + 1)) (numbered cs (i + 1)) (get_or a.pairs.items i d)) (sym f.visits.appends.clauses)
        (paired_map t.entries new.entries (IsWatchNow t.entries a.gone_over a.lists.items s place (i + 1)) (λ x y. now x y (i + 1)) (numbered t.clauses (i + 1)) (get_or a.pairs.items i d)
        (settled_front t.entries new.entries (numbered t.clauses (i + 1)) front)
        (λ x y u. record {
          at_gone = λ q. turned i x y e (q ∙ f.gone) (u.at_gone (q ∙ f.gone));
          elsewhere = other_watch (i + 1) x y (λ z. record {
            listed = f.visits.listed x (i + 1) z (u.elsewhere z).listed;
            covered = (watch_front t.entries new.entries a.gone_over a.lists.items (i + 1) x y front (omega (arith, h.entries)) (u.elsewhere z)).covered;
          });
        })
        (h.paired i d (omega (arith, m, ap length f.pairs, f.visits.size)))))
      where
        list : list_of b.lists.items s.gone ≡ list_of a.lists.items s.gone
        list = f.visits.same

        turned : (i : ℕ) (x y : Lit) → i + 1 ≢ n → x ≡ s.gone → (Stands (list_of a.lists.items s.gone) 0 s.kept (i + 1) × (s.conflict ≡ None → IsCovered t.entries x y)) ⊎ Stands (list_of a.lists.items s.gone) place (length (list_of a.lists.items s.gone)) (i + 1)
            → (Stands (list_of w.lists.items r.gone) 0 r.kept (i + 1) × (r.conflict ≡ None → IsCovered new.entries x y)) ⊎ Stands (list_of w.lists.items r.gone) (place + 1) (length (list_of w.lists.items r.gone)) (i + 1)
        turned i x y e q (inl p) = inl (
          subst (λ g. Stands (list_of w.lists.items g) 0 r.kept (i + 1)) (sym f.gone) (f.turns.front (i + 1) (subst (λ xs. Stands xs 0 s.kept (i + 1)) (sym list) p.0)),
          λ z. covered_front t.entries new.entries x y s.gone.negated front (ap (λ (l : Lit). values_of t.entries l.var) q ∙ h.gone.is_false) (p.1 (f.before z)),
        )
        turned i x y e q (inr p) = inr (subst (λ g. Stands (list_of w.lists.items g) (place + 1) (length (list_of w.lists.items g)) (i + 1)) (sym f.gone)
            (f.turns.rest (i + 1) e (subst (λ xs. Stands xs place (length xs) (i + 1)) (sym list) p)))

-- a literal that was false before the entry that made another one false
false_before : (es : List Entry) (g : ℕ) (d : Entry) (gone x : Lit) → g < length es → IsFalseIn (values_of es) gone → (get_or es g d).lit.var ≡ gone.var → x ≢ gone → IsFalseIn (values_of (take (g + 1) es)) x → IsFalseIn (values_of (take g es)) x
false_before es g d gone x l f v n h = elim (cases_eq x.var gone.var) [
  | inl e ↦ absurd (n (lit_ext x gone e (some_same x.negated gone.negated (values_of es gone.var) (sym (ap (values_of es) e) ∙ values-take_some es (g + 1) x.var x.negated h) f)))
  | inr e ↦
      let other : (get_or es g d).lit.var ≡ x.var → ⊥ = λ q. e (sym q ∙ v) in
      sym (ap (option_map (λ (y : Entry). not y.lit.negated)) (entry_of_push_other (take g es) (get_or es g d) x.var other)) ∙ (sym (ap (λ xs. values_of xs x.var) (take_more es g d l)) ∙ h)
]

-- the pass ends
pub record Ends (t : TrailState) (a w : Watches) (s : Sweep) (place : ℕ) : Type 0 where
  pub over : length (list_of a.lists.items s.gone) ≤ place
  pub pairs : w.pairs.items ≡ a.pairs.items
  pub capacity : vec_capacity w.pairs ≡ vec_capacity a.pairs
  pub gone_over : w.gone_over ≡ a.gone_over
  pub lists : w.lists.items ≡ with_list a.lists.items s.gone (take s.kept (list_of a.lists.items s.gone))
  pub short : s.kept ≤ length (list_of a.lists.items s.gone)

pub ends_from : (t : TrailState) (a w : Watches) (s : Sweep) (place end : ℕ) (gone : Lit) → IsGoing t a s place → s.gone ≡ gone → end ≡ length (list_of a.lists.items gone) → end ≤ place → place ≤ end → w.pairs ≡ a.pairs → w.gone_over ≡ a.gone_over → w.lists.items ≡ with_list a.lists.items s.gone (take s.kept (list_of a.lists.items s.gone)) → Ends t a w s place
ends_from t a w s place end gone h q e low high p g l =
    let size : end ≡ length (list_of a.lists.items s.gone) = subst (λ x. end ≡ length (list_of a.lists.items x)) (sym q) e in
    record { over = omega (arith, size, low); pairs = ap (λ v. v.items) p; capacity = ap vec_capacity p; gone_over = g; lists = l; short = omega (arith, size, high, h.kept) }

ended_listed : (t : TrailState) (a w : Watches) (s : Sweep) (place n : ℕ) (x y : Lit) → IsGoing t a s place → Ends t a w s place → IsWatchNow t.entries a.gone_over a.lists.items s place n x y → IsListed w.lists.items x n
ended_listed t a w s place n x y h e u = subst (λ ls. IsListed ls x n) (sym e.lists) (elim (cases_lit x s.gone) [
  | inl q ↦ subst (λ z. IsListed (with_list a.lists.items s.gone left) z n) (sym q) (elim (u.at_gone q) [
    | inl p ↦ stands_in left (list_of (with_list a.lists.items s.gone left) s.gone) 0 n (sym (list_set_same a.lists.items s.gone left h.list)) (kept_left (list_of a.lists.items s.gone) s.kept n e.short p.0)
    | inr p ↦ absurd (omega (arith, p.low, p.within, e.over))
  ])
  | inr d ↦ stands_in (list_of a.lists.items x) (list_of (with_list a.lists.items s.gone left) x) 0 n (sym (list_set_other a.lists.items s.gone x left d)) (u.elsewhere d).listed
])
  where
    left : List ℕ
    left = take s.kept (list_of a.lists.items s.gone)

-- the room that is left
ends_room : (t : TrailState) (a w : Watches) (s : Sweep) (place : ℕ) → IsGoing t a s place → Ends t a w s place → HasRoom t w 0 (held_in w.lists.items)
ends_room t a w s place h e = record {
  lists = ap length e.lists ∙ (with_list-length a.lists.items s.gone left ∙ h.room.lists);
  pairs = omega (arith, e.capacity, h.room.pairs);
  numbers = λ l. subst (AreNumbers (list_of w.lists.items l)) (sym (ap length e.pairs)) (subst (λ ls. AreNumbers (list_of ls l) (length a.pairs.items)) (sym e.lists)
      (with_list-numbers a.lists.items s.gone l left (length a.pairs.items) h.list (numbers_take (list_of a.lists.items s.gone) s.kept (length a.pairs.items) e.short (h.room.numbers s.gone)) (h.room.numbers l)));
  room = room;
  unpaired = λ n k low. h.room.unpaired n k (omega (arith, low, ap length e.pairs));
}
  where
    left : List ℕ
    left = take s.kept (list_of a.lists.items s.gone)

    counts : (l : Lit) → unwatched 0 t.clauses w.pairs.items l ≡ unwatched 0 t.clauses a.pairs.items l
    counts l = ap (λ ps. unwatched 0 t.clauses ps l) e.pairs

    rooms : (l : Lit) → room_of w.lists.items l ≡ room_of a.lists.items l
    rooms l = ap (λ ls. room_of ls l) e.lists ∙ with_list-room a.lists.items s.gone l left h.list

    at_gone : IsVariable t.vars s.gone.var → length (list_of w.lists.items s.gone) + unwatched 0 t.clauses w.pairs.items s.gone ≤ room_of w.lists.items s.gone
    at_gone v =
        let list : list_of w.lists.items s.gone ≡ left = ap (λ ls. list_of ls s.gone) e.lists ∙ list_set_same a.lists.items s.gone left h.list in
        omega (arith, h.room.room s.gone v, held_gone a.lists.items s place, counts s.gone, rooms s.gone, ap length list, length-take-le s.kept (list_of a.lists.items s.gone) e.short)

    room : (l : Lit) → IsVariable t.vars l.var → length (list_of w.lists.items l) + unwatched 0 t.clauses w.pairs.items l ≤ room_of w.lists.items l
    room l v = elim (cases_lit l s.gone) [
      | inl q ↦ subst (λ z. length (list_of w.lists.items z) + unwatched 0 t.clauses w.pairs.items z ≤ room_of w.lists.items z) (sym q) (at_gone (subst (λ z. IsVariable t.vars z.var) q v))
      | inr d ↦ omega (arith, h.room.room l v, held_other a.lists.items s place l d, counts l, rooms l, ap length (ap (λ ls. list_of ls l) e.lists ∙ list_set_other a.lists.items s.gone l left d))
    ]

kept_rests : (t : TrailState) (a w : Watches) (s : Sweep) (place : ℕ) (d : Entry) → IsGoing t a s place → Ends t a w s place → s.conflict ≡ None → IsKept t w.pairs.items w.lists.items (w.gone_over + 1)
kept_rests t a w s place d h e none = record {
  few = omega (arith, h.few, ap length e.pairs);
  entries = omega (arith, h.entries, e.gone_over);
  present = λ at x low. h.present at x (omega (arith, low, e.gone_over));
  paired = λ i p m.
      subst (IsPaired t.entries (IsWatch t.entries (w.gone_over + 1) w.lists.items (i + 1)) (numbered t.clauses (i + 1))) (sym (ap (λ ps. get_or ps i p) e.pairs))
      (paired_map t.entries t.entries (IsWatchNow t.entries a.gone_over a.lists.items s place (i + 1)) (IsWatch t.entries (w.gone_over + 1) w.lists.items (i + 1)) (numbered t.clauses (i + 1)) (get_or a.pairs.items i p) (λ z. z)
      (λ x y u. record {
        listed = ended_listed t a w s place (i + 1) x y h e u;
        covered = λ f. elim (cases_lit x s.gone) [
          | inl q ↦ elim (u.at_gone q) [ inl c ↦ c.1 none | inr c ↦ absurd (omega (arith, c.low, c.within, e.over)) ]
          | inr n ↦ (u.elsewhere n).covered (false_before t.entries a.gone_over d s.gone x h.entries h.gone.is_false (h.gone.here d) n (subst (λ g. IsFalseIn (values_of (take (g + 1) t.entries)) x) e.gone_over f))
        ];
      })
      (h.paired i p (omega (arith, m, ap length e.pairs))));
}

pub ends_rests : (t : TrailState) (a w : Watches) (s : Sweep) (place : ℕ) (d : Entry) → IsGoing t a s place → Ends t a w s place → s.conflict ≡ None → WatchesWell t w 0 (w.gone_over + 1)
ends_rests t a w s place d h e none = record { kept = kept_rests t a w s place d h e none; room = ends_room t a w s place h e }

kept_falsified : (t : TrailState) (a w : Watches) (s : Sweep) (place : ℕ) → IsGoing t a s place → Ends t a w s place → IsKept t w.pairs.items w.lists.items w.gone_over
kept_falsified t a w s place h e = record {
  few = omega (arith, h.few, ap length e.pairs);
  entries = omega (arith, h.entries, e.gone_over);
  present = λ at x low. h.present at x (omega (arith, low, e.gone_over));
  paired = λ i p m.
      subst (IsPaired t.entries (IsWatch t.entries w.gone_over w.lists.items (i + 1)) (numbered t.clauses (i + 1))) (sym (ap (λ ps. get_or ps i p) e.pairs))
      (paired_map t.entries t.entries (IsWatchNow t.entries a.gone_over a.lists.items s place (i + 1)) (IsWatch t.entries w.gone_over w.lists.items (i + 1)) (numbered t.clauses (i + 1)) (get_or a.pairs.items i p) (λ z. z)
      (λ x y u. record {
        listed = ended_listed t a w s place (i + 1) x y h e u;
        covered = λ f.
            let g : IsFalseIn (values_of (take a.gone_over t.entries)) x = subst (λ k. IsFalseIn (values_of (take k t.entries)) x) e.gone_over f in
            elim (cases_lit x s.gone) [
              | inl q ↦ absurd (none_some (values_of (take a.gone_over t.entries) x.var) x.negated (ap (λ (l : Lit). values_of (take a.gone_over t.entries) l.var) q ∙ h.gone.later) g)
              | inr n ↦ (u.elsewhere n).covered g
            ];
      })
      (h.paired i p (omega (arith, m, ap length e.pairs))));
}
  where
    none_some : (o : Option Bool) (b : Bool) → o ≡ None → o ≡ Some b → ⊥
    none_some o b p q = cc

pub ends_falsified : (t : TrailState) (a w : Watches) (s : Sweep) (place : ℕ) → IsGoing t a s place → Ends t a w s place → WatchesWell t w 0 w.gone_over
ends_falsified t a w s place h e = record { kept = kept_falsified t a w s place h e; room = ends_room t a w s place h e }
