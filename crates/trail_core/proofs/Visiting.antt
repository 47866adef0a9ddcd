-- What a visit of a clause at a literal that became false gives.
use Rattle.std.proofs.Common.{◌≡◌, ◌≢◌, ℕ, ◌+◌, ◌-◌, ◌≤◌, Bool, true, false, not, cond, eqb, List, [], ◌∷◌, ◌++◌, length, get_or, set, Option, Some, None, refl, sym, ap, ◌∙◌, subst, arith, inl, inr}
use Rattle.std.specs.Option.{option_map}
use Rattle.std.proofs.lemmas.List.{get_or-set_same, get_or-set_other, length-set, length_push, take_all}
use Rattle.loc_base.proofs.ShelfOptions.{option_map-none}
use Rattle.clause_base.specs.declared.literal.Lit.{Lit}
use Rattle.clause_base.specs.Literal.{has, same_lit}
use Rattle.clause_base.specs.Acceptance.{numbered}
use Rattle.trail_core.specs.declared.entry.Entry.{Entry}
use Rattle.trail_core.specs.declared.watches.Pair.{Pair}
use Rattle.trail_core.specs.declared.watches.Watches.{Watches}
use Rattle.trail_core.specs.declared.visit.Seen.{Seen}
use Rattle.trail_core.specs.declared.visit.Seen.TheVariants as seen
use Rattle.trail_core.specs.Values.{IsTrueIn, IsFalseIn}
use Rattle.trail_core.specs.TrailState.{TrailState, IsTrail, Propagates, entry_of, values_of, level_in, with_forced}
use Rattle.trail_core.specs.Listing.{Listing}
use Rattle.trail_core.specs.Watching.{room_of, is_mark, lacks, unwatched, AreNumbers, IsBlank, IsCovered, IsWatch, IsPaired, settled, in_lists, watched, IsListed, list_of}
use Rattle.trail_core.specs.Visits.{IsGone, IsOther, IsVisited, IsKnown, IsOriented, IsMoved, IsReplacement, VisitsAs, Holds}
use Rattle.trail_core.proofs.Lists.{find_found}
use Rattle.trail_core.proofs.Levels.{level_le_all}
use Rattle.trail_core.proofs.Truth.{mapped, values-take_some}
use Rattle.trail_core.proofs.LayoutLemmas.{entry_of_push_same}
use Rattle.trail_core.proofs.Propagating.{Propagates-none, Propagates-forced}
use Rattle.trail_core.proofs.Keeping.{IsFront, front_push, settled_front, watch_front, level_front}
use Rattle.trail_core.proofs.Listing.{cases_lit, listed_push, listed_last, list_set_other, with_list-length, with_list-room, with_list-numbers, with_list-held, numbers_push}
use Rattle.trail_core.proofs.Counting.{unwatched-set, lacks-moved, lacks-le}

-- what an option holds is one
pub some_same : {X : Type 0} (a b : X) (o : Option X) → o ≡ Some a → o ≡ Some b → a ≡ b
some_same a b o p q = cc

not_same : (b : Bool) → not b ≡ b → ⊥
not_same true h = cc
not_same false h = cc

-- no literal is true and false
pub true_false : (es : List Entry) (l : Lit) → IsTrueIn (values_of es) l → IsFalseIn (values_of es) l → ⊥
true_false es l t f = not_same l.negated (some_same (not l.negated) l.negated (values_of es l.var) t f)

-- each level is at most the present one
pub level_below : (t : TrailState) (v i : ℕ) → IsTrail t → level_in t.entries v ≡ Some i → i ≤ t.level
level_below t v i h q =
    let e = mapped (λ (x : Entry). x.decision_level) (entry_of t.entries v) i q in
    let f = find_found (λ (x : Entry). eqb x.lit.var v) t.entries e.value e.is in
    omega (arith, e.gives, ap (λ (x : Entry). x.decision_level) (f.is e.value), level_le_all t.entries h.leveled f.place e.value f.within, h.level)

-- a true literal covers one that is false at the present level
pub covered_true : (t : TrailState) (g : ℕ) (gone other : Lit) → IsTrail t → IsGone t g gone → IsTrueIn (values_of t.entries) other → IsCovered t.entries gone other
covered_true t g gone other h at o = record {
  is_true = o;
  level = λ i j p q. omega (arith, level_below t other.var i h p, some_same j t.level (level_in t.entries gone.var) q at.level);
}

-- the first literal of a pair stands beside the second, in either order
beside : (q p : Pair) → IsOriented q p → q.first.var ≢ q.second.var → (q.first ≡ p.first → q.second ≡ p.second) × (q.second ≡ p.first → q.first ≡ p.second)
beside q p (inl e) n = (λ _. ap (λ (x : Pair). x.second) e, λ f. absurd (n (ap (λ (l : Lit). l.var) (ap (λ (x : Pair). x.first) e ∙ sym f))))
beside q p (inr e) n = (λ f. absurd (n (ap (λ (l : Lit). l.var) (f ∙ sym (ap (λ (x : Pair). x.second) e)))), λ _. ap (λ (x : Pair). x.first) e)

other_first : (q p : Pair) (a b : Lit → Type 0) → IsOriented q p → a q.first → a q.second → a p.second
other_first q p a b (inl e) x y = subst a (ap (λ (r : Pair). r.second) e) y
other_first q p a b (inr e) x y = subst a (ap (λ (r : Pair). r.first) e) x

-- the visited clause stays in the list: the literal that is gone is covered by the other one
stays_paired : (old new : List Entry) (g : ℕ) (lists : List Listing) (s : Seen) (n : ℕ) (c : List Lit) (q p : Pair) → IsFront old new → g ≤ length old → IsOriented q p → Holds s (IsCovered new p.first p.second) → IsPaired old (IsOther old g lists p.first n) c q → IsPaired new (IsVisited new g lists p.first s n) c q
stays_paired old new g lists s n c q p f l o h (settled z e) = settled (settled_front old new c f z) e
stays_paired old new g lists s n c q p f l o h (in_lists z e) = in_lists z e
stays_paired old new g lists s n c q p f l o h (watched a b apart u v) =
    let at = beside q p o apart in
    watched a b apart
    record { at_gone = λ e. subst (λ x. Holds s (IsCovered new x q.second)) (sym e) (subst (λ y. Holds s (IsCovered new p.first y)) (sym (at.0 e)) h); elsewhere = λ d. watch_front old new g lists n q.first q.second f l (u d) }
    record { at_gone = λ e. subst (λ x. Holds s (IsCovered new x q.first)) (sym e) (subst (λ y. Holds s (IsCovered new p.first y)) (sym (at.1 e)) h); elsewhere = λ d. watch_front old new g lists n q.second q.first f l (v d) }

-- a visit that changes no list and no pair
same_lists : (old new : TrailState) (w : Watches) (p q : Pair) (n : ℕ) (s : Seen) → IsKnown old w n p.first → IsOriented q p → ((d : Pair) → get_or w.pairs.items (n - 1) d ≡ q) → IsFront old.entries new.entries → new.clauses ≡ old.clauses → Propagates old new → IsTrail new → Holds s (IsCovered new.entries p.first p.second) → VisitsAs old new w w p.first n s
same_lists old new w p q n s k o is f cs appends trail h = record {
  appends = appends;
  trail = trail;
  size = refl;
  others = λ i d e. refl;
  listed = λ l m d x. x;
  same = refl;
  lists = refl;
  rooms = λ l. refl;
  numbers = λ l h. h;
  spare = λ l d. omega arith;
  left = omega arith;
  paired = λ i d e l.
      let here : i ≡ n - 1 = omega (arith, e) in
      let at : get_or w.pairs.items i d ≡ q = ap (λ j. get_or w.pairs.items j d) here ∙ is d in
      subst (IsPaired new.entries (IsVisited new.entries w.gone_over w.lists.items p.first s n) (numbered new.clauses n)) (sym at)
      (subst (λ c. IsPaired new.entries (IsVisited new.entries w.gone_over w.lists.items p.first s n) (numbered c n) q) (sym cs)
      (stays_paired old.entries new.entries w.gone_over w.lists.items s n (numbered old.clauses n) q p f k.entries o h
      (subst (IsPaired old.entries (IsOther old.entries w.gone_over w.lists.items p.first n) (numbered old.clauses n)) (is d) (k.paired d))));
}

front_same : (es : List Entry) → IsFront es es
front_same es = take_all (length es) es (omega arith)

-- the other literal is true
pub visits_true : (t : TrailState) (w : Watches) (p q : Pair) (n : ℕ) → IsKnown t w n p.first → IsOriented q p → ((d : Pair) → get_or w.pairs.items (n - 1) d ≡ q) → IsTrueIn (values_of t.entries) p.second → VisitsAs t t w w p.first n seen.Stays
visits_true t w p q n k o is h = same_lists t t w p q n seen.Stays k o is (front_same t.entries) refl (Propagates-none t) k.trail (covered_true t w.gone_over p.first p.second k.trail k.is_gone h)

-- all literals are false
pub visits_falsified : (t : TrailState) (w : Watches) (p q : Pair) (n : ℕ) → IsKnown t w n p.first → IsOriented q p → ((d : Pair) → get_or w.pairs.items (n - 1) d ≡ q) → VisitsAs t t w w p.first n seen.Falsified
visits_falsified t w p q n k o is = same_lists t t w p q n seen.Falsified k o is (front_same t.entries) refl (Propagates-none t) k.trail tt

-- the other literal was made true
pub visits_forced : (t new : TrailState) (w : Watches) (p q : Pair) (n : ℕ) → IsKnown t w n p.first → IsOriented q p → ((d : Pair) → get_or w.pairs.items (n - 1) d ≡ q) → new ≡ with_forced t p.second n → values_of t.entries p.second.var ≡ None → IsTrail new → VisitsAs t new w w p.first n seen.Stays
visits_forced t new w p q n k o is e free trail =
    subst (λ x. VisitsAs t x w w p.first n seen.Stays) (sym e)
    (same_lists t (with_forced t p.second n) w p q n seen.Stays k o is front refl (Propagates-forced t t p.second n (Propagates-none t)) (subst IsTrail e trail)
    record { is_true = ap (option_map (λ (x : Entry). not x.lit.negated)) found; level = λ i j a b. omega (arith, some_same i t.level (level_in (t.entries ++ entry ∷ []) p.second.var) a (ap (option_map (λ (x : Entry). x.decision_level)) found), some_same j t.level (level_in (t.entries ++ entry ∷ []) p.first.var) b gone_level) })
  where
    entry : Entry
    entry = record { lit = p.second; decision_level = t.level; reason = Some n }

    front : IsFront t.entries (t.entries ++ entry ∷ [])
    front = front_push t.entries entry

    found : entry_of (t.entries ++ entry ∷ []) p.second.var ≡ Some entry
    found = entry_of_push_same t.entries entry p.second.var refl (option_map-none (λ (x : Entry). not x.lit.negated) (entry_of t.entries p.second.var) free)

    gone_level : level_in (t.entries ++ entry ∷ []) p.first.var ≡ Some t.level
    gone_level = level_front t.entries (t.entries ++ entry ∷ []) p.first.var p.first.negated front k.is_gone.is_false ∙ k.is_gone.level

-- a pair of no literals doesn't have the one that is gone
pub blank_gone : (p q : Pair) → IsOriented q p → IsBlank q → 1 ≤ p.first.var → ⊥
blank_gone p q (inl e) z above = absurd (omega (arith, z.first, ap (λ (x : Pair). x.first.var) e, above))
blank_gone p q (inr e) z above = absurd (omega (arith, z.second, ap (λ (x : Pair). x.second.var) e, above))

-- the clause watches another literal in place of the one that is gone
moved_paired : (es : List Entry) (g : ℕ) (old new : List Listing) (n : ℕ) (c : List Lit) (q p : Pair) (next : Lit) → IsFalseIn (values_of es) p.first → 1 ≤ p.first.var → IsOriented q p → has c next ≡ true → next.var ≢ p.second.var → (IsFalseIn (values_of es) next → ⊥) → ((x : Lit) → IsListed old x n → IsListed new x n) → IsListed new next n → IsPaired es (IsOther es g old p.first n) c q → IsPaired es (IsVisited es g new p.first seen.Leaves n) c record { first = p.second; second = next }
moved_paired es g old new n c q p next gone above o member apart still grows last (settled z e) = absurd (blank_gone p q o e above)
moved_paired es g old new n c q p next gone above o member apart still grows last (in_lists z e) = absurd (blank_gone p q o e above)
moved_paired es g old new n c q p next gone above o member apart still grows last (watched a b d u v) =
    watched (other_first q p (λ l. has c l ≡ true) (λ l. has c l ≡ true) o a b) member (λ e. apart (sym e))
    record { at_gone = λ e. absurd (other_gone e); elsewhere = λ f. record { listed = grows p.second (old_watch f).listed; covered = λ h. absurd (true_false es p.first ((old_watch f).covered h).is_true gone) } }
    record { at_gone = λ e. absurd (still (subst (IsFalseIn (values_of es)) (sym e) gone)); elsewhere = λ f. record { listed = last; covered = λ h. absurd (still (values-take_some es g next.var next.negated h)) } }
  where
    other_gone : p.second ≡ p.first → ⊥
    other_gone e = elim o [
      | inl x ↦ d (ap (λ (l : Lit). l.var) (ap (λ (r : Pair). r.first) x ∙ (sym e ∙ sym (ap (λ (r : Pair). r.second) x))))
      | inr x ↦ d (ap (λ (l : Lit). l.var) (ap (λ (r : Pair). r.first) x ∙ (e ∙ sym (ap (λ (r : Pair). r.second) x))))
    ]

    old_watch : p.second ≢ p.first → IsWatch es g old n p.second p.first
    old_watch f = elim o [
      | inl x ↦ subst (λ y. IsWatch es g old n p.second y) (ap (λ (r : Pair). r.first) x) (subst (λ y. IsWatch es g old n y q.first) (ap (λ (r : Pair). r.second) x) (v (λ e. f (sym (ap (λ (r : Pair). r.second) x) ∙ e))))
      | inr x ↦ subst (λ y. IsWatch es g old n p.second y) (ap (λ (r : Pair). r.second) x) (subst (λ y. IsWatch es g old n y q.second) (ap (λ (r : Pair). r.first) x) (u (λ e. f (sym (ap (λ (r : Pair). r.first) x) ∙ e))))
    ]

pub visits_moved : (t : TrailState) (w v : Watches) (p q : Pair) (next : Lit) (n : ℕ) → IsKnown t w n p.first → is_mark q ≡ false → IsOriented q p → ((d : Pair) → get_or w.pairs.items (n - 1) d ≡ q) → IsReplacement t n p.second next → IsMoved w v n record { first = p.second; second = next } → VisitsAs t t w v p.first n seen.Leaves
visits_moved t w v p q next n k mark o is r m = record {
  appends = Propagates-none t;
  trail = k.trail;
  size = ap length m.pairs ∙ length-set w.pairs.items (n - 1) moved;
  others = λ i d e. ap (λ xs. get_or xs i d) m.pairs ∙ get_or-set_other w.pairs.items (n - 1) i moved d (λ x. e (omega (arith, x, k.above)));
  listed = λ l x d h. grows l x h;
  same = ap (λ ls. list_of ls p.first) m.lists ∙ list_set_other w.lists.items next p.first (list_of w.lists.items next ++ n ∷ []) (λ e. r.not_false (subst (IsFalseIn (values_of t.entries)) e k.is_gone.is_false));
  lists = ap length m.lists ∙ with_list-length w.lists.items next (list_of w.lists.items next ++ n ∷ []);
  rooms = λ l. ap (λ ls. room_of ls l) m.lists ∙ with_list-room w.lists.items next l (list_of w.lists.items next ++ n ∷ []) m.within;
  numbers = λ l h. subst (λ ls. AreNumbers (list_of ls l) (length w.pairs.items)) (sym m.lists) (elim (cases_lit l next) [
    | inl e ↦ with_list-numbers w.lists.items next l (list_of w.lists.items next ++ n ∷ []) (length w.pairs.items) m.within (numbers_push (list_of w.lists.items next) n (length w.pairs.items) k.above k.within (subst (λ z. AreNumbers (list_of w.lists.items z) (length w.pairs.items)) e h)) h
    | inr d ↦ subst (λ ys. AreNumbers ys (length w.pairs.items)) (sym (list_set_other w.lists.items next l (list_of w.lists.items next ++ n ∷ []) d)) h
  ]);
  spare = λ l d. omega (arith, count l, held l, lacks-moved (numbered t.clauses n) q p next l mark o r.member not_other not_gone d);
  left = omega (arith, count p.first, lacks-le (numbered t.clauses n) moved p.first, one_at_most (has (numbered t.clauses n) p.first));
  paired = λ i d e l.
      let here : i ≡ n - 1 = omega (arith, e) in
      let at : get_or v.pairs.items i d ≡ moved = ap (λ xs. get_or xs i d) m.pairs ∙ (ap (λ j. get_or (set w.pairs.items (n - 1) moved) j d) here ∙ get_or-set_same w.pairs.items (n - 1) moved d (omega (arith, k.above, k.within))) in
      subst (IsPaired t.entries (IsVisited t.entries w.gone_over v.lists.items p.first seen.Leaves n) (numbered t.clauses n)) (sym at)
      (moved_paired t.entries w.gone_over w.lists.items v.lists.items n (numbered t.clauses n) q p next k.is_gone.is_false k.is_gone.variable.above o r.member r.apart r.not_false (λ x. grows x n) last
      (subst (IsPaired t.entries (IsOther t.entries w.gone_over w.lists.items p.first n) (numbered t.clauses n)) (is d) (k.paired d)));
}
  where
    moved : Pair
    moved = record { first = p.second; second = next }

    grows : (l : Lit) (x : ℕ) → IsListed w.lists.items l x → IsListed v.lists.items l x
    grows l x h = subst (λ ls. IsListed ls l x) (sym m.lists) (listed_push w.lists.items next l n x m.within h)

    not_other : next ≢ p.second
    not_other e = r.apart (ap (λ (x : Lit). x.var) e)

    not_gone : next ≢ p.first
    not_gone e = r.not_false (subst (IsFalseIn (values_of t.entries)) (sym e) k.is_gone.is_false)

    count : (l : Lit) → unwatched 0 t.clauses v.pairs.items l + cond (lacks (numbered t.clauses n) q l) 1 0 ≡ unwatched 0 t.clauses w.pairs.items l + cond (lacks (numbered t.clauses n) moved l) 1 0
    count l = subst (λ ps. unwatched 0 t.clauses ps l + cond (lacks (numbered t.clauses n) q l) 1 0 ≡ unwatched 0 t.clauses w.pairs.items l + cond (lacks (numbered t.clauses n) moved l) 1 0) (sym m.pairs)
        (subst (λ x. unwatched 0 t.clauses (set w.pairs.items (n - 1) moved) l + cond (lacks (numbered t.clauses n) x l) 1 0 ≡ unwatched 0 t.clauses w.pairs.items l + cond (lacks (numbered t.clauses n) moved l) 1 0) (is q)
        (unwatched-set 0 t.clauses w.pairs.items (n - 1) moved q l (omega (arith, k.above, k.within)) (omega (arith, k.above, k.number.within))))

    held : (l : Lit) → length (list_of v.lists.items l) ≤ length (list_of w.lists.items l) + cond (same_lit next l) 1 0
    held l = subst (λ ls. length (list_of ls l) ≤ length (list_of w.lists.items l) + cond (same_lit next l) 1 0) (sym m.lists)
        (with_list-held w.lists.items next l (list_of w.lists.items next ++ n ∷ []) m.within (omega (arith, length_push (list_of w.lists.items next) n)))

    one_at_most : (b : Bool) → cond b 1 0 ≤ 1
    one_at_most true = omega arith
    one_at_most false = omega arith

    last : IsListed v.lists.items next n
    last = subst (λ ls. IsListed ls next n) (sym m.lists) (listed_last w.lists.items next n m.within)

absent_paired : (es : List Entry) (g : ℕ) (lists : List Listing) (gone : Lit) (n : ℕ) (c : List Lit) (q : Pair) → q.first ≢ gone → q.second ≢ gone → IsPaired es (IsOther es g lists gone n) c q → IsPaired es (IsVisited es g lists gone seen.Leaves n) c q
absent_paired es g lists gone n c q a b (settled z e) = settled z e
absent_paired es g lists gone n c q a b (in_lists z e) = in_lists z e
absent_paired es g lists gone n c q a b (watched x y d u v) = watched x y d record { at_gone = λ e. absurd (a e); elsewhere = u } record { at_gone = λ e. absurd (b e); elsewhere = v }

-- the clause doesn't watch the literal
pub visits_absent : (t : TrailState) (w : Watches) (gone : Lit) (q : Pair) (n : ℕ) → IsKnown t w n gone → ((d : Pair) → get_or w.pairs.items (n - 1) d ≡ q) → q.first ≢ gone → q.second ≢ gone → VisitsAs t t w w gone n seen.Leaves
visits_absent t w gone q n k is a b = record {
  appends = Propagates-none t;
  trail = k.trail;
  size = refl;
  others = λ i d e. refl;
  listed = λ l m d x. x;
  same = refl;
  lists = refl;
  rooms = λ l. refl;
  numbers = λ l h. h;
  spare = λ l d. omega arith;
  left = omega arith;
  paired = λ i d e l.
      let here : i ≡ n - 1 = omega (arith, e) in
      let at : get_or w.pairs.items i d ≡ q = ap (λ j. get_or w.pairs.items j d) here ∙ is d in
      subst (IsPaired t.entries (IsVisited t.entries w.gone_over w.lists.items gone seen.Leaves n) (numbered t.clauses n)) (sym at)
      (absent_paired t.entries w.gone_over w.lists.items gone n (numbered t.clauses n) q a b
      (subst (IsPaired t.entries (IsOther t.entries w.gone_over w.lists.items gone n) (numbered t.clauses n)) (is d) (k.paired d)));
}
