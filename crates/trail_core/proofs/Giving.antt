-- What the functions that visit clauses give.
use Rattle.std.proofs.Common.{◌≡◌, ◌≢◌, ℕ, ◌+◌, ◌-◌, ◌<◌, ◌≤◌, Bool, true, false, not, cond, List, length, get_or, set, Option, Some, None, refl, sym, ap, ◌∙◌, subst, arith, inl, inr}
use Rattle.std.specs.Prelude.{IfSome, is_some}
use Rattle.loc_base.proofs.ShelfOptions.{is_some-false}
use Rattle.std.specs.Vec.{vec_capacity}
use Rattle.std.proofs.lemmas.Bool.{cases_eq, cases_Bool}
use Rattle.std.proofs.lemmas.List.{length-set}
use Rattle.clause_base.specs.declared.literal.Lit.{Lit}
use Rattle.clause_base.specs.Literal.{has}
use Rattle.clause_base.specs.Acceptance.{numbered}
use Rattle.trail_core.specs.declared.watches.Pair.{Pair}
use Rattle.trail_core.specs.declared.watches.Watches.{Watches}
use Rattle.trail_core.specs.declared.watch.Sweep.{Sweep}
use Rattle.trail_core.specs.declared.visit.Seen.{Seen}
use Rattle.trail_core.specs.declared.visit.Seen.TheVariants as seen
use Rattle.trail_core.specs.Values.{IsFalseIn, IsTrueIn, IsUnassignedIn, IsVariable}
use Rattle.trail_core.specs.TrailState.{TrailState, IsReason, values_of}
use Rattle.trail_core.specs.Look.{Falsifies}
use Rattle.trail_core.specs.Watching.{with_list, room_of, is_mark, lacks, unwatched, AreNumbers, IsCovered, IsPaired, settled, in_lists, watched, Stands, list_of, code_of}
use Rattle.trail_core.specs.Visits.{IsKnown, IsOther, IsOriented, IsReplacement, IsVisited, IsWatchNow, IsGoing, IsMoved, ForceGives, SeenGives, VisitsAs, Holds, leaving}
use Rattle.trail_core.proofs.Propagating.{Propagates-none}
use Rattle.trail_core.proofs.Keeping.{paired_map}
use Rattle.trail_core.proofs.Looks.{variable_of, distinct_same}
use Rattle.trail_core.proofs.Listing.{at_any, list_set_same, list_set_other, with_list-length, with_list-room, with_list-numbers, numbers_set, kept_last}
use Rattle.trail_core.proofs.Counting.{some_unwatched, lacks-true}
use Rattle.trail_core.proofs.Marks.{mark_none}
use Rattle.trail_core.proofs.Visiting.{blank_gone, visits_moved, visits_forced, visits_falsified}
use Rattle.trail_core.proofs.Passing.{Turns, turns_keep, turns_leave, Follows, going_next}

-- the pair of the clause, by any default
pub pair_is : (t : TrailState) (w : Watches) (n : ℕ) (gone : Lit) (p d : Pair) → IsKnown t w n gone → get_or w.pairs.items (n - 1) d ≡ get_or w.pairs.items (n - 1) p
pair_is t w n gone p d k = at_any w.pairs.items (n - 1) d p (omega (arith, k.above, k.within))

pub forced_gives : (t new : TrailState) (w : Watches) (p : Pair) (n : ℕ) (r : Seen) → IsKnown t w n p.first → IsOriented (get_or w.pairs.items (n - 1) p) p → ForceGives t new n p.second r → SeenGives t new w w p.first n r
forced_gives t new w p n seen.Stays k o f = visits_forced t new w p (get_or w.pairs.items (n - 1) p) n k o (λ d. pair_is t w n p.first p d k) f.0 f.1.0 f.1.1
forced_gives t new w p n seen.Leaves k o f = absurd f
forced_gives t new w p n seen.Falsified k o f =
    (subst (λ x. VisitsAs t x w w p.first n seen.Falsified) (sym f.0) (visits_falsified t w p (get_or w.pairs.items (n - 1) p) n k o (λ d. pair_is t w n p.first p d k)), subst (λ x. Falsifies x n) (sym f.0) f.1)

-- the pair has the literal that is gone, so the clause watches two of its literals
pub oriented_watched : (t : TrailState) (w : Watches) (p : Pair) (n : ℕ) → IsKnown t w n p.first → IsOriented (get_or w.pairs.items (n - 1) p) p → (has (numbered t.clauses n) p.first ≡ true) × ((has (numbered t.clauses n) p.second ≡ true) × (p.first.var ≢ p.second.var))
oriented_watched t w p n k o = at (get_or w.pairs.items (n - 1) p) o (k.paired p)
  where
    at : (q : Pair) → IsOriented q p → IsPaired t.entries (IsOther t.entries w.gone_over w.lists.items p.first n) (numbered t.clauses n) q → (has (numbered t.clauses n) p.first ≡ true) × ((has (numbered t.clauses n) p.second ≡ true) × (p.first.var ≢ p.second.var))
    at q o (settled z e) = absurd (blank_gone p q o e k.is_gone.variable.above)
    at q o (in_lists z e) = absurd (blank_gone p q o e k.is_gone.variable.above)
    at q (inl e) (watched a b d u v) = subst (λ (x : Pair). (has (numbered t.clauses n) x.first ≡ true) × ((has (numbered t.clauses n) x.second ≡ true) × (x.first.var ≢ x.second.var))) e (a, (b, d))
    at q (inr e) (watched a b d u v) =
        let f : q.first ≡ p.second = ap (λ (x : Pair). x.first) e in
        let g : q.second ≡ p.first = ap (λ (x : Pair). x.second) e in (
          subst (λ x. has (numbered t.clauses n) x ≡ true) g b,
          (subst (λ x. has (numbered t.clauses n) x ≡ true) f a, λ z. d (ap (λ (l : Lit). l.var) f ∙ (sym z ∙ ap (λ (l : Lit). l.var) (sym g)))),
        )

-- the other literal of the pair is of a variable
pub other_variable : (t : TrailState) (w : Watches) (p : Pair) (n : ℕ) → IsKnown t w n p.first → IsOriented (get_or w.pairs.items (n - 1) p) p → IsVariable t.vars p.second.var
other_variable t w p n k o = variable_of t.vars (numbered t.clauses n) p.second (k.trail.within n k.number) (oriented_watched t w p n k o).1.0

-- the pair doesn't say that the clause stands in the lists of its literals
no_mark : (t : TrailState) (w : Watches) (p : Pair) (n : ℕ) → IsKnown t w n p.first → IsOriented (get_or w.pairs.items (n - 1) p) p → is_mark (get_or w.pairs.items (n - 1) p) ≡ false
no_mark t w p n k o = elim (cases_Bool (is_mark (get_or w.pairs.items (n - 1) p))) [ inl m ↦ absurd (mark_none (get_or w.pairs.items (n - 1) p) above m) | inr f ↦ f ]
  where
    other : IsVariable t.vars p.second.var
    other = other_variable t w p n k o

    above : 1 ≤ (get_or w.pairs.items (n - 1) p).first.var
    above = elim o [
      | inl e ↦ omega (arith, ap (λ (q : Pair). q.first.var) e, k.is_gone.variable.above)
      | inr e ↦ omega (arith, ap (λ (q : Pair). q.first.var) e, other.above)
    ]

pub moved_gives : (t : TrailState) (w v : Watches) (p : Pair) (next : Lit) (n : ℕ) → IsKnown t w n p.first → IsOriented (get_or w.pairs.items (n - 1) p) p → IsReplacement t n p.second next → IsMoved w v n record { first = p.second; second = next } → SeenGives t t w v p.first n seen.Leaves
moved_gives t w v p next n k o h m = visits_moved t w v p (get_or w.pairs.items (n - 1) p) next n k (no_mark t w p n k o) o (λ d. pair_is t w n p.first p d k) h m

-- a literal that the clause may watch has a list, with room
pub replacement_room : (t : TrailState) (w : Watches) (p : Pair) (next : Lit) (n : ℕ) → IsKnown t w n p.first → IsOriented (get_or w.pairs.items (n - 1) p) p → IsReplacement t n p.second next → (code_of next < length w.lists.items) × (length (list_of w.lists.items next) < room_of w.lists.items next)
replacement_room t w p next n k o r =
    let v : IsVariable t.vars next.var = variable_of t.vars (numbered t.clauses n) next (k.trail.within n k.number) r.member in
    let not_gone : next ≢ p.first = λ e. r.not_false (subst (IsFalseIn (values_of t.entries)) (sym e) k.is_gone.is_false) in
    let not_other : next ≢ p.second = λ e. r.apart (ap (λ (x : Lit). x.var) e) in
    let mark : is_mark (get_or w.pairs.items (n - 1) p) ≡ false = no_mark t w p n k o in
    let lacking : lacks (numbered t.clauses n) (get_or w.pairs.items (n - 1) p) next ≡ true = elim o [
      | inl e ↦ subst (λ q. lacks (numbered t.clauses n) q next ≡ true) (sym e) (lacks-true (numbered t.clauses n) p next (subst (λ q. is_mark q ≡ false) e mark) r.member (λ z. not_gone (sym z)) (λ z. not_other (sym z)))
      | inr e ↦ subst (λ q. lacks (numbered t.clauses n) q next ≡ true) (sym e) (lacks-true (numbered t.clauses n) record { first = p.second; second = p.first } next (subst (λ q. is_mark q ≡ false) e mark) r.member (λ z. not_other (sym z)) (λ z. not_gone (sym z)))
    ] in
    let some : 1 ≤ unwatched 0 t.clauses w.pairs.items next = some_unwatched 0 t.clauses w.pairs.items (n - 1) p next (omega (arith, k.above, k.within)) (omega (arith, k.above, k.number.within)) lacking in
    (omega (arith, k.lists, v.within, cond_le next.negated), omega (arith, k.room next not_gone v, some))
  where
    cond_le : (b : Bool) → cond b 1 0 ≤ 1
    cond_le true = omega arith
    cond_le false = omega arith

-- where all literals of other variables are false, the other one is forced, or the clause is false
pub other_reason : (t : TrailState) (w : Watches) (p : Pair) (n : ℕ) → IsKnown t w n p.first → IsOriented (get_or w.pairs.items (n - 1) p) p → ((l : Lit) → has (numbered t.clauses n) l ≡ true → l.var ≢ p.second.var → IsFalseIn (values_of t.entries) l) → IsUnassignedIn (values_of t.entries) p.second → IsReason t.clauses (values_of t.entries) n p.second
other_reason t w p n k o f u = record { number = k.number; unit = record { member = (oriented_watched t w p n k o).1.0; unassigned = u; others = f } }

pub other_falsified : (t : TrailState) (w : Watches) (p : Pair) (n : ℕ) → IsKnown t w n p.first → IsOriented (get_or w.pairs.items (n - 1) p) p → ((l : Lit) → has (numbered t.clauses n) l ≡ true → l.var ≢ p.second.var → IsFalseIn (values_of t.entries) l) → (IsTrueIn (values_of t.entries) p.second → ⊥) → (IsUnassignedIn (values_of t.entries) p.second → ⊥) → Falsifies t n
other_falsified t w p n k o f not_true some = record { number = k.number; falsified = each }
  where
    falsely : (o : Option Bool) (b : Bool) → (o ≡ Some (not b) → ⊥) → (o ≡ None → ⊥) → o ≡ Some b
    falsely None b h g = absurd (g refl)
    falsely (Some true) true h g = refl
    falsely (Some true) false h g = absurd (h refl)
    falsely (Some false) true h g = absurd (h refl)
    falsely (Some false) false h g = refl

    each : (l : Lit) → has (numbered t.clauses n) l ≡ true → IsFalseIn (values_of t.entries) l
    each l h = elim (cases_eq l.var p.second.var) [
      | inl e ↦ subst (IsFalseIn (values_of t.entries)) (distinct_same (numbered t.clauses n) p.second l (k.trail.distinct n k.number) (oriented_watched t w p n k o).1.0 h (sym e)) (falsely (values_of t.entries p.second.var) p.second.negated not_true some)
      | inr d ↦ f l h d
    ]

-- a number that is left in the list without a visit
pub visits_none : (t : TrailState) (a : Watches) (s : Sweep) (place n : ℕ) → IsGoing t a s place → VisitsAs t t a a s.gone n seen.Falsified
visits_none t a s place n h = record {
  appends = Propagates-none t;
  trail = h.trail;
  size = refl;
  others = λ i d e. refl;
  listed = λ l m d x. x;
  same = refl;
  lists = refl;
  rooms = λ l. refl;
  numbers = λ l x. x;
  spare = λ l d. omega arith;
  left = omega arith;
  paired = λ i d e l. subst (λ m. IsPaired t.entries (IsVisited t.entries a.gone_over a.lists.items s.gone seen.Falsified m) (numbered t.clauses m) (get_or a.pairs.items i d)) e
      (paired_map t.entries t.entries (IsWatchNow t.entries a.gone_over a.lists.items s place (i + 1)) (IsVisited t.entries a.gone_over a.lists.items s.gone seen.Falsified (i + 1)) (numbered t.clauses (i + 1)) (get_or a.pairs.items i d) (λ z. z)
      (λ x y u. record { at_gone = λ q. tt; elsewhere = u.elsewhere }) (h.paired i d l));
}

-- the number is written behind those kept so far
pub record KeepsNumber (b w : Watches) (s r : Sweep) (n : ℕ) : Type 0 where
  pub lists : w.lists.items ≡ with_list b.lists.items s.gone (set (list_of b.lists.items s.gone) s.kept n)
  pub pairs : w.pairs ≡ b.pairs
  pub gone_over : w.gone_over ≡ b.gone_over
  pub kept : r.kept ≡ s.kept + 1
  pub gone : r.gone ≡ s.gone

pub follow_keep : (t new : TrailState) (a b w : Watches) (s r : Sweep) (place n : ℕ) (k : Seen) → IsGoing t a s place → place < length (list_of a.lists.items s.gone) → get_or (list_of a.lists.items s.gone) place 0 ≡ n → VisitsAs t new a b s.gone n k → b.gone_over ≡ a.gone_over → KeepsNumber b w s r n → IfSome r.conflict (λ m. Falsifies new m) → (r.conflict ≡ None → s.conflict ≡ None) → ((x y : Lit) → Holds k (IsCovered new.entries x y) → r.conflict ≡ None → IsCovered new.entries x y) → leaving k ≡ 0 → vec_capacity b.pairs ≡ vec_capacity a.pairs → Follows t new a b w s r place n k
follow_keep t new a b w s r place n k h l e v g u f z c stays cap = record {
  visits = v;
  same_gone_over = g;
  pairs = ap (λ ps. ps.items) u.pairs;
  gone_over = u.gone_over;
  gone = u.gone;
  lists = ap length u.lists ∙ with_list-length b.lists.items s.gone (set (list_of b.lists.items s.gone) s.kept n);
  others = λ m d. ap (λ ls. list_of ls m) u.lists ∙ list_set_other b.lists.items s.gone m (set (list_of b.lists.items s.gone) s.kept n) d;
  turns = subst (λ zs. Turns (list_of b.lists.items s.gone) zs s.kept r.kept place n) (sym list_is)
      (subst (λ m. Turns (list_of b.lists.items s.gone) (set (list_of b.lists.items s.gone) s.kept n) s.kept m place n) (sym u.kept) (turns_keep (list_of b.lists.items s.gone) s.kept place n h.kept (ap (λ zs. get_or zs place 0) v.same ∙ e)));
  within = l;
  rooms = λ m. ap (λ ls. room_of ls m) u.lists ∙ with_list-room b.lists.items s.gone m written list;
  numbers = λ m x. subst (λ ls. AreNumbers (list_of ls m) (length b.pairs.items)) (sym u.lists)
      (with_list-numbers b.lists.items s.gone m written (length b.pairs.items) list (numbers_set (list_of b.lists.items s.gone) s.kept n (length b.pairs.items) bounds.0 (omega (arith, bounds.1, v.size)) (subst (AreNumbers (list_of b.lists.items s.gone)) (sym v.size) (v.numbers s.gone (h.room.numbers s.gone)))) x);
  same_length = ap length list_is ∙ length-set (list_of b.lists.items s.gone) s.kept n;
  counted = omega (arith, u.kept, stays);
  capacity = ap vec_capacity u.pairs ∙ cap;
  conflict = f;
  before = z;
  own = λ x y q p. (
    subst (λ zs. Stands zs 0 r.kept n) (sym list_is) (subst (λ m. Stands (set (list_of b.lists.items s.gone) s.kept n) 0 m n) (sym u.kept) (kept_last (list_of b.lists.items s.gone) s.kept n (omega (arith, h.kept, l, ap length v.same)))),
    c x y p,
  );
}
  where
    written : List ℕ
    written = set (list_of b.lists.items s.gone) s.kept n

    list : code_of s.gone < length b.lists.items
    list = omega (arith, h.list, v.lists)

    bounds : (1 ≤ n) × (n ≤ length a.pairs.items)
    bounds = subst (λ m. (1 ≤ m) × (m ≤ length a.pairs.items)) e (h.room.numbers s.gone place l)

    list_is : list_of w.lists.items s.gone ≡ set (list_of b.lists.items s.gone) s.kept n
    list_is = ap (λ ls. list_of ls s.gone) u.lists ∙ list_set_same b.lists.items s.gone (set (list_of b.lists.items s.gone) s.kept n) (omega (arith, h.list, v.lists))

pub follow_leave : (t new : TrailState) (a b : Watches) (s : Sweep) (place n : ℕ) → IsGoing t a s place → place < length (list_of a.lists.items s.gone) → get_or (list_of a.lists.items s.gone) place 0 ≡ n → s.conflict ≡ None → VisitsAs t new a b s.gone n seen.Leaves → b.gone_over ≡ a.gone_over → vec_capacity b.pairs ≡ vec_capacity a.pairs → Follows t new a b b s s place n seen.Leaves
follow_leave t new a b s place n h l e none v g cap = record {
  visits = v;
  same_gone_over = g;
  pairs = refl;
  gone_over = refl;
  gone = refl;
  lists = refl;
  others = λ m d. refl;
  turns = turns_leave (list_of b.lists.items s.gone) s.kept place n h.kept (ap (λ zs. get_or zs place 0) v.same ∙ e);
  within = l;
  rooms = λ m. refl;
  numbers = λ m x. x;
  same_length = refl;
  counted = omega arith;
  capacity = cap;
  conflict = subst (λ o. IfSome o (λ m. Falsifies new m)) (sym none) tt;
  before = λ q. none;
  own = λ x y q p. absurd p;
}

some_none : {X : Type 0} (o : Option X) → is_some o ≡ true → o ≡ None → ⊥
some_none None h q = cc
some_none (Some x) h q = cc

-- a clause that is kept after a conflict
pub going_copied : (t : TrailState) (a w : Watches) (s r : Sweep) (place n : ℕ) → IsGoing t a s place → place < length (list_of a.lists.items s.gone) → get_or (list_of a.lists.items s.gone) place 0 ≡ n → KeepsNumber a w s r n → r.conflict ≡ s.conflict → is_some s.conflict ≡ true → IsGoing t w r (place + 1)
going_copied t a w s r place n h l e u q some =
    going_next t t a a w s r place n seen.Falsified h
    (follow_keep t t a a w s r place n seen.Falsified h l e (visits_none t a s place n h) refl u
    (subst (λ o. IfSome o (λ m. Falsifies t m)) (sym q) h.conflict)
    (λ z. sym q ∙ z)
    (λ x y p z. absurd (some_none s.conflict some (sym q ∙ z))) refl refl)

-- a clause that stays
pub going_stays : (t new : TrailState) (a b w : Watches) (s r : Sweep) (place n : ℕ) → IsGoing t a s place → place < length (list_of a.lists.items s.gone) → get_or (list_of a.lists.items s.gone) place 0 ≡ n → VisitsAs t new a b s.gone n seen.Stays → b.gone_over ≡ a.gone_over → KeepsNumber b w s r n → r.conflict ≡ s.conflict → is_some s.conflict ≡ false → vec_capacity b.pairs ≡ vec_capacity a.pairs → IsGoing new w r (place + 1)
going_stays t new a b w s r place n h l e v g u q none cap =
    let no : s.conflict ≡ None = is_some-false s.conflict none in
    going_next t new a b w s r place n seen.Stays h
    (follow_keep t new a b w s r place n seen.Stays h l e v g u
    (subst (λ o. IfSome o (λ m. Falsifies new m)) (sym (q ∙ no)) tt)
    (λ z. no)
    (λ x y p z. p) refl cap)

-- a clause whose literals are all false
pub going_falsified : (t new : TrailState) (a b w : Watches) (s r : Sweep) (place n : ℕ) → IsGoing t a s place → place < length (list_of a.lists.items s.gone) → get_or (list_of a.lists.items s.gone) place 0 ≡ n → VisitsAs t new a b s.gone n seen.Falsified → Falsifies new n → b.gone_over ≡ a.gone_over → KeepsNumber b w s r n → r.conflict ≡ Some n → vec_capacity b.pairs ≡ vec_capacity a.pairs → IsGoing new w r (place + 1)
going_falsified t new a b w s r place n h l e v f g u q cap =
    going_next t new a b w s r place n seen.Falsified h
    (follow_keep t new a b w s r place n seen.Falsified h l e v g u
    (subst (λ o. IfSome o (λ m. Falsifies new m)) (sym q) f)
    (λ z. absurd (some_none r.conflict (ap is_some q) z))
    (λ x y p z. absurd (some_none r.conflict (ap is_some q) z)) refl cap)

-- a clause that leaves
pub going_left : (t new : TrailState) (a b : Watches) (s : Sweep) (place n : ℕ) → IsGoing t a s place → place < length (list_of a.lists.items s.gone) → get_or (list_of a.lists.items s.gone) place 0 ≡ n → is_some s.conflict ≡ false → VisitsAs t new a b s.gone n seen.Leaves → b.gone_over ≡ a.gone_over → vec_capacity b.pairs ≡ vec_capacity a.pairs → IsGoing new b s (place + 1)
going_left t new a b s place n h l e none v g cap =
    going_next t new a b b s s place n seen.Leaves h (follow_leave t new a b s place n h l e (is_some-false s.conflict none) v g cap)
