-- What the public calls keep of the watched literals.
use Rattle.std.proofs.Common.{◌≡◌, ℕ, ◌+◌, ◌<◌, ◌≤◌, Bool, true, false, not, ◌&&◌, cond, List, [], ◌∷◌, ◌++◌, length, get_or, Option, Some, None, refl, sym, ap, ◌∙◌, subst, arith, ◌⊎◌, inl, inr}
use Rattle.std.specs.Prelude.{IsSome, IfSome, IfNone}
use Rattle.std.specs.Vec.{vec_capacity}
use Rattle.std.proofs.lemmas.Bool.{cases_lt, cases_Bool, both_ways, false≢true}
use Rattle.std.proofs.lemmas.List.{take_all}
use Rattle.clause_base.specs.declared.literal.Lit.{Lit}
use Rattle.clause_base.specs.Literal.{IsWithin, has_distinct_variables}
use Rattle.clause_base.specs.Acceptance.{numbered}
use Rattle.trail_core.specs.declared.entry.Entry.{Entry}
use Rattle.trail_core.specs.declared.watches.Pair.{Pair}
use Rattle.trail_core.specs.declared.watches.Watches.{Watches}
use Rattle.trail_core.specs.declared.watch.Watched.{Watched}
use Rattle.trail_core.specs.declared.watch.Watched.TheVariants as watched
use Rattle.trail_core.specs.Values.{IsVariable, IsFalsified, IsUnit, Rests, satisfied, open_at_two}
use Rattle.trail_core.specs.TrailState.{TrailState, IsTrail, IsNumber, IsReason, AllRest, MayAdd, Propagates, values_of, up_to, back_at, with_clause, with_decision}
use Rattle.trail_core.specs.Listing.{Listing}
use Rattle.trail_core.specs.declared.shorts.Shorts.{Shorts}
use Rattle.trail_core.specs.ShortListing.{lists_in}
use Rattle.trail_core.specs.Shorts.{lists_of, SameLists, HasShorts, HasNoShorts, SameShorts, HaveShortLists, Enters, IsDue, AreDue}
use Rattle.trail_core.specs.Watching.{IsOpen, IsKept, is_short, is_fixed, AreMarked, code_of, list_of, room_of, unwatched}
use Rattle.trail_core.specs.Visits.{HasNone, HaveLists, HavePlaces, IsWider, WatchesWell, IsWatching, WatchGives, number_of, held_in}
use Rattle.trail_core.proofs.Due.{due_decided, due_back, due_added}
use Rattle.trail_core.proofs.Entering.{have_lists as have_lists_shorts, fixed_within, fixed_short, fixed_by, has_shorts_none, has_shorts_same, has_shorts_long, has_shorts_entered}
use Rattle.trail_core.proofs.Flat.{growing_count, same_lists}
use Rattle.trail_core.proofs.Marks.{marked_added}
use Rattle.trail_core.proofs.Looks.{variable_of}
use Rattle.trail_core.proofs.Passing.{code_within}
use Rattle.trail_core.proofs.Placing.{well_added, well_wider}
use Rattle.trail_core.proofs.Widening.{widens}
use Rattle.trail_core.proofs.Levels.{up_to-up_to}
use Rattle.trail_core.proofs.Keeping.{kept_decided, kept_back}
use Rattle.trail_core.proofs.Choosing.{rests_not_false, not_free}
use Rattle.trail_core.proofs.Visiting.{true_false}

-- a trail with no clause
pub well_new : (vars : ℕ) (f : ℕ) (w : Watches) → HasNone vars w → WatchesWell record { vars = vars; clauses = []; entries = []; level = 0 } w f w.gone_over
well_new vars f w n = record {
  kept = record {
    few = omega (arith, ap length n.pairs);
    entries = omega (arith, n.gone_over);
    present = λ place d low high. absurd (omega (arith, high));
    paired = λ i d l. absurd (omega (arith, l, ap length n.pairs));
  };
  room = record {
    lists = n.size;
    pairs = omega arith;
    numbers = λ l i b. absurd (omega (arith, b, ap (λ (x : Listing). length x.numbers) (n.empty (code_of l))));
    room = λ l v. omega (arith, ap (λ (x : Listing). length x.numbers) (n.empty (code_of l)));
    unpaired = λ m k low high l. absurd (omega (arith, l));
  };
}

-- propagation adds no clause
pub shorts_propagate : (t new : TrailState) (s : Shorts) → Propagates t new → HasShorts t.vars t.clauses s.fixed (lists_of s) → HasShorts new.vars new.clauses s.fixed (lists_of s)
shorts_propagate t new s p h = subst (λ v. HasShorts v new.clauses s.fixed (lists_of s)) (sym p.vars) (subst (λ cs. HasShorts t.vars cs s.fixed (lists_of s)) (sym p.clauses) h)

-- whatever propagation gives, the lists are kept
pub well_watched : (t : TrailState) (w : Watches) (f : ℕ) (r : Watched) → WatchGives t w f r → WatchesWell t w f w.gone_over
well_watched t w f watched.Rests g = g.0
well_watched t w f (watched.Falsified n) g = g.0

-- a clause that rests isn't unit
rests_unit : (es : List Entry) (c : List Lit) (l : Lit) → Rests (values_of es) c → IsUnit (values_of es) c l → ⊥
rests_unit es c l (satisfied m k v) u = elim (cases_lt m.var l.var) [
  | inl b ↦ true_false es m v (u.others m k (λ e. absurd (omega (arith, e, b))))
  | inr b ↦ elim (cases_lt l.var m.var) [
    | inl d ↦ true_false es m v (u.others m k (λ e. absurd (omega (arith, e, d))))
    | inr d ↦ let e : m.var ≡ l.var = omega (arith, b, d) in by (values_of es l.var) (ap (values_of es) (sym e) ∙ v) u.unassigned
  ]
]
  where
    by : (o : Option Bool) → o ≡ Some (not m.negated) → o ≡ None → ⊥
    by o p q = cc
rests_unit es c l (open_at_two m o k j d v w) u = elim (cases_lt m.var l.var) [
  | inl b ↦ not_free es m (u.others m k (λ e. absurd (omega (arith, e, b)))) v
  | inr b ↦ elim (cases_lt l.var m.var) [
    | inl f ↦ not_free es m (u.others m k (λ e. absurd (omega (arith, e, f)))) v
    | inr f ↦ not_free es o (u.others o j (λ e. d (omega (arith, e, b, f)))) w
  ]
]

-- where all clauses rest, propagation changes nothing
pub stays_still : (t new : TrailState) (d : Entry) → AllRest t.clauses (values_of t.entries) → Propagates t new → IsTrail new → new ≡ t
stays_still t new d r p h = elim (cases_lt (length t.entries) (length new.entries)) [
  | inl l ↦ absurd (forced l)
  | inr l ↦ same (sym (take_all (length t.entries) new.entries l) ∙ p.prefix)
]
  where
    same : new.entries ≡ t.entries → new ≡ t
    same e =
        ap (λ v. record { vars = v; clauses = new.clauses; entries = new.entries; level = new.level }) p.vars
        ∙ (ap (λ cs. record { vars = t.vars; clauses = cs; entries = new.entries; level = new.level }) p.clauses
        ∙ (ap (λ es. record { vars = t.vars; clauses = t.clauses; entries = es; level = new.level }) e
        ∙ ap (λ k. record { vars = t.vars; clauses = t.clauses; entries = t.entries; level = k }) p.level))

    some : (o : Option ℕ) → IsSome o → (n : ℕ) × (o ≡ Some n)
    some None s = absurd (false≢true s)
    some (Some n) s = (n, refl)

    forced : length t.entries < length new.entries → ⊥
    forced l =
        let n = some (get_or new.entries (length t.entries) d).reason (p.reasoned (length t.entries) d (omega arith) l) in
        let reason = (h.justified (length t.entries) d l).forced n.0 n.1 in
        let before : IsReason t.clauses (values_of t.entries) n.0 (get_or new.entries (length t.entries) d).lit =
        subst (λ cs. IsReason cs (values_of t.entries) n.0 (get_or new.entries (length t.entries) d).lit) p.clauses
        (subst (λ es. IsReason new.clauses (values_of es) n.0 (get_or new.entries (length t.entries) d).lit) p.prefix reason) in
        rests_unit t.entries (numbered t.clauses n.0) (get_or new.entries (length t.entries) d).lit (r n.0 before.number) before.unit

-- a decision, after propagation found that all clauses rest
pub well_decided : (t : TrailState) (l : Lit) (w : Watches) (f : ℕ) (r : Watched) → AllRest t.clauses (values_of t.entries) → WatchGives t w f r → WatchesWell (with_decision t l) w f w.gone_over
well_decided t l w f watched.Rests rest g = record {
  kept = kept_decided t l w.pairs.items w.lists.items w.gone_over (omega (arith, g.1.entries, g.0.kept.entries)) g.0.kept;
  room = record {
    lists = g.0.room.lists;
    pairs = g.0.room.pairs;
    numbers = g.0.room.numbers;
    room = g.0.room.room;
    unpaired = λ n k low high. absurd (omega (arith, low, high, g.1.pairs));
  };
}
well_decided t l w f (watched.Falsified n) rest g = absurd (rests_not_false t.entries (numbered t.clauses n) (rest n g.1.number) g.1.falsified)

-- going back
pub well_back : (t : TrailState) (f k : ℕ) (old new : Watches) → IsTrail t → k ≤ t.level → new.gone_over ≤ old.gone_over → new.gone_over ≤ length (up_to k t.entries) → (new.gone_over ≡ old.gone_over) ⊎ (new.gone_over ≡ length (up_to k t.entries)) → new.pairs ≡ old.pairs → new.lists ≡ old.lists → WatchesWell t old f old.gone_over → WatchesWell (back_at t k) new f new.gone_over
well_back t f k old new trail level low short which p q w = record {
  kept = subst (λ ps. IsKept (back_at t k) ps new.lists.items new.gone_over) (sym (ap (λ v. v.items) p))
      (subst (λ ls. IsKept (back_at t k) old.pairs.items ls new.gone_over) (sym (ap (λ v. v.items) q))
      (kept_back t k old.pairs.items old.lists.items old.gone_over new.gone_over trail level low short which w.kept));
  room = record {
    lists = ap (λ v. length v.items) q ∙ w.room.lists;
    pairs = omega (arith, ap vec_capacity p, w.room.pairs);
    numbers = λ l i b.
        let e = w.room.numbers l i (omega (arith, b, ap (λ v. length (list_of v.items l)) q)) in
        subst (λ x. (1 ≤ x) × (x ≤ length new.pairs.items)) (ap (λ v. get_or (list_of v.items l) i 0) (sym q)) (e.0, omega (arith, e.1, ap (λ v. length v.items) p));
    room = λ l v. omega (arith, ap (λ x. length (list_of x.items l)) q, ap (λ x. room_of x.items l) q, ap (λ x. count x.items l) p, w.room.room l v);
    unpaired = λ n j a b c. subst (λ es. IsOpen (values_of es) (numbered t.clauses n)) (sym (up_to-up_to t.entries j k (omega (arith, c)))) (w.room.unpaired n j (omega (arith, a, ap (λ v. length v.items) p)) b (omega (arith, c, level)));
  };
}
  where
    count : List Pair → Lit → ℕ
    count ps l = unwatched f t.clauses ps l

-- a new trail
pub new_watching : (vars : ℕ) (p : TrailState) (w : Watches) (s : Shorts) → p ≡ record { vars = vars; clauses = []; entries = []; level = 0 } → IsTrail p → HasNone vars w → HasNoShorts vars s → IsWatching p w s
new_watching vars p w s e h n m = record {
  trail = h;
  well = subst (λ t. WatchesWell t w s.fixed w.gone_over) (sym e) (well_new vars s.fixed w n);
  shorts = subst (λ t. HasShorts t.vars t.clauses s.fixed (lists_of s)) (sym e) (has_shorts_none vars s m);
  marked = λ i d l. absurd (omega (arith, l, ap length n.pairs));
  due = λ i k low. absurd (omega (arith, k.above, k.within, ap (λ (t : TrailState). length t.clauses) e));
}

-- the literals of a clause have lists
pub have_lists : (t seen : TrailState) (w : Watches) (f : ℕ) (c : List Lit) → t ≡ seen → WatchesWell t w f w.gone_over → IsWithin seen.vars c → HaveLists w c
have_lists t seen w f c e h o l k = code_within t w f (held_in w.lists.items) l h.room (subst (λ (s : TrailState). IsVariable s.vars l.var) (sym e) (variable_of seen.vars c l o k))

-- the literals of a clause have lists of clauses of at most three literals
pub have_short_lists : (t seen : TrailState) (w : Watches) (s : Shorts) (c : List Lit) → t ≡ seen → s.flat ≡ [] → IsWatching t w s → IsWithin seen.vars c → HaveShortLists s c
have_short_lists t seen w s c e g h o = have_lists_shorts t.vars t.clauses s c g h.shorts (subst (λ (x : TrailState). IsWithin x.vars c) (sym e) o)

pub watching_wider : (t : TrailState) (old new : Watches) (s : Shorts) → IsWatching t old s → IsWider old new → IsWatching t new s
watching_wider t old new s h w = record {
  trail = h.trail;
  well = well_wider t s.fixed old new w.pairs w.capacity w.size w.numbers w.rooms w.gone_over h.well;
  shorts = h.shorts;
  marked = subst (AreMarked t.clauses s.fixed) (sym w.pairs) h.marked;
  due = λ n k low. subst (λ g. is_fixed s.fixed n (numbered t.clauses n) ≡ true → IsDue t.entries g (numbered t.clauses n)) (sym w.gone_over) (h.due n k (omega (arith, low, ap length w.pairs)));
}

-- the lists of clauses of at most three literals have the same clauses
pub watching_same : (t : TrailState) (w : Watches) (old new : Shorts) → IsWatching t w old → SameLists old new → IsWatching t w new
watching_same t w old new h s = record {
  trail = h.trail;
  well = subst (λ f. WatchesWell t w f w.gone_over) (sym s.fixed) h.well;
  shorts = has_shorts_same t.vars t.clauses old new s h.shorts;
  marked = subst (λ f. AreMarked t.clauses f w.pairs.items) (sym s.fixed) h.marked;
  due = subst (λ f. AreDue t f (length w.pairs.items) w.gone_over) (sym s.fixed) h.due;
}

-- which of the earlier clauses stand in the lists of their literals once one more was counted or not
pub class_kept : (takes : Bool) (f n count : ℕ) → (takes ≡ true → f ≡ count) → f ≤ count → count ≤ n → (m : ℕ) (x : List Lit) → m ≤ count → is_fixed (cond takes n f) m x ≡ true → is_fixed f m x ≡ true
class_kept true f n count o few more m x l h = fixed_by f m x (omega (arith, l, o refl)) (fixed_short n m x h)
class_kept false f n count o few more m x l h = h

pub class_grows : (takes : Bool) (f n count : ℕ) → f ≤ count → count ≤ n → (m : ℕ) (x : List Lit) → m ≤ count → is_fixed f m x ≡ true → is_fixed (cond takes n f) m x ≡ true
class_grows true f n count few more m x l h = fixed_by n m x (omega (arith, fixed_within f m x h, few, more)) (fixed_short f m x h)
class_grows false f n count few more m x l h = h

-- the lists, after the clause was entered or not
shorts_added : (takes : Bool) (vars : ℕ) (cs : List (List Lit)) (c : List Lit) (n : ℕ) (same entered : Shorts) → n ≡ length cs + 1 → (takes ≡ true → same.fixed ≡ length cs) → (takes ≡ true → same.flat ≡ []) → has_distinct_variables c ≡ true → ((takes && is_short c) ≡ true → Enters same entered n c) → ((takes && is_short c) ≡ false → entered ≡ same) → HasShorts vars cs same.fixed (lists_of same) → HasShorts vars (cs ++ c ∷ []) (cond takes n same.fixed) (lists_of entered)
shorts_added true vars cs c n same entered number o grows u short long k = elim (cases_Bool (is_short c)) [
  | inl y ↦
      subst (HasShorts vars (cs ++ c ∷ []) n) (sym (growing_count entered ((short y).flat ∙ grows refl)))
      (has_shorts_entered vars cs c n same entered number y u (short y) (subst (HasShorts vars cs (length cs)) (growing_count same (grows refl)) (subst (λ f. HasShorts vars cs f (lists_of same)) (o refl) k)))
  | inr y ↦
      subst (λ (x : Shorts). HasShorts vars (cs ++ c ∷ []) n (lists_of x)) (sym (long y))
      (has_shorts_long vars cs c same.fixed n (lists_of same) (omega (arith, number)) (λ h. both_ways (is_short c) y (fixed_short n (length cs + 1) c h))
      (class_kept true same.fixed n (length cs) o k.few (omega (arith, number))) k)
]
shorts_added false vars cs c n same entered number o grows u short long k =
    subst (λ (x : Shorts). HasShorts vars (cs ++ c ∷ []) same.fixed (lists_of x)) (sym (long refl))
    (has_shorts_long vars cs c same.fixed same.fixed (lists_of same) (omega (arith, k.few)) (λ h. absurd (omega (arith, k.few, fixed_within same.fixed (length cs + 1) c h))) (λ m x l h. h) k)

-- a clause was added
pub watching_added : (takes : Bool) (t after seen : TrailState) (old new : Watches) (before same entered counted : Shorts) (c : List Lit) (count n : ℕ) → t ≡ seen → IsWatching t old before → MayAdd seen c → has_distinct_variables c ≡ true → count ≡ length t.clauses → IsWider old new → ((takes && is_short c) ≡ false → HavePlaces old new c) → count + 1 ≤ vec_capacity new.pairs → SameShorts before same → (takes ≡ true → before.fixed ≡ count) → (takes ≡ true → before.flat ≡ []) → ((takes && is_short c) ≡ true → Enters same entered n c) → ((takes && is_short c) ≡ false → entered ≡ same) → counted.growing ≡ entered.growing → counted.flat ≡ entered.flat → counted.fixed ≡ cond takes n entered.fixed → n ≡ length t.clauses + 1 → after ≡ with_clause t c → IsTrail after → IsWatching after new counted
watching_added takes t after seen old new before same entered counted c count n e h may u q w p room s takes_all grows short long lists flat fixed number ok trail = record {
  trail = trail;
  well = subst (λ x. WatchesWell x new counted.fixed new.gone_over) (sym ok)
      (subst (λ f. WatchesWell (with_clause t c) new f new.gone_over) (sym fixed_is)
      (well_added t c takes same.fixed n old new h.trail (subst (λ x. MayAdd x c) (sym e) may) number kept.few (widens old new c (takes && is_short c) (length t.clauses) w p (omega (arith, q, room)))
      (subst (λ f. WatchesWell t old f old.gone_over) (sym s.fixed) h.well)));
  shorts = subst (λ (x : TrailState). HasShorts x.vars x.clauses counted.fixed (lists_of counted)) (sym ok)
      (subst (λ f. HasShorts t.vars (t.clauses ++ c ∷ []) f (lists_of counted)) (sym fixed_is)
      (subst (HasShorts t.vars (t.clauses ++ c ∷ []) (cond takes n same.fixed)) (sym (ap (λ v. lists_in counted.flat v.items) lists ∙ ap (λ r. lists_in r entered.growing.items) flat))
      (shorts_added takes t.vars t.clauses c n same entered number (λ o. s.fixed ∙ (takes_all o ∙ q)) (λ o. s.flat ∙ grows o) u short long kept)));
  marked = subst (λ (x : TrailState). AreMarked x.clauses counted.fixed new.pairs.items) (sym ok)
      (subst (λ f. AreMarked (t.clauses ++ c ∷ []) f new.pairs.items) (sym fixed_is)
      (marked_added t.clauses c same.fixed (cond takes n same.fixed) old.pairs.items new.pairs.items h.well.kept.few w.pairs
      (class_grows takes same.fixed n (length t.clauses) kept.few (omega (arith, number)))
      (subst (λ f. AreMarked t.clauses f old.pairs.items) (sym s.fixed) h.marked)));
  due = subst (λ x. AreDue x counted.fixed (length new.pairs.items) new.gone_over) (sym ok)
      (subst (λ f. AreDue (with_clause t c) f (length new.pairs.items) new.gone_over) (sym fixed_is)
      (due_added t c same.fixed (cond takes n same.fixed) (length new.pairs.items) new.gone_over (omega (arith, ap length w.pairs, h.well.kept.few))
      (class_kept takes same.fixed n (length t.clauses) (λ o. s.fixed ∙ (takes_all o ∙ q)) kept.few (omega (arith, number)))
      (watching_same t new before same (watching_wider t old new before h w) (same_lists before same s)).due));
}
  where
    kept : HasShorts t.vars t.clauses same.fixed (lists_of same)
    kept = has_shorts_same t.vars t.clauses before same (same_lists before same s) h.shorts

    entered_fixed : entered.fixed ≡ same.fixed
    entered_fixed = elim (cases_Bool (takes && is_short c)) [ inl y ↦ (short y).fixed | inr y ↦ ap (λ (x : Shorts). x.fixed) (long y) ]

    fixed_is : counted.fixed ≡ cond takes n same.fixed
    fixed_is = fixed ∙ ap (cond takes n) entered_fixed

-- a clause was not added
pub watching_refused : (t after : TrailState) (old new : Watches) (before same : Shorts) → IsWatching t old before → IsWider old new → SameShorts before same → after ≡ t → IsWatching after new same
watching_refused t after old new before same h w s err = subst (λ x. IsWatching x new same) (sym err) (watching_same t new before same (watching_wider t old new before h w) (same_lists before same s))

-- what propagation answers
pub gives_number : (t : TrailState) (w : Watches) (f : ℕ) (r : Watched) (o : Option ℕ) → o ≡ number_of r → WatchGives t w f r → IfSome o (IsNumber t.clauses)
gives_number t w f watched.Rests o e g = subst (λ x. IfSome x (IsNumber t.clauses)) (sym e) tt
gives_number t w f (watched.Falsified n) o e g = subst (λ x. IfSome x (IsNumber t.clauses)) (sym e) g.1.number

pub gives_conflict : (t : TrailState) (w : Watches) (f : ℕ) (r : Watched) (o : Option ℕ) → o ≡ number_of r → WatchGives t w f r → IfSome o (λ n. IsFalsified (values_of t.entries) (numbered t.clauses n))
gives_conflict t w f watched.Rests o e g = subst (λ x. IfSome x (λ n. IsFalsified (values_of t.entries) (numbered t.clauses n))) (sym e) tt
gives_conflict t w f (watched.Falsified n) o e g = subst (λ x. IfSome x (λ n. IsFalsified (values_of t.entries) (numbered t.clauses n))) (sym e) g.1.falsified

pub gives_rest : (t : TrailState) (w : Watches) (f : ℕ) (r : Watched) (o : Option ℕ) → o ≡ number_of r → WatchGives t w f r → IfNone o (AllRest t.clauses (values_of t.entries))
gives_rest t w f watched.Rests o e g = subst (λ x. IfNone x (AllRest t.clauses (values_of t.entries))) (sym e) g.1.rest
gives_rest t w f (watched.Falsified n) o e g = subst (λ x. IfNone x (AllRest t.clauses (values_of t.entries))) (sym e) tt

abbrev some_entry : Entry
some_entry = record { lit = record { var = 0; negated = false }; decision_level = 0; reason = None }

-- propagation before a decision changes nothing
pub still_there : (t new seen : TrailState) → t ≡ seen → AllRest seen.clauses (values_of seen.entries) → Propagates t new → IsTrail new → new ≡ seen
still_there t new seen e r p h = stays_still t new some_entry (subst (λ (s : TrailState). AllRest s.clauses (values_of s.entries)) (sym e) r) p h ∙ e

pub watching_decided : (t new after seen : TrailState) (l : Lit) (old w : Watches) (s : Shorts) (r : Watched) → t ≡ seen → IsWatching t old s → AllRest seen.clauses (values_of seen.entries) → Propagates t new → IsTrail new → WatchGives new w s.fixed r → AreMarked new.clauses s.fixed w.pairs.items → AreDue new s.fixed (length w.pairs.items) w.gone_over → after ≡ with_decision new l → IsTrail after → IsWatching after w s
watching_decided t new after seen l old w s r e h rest p trail_new g marked due q trail = record {
  trail = trail;
  well = subst (λ x. WatchesWell x w s.fixed w.gone_over) (sym q)
      (well_decided new l w s.fixed r (subst (λ (x : TrailState). AllRest x.clauses (values_of x.entries)) (sym (still_there t new seen e rest p trail_new)) rest) g);
  shorts = subst (λ (x : TrailState). HasShorts x.vars x.clauses s.fixed (lists_of s)) (sym q) (shorts_propagate t new s p h.shorts);
  marked = subst (λ (x : TrailState). AreMarked x.clauses s.fixed w.pairs.items) (sym q) marked;
  due = subst (λ x. AreDue x s.fixed (length w.pairs.items) w.gone_over) (sym q) (due_decided new l s.fixed (length w.pairs.items) w.gone_over (well_watched new w s.fixed r g).kept.entries due);
}

pub watching_back : (t after seen : TrailState) (k : ℕ) (old new : Watches) (s : Shorts) (count : ℕ) → t ≡ seen → IsWatching t old s → k ≤ seen.level → after ≡ back_at t k → IsTrail after → count ≡ length after.entries → new.gone_over ≤ old.gone_over → new.gone_over ≤ count → (new.gone_over ≡ old.gone_over) ⊎ (new.gone_over ≡ count) → new.pairs ≡ old.pairs → new.lists ≡ old.lists → IsWatching after new s
watching_back t after seen k old new s count e h level q trail c low high which p l =
    let size : count ≡ length (up_to k t.entries) = c ∙ ap (λ (x : TrailState). length x.entries) q in
    let which_size : (new.gone_over ≡ old.gone_over) ⊎ (new.gone_over ≡ length (up_to k t.entries)) = elim which [ inl x ↦ inl x | inr x ↦ inr (x ∙ size) ] in
    let level_is : k ≤ t.level = subst (λ (x : TrailState). k ≤ x.level) (sym e) level in
    record {
      trail = trail;
      well = subst (λ x. WatchesWell x new s.fixed new.gone_over) (sym q) (well_back t s.fixed k old new h.trail level_is low (omega (arith, high, size)) which_size p l h.well);
      shorts = subst (λ (x : TrailState). HasShorts x.vars x.clauses s.fixed (lists_of s)) (sym q) h.shorts;
      marked = subst (λ (x : TrailState). AreMarked x.clauses s.fixed new.pairs.items) (sym q) (subst (AreMarked t.clauses s.fixed) (sym (ap (λ v. v.items) p)) h.marked);
      due = subst (λ x. AreDue x s.fixed (length new.pairs.items) new.gone_over) (sym q)
          (subst (λ m. AreDue (back_at t k) s.fixed m new.gone_over) (sym (ap (λ v. length v.items) p)) (due_back t s.fixed k (length old.pairs.items) old.gone_over new.gone_over h.trail level_is h.well.kept.entries low which_size h.due));
    }
