-- The literal at which propagation goes on.
use Rattle.std.proofs.Common.{◌≡◌, ℕ, zero, suc, ◌+◌, ◌-◌, ◌<◌, ◌≤◌, Bool, true, false, not, eqb, List, [], ◌∷◌, ◌++◌, length, get_or, take, drop, Some, None, refl, sym, ap, ◌∙◌, subst, arith}
use Rattle.std.specs.Prelude.{IsSome, slice_get}
use Rattle.std.specs.Option.{option_map, option_or}
use Rattle.std.proofs.lemmas.Bool.{eq-eqb}
use Rattle.std.proofs.lemmas.List.{take-append-drop, drop_more}
use Rattle.std.proofs.lemmas.List.Folds.{find-append}
use Rattle.loc_base.proofs.ShelfOptions.{option_map-none, option_map-some}
use Rattle.clause_base.specs.declared.literal.Lit.{Lit}
use Rattle.clause_base.specs.Literal.{opposite}
use Rattle.trail_core.specs.declared.entry.Entry.{Entry}
use Rattle.trail_core.specs.TrailState.{TrailState, IsTrail, entry_of}
use Rattle.trail_core.specs.declared.watches.Pair.{Pair}
use Rattle.trail_core.specs.declared.watches.Watches.{Watches}
use Rattle.clause_base.specs.Acceptance.{numbered}
use Rattle.trail_core.specs.Watching.{is_fixed, AreMarked}
use Rattle.trail_core.specs.Shorts.{AreDue}
use Rattle.trail_core.specs.declared.watch.Watched.{Watched}
use Rattle.trail_core.specs.declared.watch.Watched.TheVariants as watched
use Rattle.trail_core.proofs.Counting.{unwatched-paired}
use Rattle.trail_core.proofs.Due.{due_done}
use Rattle.trail_core.specs.Visits.{SweepGives, IsGone, WatchesWell, IsDone}
use Rattle.trail_core.proofs.Keeping.{kept_rests}
use Rattle.trail_core.proofs.Listing.{at_any}

-- an entry is that of its variable
entry_there : (es : List Entry) (g : ℕ) (d : Entry) → g < length es → entry_of (take g es) (get_or es g d).lit.var ≡ None → entry_of es (get_or es g d).lit.var ≡ Some (get_or es g d)
entry_there es g d l none =
    let e : Entry = get_or es g d in
    let p : Entry → Bool = λ (x : Entry). eqb x.lit.var e.lit.var in
    let split : take g es ++ (e ∷ drop (g + 1) es) ≡ es = ap (λ xs. take g es ++ xs) (sym (drop_more es g d l)) ∙ take-append-drop g es in
    let yes : p e ≡ true = eq-eqb e.lit.var e.lit.var refl in
    ap (λ xs. entry_of xs e.lit.var) (sym split)
    ∙ (find-append p (take g es) (e ∷ drop (g + 1) es) ∙ (ap (λ o. option_or o (entry_of (e ∷ drop (g + 1) es) e.lit.var)) none ∙ rw yes refl))

-- the opposite of the literal at the place is gone
pub gone_at : (t : TrailState) (g : ℕ) (d : Entry) → IsTrail t → g < length t.entries → (get_or t.entries g d).decision_level ≡ t.level → IsGone t g (opposite (get_or t.entries g d).lit)
gone_at t g d h l level = record {
  variable = (h.justified g d l).variable;
  is_false = ap (option_map (λ (x : Entry). not x.lit.negated)) there;
  level = ap (option_map (λ (x : Entry). x.decision_level)) there ∙ ap Some level;
  later = (h.justified g d l).unassigned;
  here = λ e. ap (λ (x : Entry). x.lit.var) (at_any t.entries g e d l);
}
  where
    there : entry_of t.entries (get_or t.entries g d).lit.var ≡ Some (get_or t.entries g d)
    there = entry_there t.entries g d l (option_map-none (λ (x : Entry). not x.lit.negated) (entry_of (take g t.entries) (get_or t.entries g d).lit.var) (h.justified g d l).unassigned)

-- what an option of a list's element says of its place
got : {X : Type 0} (xs : List X) (i : ℕ) (x : X) → slice_get xs i ≡ Some x → (i < length xs) × ((d : X) → get_or xs i d ≡ x)
got [] zero x h = cc
got [] (suc i) x h = cc
got (y ∷ ys) zero x h = (omega arith, λ d. cc)
got (y ∷ ys) (suc i) x h = let p = got ys i x h in (omega (arith, p.0), p.1)

-- the literal that is told at the place
pub gone_told : (t : TrailState) (g : ℕ) (l : Lit) → IsTrail t → ((place : ℕ) (d : Entry) → g ≤ place → place < length t.entries → (get_or t.entries place d).decision_level ≡ t.level) → option_map (λ (e : Entry). e.lit) (slice_get t.entries g) ≡ Some l → IsGone t g (opposite l)
gone_told t g l h present q =
    let m = option_map-some (λ (e : Entry). e.lit) (slice_get t.entries g) l q in
    let p = got t.entries g m.0 m.1 in
    subst (λ x. IsGone t g (opposite x)) (ap (λ (e : Entry). e.lit) (p.1 m.0) ∙ m.2) (gone_at t g m.0 h p.0 (present g m.0 (omega arith) p.0))

-- a literal is told of each place of the trail
pub told_there : (es : List Entry) (g : ℕ) → g < length es → IsSome (option_map (λ (e : Entry). e.lit) (slice_get es g))
told_there [] g l = absurd (omega (arith, l))
told_there (e ∷ es) zero l = refl
told_there (e ∷ es) (suc g) l = told_there es g (omega (arith, l))

-- all is done
pub done_at : (t : TrailState) (f : ℕ) (w : Watches) → WatchesWell t w f w.gone_over → length t.clauses ≤ length w.pairs.items → length t.entries ≤ w.gone_over → AreMarked t.clauses f w.pairs.items → AreDue t f (length w.pairs.items) w.gone_over → IsDone t w
done_at t f w h all over marked due = record {
  pairs = all;
  entries = over;
  rest = kept_rests t w.pairs.items w.lists.items w.gone_over empty all over (λ n k m.
      let q : n - 1 + 1 ≡ n = omega (arith, k.above) in
      due_done t.entries w.gone_over (numbered t.clauses n) over
      (due n k (omega (arith, k.within, all)) (subst (λ i. is_fixed f i (numbered t.clauses i) ≡ true) q (marked (n - 1) empty (omega (arith, k.above, k.within, all)) m)))) h.kept;
}
  where
    none : Lit
    none = record { var = 0; negated = false }

    empty : Pair
    empty = record { first = none; second = none }

-- one entry more was gone over
pub well_counted : (t : TrailState) (w : Watches) (f k g : ℕ) → WatchesWell t w f g → WatchesWell t record { pairs = w.pairs; lists = w.lists; gone_over = k } f g
well_counted t w f k g h = record {
  kept = h.kept;
  room = record { lists = h.room.lists; pairs = h.room.pairs; numbers = h.room.numbers; room = h.room.room; unpaired = h.room.unpaired };
}

-- where all clauses have pairs, the count of those in lists plays no part
pub well_paired : (t : TrailState) (w : Watches) (f h g : ℕ) → length t.clauses ≤ length w.pairs.items → WatchesWell t w f g → WatchesWell t w h g
well_paired t w f h g all k = record {
  kept = k.kept;
  room = record {
    lists = k.room.lists;
    pairs = k.room.pairs;
    numbers = k.room.numbers;
    room = λ l v. omega (arith, k.room.room l v, unwatched-paired f h t.clauses w.pairs.items l all);
    unpaired = k.room.unpaired;
  };
}

pub sweep_paired : (t : TrailState) (w : Watches) (f : ℕ) (r : Watched) → length t.clauses ≤ length w.pairs.items → SweepGives t w 0 r → SweepGives t w f r
sweep_paired t w f watched.Rests all g = well_paired t w 0 f (w.gone_over + 1) all g
sweep_paired t w f (watched.Falsified n) all g = (well_paired t w 0 f w.gone_over all g.0, g.1)
