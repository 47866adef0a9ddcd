-- What appended entries and going back keep of watched literals.
use Rattle.std.proofs.Common.{◌≡◌, ℕ, ◌+◌, ◌-◌, ◌<◌, ◌≤◌, Bool, true, false, not, leb, eqb, List, [], ◌∷◌, ◌++◌, length, get_or, take, Option, Some, None, refl, sym, ap, ◌∙◌, subst, arith, ◌⊎◌, inl, inr}
use Rattle.std.specs.Option.{option_map}
use Rattle.std.proofs.lemmas.Bool.{leb-true, le-leb}
use Rattle.std.proofs.lemmas.List.{take-take, take_all, take_at, get_or-take, get_or_push, length_push}
use Rattle.clause_base.specs.declared.literal.Lit.{Lit}
use Rattle.clause_base.specs.Acceptance.{numbered}
use Rattle.trail_core.specs.declared.entry.Entry.{Entry}
use Rattle.trail_core.specs.declared.watches.Pair.{Pair}
use Rattle.trail_core.specs.Values.{IsFalseIn, Rests, satisfied, open_at_two}
use Rattle.trail_core.specs.TrailState.{TrailState, IsTrail, IsNumber, AllRest, entry_of, values_of, level_in, up_to, back_at, with_decision}
use Rattle.trail_core.specs.Listing.{Listing}
use Rattle.trail_core.specs.Watching.{IsCovered, IsWatch, IsSettled, IsPaired, settled, in_lists, watched, is_mark, IsKept}
use Rattle.trail_core.proofs.Lists.{find-take_some, find-filter_passes, find-filter_keeps, filter_at}
use Rattle.trail_core.proofs.Levels.{IsLeveled, up_to_front, up_to-length}
use Rattle.trail_core.proofs.Truth.{mapped, values-take_some}

-- the old entries are a front of the new ones
abbrev pub IsFront : List Entry → List Entry → Type 0
IsFront old new = take (length old) new ≡ old

abbrev level_of : Entry → ℕ
level_of e = e.decision_level

abbrev value_of : Entry → Bool
value_of e = not e.lit.negated

pub front_push : (es : List Entry) (e : Entry) → IsFront es (es ++ e ∷ [])
front_push es e = take_at es (e ∷ []) (length es) refl

pub values_front : (old new : List Entry) (v : ℕ) (b : Bool) → IsFront old new → values_of old v ≡ Some b → values_of new v ≡ Some b
values_front old new v b f h = values-take_some new (length old) v b (ap (λ es. values_of es v) f ∙ h)

pub entry_front : (old new : List Entry) (v : ℕ) (b : Bool) → IsFront old new → values_of old v ≡ Some b → entry_of new v ≡ entry_of old v
entry_front old new v b f h =
    let s = mapped value_of (entry_of old v) b h in
    find-take_some (λ (e : Entry). eqb e.lit.var v) new (length old) s.value (ap (λ es. entry_of es v) f ∙ s.is) ∙ sym s.is

pub level_front : (old new : List Entry) (v : ℕ) (b : Bool) → IsFront old new → values_of old v ≡ Some b → level_in new v ≡ level_in old v
level_front old new v b f h = ap (option_map level_of) (entry_front old new v b f h)

pub covered_front : (old new : List Entry) (w o : Lit) (b : Bool) → IsFront old new → values_of old w.var ≡ Some b → IsCovered old w o → IsCovered new w o
covered_front old new w o b f h c = record {
  is_true = values_front old new o.var (not o.negated) f c.is_true;
  level = λ i j p q. c.level i j (sym (level_front old new o.var (not o.negated) f c.is_true) ∙ p) (sym (level_front old new w.var b f h) ∙ q);
}

-- the part of the entries that was gone over stays
pub part_front : (old new : List Entry) (g : ℕ) → IsFront old new → g ≤ length old → take g new ≡ take g old
part_front old new g f l = sym (take-take g (length old) new l) ∙ ap (take g) f

pub watch_front : (old new : List Entry) (g : ℕ) (lists : List Listing) (n : ℕ) (x y : Lit) → IsFront old new → g ≤ length old → IsWatch old g lists n x y → IsWatch new g lists n x y
watch_front old new g lists n x y f l w = record {
  listed = w.listed;
  covered = λ h.
      let before : IsFalseIn (values_of (take g old)) x = ap (λ es. values_of es x.var) (sym (part_front old new g f l)) ∙ h in
      covered_front old new x y x.negated f (values-take_some old g x.var x.negated before) (w.covered before);
}

pub settled_front : (old new : List Entry) (c : List Lit) → IsFront old new → IsSettled old c → IsSettled new c
settled_front old new c f s = record {
  literal = s.literal;
  member = s.member;
  is_true = values_front old new s.literal.var (not s.literal.negated) f s.is_true;
  level = level_front old new s.literal.var (not s.literal.negated) f s.is_true ∙ s.level;
}

pub paired_map : (old new : List Entry) (W V : Lit → Lit → Type 0) (c : List Lit) (p : Pair) → (IsSettled old c → IsSettled new c) → ((x y : Lit) → W x y → V x y) → IsPaired old W c p → IsPaired new V c p
paired_map old new W V c p f g (settled s z) = settled (f s) z
paired_map old new W V c p f g (in_lists s z) = in_lists s z
paired_map old new W V c p f g (watched a b n u v) = watched a b n (g p.first p.second u) (g p.second p.first v)

-- a decision, where all entries were gone over
pub kept_decided : (t : TrailState) (l : Lit) (pairs : List Pair) (lists : List Listing) (g : ℕ) → g ≡ length t.entries → IsKept t pairs lists g → IsKept (with_decision t l) pairs lists g
kept_decided t l pairs lists g q h = record {
  few = h.few;
  entries = omega (arith, q, size);
  present = λ place d low high. subst (λ (x : Entry). x.decision_level ≡ t.level + 1) (sym (get_or_push t.entries e d place (omega (arith, q, low, high, size)))) refl;
  paired = λ i d m. paired_map t.entries (t.entries ++ e ∷ []) (IsWatch t.entries g lists (i + 1)) (IsWatch (t.entries ++ e ∷ []) g lists (i + 1)) (numbered t.clauses (i + 1)) (get_or pairs i d)
      (settled_front t.entries (t.entries ++ e ∷ []) (numbered t.clauses (i + 1)) (front_push t.entries e))
      (λ x y. watch_front t.entries (t.entries ++ e ∷ []) g lists (i + 1) x y (front_push t.entries e) (omega (arith, q))) (h.paired i d m);
}
  where
    e : Entry
    e = record { lit = l; decision_level = t.level + 1; reason = None }

    size : length (t.entries ++ e ∷ []) ≡ length t.entries + 1
    size = length_push t.entries e

-- an entry of a low level stays
pub back_keeps : (old : List Entry) (k v : ℕ) (e : Entry) → entry_of old v ≡ Some e → e.decision_level ≤ k → entry_of (up_to k old) v ≡ entry_of old v
back_keeps old k v e h l = find-filter_keeps (λ (x : Entry). eqb x.lit.var v) (λ (x : Entry). leb x.decision_level k) old e h (le-leb _ _ l) ∙ sym h

pub settled_back : (old : List Entry) (k : ℕ) (c : List Lit) → IsSettled old c → IsSettled (up_to k old) c
settled_back old k c s =
    let e = mapped level_of (entry_of old s.literal.var) 0 s.level in
    let same : entry_of (up_to k old) s.literal.var ≡ entry_of old s.literal.var = back_keeps old k s.literal.var e.value e.is (omega (arith, e.gives)) in
    record { literal = s.literal; member = s.member; is_true = ap (option_map value_of) same ∙ s.is_true; level = ap (option_map level_of) same ∙ s.level }

pub watch_back : (old : List Entry) (k g h : ℕ) (lists : List Listing) (n : ℕ) (x y : Lit) → IsLeveled old → h ≤ g → h ≤ length (up_to k old) → IsWatch old g lists n x y → IsWatch (up_to k old) h lists n x y
watch_back old k g h lists n x y leveled low short w = record { listed = w.listed; covered = covered }
  where
    front : up_to k old ≡ take (length (up_to k old)) old
    front = up_to_front old k leveled

    part : take h (up_to k old) ≡ take h old
    part = ap (take h) front ∙ take-take h (length (up_to k old)) old short

    covered : IsFalseIn (values_of (take h (up_to k old))) x → IsCovered (up_to k old) x y
    covered f =
        let inside : IsFalseIn (values_of (take g old)) x = values-take_some (take g old) h x.var x.negated (ap (λ es. values_of es x.var) (take-take h g old low) ∙ (ap (λ es. values_of es x.var) (sym part) ∙ f)) in
        let c = w.covered inside in
        let ex = mapped value_of (entry_of (up_to k old) x.var) x.negated (values-take_some (up_to k old) h x.var x.negated f) in
        let ey = mapped value_of (entry_of old y.var) (not y.negated) c.is_true in
        let oldx : entry_of old x.var ≡ Some ex.value = find-take_some (λ (e : Entry). eqb e.lit.var x.var) old (length (up_to k old)) ex.value (ap (λ es. entry_of es x.var) (sym front) ∙ ex.is) in
        let below : ex.value.decision_level ≤ k = leb-true ex.value.decision_level k (find-filter_passes (λ (e : Entry). eqb e.lit.var x.var) (λ (e : Entry). leb e.decision_level k) old ex.value ex.is) in
        let le : ey.value.decision_level ≤ ex.value.decision_level = c.level ey.value.decision_level ex.value.decision_level (ap (option_map level_of) ey.is) (ap (option_map level_of) oldx) in
        let same_y : entry_of (up_to k old) y.var ≡ entry_of old y.var = back_keeps old k y.var ey.value ey.is (omega (arith, le, below)) in
        let same_x : entry_of (up_to k old) x.var ≡ entry_of old x.var = ex.is ∙ sym oldx in
        record {
          is_true = ap (option_map value_of) same_y ∙ c.is_true;
          level = λ i j p q. c.level i j (sym (ap (option_map level_of) same_y) ∙ p) (sym (ap (option_map level_of) same_x) ∙ q);
        }

-- going back
pub kept_back : (t : TrailState) (k : ℕ) (pairs : List Pair) (lists : List Listing) (g h : ℕ) → IsTrail t → k ≤ t.level → h ≤ g → h ≤ length (up_to k t.entries) → (h ≡ g) ⊎ (h ≡ length (up_to k t.entries)) → IsKept t pairs lists g → IsKept (back_at t k) pairs lists h
kept_back t k pairs lists g h trail level low short which kept = record {
  few = kept.few;
  entries = short;
  present = present;
  paired = λ i d m. paired_map t.entries (up_to k t.entries) (IsWatch t.entries g lists (i + 1)) (IsWatch (up_to k t.entries) h lists (i + 1)) (numbered t.clauses (i + 1)) (get_or pairs i d)
      (settled_back t.entries k (numbered t.clauses (i + 1)))
      (λ x y. watch_back t.entries k g h lists (i + 1) x y trail.leveled low short) (kept.paired i d m);
}
  where
    present : (place : ℕ) (d : Entry) → h ≤ place → place < length (up_to k t.entries) → (get_or (up_to k t.entries) place d).decision_level ≡ k
    present place d a b =
        let here : get_or (up_to k t.entries) place d ≡ get_or t.entries place d = ap (λ es. get_or es place d) (up_to_front t.entries k trail.leveled) ∙ get_or-take (length (up_to k t.entries)) t.entries place d b in
        let upper : (get_or (up_to k t.entries) place d).decision_level ≤ k = leb-true (get_or (up_to k t.entries) place d).decision_level k (filter_at (λ (e : Entry). leb e.decision_level k) t.entries place d b) in
        elim which [
          | inl q ↦ let present_level : (get_or t.entries place d).decision_level ≡ t.level = kept.present place d (omega (arith, q, a)) (omega (arith, b, up_to-length t.entries k)) in
              omega (arith, upper, level, ap level_of here, present_level)
          | inr q ↦ absurd (omega (arith, q, a, b))
        ]

cases_value : (o : Option Bool) (b : Bool) → (o ≡ Some b) ⊎ ((o ≡ Some (not b)) ⊎ (o ≡ None))
cases_value None b = inr (inr refl)
cases_value (Some true) true = inl refl
cases_value (Some true) false = inr (inl refl)
cases_value (Some false) true = inr (inl refl)
cases_value (Some false) false = inl refl

-- a paired clause rests, where all entries were gone over
pub paired_rests : (es : List Entry) (g : ℕ) (lists : List Listing) (n : ℕ) (c : List Lit) (p : Pair) → length es ≤ g → (is_mark p ≡ true → Rests (values_of es) c) → IsPaired es (IsWatch es g lists n) c p → Rests (values_of es) c
paired_rests es g lists n c p l due (settled s z) = satisfied s.literal s.member s.is_true
paired_rests es g lists n c p l due (in_lists s z) = due s
paired_rests es g lists n c p l due (watched a b apart u v) =
    let all : take g es ≡ es = take_all g es l in
    elim (cases_value (values_of es p.first.var) p.first.negated) [
      | inl f ↦ satisfied p.second b (u.covered (ap (λ xs. values_of xs p.first.var) all ∙ f)).is_true
      | inr r ↦ elim r [
        | inl t ↦ satisfied p.first a t
        | inr none ↦ elim (cases_value (values_of es p.second.var) p.second.negated) [
          | inl f ↦ satisfied p.first a (v.covered (ap (λ xs. values_of xs p.second.var) all ∙ f)).is_true
          | inr q ↦ elim q [ inl t ↦ satisfied p.second b t | inr free ↦ open_at_two p.first p.second a b apart none free ]
        ]
      ]
    ]

-- where each clause is paired, and all entries were gone over, all clauses rest
pub kept_rests : (t : TrailState) (pairs : List Pair) (lists : List Listing) (g : ℕ) (d : Pair) → length t.clauses ≤ length pairs → length t.entries ≤ g → ((n : ℕ) → IsNumber t.clauses n → is_mark (get_or pairs (n - 1) d) ≡ true → Rests (values_of t.entries) (numbered t.clauses n)) → IsKept t pairs lists g → AllRest t.clauses (values_of t.entries)
kept_rests t pairs lists g d all over due h n k =
    let q : n - 1 + 1 ≡ n = omega (arith, k.above) in
    subst (λ m. Rests (values_of t.entries) (numbered t.clauses m)) q
    (paired_rests t.entries g lists (n - 1 + 1) (numbered t.clauses (n - 1 + 1)) (get_or pairs (n - 1) d) over (λ m. subst (λ x. Rests (values_of t.entries) (numbered t.clauses x)) (sym q) (due n k m)) (h.paired (n - 1) d (omega (arith, k.above, k.within, all))))
