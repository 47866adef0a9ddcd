-- Which clauses that stand in the lists of their literals are due, and what keeps them so.
use Rattle.std.proofs.Common.{◌≡◌, ◌≢◌, ℕ, ◌+◌, ◌<◌, ◌≤◌, Bool, true, false, not, List, [], ◌∷◌, ◌++◌, length, get_or, take, Some, None, refl, sym, ap, ◌∙◌, subst, arith, ◌⊎◌, inl, inr}
use Rattle.std.specs.Option.{option_map}
use Rattle.std.proofs.lemmas.Bool.{cases_lt, cases_eq, both_ways}
use Rattle.std.proofs.lemmas.List.{take_all, take_more}
use Rattle.clause_base.specs.declared.literal.Lit.{Lit}
use Rattle.clause_base.specs.Literal.{has}
use Rattle.clause_base.specs.Acceptance.{numbered}
use Rattle.clause_base.proofs.Sets.{lit_ext}
use Rattle.trail_core.specs.declared.entry.Entry.{Entry}
use Rattle.trail_core.specs.Values.{IsTrueIn, IsFalseIn, Rests, satisfied, open_at_two}
use Rattle.trail_core.specs.TrailState.{TrailState, IsTrail, IsNumber, Propagates, values_of, up_to, back_at, with_clause, with_decision}
use Rattle.trail_core.specs.Watching.{IsOpen, is_fixed}
use Rattle.trail_core.specs.Shorts.{IsDue, due_true, due_open, AreDue}
use Rattle.trail_core.proofs.Truth.{values-take_none}
use Rattle.trail_core.proofs.Levels.{up_to_all}
use Rattle.trail_core.proofs.LayoutLemmas.{entry_of_push_other}
use Rattle.trail_core.proofs.Keeping.{IsFront, front_push, part_front, values_front}
use Rattle.trail_core.proofs.Changes.{numbered-push_old}

-- a clause that rests is due, however many entries were gone over
pub due_rests : (es : List Entry) (g : ℕ) (c : List Lit) → Rests (values_of es) c → IsDue es g c
due_rests es g c (satisfied l h t) = due_true l h t
due_rests es g c (open_at_two l m h k d u v) = due_open record {
  one = l;
  two = m;
  has_one = h;
  has_two = k;
  apart = d;
  one_free = values-take_none es g l.var u;
  two_free = values-take_none es g m.var v;
}

-- where all entries were gone over, a clause that is due rests
pub due_done : (es : List Entry) (g : ℕ) (c : List Lit) → length es ≤ g → IsDue es g c → Rests (values_of es) c
due_done es g c l (due_true x h t) = satisfied x h t
due_done es g c l (due_open o) =
    let all : take g es ≡ es = take_all g es l in
    open_at_two o.one o.two o.has_one o.has_two o.apart (ap (λ xs. values_of xs o.one.var) (sym all) ∙ o.one_free) (ap (λ xs. values_of xs o.two.var) (sym all) ∙ o.two_free)

-- appended entries
pub due_front : (old new : List Entry) (g : ℕ) (c : List Lit) → IsFront old new → g ≤ length old → IsDue old g c → IsDue new g c
due_front old new g c f l (due_true x h t) = due_true x h (values_front old new x.var (not x.negated) f t)
due_front old new g c f l (due_open o) = due_open (subst (λ es. IsOpen (values_of es) c) (sym (part_front old new g f l)) o)

pub due_propagates : (t new : TrailState) (f count g : ℕ) → Propagates t new → g ≤ length t.entries → AreDue t f count g → AreDue new f count g
due_propagates t new f count g p l h n k low s =
    subst (λ cs. IsDue new.entries g (numbered cs n)) (sym p.clauses)
    (due_front t.entries new.entries g (numbered t.clauses n) p.prefix l (h n (subst (λ cs. IsNumber cs n) p.clauses k) low (subst (λ cs. is_fixed f n (numbered cs n) ≡ true) p.clauses s)))

-- a count of all clauses is as good as a greater one
pub due_all : (t : TrailState) (f a b g : ℕ) → length t.clauses ≤ a → AreDue t f a g → AreDue t f b g
due_all t f a b g l h n k low s = h n k (omega (arith, k.within, l)) s

-- one clause more that rests
pub due_more : (t : TrailState) (f a b g : ℕ) → b ≡ a + 1 → Rests (values_of t.entries) (numbered t.clauses (a + 1)) → AreDue t f a g → AreDue t f b g
due_more t f a b g q r h m k low s = elim (cases_lt a m) [
  | inl more ↦
      let same : a + 1 ≡ m = omega (arith, q, low, more) in
      subst (λ i. IsDue t.entries g (numbered t.clauses i)) same (due_rests t.entries g (numbered t.clauses (a + 1)) r)
  | inr less ↦ h m k less s
]

-- a variable has no value before the entry that comes next, but for its own
free_next : (es : List Entry) (g : ℕ) (d : Entry) (v : ℕ) → g < length es → (get_or es g d).lit.var ≢ v → values_of (take g es) v ≡ None → values_of (take (g + 1) es) v ≡ None
free_next es g d v l other h =
    ap (λ xs. values_of xs v) (take_more es g d l)
    ∙ (ap (option_map (λ (y : Entry). not y.lit.negated)) (entry_of_push_other (take g es) (get_or es g d) v other) ∙ h)

-- a literal of the variable that is gone: it is true, or the one that is gone
true_or_gone : (es : List Entry) (gone l : Lit) → IsFalseIn (values_of es) gone → l.var ≡ gone.var → (IsTrueIn (values_of es) l) ⊎ (l ≡ gone)
true_or_gone es gone l f e = by l.negated gone.negated refl refl
  where
    by : (a b : Bool) → l.negated ≡ a → gone.negated ≡ b → (IsTrueIn (values_of es) l) ⊎ (l ≡ gone)
    by true true p q = inr (lit_ext l gone e (p ∙ sym q))
    by false false p q = inr (lit_ext l gone e (p ∙ sym q))
    by true false p q = inl (ap (values_of es) e ∙ (f ∙ ap Some (q ∙ sym (ap not p))))
    by false true p q = inl (ap (values_of es) e ∙ (f ∙ ap Some (q ∙ sym (ap not p))))

-- the next entry was gone over, and the clause doesn't have the literal that became false by it
pub due_next : (es : List Entry) (g : ℕ) (d : Entry) (gone : Lit) (c : List Lit) → g < length es → IsFalseIn (values_of es) gone → (get_or es g d).lit.var ≡ gone.var → has c gone ≡ false → IsDue es g c → IsDue es (g + 1) c
due_next es g d gone c l f here lacking (due_true x h t) = due_true x h t
due_next es g d gone c l f here lacking (due_open o) = elim (cases_eq gone.var o.one.var) [
  | inl e ↦ own o.one o.has_one (sym e)
  | inr n ↦ elim (cases_eq gone.var o.two.var) [
    | inl e ↦ own o.two o.has_two (sym e)
    | inr m ↦ due_open record {
      one = o.one;
      two = o.two;
      has_one = o.has_one;
      has_two = o.has_two;
      apart = o.apart;
      one_free = free_next es g d o.one.var l (λ q. n (sym here ∙ q)) o.one_free;
      two_free = free_next es g d o.two.var l (λ q. m (sym here ∙ q)) o.two_free;
    }
  ]
]
  where
    own : (x : Lit) → has c x ≡ true → x.var ≡ gone.var → IsDue es (g + 1) c
    own x h e = elim (true_or_gone es gone x f e) [ inl t ↦ due_true x h t | inr q ↦ absurd (both_ways (has c gone) lacking (ap (has c) (sym q) ∙ h)) ]

-- going back
pub due_back : (t : TrailState) (f k count g h : ℕ) → IsTrail t → k ≤ t.level → g ≤ length t.entries → h ≤ g → (h ≡ g) ⊎ (h ≡ length (up_to k t.entries)) → AreDue t f count g → AreDue (back_at t k) f count h
due_back t f k count g h trail level within low which due n number counted s = elim (cases_lt k t.level) [
  | inl b ↦ due_rests (up_to k t.entries) h (numbered t.clauses n) (trail.rests k b n number)
  | inr b ↦
      let same : up_to k t.entries ≡ t.entries = up_to_all t.entries k trail.leveled (omega (arith, b, trail.level)) in
      let over : g ≡ h = elim which [ inl q ↦ sym q | inr q ↦ omega (arith, q, ap length same, within, low) ] in
      subst (λ es. IsDue es h (numbered t.clauses n)) (sym same) (subst (λ i. IsDue t.entries i (numbered t.clauses n)) over (due n number counted s))
]

-- a decision
pub due_decided : (t : TrailState) (l : Lit) (f count g : ℕ) → g ≤ length t.entries → AreDue t f count g → AreDue (with_decision t l) f count g
due_decided t l f count g within h n k low s = due_front t.entries (t.entries ++ e ∷ []) g (numbered t.clauses n) (front_push t.entries e) within (h n k low s)
  where
    e : Entry
    e = record { lit = l; decision_level = t.level + 1; reason = None }

-- a clause more, which is not yet counted
pub due_added : (t : TrailState) (c : List Lit) (f h count g : ℕ) → count ≤ length t.clauses → ((n : ℕ) (x : List Lit) → n ≤ length t.clauses → is_fixed h n x ≡ true → is_fixed f n x ≡ true) → AreDue t f count g → AreDue (with_clause t c) h count g
due_added t c f h count g within same_class due n k low s =
    let old : IsNumber t.clauses n = record { above = k.above; within = omega (arith, low, within) } in
    let same : numbered (t.clauses ++ c ∷ []) n ≡ numbered t.clauses n = numbered-push_old t.clauses c n old in
    subst (IsDue t.entries g) (sym same) (due n old low (same_class n (numbered t.clauses n) old.within (ap (is_fixed h n) (sym same) ∙ s)))
