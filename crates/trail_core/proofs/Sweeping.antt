-- A pass over the clauses of at most three literals that have a literal which became false.
use Rattle.std.proofs.Common.{◌≡◌, ◌≢◌, ℕ, ◌+◌, ◌<◌, ◌≤◌, Bool, true, false, not, cond, List, length, get_or, Option, Some, None, refl, sym, ap, ◌∙◌, subst, arith, ◌⊎◌, inl, inr}
use Rattle.std.proofs.lemmas.Bool.{cases_lt, cases_Bool}
use Rattle.clause_base.specs.declared.literal.Lit.{Lit}
use Rattle.clause_base.specs.Literal.{has}
use Rattle.clause_base.specs.Acceptance.{numbered}
use Rattle.trail_core.specs.declared.entry.Entry.{Entry}
use Rattle.trail_core.specs.declared.short_list.Short.{Short}
use Rattle.trail_core.specs.declared.watches.Watches.{Watches}
use Rattle.trail_core.specs.declared.watch.Watched.{Watched}
use Rattle.trail_core.specs.declared.watch.Watched.TheVariants as watched
use Rattle.trail_core.specs.ShortListing.{ShortListing, one_of, two_of}
use Rattle.trail_core.specs.Values.{IsTrueIn, IsFalseIn, IsUnassignedIn, Rests, satisfied, open_at_two, IsVariable}
use Rattle.trail_core.specs.TrailState.{TrailState, IsTrail, IsNumber, IsReason, Propagates, values_of}
use Rattle.trail_core.specs.Look.{Falsifies}
use Rattle.trail_core.specs.Watching.{is_fixed, code_of}
use Rattle.trail_core.specs.Shorts.{shorts_of, IsEntry, IsLast, IsEntered, HasShorts, IsDue, AreDue}
use Rattle.trail_core.specs.Visits.{IsGone, SweepsDue}
use Rattle.trail_core.proofs.Listing.{at_any}
use Rattle.trail_core.proofs.Looks.{variable_of}
use Rattle.trail_core.proofs.Keeping.{values_front}
use Rattle.trail_core.proofs.Passing.{gone_front}
use Rattle.trail_core.proofs.Propagating.{Propagates-then}
use Rattle.trail_core.proofs.Due.{due_rests, due_front, due_next, due_propagates, due_all}

-- the variables of an entry
pub variable_one : (t : TrailState) (gone : Lit) (s : Short) → IsTrail t → IsEntry t.clauses gone s → IsVariable t.vars s.one_var
variable_one t gone s h e = variable_of t.vars (numbered t.clauses s.number) (one_of s) (h.within s.number e.number) e.one

pub variable_two : (t : TrailState) (gone : Lit) (s : Short) → IsTrail t → IsEntry t.clauses gone s → IsVariable t.vars s.two_var
variable_two t gone s h e = variable_of t.vars (numbered t.clauses s.number) (two_of s) (h.within s.number e.number) e.two

-- one of the two is true
pub rests_true : (t : TrailState) (gone : Lit) (s : Short) → IsEntry t.clauses gone s → (IsTrueIn (values_of t.entries) (one_of s)) ⊎ (IsTrueIn (values_of t.entries) (two_of s)) → Rests (values_of t.entries) (numbered t.clauses s.number)
rests_true t gone s e (inl h) = satisfied (one_of s) e.one h
rests_true t gone s e (inr h) = satisfied (two_of s) e.two h

-- a literal that is neither true nor false
unassigned : (o : Option Bool) (b : Bool) → (o ≡ Some (not b) → ⊥) → (o ≡ Some b → ⊥) → o ≡ None
unassigned None b h g = refl
unassigned (Some true) true h g = absurd (g refl)
unassigned (Some true) false h g = absurd (h refl)
unassigned (Some false) true h g = absurd (h refl)
unassigned (Some false) false h g = absurd (g refl)

falsely : (o : Option Bool) (b : Bool) → (o ≡ Some (not b) → ⊥) → (o ≡ None → ⊥) → o ≡ Some b
falsely None b h g = absurd (g refl)
falsely (Some true) true h g = refl
falsely (Some true) false h g = absurd (h refl)
falsely (Some false) true h g = absurd (h refl)
falsely (Some false) false h g = refl

none_some : (o : Option Bool) (b : Bool) → o ≡ None → o ≡ Some b → ⊥
none_some o b p q = cc

-- none of the two is true or false
pub rests_open : (t : TrailState) (gone : Lit) (s : Short) → IsEntry t.clauses gone s → IsFalseIn (values_of t.entries) gone → (IsTrueIn (values_of t.entries) (one_of s) → ⊥) → (IsTrueIn (values_of t.entries) (two_of s) → ⊥) → (IsFalseIn (values_of t.entries) (one_of s) → ⊥) → (IsFalseIn (values_of t.entries) (two_of s) → ⊥) → Rests (values_of t.entries) (numbered t.clauses s.number)
rests_open t gone s e f a b c d =
    let one : IsUnassignedIn (values_of t.entries) (one_of s) = unassigned (values_of t.entries s.one_var) s.one_negated a c in
    let two : IsUnassignedIn (values_of t.entries) (two_of s) = unassigned (values_of t.entries s.two_var) s.two_negated b d in
    open_at_two (one_of s) (two_of s) e.one e.two (λ q. c (subst (IsFalseIn (values_of t.entries)) (sym (e.apart q)) f)) one two

-- all but one are false
others_false : (values : ℕ → Option Bool) (c : List Lit) (gone a b : Lit) → ((m : Lit) → has c m ≡ true → (m ≡ gone) ⊎ ((m ≡ a) ⊎ (m ≡ b))) → IsFalseIn values gone → IsFalseIn values a → (m : Lit) → has c m ≡ true → m.var ≢ b.var → IsFalseIn values m
others_false values c gone a b all f g m h n = elim (all m h) [
  | inl q ↦ subst (IsFalseIn values) (sym q) f
  | inr r ↦ elim r [ inl q ↦ subst (IsFalseIn values) (sym q) g | inr q ↦ absurd (n (ap (λ (l : Lit). l.var) q)) ]
]

all_false : (values : ℕ → Option Bool) (c : List Lit) (gone a b : Lit) → ((m : Lit) → has c m ≡ true → (m ≡ gone) ⊎ ((m ≡ a) ⊎ (m ≡ b))) → IsFalseIn values gone → IsFalseIn values a → IsFalseIn values b → (m : Lit) → has c m ≡ true → IsFalseIn values m
all_false values c gone a b all f g k m h = elim (all m h) [
  | inl q ↦ subst (IsFalseIn values) (sym q) f
  | inr r ↦ elim r [ inl q ↦ subst (IsFalseIn values) (sym q) g | inr q ↦ subst (IsFalseIn values) (sym q) k ]
]

swapped : (c : List Lit) (gone a b : Lit) → ((m : Lit) → has c m ≡ true → (m ≡ gone) ⊎ ((m ≡ a) ⊎ (m ≡ b))) → (m : Lit) → has c m ≡ true → (m ≡ gone) ⊎ ((m ≡ b) ⊎ (m ≡ a))
swapped c gone a b all m h = elim (all m h) [ inl q ↦ inl q | inr r ↦ inr (elim r [ inl q ↦ inr q | inr q ↦ inl q ]) ]

pub two_reason : (t : TrailState) (gone : Lit) (s : Short) → IsEntry t.clauses gone s → IsFalseIn (values_of t.entries) gone → IsFalseIn (values_of t.entries) (one_of s) → IsUnassignedIn (values_of t.entries) (two_of s) → IsReason t.clauses (values_of t.entries) s.number (two_of s)
two_reason t gone s e f g u = record { number = e.number; unit = record { member = e.two; unassigned = u; others = others_false (values_of t.entries) (numbered t.clauses s.number) gone (one_of s) (two_of s) e.all f g } }

pub one_reason : (t : TrailState) (gone : Lit) (s : Short) → IsEntry t.clauses gone s → IsFalseIn (values_of t.entries) gone → IsFalseIn (values_of t.entries) (two_of s) → IsUnassignedIn (values_of t.entries) (one_of s) → IsReason t.clauses (values_of t.entries) s.number (one_of s)
one_reason t gone s e f g u = record {
  number = e.number;
  unit = record { member = e.one; unassigned = u; others = others_false (values_of t.entries) (numbered t.clauses s.number) gone (two_of s) (one_of s) (swapped (numbered t.clauses s.number) gone (one_of s) (two_of s) e.all) f g };
}

pub two_falsified : (t : TrailState) (gone : Lit) (s : Short) → IsEntry t.clauses gone s → IsFalseIn (values_of t.entries) gone → IsFalseIn (values_of t.entries) (one_of s) → (IsTrueIn (values_of t.entries) (two_of s) → ⊥) → (IsUnassignedIn (values_of t.entries) (two_of s) → ⊥) → Falsifies t s.number
two_falsified t gone s e f g n u = record { number = e.number; falsified = all_false (values_of t.entries) (numbered t.clauses s.number) gone (one_of s) (two_of s) e.all f g (falsely (values_of t.entries s.two_var) s.two_negated n u) }

pub one_falsified : (t : TrailState) (gone : Lit) (s : Short) → IsEntry t.clauses gone s → IsFalseIn (values_of t.entries) gone → IsFalseIn (values_of t.entries) (two_of s) → (IsTrueIn (values_of t.entries) (one_of s) → ⊥) → (IsUnassignedIn (values_of t.entries) (one_of s) → ⊥) → Falsifies t s.number
one_falsified t gone s e f g n u = record { number = e.number; falsified = all_false (values_of t.entries) (numbered t.clauses s.number) gone (one_of s) (two_of s) e.all f (falsely (values_of t.entries s.one_var) s.one_negated n u) g }

-- the one beside a false one
pub last_variable : (t : TrailState) (gone last : Lit) (s : Short) → IsTrail t → IsEntry t.clauses gone s → IsLast (values_of t.entries) s last → IsVariable t.vars last.var
last_variable t gone last s h e (inl p) = subst (λ (l : Lit). IsVariable t.vars l.var) (sym p.0) (variable_two t gone s h e)
last_variable t gone last s h e (inr p) = subst (λ (l : Lit). IsVariable t.vars l.var) (sym p.0) (variable_one t gone s h e)

pub last_reason : (t : TrailState) (gone last : Lit) (s : Short) → IsEntry t.clauses gone s → IsFalseIn (values_of t.entries) gone → IsLast (values_of t.entries) s last → IsUnassignedIn (values_of t.entries) last → IsReason t.clauses (values_of t.entries) s.number last
last_reason t gone last s e f (inl p) u = subst (IsReason t.clauses (values_of t.entries) s.number) (sym p.0) (two_reason t gone s e f p.1 (subst (IsUnassignedIn (values_of t.entries)) p.0 u))
last_reason t gone last s e f (inr p) u = subst (IsReason t.clauses (values_of t.entries) s.number) (sym p.0) (one_reason t gone s e f p.1 (subst (IsUnassignedIn (values_of t.entries)) p.0 u))

pub last_falsified : (t : TrailState) (gone last : Lit) (s : Short) → IsEntry t.clauses gone s → IsFalseIn (values_of t.entries) gone → IsLast (values_of t.entries) s last → (IsTrueIn (values_of t.entries) (one_of s) → ⊥) → (IsTrueIn (values_of t.entries) (two_of s) → ⊥) → (IsUnassignedIn (values_of t.entries) last → ⊥) → Falsifies t s.number
last_falsified t gone last s e f (inl p) a b u = two_falsified t gone s e f p.1 b (λ z. u (subst (IsUnassignedIn (values_of t.entries)) (sym p.0) z))
last_falsified t gone last s e f (inr p) a b u = one_falsified t gone s e f p.1 a (λ z. u (subst (IsUnassignedIn (values_of t.entries)) (sym p.0) z))

-- the list of the literal that is gone
pub list_within : (t : TrailState) (f : ℕ) (lists : List ShortListing) (g : ℕ) (gone : Lit) → HasShorts t.vars t.clauses f lists → IsGone t g gone → code_of gone < length lists
list_within t f lists g gone h is = omega (arith, h.size, is.variable.within, cond_le gone.negated)
  where
    cond_le : (b : Bool) → cond b 1 0 ≤ 1
    cond_le true = omega arith
    cond_le false = omega arith

-- what is visited at a place of it
pub entry_here : (t new : TrailState) (f : ℕ) (lists : List ShortListing) (items : List Short) (gone : Lit) (k : ℕ) (d : Short) → HasShorts t.vars t.clauses f lists → items ≡ shorts_of lists gone → k < length items → Propagates t new → IsEntry new.clauses gone (get_or items k d)
entry_here t new f lists items gone k d h e l p = subst (λ cs. IsEntry cs gone (get_or items k d)) (sym p.clauses) (subst (λ xs. k < length xs → IsEntry t.clauses gone (get_or xs k d)) (sym e) (h.sound gone k d) l)

pub gone_still : (t new : TrailState) (g : ℕ) (gone : Lit) → IsGone t g gone → Propagates t new → IsFalseIn (values_of new.entries) gone
gone_still t new g gone h p = values_front t.entries new.entries gone.var gone.negated p.prefix h.is_false

-- the clauses before a place of the list are due, the next entry being gone over
abbrev pub AreSeen : TrailState → List Short → ℕ → ℕ → Type 0
AreSeen t items k g = (i : ℕ) (d : Short) → i < k → i < length items → IsDue t.entries (g + 1) (numbered t.clauses (get_or items i d).number)

pub seen_none : (t : TrailState) (items : List Short) (g : ℕ) → AreSeen t items 0 g
seen_none t items g i d l = absurd (omega (arith, l))

-- one more was visited
pub seen_more : (t a b : TrailState) (items : List Short) (k g : ℕ) (d : Short) → g < length t.entries → Propagates t a → Propagates a b → k < length items → Rests (values_of b.entries) (numbered b.clauses (get_or items k d).number) → AreSeen a items k g → AreSeen b items (k + 1) g
seen_more t a b items k g d l p q within rests seen i x low inside = elim (cases_lt i k) [
  | inl less ↦
      subst (λ cs. IsDue b.entries (g + 1) (numbered cs (get_or items i x).number)) (sym q.clauses)
      (due_front a.entries b.entries (g + 1) (numbered a.clauses (get_or items i x).number) q.prefix (omega (arith, l, p.longer)) (seen i x less inside))
  | inr more ↦
      let same : k ≡ i = omega (arith, low, more) in
      subst (λ j. IsDue b.entries (g + 1) (numbered b.clauses (get_or items j x).number)) same
      (subst (λ (s : Short). IsDue b.entries (g + 1) (numbered b.clauses s.number)) (at_any items k d x within) (due_rests b.entries (g + 1) (numbered b.clauses (get_or items k d).number) rests))
]

-- the whole list was gone over
pub sweep_rests : (t new : TrailState) (f : ℕ) (lists : List ShortListing) (items : List Short) (gone : Lit) (g k : ℕ) (e : Entry) (d : Short) → IsGone t g gone → g < length t.entries → HasShorts t.vars t.clauses f lists → items ≡ shorts_of lists gone → length items ≤ k → Propagates t new → AreDue t f (length t.clauses) g → AreSeen new items k g → AreDue new f (length new.clauses) (g + 1)
sweep_rests t new f lists items gone g k e d is l h q over p due seen n number low s = elim (cases_Bool (has (numbered new.clauses n) gone)) [
  | inl t ↦ at (subst (λ xs. IsEntered xs n) (sym q) (h.listed n gone old_number (ap (is_fixed f n) (sym same) ∙ s) (ap (λ c. has c gone) (sym same) ∙ t)))
  | inr none ↦
      let there = gone_front t new g gone p l is in
      due_next new.entries g e gone (numbered new.clauses n) (omega (arith, l, p.longer)) there.is_false (there.here e) none
      (due_propagates t new f (length t.clauses) g p (omega (arith, l)) due n number (omega (arith, number.within, ap length p.clauses)) s)
]
  where
    old_number : IsNumber t.clauses n
    old_number = subst (λ cs. IsNumber cs n) p.clauses number

    same : numbered new.clauses n ≡ numbered t.clauses n
    same = ap (λ cs. numbered cs n) p.clauses

    at : IsEntered items n → IsDue new.entries (g + 1) (numbered new.clauses n)
    at x = subst (λ m. IsDue new.entries (g + 1) (numbered new.clauses m)) (x.is d) (seen x.place d (omega (arith, x.within, over)) x.within)

-- both lists of the literal were gone over
pub sweeps_due : (t a b : TrailState) (f : ℕ) (w v : Watches) (r : Watched) → Propagates t a → Propagates a b → v.gone_over ≡ w.gone_over → w.gone_over < length t.entries → AreDue t f (length t.clauses) w.gone_over → AreDue a f (length a.clauses) (w.gone_over + 1) → SweepsDue b f v r
sweeps_due t a b f w v watched.Rests p q e l old new =
    subst (λ g. AreDue b f (length b.clauses) (g + 1)) (sym e)
    (due_all b f (length a.clauses) (length b.clauses) (w.gone_over + 1) (omega (arith, ap length q.clauses)) (due_propagates a b f (length a.clauses) (w.gone_over + 1) q (omega (arith, l, p.longer)) new))
sweeps_due t a b f w v (watched.Falsified n) p q e l old new =
    subst (λ g. AreDue b f (length b.clauses) g) (sym e)
    (due_all b f (length t.clauses) (length b.clauses) w.gone_over (omega (arith, ap length q.clauses, ap length p.clauses)) (due_propagates t b f (length t.clauses) w.gone_over (Propagates-then t a b p q) (omega (arith, l)) old))
