-- A counter in a form can follow any assignment of the form, and bounds what is true.
use Rattle.std.proofs.Common.{◌≡◌, ℕ, zero, suc, ◌+◌, ◌<◌, ◌≤◌, Bool, true, false, not, ◌||◌, List, [], ◌∷◌, ◌++◌, length, refl, sym, ◌∙◌, ap, ap₂, subst, arith}
use Rattle.std.specs.Prelude.{cond, All}
use Rattle.std.proofs.lemmas.Bool.{lt-leb}
use Rattle.std.proofs.lemmas.List.Elements.{All-nil, All-cons, All-head, All-tail}
use Rattle.clause_base.specs.declared.literal.Lit.{Lit}
use Rattle.clause_base.specs.Literal.{positive}
use Rattle.clause_base.specs.Satisfaction.{value_of, is_satisfied, Satisfies, SatisfiesClause}
use Rattle.card_counter.specs.Places.{starts, at_least, IsNoCounter}
use Rattle.card_counter.specs.Counter.{counter_clauses}
use Rattle.card_counter.specs.Means.{true_count, CountsAs, AreBefore, Bounded, MeetsBound}
use Rattle.card_counter.specs.InForm.{literals_from, NamesNoCounter, HasCounter, Follows}
use Rattle.card_counter.proofs.Said.{satisfies-front, satisfies-behind, satisfies-both}
use Rattle.card_counter.proofs.AtMost.{bounded}
use Rattle.card_counter.proofs.Counting.{meets, counts-as, few-bound}

literals-long : (first count : ℕ) → length (literals_from first count) ≡ count
literals-long first zero = refl
literals-long first (suc count) = ap suc (literals-long (first + 1) count)

literals-before : (first count end : ℕ) → first + count ≤ end → AreBefore end (literals_from first count)
literals-before first zero end fits = All-nil (λ x. x.var < end)
literals-before first (suc count) end fits =
    All-cons (λ x. x.var < end) (positive first) (literals_from (first + 1) count) (omega (arith, fits)) (literals-before (first + 1) count end (omega (arith, fits)))

pub selectors-before : (n : ℕ) → AreBefore (n + 1) (literals_from 1 n)
selectors-before n = literals-before 1 n (n + 1) (omega arith)

-- two assignments that agree on a clause's variables satisfy it alike
same-clause : (a b : ℕ → Bool) (clause : List Lit) → All (λ l. b l.var ≡ a l.var) clause → is_satisfied b clause ≡ is_satisfied a clause
same-clause a b [] same = refl
same-clause a b (l ∷ clause) same =
    ap₂ (λ (v w : Bool). cond l.negated (not v) v || w) (All-head (λ x. b x.var ≡ a x.var) l clause same) (same-clause a b clause (All-tail (λ x. b x.var ≡ a x.var) l clause same))

module _ (n k : ℕ) (a b : ℕ → Bool) (same : (v : ℕ) → IsNoCounter (n + 1) k n v → b v ≡ a v) where
  agrees : (clause : List Lit) → NamesNoCounter n k clause → All (λ l. b l.var ≡ a l.var) clause
  agrees clause apart = λ i d within. same _ (apart i d within)

  -- clauses that name no counter stay satisfied
  rest-follows : (rest : List (List Lit)) → All (NamesNoCounter n k) rest → Satisfies a rest → Satisfies b rest
  rest-follows [] apart all = All-nil (SatisfiesClause b)
  rest-follows (clause ∷ rest) apart all =
      All-cons (SatisfiesClause b) clause rest
      (same-clause a b clause (agrees clause (All-head (NamesNoCounter n k) clause rest apart)) ∙ All-head (SatisfiesClause a) clause rest all)
      (rest-follows rest (All-tail (NamesNoCounter n k) clause rest apart) (All-tail (SatisfiesClause a) clause rest all))

module _ (n k vars : ℕ) (form : List (List Lit)) (a : ℕ → Bool) (counter : HasCounter n k vars form) (all : Satisfies a form) where
  parts : Satisfies a (counter_clauses (literals_from 1 n) k (n + 1) ++ counter.rest)
  parts = subst (Satisfies a) counter.splits all

  -- the counter can follow
  pub follows : Follows n k form a
  follows =
      let long : length (literals_from 1 n) ≡ n = literals-long 1 n in
      let c : CountsAs a (n + 1) k (literals_from 1 n) = counts-as a (n + 1) k (literals_from 1 n) (selectors-before n) in
      let same : (v : ℕ) → IsNoCounter (n + 1) k n v → c.other v ≡ a v = λ v outside. c.same v (subst (λ m. IsNoCounter (n + 1) k m v) (sym long) outside) in
      record {
        other = c.other;
        satisfies = subst (Satisfies c.other) (sym counter.splits)
            (satisfies-both c.other (counter_clauses (literals_from 1 n) k (n + 1)) counter.rest (meets c.other (n + 1) k (literals_from 1 n) c.counts)
            (rest-follows n k a c.other same counter.rest counter.apart (satisfies-behind a (counter_clauses (literals_from 1 n) k (n + 1)) counter.rest parts)));
        same = same;
        bounds = λ j size more few. ap (λ m. c.other (at_least (n + 1) k m (j + 1))) (sym long)
            ∙ few-bound (n + 1) k (literals_from 1 n) a (selectors-before n) c j size (omega (arith, more, long)) few;
      }

  -- where the bound at j is false, at most j variables are true
  pub few-selected : (j : ℕ) → j ≤ k → j < n → a (at_least (n + 1) k n (j + 1)) ≡ false → true_count a (literals_from 1 n) ≤ j
  few-selected j size more bound =
      let long : length (literals_from 1 n) ≡ n = literals-long 1 n in
      bounded a (n + 1) k (literals_from 1 n) (satisfies-front a (counter_clauses (literals_from 1 n) k (n + 1)) counter.rest parts) j size (omega (arith, more, long))
      (ap (λ m. a (at_least (n + 1) k m (j + 1))) long ∙ bound)
