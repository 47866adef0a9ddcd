-- What a log that shows a front says of the assignments of its form: the counters follow an assignment, so that each bound is false that its
-- true selectors allow; and some literal of each step's clause is true.
use Rattle.std.proofs.Common.{◌≡◌, ◌⊎◌, inl, inr, ℕ, zero, suc, ◌+◌, ◌<◌, ◌≤◌, Bool, true, false, cond, not, ◌||◌, List, [], ◌∷◌, length, map, get_or, Some, None}
use Rattle.std.proofs.Common.{refl, ap, ap₂, sym, ◌∙◌, subst, arith}
use Rattle.std.specs.Prelude.{All, Contains}
use Rattle.std.proofs.lemmas.Bool.{both_ways, cases_lt, false_from_ne_true, le-ltb, lt-ltb}
use Rattle.std.proofs.lemmas.List.Elements.{All-nil, All-cons, All-head, All-tail}
use Rattle.loc_base.proofs.ShelfLists.{All-member}
use Rattle.loc_base.proofs.ShelfOptions.{Some-same}
use Rattle.clause_base.specs.declared.literal.Lit.{Lit}
use Rattle.clause_base.specs.declared.log.Step.{Step}
use Rattle.clause_base.specs.Counted.{IsPassedOver}
use Rattle.clause_base.specs.Literal.{has, negative, positive}
use Rattle.clause_base.specs.Satisfaction.{Satisfies, SatisfiesClause, is_satisfied, value_of}
use Rattle.clause_base.proofs.Soundness.{Holds, Holds-has}
use Rattle.card_counter.specs.Places.{IsNoCounter, at_least}
use Rattle.card_counter.specs.InForm.{Follows, NamesNoCounter, literals_from}
use Rattle.card_counter.specs.Means.{true_count}
use Rattle.card_counter.proofs.InForms.{follows}
use Rattle.front_cert.specs.Left.{IsLogged, IsNotBefore, Logged, NoneBefore}
use Rattle.card_counter.specs.Shows.{ShowsSize, ShowsWithout, bound_of}

-- two assignments that agree on a clause's variables satisfy it alike
same-clause : (a b : ℕ → Bool) (clause : List Lit) → All (λ l. b l.var ≡ a l.var) clause → is_satisfied b clause ≡ is_satisfied a clause
same-clause a b [] same = refl
same-clause a b (l ∷ clause) same =
    ap₂ (λ (v w : Bool). cond l.negated (not v) v || w) (All-head (λ x. b x.var ≡ a x.var) l clause same) (same-clause a b clause (All-tail (λ x. b x.var ≡ a x.var) l clause same))

-- and so clauses that name no counter
same-clauses : (n k : ℕ) (a b : ℕ → Bool) → ((v : ℕ) → IsNoCounter (n + 1) k n v → b v ≡ a v) → (clauses : List (List Lit)) → All (NamesNoCounter n k) clauses → Satisfies a clauses → Satisfies b clauses
same-clauses n k a b same [] apart all = All-nil (SatisfiesClause b)
same-clauses n k a b same (clause ∷ rest) apart all =
    let outside : NamesNoCounter n k clause = All-head (NamesNoCounter n k) clause rest apart in
    let agrees : All (λ (l : Lit). b l.var ≡ a l.var) clause = λ i d within. same (get_or clause i d).var (outside i d within) in
    All-cons (SatisfiesClause b) clause rest
    (same-clause a b clause agrees ∙ All-head (SatisfiesClause a) clause rest all)
    (same-clauses n k a b same rest (All-tail (NamesNoCounter n k) clause rest apart) (All-tail (SatisfiesClause a) clause rest all))

-- a step's clause is satisfied where those of its log are
member-satisfied : (b : ℕ → Bool) (log : List Step) (step : Step) → Satisfies b (map (λ (s : Step). s.clause) log) → Contains log step → SatisfiesClause b step.clause
member-satisfied b log step all member = All-member (λ (s : Step). SatisfiesClause b s.clause) log step (each log all) member
  where
    each : (steps : List Step) → Satisfies b (map (λ (s : Step). s.clause) steps) → All (λ (s : Step). SatisfiesClause b s.clause) steps
    each [] given = All-nil (λ (s : Step). SatisfiesClause b s.clause)
    each (s ∷ steps) given =
        All-cons (λ (t : Step). SatisfiesClause b t.clause) s steps (All-head (SatisfiesClause b) s.clause (map (λ (t : Step). t.clause) steps) given)
        (each steps (All-tail (SatisfiesClause b) s.clause (map (λ (t : Step). t.clause) steps) given))

module _ (of : Logged) (is : IsLogged of) (a : ℕ → Bool) (in_form : Satisfies a of.form) (in_blocks : Satisfies a of.blocks) where
  abbrev count : ℕ
  count = true_count a (literals_from 1 of.n)

  other : Follows of.n of.k of.form a
  other = follows of.n of.k of.vars of.form a is.counter in_form

  in_log : Satisfies other.other (map (λ (s : Step). s.clause) of.log)
  in_log = is.follows other.other other.satisfies (same-clauses of.n of.k a other.other other.same of.blocks is.apart in_blocks)

  some-true : (step : Step) → Contains of.log step → Holds other.other (has step.clause)
  some-true step member = Holds-has other.other step.clause (member-satisfied other.other of.log step in_log member)

  -- a bound that the true selectors allow is false
  bound-false : (j : ℕ) → j ≤ of.k → count ≤ j → (l : Lit) → bound_of of.n of.k j ≡ Some l → value_of other.other l ≡ false
  bound-false j size few l bound = elim (cases_lt j of.n) [
    | inl more ↦
        let is_bound : bound_of of.n of.k j ≡ Some (positive (at_least (of.n + 1) of.k of.n (j + 1))) = rw (lt-ltb j of.n more) refl in
        let same : positive (at_least (of.n + 1) of.k of.n (j + 1)) ≡ l = Some-same (sym is_bound ∙ bound) in
        subst (λ (x : Lit). value_of other.other x ≡ false) same (other.bounds j size more few)
    | inr most ↦
        let no_bound : bound_of of.n of.k j ≡ None = rw (le-ltb j of.n most) refl in
        let wrong : None ≡ Some l = sym no_bound ∙ bound in cc
  ]

  -- where fewer were true, no literal of the clause that shows the size would be
  not-fewer : (size : ℕ) → size ≤ of.k → ShowsSize of.n of.k size of.log → count < size → ⊥
  not-fewer zero most shows fewer = omega (arith, fewer)
  not-fewer (suc j) most shows fewer =
      let (l, there, holds) = some-true shows.step shows.in_log in
      both_ways (value_of other.other l) (bound-false j (omega (arith, most)) (omega (arith, fewer)) l (shows.clause l there)) holds

  -- a selector keeps its value
  same-selector : (v : ℕ) → v ≤ of.n → other.other v ≡ a v
  same-selector v within = other.same v (inl (omega (arith, within)))

  module _ (as_many : count ≡ length of.members) (x : ℕ) (passed : IsPassedOver of.members x)
      (below : (m : ℕ) → Contains of.members m → m < x → a m ≡ true) where
    passed-within : x ≤ of.n
    passed-within =
        let (m, member, less) = passed.greater in
        let range : (1 ≤ m) × (m ≤ of.n) = All-member (λ (v : ℕ). (1 ≤ v) × (v ≤ of.n)) of.members m is.members member in
        omega (arith, less, range.1)

    -- were the suspect true, no literal of the clause that shows it absent would be
    is-absent : ShowsWithout of.n of.k of.members of.log x → a x ≡ true → ⊥
    is-absent shows is_so =
        let (l, there, holds) = some-true shows.step shows.in_log in
        both_ways (value_of other.other l) (fails l (shows.clause l there)) holds
      where
        denied : (v : ℕ) → v ≤ of.n → a v ≡ true → (l : Lit) → l ≡ negative v → value_of other.other l ≡ false
        denied v within true_there l same = ap (value_of other.other) same ∙ ap not (same-selector v within ∙ true_there)

        member-within : (m : ℕ) → Contains of.members m → m ≤ of.n
        member-within m member = (All-member (λ (v : ℕ). (1 ≤ v) × (v ≤ of.n)) of.members m is.members member).1

        fails : (l : Lit) → (l ≡ negative x) ⊎ (((m : ℕ) × Contains of.members m × (m < x) × (l ≡ negative m)) ⊎ (bound_of of.n of.k (length of.members) ≡ Some l)) → value_of other.other l ≡ false
        fails l (inl itself) = denied x passed-within is_so l itself
        fails l (inr (inl (m, member, less, same))) = denied m (member-within m member) (below m member less) l same
        fails l (inr (inr bound)) = bound-false (length of.members) is.size (omega (arith, as_many)) l bound

    lacked : a x ≡ false
    lacked = false_from_ne_true (a x) (is-absent (is.shows.passed x passed))

  not-before : IsNotBefore of.n of.members a
  not-before = record {
    many = elim (cases_lt count (length of.members)) [
      | inl fewer ↦ absurd (not-fewer (length of.members) is.size is.shows.size fewer)
      | inr many ↦ many
    ];
    lacks = lacked;
  }

pub none-before : (of : Logged) → IsLogged of → NoneBefore of
none-before of is a in_form in_blocks = not-before of is a in_form in_blocks
