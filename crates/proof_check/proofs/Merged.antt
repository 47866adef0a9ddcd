-- Taking a clause into a set, literal by literal.
use Rattle.std.proofs.Common.{◌≡◌, ℕ, Bool, true, false, not, ◌&&◌, ◌||◌, eqb, Option, Some, None, List, [], ◌∷◌, ◌++◌, refl, ap, sym, ◌∙◌, subst, ⊎_elim}
use Rattle.std.specs.Prelude.{MatchOption, IsSome}
use Rattle.std.proofs.lemmas.Bool.{false≢true, both_ways, eqb-true, eqb-false, ne_eqb, and_parts, and_from, or_cases, or_left, or_right, cases_Bool}
use Rattle.loc_base.proofs.ShelfBools.{or-false}
use Rattle.clause_base.specs.declared.literal.Lit.{Lit}
use Rattle.clause_base.specs.Literal.{positive, negative, opposite, same_sign, same_lit, has, has_variable}
use Rattle.clause_base.specs.Resolution.{clashes, IsOnlyClash}
use Rattle.clause_base.specs.Progress.{IsConsistent}
use Rattle.clause_base.proofs.Sets.{has-append, has-push, has_variable-has, absent, same_lit-true, same_lit_itself, same_lit_opposite}
use Rattle.clause_base.proofs.Soundness.{clashes_at, clashes_back}
use Rattle.proof_check.specs.Merging.{Adds, SameSet, TakesIn, HasResolvent, HasNoResolvent}

-- the clash so far is on this variable
abbrev pub is_at : Option ℕ → ℕ → Bool
is_at None v = false
is_at (Some w) v = eqb v w

-- the clause's first literals are taken into the set a, apart from the clash, which is the only one
pub record Merging (a : Lit → Bool) (seen : List Lit) (clash : Option ℕ) (now : Lit → Bool) : Type 0 where
  pub now_is : (l : Lit) → now l ≡ (a l || (has seen l && not (is_at clash l.var)))
  pub clash_is : MatchOption clash ((w : ℕ) → clashes a (has seen) w ≡ false) (λ v. IsOnlyClash a (has seen) v)

added : (a h s t : Bool) → (s ≡ true → t ≡ false) → ((a || (h && not t)) || s) ≡ (a || ((h || s) && not t))
added true h s t f = refl
added false true true true f = absurd (false≢true (sym (f refl)))
added false true true false f = refl
added false true false true f = refl
added false true false false f = refl
added false false true true f = absurd (false≢true (sym (f refl)))
added false false true false f = refl
added false false false t f = refl

kept : (a h s t : Bool) → (s ≡ true → a ≡ true) → (a || (h && not t)) ≡ (a || ((h || s) && not t))
kept true h s t f = refl
kept false true s t f = refl
kept false false true t f = absurd (false≢true (f refl))
kept false false false t f = refl

clashed : (a h s t : Bool) → (t ≡ true → h ≡ false) → (t ≡ false → s ≡ false) → (a || (h && true)) ≡ (a || ((h || s) && not t))
clashed true h s t f g = refl
clashed false true s true f g = absurd (false≢true (sym (f refl)))
clashed false true s false f g = refl
clashed false false true true f g = refl
clashed false false true false f g = absurd (false≢true (sym (g refl)))
clashed false false false t f g = refl

or_none : (p q : Bool) → p ≡ false → q ≡ false → (p || q) ≡ false
or_none p q e f = ap (λ b. b || q) e ∙ f

and_none_left : (p q : Bool) → p ≡ false → (p && q) ≡ false
and_none_left p q e = ap (λ b. b && q) e

and_none_right : (p q : Bool) → q ≡ false → (p && q) ≡ false
and_none_right true q e = e
and_none_right false q e = refl

-- a literal of another variable is another literal
apart : (l : Lit) (m : Lit) → eqb l.var m.var ≡ false → same_lit l m ≡ false
apart l m e = and_none_left (eqb l.var m.var) (same_sign l.negated m.negated) e

-- elsewhere one more literal changes no clash
clashes_elsewhere : (a : Lit → Bool) (seen : List Lit) (l : Lit) (w : ℕ) → eqb l.var w ≡ false → clashes a (has (seen ++ l ∷ [])) w ≡ clashes a (has seen) w
clashes_elsewhere a seen l w e =
    let at_negative : has (seen ++ l ∷ []) (negative w) ≡ has seen (negative w) = has-push seen l (negative w) ∙ ap (λ b. has seen (negative w) || b) (apart l (negative w) e) ∙ or-false (has seen (negative w)) in
    let at_positive : has (seen ++ l ∷ []) (positive w) ≡ has seen (positive w) = has-push seen l (positive w) ∙ ap (λ b. has seen (positive w) || b) (apart l (positive w) e) ∙ or-false (has seen (positive w)) in
    ap (λ b. (a (positive w) && b) || (a (negative w) && has (seen ++ l ∷ []) (positive w))) at_negative
    ∙ ap (λ b. (a (positive w) && has seen (negative w)) || (a (negative w) && b)) at_positive

no_clash_here : (a : Lit → Bool) (b : Lit → Bool) (l : Lit) → (a l && b (opposite l)) ≡ false → (a (opposite l) && b l) ≡ false → clashes a b l.var ≡ false
no_clash_here a b l p q = clashes_at a b l ∙ or_none (a l && b (opposite l)) (a (opposite l) && b l) p q

-- where neither the literal nor its opposite clashes, one more literal changes no clash
clashes_same : (a : Lit → Bool) (seen : List Lit) (l : Lit) (w : ℕ) → has_variable seen l.var ≡ false → (a (opposite l) ≡ false) → clashes a (has (seen ++ l ∷ [])) w ≡ clashes a (has seen) w
clashes_same a seen l w new open_sign = ⊎_elim
    (λ here.
    let e : l.var ≡ w = eqb-true l.var w here in
    let before : clashes a (has seen) l.var ≡ false = no_clash_here a (has seen) l
    (and_none_right (a l) (has seen (opposite l)) (absent seen (opposite l) new))
    (and_none_left (a (opposite l)) (has seen l) open_sign) in
    let after : clashes a (has (seen ++ l ∷ [])) l.var ≡ false = no_clash_here a (has (seen ++ l ∷ [])) l
    (and_none_right (a l) (has (seen ++ l ∷ []) (opposite l)) (has-push seen l (opposite l) ∙ or_none (has seen (opposite l)) (same_lit l (opposite l)) (absent seen (opposite l) new) (same_lit_opposite l)))
    (and_none_left (a (opposite l)) (has (seen ++ l ∷ []) l) open_sign) in
    let P : ℕ → Type 0 = λ v. clashes a (has (seen ++ l ∷ [])) v ≡ clashes a (has seen) v in
    subst P e (after ∙ sym before))
    (λ elsewhere. clashes_elsewhere a seen l w elsewhere)
    (cases_Bool (eqb l.var w))

-- a clash shows that the clause has the variable
clash_variable : (a : Lit → Bool) (seen : List Lit) (v : ℕ) → clashes a (has seen) v ≡ true → has_variable seen v ≡ true
clash_variable a seen v h = ⊎_elim
    (λ first. has_variable-has seen (negative v) ((and_parts (a (positive v)) (has seen (negative v)) first).1))
    (λ second. has_variable-has seen (positive v) ((and_parts (a (negative v)) (has seen (positive v)) second).1))
    (or_cases (a (positive v) && has seen (negative v)) (a (negative v) && has seen (positive v)) h)

-- so the clash so far is not on the variable of a literal that comes later
clash_elsewhere : (a : Lit → Bool) (seen : List Lit) (clash : Option ℕ) (v : ℕ) → MatchOption clash ((w : ℕ) → clashes a (has seen) w ≡ false) (λ u. IsOnlyClash a (has seen) u)
    → has_variable seen v ≡ false → is_at clash v ≡ false
clash_elsewhere a seen None v is new = refl
clash_elsewhere a seen (Some u) v is new = ne_eqb v u (λ e.
    both_ways (has_variable seen v) new (let P : ℕ → Type 0 = λ w. has_variable seen w ≡ true in subst P (sym e) (clash_variable a seen u is.0)))

clash_same : (a : Lit → Bool) (seen : List Lit) (l : Lit) (clash : Option ℕ) → ((w : ℕ) → clashes a (has (seen ++ l ∷ [])) w ≡ clashes a (has seen) w)
    → MatchOption clash ((w : ℕ) → clashes a (has seen) w ≡ false) (λ u. IsOnlyClash a (has seen) u)
    → MatchOption clash ((w : ℕ) → clashes a (has (seen ++ l ∷ [])) w ≡ false) (λ u. IsOnlyClash a (has (seen ++ l ∷ [])) u)
clash_same a seen l None same is = λ w. same w ∙ is w
clash_same a seen l (Some u) same is = (same u ∙ is.0, λ w h. is.1 w (sym (same w) ∙ h))

now_absent : (a : Lit → Bool) (seen : List Lit) (clash : Option ℕ) (now : Lit → Bool) (l : Lit) → Merging a seen clash now → has_variable seen l.var ≡ false → now l ≡ a l
now_absent a seen clash now l m new =
    m.now_is l ∙ ap (λ b. a l || b) (and_none_left (has seen l) (not (is_at clash l.var)) (absent seen l new)) ∙ or-false (a l)

merging_adds : (a : Lit → Bool) (seen : List Lit) (clash : Option ℕ) (now : Lit → Bool) (l : Lit) (next : Lit → Bool) → Merging a seen clash now → has_variable seen l.var ≡ false
    → Adds now l next → Merging a (seen ++ l ∷ []) clash next
merging_adds a seen clash now l next m new added_l = record {
  now_is = λ k.
      added_l.adds k ∙ ap (λ b. b || same_lit l k) (m.now_is k)
      ∙ added (a k) (has seen k) (same_lit l k) (is_at clash k.var) (λ same. ap (is_at clash) (sym (eqb-true l.var k.var ((and_parts (eqb l.var k.var) (same_sign l.negated k.negated) same).0))) ∙ clash_elsewhere a seen clash l.var m.clash_is new)
      ∙ ap (λ b. a k || (b && not (is_at clash k.var))) (sym (has-push seen l k));
  clash_is = clash_same a seen l clash (λ w. clashes_same a seen l w new (sym (now_absent a seen clash now (opposite l) m new) ∙ added_l.open_sign)) m.clash_is;
}

merging_keeps : (a : Lit → Bool) (seen : List Lit) (clash : Option ℕ) (now : Lit → Bool) (l : Lit) (next : Lit → Bool) → IsConsistent a → Merging a seen clash now → has_variable seen l.var ≡ false
    → now l ≡ true → SameSet now next → Merging a (seen ++ l ∷ []) clash next
merging_keeps a seen clash now l next consistent m new there same_set =
    let al : a l ≡ true = sym (now_absent a seen clash now l m new) ∙ there in
    record {
      now_is = λ k.
          same_set k ∙ m.now_is k
          ∙ kept (a k) (has seen k) (same_lit l k) (is_at clash k.var) (λ same. ap a (sym (same_lit-true l k same)) ∙ al)
          ∙ ap (λ b. a k || (b && not (is_at clash k.var))) (sym (has-push seen l k));
      clash_is = clash_same a seen l clash (λ w. clashes_same a seen l w new (consistent l al)) m.clash_is;
    }

merging_clashes : (a : Lit → Bool) (seen : List Lit) (now : Lit → Bool) (l : Lit) (next : Lit → Bool) → Merging a seen None now → has_variable seen l.var ≡ false
    → now (opposite l) ≡ true → SameSet now next → Merging a (seen ++ l ∷ []) (Some l.var) next
merging_clashes a seen now l next m new there same_set =
    let al : a (opposite l) ≡ true = sym (now_absent a seen None now (opposite l) m new) ∙ there in
    let has_l : has (seen ++ l ∷ []) l ≡ true = has-push seen l l ∙ or_right (has seen l) (same_lit l l) (same_lit_itself l) in
    record {
      now_is = λ k.
          same_set k ∙ m.now_is k
          ∙ clashed (a k) (has seen k) (same_lit l k) (eqb k.var l.var)
          (λ here. absent seen k (let P : ℕ → Type 0 = λ v. has_variable seen v ≡ false in subst P (sym (eqb-true k.var l.var here)) new))
          (λ elsewhere. apart l k (ne_eqb l.var k.var (λ e. eqb-false k.var l.var elsewhere (sym e))))
          ∙ ap (λ b. a k || (b && not (eqb k.var l.var))) (sym (has-push seen l k));
      clash_is = (
        clashes_back a (has (seen ++ l ∷ [])) l al has_l,
        λ w h. ⊎_elim
            (λ here. sym (eqb-true l.var w here))
            (λ elsewhere. absurd (both_ways (clashes a (has seen) w) (m.clash_is w) (sym (clashes_elsewhere a seen l w elsewhere) ∙ h)))
            (cases_Bool (eqb l.var w)),
      );
    }

-- one more literal taken in
pub merging-taken : (a : Lit → Bool) (seen : List Lit) (clash : Option ℕ) (now : Lit → Bool) (l : Lit) (next : Lit → Bool) (next_clash : Option ℕ) → IsConsistent a → Merging a seen clash now
    → has_variable seen l.var ≡ false → TakesIn now clash l next next_clash → Merging a (seen ++ l ∷ []) next_clash next
merging-taken a seen clash now l next next_clash consistent m new takes = ⊎_elim
    (λ adds. subst (λ c. Merging a (seen ++ l ∷ []) c next) (sym adds.1) (merging_adds a seen clash now l next m new adds.0))
    (λ others. ⊎_elim
    (λ keeps. subst (λ c. Merging a (seen ++ l ∷ []) c next) (sym keeps.2) (merging_keeps a seen clash now l next consistent m new keeps.0 keeps.1))
    (λ clashes. subst (λ c. Merging a (seen ++ l ∷ []) c next) (sym clashes.3) (merging_clashes a seen now l next (subst (λ c. Merging a seen c now) clashes.2 m) new clashes.0 clashes.1))
    others)
    takes

no_clash_with_none : (a : Lit → Bool) (w : ℕ) → clashes a (has []) w ≡ false
no_clash_with_none a w = or_none (a (positive w) && false) (a (negative w) && false) (and_none_right (a (positive w)) false refl) (and_none_right (a (negative w)) false refl)

pub merging-start : (a : Lit → Bool) → Merging a [] None a
merging-start a = record {
  now_is = λ l. sym (or-false (a l));
  clash_is = λ w. no_clash_with_none a w;
}

-- a clash stays one where the clause has more literals
clash_stays : (a : Lit → Bool) (b c : Lit → Bool) (v : ℕ) → ((l : Lit) → b l ≡ true → c l ≡ true) → clashes a b v ≡ true → clashes a c v ≡ true
clash_stays a b c v more h = ⊎_elim
    (λ first. let both = and_parts (a (positive v)) (b (negative v)) first in or_left (a (positive v) && c (negative v)) (a (negative v) && c (positive v)) (and_from (a (positive v)) (c (negative v)) both.0 (more (negative v) both.1)))
    (λ second. let both = and_parts (a (negative v)) (b (positive v)) second in or_right (a (positive v) && c (negative v)) (a (negative v) && c (positive v)) (and_from (a (negative v)) (c (positive v)) both.0 (more (positive v) both.1)))
    (or_cases (a (positive v) && b (negative v)) (a (negative v) && b (positive v)) h)

-- after a second clash there is no resolvent
second_clash : (a : Lit → Bool) (seen : List Lit) (u : ℕ) (now : Lit → Bool) (l : Lit) (rest : List Lit) → Merging a seen (Some u) now → has_variable seen l.var ≡ false → now (opposite l) ≡ true
    → (v : ℕ) → IsOnlyClash a (has (seen ++ l ∷ rest)) v → ⊥
second_clash a seen u now l rest m new there v only =
    let al : a (opposite l) ≡ true = sym (now_absent a seen (Some u) now (opposite l) m new) ∙ there in
    let in_whole : has (seen ++ l ∷ rest) l ≡ true = has-append seen (l ∷ rest) l ∙ or_right (has seen l) (same_lit l l || has rest l) (or_left (same_lit l l) (has rest l) (same_lit_itself l)) in
    let here : l.var ≡ v = only.1 l.var (clashes_back a (has (seen ++ l ∷ rest)) l al in_whole) in
    let there_too : u ≡ v = only.1 u (clash_stays a (has seen) (has (seen ++ l ∷ rest)) u (λ k h. has-append seen (l ∷ rest) k ∙ or_left (has seen k) (has (l ∷ rest) k) h) m.clash_is.0) in
    let seen_it : has_variable seen l.var ≡ true = let P : ℕ → Type 0 = λ w. has_variable seen w ≡ true in subst P (there_too ∙ sym here) (clash_variable a seen u m.clash_is.0) in
    both_ways (has_variable seen l.var) new seen_it

pub merging-refused : (a : Lit → Bool) (seen : List Lit) (clash : Option ℕ) (now : Lit → Bool) (l : Lit) (rest : List Lit) → Merging a seen clash now → has_variable seen l.var ≡ false → IsSome clash → now (opposite l) ≡ true
    → HasNoResolvent a (seen ++ l ∷ rest)
merging-refused a seen None now l rest m new some there v only = absurd (false≢true some)
merging-refused a seen (Some u) now l rest m new some there v only = second_clash a seen u now l rest m new there v only

pub merging-none : (a : Lit → Bool) (clause : List Lit) (now : Lit → Bool) → Merging a clause None now → HasNoResolvent a clause
merging-none a clause now m v only = both_ways (clashes a (has clause) v) (m.clash_is v) only.0

taken_off : (a h t : Bool) → ((a || (h && not t)) && not t) ≡ ((a || h) && not t)
taken_off true h t = refl
taken_off false true true = refl
taken_off false true false = refl
taken_off false false t = refl

pub merging-some : (a : Lit → Bool) (clause : List Lit) (v : ℕ) (now next : Lit → Bool) → Merging a clause (Some v) now → ((l : Lit) → next l ≡ (now l && not (eqb l.var v))) → HasResolvent a clause next
merging-some a clause v now next m removes = (v, m.clash_is, λ l. removes l ∙ ap (λ b. b && not (eqb l.var v)) (m.now_is l) ∙ taken_off (a l) (has clause l) (eqb l.var v))

-- the set has the clash's variable, in one sign or the other
pub merging-present : (a : Lit → Bool) (clause : List Lit) (v : ℕ) (now : Lit → Bool) → Merging a clause (Some v) now → (now (positive v) || now (negative v)) ≡ true
merging-present a clause v now m = ⊎_elim
    (λ first. or_left (now (positive v)) (now (negative v)) (m.now_is (positive v) ∙ or_left (a (positive v)) (has clause (positive v) && not (eqb v v)) ((and_parts (a (positive v)) (has clause (negative v)) first).0)))
    (λ second. or_right (now (positive v)) (now (negative v)) (m.now_is (negative v) ∙ or_left (a (negative v)) (has clause (negative v) && not (eqb v v)) ((and_parts (a (negative v)) (has clause (positive v)) second).0)))
    (or_cases (a (positive v) && has clause (negative v)) (a (negative v) && has clause (positive v)) m.clash_is.0)
