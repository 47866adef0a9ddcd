-- One step of resolution on a marked set.
use Rattle.std.proofs.Common.{◌≡◌, ◌≢◌, ℕ, ◌≤◌, Bool, true, false, not, ◌&&◌, ◌||◌, eqb, List, [], ◌∷◌, ◌++◌, map, length, Option, Some, None, refl, sym, ap, ◌∙◌, subst, ⊎_elim}
use Rattle.std.proofs.lemmas.Bool.{false≢true, both_ways, cases_eq, eqb-false, and_parts, and_from, or_cases, false_from_ne_true}
use Rattle.std.proofs.lemmas.List.{map_push}
use Rattle.std.proofs.lemmas.List.Elements.{All-push, All-nil, All-cons}
use Rattle.loc_base.proofs.ShelfBools.{and-false, and-true, or-false}
use Rattle.clause_base.specs.declared.literal.Lit.{Lit}
use Rattle.clause_base.specs.Literal.{positive, negative, opposite, has, has_variable}
use Rattle.clause_base.specs.Resolution.{clashes, IsOnlyClash, resolvent, Gives, IsResult}
use Rattle.clause_base.specs.Acceptance.{numbered, IsAcceptedChain}
use Rattle.clause_base.proofs.Sets.{same_sign-true, same_sign_itself, opposite-opposite, has_variable-has, has_either}
use Rattle.clause_base.proofs.Soundness.{clashes_by}
use Rattle.trail_core.specs.Values.{Values, IsFalseIn}
use Rattle.sat_core.specs.Derivation.{has_sign, is_false, marked, set_of, ChainGives, Derives, IsForced}

has_sign-true : (o : Option Bool) (s : Bool) → has_sign o s ≡ true → o ≡ Some s
has_sign-true None s h = absurd (false≢true h)
has_sign-true (Some a) s h = ap Some (same_sign-true a s h)

-- the test of a false literal
pub is_false-true : (values : Values) (l : Lit) → is_false values l ≡ true → IsFalseIn values l
is_false-true values l h = has_sign-true (values l.var) l.negated h

pub is_false_from : (values : Values) (l : Lit) → IsFalseIn values l → is_false values l ≡ true
is_false_from values l h = ap (λ o. has_sign o l.negated) h ∙ same_sign_itself l.negated

not_own : (b : Bool) → b ≡ not b → ⊥
not_own true h = false≢true (sym h)
not_own false h = false≢true h

-- no literal is both true and false
pub not_both : (values : Values) (l : Lit) → IsFalseIn values l → IsFalseIn values (opposite l) → ⊥
not_both values l p q = let e : Some l.negated ≡ Some (not l.negated) = sym p ∙ q in not_own l.negated (cc)

-- the same, at the variables that have a value
abbrev pub ReplacesAt : List Bool → List Bool → Values → List Lit → ℕ → Type 0
ReplacesAt marks after values clause x = (v : ℕ) (b : Bool) → values v ≡ Some b → marked after v ≡ (not (eqb v x) && (marked marks v || has_variable clause v))

-- a false literal is in the clause where its variable is
false_member : (values : Values) (clause : List Lit) (x l : Lit) → IsForced values clause x → l.var ≢ x.var → IsFalseIn values l → has clause l ≡ has_variable clause l.var
false_member values clause x l f n p = at (has_variable clause l.var) refl
  where
    at : (b : Bool) → has_variable clause l.var ≡ b → has clause l ≡ b
    at true h = ⊎_elim (λ q. q) (λ q. absurd (not_both values l p (f.others (opposite l) q n))) (has_either clause l h)
    at false h = false_from_ne_true (has clause l) (λ q. both_ways (has_variable clause l.var) h (has_variable-has clause l q))

-- the resolvent is the set of the new marks
pub resolve_set : (marks after : List Bool) (values : Values) (clause : List Lit) (x : Lit) → IsForced values clause x → ReplacesAt marks after values clause x.var → (l : Lit) → resolvent (set_of marks values) (has clause) x.var l ≡ set_of after values l
resolve_set marks after values clause x f r l = at (eqb l.var x.var) (is_false values l) refl refl
  where
    at : (e b : Bool) → eqb l.var x.var ≡ e → is_false values l ≡ b → ((marked marks l.var && is_false values l) || has clause l) && not (eqb l.var x.var) ≡ (marked after l.var && is_false values l)
    at true true p q =
        let v = r l.var l.negated (is_false-true values l q) in
        rw (p, q) (and-false ((marked marks l.var && true) || has clause l) ∙ sym (ap (λ b. b && true) (v ∙ ap (λ b. not b && (marked marks l.var || has_variable clause l.var)) p)))
    at true false p q = rw (p, q) (and-false ((marked marks l.var && false) || has clause l) ∙ sym (and-false (marked after l.var)))
    at false true p q =
        let v = r l.var l.negated (is_false-true values l q) in
        let n : l.var ≢ x.var = eqb-false l.var x.var p in
        let same = false_member values clause x l f n (is_false-true values l q) in
        rw (p, q, same) (and-true ((marked marks l.var && true) || has_variable clause l.var) ∙ (ap (λ b. b || has_variable clause l.var) (and-true (marked marks l.var))
        ∙ sym (and-true (marked after l.var) ∙ (v ∙ ap (λ b. not b && (marked marks l.var || has_variable clause l.var)) p))))
    at false false p q =
        let n : l.var ≢ x.var = eqb-false l.var x.var p in
        let out : has clause l ≡ false = false_from_ne_true (has clause l) (λ h. both_ways (is_false values l) q (is_false_from values l (f.others l h n))) in
        rw (p, q, out) (and-true ((marked marks l.var && false) || false) ∙ (or-false (marked marks l.var && false) ∙ (and-false (marked marks l.var) ∙ sym (and-false (marked after l.var)))))

clash_var : (marks : List Bool) (values : Values) (clause : List Lit) (x l : Lit) → IsForced values clause x → set_of marks values l ≡ true → has clause (opposite l) ≡ true → l.var ≡ x.var
clash_var marks values clause x l f a c =
    ⊎_elim (λ e. e) (λ n. absurd (not_both values l (is_false-true values l (and_parts (marked marks l.var) (is_false values l) a).1) (f.others (opposite l) c n))) (cases_eq l.var x.var)

-- the only clash is on the variable of x
pub resolve_clash : (marks : List Bool) (values : Values) (clause : List Lit) (x : Lit) → IsForced values clause x → marked marks x.var ≡ true → IsOnlyClash (set_of marks values) (has clause) x.var
resolve_clash marks values clause x f m = (
  clashes_by (set_of marks values) (has clause) (opposite x) (and_from (marked marks x.var) (is_false values (opposite x)) m (is_false_from values (opposite x) f.is_true)) (ap (has clause) (opposite-opposite x) ∙ f.member),
  λ w h. ⊎_elim
      (λ p. let q = and_parts (set_of marks values (positive w)) (has clause (negative w)) p in clash_var marks values clause x (positive w) f q.0 q.1)
      (λ p. let q = and_parts (set_of marks values (negative w)) (has clause (positive w)) p in clash_var marks values clause x (negative w) f q.0 q.1)
      (or_cases (set_of marks values (positive w) && has clause (negative w)) (set_of marks values (negative w) && has clause (positive w)) h),
)

pub clashes_same : (a b : Lit → Bool) (c : List Lit) (v : ℕ) → ((l : Lit) → a l ≡ b l) → clashes a (has c) v ≡ clashes b (has c) v
clashes_same a b c v e = ap (λ p. (p && has c (negative v)) || (a (negative v) && has c (positive v))) (e (positive v)) ∙ ap (λ n. (b (positive v) && has c (negative v)) || (n && has c (positive v))) (e (negative v))

-- one clause more at the end
pub Gives-push : (from : Lit → Bool) (cs : List (List Lit)) (a b : Lit → Bool) (c : List Lit) (v : ℕ) → Gives from cs a → IsOnlyClash a (has c) v → ((l : Lit) → resolvent a (has c) v l ≡ b l) → Gives from (cs ++ c ∷ []) b
Gives-push from [] a b c v g k r =
    (v, (clashes_same from a c v g ∙ k.0, λ w h. k.1 w (sym (clashes_same from a c w g) ∙ h)), λ l. ap (λ p. (p || has c l) && not (eqb l.var v)) (g l) ∙ r l)
Gives-push from (d ∷ ds) a b c v (w, clash, rest) k r = (w, clash, Gives-push (resolvent from (has d) w) ds a b c v rest k r)

pub Gives-same : (from : Lit → Bool) (cs : List (List Lit)) (a b : Lit → Bool) → Gives from cs a → ((l : Lit) → a l ≡ b l) → Gives from cs b
Gives-same from [] a b g e = λ l. g l ∙ e l
Gives-same from (d ∷ ds) a b (w, clash, rest) e = (w, clash, Gives-same (resolvent from (has d) w) ds a b rest e)

gives_push : (clauses : List (List Lit)) (chain : List ℕ) (n : ℕ) (a b : Lit → Bool) (v : ℕ) → ChainGives clauses chain a → IsOnlyClash a (has (numbered clauses n)) v → ((l : Lit) → resolvent a (has (numbered clauses n)) v l ≡ b l) → ChainGives clauses (chain ++ n ∷ []) b
gives_push clauses [] n a b v g k r = absurd g
gives_push clauses (m ∷ ms) n a b v g k r =
    subst (λ cs. Gives (has (numbered clauses m)) cs b) (sym (map_push (numbered clauses) ms n)) (Gives-push (has (numbered clauses m)) (map (numbered clauses) ms) a b (numbered clauses n) v g k r)

-- a clause more at the chain's end
pub Derives-push : (clauses : List (List Lit)) (chain : List ℕ) (n : ℕ) (marks after : List Bool) (values : Values) (x : Lit) → Derives clauses chain (set_of marks values) → (1 ≤ n) × (n ≤ length clauses) → IsForced values (numbered clauses n) x → marked marks x.var ≡ true → ReplacesAt marks after values (numbered clauses n) x.var → Derives clauses (chain ++ n ∷ []) (set_of after values)
Derives-push clauses chain n marks after values x d k f m r = record {
  numbers = All-push (λ j. (1 ≤ j) × (j ≤ length clauses)) chain n d.numbers k;
  gives = gives_push clauses chain n (set_of marks values) (set_of after values) x.var d.gives (resolve_clash marks values (numbered clauses n) x f m) (resolve_set marks after values (numbered clauses n) x f r);
}

-- the chain of one clause
pub Derives-start : (clauses : List (List Lit)) (n : ℕ) (set : Lit → Bool) → (1 ≤ n) × (n ≤ length clauses) → ((l : Lit) → has (numbered clauses n) l ≡ set l) → Derives clauses (n ∷ []) set
Derives-start clauses n set k e = record {
  numbers = All-cons (λ j. (1 ≤ j) × (j ≤ length clauses)) n [] k (All-nil (λ j. (1 ≤ j) × (j ≤ length clauses)));
  gives = e;
}

-- the literals of a falsified clause, by its marks
pub falsified_set : (values : Values) (clause : List Lit) (marks : List Bool) → ((l : Lit) → has clause l ≡ true → IsFalseIn values l) → ((v : ℕ) (b : Bool) → values v ≡ Some b → marked marks v ≡ has_variable clause v) → (l : Lit) → has clause l ≡ set_of marks values l
falsified_set values clause marks f m l = at (is_false values l) refl
  where
    at : (b : Bool) → is_false values l ≡ b → has clause l ≡ (marked marks l.var && is_false values l)
    at true q = rw q (member (has_variable clause l.var) refl ∙ sym (and-true (marked marks l.var) ∙ m l.var l.negated (is_false-true values l q)))
      where
        member : (b : Bool) → has_variable clause l.var ≡ b → has clause l ≡ has_variable clause l.var
        member true h = rw h (⊎_elim (λ p. p) (λ p. absurd (not_both values l (is_false-true values l q) (f (opposite l) p))) (has_either clause l h))
        member false h = rw h (false_from_ne_true (has clause l) (λ p. both_ways (has_variable clause l.var) h (has_variable-has clause l p)))
    at false q = rw q (false_from_ne_true (has clause l) (λ h. both_ways (is_false values l) q (is_false_from values l (f l h))) ∙ sym (and-false (marked marks l.var)))

chain_done : (clauses : List (List Lit)) (chain : List ℕ) (set : Lit → Bool) (clause : List Lit) → ChainGives clauses chain set → ((l : Lit) → set l ≡ has clause l) → IsResult (map (numbered clauses) chain) clause
chain_done clauses [] set clause g e = absurd g
chain_done clauses (n ∷ ns) set clause g e = Gives-same (has (numbered clauses n)) (map (numbered clauses) ns) set (has clause) g e

-- the clause of the derived set is accepted
pub Derives-done : (clauses : List (List Lit)) (chain : List ℕ) (set : Lit → Bool) (clause : List Lit) → Derives clauses chain set → ((l : Lit) → set l ≡ has clause l) → IsAcceptedChain clauses chain clause
Derives-done clauses chain set clause d e = (d.numbers, chain_done clauses chain set clause d.gives e)
