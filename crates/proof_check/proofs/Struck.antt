-- Taking the literals of a clause off a set.
use Rattle.std.proofs.Common.{◌≡◌, ℕ, ◌+◌, ◌-◌, ◌<◌, ◌≤◌, zero, suc, Bool, true, false, cond, not, ◌&&◌, ◌||◌, eqb, List, [], ◌∷◌, ◌++◌, length, get_or, take, drop, refl, ap, sym, ◌∙◌, ◌⊎◌, ◌↔◌, inl, inr, ⊎_elim, arith, zero-add}
use Rattle.std.proofs.lemmas.List.Sums.{sum_by-cons}
use Rattle.std.proofs.lemmas.Bool.{false≢true, both_ways, eqb-true, eqb-false, eq-eqb, ne_eqb, and_parts, and_from, or_cases, or_left, or_right, cases_Bool, not-true, not_from_false, false_from_ne_true}
use Rattle.std.proofs.lemmas.List.{take_more, drop_more, take-append-drop}
use Rattle.std.proofs.lemmas.List.Elements.{All-head, All-tail}
use Rattle.loc_base.proofs.ShelfBools.{and-true}
use Rattle.clause_base.specs.declared.literal.Lit.{Lit}
use Rattle.clause_base.specs.Literal.{positive, opposite, same_sign, same_lit, has, has_variable, has_distinct_variables}
use Rattle.clause_base.specs.Progress.{IsConsistent}
use Rattle.clause_base.proofs.Sets.{has-append, has-push, has_variable-push, has_either, absent, same_lit-true, same_lit_itself, distinct_parts}
use Rattle.proof_check.specs.declared.marks.Mark.{Mark}
use Rattle.proof_check.specs.Marks.{blank, marked, held, AreStampedUpTo}

-- the literals that were gone over were all there, and their variables are taken off
pub record Striking (a : Lit → Bool) (seen : List Lit) (now : Lit → Bool) : Type 0 where
  pub now_is : (l : Lit) → now l ≡ (a l && not (has_variable seen l.var))
  pub all_in : (l : Lit) → has seen l ≡ true → a l ≡ true

pub striking-start : (a : Lit → Bool) → Striking a [] a
striking-start a = record { now_is = λ l. sym (and-true (a l)); all_in = λ l h. absurd (false≢true h) }

struck_more : (a h t u : Bool) → t ≡ u → ((a && not h) && not t) ≡ (a && not (h || u))
struck_more true true true u e = refl
struck_more true true false u e = refl
struck_more true false t u e = ap not e
struck_more false h t u e = refl

eqb_sym : (v w : ℕ) → eqb v w ≡ eqb w v
eqb_sym v w = ⊎_elim (λ yes. yes ∙ sym (eq-eqb w v (sym (eqb-true v w yes)))) (λ no. no ∙ sym (ne_eqb w v (λ e. eqb-false v w no (sym e)))) (cases_Bool (eqb v w))

pub striking-more : (a : Lit → Bool) (seen : List Lit) (now : Lit → Bool) (x : Lit) (next : Lit → Bool) → Striking a seen now → now x ≡ true → ((l : Lit) → next l ≡ (now l && not (eqb l.var x.var))) → Striking a (seen ++ x ∷ []) next
striking-more a seen now x next s there removes = record {
  now_is = λ l. removes l ∙ ap (λ b. b && not (eqb l.var x.var)) (s.now_is l)
      ∙ struck_more (a l) (has_variable seen l.var) (eqb l.var x.var) (eqb x.var l.var) (eqb_sym l.var x.var)
      ∙ ap (λ b. a l && not b) (sym (has_variable-push seen x l.var));
  all_in = λ l h. ⊎_elim (λ before. s.all_in l before)
      (λ same. ap a (sym (same_lit-true x l same)) ∙ (and_parts (a x) (not (has_variable seen x.var)) (sym (s.now_is x) ∙ there)).0)
      (or_cases (has seen l) (same_lit x l) (sym (has-push seen x l) ∙ h));
}

-- a literal of the clause that isn't in the set shows that they differ
pub striking-refused : (a : Lit → Bool) (seen : List Lit) (now : Lit → Bool) (x : Lit) (rest : List Lit) → Striking a seen now → has_variable seen x.var ≡ false → now x ≡ false
    → ((l : Lit) → a l ≡ has (seen ++ x ∷ rest) l) → ⊥
striking-refused a seen now x rest s new gone same =
    let in_whole : has (seen ++ x ∷ rest) x ≡ true = has-append seen (x ∷ rest) x ∙ or_right (has seen x) (same_lit x x || has rest x) (or_left (same_lit x x) (has rest x) (same_lit_itself x)) in
    let here : now x ≡ true = s.now_is x ∙ and_from (a x) (not (has_variable seen x.var)) (same x ∙ in_whole) (not_from_false (has_variable seen x.var) new) in
    both_ways (now x) gone here

-- where nothing is left, the set was the clause's
pub striking-empty : (a : Lit → Bool) (clause : List Lit) (now : Lit → Bool) → IsConsistent a → Striking a clause now → ((l : Lit) → now l ≡ false) → (l : Lit) → a l ≡ has clause l
striking-empty a clause now consistent s empty l = ⊎_elim
    (λ yes. s.all_in l yes ∙ sym yes)
    (λ no. false_from_ne_true (a l) (λ al. ⊎_elim
    (λ struck. ⊎_elim
    (λ there. both_ways (has clause l) no there)
    (λ other. both_ways (a (opposite l)) (consistent l al) (s.all_in (opposite l) other))
    (has_either clause l struck))
    (λ not_struck. both_ways (now l) (empty l) (s.now_is l ∙ and_from (a l) (not (has_variable clause l.var)) al (not_from_false (has_variable clause l.var) not_struck)))
    (cases_Bool (has_variable clause l.var))) ∙ sym no)
    (cases_Bool (has clause l))

-- where a literal is left, it wasn't
pub striking-left : (a : Lit → Bool) (clause : List Lit) (now : Lit → Bool) (l : Lit) → Striking a clause now → now l ≡ true → ((m : Lit) → a m ≡ has clause m) → ⊥
striking-left a clause now l s there same =
    let parts = and_parts (a l) (not (has_variable clause l.var)) (sym (s.now_is l) ∙ there) in
    both_ways (has clause l) (absent clause l (not-true (has_variable clause l.var) parts.1)) (sym (same l) ∙ parts.0)

-- ---- how many literals the set has

none_of : (b : Bool) (n : ℕ) → cond b 1 0 + n ≡ 0 → (b ≡ false) × (n ≡ 0)
none_of true n h = absurd (omega arith)
none_of false n h = (refl, omega arith)

some_of : (b : Bool) (n : ℕ) → 0 < cond b 1 0 + n → (b ≡ true) ⊎ (0 < n)
some_of true n h = inl refl
some_of false n h = inr (omega arith)

held-cons : (stamp : ℕ) (mark : Mark) (marks : List Mark) → held stamp (mark ∷ marks) ≡ cond (eqb mark.stamp stamp) 1 0 + held stamp marks
held-cons stamp mark marks = sum_by-cons (λ (m : Mark). cond (eqb m.stamp stamp) 1 0) mark marks

no_marks : (stamp : ℕ) (marks : List Mark) (v : ℕ) → 0 < stamp → held stamp marks ≡ 0 → eqb (get_or marks v blank).stamp stamp ≡ false
no_marks stamp [] v positive none = ne_eqb 0 stamp (λ e. absurd (omega arith))
no_marks stamp (mark ∷ marks) zero positive none = (none_of (eqb mark.stamp stamp) (held stamp marks) (sym (held-cons stamp mark marks) ∙ none)).0
no_marks stamp (mark ∷ marks) (suc v) positive none = no_marks stamp marks v positive ((none_of (eqb mark.stamp stamp) (held stamp marks) (sym (held-cons stamp mark marks) ∙ none)).1)

other_stamp : (stamp : ℕ) (marks : List Mark) (v : ℕ) → 0 < stamp → AreStampedUpTo (stamp - 1) marks → eqb (get_or marks v blank).stamp stamp ≡ false
other_stamp stamp [] v positive stamps = ne_eqb 0 stamp (λ e. absurd (omega arith))
other_stamp stamp (mark ∷ marks) zero positive stamps =
    let head = All-head (λ (m : Mark). m.stamp ≤ stamp - 1) mark marks stamps in ne_eqb mark.stamp stamp (λ e. absurd (omega arith))
other_stamp stamp (mark ∷ marks) (suc v) positive stamps = other_stamp stamp marks v positive (All-tail (λ (m : Mark). m.stamp ≤ stamp - 1) mark marks stamps)

both_signs : (t s u : Bool) → same_sign s u ≡ true → (t && same_sign s (not u)) ≡ false
both_signs true true true h = refl
both_signs true true false h = absurd (false≢true h)
both_signs true false true h = absurd (false≢true h)
both_signs true false false h = refl
both_signs false s u h = refl

pub held-none : (stamp : ℕ) (marks : List Mark) → 0 < stamp → held stamp marks ≡ 0 → (l : Lit) → marked stamp marks l ≡ false
held-none stamp marks positive none l = ap (λ b. b && same_sign (get_or marks l.var blank).negated l.negated) (no_marks stamp marks l.var positive none)

some_mark : (stamp : ℕ) (marks : List Mark) → 0 < held stamp marks → (v : ℕ) × (eqb (get_or marks v blank).stamp stamp ≡ true)
some_mark stamp [] some = absurd (omega arith)
some_mark stamp (mark ∷ marks) some = ⊎_elim
    (λ here. (0, here))
    (λ later. let inner = some_mark stamp marks later in (suc inner.0, inner.1))
    (some_of (eqb mark.stamp stamp) (held stamp marks) (rw (held-cons stamp mark marks) at some))

same_sign_itself : (b : Bool) → same_sign b b ≡ true
same_sign_itself true = refl
same_sign_itself false = refl

pub held-some : (stamp : ℕ) (marks : List Mark) → 0 < held stamp marks → (l : Lit) × (marked stamp marks l ≡ true)
held-some stamp marks some =
    let found = some_mark stamp marks some in
    let sign : Bool = (get_or marks found.0 blank).negated in
    (record { var = found.0; negated = sign }, and_from (eqb (get_or marks found.0 blank).stamp stamp) (same_sign sign sign) found.1 (same_sign_itself sign))

-- a table holds one sign of a variable
pub marked-IsConsistent : (stamp : ℕ) (marks : List Mark) → IsConsistent (marked stamp marks)
marked-IsConsistent stamp marks l h =
    let mark = get_or marks l.var blank in
    let parts = and_parts (eqb mark.stamp stamp) (same_sign mark.negated l.negated) h in
    both_signs (eqb mark.stamp stamp) mark.negated l.negated parts.1

-- where all stamps are earlier, the set is empty
pub earlier-none : (stamp : ℕ) (marks : List Mark) (l : Lit) → 0 < stamp → AreStampedUpTo (stamp - 1) marks → marked stamp marks l ≡ false
earlier-none stamp marks l positive stamps = ap (λ b. b && same_sign (get_or marks l.var blank).negated l.negated) (other_stamp stamp marks l.var positive stamps)

pub earlier-held : (stamp : ℕ) (marks : List Mark) → 0 < stamp → AreStampedUpTo (stamp - 1) marks → held stamp marks ≡ 0
earlier-held stamp [] positive stamps = refl
earlier-held stamp (mark ∷ marks) positive stamps =
    let head = All-head (λ (m : Mark). m.stamp ≤ stamp - 1) mark marks stamps in
    let no : eqb mark.stamp stamp ≡ false = ne_eqb mark.stamp stamp (λ e. absurd (omega arith)) in
    held-cons stamp mark marks ∙ ap (λ b. cond b 1 0 + held stamp marks) no ∙ zero-add (held stamp marks) ∙ earlier-held stamp marks positive (All-tail (λ (m : Mark). m.stamp ≤ stamp - 1) mark marks stamps)

-- ---- the literal at a place of the clause

abbrev pub literal_at : List Lit → ℕ → Lit
literal_at clause i = get_or clause i (record { var = 0; negated = false })

pub split_at : (clause : List Lit) (i : ℕ) → i < length clause → clause ≡ take i clause ++ literal_at clause i ∷ drop (i + 1) clause
split_at clause i within = sym (take-append-drop i clause) ∙ ap (λ rest. take i clause ++ rest) (drop_more clause i (record { var = 0; negated = false }) within)

pub take_literal : (clause : List Lit) (i : ℕ) → i < length clause → take (i + 1) clause ≡ take i clause ++ literal_at clause i ∷ []
take_literal clause i within = take_more clause i (record { var = 0; negated = false }) within

pub new_variable : (clause : List Lit) (i : ℕ) → has_distinct_variables clause ≡ true → i < length clause → has_variable (take i clause) (literal_at clause i).var ≡ false
new_variable clause i distinct within =
    (distinct_parts (take i clause) (literal_at clause i) (drop (i + 1) clause) (ap has_distinct_variables (sym (split_at clause i within)) ∙ distinct)).0

-- a clause that was gone over to its end is struck whole, so nothing left of the set decides
pub striking-decides : (stamp : ℕ) (old new : List Mark) (clause : List Lit) (left : ℕ) → 0 < stamp → Striking (marked stamp old) clause (marked stamp new) → left ≡ held stamp new
    → (eqb left 0 ≡ true) ↔ ((l : Lit) → marked stamp old l ≡ has clause l)
striking-decides stamp old new clause left positive s count = (
  λ none. striking-empty (marked stamp old) clause (marked stamp new) (marked-IsConsistent stamp old) s (held-none stamp new positive (sym count ∙ eqb-true left 0 none)),
  λ same. ⊎_elim
      (λ none. none)
      (λ some.
      let lt : 0 < held stamp new = (let ne = eqb-false left 0 some in omega arith) in
      let found = held-some stamp new lt in
      absurd (striking-left (marked stamp old) clause (marked stamp new) found.0 s found.1 same))
      (cases_Bool (eqb left 0)),
)
