-- One look at a clause.
use Rattle.std.proofs.Common.{◌≡◌, ◌≢◌, ℕ, suc, ◌+◌, ◌<◌, ◌≤◌, Bool, true, false, not, List, [], ◌∷◌, ◌++◌, length, get_or, take, drop, Option, Some, None, refl, sym, ap, ◌∙◌, subst, arith, ⊎_elim, inl, inr}
use Rattle.std.specs.Prelude.{is_some}
use Rattle.std.specs.Bool.{beq}
use Rattle.std.proofs.lemmas.Bool.{false≢true, both_ways, cases_Bool, or_cases, or_left, or_right}
use Rattle.std.proofs.lemmas.List.{take-append-drop, drop_more, take_more, take_all}
use Rattle.loc_base.proofs.ShelfOptions.{is_some-false, is_some-split}
use Rattle.clause_base.specs.declared.literal.Lit.{Lit}
use Rattle.clause_base.specs.Literal.{IsWithin, same_lit, opposite, has, has_variable, has_distinct_variables}
use Rattle.clause_base.proofs.Sets.{lit_ext, has-IsConsistent, same_lit-true, same_lit_itself, has-append, has-push, has_variable-has, distinct_parts}
use Rattle.trail_core.specs.Values.{Values, IsFalseIn, IsUnassignedIn, IsFalsified, IsUnit, Rests, satisfied, open_at_two, IsVariable}

-- what the literals gone over are: all false, or unit
abbrev pub SoFar : Values → List Lit → Option Lit → Type 0
SoFar values part None = IsFalsified values part
SoFar values part (Some u) = IsUnit values part u

-- a literal of a clause is in it
pub has_at : (c : List Lit) (i : ℕ) (d : Lit) → i < length c → has c (get_or c i d) ≡ true
has_at c i d l =
    let split : take i c ++ (get_or c i d ∷ drop (i + 1) c) ≡ c = ap (λ xs. take i c ++ xs) (sym (drop_more c i d l)) ∙ take-append-drop i c in
    ap (λ xs. has xs (get_or c i d)) (sym split)
    ∙ (has-append (take i c) (get_or c i d ∷ drop (i + 1) c) (get_or c i d)
    ∙ or_right (has (take i c) (get_or c i d)) (has (get_or c i d ∷ drop (i + 1) c) (get_or c i d)) (or_left (same_lit (get_or c i d) (get_or c i d)) (has (drop (i + 1) c) (get_or c i d)) (same_lit_itself (get_or c i d))))

has_in_front : (c : List Lit) (i : ℕ) (l : Lit) → has (take i c) l ≡ true → has c l ≡ true
has_in_front c i l h = ap (λ xs. has xs l) (sym (take-append-drop i c)) ∙ (has-append (take i c) (drop i c) l ∙ or_left (has (take i c) l) (has (drop i c) l) h)

-- a literal before a place is of another variable than the one there
pub other_before : (c : List Lit) (i : ℕ) (d u : Lit) → i < length c → has_distinct_variables c ≡ true → has (take i c) u ≡ true → u.var ≢ (get_or c i d).var
other_before c i d u l h t e =
    let split : take i c ++ (get_or c i d ∷ drop (i + 1) c) ≡ c = ap (λ xs. take i c ++ xs) (sym (drop_more c i d l)) ∙ take-append-drop i c in
    let parts = distinct_parts (take i c) (get_or c i d) (drop (i + 1) c) (ap has_distinct_variables split ∙ h) in
    both_ways (has_variable (take i c) (get_or c i d).var) parts.0 (ap (has_variable (take i c)) (sym e) ∙ has_variable-has (take i c) u t)

in_push : (P : Lit → Type 0) (part : List Lit) (x l : Lit) → (has part l ≡ true → P l) → P x → has (part ++ x ∷ []) l ≡ true → P l
in_push P part x l f p h =
    ⊎_elim f (λ same. subst P (same_lit-true x l same) p) (or_cases (has part l) (same_lit x l) (sym (has-push part x l) ∙ h))

-- no literal gone over
pub SoFar-none : (values : Values) → SoFar values [] None
SoFar-none values l h = absurd (false≢true h)

-- a false literal more
pub SoFar-false : (values : Values) (part : List Lit) (o : Option Lit) (x : Lit) → SoFar values part o → IsFalseIn values x → SoFar values (part ++ x ∷ []) o
SoFar-false values part None x h f = λ l t. in_push (IsFalseIn values) part x l (h l) f t
SoFar-false values part (Some u) x h f = record {
  member = has-push part x u ∙ or_left (has part u) (same_lit x u) h.member;
  unassigned = h.unassigned;
  others = λ l t n. in_push (IsFalseIn values) part x l (λ q. h.others l q n) f t;
}

-- the first unassigned literal
pub SoFar-unassigned : (values : Values) (part : List Lit) (x : Lit) → SoFar values part None → IsUnassignedIn values x → SoFar values (part ++ x ∷ []) (Some x)
SoFar-unassigned values part x h u = record {
  member = has-push part x x ∙ or_right (has part x) (same_lit x x) (same_lit_itself x);
  unassigned = u;
  others = λ l t n. ⊎_elim (λ q. h l q) (λ same. absurd (n (ap (λ (y : Lit). y.var) (sym (same_lit-true x l same))))) (or_cases (has part l) (same_lit x l) (sym (has-push part x l) ∙ t));
}

-- the second unassigned literal
pub rests_at_two : (values : Values) (c : List Lit) (i : ℕ) (d u : Lit) → i < length c → has_distinct_variables c ≡ true → IsUnit values (take i c) u → IsUnassignedIn values (get_or c i d) → Rests values c
rests_at_two values c i d u l h unit free =
    open_at_two u (get_or c i d) (has_in_front c i u unit.member) (has_at c i d l) (other_before c i d u l h unit.member) unit.unassigned free

-- the second unassigned literal, as the loop sees it
pub look_rests_open : (values : Values) (c d : List Lit) (i : ℕ) (e : Lit) (o : Option Lit) → d ≡ c → i < length d → has_distinct_variables d ≡ true → SoFar values (take i d) o → is_some o ≡ true → values (get_or d i e).var ≡ None → Rests values c
look_rests_open values c d i e o q l h s t u =
    subst (Rests values) q (is_some-split o t (Rests values d) (λ x p. rests_at_two values d i e x l h (subst (SoFar values (take i d)) p s) u))

other_sign : (a b : Bool) → not (beq a b) ≡ true → a ≡ not b
other_sign true true h = absurd (false≢true h)
other_sign true false h = refl
other_sign false true h = refl
other_sign false false h = absurd (false≢true h)

same_sign : (a b : Bool) → not (beq a b) ≡ false → a ≡ b
same_sign true true h = refl
same_sign true false h = absurd (false≢true (sym h))
same_sign false true h = absurd (false≢true (sym h))
same_sign false false h = refl

-- a true literal, as the loop sees it
pub look_rests_true : (values : Values) (c d : List Lit) (i : ℕ) (e : Lit) (b : Bool) → d ≡ c → i < length d → values (get_or d i e).var ≡ Some b → not (beq b (get_or d i e).negated) ≡ true → Rests values c
look_rests_true values c d i e b q l v t =
    subst (Rests values) q (satisfied (get_or d i e) (has_at d i e l) (v ∙ ap Some (other_sign b (get_or d i e).negated t)))

-- a false literal, as the loop sees it
pub look_false : (values : Values) (d : List Lit) (i : ℕ) (e : Lit) (o : Option Lit) (b : Bool) → i < length d → SoFar values (take i d) o → values (get_or d i e).var ≡ Some b → not (beq b (get_or d i e).negated) ≡ false → SoFar values (take (i + 1) d) o
look_false values d i e o b l s v t =
    subst (λ part. SoFar values part o) (sym (take_more d i e l)) (SoFar-false values (take i d) o (get_or d i e) s (v ∙ ap Some (same_sign b (get_or d i e).negated t)))

-- the first unassigned literal, as the loop sees it
pub look_open : (values : Values) (d : List Lit) (i : ℕ) (e : Lit) (o : Option Lit) → i < length d → SoFar values (take i d) o → is_some o ≡ false → values (get_or d i e).var ≡ None → SoFar values (take (i + 1) d) (Some (get_or d i e))
look_open values d i e o l s t u =
    subst (λ part. SoFar values part (Some (get_or d i e))) (sym (take_more d i e l))
    (SoFar-unassigned values (take i d) (get_or d i e) (subst (SoFar values (take i d)) (is_some-false o t) s) u)

-- the whole clause gone over
pub look_all : (values : Values) (c d : List Lit) (i : ℕ) (o : Option Lit) → d ≡ c → length d ≤ i → SoFar values (take i d) o → SoFar values c o
look_all values c d i o q l s = subst (λ part. SoFar values part o) (take_all i d l ∙ q) s

-- a literal of a clause is of a variable
pub variable_at : (vars : ℕ) (c : List Lit) (i : ℕ) (d : Lit) → IsWithin vars c → i < length c → IsVariable vars (get_or c i d).var
variable_at vars c i d h l = record { above = (h i d l).0; within = (h i d l).1 }

pub variable_of : (vars : ℕ) (c : List Lit) (l : Lit) → IsWithin vars c → has c l ≡ true → IsVariable vars l.var
variable_of vars [] l h t = absurd (false≢true t)
variable_of vars (x ∷ xs) l h t =
    ⊎_elim
    (λ same. subst (λ (y : Lit). IsVariable vars y.var) (same_lit-true x l same) (variable_at vars (x ∷ xs) 0 x h (omega arith)))
    (λ later. variable_of vars xs l (λ k d m. h (suc k) d (omega arith)) later)
    (or_cases (same_lit x l) (has xs l) t)

-- literals of other variables than one are false: one more that was gone over
pub others_more : (values : Values) (c : List Lit) (i : ℕ) (d : Lit) (v : ℕ) → i < length c → ((m : Lit) → has (take i c) m ≡ true → m.var ≢ v → IsFalseIn values m) → ((get_or c i d).var ≢ v → IsFalseIn values (get_or c i d)) → (m : Lit) → has (take (i + 1) c) m ≡ true → m.var ≢ v → IsFalseIn values m
others_more values c i d v l h last m k = in_push (λ (x : Lit). x.var ≢ v → IsFalseIn values x) (take i c) (get_or c i d) m (h m) last (ap (λ xs. has xs m) (sym (take_more c i d l)) ∙ k)

-- all of them
pub others_all : (values : Values) (c e : List Lit) (i v : ℕ) → e ≡ c → length e ≤ i → ((m : Lit) → has (take i e) m ≡ true → m.var ≢ v → IsFalseIn values m) → (m : Lit) → has c m ≡ true → m.var ≢ v → IsFalseIn values m
others_all values c e i v q l h m k = h m (ap (λ xs. has xs m) (take_all i e l ∙ q) ∙ k)

-- a clause has one literal of a variable at most
pub distinct_same : (c : List Lit) (l m : Lit) → has_distinct_variables c ≡ true → has c l ≡ true → has c m ≡ true → l.var ≡ m.var → l ≡ m
distinct_same c l m d a b e = elim (cases_Bool (beq l.negated m.negated)) [
  | inl t ↦ lit_ext l m e (same_by l.negated m.negated t)
  | inr f ↦ absurd (both_ways (has c (opposite l)) (has-IsConsistent c d l a) (ap (has c) (sym (lit_ext m (opposite l) (sym e) (other_by l.negated m.negated f))) ∙ b))
]
  where
    same_by : (x y : Bool) → beq x y ≡ true → x ≡ y
    same_by true true h = refl
    same_by true false h = absurd (false≢true h)
    same_by false true h = absurd (false≢true h)
    same_by false false h = refl

    other_by : (x y : Bool) → beq x y ≡ false → y ≡ not x
    other_by true true h = absurd (false≢true (sym h))
    other_by true false h = refl
    other_by false true h = refl
    other_by false false h = absurd (false≢true (sym h))
