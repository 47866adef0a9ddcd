-- What adding a clause, appending an entry and going back keep of a trail.
use Rattle.std.proofs.Common.{◌≡◌, ℕ, ◌+◌, ◌-◌, ◌<◌, true, false, not, cond, leb, eqb, List, [], ◌∷◌, ◌++◌, length, get_or, take, Option, Some, None, refl, sym, ap, ◌∙◌, subst, arith, inl, inr}
use Rattle.std.specs.Prelude.{IsTrue}
use Rattle.std.specs.Option.{option_map}
use Rattle.std.proofs.lemmas.Bool.{cases_lt, leb-true, lt-leb}
use Rattle.std.proofs.lemmas.List.{get_or_append_left, get_or_push, length_push, take-append-le, take_at, take_all, append-nil}
use Rattle.std.proofs.lemmas.List.Sums.{sum_by_push}
use Rattle.std.proofs.lemmas.Option.{same_Some}
use Rattle.std.proofs.lemmas.List.Elements.{filter_passes, filter-append}
use Rattle.clause_base.specs.declared.literal.Lit.{Lit}
use Rattle.clause_base.specs.Literal.{has_distinct_variables, IsWithin}
use Rattle.clause_base.specs.Acceptance.{numbered}
use Rattle.trail_core.specs.declared.entry.Entry.{Entry}
use Rattle.trail_core.specs.Values.{Values, IsUnassignedIn, IsUnit, Rests, open_at_two, IsVariable}
use Rattle.trail_core.specs.TrailState.{TrailState, IsTrail, IsJustified, IsReason, IsNumber, AllRest, MayAdd, at_start, asserting, with_clause, entry_of, values_of, level_in, up_to, decisions, is_decision}
use Rattle.trail_core.specs.Watching.{IsOpen}
use Rattle.trail_core.proofs.Lists.{find_found, find-take_some}
use Rattle.trail_core.proofs.Levels.{IsLeveled, up_to_front, up_to_all}
use Rattle.trail_core.proofs.Truth.{values-up_to_none}

-- the clauses keep their numbers
pub numbered-push_old : (cs : List (List Lit)) (c : List Lit) (n : ℕ) → IsNumber cs n → numbered (cs ++ c ∷ []) n ≡ numbered cs n
numbered-push_old cs c n h = get_or_append_left cs (c ∷ []) [] (n - 1) (omega (arith, h.above, h.within))

-- the added clause has the next number
pub numbered-push_new : (cs : List (List Lit)) (c : List Lit) (n : ℕ) → n ≡ length cs + 1 → numbered (cs ++ c ∷ []) n ≡ c
numbered-push_new cs c n h = get_or_push cs c [] (n - 1) (omega arith)

pub number_push : (cs : List (List Lit)) (c : List Lit) (n : ℕ) → IsNumber cs n → IsNumber (cs ++ c ∷ []) n
number_push cs c n h = record { above = h.above; within = omega (arith, h.within, length_push cs c) }

-- what holds of each clause and of the added one
pub each_number_push : (P : List Lit → Type 0) (cs : List (List Lit)) (c : List Lit) → ((n : ℕ) → IsNumber cs n → P (numbered cs n)) → P c → (n : ℕ) → IsNumber (cs ++ c ∷ []) n → P (numbered (cs ++ c ∷ []) n)
each_number_push P cs c f h n m =
    elim (cases_lt (length cs) n) [
      | inl l ↦ subst P (sym (numbered-push_new cs c n (omega (arith, m.within, length_push cs c)))) h
      | inr l ↦ let k : IsNumber cs n = record { above = m.above; within = l } in subst P (sym (numbered-push_old cs c n k)) (f n k)
    ]

-- a reason stays one
reason_push : (cs : List (List Lit)) (c : List Lit) (values : Values) (n : ℕ) (l : Lit) → IsReason cs values n l → IsReason (cs ++ c ∷ []) values n l
reason_push cs c values n l r =
    record { number = number_push cs c n r.number; unit = subst (λ d. IsUnit values d l) (sym (numbered-push_old cs c n r.number)) r.unit }

justified_push : (vars : ℕ) (cs : List (List Lit)) (c : List Lit) (before : List Entry) (e : Entry) → IsJustified vars cs before e → IsJustified vars (cs ++ c ∷ []) before e
justified_push vars cs c before e j =
    record { variable = j.variable; unassigned = j.unassigned; forced = λ n h. reason_push cs c (values_of before) n e.lit (j.forced n h) }

-- a variable of a level above k has no value up to k
pub unassigned_below : (t : TrailState) (v k m : ℕ) → IsTrail t → level_in t.entries v ≡ Some m → k < m → values_of (up_to k t.entries) v ≡ None
unassigned_below t v k m h s l = at_entry (entry_of (up_to k t.entries) v) refl
  where
    at_entry : (o : Option Entry) → entry_of (up_to k t.entries) v ≡ o → option_map (λ (e : Entry). not e.lit.negated) o ≡ None
    at_entry None e = refl
    at_entry (Some e) q =
        let found = find_found (λ (x : Entry). eqb x.lit.var v) (up_to k t.entries) e q in
        let low : leb e.decision_level k ≡ true = subst (λ (x : Entry). leb x.decision_level k ≡ true) (found.is e) (filter_passes (λ (x : Entry). leb x.decision_level k) t.entries found.place e found.within) in
        let whole : entry_of t.entries v ≡ Some e = find-take_some (λ (x : Entry). eqb x.lit.var v) t.entries (length (up_to k t.entries)) e (subst (λ xs. entry_of xs v ≡ Some e) (up_to_front t.entries k h.leveled) q) in
        let same : Some e.decision_level ≡ Some m = ap (option_map (λ (x : Entry). x.decision_level)) (sym whole) ∙ s in
        let equal : e.decision_level ≡ m = cc in
        absurd (omega (arith, leb-true e.decision_level k low, equal))

-- the added clause has two unassigned literals below the present level
pub new_open : (t : TrailState) (c : List Lit) (k : ℕ) → IsTrail t → MayAdd t c → k < t.level → IsOpen (values_of (up_to k t.entries)) c
new_open t c k h (at_start z) l = absurd (omega (arith, z, l))
new_open t c k h (asserting u m unit has_m other level) l = record {
  one = u;
  two = m;
  has_one = unit.member;
  has_two = has_m;
  apart = λ e. other (sym e);
  one_free = values-up_to_none t.entries k u.var h.leveled unit.unassigned;
  two_free = unassigned_below t m.var k t.level h level l;
}

-- so it rests there
new_rests : (t : TrailState) (c : List Lit) (k : ℕ) → IsTrail t → MayAdd t c → k < t.level → Rests (values_of (up_to k t.entries)) c
new_rests t c k h m l = let o = new_open t c k h m l in open_at_two o.one o.two o.has_one o.has_two o.apart o.one_free o.two_free

-- a clause may be added
pub IsTrail-with_clause : (t : TrailState) (c : List Lit) → IsTrail t → IsWithin t.vars c → IsTrue (has_distinct_variables c) → MayAdd t c → IsTrail (with_clause t c)
IsTrail-with_clause t c h o d m = record {
  within = each_number_push (IsWithin t.vars) t.clauses c h.within o;
  distinct = each_number_push (λ x. IsTrue (has_distinct_variables x)) t.clauses c h.distinct d;
  justified = λ place e l. justified_push t.vars t.clauses c (take place t.entries) (get_or t.entries place e) (h.justified place e l);
  leveled = h.leveled;
  level = h.level;
  small = h.small;
  few = h.few;
  rests = λ k l. each_number_push (Rests (values_of (up_to k t.entries))) t.clauses c (h.rests k l) (new_rests t c k h m l);
}

-- the same, as the fields stand after the push
pub IsTrail-added : (t seen : TrailState) (cs : List (List Lit)) (c : List Lit) → t ≡ seen → IsTrail t → IsWithin seen.vars c → IsTrue (has_distinct_variables c) → MayAdd seen c → cs ≡ t.clauses ++ c ∷ [] → IsTrail record { vars = t.vars; clauses = cs; entries = t.entries; level = t.level }
IsTrail-added t seen cs c e h o d m q =
    subst (λ xs. IsTrail record { vars = t.vars; clauses = xs; entries = t.entries; level = t.level }) (sym q)
    (IsTrail-with_clause t c h (subst (λ (s : TrailState). IsWithin s.vars c) (sym e) o) d (subst (λ s. MayAdd s c) (sym e) m))

-- the entries up to a lower level stay
pub up_to_push : (k : ℕ) (es : List Entry) (e : Entry) → k < e.decision_level → up_to k (es ++ e ∷ []) ≡ up_to k es
up_to_push k es e l =
    let high : leb e.decision_level k ≡ false = lt-leb e.decision_level k l in
    filter-append (λ (x : Entry). leb x.decision_level k) es (e ∷ []) ∙ rw high (append-nil (up_to k es))

-- the entries before each place, and those before the appended one
pub each_place_push : (P : List Entry → Entry → Type 0) (es : List Entry) (e : Entry) → ((place : ℕ) (d : Entry) → place < length es → P (take place es) (get_or es place d)) → P es e → (place : ℕ) (d : Entry) → place < length (es ++ e ∷ []) → P (take place (es ++ e ∷ [])) (get_or (es ++ e ∷ []) place d)
each_place_push P es e f h place d l =
    elim (cases_lt place (length es)) [
      | inl m ↦ subst (λ xs. P xs (get_or (es ++ e ∷ []) place d)) (sym (take-append-le place es (e ∷ []) (omega arith)))
          (subst (λ x. P (take place es) x) (sym (get_or_append_left es (e ∷ []) d place m)) (f place d m))
      | inr m ↦ let q : length es ≡ place = omega (arith, length_push es e) in
          subst (λ xs. P xs (get_or (es ++ e ∷ []) place d)) (sym (take_at es (e ∷ []) place q))
          (subst (λ x. P es x) (sym (get_or_push es e d place q)) h)
    ]

-- the levels with an entry more
pub IsLeveled-push : (es : List Entry) (e : Entry) → IsLeveled es → e.decision_level ≡ decisions (es ++ e ∷ []) → IsLeveled (es ++ e ∷ [])
IsLeveled-push es e h q place d l =
    elim (cases_lt place (length es)) [
      | inl m ↦ rw (get_or_append_left es (e ∷ []) d place m, take-append-le (place + 1) es (e ∷ []) (omega arith)) (h place d m)
      | inr m ↦ let p : length es ≡ place = omega (arith, length_push es e) in
          rw (get_or_push es e d place p, take_all (place + 1) (es ++ e ∷ []) (omega (arith, length_push es e))) q
    ]

-- an entry that may be appended, at the level that the trail then has
pub record MayAppend (t : TrailState) (e : Entry) : Type 0 where
  pub justified : IsJustified t.vars t.clauses t.entries e
  pub leveled : e.decision_level ≡ decisions (t.entries ++ e ∷ [])
  pub entry_left : length t.entries < t.vars
  pub rests : (k : ℕ) → k < e.decision_level → AllRest t.clauses (values_of (up_to k t.entries))

-- the trail with that entry
abbrev pub with_entry : TrailState → Entry → TrailState
with_entry t e = record { vars = t.vars; clauses = t.clauses; entries = t.entries ++ e ∷ []; level = e.decision_level }

pub IsTrail-with_entry : (t : TrailState) (e : Entry) → IsTrail t → MayAppend t e → IsTrail (with_entry t e)
IsTrail-with_entry t e h m = record {
  within = h.within;
  distinct = h.distinct;
  justified = each_place_push (IsJustified t.vars t.clauses) t.entries e h.justified m.justified;
  leveled = IsLeveled-push t.entries e h.leveled m.leveled;
  level = m.leveled;
  small = h.small;
  few = omega (arith, m.entry_left, length_push t.entries e);
  rests = λ k l. subst (λ es. AllRest t.clauses (values_of es)) (sym (up_to_push k t.entries e l)) (m.rests k l);
}

decisions_push : (es : List Entry) (e : Entry) → decisions (es ++ e ∷ []) ≡ decisions es + cond (is_decision e) 1 0
decisions_push es e = sum_by_push (λ x. cond (is_decision x) 1 0) es e

-- a decision may be appended where all clauses rest
pub MayAppend-decision : (t : TrailState) (l : Lit) → IsTrail t → IsVariable t.vars l.var → IsUnassignedIn (values_of t.entries) l → AllRest t.clauses (values_of t.entries) → length t.entries < t.vars → MayAppend t record { lit = l; decision_level = t.level + 1; reason = None }
MayAppend-decision t l h v u r left = record {
  justified = record { variable = v; unassigned = u; forced = λ n q. absurd (cc) };
  leveled = omega (arith, h.level, decisions_push t.entries record { lit = l; decision_level = t.level + 1; reason = None });
  entry_left = left;
  rests = λ k m. elim (cases_lt k t.level) [
    | inl b ↦ h.rests k b
    | inr b ↦ subst (λ es. AllRest t.clauses (values_of es)) (sym (up_to_all t.entries k h.leveled (omega (arith, h.level)))) r
  ];
}

-- a literal whose clause is unit may be appended
pub MayAppend-forced : (t : TrailState) (l : Lit) (n : ℕ) → IsTrail t → IsVariable t.vars l.var → IsReason t.clauses (values_of t.entries) n l → length t.entries < t.vars → MayAppend t record { lit = l; decision_level = t.level; reason = Some n }
MayAppend-forced t l n h v r left = record {
  justified = record { variable = v; unassigned = r.unit.unassigned; forced = λ m q. subst (λ x. IsReason t.clauses (values_of t.entries) x l) (same_Some n m q) r };
  leveled = omega (arith, h.level, decisions_push t.entries record { lit = l; decision_level = t.level; reason = Some n });
  entry_left = left;
  rests = h.rests;
}
