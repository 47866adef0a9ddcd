-- What propagation keeps.
use Rattle.std.proofs.Common.{◌≡◌, ℕ, ◌+◌, ◌<◌, [], ◌∷◌, ◌++◌, length, get_or, take, Some, not, refl, sym, ap, ◌∙◌, subst, arith, inl, inr}
use Rattle.std.specs.Prelude.{IsSome}
use Rattle.std.specs.Option.{option_map}
use Rattle.std.proofs.lemmas.Bool.{cases_lt}
use Rattle.std.proofs.lemmas.List.{take_all, take-take, get_or-take, get_or_append_left, get_or_push, length_push, take-append-le}
use Rattle.loc_base.proofs.ShelfOptions.{option_map-none}
use Rattle.clause_base.specs.declared.literal.Lit.{Lit}
use Rattle.clause_base.specs.Acceptance.{numbered}
use Rattle.trail_core.specs.declared.entry.Entry.{Entry}
use Rattle.trail_core.specs.Values.{Rests, satisfied}
use Rattle.trail_core.specs.TrailState.{TrailState, IsReason, Propagates, entry_of, values_of, with_forced}
use Rattle.trail_core.proofs.LayoutLemmas.{entry_of_push_same}

pub Propagates-none : (t : TrailState) → Propagates t t
Propagates-none t = record {
  vars = refl;
  clauses = refl;
  level = refl;
  longer = omega arith;
  prefix = take_all (length t.entries) t.entries (omega arith);
  reasoned = λ place d l m. absurd (omega arith);
  leveled = λ place d l m. absurd (omega arith);
}

-- a forced literal more
pub Propagates-forced : (a b : TrailState) (l : Lit) (n : ℕ) → Propagates a b → Propagates a (with_forced b l n)
Propagates-forced a b l n p = record {
  vars = p.vars;
  clauses = p.clauses;
  level = p.level;
  longer = omega (arith, p.longer, size);
  prefix = take-append-le (length a.entries) b.entries (e ∷ []) p.longer ∙ p.prefix;
  reasoned = λ place d low high. elim (cases_lt place (length b.entries)) [
    | inl m ↦ subst (λ (x : Entry). IsSome x.reason) (sym (get_or_append_left b.entries (e ∷ []) d place m)) (p.reasoned place d low m)
    | inr m ↦ subst (λ (x : Entry). IsSome x.reason) (sym (get_or_push b.entries e d place (omega (arith, size)))) refl
  ];
  leveled = λ place d low high. elim (cases_lt place (length b.entries)) [
    | inl m ↦ subst (λ (x : Entry). x.decision_level ≡ a.level) (sym (get_or_append_left b.entries (e ∷ []) d place m)) (p.leveled place d low m)
    | inr m ↦ subst (λ (x : Entry). x.decision_level ≡ a.level) (sym (get_or_push b.entries e d place (omega (arith, size)))) p.level
  ];
}
  where
    e : Entry
    e = record { lit = l; decision_level = b.level; reason = Some n }

    size : length (b.entries ++ e ∷ []) ≡ length b.entries + 1
    size = length_push b.entries e

-- a clause whose literal was forced rests
pub forced_rests : (t new : TrailState) (l : Lit) (n : ℕ) → IsReason t.clauses (values_of t.entries) n l → new ≡ with_forced t l n → Rests (values_of new.entries) (numbered new.clauses n)
forced_rests t new l n r e = subst (λ (s : TrailState). Rests (values_of s.entries) (numbered s.clauses n)) (sym e) (satisfied l r.unit.member (ap (option_map (λ (x : Entry). not x.lit.negated)) found))
  where
    entry : Entry
    entry = record { lit = l; decision_level = t.level; reason = Some n }

    found : entry_of (t.entries ++ entry ∷ []) l.var ≡ Some entry
    found = entry_of_push_same t.entries entry l.var refl (option_map-none (λ (x : Entry). not x.lit.negated) (entry_of t.entries l.var) r.unit.unassigned)

-- one propagation after another
pub Propagates-then : (a b c : TrailState) → Propagates a b → Propagates b c → Propagates a c
Propagates-then a b c p q = record {
  vars = q.vars ∙ p.vars;
  clauses = q.clauses ∙ p.clauses;
  level = q.level ∙ p.level;
  longer = omega (arith, p.longer, q.longer);
  prefix = sym (take-take (length a.entries) (length b.entries) c.entries p.longer) ∙ (ap (take (length a.entries)) q.prefix ∙ p.prefix);
  reasoned = λ place d low high. elim (cases_lt place (length b.entries)) [
    | inl m ↦ subst (λ (x : Entry). IsSome x.reason) (kept place d m) (p.reasoned place d low m)
    | inr m ↦ q.reasoned place d m high
  ];
  leveled = λ place d low high. elim (cases_lt place (length b.entries)) [
    | inl m ↦ subst (λ (x : Entry). x.decision_level ≡ a.level) (kept place d m) (p.leveled place d low m)
    | inr m ↦ q.leveled place d m high ∙ p.level
  ];
}
  where
    kept : (place : ℕ) (d : Entry) → place < length b.entries → get_or b.entries place d ≡ get_or c.entries place d
    kept place d m = ap (λ es. get_or es place d) (sym q.prefix) ∙ get_or-take (length b.entries) c.entries place d m
