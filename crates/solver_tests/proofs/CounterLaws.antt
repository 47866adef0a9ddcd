-- Forms with counters, and enumerators of one form.
use Rattle.std.proofs.Common.{◌≡◌, ℕ, zero, suc, ◌+◌, ◌≤◌, List, [], ◌∷◌, ◌++◌, length, refl, sym, ◌∙◌, ap, subst, append_assoc, arith}
use Rattle.std.specs.Prelude.{All, map}
use Rattle.std.proofs.lemmas.List.{append-nil, drop_at}
use Rattle.std.proofs.lemmas.List.Elements.{All-nil, All-push, All-drop}
use Rattle.clause_base.specs.declared.literal.Lit.{Lit}
use Rattle.clause_base.specs.declared.log.Step.{Step}
use Rattle.clause_base.specs.Literal.{IsWithin, AreWithin, positive}
use Rattle.clause_base.specs.Acceptance.{clauses_of, IsAccepted}
use Rattle.card_counter.specs.Places.{starts}
use Rattle.card_counter.specs.Counter.{counter_clauses}
use Rattle.card_counter.specs.InForm.{literals_from, HasCounter, NamesNoCounter}
use Rattle.sat_core.specs.SolverState.{blocks_of}
use Rattle.set_enum.specs.Sets.{IsBlock}
use Rattle.set_enum.specs.EnumState.{EnumState, IsEnum, MayBeImported, begun}

pub literals_length : (first count : ℕ) → length (literals_from first count) ≡ count
literals_length first zero = refl
literals_length first (suc count) = ap suc (literals_length (first + 1) count)

literals_push : (first count : ℕ) → literals_from first (suc count) ≡ literals_from first count ++ positive (first + count) ∷ []
literals_push first zero = let e : first ≡ first + 0 = omega arith in ap (λ m. positive m ∷ []) e
literals_push first (suc count) =
    let e : first + 1 + count ≡ first + suc count = omega arith in
    ap (λ xs. positive first ∷ xs) (literals_push (first + 1) count ∙ ap (λ m. literals_from (first + 1) count ++ positive m ∷ []) e)

-- one selector more
pub literals_next : (i : ℕ) → literals_from 1 (i + 1) ≡ literals_from 1 i ++ positive (i + 1) ∷ []
literals_next i =
    let e : 1 + i ≡ i + 1 = omega arith in
    let s : i + 1 ≡ suc i = omega arith in
    ap (literals_from 1) s ∙ (literals_push 1 i ∙ ap (λ m. literals_from 1 i ++ positive m ∷ []) e)

-- the counter's clauses alone
pub counter_alone : (n k vars : ℕ) → n + starts k (n + 1) ≤ vars → HasCounter n k vars (counter_clauses (literals_from 1 n) k (n + 1))
counter_alone n k vars fits = record {
  within = fits;
  rest = [];
  splits = sym (append-nil (counter_clauses (literals_from 1 n) k (n + 1)));
  apart = All-nil (NamesNoCounter n k);
}

-- one clause more, which names no counter
pub counter_push : (n k vars : ℕ) (form : List (List Lit)) (clause : List Lit) → HasCounter n k vars form → NamesNoCounter n k clause
    → HasCounter n k vars (form ++ clause ∷ [])
counter_push n k vars form clause h apart = record {
  within = h.within;
  rest = h.rest ++ clause ∷ [];
  splits = ap (λ clauses. clauses ++ clause ∷ []) h.splits ∙ append_assoc (counter_clauses (literals_from 1 n) k (n + 1)) h.rest
      (clause ∷ []);
  apart = All-push (NamesNoCounter n k) h.rest clause h.apart apart;
}

-- the steps of an enumerator may be imported by a new one of the same form
pub may_take_over : (from new : EnumState) → IsEnum from → new ≡ begun from.vars from.form from.n from.k → MayBeImported new from.log
may_take_over from new h e = subst (λ s. MayBeImported s from.log) (sym e) record {
  open_size = omega arith;
  accepted = h.accepted;
  within = subst (AreWithin from.vars) (drop_at from.form (map (λ (s : Step). s.clause) from.log) (length from.form) refl)
      (All-drop (IsWithin from.vars) (length from.form) (clauses_of from.form from.log) h.within);
  blocks = h.blocks;
  chainless = h.chainless;
}
