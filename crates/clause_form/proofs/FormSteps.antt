-- The whole form: the counter's clauses, then those of the cycles.
use Rattle.std.proofs.Common.{◌≡◌, ℕ, zero, suc, ◌+◌, ◌≤◌, Bool, List, [], ◌++◌, length, get_or, refl, sym, ◌∙◌, ap, ap₂, arith}
use Rattle.std.proofs.Math.Path.{fun_ext}
use Rattle.clause_base.specs.declared.literal.Lit.{Lit}
use Rattle.card_counter.specs.InForm.{literals_from}
use Rattle.card_counter.specs.Means.{AreBefore}
use Rattle.suspect_map.specs.declared.group.Group.{Group}
use Rattle.unroller.specs.Unrolls.{Unrolling, base_of}
use Rattle.clause_form.specs.Clauses.{selectors_of, selector_clauses, cycles_clauses, form_clauses, literals_in}
use Rattle.clause_form.specs.declared.beginning.Beginning.{Beginning}
use Rattle.clause_form.specs.Fields.{Begins, CanBegin, Sunk, after, whole_of}
use Rattle.clause_form.specs.Named.{named_from}
use Rattle.clause_form.proofs.NamedSteps.{length-named, named-append}
use Rattle.clause_form.proofs.SelectorSteps.{are-selectors}
use Rattle.clause_form.proofs.SinkSteps.{literals_in-append}

pub length-literals : (i n : ℕ) → length (literals_from i n) ≡ n
length-literals i zero = refl
length-literals i (suc n) = ap suc (length-literals (i + 1) n)

-- selectors are before what follows them
pub literals-before : (i n first : ℕ) → i + n ≤ first → AreBefore first (literals_from i n)
literals-before i zero first few k d below = absurd (omega (arith, below))
literals-before i (suc n) first few zero d below = omega (arith, few)
literals-before i (suc n) first few (suc k) d below =
    literals-before (i + 1) n first (omega (arith, few)) k d (omega (arith, below))

module _ (u : Unrolling) (groups : List Group) (k : ℕ) (rows : List (List Lit)) (is : (p : ℕ) → get_or rows p [] ≡ selectors_of groups p) where
  abbrev pub of_cycles : List (List Lit)
  of_cycles = cycles_clauses u (λ p. get_or rows p []) 0 0 u.ends

  cycles-same : of_cycles ≡ cycles_clauses u (selectors_of groups) 0 0 u.ends
  cycles-same = ap (λ f. cycles_clauses u f 0 0 u.ends) (fun_ext is)

  -- the form, in two parts
  pub in-two : form_clauses u groups k ≡ selector_clauses (length groups) k ++ of_cycles
  unfolding form_clauses
  in-two = ap (λ cs. selector_clauses (length groups) k ++ cs) (sym cycles-same)

-- fewer literals are in the counter
pub counter-count : (u : Unrolling) (groups : List Group) (k : ℕ)
    → literals_in (selector_clauses (length groups) k) ≤ literals_in (form_clauses u groups k)
unfolding form_clauses
counter-count u groups k =
    omega (arith, literals_in-append (selector_clauses (length groups) k) (cycles_clauses u (selectors_of groups) 0 0 u.ends))

-- ---- a beginning, and the clauses behind it
module _ (u : Unrolling) (groups : List Group) (k : ℕ) (b : Beginning) (is : Begins groups k b) where
  pub whole-is : whole_of b u ≡ form_clauses u groups k
  whole-is = ap (λ cs. cs ++ of_cycles u groups k b.selectors is.selectors) is.counter ∙ sym (in-two u groups k b.selectors is.selectors)

  pub can-begin : u.base ≡ base_of groups k → CanBegin u b
  can-begin base = record {
    selectors = are-selectors u.base groups b.selectors is.selectors (omega (arith, base));
    count = is.count;
    few = is.few;
  }

-- so many literals are in the whole
pub whole-count : (b : Beginning) (u : Unrolling) (s : Sunk) (rows : List (List Lit)) → rows ≡ b.selectors → s.count ≡ b.count
    → b.count ≡ literals_in b.counter
    → (after s (cycles_clauses u (λ p. get_or rows p []) 0 0 u.ends)).count ≡ literals_in (whole_of b u)
whole-count b u s rows same is count =
    ap (λ (rs : List (List Lit)). (after s (cycles_clauses u (λ p. get_or rs p []) 0 0 u.ends)).count) same
    ∙ omega (arith, is, count, literals_in-append b.counter (cycles_clauses u (λ p. get_or b.selectors p []) 0 0 u.ends))

-- the clauses that are kept of the whole: none at first, then those of the counter, then those of the cycles
pub whole-named : (named : List Bool) (b : Beginning) (u : Unrolling) (first : List (List Lit)) (n0 n1 : List Bool) (before rows : List (List Lit))
    → first ≡ [] → n0 ≡ named → before ≡ first ++ named_from n0 (length first) b.counter → n1 ≡ n0 → rows ≡ b.selectors
    → before ++ named_from n1 (length before) (cycles_clauses u (λ p. get_or rows p []) 0 0 u.ends) ≡ named_from named 0 (whole_of b u)
whole-named named b u first n0 n1 before rows none is_named is still same =
    ap (λ (rs : List (List Lit)). before ++ named_from n1 (length before) (cycles_clauses u (λ p. get_or rs p []) 0 0 u.ends)) same
    ∙ ap (λ (m : List Bool). before ++ named_from m (length before) of_cycles_here) (still ∙ is_named)
    ∙ ap (λ (cs : List (List Lit)). cs ++ named_from named (length cs) of_cycles_here)
    (is ∙ ap₂ (λ (cs : List (List Lit)) (m : List Bool). cs ++ named_from m (length cs) b.counter) none is_named)
    ∙ ap (λ n. named_from named 0 b.counter ++ named_from named n of_cycles_here) (length-named named 0 b.counter ∙ sym start)
    ∙ sym (named-append named 0 b.counter of_cycles_here)
  where
    of_cycles_here : List (List Lit)
    of_cycles_here = cycles_clauses u (λ p. get_or b.selectors p []) 0 0 u.ends

    start : 0 + length b.counter ≡ length b.counter
    start = omega arith
