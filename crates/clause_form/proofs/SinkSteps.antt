-- Steps of a clause that is simplified, and of clauses that are taken one after another.
use Rattle.std.proofs.Common.{◌≡◌, ℕ, zero, suc, ◌+◌, ◌^◌, ◌<◌, ◌≤◌, Bool, true, false, if◌then◌else◌, List, [], ◌∷◌, ◌++◌, length, get_or, take, drop, max, Option, Some, None, refl, sym, ◌∙◌, ap, ap₂, arith, append_assoc, append-nil}
use Rattle.std.specs.Option.{option_map}
use Rattle.std.proofs.lemmas.List.{drop_all, length-append, take_all, take_more, take-append-drop}
use Rattle.loc_base.proofs.ShelfOptions.{Some-same}
use Rattle.clause_base.specs.declared.literal.Lit.{Lit}
use Rattle.gate_base.specs.declared.literal.Literal.{Literal}
use Rattle.gate_base.specs.declared.literal.Literal.TheVariants.{Known, Of}
use Rattle.gate_base.proofs.Chains.{drop-literal}
use Rattle.clause_form.specs.Clauses.{simplified, with_literal, with_selectors, clause_of, defined, literals_in, weight_of}
use Rattle.clause_form.specs.Fields.{Sunk, after}
use Rattle.clause_form.specs.Named.{named_from}
use Rattle.clause_form.specs.Variables.{HaveVariables, size_of}
use Rattle.clause_form.proofs.NamedSteps.{named-nothing, named-then, skipped}

-- literals before those of a clause, where there is one
abbrev pub behind : List Lit → Option (List Lit) → Option (List Lit)
behind before None = None
behind before (Some clause) = Some (before ++ clause)

behind-one : (before : List Lit) (l : Lit) (o : Option (List Lit)) → behind before (with_literal l o) ≡ behind (before ++ l ∷ []) o
behind-one before l None = refl
behind-one before l (Some clause) = ap Some (sym (append_assoc before (l ∷ []) clause))

module _ (base : ℕ) (xs : List Literal) (i : ℕ) (before : List Lit) where
  at : i < length xs → behind before (simplified base (drop i xs)) ≡ behind before (simplified base (get_or xs i (Known false) ∷ drop (i + 1) xs))
  at within = ap (λ ys. behind before (simplified base ys)) (drop-literal xs i within)

  pub draft-of : (node : ℕ) (negated : Bool) → i < length xs → get_or xs i (Known false) ≡ Of node negated
      → behind before (simplified base (drop i xs))
      ≡ behind (before ++ record { var = base + node; negated = negated } ∷ []) (simplified base (drop (i + 1) xs))
  unfolding simplified
  draft-of node negated within is =
      at within ∙ ap (λ l. behind before (simplified base (l ∷ drop (i + 1) xs))) is
      ∙ behind-one before (defined base node negated) (simplified base (drop (i + 1) xs))

  pub draft-false : i < length xs → get_or xs i (Known false) ≡ Known false
      → behind before (simplified base (drop i xs)) ≡ behind before (simplified base (drop (i + 1) xs))
  unfolding simplified
  draft-false within is = at within ∙ ap (λ l. behind before (simplified base (l ∷ drop (i + 1) xs))) is

  pub draft-true : i < length xs → get_or xs i (Known false) ≡ Known true → behind before (simplified base (drop i xs)) ≡ None
  unfolding simplified
  draft-true within is = at within ∙ ap (λ l. behind before (simplified base (l ∷ drop (i + 1) xs))) is

  pub draft-end : length xs ≤ i → behind before (simplified base (drop i xs)) ≡ Some before
  unfolding simplified
  draft-end end = ap (λ ys. behind before (simplified base ys)) (drop_all i xs end) ∙ ap Some (append-nil before)

pub draft-begin : (o : Option (List Lit)) → behind [] o ≡ o
draft-begin None = refl
draft-begin (Some clause) = refl

-- a literal of a definition has its variable
pub variable-at : (base : ℕ) (xs : List Literal) (i node : ℕ) (negated : Bool) → HaveVariables base xs → i < length xs
    → get_or xs i (Known false) ≡ Of node negated → base + node < 2 ^ 32
variable-at base [] i node negated have within is = absurd (omega (arith, within))
variable-at base (Known value ∷ xs) zero node negated have within is = cc
variable-at base (Of n s ∷ xs) zero node negated have within is = let same : n ≡ node = cc in omega (arith, have.0, same)
variable-at base (Known value ∷ xs) (suc i) node negated have within is =
    variable-at base xs i node negated have (omega (arith, within)) is
variable-at base (Of n s ∷ xs) (suc i) node negated have within is =
    variable-at base xs i node negated have.1 (omega (arith, within)) is

pub ruleset drafts = (variable-at, draft-of, draft-false, draft-true, draft-end, draft-begin)

-- ---- how many literals a clause has

-- so many literals more, where there is a clause
abbrev pub more : ℕ → Option ℕ → Option ℕ
more count o = option_map (λ n. count + n) o

more-one : (count : ℕ) (o : Option ℕ) → more count (option_map (λ n. n + 1) o) ≡ more (count + 1) o
more-one count None = refl
more-one count (Some n) = let e : count + (n + 1) ≡ count + 1 + n = omega arith in ap Some e

module _ (xs : List Literal) (i count : ℕ) where
  size-at : i < length xs → more count (size_of (drop i xs)) ≡ more count (size_of (get_or xs i (Known false) ∷ drop (i + 1) xs))
  size-at within = ap (λ ys. more count (size_of ys)) (drop-literal xs i within)

  pub size-open : (node : ℕ) (negated : Bool) → i < length xs → get_or xs i (Known false) ≡ Of node negated
      → more count (size_of (drop i xs)) ≡ more (count + 1) (size_of (drop (i + 1) xs))
  size-open node negated within is =
      size-at within ∙ ap (λ l. more count (size_of (l ∷ drop (i + 1) xs))) is ∙ more-one count (size_of (drop (i + 1) xs))

  pub size-false : i < length xs → get_or xs i (Known false) ≡ Known false
      → more count (size_of (drop i xs)) ≡ more count (size_of (drop (i + 1) xs))
  size-false within is = size-at within ∙ ap (λ l. more count (size_of (l ∷ drop (i + 1) xs))) is

  pub size-true : i < length xs → get_or xs i (Known false) ≡ Known true → more count (size_of (drop i xs)) ≡ None
  size-true within is = size-at within ∙ ap (λ l. more count (size_of (l ∷ drop (i + 1) xs))) is

  pub size-end : length xs ≤ i → more count (size_of (drop i xs)) ≡ Some count
  size-end end =
      let e : count + 0 ≡ count = omega arith in ap (λ ys. more count (size_of ys)) (drop_all i xs end) ∙ ap Some e

pub size-begin : (o : Option ℕ) → more 0 o ≡ o
size-begin None = refl
size-begin (Some n) = let e : 0 + n ≡ n = omega arith in ap Some e

pub ruleset sizes = (size-open, size-false, size-true, size-end, size-begin)

size-with : (l : Lit) (o : Option (List Lit)) → option_map (λ n. n + 1) (option_map length o) ≡ option_map length (with_literal l o)
size-with l None = refl
size-with l (Some clause) = let e : length clause + 1 ≡ suc (length clause) = omega arith in ap Some e

-- those of the clause that is made
size-simplified : (base : ℕ) (xs : List Literal) → size_of xs ≡ option_map length (simplified base xs)
unfolding simplified
size-simplified base [] = refl
size-simplified base (Known true ∷ xs) = refl
size-simplified base (Known false ∷ xs) = size-simplified base xs
size-simplified base (Of node negated ∷ xs) =
    ap (option_map (λ n. n + 1)) (size-simplified base xs) ∙ size-with (defined base node negated) (simplified base xs)

-- no clause is made where a literal is true
pub no-clause : (base : ℕ) (xs : List Literal) (selectors : List Lit) → size_of xs ≡ None → clause_of base xs selectors ≡ []
no-clause base xs selectors none = at (simplified base xs) (sym none ∙ size-simplified base xs)
  where
    at : (o : Option (List Lit)) → None ≡ option_map length o → with_selectors o selectors ≡ []
    at None e = refl
    at (Some clause) e = cc

-- the clause, with selectors behind it
pub drafted-some : (base : ℕ) (xs : List Literal) (selectors clause : List Lit) → simplified base xs ≡ Some clause
    → clause_of base xs selectors ≡ (clause ++ selectors) ∷ []
drafted-some base xs selectors clause is = ap (λ o. with_selectors o selectors) is

pub drafted-none : (base : ℕ) (xs : List Literal) (selectors : List Lit) → simplified base xs ≡ None
    → clause_of base xs selectors ≡ []
drafted-none base xs selectors is = ap (λ o. with_selectors o selectors) is

pub ruleset drafted = (drafted-some, drafted-none)

-- ---- clauses one after another

pub literals_in-append : (a b : List (List Lit)) → literals_in (a ++ b) ≡ literals_in a + literals_in b
unfolding literals_in
literals_in-append [] b = omega arith
literals_in-append (clause ∷ a) b = omega (arith, literals_in-append a b)

if-append : (writes : Bool) (named : List Bool) (clauses a b : List (List Lit))
    → (if writes then (if writes then clauses ++ named_from named (length clauses) a else clauses)
    ++ named_from named (length (if writes then clauses ++ named_from named (length clauses) a else clauses)) b
    else (if writes then clauses ++ named_from named (length clauses) a else clauses))
    ≡ (if writes then clauses ++ named_from named (length clauses) (a ++ b) else clauses)
if-append true named clauses a b = named-then named clauses a b
if-append false named clauses a b = refl

-- what is kept, by its parts
abbrev pub sunk : ℕ → Bool → List Bool → ℕ → List (List Lit) → Sunk
sunk base writes named count clauses = record { base = base; writes = writes; named = named; count = count; clauses = clauses }

-- clauses after clauses
pub after-after : (s : Sunk) (a b : List (List Lit)) → after (after s a) b ≡ after s (a ++ b)
after-after s a b = ap₂ (sunk s.base s.writes s.named) count (if-append s.writes s.named s.clauses a b)
  where
    count : s.count + literals_in a + literals_in b ≡ s.count + literals_in (a ++ b)
    count = omega (arith, literals_in-append a b)

if-none : (writes : Bool) (named : List Bool) (clauses : List (List Lit))
    → (if writes then clauses ++ named_from named (length clauses) [] else clauses) ≡ clauses
if-none true named clauses = ap (λ cs. clauses ++ cs) (named-nothing named (length clauses)) ∙ append-nil clauses
if-none false named clauses = refl

-- no clauses change nothing
pub after-none : (s : Sunk) → after s [] ≡ s
unfolding literals_in
after-none s = ap₂ (sunk s.base s.writes s.named) count (if-none s.writes s.named s.clauses)
  where
    count : s.count + 0 ≡ s.count
    count = omega arith

-- one clause
pub literals_in-one : (clause : List Lit) → literals_in (clause ∷ []) ≡ max 1 (length clause)
unfolding literals_in
literals_in-one clause = omega arith

pub after-all : (s : Sunk) (clauses : List (List Lit)) (of : Sunk) → of.base ≡ s.base → of.writes ≡ s.writes → of.named ≡ s.named
    → of.count ≡ s.count + literals_in clauses
    → of.clauses ≡ (if s.writes then s.clauses ++ named_from s.named (length s.clauses) clauses else s.clauses)
    → of ≡ after s clauses
after-all s clauses of base writes named count kept =
    ap₂ (λ b w. sunk b w of.named of.count of.clauses) base writes
    ∙ ap (λ m. sunk s.base s.writes m of.count of.clauses) named
    ∙ ap₂ (sunk s.base s.writes s.named) count kept

-- so many literals are in the clause with its selectors
pub literals-sized : (base : ℕ) (xs : List Literal) (selectors : List Lit) (size : ℕ) → size_of xs ≡ Some size
    → literals_in (clause_of base xs selectors) ≡ max 1 (size + length selectors)
literals-sized base xs selectors size some = at (simplified base xs) (sym some ∙ size-simplified base xs)
  where
    at : (o : Option (List Lit)) → Some size ≡ option_map length o → literals_in (with_selectors o selectors) ≡ max 1 (size + length selectors)
    at None e = cc
    at (Some clause) e = omega (arith, literals_in-one (clause ++ selectors), length-append clause selectors, Some-same e)

-- there is a clause
pub one-sized : (base : ℕ) (xs : List Literal) (selectors : List Lit) (size : ℕ) → size_of xs ≡ Some size
    → length (clause_of base xs selectors) ≡ 1
one-sized base xs selectors size some = at (simplified base xs) (sym some ∙ size-simplified base xs)
  where
    at : (o : Option (List Lit)) → Some size ≡ option_map length o → length (with_selectors o selectors) ≡ 1
    at None e = cc
    at (Some clause) e = refl

-- what is kept of clauses that were made
pub kept-off : (writes : Bool) (clauses made : List (List Lit)) → writes ≡ false → (if writes then clauses ++ made else clauses) ≡ clauses
kept-off true clauses made off = cc
kept-off false clauses made off = refl

pub kept-on : (writes : Bool) (clauses made : List (List Lit)) → writes ≡ true → (if writes then clauses ++ made else clauses) ≡ clauses ++ made
kept-on true clauses made on = refl
kept-on false clauses made on = cc

pub kept-none : (writes : Bool) (named : List Bool) (clauses made : List (List Lit)) → made ≡ []
    → (if writes then clauses ++ named_from named (length clauses) made else clauses) ≡ clauses
kept-none writes named clauses made none =
    ap (λ (cs : List (List Lit)). if writes then clauses ++ named_from named (length clauses) cs else clauses) none
    ∙ if-none writes named clauses

pub ruleset keeps = (kept-off, kept-on, kept-none, skipped)

-- ---- how many literals clauses have

module _ (clauses : List (List Lit)) (i : ℕ) where
  pub literals-more : i < length clauses
      → literals_in (take (i + 1) clauses) ≡ literals_in (take i clauses) + weight_of (get_or clauses i [])
  unfolding literals_in
  literals-more within =
      ap literals_in (take_more clauses i [] within)
      ∙ literals_in-append (take i clauses) (get_or clauses i [] ∷ []) ∙ omega arith

  pub literals-part : literals_in (take i clauses) ≤ literals_in clauses
  literals-part = omega (arith, literals_in-append (take i clauses) (drop i clauses), ap literals_in (take-append-drop i clauses))

pub literals-end : (clauses : List (List Lit)) (i : ℕ) → length clauses ≤ i → literals_in (take i clauses) ≡ literals_in clauses
literals-end clauses i past = ap literals_in (take_all i clauses past)

pub literals-none : (clauses : List (List Lit)) → literals_in (take 0 clauses) ≡ 0
unfolding literals_in
literals-none clauses = refl

pub ruleset counts = (literals-more, literals-part, literals-end, literals-none)
