-- Rows that misuse literals, row by row.
use Rattle.std.proofs.Common.{◌≡◌, ℕ, ◌+◌, ◌*◌, ◌%◌, ◌<◌, ◌≤◌, ◌==◌, Bool, true, false, not, ◌||◌, ◌&&◌, List, length, get_or, Option, Some, None, refl, sym, ◌∙◌, ap, ap₂, arith, inl, inr}
use Rattle.std.proofs.lemmas.Bool.{cases_lt}
use Rattle.std.specs.Prelude.{is_some, nat_lt, nat_le}
use Rattle.std.specs.Option.{option_map_or}
use Rattle.std.proofs.lemmas.Option.{slice_get_past}
use Rattle.loc_base.proofs.ShelfLists.{slice_get-at}
use Rattle.aiger_text.specs.declared.row.Row.{Row}
use Rattle.aiger_text.specs.declared.row.Row.TheVariants.{Input, Latch, Output, And}
use Rattle.aiger_rules.specs.First.{is_key}
use Rattle.aiger_rules.specs.Literals.{defined, definer, even, some_read, is_bad_definition, is_bad_read, misuses, is_misuse, IsFirstMisuse}

-- the same definers tell the same of a literal
definition-same : (most : ℕ) (f g : ℕ → Option ℕ) (number literal : ℕ) → ((key : ℕ) → f key ≡ g key) → is_bad_definition most f number literal ≡ is_bad_definition most g number literal
definition-same most f g number literal same =
    ap (λ o. (literal % 2 == 1 || nat_lt literal 2 || nat_lt (2 * most) literal) || not (is_key number o)) (same literal)

read-same : (most : ℕ) (f g : ℕ → Option ℕ) (literal : ℕ) → ((key : ℕ) → f key ≡ g key) → is_bad_read most f literal ≡ is_bad_read most g literal
read-same most f g literal same = ap (λ o. nat_lt (2 * most + 1) literal || nat_le 2 literal && not (is_some o)) (same (even literal))

some_read-same : (p q : ℕ → Bool) (row : Row) → ((literal : ℕ) → p literal ≡ q literal) → some_read p row ≡ some_read q row
some_read-same p q (Input literal) same = refl
some_read-same p q (Latch literal next) same = same next
some_read-same p q (Output literal) same = same literal
some_read-same p q (And literal left right) same = ap₂ (λ a b. a || b) (same left) (same right)

pub misuses-same : (most : ℕ) (f g : ℕ → Option ℕ) (number : ℕ) (row : Row) → ((key : ℕ) → f key ≡ g key) → misuses most f number row ≡ misuses most g number row
misuses-same most f g number row same =
    ap₂ (λ a b. a || b) (at (defined row)) (some_read-same (is_bad_read most f) (is_bad_read most g) row (λ literal. read-same most f g literal same))
  where
    at : (o : Option ℕ) → option_map_or (is_bad_definition most f number) o false ≡ option_map_or (is_bad_definition most g number) o false
    at None = refl
    at (Some literal) = definition-same most f g number literal same

-- what the code finds of a row
pub misuse-at : (most : ℕ) (rows : List Row) (f : ℕ → Option ℕ) (number : ℕ) (row : Row) (found : Bool) → number < length rows → row ≡ get_or rows number row
    → ((key : ℕ) → f key ≡ definer rows key) → misuses most f number row ≡ found → is_misuse most rows number ≡ found
misuse-at most rows f number row found within is same tells =
    ap (λ o. option_map_or (misuses most (definer rows) number) o false) (slice_get-at rows number row within is)
    ∙ sym (misuses-same most f (definer rows) number row same) ∙ tells

-- no row is past the last
pub misuse-past : (most : ℕ) (rows : List Row) (number : ℕ) → length rows ≤ number → is_misuse most rows number ≡ false
misuse-past most rows number past = ap (λ o. option_map_or (misuses most (definer rows) number) o false) (slice_get_past rows number past)

-- the first row that does
pub first-misuse : (most : ℕ) (rows : List Row) (f : ℕ → Option ℕ) (number : ℕ) (row : Row) → number < length rows → row ≡ get_or rows number row
    → ((key : ℕ) → f key ≡ definer rows key) → ((k : ℕ) → k < number → is_misuse most rows k ≡ false) → misuses most f number row ≡ true
    → IsFirstMisuse most rows number
first-misuse most rows f number row within is same before tells =
    record { wrong = misuse-at most rows f number row true within is same tells; before = before }

-- no row does
pub no-misuse : (most : ℕ) (rows : List Row) (n : ℕ) → length rows ≤ n → ((k : ℕ) → k < n → is_misuse most rows k ≡ false) → (k : ℕ) → is_misuse most rows k ≡ false
no-misuse most rows n all before k =
    elim (cases_lt k n) [
      | inl below ↦ before k below
      | inr past ↦ misuse-past most rows k (omega arith)
    ]

-- one row more doesn't
pub misuse-more : (most : ℕ) (rows : List Row) (f : ℕ → Option ℕ) (number : ℕ) (row : Row) → number < length rows → row ≡ get_or rows number row
    → ((key : ℕ) → f key ≡ definer rows key) → ((k : ℕ) → k < number → is_misuse most rows k ≡ false) → misuses most f number row ≡ false
    → (k : ℕ) → k < number + 1 → is_misuse most rows k ≡ false
misuse-more most rows f number row within is same before tells k below =
    elim (cases_lt k number) [
      | inl earlier ↦ before k earlier
      | inr last ↦
          let here : k ≡ number = omega (arith, below, last) in
          ap (is_misuse most rows) here ∙ misuse-at most rows f number row false within is same tells
    ]

pub ruleset misuse_steps = (misuse-at, first-misuse, no-misuse)
