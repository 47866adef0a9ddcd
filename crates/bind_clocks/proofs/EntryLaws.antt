-- A table of the roots, by the numbers of their signals.
use Rattle.std.proofs.Common.{ℕ, zero, suc, ◌≡◌, ◌≢◌, ◌<◌, ◌≤◌, List, [], ◌∷◌, ◌++◌, length, get_or, set, Bool, true, false, refl, sym, ◌∙◌, ap, subst, arith, Option, Some, None}
use Rattle.std.specs.Prelude.{◌==◌, ◌&&◌, ◌||◌, if◌then◌else◌, All}
use Rattle.std.specs.Option.{option_or}
use Rattle.std.specs.List.{list_any}
use Rattle.std.proofs.lemmas.Bool.{false≢true, eq-eqb}
use Rattle.std.proofs.lemmas.List.{get_or-set_same, get_or-set_other, length-set}
use Rattle.std.proofs.lemmas.List.Elements.{All-append}
use Rattle.std.proofs.lemmas.List.Folds.{list_any-append}
use Rattle.loc_base.proofs.ShelfBools.{or-false, equal-true}
use Rattle.v_binding.specs.Bound.{Root}
use Rattle.v_binding.specs.Clocks.{root_of}
use Rattle.bind_clocks.specs.declared.roots.Entry.{Entry}
use Rattle.bind_clocks.specs.Rooted.{has_root}
use Rattle.bind_clocks.specs.Tables.{with_root, IsEntry, AreRooted}

-- a table that is longer by an empty entry says the same
pub entry-grown : (table : List (Option Entry)) (s : ℕ) → get_or (table ++ None ∷ []) s None ≡ get_or table s None
entry-grown [] zero = refl
entry-grown [] (suc s) = refl
entry-grown (e ∷ table) zero = refl
entry-grown (e ∷ table) (suc s) = entry-grown table s

pub ruleset grown = (entry-grown)

-- ---- one root more
root_of-more : (roots : List Root) (r : Root) (s : ℕ) → root_of (roots ++ r ∷ []) s ≡ option_or (root_of roots s) (root_of (r ∷ []) s)
root_of-more [] r s = refl
root_of-more (x ∷ roots) r s = step (x.signal == s) (root_of-more roots r s)
  where
    step : (b : Bool) → root_of (roots ++ r ∷ []) s ≡ option_or (root_of roots s) (root_of (r ∷ []) s)
        → (if b then Some x.input else root_of (roots ++ r ∷ []) s) ≡ option_or (if b then Some x.input else root_of roots s) (root_of (r ∷ []) s)
    step true rest = refl
    step false rest = rest

has-more : (roots : List Root) (r : Root) (s input : ℕ) → list_any (has_root s input) (roots ++ r ∷ []) ≡ (list_any (has_root s input) roots || has_root s input r)
has-more roots r s input =
    list_any-append (has_root s input) roots (r ∷ []) ∙ ap (λ b. list_any (has_root s input) roots || b) (or-false (has_root s input r))

root_of-own : (r : Root) (b : Bool) → b ≡ true → (if b then Some r.input else None) ≡ Some r.input
root_of-own r true is = refl
root_of-own r false is = absurd (false≢true is)

root_of-other : (r : Root) (b : Bool) → b ≡ false → (if b then Some r.input else None) ≡ None
root_of-other r true is = absurd (false≢true (sym is))
root_of-other r false is = refl

option_or-none : (o : Option ℕ) → option_or o None ≡ o
option_or-none None = refl
option_or-none (Some n) = refl

-- of its own signal
entry-own : (roots : List Root) (r : Root) (e : Option Entry) → IsEntry roots r.signal e → IsEntry (roots ++ r ∷ []) r.signal (Some (with_root e r.input))
entry-own roots r None is = (
  root_of-more roots r r.signal ∙ ap (λ o. option_or o (root_of (r ∷ []) r.signal)) is.0 ∙ root_of-own r (r.signal == r.signal) (eq-eqb r.signal r.signal refl),
  λ _ input. has-more roots r r.signal input ∙ ap (λ b. b || has_root r.signal input r) (is.1 input) ∙ ap (λ b. b && (input == r.input)) (eq-eqb r.signal r.signal refl),
)
entry-own roots r (Some e) is = (
  root_of-more roots r r.signal ∙ ap (λ o. option_or o (root_of (r ∷ []) r.signal)) is.0,
  λ once. absurd (false≢true (sym once)),
)

-- of another signal
entry-other : (roots : List Root) (r : Root) (s : ℕ) (e : Option Entry) → (r.signal == s) ≡ false → IsEntry roots s e → IsEntry (roots ++ r ∷ []) s e
entry-other roots r s None other is = (
  root_of-more roots r s ∙ ap (λ o. option_or o (root_of (r ∷ []) s)) is.0 ∙ root_of-other r (r.signal == s) other,
  λ input. has-more roots r s input ∙ ap (λ b. b || has_root s input r) (is.1 input) ∙ ap (λ b. b && (input == r.input)) other,
)
entry-other roots r s (Some e) other is = (
  root_of-more roots r s ∙ ap (λ o. option_or o (root_of (r ∷ []) s)) is.0,
  λ once input.
      has-more roots r s input ∙ ap (λ b. list_any (has_root s input) roots || (b && (input == r.input))) other ∙ or-false (list_any (has_root s input) roots)
      ∙ is.1 once input,
)

-- ---- all entries
entries-more : (roots : List Root) (r : Root) (table : List (Option Entry)) → ((s : ℕ) → IsEntry roots s (get_or table s None)) → r.signal < length table
    → (s : ℕ) → IsEntry (roots ++ r ∷ []) s (get_or (set table r.signal (Some (with_root (get_or table r.signal None) r.input))) s None)
entries-more roots r table are below s = step (r.signal == s) refl
  where
    e : Option Entry
    e = Some (with_root (get_or table r.signal None) r.input)

    step : (b : Bool) → (r.signal == s) ≡ b → IsEntry (roots ++ r ∷ []) s (get_or (set table r.signal e) s None)
    step true same =
        let eq : r.signal ≡ s = equal-true r.signal s same in
        subst (λ n. IsEntry (roots ++ r ∷ []) n (get_or (set table r.signal e) n None)) eq
        (subst (IsEntry (roots ++ r ∷ []) r.signal) (sym (get_or-set_same table r.signal e None below)) (entry-own roots r (get_or table r.signal None) (are r.signal)))
    step false other =
        let apart : s ≢ r.signal = λ eq. false≢true (sym other ∙ eq-eqb r.signal s (sym eq)) in
        subst (IsEntry (roots ++ r ∷ []) s) (sym (get_or-set_other table r.signal s e None apart)) (entry-other roots r s (get_or table s None) other (are s))

below-more : (roots : List Root) (n m : ℕ) → n ≤ m → All (λ x. x.signal < n) roots → All (λ x. x.signal < m) roots
below-more roots n m more all = λ k d inside.
    let here = all k d inside in omega (arith, here, more)

alone-below : (r : Root) (n : ℕ) → r.signal < n → All (λ x. x.signal < n) (r ∷ [])
alone-below r n below = λ k d inside. at k d inside
  where
    at : (k : ℕ) (d : Root) → k < 1 → (get_or (r ∷ []) k d).signal < n
    at zero d inside = below
    at (suc k) d inside = absurd (omega (arith, inside))

-- a table that has grown is still one of the same roots
pub rooted-grown : (roots : List Root) (table grown : List (Option Entry)) → AreRooted roots table → ((s : ℕ) → get_or grown s None ≡ get_or table s None) → length table ≤ length grown
    → AreRooted roots grown
rooted-grown roots table grown are same more = record {
  entries = λ s. subst (IsEntry roots s) (sym (same s)) (are.entries s);
  within = below-more roots (length table) (length grown) more are.within;
}

-- one root more
pub rooted-more : (roots : List Root) (r : Root) (table : List (Option Entry)) (e : Option Entry) → AreRooted roots table → r.signal < length table
    → e ≡ Some (with_root (get_or table r.signal None) r.input) → AreRooted (roots ++ r ∷ []) (set table r.signal e)
rooted-more roots r table e are below is =
    subst (λ x. AreRooted (roots ++ r ∷ []) (set table r.signal x)) (sym is)
    (record {
      entries = entries-more roots r table are.entries below;
      within = subst (λ n. All (λ x. x.signal < n) (roots ++ r ∷ [])) (sym (length-set table r.signal (Some (with_root (get_or table r.signal None) r.input))))
          (All-append (λ x. x.signal < length table) roots (r ∷ []) are.within (alone-below r (length table) below));
    })
