-- Lines that name something wrongly, one by one.
use Rattle.std.proofs.Common.{◌≡◌, ℕ, ◌+◌, ◌<◌, ◌≤◌, Bool, true, false, ◌||◌, List, [], ◌∷◌, length, take, map, get_or, Option, Some, None, if◌then◌else◌, refl, sym, ◌∙◌, ap, subst, arith, ◌⊎◌, inl, inr}
use Rattle.std.specs.Prelude.{slice_get, slice_index}
use Rattle.std.specs.Option.{option_map, option_map_or}
use Rattle.std.proofs.lemmas.Option.{slice_get-map}
use Rattle.std.specs.Bool.{OnFalse}
use Rattle.std.specs.Str.{bytes_eq}
use Rattle.std.proofs.lemmas.Bool.{cases_lt, cond-true, cond-false, false≢true, lt-ltb, le-ltb}
use Rattle.std.proofs.lemmas.List.Folds.{list_any-append}
use Rattle.std.proofs.lemmas.List.{get_or_default}
use Rattle.loc_base.proofs.ShelfBools.{or-false}
use Rattle.loc_base.proofs.ShelfLists.{take-at, slice_get-at}
use Rattle.loc_base.specs.declared.name_table.NameTable.{NameTable}
use Rattle.loc_base.specs.NameTable.{number_of}
use Rattle.aiger_text.specs.declared.symbol.Symbol.{Symbol}
use Rattle.aiger_text.specs.Symbols.{plain}
use Rattle.aiger_text.specs.Content.{Content}
use Rattle.aiger_rules.proofs.NameSteps.{no_symbol, symbol-is}
use Rattle.aiger_rules.specs.Naming.{is_among, is_bad_symbol, is_double, is_misplaced, lesser, IsLineOf, IsLeastOf, IsMisnaming}
use Rattle.aiger_rules.specs.Ports.{port_names, port_lines, symbol_line}

-- ---- the least of a kind

-- where two numbers are found, the lesser
lesser-at : (one other : ℕ) → ((other < one) × (lesser (Some one) (Some other) ≡ Some other)) ⊎ ((one ≤ other) × (lesser (Some one) (Some other) ≡ Some one))
lesser-at one other =
    elim (cases_lt other one) [
      | inl less ↦ inl (less, cond-true _ _ _ (lt-ltb other one less))
      | inr le ↦ inr (le, cond-false _ _ _ (le-ltb other one le))
    ]

-- the least of two kinds
pub least-both : (P Q : ℕ → Type 0) (one other : Option ℕ) → IsLeastOf P one → IsLeastOf Q other → IsLeastOf (λ n. P n ⊎ Q n) (lesser one other)
least-both P Q None None none other_none = both
  where
    both : (n : ℕ) → P n ⊎ Q n → ⊥
    both n (inl p) = none n p
    both n (inr q) = other_none n q
least-both P Q None (Some m) none (here, least) = (inr here, below)
  where
    below : (n : ℕ) → P n ⊎ Q n → m ≤ n
    below n (inl p) = absurd (none n p)
    below n (inr q) = least n q
least-both P Q (Some m) None (here, least) none = (inl here, below)
  where
    below : (n : ℕ) → P n ⊎ Q n → m ≤ n
    below n (inl p) = least n p
    below n (inr q) = absurd (none n q)
least-both P Q (Some m) (Some k) (here, least) (there, lowest) = chosen (lesser-at m k)
  where
    under_k : k < m → (n : ℕ) → P n ⊎ Q n → k ≤ n
    under_k less n (inl p) = omega (arith, least n p, less)
    under_k less n (inr q) = lowest n q

    under_m : m ≤ k → (n : ℕ) → P n ⊎ Q n → m ≤ n
    under_m le n (inl p) = least n p
    under_m le n (inr q) = omega (arith, lowest n q, le)

    chosen : ((k < m) × (lesser (Some m) (Some k) ≡ Some k)) ⊎ ((m ≤ k) × (lesser (Some m) (Some k) ≡ Some m))
        → IsLeastOf (λ n. P n ⊎ Q n) (lesser (Some m) (Some k))
    chosen (inl (less, is)) = subst (IsLeastOf (λ n. P n ⊎ Q n)) (sym is) (inr there, under_k less)
    chosen (inr (le, is)) = subst (IsLeastOf (λ n. P n ⊎ Q n)) (sym is) (inl here, under_m le)

-- the least of what is the same
pub least-same : (P Q : ℕ → Type 0) (one : Option ℕ) → ((n : ℕ) → P n → Q n) → ((n : ℕ) → Q n → P n) → IsLeastOf P one → IsLeastOf Q one
least-same P Q None to from none = λ n q. none n (from n q)
least-same P Q (Some m) to from (here, least) = (to m here, λ n q. least n (from n q))

-- no place is below 0
pub least-none : (test : ℕ → Bool) (line_of : ℕ → ℕ) → IsLeastOf (IsLineOf test line_of 0) None
least-none test line_of n (place, below, passes, is) = omega (arith, below)

-- the line of one place
line-one : (test : Bool) (line : ℕ) → IsLeastOf (λ n. (test ≡ true) × (n ≡ line)) (if test then Some line else None)
line-one true line = ((refl, refl), λ n (passes, is). omega (arith, is))
line-one false line = λ n (passes, is). false≢true passes

-- one place more
pub least-more : (test : ℕ → Bool) (line_of : ℕ → ℕ) (place : ℕ) (least found : Option ℕ) → IsLeastOf (IsLineOf test line_of place) least
    → found ≡ (if test place then Some (line_of place) else None) → IsLeastOf (IsLineOf test line_of (place + 1)) (lesser least found)
least-more test line_of place least found far is =
    subst (λ o. IsLeastOf (IsLineOf test line_of (place + 1)) (lesser least o)) (sym is) (
    least-same (λ n. IsLineOf test line_of place n ⊎ ((test place ≡ true) × (n ≡ line_of place))) (IsLineOf test line_of (place + 1))
    (lesser least (if test place then Some (line_of place) else None)) to from
    (least-both (IsLineOf test line_of place) (λ n. (test place ≡ true) × (n ≡ line_of place)) least (if test place then Some (line_of place) else None) far
    (line-one (test place) (line_of place)))
    )
  where
    to : (n : ℕ) → IsLineOf test line_of place n ⊎ ((test place ≡ true) × (n ≡ line_of place)) → IsLineOf test line_of (place + 1) n
    to n (inl (k, below, passes, at)) = (k, omega (arith, below), passes, at)
    to n (inr (passes, at)) = (place, omega arith, passes, at)

    from : (n : ℕ) → IsLineOf test line_of (place + 1) n → IsLineOf test line_of place n ⊎ ((test place ≡ true) × (n ≡ line_of place))
    from n (k, below, passes, at) =
        elim (cases_lt k place) [
          | inl earlier ↦ inl (k, earlier, passes, at)
          | inr last ↦
              let here : k ≡ place = omega (arith, below, last) in
              inr (sym (ap test here) ∙ passes, at ∙ ap line_of here)
        ]

-- ---- names that were met

-- one name more
pub is_among-more : (names : List (List ℕ)) (place : ℕ) (name other : List ℕ) → place < length names → name ≡ get_or names place []
    → is_among (take (place + 1) names) other ≡ (is_among (take place names) other || bytes_eq name other)
is_among-more names place name other within is =
    ap (λ xs. is_among xs other) (take-at names place name within (is ∙ get_or_default names place [] name within))
    ∙ list_any-append (λ own. bytes_eq own other) (take place names) (name ∷ [])
    ∙ ap (λ b. is_among (take place names) other || b) (or-false (bytes_eq name other))

-- a table that stays as it is keeps its numbers
pub stays-same : (old new : NameTable) (added : Bool) → OnFalse added (new ≡ old) → OnFalse added ((name : List ℕ) → number_of new name ≡ number_of old name)
stays-same old new true stays = tt
stays-same old new false stays = λ name. ap (λ table. number_of table name) stays

pub ruleset misplaced_steps = (least-none)

pub ruleset double_steps = (least-none)

pub ruleset naming_steps = (least-both)

-- what is found of the symbol at a place
pub misplaced-is : (w : Content) (symbols read : List Symbol) (place : ℕ) (found : Bool) → w.symbols ≡ map plain symbols → read ≡ symbols → place < length read
    → found ≡ is_bad_symbol w place (plain (get_or read place no_symbol)) → found ≡ is_misplaced w place
misplaced-is w symbols read place found held same within is =
    let (below, at) = symbol-is symbols read place same within in
    let there : slice_get w.symbols place ≡ Some (plain (get_or read place no_symbol)) =
    ap (λ xs. slice_get xs place) held ∙ slice_get-map plain symbols place ∙ ap (option_map plain) (slice_get-at symbols place (get_or read place no_symbol) below at) in
    is ∙ sym (ap (λ o. option_map_or (is_bad_symbol w place) o false) there)

-- both kinds of lines, by names and lines that are those of the ports
pub misnaming : (w : Content) (clock : Option (List ℕ)) (names : List (List ℕ)) (lines : List ℕ) (one other : Option ℕ) → names ≡ port_names w clock
    → lines ≡ port_lines w clock → IsLeastOf (IsLineOf (is_misplaced w) (symbol_line w) (length w.symbols)) one
    → IsLeastOf (IsLineOf (is_double names) (slice_index lines) (length names)) other → IsLeastOf (IsMisnaming w clock) (lesser one other)
misnaming w clock names lines one other named lined misplaced double =
    let P : List (List ℕ) → Type 0 = λ ns. IsLeastOf (IsLineOf (is_double ns) (slice_index (port_lines w clock)) (length ns)) other in
    let Q : List ℕ → Type 0 = λ ls. IsLeastOf (IsLineOf (is_double names) (slice_index ls) (length names)) other in
    least-both (IsLineOf (is_misplaced w) (symbol_line w) (length w.symbols))
    (IsLineOf (is_double (port_names w clock)) (slice_index (port_lines w clock)) (length (port_names w clock))) one other misplaced (subst P named (subst Q lined double))
