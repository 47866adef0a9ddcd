-- What reads the clock, by the set of the bits that are read.
use Rattle.std.proofs.Common.{ℕ, ◌≡◌, ◌≢◌, ◌<◌, ◌≤◌, List, [], ◌∷◌, length, get_or, take, Bool, true, false, refl, sym, ◌∙◌, ap, ap₂, arith, Option, Some, None}
use Rattle.std.specs.Prelude.{◌==◌, ◌%◌, ◌&&◌, ◌||◌, All, Contains}
use Rattle.std.specs.List.{list_any}
use Rattle.std.proofs.lemmas.Bool.{false≢true, and_parts, eq-eqb}
use Rattle.std.proofs.lemmas.List.{take_all}
use Rattle.std.proofs.lemmas.Nat.Bits.{bit_at_lowest}
use Rattle.loc_base.proofs.ShelfBools.{equal-true}
use Rattle.loc_base.proofs.ShelfLists.{All-member, Contains-first, Contains-later, list_any-member, list_any-found}
use Rattle.design_core.specs.Valuation.{bit}
use Rattle.design_bits.specs.Masks.{has}
use Rattle.design_bits.proofs.Masks.{bit-zero}
use Rattle.v_binding.specs.Bound.{Root}
use Rattle.v_binding.specs.Clocks.{carries}
use Rattle.bind_clocks.specs.Looks.{Reads}
use Rattle.bind_clocks.specs.Rooted.{has_root, is_read_in}

-- ---- one bit
pub bit-lowest : (m : ℕ) → (m % 2 == 1) ≡ bit m 0
bit-lowest m = ap (λ n. n == 1) (sym (bit_at_lowest m))

pub ruleset lowest = (bit-lowest)

-- ---- tests that agree on each element
any-same : {X : Type 0} (one other : X → Bool) (xs : List X) → ((x : X) → Contains xs x → one x ≡ other x) → list_any one xs ≡ list_any other xs
any-same one other [] same = refl
any-same one other (x ∷ xs) same =
    ap₂ (λ a b. a || b) (same x (Contains-first x xs)) (any-same one other xs (λ y there. same y (Contains-later x xs y there)))

-- ---- a set that has been looked into
-- whether a signal of the set is one of an input
abbrev pub is_rooted : List ℕ → List Root → ℕ → ℕ → Bool
is_rooted set roots input s = bit (get_or set s 0) 0 && list_any (has_root s input) roots

both : (a b : Bool) → a ≡ true → b ≡ true → (a && b) ≡ true
both true b is also = also
both false b is also = absurd (false≢true is)

pub read-here : (set : List ℕ) (roots : List Root) (input s : ℕ) → bit (get_or set s 0) 0 ≡ true → list_any (has_root s input) roots ≡ true
    → list_any (is_read_in set (Some input)) roots ≡ true
read-here set roots input s set_has some =
    let found = list_any-found (has_root s input) roots some in
    let parts = and_parts (found.0.signal == s) (input == found.0.input) found.2 in
    list_any-member (is_read_in set (Some input)) roots found.0 found.1
    (both (input == found.0.input) (has set found.0.signal 0) parts.1 (ap (λ n. has set n 0) (equal-true found.0.signal s parts.0) ∙ set_has))

pub read-none : (set : List ℕ) (roots : List Root) (input : ℕ) (xs : List ℕ) (i : ℕ) → length xs ≤ i → ((s : ℕ) → get_or set s 0 ≢ 0 → Contains xs s)
    → list_any (is_rooted set roots input) (take i xs) ≡ false → list_any (is_read_in set (Some input)) roots ≡ false
read-none set roots input xs i past all none = at (list_any (is_read_in set (Some input)) roots) refl
  where
    at : (b : Bool) → list_any (is_read_in set (Some input)) roots ≡ b → list_any (is_read_in set (Some input)) roots ≡ false
    at false is = is
    at true is =
        let found = list_any-found (is_read_in set (Some input)) roots is in
        let parts = and_parts (input == found.0.input) (has set found.0.signal 0) found.2 in
        let there = all found.0.signal (λ zero_mask. false≢true (sym (ap (λ n. bit n 0) zero_mask ∙ bit-zero 0) ∙ parts.1)) in
        let root = list_any-member (has_root found.0.signal input) roots found.0 found.1
        (both (found.0.signal == found.0.signal) (input == found.0.input) (eq-eqb found.0.signal found.0.signal refl) parts.0) in
        absurd
        (false≢true
        (sym none ∙ ap (list_any (is_rooted set roots input)) (take_all i xs past)
        ∙ list_any-member (is_rooted set roots input) xs found.0.signal there (both (bit (get_or set found.0.signal 0) 0) (list_any (has_root found.0.signal input) roots) parts.1 root)))

pub read-without : (set : List ℕ) (roots : List Root) → false ≡ list_any (is_read_in set None) roots
read-without set [] = refl
read-without set (r ∷ roots) = read-without set roots

-- the set has the bits that pass a test
pub reads-same : (set : List ℕ) (roots : List Root) (clock : Option ℕ) (test : ℕ → ℕ → Bool) (reach : ℕ) → Reads set test → All (λ r. r.signal < reach) roots → reach ≤ length set
    → list_any (is_read_in set clock) roots ≡ list_any (λ r. carries clock r && test r.signal 0) roots
reads-same set roots clock test reach reads all enough =
    any-same (is_read_in set clock) (λ r. carries clock r && test r.signal 0) roots
    (λ r there.
    let below = All-member (λ x. x.signal < reach) roots r all there in
    ap (λ b. carries clock r && b) (reads.bits r.signal 0 (omega (arith, below, enough)) (omega arith)))

or-no : (b : Bool) → (b || false) ≡ b
or-no true = refl
or-no false = refl

pub reads-body : (roots : List Root) (clock : Option ℕ) (test : ℕ → ℕ → Bool)
    → list_any (λ r. carries clock r && (test r.signal 0 || false)) roots ≡ list_any (λ r. carries clock r && test r.signal 0) roots
reads-body roots clock test =
    any-same (λ r. carries clock r && (test r.signal 0 || false)) (λ r. carries clock r && test r.signal 0) roots (λ r there. ap (λ b. carries clock r && b) (or-no (test r.signal 0)))
