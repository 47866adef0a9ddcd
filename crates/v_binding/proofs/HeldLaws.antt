-- Names with one more, and with one less.
use Rattle.std.proofs.Common.{◌≡◌, ℕ, Bool, true, false, List, [], ◌∷◌, ◌++◌, reverse, drop, Option, Some, None, refl, sym, ap, ◌∙◌, subst}
use Rattle.std.specs.Prelude.{⊤, ℤ, if◌then◌else◌, ◌||◌}
use Rattle.std.specs.Option.{option_and_then}
use Rattle.std.proofs.lemmas.List.{reverse-append}
use Rattle.std.proofs.lemmas.Slice.Eq.{bytes_eq-Decides}
use Rattle.v_sizes.specs.declared.meaning.Meaning.{Meaning}
use Rattle.v_sizes.specs.declared.meaning.Meaning.TheVariants as meaning
use Rattle.v_sizes.specs.declared.scope.Scope.{Scope}
use Rattle.v_sizes.specs.Look.{Look}
use Rattle.v_sizes.specs.Context.{IsMeaning}
use Rattle.v_sizes.specs.Scopes.{has_entry}
use Rattle.v_sizes.specs.Table.{with_meaning, with_standing}
use Rattle.v_hierarchy.specs.Names.{same_name}
use Rattle.v_hierarchy.proofs.DeclaredLaws.{same-itself}
use Rattle.v_binding.specs.declared.known.Use.{Use}
use Rattle.v_binding.specs.declared.known.Use.TheVariants.{Stands as stands, AtTurn as at_turn, Outside as outside}
use Rattle.v_binding.specs.declared.names.Held.{Held}
use Rattle.v_binding.specs.Uses.{meaning_of, bare_meaning}
use Rattle.v_binding.specs.Names as plain
use Rattle.v_binding.specs.Names.{find, look_in}
use Rattle.v_binding.specs.Held.{known_of, plain_names, names_of, AreHeld}

-- what each name stands for, as one function
pub same_look : (one other : Look) → ((name : List ℕ) → one name ≡ other name) → one ≡ other
same_look one other same = λ i name. same name i

-- the last of a list, the first of the list turned round
pub names_of-push : (hs : List Held) (h : Held) → names_of (hs ++ h ∷ []) ≡ known_of h.known ∷ names_of hs
names_of-push hs h = ap plain_names (reverse-append hs (h ∷ []))

-- ---- what names stand for
pub meaning-stands : (u : Use) (m : Meaning) → IsMeaning (bare_meaning u) → meaning_of u ≡ Some m → IsMeaning m
meaning-stands (stands n) m is same = let e : n ≡ m = cc in subst IsMeaning e is
meaning-stands (at_turn value) m is same = let e : bare_meaning (at_turn value) ≡ m = cc in subst IsMeaning e is
meaning-stands outside m is same = cc

pub found-stands : (hs : List Held) (name : List ℕ) (m : Meaning) → look_in (plain_names hs) name ≡ Some m → IsMeaning m
found-stands [] name m is = cc
found-stands (h ∷ hs) name m is = step (same_name h.known.name.now name) (found-stands hs name m) is
  where
    step : (same : Bool) → (look_in (plain_names hs) name ≡ Some m → IsMeaning m)
        → option_and_then meaning_of (if same then Some h.known.use_of else find (plain_names hs) name) ≡ Some m → IsMeaning m
    step true rest is = meaning-stands h.known.use_of m h.known.stands is
    step false rest is = rest is

-- ---- one more
pub look-pushed : (before put after : Look) (k : plain.Known) (ks : plain.Names) → ((q : List ℕ) → before q ≡ look_in ks q)
    → ((q : List ℕ) → put q ≡ with_meaning k.name (bare_meaning k.use_of) before q) → ((q : List ℕ) → after q ≡ with_standing k.name (meaning_of k.use_of) put q)
    → (q : List ℕ) → after q ≡ look_in (k ∷ ks) q
look-pushed before put after k ks is done set q = set q ∙ step (same_name k.name q) refl
  where
    step : (same : Bool) → same_name k.name q ≡ same → (if same then meaning_of k.use_of else put q) ≡ option_and_then meaning_of (if same then Some k.use_of else find ks q)
    step true same = refl
    step false other = done q ∙ ap (λ b. if b then Some (bare_meaning k.use_of) else before q) other ∙ is q

pub held-grows : (before after : Scope) (hs : List Held) → ((q : List ℕ) → has_entry before q ≡ true → has_entry after q ≡ true) → AreHeld before hs → AreHeld after hs
held-grows before after [] more held = tt
held-grows before after (h ∷ hs) more (was, there, rest) = (was, more h.known.name.now there, held-grows before after hs more rest)

-- ---- one less
pub look-popped : (before after : Look) (k : plain.Known) (ks : plain.Names) (was : Option Meaning) → ((q : List ℕ) → before q ≡ look_in (k ∷ ks) q)
    → was ≡ look_in ks k.name → ((q : List ℕ) → after q ≡ with_standing k.name was before q) → (q : List ℕ) → after q ≡ look_in ks q
look-popped before after k ks was is same set q = set q ∙ step (same_name k.name q) refl
  where
    step : (eq : Bool) → same_name k.name q ≡ eq → (if eq then was else before q) ≡ look_in ks q
    step true eq = same ∙ ap (look_in ks) ((bytes_eq-Decides k.name q).0 eq)
    step false other = is q ∙ ap (λ b. option_and_then meaning_of (if b then Some k.use_of else find ks q)) other

-- ---- a meaning that is put and taken back
pub look-undone : (before put after : Look) (name : List ℕ) (m : Meaning) (was : Option Meaning) → was ≡ before name
    → ((q : List ℕ) → put q ≡ with_meaning name m before q) → ((q : List ℕ) → after q ≡ with_standing name was put q) → (q : List ℕ) → after q ≡ before q
look-undone before put after name m was is done undone q = undone q ∙ step (same_name name q) refl
  where
    step : (same : Bool) → same_name name q ≡ same → (if same then was else put q) ≡ before q
    step true same = is ∙ ap before ((bytes_eq-Decides name q).0 same)
    step false other = done q ∙ ap (λ b. if b then Some m else before q) other

-- the names of a list that is pushed to, without the last
pub tail-of-push : (hs : List Held) (h : Held) → names_of hs ≡ drop 1 (names_of (hs ++ h ∷ []))
tail-of-push hs h = sym (ap (drop 1) (names_of-push hs h))

-- what is held of a list, without the last
pub held-of-push : (scope : Scope) (hs : List Held) (h : Held) → AreHeld scope (reverse (hs ++ h ∷ [])) → AreHeld scope (h ∷ reverse hs)
held-of-push scope hs h held = subst (λ xs. AreHeld scope xs) (reverse-append hs (h ∷ [])) held

pub held-to-push : (scope : Scope) (hs : List Held) (h : Held) → AreHeld scope (h ∷ reverse hs) → AreHeld scope (reverse (hs ++ h ∷ []))
held-to-push scope hs h held = subst (λ xs. AreHeld scope xs) (sym (reverse-append hs (h ∷ []))) held

-- ---- entries
either-true : (a b : Bool) → b ≡ true → (a || b) ≡ true
either-true true b is = refl
either-true false b is = is

first-true : (a b : Bool) → a ≡ true → (a || b) ≡ true
first-true true b is = refl
first-true false b is = cc

-- a name that is put has an entry, and those that had one have one still
pub entry-put : (before put after : Scope) (name : List ℕ) → ((q : List ℕ) → has_entry put q ≡ (same_name name q || has_entry before q))
    → ((q : List ℕ) → has_entry after q ≡ has_entry put q) → has_entry after name ≡ true
entry-put before put after name is same = same name ∙ is name ∙ first-true (same_name name name) (has_entry before name) (same-itself name)

pub entries-put : (before put after : Scope) (name : List ℕ) → ((q : List ℕ) → has_entry put q ≡ (same_name name q || has_entry before q))
    → ((q : List ℕ) → has_entry after q ≡ has_entry put q) → (q : List ℕ) → has_entry before q ≡ true → has_entry after q ≡ true
entries-put before put after name is same q there = same q ∙ is q ∙ either-true (same_name name q) (has_entry before q) there

pub held-same : (before after : Scope) (hs : List Held) → ((q : List ℕ) → has_entry after q ≡ has_entry before q) → AreHeld before hs → AreHeld after hs
held-same before after hs same held = held-grows before after hs (λ q there. same q ∙ there) held

-- ---- what a name is found to stand for: a signal or an array is nothing else
abbrev is_variable : Meaning → Type 0
is_variable (meaning.Constant _ _ _) = ⊥
is_variable (meaning.Signal _ _ _ _ _) = ⊤
is_variable (meaning.Array _ _ _ _ _ _ _) = ⊤

use-of_variable : (u : Option Use) (m : Meaning) → is_variable m → option_and_then meaning_of u ≡ Some m → u ≡ Some (stands m)
use-of_variable None m is same = cc
use-of_variable (Some (stands n)) m is same = let e : n ≡ m = cc in ap (λ k. Some (stands k)) e
use-of_variable (Some (at_turn value)) (meaning.Constant _ _ _) is same = absurd is
use-of_variable (Some (at_turn value)) (meaning.Signal _ _ _ _ _) is same = cc
use-of_variable (Some (at_turn value)) (meaning.Array _ _ _ _ _ _ _) is same = cc
use-of_variable (Some outside) m is same = cc

pub find-signal : (ks : plain.Names) (name : List ℕ) (signal width : ℕ) (signed : Bool) (high low : ℤ)
    → look_in ks name ≡ Some (meaning.Signal signal width signed high low) → find ks name ≡ Some (stands (meaning.Signal signal width signed high low))
find-signal ks name signal width signed high low is = use-of_variable (find ks name) (meaning.Signal signal width signed high low) tt is

pub find-array : (ks : plain.Names) (name : List ℕ) (first count : ℕ) (least : ℤ) (width : ℕ) (signed : Bool) (high low : ℤ)
    → look_in ks name ≡ Some (meaning.Array first count least width signed high low)
    → find ks name ≡ Some (stands (meaning.Array first count least width signed high low))
find-array ks name first count least width signed high low is = use-of_variable (find ks name) (meaning.Array first count least width signed high low) tt is

pub ruleset held_laws = (held-same)

pub ruleset found_laws = (find-signal, find-array)
