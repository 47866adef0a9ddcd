-- What the names of a scope stand for, by what they are declared as.
use Rattle.std.proofs.Common.{◌≡◌, ℕ, Bool, true, false, List, [], ◌∷◌, ◌++◌, Some, None, refl, sym, ◌∙◌, ap, subst}
use Rattle.std.specs.Prelude.{◌||◌, if◌then◌else◌}
use Rattle.std.specs.List.{list_any}
use Rattle.std.proofs.lemmas.Slice.Eq.{bytes_eq-Decides}
use Rattle.std.proofs.lemmas.Option.{none-some}
use Rattle.std.proofs.lemmas.Bool.{false≢true}
use Rattle.loc_base.proofs.ShelfOptions.{Some-same}
use Rattle.design_core.specs.declared.signal.Signal.{Signal}
use Rattle.v_sizes.specs.Context.{IsMeaning}
use Rattle.v_hierarchy.specs.declared.signal.Signal.{Signal as Declared}
use Rattle.v_hierarchy.specs.Names.{Entry, Standing, signal, array, integer, genvar, constant, same_name, find, meaning_of}
use Rattle.v_hierarchy.proofs.DeclaredLaws.{same-itself}
use Rattle.v_binding.specs.Names.{Known, Names, known, within}
use Rattle.v_binding.specs.Names as bound
use Rattle.v_binding.specs.Signals.{fixed, fixed_all}
use Rattle.v_binding.specs.Standing.{EntriesStand}
use Rattle.bind_laws.specs.Every.{Every}
use Rattle.bind_laws.specs.Fit.{UseFits, NamesFit}
use Rattle.bind_laws.specs.Scopes.{NamesSignal}
use Rattle.bind_laws.specs.OfText.{AreApart}
use Rattle.bind_laws.proofs.Lists.{Every-append}

-- ---- entries
pub same-equal : (a b : List ℕ) → same_name a b ≡ true → a ≡ b
same-equal a b same = (bytes_eq-Decides a b).0 same

-- what is found stands for something
pub entry-stands : (es : List Entry) (name : List ℕ) (s : Standing) → EntriesStand es → find name es ≡ Some s
    → IsMeaning (meaning_of s)
entry-stands [] name s all is = absurd (none-some s is)
entry-stands (e ∷ es) name s all is = by (same_name e.name.name name) is (λ later. entry-stands es name s all.1 later)
  where
    by : (same : Bool) → (if same then Some e.standing else find name es) ≡ Some s
        → (find name es ≡ Some s → IsMeaning (meaning_of s)) → IsMeaning (meaning_of s)
    by true is later = subst (λ x. IsMeaning (meaning_of x)) (Some-same is) all.0
    by false is later = later is

-- each name is found as what it is declared as
abbrev pub FoundSo : List Entry → Entry → Type 0
FoundSo entries e = find e.name.name entries ≡ Some e.standing

behind-another : (e : Entry) (es all : List Entry) → find e.name.name all ≡ None → Every (FoundSo all) es
    → Every (FoundSo (e ∷ all)) es
behind-another e [] all none found = tt
behind-another e (x ∷ xs) all none found = (by (same_name e.name.name x.name.name) refl, behind-another e xs all none found.1)
  where
    by : (same : Bool) → same_name e.name.name x.name.name ≡ same
        → (if same then Some e.standing else find x.name.name all) ≡ Some x.standing
    by true same = absurd (none-some x.standing (sym none ∙ ap (λ n. find n all) (same-equal e.name.name x.name.name same) ∙ found.0))
    by false same = found.0

pub found-so : (es : List Entry) → AreApart es → Every (FoundSo es) es
found-so [] apart = tt
found-so (e ∷ es) apart = (ap (λ b. if b then Some e.standing else find e.name.name es) (same-itself e.name.name), behind-another e es es apart.0 (found-so es apart.1))

-- ---- names of a scope
-- a name that is declared as a signal stands for one
abbrev pub Agrees : List Entry → Known → Type 0
Agrees entries k = (s : Declared) → find k.name entries ≡ Some (signal s) → NamesSignal (Some k.use_of)

fixed-agrees : (entries : List Entry) (e : Entry) → FoundSo entries e
    → Every (Agrees entries) (fixed e.name.name e.standing)
fixed-agrees entries e found = by e.standing found
  where
    by : (x : Standing) → find e.name.name entries ≡ Some x → Every (Agrees entries) (fixed e.name.name x)
    by (constant value b) at = ((λ s is. cc), tt)
    by genvar at = ((λ s is. cc), tt)
    by (signal s) at = tt
    by (array s r) at = tt
    by integer at = tt

pub fixed_all-agrees : (entries es : List Entry) → Every (FoundSo entries) es → Every (Agrees entries) (fixed_all es)
fixed_all-agrees entries [] found = tt
fixed_all-agrees entries (e ∷ es) found =
    Every-append (Agrees entries) (fixed e.name.name e.standing) (fixed_all es) (fixed-agrees entries e found.0) (fixed_all-agrees entries es found.1)

fixed-fits : (signals : List Signal) (name : List ℕ) (s : Standing) → IsMeaning (meaning_of s)
    → NamesFit signals (fixed name s)
fixed-fits signals name (constant value b) meant = ((meant, tt), tt)
fixed-fits signals name genvar meant = (tt, tt)
fixed-fits signals name (signal s) meant = tt
fixed-fits signals name (array s r) meant = tt
fixed-fits signals name integer meant = tt

pub fixed_all-fit : (signals : List Signal) (es : List Entry) → EntriesStand es → NamesFit signals (fixed_all es)
fixed_all-fit signals [] all = tt
fixed_all-fit signals (e ∷ es) all =
    Every-append (λ (k : Known). UseFits signals k.use_of) (fixed e.name.name e.standing) (fixed_all es) (fixed-fits signals e.name.name e.standing all.0) (fixed_all-fit signals es all.1)

-- ---- a name that is there
abbrev pub is_listed : Names → List ℕ → Bool
is_listed names name = list_any (λ k. same_name k.name name) names

pub listed-front : (xs ys : Names) (name : List ℕ) → is_listed xs name ≡ true → is_listed (xs ++ ys) name ≡ true
listed-front [] ys name listed = absurd (false≢true listed)
listed-front (k ∷ ks) ys name listed = by (same_name k.name name) listed (λ later. listed-front ks ys name later)
  where
    by : (same : Bool) → (same || is_listed ks name) ≡ true
        → (is_listed ks name ≡ true → is_listed (ks ++ ys) name ≡ true) → (same || is_listed (ks ++ ys) name) ≡ true
    by true listed later = refl
    by false listed later = later listed

pub listed-last : (xs : Names) (k : Known) → is_listed (xs ++ k ∷ []) k.name ≡ true
listed-last [] k = ap (λ b. b || false) (same-itself k.name)
listed-last (x ∷ xs) k = by (same_name x.name k.name) (listed-last xs k)
  where
    by : (same : Bool) → is_listed (xs ++ k ∷ []) k.name ≡ true → (same || is_listed (xs ++ k ∷ []) k.name) ≡ true
    by true later = refl
    by false later = later

-- the last of a name in a scope hides those around it
-- what is found behind names of which one has the name: one of them
hidden : (entries : List Entry) (s : Declared) (name : List ℕ) (own names : Names)
    → find name entries ≡ Some (signal s) → Every (Agrees entries) own
    → NamesSignal (bound.find names name) → NamesSignal (bound.find (within own names) name)
hidden entries s name [] names declared all before = before
hidden entries s name (k ∷ ks) names declared all before = hidden entries s name ks (k ∷ names) declared all.1 (by (same_name k.name name) refl)
  where
    by : (same : Bool) → same_name k.name name ≡ same
        → NamesSignal (if same then Some k.use_of else bound.find names name)
    by true same = all.0 s (ap (λ n. find n entries) (same-equal k.name name same) ∙ declared)
    by false same = before

pub named-signal : (entries : List Entry) (s : Declared) (name : List ℕ) (own names : Names)
    → find name entries ≡ Some (signal s) → Every (Agrees entries) own
    → is_listed own name ≡ true → NamesSignal (bound.find (within own names) name)
named-signal entries s name [] names declared all listed = absurd (false≢true listed)
named-signal entries s name (k ∷ ks) names declared all listed =
    by (same_name k.name name) refl listed (λ later. named-signal entries s name ks (k ∷ names) declared all.1 later)
    (λ now. hidden entries s name ks (k ∷ names) declared all.1 now)
  where
    by : (same : Bool) → same_name k.name name ≡ same → (same || is_listed ks name) ≡ true
        → (is_listed ks name ≡ true → NamesSignal (bound.find (within ks (k ∷ names)) name))
        → (NamesSignal (bound.find (k ∷ names) name) → NamesSignal (bound.find (within ks (k ∷ names)) name))
        → NamesSignal (bound.find (within ks (k ∷ names)) name)
    by true same listed later now =
        now (subst (λ b. NamesSignal (if b then Some k.use_of else bound.find names name)) (sym same) (all.0 s (ap (λ n. find n entries) (same-equal k.name name same) ∙ declared)))
    by false same listed later now = later listed
