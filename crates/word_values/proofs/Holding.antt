-- What holds of values that pass their tests.
use Rattle.std.proofs.Common.{ℕ, ◌≡◌, ◌≢◌, ◌&&◌, ◌==◌, true, not, List, [], ◌∷◌, length, get_or, arith, refl, ap, sym, subst, ◌∙◌}
use Rattle.std.specs.Prelude.{All, AllPairs, Contains, nat_le}
use Rattle.std.specs.List.{list_all}
use Rattle.std.specs.Str.{bytes_eq}
use Rattle.std.proofs.lemmas.Bool.{and_parts, false≢true, leb-true}
use Rattle.std.proofs.lemmas.List.Elements.{Contains-get_or}
use Rattle.std.proofs.lemmas.List.Kept.{AllPairs-cons}
use Rattle.std.proofs.lemmas.List.Splits.{length-slice_split}
use Rattle.std.proofs.lemmas.List.Sums.{AllPass-from_list_all}
use Rattle.std.proofs.lemmas.Slice.Eq.{bytes_eq-Decides}
use Rattle.loc_base.proofs.ShelfBools.{not-true}
use Rattle.loc_base.proofs.ShelfLists.{list_any-found, list_any-member}
use Rattle.requests.specs.Asked.{TextsAsked}
use Rattle.word_values.specs.Sources.{AreSources, are_source_names}
use Rattle.word_values.specs.Values.{are_kinds, is_file_name, is_kind_name, is_name, is_once, is_one_of, kinds_in, option_all}

-- ---- names among names
one_of-Contains : (names : List (List ℕ)) (name : List ℕ) → is_one_of names name ≡ true → Contains names name
one_of-Contains names name is =
    let (other, member, same) = list_any-found (bytes_eq name) names is in
    subst (Contains names) (sym ((bytes_eq-Decides name other).0 same)) member

Contains-one_of : (names : List (List ℕ)) (name : List ℕ) → Contains names name → is_one_of names name ≡ true
Contains-one_of names name member =
    list_any-member (bytes_eq name) names name member ((bytes_eq-Decides name name).1 refl)

-- a name that is none of some differs from each
no_one-other : (names : List (List ℕ)) (name other : List ℕ) → not (is_one_of names name) ≡ true → Contains names other → other ≢ name
no_one-other names name other none has same =
    let fresh = not-true (is_one_of names name) none in
    let member : is_one_of names name ≡ true = Contains-one_of names name (subst (Contains names) same has) in
    false≢true (sym fresh ∙ member)

pub no_one-All : (names : List (List ℕ)) (name : List ℕ) → not (is_one_of names name) ≡ true → All (λ other. other ≢ name) names
no_one-All names name none k d below = no_one-other names name (get_or names k d) none (Contains-get_or names k d below)

pub once-AllPairs : (names : List (List ℕ)) → is_once names ≡ true → AllPairs (λ one other. one ≢ other) names
once-AllPairs [] once = λ i j d before below. absurd (omega (arith, below))
once-AllPairs (name ∷ names) once =
    let both = and_parts (not (is_one_of names name)) (is_once names) once in
    AllPairs-cons (λ one other. one ≢ other) name names (λ k d below same. no_one-All names name both.0 k d below (sym same))
    (once-AllPairs names both.1)

-- ---- kinds
pub record AreKinds (known names : List (List ℕ)) : Type 0 where
  pub named : list_all is_kind_name names ≡ true
  pub known_kinds : All (Contains known) names
  pub once : AllPairs (λ one other. one ≢ other) names

pub kinds-hold : (known names : List (List ℕ)) → are_kinds known names ≡ true → AreKinds known names
kinds-hold known names are =
    let all_once = and_parts (list_all is_kind_name names && list_all (is_one_of known) names) (is_once names) are in
    let named_known = and_parts (list_all is_kind_name names) (list_all (is_one_of known) names) all_once.0 in
    record {
      named = named_known.0;
      known_kinds = λ k d below. one_of-Contains known (get_or names k d)
          (AllPass-from_list_all (is_one_of known) names named_known.1 k d below);
      once = once-AllPairs names all_once.1;
    }

-- words between commas are at least one
pub kinds-some : (word : List ℕ) → kinds_in word ≢ []
kinds-some word none =
    let count = length-slice_split (λ (b : ℕ). b == 44) word in
    let zero : length (kinds_in word) ≡ 0 = ap length none in
    omega (arith, count, zero)

-- ---- sources
pub sources-hold : (sources : TextsAsked) → are_source_names sources ≡ true → AreSources sources
sources-hold sources names =
    let traces = list_all is_file_name sources.traces in
    let count = length sources.traces in
    let design = is_file_name sources.design in
    let scope = and_parts (design && is_name sources.top && traces && nat_le 1 count && nat_le count 256) (option_all is_name sources.scope) names in
    let most = and_parts (design && is_name sources.top && traces && nat_le 1 count) (nat_le count 256) scope.0 in
    let some = and_parts (design && is_name sources.top && traces) (nat_le 1 count) most.0 in
    let read = and_parts (design && is_name sources.top) traces some.0 in
    let first = and_parts design (is_name sources.top) read.0 in
    record {
      design = first.0;
      top = first.1;
      traces = read.1;
      some = leb-true 1 count some.1;
      most = leb-true count 256 most.1;
      scope = scope.1;
    }
