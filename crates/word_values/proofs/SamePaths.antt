-- Names that are one path, and names that aren't.
use Rattle.std.proofs.Common.{ℕ, ◌≡◌, ◌≢◌, ◌<◌, Bool, true, false, not, List, [], ◌∷◌, ◌++◌, length, get_or}
use Rattle.std.proofs.Common.{arith, refl, ap, sym, ◌∙◌, codes}
use Rattle.std.specs.Prelude.{All, AllPairs}
use Rattle.std.specs.Bool.{Decides}
use Rattle.std.specs.List.{list_any}
use Rattle.std.specs.Path.{path_components, path_names}
use Rattle.std.proofs.lemmas.Bool.{and_parts, false≢true}
use Rattle.std.proofs.lemmas.List.Elements.{Contains-get_or}
use Rattle.std.proofs.lemmas.List.Kept.{AllPairs-cons}
use Rattle.std.proofs.lemmas.Slice.Eq.{bytes_eq-Decides, slice_eq-Decides}
use Rattle.loc_base.proofs.ShelfBools.{not-true}
use Rattle.loc_base.proofs.ShelfLists.{list_any-member}
use Rattle.word_values.specs.Paths.{IsOtherPath, IsSamePath, are_paths_once, is_path_of_one, is_same_path, parts_of, path_begins}
use Rattle.word_values.proofs.PathFronts.{path_begins-other}

-- the test tells whether they are
pub same_path-decides : (one other : List ℕ) → Decides (is_same_path one other) (IsSamePath one other)
same_path-decides one other = slice_eq-Decides bytes_eq-Decides (parts_of one) (parts_of other) (is_same_path one other) refl

-- names that it tells apart
paths-differ : (one other : List ℕ) → is_same_path one other ≡ false → IsOtherPath one other
paths-differ one other test same = false≢true (sym test ∙ (same_path-decides one other).1 same)

pub paths-apart : (one other : List ℕ) → not (is_same_path one other) ≡ true → IsOtherPath one other
paths-apart one other test = paths-differ one other (not-true (is_same_path one other) test)

-- aren't one name
pub other_path-name : (one other : List ℕ) → IsOtherPath one other → one ≢ other
other_path-name one other differ same = differ (ap parts_of same)

-- ---- names among names
-- none passes a test that one of them doesn't
none-passes : (passes : List ℕ → Bool) (names : List (List ℕ)) (k : ℕ) (d : List ℕ) → not (list_any passes names) ≡ true
    → k < length names → passes (get_or names k d) ≡ false
none-passes passes names k d none below = told (passes (get_or names k d)) refl
  where
    told : (test : Bool) → passes (get_or names k d) ≡ test → test ≡ false
    told false is = refl
    told true is =
        let some = list_any-member passes names (get_or names k d) (Contains-get_or names k d below) is in
        absurd (false≢true (sym (not-true (list_any passes names) none) ∙ some))

pub no_path-All : (names : List (List ℕ)) (name : List ℕ) → not (is_path_of_one names name) ≡ true
    → All (λ other. IsOtherPath other name) names
no_path-All names name none k d below same =
    paths-differ name (get_or names k d) (none-passes (is_same_path name) names k d none below) (sym same)

pub paths_once-AllPairs : (names : List (List ℕ)) → are_paths_once names ≡ true → AllPairs IsOtherPath names
paths_once-AllPairs [] once = λ i j d before below. absurd (omega (arith, below))
paths_once-AllPairs (name ∷ names) once =
    let both = and_parts (not (is_path_of_one names name)) (are_paths_once names) once in
    AllPairs-cons IsOtherPath name names (λ k d below same. no_path-All names name both.0 k d below (sym same))
    (paths_once-AllPairs names both.1)

-- names none of which begins, as a path, with a prefix and `-`
pub no_path-begins : (prefix : List ℕ) (names : List (List ℕ)) → not (list_any (path_begins (prefix ++ codes "-")) names) ≡ true
    → All (λ name. (rest : List ℕ) → IsOtherPath name ((prefix ++ codes "-") ++ rest)) names
no_path-begins prefix names none k d below rest =
    path_begins-other prefix (get_or names k d) rest (none-passes (path_begins (prefix ++ codes "-")) names k d none below)

-- ---- examples
dot-example : is_same_path (codes "m.v") (codes "./m.v") ≡ true
unfolding path_components path_names
dot-example = refl

slashes-example : is_same_path (codes "runs//one/./t.vcd") (codes "./runs/one/t.vcd/") ≡ true
unfolding path_components path_names
slashes-example = refl

-- a name from the root is another than one from the folder where the program runs
root-example : is_same_path (codes "/m.v") (codes "m.v") ≡ false
unfolding path_components path_names
root-example = refl

-- `..` is kept
up-example : is_same_path (codes "runs/../m.v") (codes "m.v") ≡ false
unfolding path_components path_names
up-example = refl

-- a name that begins with a dot isn't `.`
hidden-example : is_same_path (codes ".m.v") (codes "m.v") ≡ false
unfolding path_components path_names
hidden-example = refl

once-example : are_paths_once (codes "a.log" ∷ codes "./b.json" ∷ codes "b.json" ∷ []) ≡ false
unfolding path_components path_names
once-example = refl

-- a wave of the prefix `./w` is named `./w-1-1.vcd`
wave-example : path_begins (codes "./w-") (codes "w-1-1.vcd") ≡ true
unfolding path_components path_names
wave-example = refl

folder-example : path_begins (codes "waves/-") (codes "waves/all.log") ≡ false
unfolding path_components path_names
folder-example = refl
