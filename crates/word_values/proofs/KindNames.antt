-- Names of kinds are names.
use Rattle.std.proofs.Common.{ℕ, ◌≡◌, true, List, [], ◌∷◌, length, refl, arith, ◌&&◌}
use Rattle.std.specs.Prelude.{nat_le}
use Rattle.std.specs.List.{list_all}
use Rattle.std.proofs.lemmas.Bool.{and_parts}
use Rattle.std.proofs.lemmas.Grind.{common_steps}
use Rattle.loc_base.specs.Ascii.{is_visible}
use Rattle.word_values.specs.Values.{is_name}
use Rattle.word_values.specs.Values.{are_kinds, is_kind_byte, is_kind_name, is_once, is_one_of}

byte-visible : (b : ℕ) → is_kind_byte b ≡ true → is_visible b ≡ true
byte-visible b is = grind (arith, common_steps)

bytes-visible : (bs : List ℕ) → list_all is_kind_byte bs ≡ true → list_all is_visible bs ≡ true
bytes-visible [] all = refl
bytes-visible (b ∷ bs) all =
    let both = and_parts _ _ all in rw (byte-visible b both.0, bytes-visible bs both.1) refl

pub kind-name : (word : List ℕ) → is_kind_name word ≡ true → is_name word ≡ true
kind-name word is =
    let both = and_parts (nat_le 1 (length word) && nat_le (length word) 32) (list_all is_kind_byte word) is in
    let some = (and_parts (nat_le 1 (length word)) (nat_le (length word) 32) both.0).0 in
    rw (some, bytes-visible word both.1) refl

pub kind-names : (words : List (List ℕ)) → list_all is_kind_name words ≡ true → list_all is_name words ≡ true
kind-names [] all = refl
kind-names (word ∷ words) all =
    let both = and_parts _ _ all in rw (kind-name word both.0, kind-names words both.1) refl

pub kinds-named : (known words : List (List ℕ)) → are_kinds known words ≡ true → list_all is_name words ≡ true
kinds-named known words are =
    kind-names words
    (and_parts (list_all is_kind_name words) (list_all (is_one_of known) words)
    (and_parts (list_all is_kind_name words && list_all (is_one_of known) words) (is_once words) are).0).0

pub ruleset kind_rules = (kinds-named)
