-- Texts as the entries of a map from names: what is found under a name, and what a change of one entry leaves.
use Rattle.std.proofs.Common.{◌≡◌, ◌≢◌, ℕ, true, false, List, [], ◌∷◌, map, Option, Some, None, is_some, IsSome, unwrap_or, String, string_bytes, ap, ◌∙◌, sym, refl, subst}
use Rattle.std.specs.Prelude.{Result, Ok, Err, OnErr}
use Rattle.std.specs.HashMap.{HashMap, UpdatesBy, WritesThrough, get_by_text}
use Rattle.std.specs.Map.{update, lookup}
use Rattle.std.specs.Str.{bytes_eq}
use Rattle.std.specs.String.{string_eq}
use Rattle.std.specs.Cmp.Lexicographic.{bytes_decides}
use Rattle.std.proofs.lemmas.Bool.{false_from_ne_true}
use Rattle.std.proofs.lemmas.Map.{update_same, update_other}
use Rattle.std.proofs.lemmas.Map.Text.{hash_map_updates_text}
use Rattle.io_ports.specs.Texts.{text_of}

-- the pairs of the entries of a map
abbrev pub pairs_of : {Y : Type 0} → List (String Y × List ℕ) → List (List ℕ × List ℕ)
pairs_of entries = map (λ entry. (string_bytes entry.0, entry.1)) entries

text_of-pairs : {Y : Type 0} (entries : List (String Y × List ℕ)) (name : List ℕ) →
    text_of (pairs_of entries) name ≡ lookup (λ key. bytes_eq name (string_bytes key)) entries
text_of-pairs [] name = refl
text_of-pairs (entry ∷ entries) name = rw (text_of-pairs entries name)

-- what is found in the pairs is found in the map
pub text_of-map : {Y S : Type 0} (m : HashMap (String Y) (List ℕ) S) (name : List ℕ) → text_of (pairs_of m.entries) name ≡ get_by_text m name
text_of-map m name = text_of-pairs m.entries name

pub text_of-model : {Y S : Type 0} (m : HashMap (String Y) (List ℕ) S) (pairs : List (List ℕ × List ℕ)) (name : List ℕ) →
    pairs_of m.entries ≡ pairs → text_of pairs name ≡ get_by_text m name
text_of-model m pairs name same = ap (λ p. text_of p name) (sym same) ∙ text_of-map m name

-- the first text of a name stays
pub kept_or_put : (old : Option (List ℕ)) (text : List ℕ) → is_some old ≡ true → old ≡ Some (unwrap_or old text)
kept_or_put None text h = cc
kept_or_put (Some first) text h = refl

pub put_where_none : (old : Option (List ℕ)) (text : List ℕ) → is_some old ≡ false → Some text ≡ Some (unwrap_or old text)
put_where_none None text h = refl
put_where_none (Some first) text h = cc

-- a text was put under a name, and every other name keeps its own
pub record Sets (name text : List ℕ) (old new : List (List ℕ × List ℕ)) : Type 0 where
  pub here : text_of new name ≡ Some text
  pub others : (other : List ℕ) → other ≢ name → text_of new other ≡ text_of old other

pub sets_from_update : {Y S : Type 0} (name text : List ℕ) (m n : HashMap (String Y) (List ℕ) S) →
    UpdatesBy string_eq (λ key. bytes_eq name (string_bytes key)) m n (Some text) → Sets name text (pairs_of m.entries) (pairs_of n.entries)
sets_from_update {Y} {S} name text m n updates = record {
  here = text_of-map n name ∙ found name ∙ update_same bytes_eq (get_by_text m) name (Some text) name ((bytes_decides name name).1 refl);
  others = λ other differs. text_of-map n other ∙ found other ∙ update_other bytes_eq (get_by_text m) name (Some text) other (false_from_ne_true (bytes_eq name other) (λ same. differs (sym ((bytes_decides name other).0 same)))) ∙ sym (text_of-map m other);
}
  where
    found : (other : List ℕ) → get_by_text n other ≡ update bytes_eq (get_by_text m) name (Some text) other
    found = hash_map_updates_text name m n (Some text) updates

-- the same where the name is given by a key of the map
pub sets_from_key : {Y S : Type 0} (key : String Y) (name text : List ℕ) (m n : HashMap (String Y) (List ℕ) S) →
    string_bytes key ≡ name → UpdatesBy string_eq (string_eq key) m n (Some text) → Sets name text (pairs_of m.entries) (pairs_of n.entries)
sets_from_key {Y} {S} key name text m n same updates =
    subst (λ bytes. Sets bytes text (pairs_of m.entries) (pairs_of n.entries)) same (sets_from_update (string_bytes key) text m n updates)

-- the same where a text that stands there was written through
pub sets_through : {Y S : Type 0} (m n : HashMap (String Y) (List ℕ) S) (pairs : List (List ℕ × List ℕ)) (name old new : List ℕ) →
    pairs_of m.entries ≡ pairs → Some old ≡ get_by_text m name →
    WritesThrough string_eq (λ key. bytes_eq name (string_bytes key)) m new n → Sets name new pairs (pairs_of n.entries)
sets_through m n pairs name old new same found writes =
    subst (λ p. Sets name new p (pairs_of n.entries)) same (sets_from_update name new m n (writes.3 (subst IsSome found refl)))

-- a text that is there is not absent
pub absent_is_none : (found text : Option (List ℕ)) → None ≡ found → text ≡ found → IsSome text → ⊥
absent_is_none found None h same some = cc
absent_is_none found (Some t) h same some = cc

-- what holds anyway holds on an error
pub on_err : {T E P : Type 0} (r : Result T E) → P → OnErr r P
on_err (Ok value) holds = tt
on_err (Err error) holds = holds
