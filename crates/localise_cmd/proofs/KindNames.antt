-- The names of kinds that words ask for are such names as a report has.
use Rattle.std.proofs.Common.{ℕ, ◌≡◌, ◌⊎◌, inl, inr, Bool, true, ◌&&◌, ◌||◌, List, [], ◌∷◌, length}
use Rattle.std.specs.Prelude.{All, ◌==◌, nat_le}
use Rattle.std.specs.List.{list_all}
use Rattle.std.proofs.lemmas.Bool.{and_parts, eqb-true, leb-true, or_cases}
use Rattle.std.proofs.lemmas.List.Elements.{All-cons, All-nil}
use Rattle.word_values.specs.Values.{is_kind_byte, is_kind_name}
use Rattle.report_reading.specs.Reading.{IsKindByte, IsKindName}

kind-byte : (byte : ℕ) → is_kind_byte byte ≡ true → IsKindByte byte
kind-byte byte is = at (or_cases (nat_le 97 byte && nat_le byte 122) ((nat_le 48 byte && nat_le byte 57) || byte == 95) is)
  where
    other : ((nat_le 48 byte && nat_le byte 57) ≡ true) ⊎ ((byte == 95) ≡ true) → IsKindByte byte
    other (inl digit) =
        let both = and_parts (nat_le 48 byte) (nat_le byte 57) digit in
        inr (inl (leb-true 48 byte both.0, leb-true byte 57 both.1))
    other (inr line) = inr (inr (eqb-true byte 95 line))

    at : ((nat_le 97 byte && nat_le byte 122) ≡ true) ⊎ (((nat_le 48 byte && nat_le byte 57) || byte == 95) ≡ true) → IsKindByte byte
    at (inl letter) =
        let both = and_parts (nat_le 97 byte) (nat_le byte 122) letter in
        inl (leb-true 97 byte both.0, leb-true byte 122 both.1)
    at (inr rest) = other (or_cases (nat_le 48 byte && nat_le byte 57) (byte == 95) rest)

-- what passes a test one by one
all-of : {X : Type 0} (P : X → Type 0) (passes : X → Bool) → ((x : X) → passes x ≡ true → P x) → (xs : List X)
    → list_all passes xs ≡ true → All P xs
all-of P passes is [] all = All-nil P
all-of P passes is (x ∷ xs) all =
    let both = and_parts (passes x) (list_all passes xs) all in All-cons P x xs (is x both.0) (all-of P passes is xs both.1)

kind-name : (name : List ℕ) → is_kind_name name ≡ true → IsKindName name
kind-name name is =
    let both = and_parts (nat_le 1 (length name) && nat_le (length name) 32) (list_all is_kind_byte name) is in
    let size = and_parts (nat_le 1 (length name)) (nat_le (length name) 32) both.0 in
    record {
      least = leb-true 1 (length name) size.0;
      most = leb-true (length name) 32 size.1;
      bytes = all-of IsKindByte is_kind_byte kind-byte name both.1;
    }

pub kind-names : (names : List (List ℕ)) → list_all is_kind_name names ≡ true → All IsKindName names
kind-names names all = all-of IsKindName is_kind_name kind-name names all
