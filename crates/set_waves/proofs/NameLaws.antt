-- Waves of different sets or traces have different names, and no other text has the name of one.
use Rattle.std.proofs.Common.{◌≡◌, ◌≢◌, ◌<◌, ◌^◌, ℕ, true, false, List, [], ◌∷◌, ◌++◌, Option, Some, None, refl, ap, sym, ◌∙◌, append_assoc}
use Rattle.std.specs.Prelude.{codes, decimal}
use Rattle.std.specs.List.{list_all}
use Rattle.std.proofs.lemmas.Bool.{and_parts}
use Rattle.std.proofs.lemmas.Fmt.{decimal_is_IsNumeral}
use Rattle.std.specs.Str.Parse.{digits_value}
use Rattle.loc_base.specs.Ascii.{is_decimal}
use Rattle.vcd_waves.proofs.WordForms.{decimal_digits}
use Rattle.set_waves.specs.Names.{IsNoWave, IsWave, wave_name}

-- the name, from the left
abbrev rest_of : List ℕ → List ℕ → List ℕ
rest_of set trace = set ++ 45 ∷ (trace ++ codes ".vcd")

name-is : (prefix : List ℕ) (set trace : ℕ)
    → wave_name prefix set trace ≡ prefix ++ codes "-" ++ rest_of (decimal set) (decimal trace)
name-is prefix set trace =
    append_assoc (prefix ++ codes "-" ++ decimal set ++ codes "-") (decimal trace) (codes ".vcd")
    ∙ append_assoc (prefix ++ codes "-" ++ decimal set) (codes "-") (decimal trace ++ codes ".vcd")
    ∙ append_assoc (prefix ++ codes "-") (decimal set) (codes "-" ++ (decimal trace ++ codes ".vcd"))

cancel : (xs ys zs : List ℕ) → xs ++ ys ≡ xs ++ zs → ys ≡ zs
cancel [] ys zs e = e
cancel (x ∷ xs) ys zs e = cancel xs ys zs (cc)

-- digits before a byte that is none
same-digits : (byte : ℕ) → is_decimal byte ≡ false → (xs ys r q : List ℕ) → list_all is_decimal xs ≡ true → list_all is_decimal ys ≡ true
    → xs ++ byte ∷ r ≡ ys ++ byte ∷ q → (xs ≡ ys) × (r ≡ q)
same-digits byte none [] [] r q xs-are ys-are e = (refl, cc)
same-digits byte none [] (y ∷ ys) r q xs-are ys-are e =
    let head : byte ≡ y = cc in
    absurd (differ (sym (and_parts (is_decimal y) (list_all is_decimal ys) ys-are).0 ∙ ap is_decimal (sym head) ∙ none))
  where
    differ : true ≡ false → ⊥
    differ e = cc
same-digits byte none (x ∷ xs) [] r q xs-are ys-are e =
    let head : x ≡ byte = cc in
    absurd (differ (sym (and_parts (is_decimal x) (list_all is_decimal xs) xs-are).0 ∙ ap is_decimal head ∙ none))
  where
    differ : true ≡ false → ⊥
    differ e = cc
same-digits byte none (x ∷ xs) (y ∷ ys) r q xs-are ys-are e =
    let head : x ≡ y = cc in
    let (same, after) = same-digits byte none xs ys r q (and_parts (is_decimal x) (list_all is_decimal xs) xs-are).1
    (and_parts (is_decimal y) (list_all is_decimal ys) ys-are).1 (cc) in
    (ap (λ n. n ∷ xs) head ∙ ap (λ ns. y ∷ ns) same, after)

same-number : (m n : ℕ) → m < 2 ^ 64 → n < 2 ^ 64 → decimal m ≡ decimal n → m ≡ n
same-number m n low high e =
    sym (decimal_is_IsNumeral m low).1 ∙ ap (digits_value 10) e ∙ (decimal_is_IsNumeral n high).1

pub same-names : (prefix : List ℕ) (set trace other more : ℕ) → set < 2 ^ 64 → trace < 2 ^ 64 → other < 2 ^ 64 → more < 2 ^ 64
    → wave_name prefix set trace ≡ wave_name prefix other more → (set ≡ other) × (trace ≡ more)
same-names prefix set trace other more a b c d e =
    let tails : rest_of (decimal set) (decimal trace) ≡ rest_of (decimal other) (decimal more) =
    cancel (prefix ++ codes "-") (rest_of (decimal set) (decimal trace)) (rest_of (decimal other) (decimal more))
    (sym (name-is prefix set trace) ∙ e ∙ name-is prefix other more) in
    let (sets, rest) = same-digits 45 refl (decimal set) (decimal other) (decimal trace ++ codes ".vcd") (decimal more ++ codes ".vcd")
    (decimal_digits set) (decimal_digits other) tails in
    let (traces, _) = same-digits 46 refl (decimal trace) (decimal more) (codes "vcd") (codes "vcd") (decimal_digits trace)
    (decimal_digits more) rest in
    (same-number set other a c sets, same-number trace more b d traces)

-- a name that no wave has isn't that of one
pub never-named : (prefix name : List ℕ) (set trace : ℕ) → IsNoWave (Some prefix) name → name ≢ wave_name prefix set trace
never-named prefix name set trace none same = none (rest_of (decimal set) (decimal trace)) (same ∙ name-is prefix set trace)

-- and no wave's
pub no-wave : (prefix : Option (List ℕ)) (sets traces : ℕ) (name : List ℕ) → IsNoWave prefix name → ¬ IsWave prefix sets traces name
no-wave None sets traces name none is = is
no-wave (Some prefix) sets traces name none is =
    none (rest_of (decimal is.set) (decimal is.trace)) (is.is ∙ name-is prefix is.set is.trace)
