-- What a word is read as.
use Rattle.std.proofs.Common.{◌≡◌, ◌≢◌, ℕ, ◌<◌, ◌≤◌, ◌^◌, Bool, true, false, cond, ◌&&◌, Option, Some, None, List, [], ◌∷◌, length, get_or, lit<, refl, ap, sym, ◌∙◌, subst, arith, leb, eqb, ◌⊎◌, inl, inr, ⊎_elim}
use Rattle.std.specs.Prelude.{decimal, MatchOption}
use Rattle.std.specs.Str.{bytes_eq}
use Rattle.std.specs.Str.Parse.{digits_value}
use Rattle.std.specs.Option.{option_map}
use Rattle.std.proofs.lemmas.Bool.{and_parts, and_from, le-leb, leb-true, cond-true, cond-false, eqb-true, ne_eqb}
use Rattle.std.proofs.lemmas.Fmt.{decimal_is_IsNumeral, decimal_nonempty}
use Rattle.std.proofs.lemmas.Str.Parse.{digit_at}
use Rattle.std.specs.Int.{IsInRange}
use Rattle.std.proofs.lemmas.Slice.Eq.{bytes_eq-Decides}
use Rattle.loc_base.proofs.ShelfOptions.{option_map-some}
use Rattle.clause_base.specs.declared.literal.Lit.{Lit}
use Rattle.clause_base.specs.Literal.{positive, negative}
use Rattle.proof_check.specs.Text.{IsUpTo, most_variable, literal_text}
use Rattle.proof_check.specs.LineWords.{read_number, read_literal}

none_is : {A : Type 0} (read : Option A) → ((x : A) → read ≡ Some x → ⊥) → None ≡ read
none_is None h = refl
none_is (Some x) h = absurd (h x refl)

-- a number's text is read as the number
pub read_number-decimal : (most n : ℕ) → most < 2 ^ 32 → IsUpTo most n → read_number most (decimal n) ≡ Some n
read_number-decimal most n small up =
    let le : n ≤ most = up.1 in
    let value : digits_value 10 (decimal n) ≡ n = (decimal_is_IsNumeral n (omega arith)).1 in
    let passes : (bytes_eq (decimal n) (decimal n) && (leb 1 n && leb n most)) ≡ true =
    and_from (bytes_eq (decimal n) (decimal n)) (leb 1 n && leb n most) ((bytes_eq-Decides (decimal n) (decimal n)).1 refl) (and_from (leb 1 n) (leb n most) (le-leb 1 n up.0) (le-leb n most up.1)) in
    let P : ℕ → Type 0 = λ v. cond (bytes_eq (decimal v) (decimal n) && (leb 1 v && leb v most)) (Some v) None ≡ Some n in
    subst P (sym value) (cond-true (bytes_eq (decimal n) (decimal n) && (leb 1 n && leb n most)) (Some n) None passes)

cond_some : {A : Type 0} (b : Bool) (x y : A) → cond b (Some x) None ≡ Some y → (b ≡ true) × (x ≡ y)
cond_some true x y h = (refl, cc)
cond_some false x y h = cc

-- what is read as a number is its text
pub read_number-some : (most n : ℕ) (word : List ℕ) → read_number most word ≡ Some n → IsUpTo most n × (word ≡ decimal n)
read_number-some most n word h =
    let value = digits_value 10 word in
    let parts = cond_some (bytes_eq (decimal value) word && (leb 1 value && leb value most)) value n h in
    let tests = and_parts (bytes_eq (decimal value) word) (leb 1 value && leb value most) parts.0 in
    let ranges = and_parts (leb 1 value) (leb value most) tests.1 in
    let text : decimal value ≡ word = (bytes_eq-Decides (decimal value) word).0 tests.0 in
    let P : ℕ → Type 0 = λ v. IsUpTo most v × (word ≡ decimal v) in
    subst P parts.1 ((leb-true 1 value ranges.0, leb-true value most ranges.1), sym text)

-- so an answer that is exact about texts is the number read
pub read_number_is : (most : ℕ) (word : List ℕ) (answer : Option ℕ) → most < 2 ^ 32 → MatchOption answer ((n : ℕ) → IsUpTo most n → word ≢ decimal n) (λ n. IsUpTo most n × (word ≡ decimal n)) → answer ≡ read_number most word
read_number_is most word (Some n) small is = sym (ap (read_number most) is.1 ∙ read_number-decimal most n small is.0)
read_number_is most word None small is = none_is (read_number most word) (λ n h. let some = read_number-some most n word h in is n some.0 some.1)

-- a literal's text is read as the literal
minus_apart : (n : ℕ) → n < 2 ^ 64 → (c : ℕ) (rest : List ℕ) → decimal n ≡ c ∷ rest → eqb c 45 ≡ false
minus_apart n small c rest e =
    let digits = (decimal_is_IsNumeral n small).0.1 in
    let here : IsInRange 48 57 (get_or (decimal n) 0 0) = digit_at (decimal n) 0 digits (decimal_nonempty n small) in
    let first : get_or (decimal n) 0 0 ≡ c = ap (λ (w : List ℕ). get_or w 0 0) e in
    ne_eqb c 45 (λ is. absurd (omega (arith, here.0, first)))

at_plain : (n : ℕ) (word : List ℕ) → n < 2 ^ 64 → decimal n ≡ word → read_literal word ≡ option_map positive (read_number most_variable word)
at_plain n [] small e = absurd (let some = decimal_nonempty n small in let none = ap (λ (w : List ℕ). length w) e in omega arith)
at_plain n (c ∷ rest) small e = cond-false (eqb c 45) (option_map negative (read_number most_variable rest)) (option_map positive (read_number most_variable (c ∷ rest))) (minus_apart n small c rest e)

literal_text-read : (v : ℕ) (s : Bool) → IsUpTo most_variable v → read_literal (literal_text (record { var = v; negated = s })) ≡ Some (record { var = v; negated = s })
literal_text-read v true up = ap (option_map negative) (read_number-decimal most_variable v (lit< tt) up)
literal_text-read v false up =
    let le : v ≤ most_variable = up.1 in
    at_plain v (decimal v) (omega arith) refl ∙ ap (option_map positive) (read_number-decimal most_variable v (lit< tt) up)

pub read_literal-text : (l : Lit) → IsUpTo most_variable l.var → read_literal (literal_text l) ≡ Some l
read_literal-text l up = literal_text-read l.var l.negated up

cond_cases : {A : Type 0} (b : Bool) (x y z : A) → cond b x y ≡ z → ((b ≡ true) × (x ≡ z)) ⊎ ((b ≡ false) × (y ≡ z))
cond_cases true x y z h = inl (refl, h)
cond_cases false x y z h = inr (refl, h)

-- and what is read as a literal is its text
pub read_literal-some : (word : List ℕ) (l : Lit) → read_literal word ≡ Some l → IsUpTo most_variable l.var × (word ≡ literal_text l)
read_literal-some [] l h = cc
read_literal-some (c ∷ rest) l h = ⊎_elim
    (λ minus.
    let found = option_map-some negative (read_number most_variable rest) l minus.1 in
    let number = read_number-some most_variable found.0 rest found.1 in
    let P : Lit → Type 0 = λ m. IsUpTo most_variable m.var × (c ∷ rest ≡ literal_text m) in
    let whole : c ∷ rest ≡ 45 ∷ decimal found.0 = ap (λ (d : ℕ). d ∷ rest) (eqb-true c 45 minus.0) ∙ ap (λ (ds : List ℕ). 45 ∷ ds) number.1 in
    subst P found.2 (number.0, whole))
    (λ plain.
    let found = option_map-some positive (read_number most_variable (c ∷ rest)) l plain.1 in
    let number = read_number-some most_variable found.0 (c ∷ rest) found.1 in
    let P : Lit → Type 0 = λ m. IsUpTo most_variable m.var × (c ∷ rest ≡ literal_text m) in
    subst P found.2 number)
    (cond_cases (eqb c 45) (option_map negative (read_number most_variable rest)) (option_map positive (read_number most_variable (c ∷ rest))) (Some l) h)

pub literal_is : (word : List ℕ) (l : Lit) → IsUpTo most_variable l.var → word ≡ literal_text l → Some l ≡ read_literal word
literal_is word l up e = sym (ap read_literal e ∙ read_literal-text l up)
