-- The texts of paths are names.
use Rattle.std.proofs.Common.{◌≢◌, ℕ, suc, ◌^◌, ◌<◌, List, [], ◌∷◌, ◌++◌, All, decimal, length, arith, ap, length-append}
use Rattle.std.specs.Prelude.{ℤ, pos, negsuc}
use lib.Signed.{mag}
use Rattle.std.specs.Fmt.{signed_decimal}
use Rattle.std.proofs.lemmas.List.Elements.{All-cons, All-append, All-push, All-from_get_or}
use Rattle.std.proofs.lemmas.Fmt.{decimal_is_IsNumeral}
use Rattle.std.proofs.lemmas.Str.Parse.{digit_at}
use Rattle.loc_base.specs.Name.{IsName, IsNameByte}

digits : (n : ℕ) → n < 2 ^ 64 → All IsNameByte (decimal n)
digits n small = All-from_get_or IsNameByte (decimal n) 0 λ i h.
    let d = digit_at (decimal n) i (decimal_is_IsNumeral n small).0.1 h in (omega (arith, d), omega (arith, d))

signed_digits : (z : ℤ) → mag z < 2 ^ 63 → All IsNameByte (signed_decimal z)
signed_digits (pos n) small = digits n (omega arith)
signed_digits (negsuc n) small = All-cons IsNameByte 45 (decimal (suc n)) (omega arith, omega arith) (digits (suc n) (omega arith))

some : (xs : List ℕ) → 0 < length xs → xs ≢ []
some xs more e = omega (arith, ap length e)

some_pushed : (xs ys : List ℕ) (x : ℕ) → (xs ++ x ∷ []) ++ ys ≢ []
some_pushed xs ys x = some _ (omega (arith, length-append (xs ++ x ∷ []) ys, length-append xs (x ∷ [])))

pub joined_name : (path part : List ℕ) → IsName path → IsName part → IsName ((path ++ 46 ∷ []) ++ part)
joined_name path part one other =
    (some_pushed path part 46, All-append IsNameByte (path ++ 46 ∷ []) part (All-push IsNameByte path 46 one.1 (omega arith, omega arith)) other.1)

pub line_name : (line : ℕ) → line < 2 ^ 64 → IsName (64 ∷ decimal line)
line_name line small = (some _ (omega arith), All-cons IsNameByte 64 (decimal line) (omega arith, omega arith) (digits line small))

pub turn_name : (part : List ℕ) (z : ℤ) → IsName part → mag z < 2 ^ 63
    → IsName (((part ++ 91 ∷ []) ++ signed_decimal z) ++ 93 ∷ [])
turn_name part z one small = (
  some _ (omega (arith, length-append ((part ++ 91 ∷ []) ++ signed_decimal z) (93 ∷ []))),
  All-push IsNameByte _ 93 (All-append IsNameByte (part ++ 91 ∷ []) (signed_decimal z) (All-push IsNameByte part 91 one.1 (omega arith, omega arith)) (signed_digits z small)) (omega arith, omega arith),
)
