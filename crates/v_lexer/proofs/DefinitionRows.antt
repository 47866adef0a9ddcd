-- The definition that a line gives, row by row.
use Rattle.std.proofs.Common.{◌≡◌, ℕ, ◌+◌, ◌<◌, Bool, true, false, cond, not, ◌&&◌, List, [], ◌∷◌, ◌++◌, length, get_or, drop, refl, sym, ◌∙◌, ap, append_assoc, Option, Some, None}
use Rattle.std.specs.Prelude.{nat_eq}
use Rattle.std.proofs.lemmas.List.{append-nil}
use Rattle.v_syntax.specs.Bytes.{is_letter}
use Rattle.v_syntax.specs.Literals.{skip_white}
use Rattle.v_lexer.specs.Directives.{joined, begins_with, definition_at, word_of, tail_of}
use Rattle.v_syntax.proofs.Digits.{drop_at}
use Rattle.v_lexer.proofs.Fronts.{drop_all}

joined_first : (byte : ℕ) (rest : List ℕ) (b : Bool) → (nat_eq byte 92 && begins_with 10 rest) ≡ b → joined (byte ∷ rest) ≡ cond b (joined rest) (byte ∷ joined rest)
unfolding joined
joined_first byte rest b is = ap (λ t. cond t (joined rest) (byte ∷ joined rest)) is

-- a backslash that continues the line goes
pub joined_gone : (tail line : List ℕ) (i : ℕ) → i < length tail → (nat_eq (get_or tail i 0) 92 && begins_with 10 (drop (i + 1) tail)) ≡ true
    → joined tail ≡ line ++ joined (drop i tail) → joined tail ≡ line ++ joined (drop (i + 1) tail)
joined_gone tail line i within is before =
    before ∙ ap (λ l. line ++ joined l) (drop_at tail i within) ∙ ap (λ l. line ++ l) (joined_first (get_or tail i 0) (drop (i + 1) tail) true is)

-- any other byte stays
pub joined_kept : (tail line : List ℕ) (i : ℕ) → i < length tail → (nat_eq (get_or tail i 0) 92 && begins_with 10 (drop (i + 1) tail)) ≡ false
    → joined tail ≡ line ++ joined (drop i tail) → joined tail ≡ (line ++ get_or tail i 0 ∷ []) ++ joined (drop (i + 1) tail)
joined_kept tail line i within is before =
    before ∙ ap (λ l. line ++ joined l) (drop_at tail i within) ∙ ap (λ l. line ++ l) (joined_first (get_or tail i 0) (drop (i + 1) tail) false is)
    ∙ sym (append_assoc line (get_or tail i 0 ∷ []) (joined (drop (i + 1) tail)))

pub joined_all : (tail line : List ℕ) (i : ℕ) → i ≡ length tail → joined tail ≡ line ++ joined (drop i tail) → line ≡ joined tail
unfolding joined
joined_all tail line i end before =
    sym (before ∙ ap (λ l. line ++ joined l) (ap (λ n. drop n tail) end ∙ drop_all tail) ∙ append-nil line)

-- the rows of a definition
pub defined_at : (line rest name tail text : List ℕ) (first : ℕ) → line ≡ first ∷ rest → is_letter first ≡ true → begins_with 40 tail ≡ false
    → name ≡ word_of line → tail ≡ tail_of line → text ≡ skip_white tail → definition_at line ≡ Some (name, text)
defined_at line rest name tail text first e letter plain named behind texted =
    let row : definition_at (first ∷ rest) ≡ Some (word_of (first ∷ rest), skip_white (tail_of (first ∷ rest))) =
    ap (λ b. cond (b && not (begins_with 40 (tail_of (first ∷ rest)))) (Some (word_of (first ∷ rest), skip_white (tail_of (first ∷ rest)))) None) letter
    ∙ ap (λ b. cond (not b) (Some (word_of (first ∷ rest), skip_white (tail_of (first ∷ rest)))) None)
    (ap (λ l. begins_with 40 (tail_of l)) (sym e) ∙ ap (begins_with 40) (sym behind) ∙ plain) in
    ap definition_at e ∙ row ∙ ap (λ l. Some (word_of l, skip_white (tail_of l))) (sym e)
    ∙ ap (λ w. Some (w, skip_white (tail_of line))) (sym named)
    ∙ ap (λ l. Some (name, skip_white l)) (sym behind) ∙ ap (λ t. Some (name, t)) (sym texted)

pub undefined_empty : (line : List ℕ) → line ≡ [] → definition_at line ≡ None
undefined_empty line e = ap definition_at e

pub undefined_first : (line rest : List ℕ) (first : ℕ) → line ≡ first ∷ rest → is_letter first ≡ false → definition_at line ≡ None
undefined_first line rest first e letter =
    ap definition_at e
    ∙ ap (λ b. cond (b && not (begins_with 40 (tail_of (first ∷ rest)))) (Some (word_of (first ∷ rest), skip_white (tail_of (first ∷ rest)))) None) letter

by_letter : (b : Bool) (o : Option (List ℕ × List ℕ)) → cond (b && false) o None ≡ None
by_letter true o = refl
by_letter false o = refl

pub undefined_open : (line rest tail : List ℕ) (first : ℕ) → line ≡ first ∷ rest → tail ≡ tail_of line → begins_with 40 tail ≡ true → definition_at line ≡ None
undefined_open line rest tail first e behind opened =
    ap definition_at e
    ∙ ap (λ b. cond (is_letter first && not b) (Some (word_of (first ∷ rest), skip_white (tail_of (first ∷ rest)))) None)
    (ap (λ l. begins_with 40 (tail_of l)) (sym e) ∙ ap (begins_with 40) (sym behind) ∙ opened)
    ∙ by_letter (is_letter first) (Some (word_of (first ∷ rest), skip_white (tail_of (first ∷ rest))))

pub ruleset definition_rows = (undefined_empty, undefined_first, undefined_open)
