-- The number of a token has a width of 1 to 128 bits.
use Rattle.std.proofs.Common.{◌≡◌, ℕ, refl}
use Rattle.std.specs.Prelude.{Bool, true, false, ◌==◌, ◌+◌, List, [], ◌∷◌, take, drop, Option, Some, None, Result, Ok, Err, position, if◌then◌else◌}
use Rattle.std.specs.Option.{option_map_or}
use Rattle.v_syntax.specs.declared.token_kind.TokenKind.{TokenKind}
use Rattle.v_syntax.specs.declared.literal.NumberFault.{NumberFault}
use Rattle.v_syntax.specs.declared.literal.NumberFault.TheVariants.{Wide}
use Rattle.v_syntax.specs.Literals.{judge, judge_based, judge_plain, is_bad_size}
use Rattle.v_sizes.specs.Literal.{width_of_size, written_width}
use Rattle.v_sizes.specs.Refusals.{is_bad_width}

size-good : (size : List ℕ) → is_bad_size size ≡ false → is_bad_width (width_of_size size) ≡ false
size-good [] h = refl
size-good (byte ∷ rest) h = h

accepted-size : (bad : Bool) (rest : Result TokenKind NumberFault) (kind : TokenKind) → (if bad then Err Wide else rest) ≡ Ok kind → bad ≡ false
accepted-size true rest kind h = cc
accepted-size false rest kind h = refl

quoted : (text : List ℕ) (quote : Option ℕ) (kind : TokenKind)
    → (elim quote as (λ q. Result TokenKind NumberFault) [
      | Some at ↦ if is_bad_size (take at text) then Err Wide else judge_based (drop (at + 1) text)
      | None ↦ judge_plain text
    ]) ≡ Ok kind
    → is_bad_width (option_map_or (λ at. width_of_size (take at text)) quote 32) ≡ false
quoted text None kind h = refl
quoted text (Some at) kind h = size-good (take at text) (accepted-size (is_bad_size (take at text)) (judge_based (drop (at + 1) text)) kind h)

pub judged-width : (text : List ℕ) (kind : TokenKind) → judge text ≡ Ok kind → is_bad_width (written_width text) ≡ false
unfolding judge
judged-width text kind h = quoted text (position (λ byte. byte == 39) text) kind h
