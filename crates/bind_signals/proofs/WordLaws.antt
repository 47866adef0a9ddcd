-- One word of an array more.
use Rattle.std.proofs.Common.{◌≡◌, ℕ, zero, suc, ◌+◌, arith, List, [], ◌∷◌, ◌++◌, map, append_assoc, append-nil, refl, sym, ap, ◌∙◌}
use Rattle.std.specs.Prelude.{ℤ, pos, ◌+ℤ◌}
use Rattle.std.proofs.Math.IntN.{+ℤ_assoc, +ℤ_idr}
use Rattle.std.proofs.lemmas.List.{map-append}
use Rattle.bind_scopes.specs.declared.numbered.Numbered.{Numbered as Held}
use Rattle.bind_scopes.specs.Views.{numbered_of}
use Rattle.v_binding.specs.Signals.{Numbered, words}

words-none : (one : ℤ → Numbered) (address : ℤ) → words one 0 address ≡ []
unfolding words
words-none one address = refl

words-one : (one : ℤ → Numbered) (count : ℕ) (address : ℤ) → words one (suc count) address ≡ one address ∷ words one count (address +ℤ pos 1)
unfolding words
words-one one count address = refl

pub words-last : (one : ℤ → Numbered) (count : ℕ) (address : ℤ) → words one (suc count) address ≡ words one count address ++ one (address +ℤ pos count) ∷ []
words-last one zero address =
    words-one one 0 address ∙ ap (λ xs. one address ∷ xs) (words-none one (address +ℤ pos 1)) ∙ ap (λ k. one k ∷ []) (sym (+ℤ_idr address))
    ∙ sym (ap (λ xs. xs ++ one (address +ℤ pos 0) ∷ []) (words-none one address))
words-last one (suc count) address =
    words-one one (suc count) address ∙ ap (λ xs. one address ∷ xs) (words-last one count (address +ℤ pos 1))
    ∙ ap (λ k. one address ∷ words one count (address +ℤ pos 1) ++ one k ∷ []) (+ℤ_assoc address (pos 1) (pos count) ∙ ap (λ k. address +ℤ pos k) next)
    ∙ sym (ap (λ xs. xs ++ one (address +ℤ pos (suc count)) ∷ []) (words-one one count address))
  where
    next : 1 + count ≡ suc count
    next = omega arith

pub words-pushed : (one : ℤ → Numbered) (low : ℤ) (count next : ℕ) (before now after : List Held) (n : Held) → suc count ≡ next
    → after ≡ now ++ n ∷ [] → numbered_of n ≡ one (low +ℤ pos count) → map numbered_of now ≡ map numbered_of before ++ words one count low
    → map numbered_of after ≡ map numbered_of before ++ words one next low
words-pushed one low count next before now after n step is same so_far =
    ap (map numbered_of) is ∙ map-append numbered_of now (n ∷ []) ∙ ap (λ x. map numbered_of now ++ x ∷ []) same
    ∙ ap (λ xs. xs ++ one (low +ℤ pos count) ∷ []) so_far ∙ append_assoc (map numbered_of before) (words one count low) (one (low +ℤ pos count) ∷ [])
    ∙ sym (ap (λ xs. map numbered_of before ++ xs) (words-last one count low)) ∙ ap (λ k. map numbered_of before ++ words one k low) step

pub words_begin : (one : ℤ → Numbered) (low : ℤ) (before : List Held) → map numbered_of before ≡ map numbered_of before ++ words one 0 low
words_begin one low before = sym (ap (λ xs. map numbered_of before ++ xs) (words-none one low) ∙ append-nil (map numbered_of before))
