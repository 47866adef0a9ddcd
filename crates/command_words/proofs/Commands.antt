-- Words whose first is no command's name.
use Rattle.std.proofs.Common.{ℕ, ◌≡◌, ◌≢◌, Bool, true, false, List, [], ◌∷◌, map, ap, refl, subst, Some, Result, codes}
use Rattle.std.specs.Prelude.{if◌then◌else◌, slice_get}
use Rattle.std.specs.Str.{bytes_eq}
use Rattle.std.proofs.lemmas.Slice.Eq.{bytes_eq-Decides}
use Rattle.loc_base.proofs.ShelfOptions.{Some-same}
use Rattle.requests.specs.declared.help.HelpPage.{HelpPage}
use Rattle.requests.specs.Asked.{Asked, help}
use Rattle.word_values.specs.declared.usage.Usage.{Usage}
use Rattle.command_words.specs.Help.{page_asked}
use Rattle.command_words.specs.Words.{as_asked, asked}

-- texts that differ
bytes_eq-false : (xs ys : List ℕ) → xs ≢ ys → bytes_eq xs ys ≡ false
bytes_eq-false xs ys apart = told (bytes_eq xs ys) refl
  where
    told : (test : Bool) → bytes_eq xs ys ≡ test → test ≡ false
    told true is = absurd (apart ((bytes_eq-Decides xs ys).0 is))
    told false is = refl

-- the last of five choices
last : {A : Type 0} (first second third fourth : Bool) (v w x y z : A) → first ≡ false → second ≡ false → third ≡ false
    → fourth ≡ false → (if first then v else (if second then w else (if third then x else (if fourth then y else z)))) ≡ z
last first second third fourth v w x y z none no_more not_third not_fourth = rw (none, no_more, not_third, not_fourth) refl

-- a page, as what any command's words ask for
abbrev pub page_as_asked : Result HelpPage Usage → Result Asked Usage
page_as_asked page = as_asked (λ page. help (record { page = page })) page

-- the word is the name of none of the commands
pub record IsOther (word : List ℕ) : Type 0 where
  pub not_find : word ≢ codes "find"
  pub not_sim : word ≢ codes "sim"
  pub not_check : word ≢ codes "check"
  pub not_make : word ≢ codes "make"

-- words that begin with no such name ask for a page, or for nothing
pub asked-other : {S : Type 0} (known : List (List ℕ)) (text : S → List ℕ) (words : List S) (command : S) → Some command ≡ slice_get words 0
    → IsOther (text command) → asked known (map text words) ≡ page_as_asked (page_asked (map text words))
asked-other known text [] command first other = cc
asked-other known text (word ∷ words) command first other =
    let is = subst IsOther (ap text (Some-same first)) other in
    last (bytes_eq (text word) (codes "find")) (bytes_eq (text word) (codes "sim")) (bytes_eq (text word) (codes "check"))
    (bytes_eq (text word) (codes "make")) _ _ _ _ (page_as_asked (page_asked (map text (word ∷ words))))
    (bytes_eq-false (text word) (codes "find") is.not_find)
    (bytes_eq-false (text word) (codes "sim") is.not_sim) (bytes_eq-false (text word) (codes "check") is.not_check)
    (bytes_eq-false (text word) (codes "make") is.not_make)
