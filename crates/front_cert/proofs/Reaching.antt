-- What the first literals of a clause leave of a reach.
use Rattle.std.proofs.Common.{◌≡◌, ℕ, ◌+◌, ◌<◌, ◌≤◌, Bool, true, false, ◌&&◌, List, length, get_or, take, drop, Option, ap, sym, ◌∙◌}
use Rattle.std.specs.List.{list_all}
use Rattle.std.proofs.lemmas.Bool.{false≢true}
use Rattle.std.proofs.lemmas.List.{take_all, take-append-drop}
use Rattle.std.proofs.lemmas.List.Folds.{list_all-append, list_all_more}
use Rattle.clause_base.specs.declared.literal.Lit.{Lit}
use Rattle.front_cert.specs.declared.reach.Reach.{Reach}
use Rattle.front_cert.specs.declared.reach.Reach.TheVariants.{Nothing, Only, Above}
use Rattle.front_cert.specs.Reaches.{Narrows, covers, is_in, is_nothing, may_stand, shows_absent}

-- the first literals of a clause, and one more
abbrev pub Reaches : List ℕ → Option Lit → List Lit → ℕ → Reach → Type 0
Reaches members bound clause count reach = (x : ℕ) → 0 < x → is_in members x ≡ false → covers reach x ≡ shows_absent members bound x (take count clause)

pub reach-next : (members : List ℕ) (bound : Option Lit) (clause : List Lit) (i : ℕ) (l : Lit) (before after : Reach) → i < length clause → get_or clause i l ≡ l
    → Reaches members bound clause i before → Narrows members before (λ x. may_stand members bound x l) after → Reaches members bound clause (i + 1) after
reach-next members bound clause i l before after within is so_far narrows x some apart =
    narrows x apart
    ∙ (ap (λ t. t && may_stand members bound x l) (so_far x some apart)
    ∙ (ap (λ (y : Lit). shows_absent members bound x (take i clause) && may_stand members bound x y) (sym is) ∙ sym (list_all_more (may_stand members bound x) clause i l within)))

pub reach-all : (members : List ℕ) (bound : Option Lit) (clause : List Lit) (count : ℕ) (reach : Reach) → length clause ≤ count → Reaches members bound clause count reach
    → (x : ℕ) → 0 < x → is_in members x ≡ false → covers reach x ≡ shows_absent members bound x clause
reach-all members bound clause count reach whole so_far x some apart = so_far x some apart ∙ ap (shows_absent members bound x) (take_all count clause whole)

-- where the first literals leave none, the clause does
pub reach-nothing : (members : List ℕ) (bound : Option Lit) (clause : List Lit) (count : ℕ) → Reaches members bound clause count Nothing
    → (x : ℕ) → 0 < x → is_in members x ≡ false → false ≡ shows_absent members bound x clause
reach-nothing members bound clause count none x some apart =
    let test : Lit → Bool = may_stand members bound x in
    ap (λ b. b && list_all test (drop count clause)) (none x some apart)
    ∙ (sym (list_all-append test (take count clause) (drop count clause)) ∙ ap (list_all test) (take-append-drop count clause))

pub reach-ended : (members : List ℕ) (bound : Option Lit) (clause : List Lit) (count : ℕ) (reach : Reach) → is_nothing reach ≡ true → Reaches members bound clause count reach
    → (x : ℕ) → 0 < x → is_in members x ≡ false → covers reach x ≡ shows_absent members bound x clause
reach-ended members bound clause count Nothing is so_far x some apart = reach-nothing members bound clause count so_far x some apart
reach-ended members bound clause count (Only y low) is so_far x some apart = absurd (false≢true is)
reach-ended members bound clause count (Above low) is so_far x some apart = absurd (false≢true is)
