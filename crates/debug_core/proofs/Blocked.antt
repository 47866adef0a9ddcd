-- Assignments and the blocks of sets: a block is met where some member isn't selected.
use Rattle.std.proofs.Common.{◌≡◌, ◌⊎◌, inl, inr, ℕ, Bool, true, false, not, ◌||◌, List, [], ◌∷◌, map}
use Rattle.std.proofs.Common.{refl, ap, sym, ◌∙◌}
use Rattle.std.specs.Prelude.{All, Contains}
use Rattle.std.proofs.lemmas.Bool.{or_cases}
use Rattle.std.proofs.lemmas.List.Elements.{All-nil, All-cons, All-head, All-tail}
use Rattle.loc_base.proofs.ShelfBools.{not-true, not-false}
use Rattle.loc_base.proofs.ShelfLists.{All-member, Contains-cons, Contains-empty, Contains-first, Contains-later}
use Rattle.clause_base.specs.Satisfaction.{Satisfies, SatisfiesClause, is_satisfied}
use Rattle.design_core.specs.Works.{IsWithin}
use Rattle.set_enum.specs.Sets.{IsSetOf, block_of, selected}
use Rattle.set_enum.proofs.Selecting.{selected-has, selected-true}

neither : (b c : Bool) → (b || c) ≡ false → (b ≡ false) × (c ≡ false)
neither true c fails = cc
neither false c fails = (refl, fails)

module _ (a : ℕ → Bool) where
  -- a block that isn't met has all its members true
  unmet : (set : List ℕ) → is_satisfied a (block_of set) ≡ false → All (λ m. a m ≡ true) set
  unmet [] fails = All-nil (λ m. a m ≡ true)
  unmet (m ∷ set) fails =
      let (here, later) = neither (not (a m)) (is_satisfied a (block_of set)) fails in
      All-cons (λ x. a x ≡ true) m set (not-false (a m) here) (unmet set later)

  -- one that is met has a member that isn't
  met : (set : List ℕ) → is_satisfied a (block_of set) ≡ true → (m : ℕ) × Contains set m × (a m ≡ false)
  met [] is = cc
  met (m ∷ set) is = at (or_cases (not (a m)) (is_satisfied a (block_of set)) is) (λ later. met set later)
    where
      at : (not (a m) ≡ true) ⊎ (is_satisfied a (block_of set) ≡ true)
          → (is_satisfied a (block_of set) ≡ true → (x : ℕ) × Contains set x × (a x ≡ false))
          → (x : ℕ) × Contains (m ∷ set) x × (a x ≡ false)
      at (inl here) rest = (m, Contains-first m set, not-true (a m) here)
      at (inr later) rest = let (x, member, fails) = rest later in (x, Contains-later m set x member, fails)

  -- a listed set whose block isn't met
  pub record Unmet (listed : List (List ℕ)) : Type 0 where
    pub set : List ℕ
    pub listed_there : Contains listed set
    pub is_unmet : is_satisfied a (block_of set) ≡ false

  abbrev AreMet : List (List ℕ) → Type 0
  AreMet listed = Satisfies a (map block_of listed)

  -- all blocks are met, or one isn't
  pub met-or-unmet : (listed : List (List ℕ)) → Satisfies a (map block_of listed) ⊎ Unmet listed
  met-or-unmet [] = inl (All-nil (SatisfiesClause a))
  met-or-unmet (set ∷ listed) = at (is_satisfied a (block_of set)) refl (met-or-unmet listed)
    where
      at : (b : Bool) → is_satisfied a (block_of set) ≡ b → AreMet listed ⊎ Unmet listed → AreMet (set ∷ listed) ⊎ Unmet (set ∷ listed)
      at true is (inl rest) = inl (All-cons (SatisfiesClause a) (block_of set) (map block_of listed) is rest)
      at true is (inr u) =
          inr (record { set = u.set; listed_there = Contains-later set listed u.set u.listed_there; is_unmet = u.is_unmet })
      at false is rest = inr (record { set = set; listed_there = Contains-first set listed; is_unmet = is })

  block-met : (listed : List (List ℕ)) (set : List ℕ) → AreMet listed → Contains listed set → is_satisfied a (block_of set) ≡ true
  block-met [] set all member = absurd (Contains-empty set member)
  block-met (first ∷ listed) set all member =
      at (Contains-cons first listed set member)
      (λ later. block-met listed set (All-tail (SatisfiesClause a) (block_of first) (map block_of listed) all) later)
    where
      at : (first ≡ set) ⊎ Contains listed set → (Contains listed set → is_satisfied a (block_of set) ≡ true)
          → is_satisfied a (block_of set) ≡ true
      at (inl same) rest =
          ap (λ s. is_satisfied a (block_of s)) (sym same)
          ∙ All-head (SatisfiesClause a) (block_of first) (map block_of listed) all
      at (inr later) rest = rest later

  -- where all blocks are met, no listed set is within what is selected
  pub met-apart : (n : ℕ) (listed : List (List ℕ)) (set : List ℕ) → Satisfies a (map block_of listed) → Contains listed set
      → IsWithin set (selected n a) → ⊥
  met-apart n listed set all member within =
      let (m, there, fails) = met set (block-met listed set all member) in
      let is : a m ≡ true = selected-true n a m (All-member (Contains (selected n a)) set m within there) in
      let wrong : true ≡ false = sym is ∙ fails in cc

  -- a set of suspects whose block isn't met is within what is selected
  pub unmet-within : (n : ℕ) (set : List ℕ) → IsSetOf n set → is_satisfied a (block_of set) ≡ false → IsWithin set (selected n a)
  unmet-within n set of fails k d l =
      let (low, high) = of.members k d l in
      selected-has n a _ low high (unmet set fails k d l)
