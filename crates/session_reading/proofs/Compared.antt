-- Whether two digests are the same, by their bytes.
use Rattle.std.proofs.Common.{ℕ, ◌≡◌, ◌≢◌, ◌⊎◌, inl, Bool, true, false, List, refl, sym, ap, ◌∙◌}
use Rattle.std.specs.Prelude.{nat_eq, not}
use Rattle.std.specs.Cmp.Lexicographic.{pointwise}
use Rattle.std.proofs.lemmas.Bool.{false≢true}
use Rattle.std.proofs.lemmas.Slice.Eq.{bytes_eq-Decides}
use Rattle.loc_base.specs.declared.digest.Digest.{Digest}
use Rattle.session_reading.specs.declared.digests.Digests.{Digests}
use Rattle.session_reading.specs.Refusals.{OtherRefused, session_differs}

-- two digests are the same exactly where the test of their bytes says so
pub digests-differ : (a b : Digest) (ne : Bool) → ne ≡ not (pointwise nat_eq a.bytes b.bytes) → ne ≡ true → a ≢ b
digests-differ a b ne is holds e =
    false≢true (sym (is ∙ ap not ((bytes_eq-Decides a.bytes b.bytes).1 (ap (λ (d : Digest). d.bytes) e))) ∙ holds)

abbrev of-bytes : List ℕ → Digest
of-bytes bytes = record { bytes = bytes }

pub digests-same : (a b : Digest) (ne : Bool) → ne ≡ not (pointwise nat_eq a.bytes b.bytes) → ne ≡ false → a ≡ b
digests-same a b ne is holds =
    at (pointwise nat_eq a.bytes b.bytes) (sym is ∙ holds) (bytes_eq-Decides a.bytes b.bytes).0
  where
    at : (test : Bool) → not test ≡ false → (test ≡ true → a.bytes ≡ b.bytes) → a ≡ b
    at true e same = ap of-bytes (same refl)
    at false e same = absurd (false≢true (sym e))

-- that a session is of other inputs is a refusal of status 3
pub other-low : (digests : Digests) (s : ℕ) (l : List ℕ) → OtherRefused digests s l → (s ≡ 3) ⊎ (s ≡ 4)
other-low digests s l (session_differs session differs) = inl refl
