-- Bits that are driven, entry by entry.
use Rattle.std.proofs.Common.{ℕ, ◌≡◌, ◌<◌, ◌+◌, List, length, get_or, take, Bool}
use Rattle.std.specs.List.{list_any}
use Rattle.design_bits.specs.Masks.{Adds, has}
use Rattle.design_bits.proofs.Added.{adds-same, adds-more}
use Rattle.design_bits.proofs.Touched.{owned}

-- the bits of one entry more
pub join-entry : {X : Type 0} (t : X → ℕ → ℕ → Bool) (old mid new cleared own : List ℕ) (xs : List X) (i : ℕ) (x : X) → i < length xs → x ≡ get_or xs i x
    → Adds old mid (λ s b. list_any (λ y. t y s b) (take i xs)) → length cleared ≡ length mid → ((s : ℕ) → get_or cleared s 0 ≡ 0) → Adds cleared own (λ s b. t x s b)
    → Adds mid new (λ s b. has own s b) → Adds old new (λ s b. list_any (λ y. t y s b) (take (i + 1) xs))
join-entry t old mid new cleared own xs i x below is before long none adds joined =
    adds-more old mid new t xs i x below is before
    (adds-same mid new (λ s b. has own s b) (λ s b. t x s b) joined (λ s b within inside. owned cleared own (λ s b. t x s b) (length mid) long none adds s b within inside))
