-- Steps of the loops over the bits of a form and of a place.
use Rattle.std.proofs.Common.{◌≡◌, ◌≢◌, ◌⊎◌, inl, inr, ℕ, ◌+◌, ◌<◌, ◌≤◌, ◌==◌, max, Bool, true, false, if◌then◌else◌, List, [], ◌∷◌, ◌++◌, length, map, get_or, take, refl, sym, ◌∙◌, ap, arith, add-one}
use Rattle.std.specs.Prelude.{All}
use Rattle.std.proofs.Math.ListN.{set}
use Rattle.std.proofs.lemmas.Bool.Decides.{eqb_tells}
use Rattle.std.proofs.lemmas.Grind.{get_or-set_at}
use Rattle.std.proofs.lemmas.List.{take_all, take_more, get_or-set_other}
use Rattle.loc_base.proofs.ShelfLists.{map-take_at}
use Rattle.unroller.specs.declared.free_bit.FreeBit.{FreeBit}
use Rattle.unroller.specs.Unrolls.{Unrolling}
use Rattle.unroller.specs.Reads.{HasFreeBit, IsFreeBit}
use Rattle.form_laws.specs.Models.{HasOneColumnEach, column_of}
use Rattle.form_laws.proofs.Columns.{column-there}
use Rattle.form_values.specs.ModelValues.{IsPlace, width_in}
use Rattle.form_values.specs.Places.{columns_of, columns_to}

-- ---- widths

-- the width with one bit more
with-bit : (bits : List FreeBit) (x : FreeBit) (p : ℕ)
    → width_in (bits ++ x ∷ []) p ≡ (if x.place == p then max (width_in bits p) (x.bit + 1) else width_in bits p)
with-bit [] x p = one (x.place == p)
  where
    one : (is : Bool) → (if is then max (x.bit + 1) 0 else 0) ≡ (if is then max 0 (x.bit + 1) else 0)
    one true = omega arith
    one false = refl
with-bit (y ∷ bits) x p =
    ap (λ w. if y.place == p then max (y.bit + 1) w else w) (with-bit bits x p)
    ∙ both (y.place == p) (x.place == p) (y.bit + 1) (x.bit + 1) (width_in bits p)
  where
    both : (first last : Bool) (a b w : ℕ)
        → (if first then max a (if last then max w b else w) else (if last then max w b else w))
        ≡ (if last then max (if first then max a w else w) b else (if first then max a w else w))
    both true true a b w = omega arith
    both true false a b w = refl
    both false true a b w = refl
    both false false a b w = refl

pub width-more : (bits : List FreeBit) (i p w : ℕ) (d : FreeBit) → i < length bits → w ≡ width_in (take i bits) p
    → (if (get_or bits i d).place == p then max w ((get_or bits i d).bit + 1) else w) ≡ width_in (take (i + 1) bits) p
width-more bits i p w d within so_far =
    ap (λ v. if (get_or bits i d).place == p then max v ((get_or bits i d).bit + 1) else v) so_far
    ∙ sym (with-bit (take i bits) (get_or bits i d) p) ∙ ap (λ bs. width_in bs p) (sym (take_more bits i d within))

pub width-end : (bits : List FreeBit) (i p : ℕ) → length bits ≤ i → width_in (take i bits) p ≡ width_in bits p
width-end bits i p past = ap (λ bs. width_in bs p) (take_all i bits past)

pub ruleset widths = (width-more, width-end)

-- an entry of the table that is widened
pub entry-widened : (widths : List ℕ) (i p b : ℕ) → i < length widths
    → get_or (set widths i (max (get_or widths i 0) b)) p 0 ≡ (if i == p then max (get_or widths p 0) b else get_or widths p 0)
entry-widened widths i p b within = at (eqb_tells i p)
  where
    at : ((i == p ≡ true) × (i ≡ p)) ⊎ ((i == p ≡ false) × (i ≢ p))
        → get_or (set widths i (max (get_or widths i 0) b)) p 0 ≡ (if i == p then max (get_or widths p 0) b else get_or widths p 0)
    at (inl (is, same)) =
        get_or-set_at widths i p (max (get_or widths i 0) b) 0 (sym same) within ∙ ap (λ j. max (get_or widths j 0) b) same
        ∙ sym (ap (λ v. if v then max (get_or widths p 0) b else get_or widths p 0) is)
    at (inr (is, apart)) =
        get_or-set_other widths i p (max (get_or widths i 0) b) 0 (λ e. apart (sym e))
        ∙ sym (ap (λ v. if v then max (get_or widths p 0) b else get_or widths p 0) is)

pub ruleset widens = (entry-widened)

pub ruleset tables = (width-end)

-- ---- columns

-- the column that was found is the first one
pub column-is : (u : Unrolling) (column place bit : ℕ) → HasOneColumnEach u → IsFreeBit u place bit column
    → column ≡ column_of u.bits place bit
column-is u column place bit distinct there =
    distinct column (column_of u.bits place bit) place bit there (column-there u.bits column place bit there)

pub columns-more : (bits : List FreeBit) (columns : List ℕ) (column place bit : ℕ) → columns ≡ columns_to bits place bit
    → column ≡ column_of bits place bit → columns ++ column ∷ [] ≡ columns_to bits place (bit + 1)
columns-more bits columns column place bit so_far is =
    ap (λ cs. cs ++ column ∷ []) so_far ∙ ap (λ c. columns_to bits place bit ++ c ∷ []) is
    ∙ ap (columns_to bits place) (sym (add-one bit))

pub ruleset columns = (column-is, columns-more)

pub place-few : (u : Unrolling) (places : List ℕ) (i d : ℕ) → All (IsPlace u) places → i < length places
    → width_in u.bits (get_or places i d) ≤ 128
place-few u places i d all within = (all i d within).few

pub place-bits : (u : Unrolling) (places : List ℕ) (i d width : ℕ) → All (IsPlace u) places → i < length places
    → width ≡ width_in u.bits (get_or places i d) → (bit : ℕ) → bit < width → HasFreeBit u (get_or places i d) bit
place-bits u places i d width all within is bit less = (all i d within).bits bit (omega (arith, less, is))

pub place-more : (bits : List FreeBit) (places : List ℕ) (i p : ℕ) (columns : List ℕ) → i < length places → p ≡ get_or places i p
    → columns ≡ columns_of bits p
    → map (columns_of bits) (take i places) ++ columns ∷ [] ≡ map (columns_of bits) (take (i + 1) places)
place-more bits places i p columns within is are =
    ap (λ cs. map (columns_of bits) (take i places) ++ cs ∷ []) are ∙ sym (map-take_at (columns_of bits) places i p within is)

pub place-end : (bits : List FreeBit) (places : List ℕ) (i : ℕ) → length places ≤ i
    → map (columns_of bits) (take i places) ≡ map (columns_of bits) places
place-end bits places i past = ap (map (columns_of bits)) (take_all i places past)

pub ruleset places = (place-few, place-end)
