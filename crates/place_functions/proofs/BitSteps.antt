-- The bits that notes name, as they are gathered.
use Rattle.std.proofs.Common.{ℕ, zero, suc, ◌≡◌, ◌<◌, ◌≤◌, ◌+◌, Bool, true, false, ◌&&◌, ◌||◌, List, [], ◌∷◌, ◌++◌, length, get_or, take, refl, sym, ◌∙◌, ap, ap₂, subst, arith, ◌⊎◌, inl, inr}
use Rattle.std.specs.Prelude.{◌==◌, nat_lt, nat_le, slice_get}
use Rattle.std.specs.Option.{option_map_or}
use Rattle.std.specs.List.{list_any}
use Rattle.std.proofs.lemmas.Bool.{cases_lt, cases_eq, eqb-true, lt-ltb}
use Rattle.std.proofs.lemmas.Bool.Decides.{nat_tests}
use Rattle.std.proofs.lemmas.List.Folds.{list_any-append}
use Rattle.loc_base.proofs.ShelfLists.{take-at, slice_get-at}
use Rattle.loc_base.proofs.ShelfBools.{or-false, or-assoc, and-assoc, and-false}
use Rattle.design_core.specs.declared.signal.Signal.{Signal}
use Rattle.design_core.specs.Valuation.{width_at}
use Rattle.design_core.specs.Drives.{is_among}
use Rattle.place_functions.specs.declared.note.Note.{Note}
use Rattle.place_functions.specs.declared.signal_bit.SignalBit.{SignalBit}
use Rattle.place_functions.specs.Notes.{note_reads, some_reads, between, is_bit, lists, AddsBits}

-- the end of a range
pub end-among : (first count sum limit n end : ℕ) → limit < 4294967296 → (first + count < 4294967296 → sum ≡ first + count) → (4294967296 ≤ first + count → sum ≡ 4294967295)
    → ((sum ≤ limit) × (end ≡ sum)) ⊎ ((limit ≤ sum) × (end ≡ limit)) → between first end n ≡ (is_among first count n && nat_lt n limit)
end-among first count sum limit n end few fits full (inl at) = grind (arith, nat_tests)
end-among first count sum limit n end few fits full (inr at) = grind (arith, nat_tests)

pub ruleset ends = (nat_tests)

-- nothing was added
pub bits-none : (a : List SignalBit) (t : ℕ → ℕ → Bool) → ((s b : ℕ) → t s b ≡ false) → AddsBits a a t
bits-none a t none = record { bits = λ s b. sym (ap (λ x. lists a s b || x) (none s b) ∙ or-false (lists a s b)) }

-- one bit
pub bits-push : (a : List SignalBit) (x : SignalBit) → AddsBits a (a ++ x ∷ []) (λ s b. is_bit s b x)
bits-push a x =
    record { bits = λ s b. list_any-append (is_bit s b) a (x ∷ []) ∙ ap (λ y. lists a s b || y) (or-false (is_bit s b x)) }

-- one addition after another
pub bits-both : (a b c : List SignalBit) (t u : ℕ → ℕ → Bool) → AddsBits a b t → AddsBits b c u → AddsBits a c (λ s k. t s k || u s k)
bits-both a b c t u one other =
    record { bits = λ s k. other.bits s k ∙ ap (λ x. x || u s k) (one.bits s k) ∙ or-assoc (lists a s k) (t s k) (u s k) }

-- what is added, said in another way
pub bits-same : (a b : List SignalBit) (t u : ℕ → ℕ → Bool) → AddsBits a b t → ((s k : ℕ) → t s k ≡ u s k) → AddsBits a b u
bits-same a b t u one same = record { bits = λ s k. one.bits s k ∙ ap (λ x. lists a s k || x) (same s k) }

-- ranges
pub between-none : (from n : ℕ) → between from from n ≡ false
between-none from n = grind (arith, nat_tests)

pub between-more : (from i n : ℕ) → from ≤ i → (between from i n || (i == n)) ≡ between from (i + 1) n
between-more from i n least = grind (arith, nat_tests)

-- one position more
spread : (q t u : Bool) → ((q && t) || (q && u)) ≡ (q && (t || u))
spread true t u = refl
spread false t u = refl

pub position-more : (a b : List SignalBit) (signal from i : ℕ) → from ≤ i → AddsBits a b (λ s k. (signal == s) && between from i k)
    → AddsBits a (b ++ record { signal = signal; position = i } ∷ []) (λ s k. (signal == s) && between from (i + 1) k)
position-more a b signal from i least so_far =
    let x : SignalBit = record { signal = signal; position = i } in
    bits-same _ _ (λ s k. ((signal == s) && between from i k) || is_bit s k x) (λ s k. (signal == s) && between from (i + 1) k)
    (bits-both a b (b ++ x ∷ []) (λ s k. (signal == s) && between from i k) (λ s k. is_bit s k x) so_far (bits-push b x))
    (λ s k. spread (signal == s) (between from i k) (i == k) ∙ ap (λ y. (signal == s) && y) (between-more from i k least))

pub position-none : (a : List SignalBit) (signal from : ℕ) → AddsBits a a (λ s k. (signal == s) && between from from k)
position-none a signal from =
    bits-none a (λ s k. (signal == s) && between from from k) (λ s k. ap (λ y. (signal == s) && y) (between-none from k) ∙ and-false (signal == s))

-- one signal more, with its width
signal-here : (p s : ℕ) (t u v : Bool) → ((p ≡ s) → u ≡ v) → ((t && v) || ((p == s) && u)) ≡ ((t || (p == s)) && v)
signal-here p s t u v same = by (cases_eq p s)
  where
    at : (t e u v : Bool) → (e ≡ true → u ≡ v) → ((t && v) || (e && u)) ≡ ((t || e) && v)
    at true true u true same = refl
    at true true u false same = same refl
    at false true u v same = same refl
    at true false u true same = refl
    at true false u false same = refl
    at false false u v same = refl

    by : (p ≡ s) ⊎ (p ≡ s → ⊥) → ((t && v) || ((p == s) && u)) ≡ ((t || (p == s)) && v)
    by _ = at t (p == s) u v (λ e. same (eqb-true p s e))

width-there : (signals : List Signal) (p : ℕ) (signal : Signal) → p < length signals → signal ≡ get_or signals p signal → signal.width ≡ width_at signals p
width-there signals p signal below is = sym (ap (λ o. option_map_or (λ (s : Signal). s.width) o 0) (slice_get-at signals p signal below is))

pub signal-wide : (signals : List Signal) (i : ℕ) (signal : Signal) → i < length signals → signal ≡ get_or signals i signal
    → (get_or signals i signal).width ≡ width_at signals i
signal-wide signals i signal below is = ap (λ (s : Signal). s.width) (sym is) ∙ width-there signals i signal below is

pub signal-more : (a b c : List SignalBit) (signals : List Signal) (note : Note) (i width : ℕ) → note.first ≤ i → width ≡ width_at signals i
    → AddsBits a b (λ s k. between note.first i s && (is_among note.from note.width k && nat_lt k (width_at signals s)))
    → AddsBits b c (λ s k. (i == s) && (is_among note.from note.width k && nat_lt k width))
    → AddsBits a c (λ s k. between note.first (i + 1) s && (is_among note.from note.width k && nat_lt k (width_at signals s)))
signal-more a b c signals note i width least wide so_far one =
    let R = λ (s k : ℕ). is_among note.from note.width k && nat_lt k (width_at signals s) in
    let S = λ (k : ℕ). is_among note.from note.width k && nat_lt k width in
    bits-same a c (λ s k. (between note.first i s && R s k) || ((i == s) && S k)) (λ s k. between note.first (i + 1) s && R s k)
    (bits-both a b c (λ s k. between note.first i s && R s k) (λ s k. (i == s) && S k) so_far one)
    (λ s k.
    signal-here i s (between note.first i s) (S k) (R s k)
    (λ e. ap (λ w. is_among note.from note.width k && nat_lt k w) (wide ∙ ap (width_at signals) e))
    ∙ ap (λ t. t && R s k) (between-more note.first i s least))

pub signal-none : (a : List SignalBit) (first : ℕ) (R : ℕ → ℕ → Bool) → AddsBits a a (λ s k. between first first s && R s k)
signal-none a first R = bits-none a (λ s k. between first first s && R s k) (λ s k. ap (λ t. t && R s k) (between-none first s))

-- all signals of a note
no-width : (signals : List Signal) (s : ℕ) → length signals ≤ s → width_at signals s ≡ 0
no-width [] s past = refl
no-width (signal ∷ signals) zero past = absurd (omega (arith, past))
no-width (signal ∷ signals) (suc s) past = no-width signals s (omega (arith, past))

pub note-whole : (a b : List SignalBit) (signals : List Signal) (note : Note) (end : ℕ)
    → ((n : ℕ) → between note.first end n ≡ (is_among note.first note.count n && nat_lt n (length signals)))
    → AddsBits a b (λ s k. between note.first end s && (is_among note.from note.width k && nat_lt k (width_at signals s)))
    → AddsBits a b (λ s k. note_reads s k note && nat_lt k (width_at signals s))
note-whole a b signals note end among all =
    bits-same a b _ (λ s k. note_reads s k note && nat_lt k (width_at signals s)) all
    (λ s k.
    ap (λ t. t && (is_among note.from note.width k && nat_lt k (width_at signals s))) (among s)
    ∙ by s k (cases_lt s (length signals)))
  where
    none : (k : ℕ) → nat_lt k 0 ≡ false
    none k = grind (arith, nat_tests)

    at : (x r w l : Bool) → (l ≡ true) ⊎ (w ≡ false) → ((x && l) && (r && w)) ≡ ((x && r) && w)
    at true r w l (inl e) = ap (λ y. y && (r && w)) e
    at false r w l (inl e) = refl
    at true true w l (inr e) = ap (λ y. l && y) e ∙ and-false l ∙ sym e
    at true false w l (inr e) = and-false l
    at false r w l (inr e) = refl

    by : (s k : ℕ) → (s < length signals) ⊎ (length signals ≤ s) → let w = nat_lt k (width_at signals s) in
        ((is_among note.first note.count s && nat_lt s (length signals)) && (is_among note.from note.width k && w)) ≡ (note_reads s k note && w)
    by s k (inl below) =
        at (is_among note.first note.count s) (is_among note.from note.width k) (nat_lt k (width_at signals s)) (nat_lt s (length signals))
        (inl (lt-ltb s (length signals) below))
    by s k (inr past) =
        at (is_among note.first note.count s) (is_among note.from note.width k) (nat_lt k (width_at signals s)) (nat_lt s (length signals))
        (inr (ap (nat_lt k) (no-width signals s past) ∙ none k))

pub note-end : (a b : List SignalBit) (signals : List Signal) (note : Note) (i end : ℕ) → i ≡ end
    → ((n : ℕ) → between note.first end n ≡ (is_among note.first note.count n && nat_lt n (length signals)))
    → AddsBits a b (λ s k. between note.first i s && (is_among note.from note.width k && nat_lt k (width_at signals s)))
    → AddsBits a b (λ s k. note_reads s k note && nat_lt k (width_at signals s))
note-end a b signals note i end same among all =
    note-whole a b signals note end among
    (subst (λ n. AddsBits a b (λ s k. between note.first n s && (is_among note.from note.width k && nat_lt k (width_at signals s)))) same all)

-- what is added to nothing
pub from-none : (a b : List SignalBit) (t : ℕ → ℕ → Bool) → a ≡ [] → AddsBits a b t → (s k : ℕ) → lists b s k ≡ t s k
from-none a b t none all s k = all.bits s k ∙ ap (λ xs. lists xs s k || t s k) none

-- one note more
pub notes-more : (a b c : List SignalBit) (signals : List Signal) (notes : List Note) (i : ℕ) (note : Note) → i < length notes → note ≡ get_or notes i note
    → AddsBits a b (λ s k. some_reads (take i notes) s k && nat_lt k (width_at signals s))
    → AddsBits b c (λ s k. note_reads s k note && nat_lt k (width_at signals s))
    → AddsBits a c (λ s k. some_reads (take (i + 1) notes) s k && nat_lt k (width_at signals s))
notes-more a b c signals notes i note below is so_far one =
    let W = λ (s k : ℕ). nat_lt k (width_at signals s) in
    bits-same a c (λ s k. (some_reads (take i notes) s k && W s k) || (note_reads s k note && W s k)) (λ s k. some_reads (take (i + 1) notes) s k && W s k)
    (bits-both a b c (λ s k. some_reads (take i notes) s k && W s k) (λ s k. note_reads s k note && W s k) so_far one)
    (λ s k.
    sym (and-spread (some_reads (take i notes) s k) (note_reads s k note) (W s k))
    ∙ ap (λ t. t && W s k)
    (sym (ap (list_any (note_reads s k)) (take-at notes i note below is) ∙ list_any-append (note_reads s k) (take i notes) (note ∷ [])
    ∙ ap (λ y. some_reads (take i notes) s k || y) (or-false (note_reads s k note)))))
  where
    and-spread : (t u w : Bool) → ((t || u) && w) ≡ ((t && w) || (u && w))
    and-spread true true true = refl
    and-spread true true false = refl
    and-spread true false true = refl
    and-spread true false false = refl
    and-spread false true true = refl
    and-spread false true false = refl
    and-spread false false w = refl

pub ruleset note_steps = (position-more, position-none, signal-none, notes-more)
