-- What some bits of a word at a variable address mean where the word hasn't all of them: the others are 0.
use Rattle.std.proofs.Common.{◌≡◌, ℕ, suc, ◌+◌, ◌-◌, ◌*◌, ◌^◌, ◌<◌, ◌≤◌, Bool, true, false, List, [], ◌∷◌, Some, None, refl, ap, sym, subst, ◌∙◌, arith, ◌⊎◌, inl, inr}
use Rattle.std.specs.Prelude.{if◌then◌else◌, min, ◌==◌, ℤ, pos, negsuc, ◌+ℤ◌, ◌<ℤ◌, ◌≤ℤ◌}
use Rattle.std.proofs.lemmas.Bool.{lt-ltb, eqb-true}
use Rattle.std.proofs.lemmas.Int.{ints}
use Rattle.std.proofs.lemmas.Nat.{pow_pos}
use Rattle.std.proofs.lemmas.List.Sums.{sum_by-cons}
use Rattle.design_core.specs.declared.signal.Signal.{Signal}
use Rattle.design_core.specs.declared.expression.Typed.{Typed}
use Rattle.design_core.specs.declared.expression.Node.TheVariants as node
use Rattle.design_core.specs.Valuation.{Valuation, number, place_within, bit_or_zero, word_at}
use Rattle.design_core.specs.Value.{node_value}
use Rattle.design_core.specs.WellFormed.{node_fits}
use Rattle.design_core.proofs.NumberLaws.{number-same}
use Rattle.v_sizes.specs.Selected.{bits_below, bits_within, start_within}
use Rattle.v_sizes.specs.Sizing.{Sizing, integer, word_bits, joined_value}
use Rattle.v_sizes.specs.Sizing as sizing
use Rattle.v_sizes.specs.Sized.{sized, constant, zeros_before, word_part}
use Rattle.v_sizes.specs.Context.{IsThere}
use Rattle.v_sizes.proofs.Parts.{place-none}
use Rattle.v_sizes.proofs.Steady.{number-none}
use Rattle.v_sizes.proofs.Meant.{Within, Meant, constant-meant}
use Rattle.v_sizes.proofs.Accepted.{not_zero}
use Rattle.v_sizes.proofs.Joins.{MeantAll, none, more, join-meant}
use Rattle.v_sizes.proofs.Arrays.{number-halves, word-meant}

-- the bit so far from bit 0 of a word
abbrev far_bit : (ℕ → Bool) → ℕ → ℤ → ℕ → Bool
far_bit bits width distance b = bit_or_zero bits (place_within width (distance +ℤ pos b))

missing-bit : (bits : ℕ → Bool) (width : ℕ) (d : ℤ) → (d <ℤ pos 0) ⊎ (pos width ≤ℤ d) → bit_or_zero bits (place_within width d) ≡ false
missing-bit bits width d out = ap (bit_or_zero bits) (place-none width d out)

low-bit : (bits : ℕ → Bool) (width size : ℕ) (d : ℤ) (b : ℕ) → b < bits_below size d → far_bit bits width d b ≡ false
low-bit bits width size (pos from) b below = absurd (omega (arith, below))
low-bit bits width size (negsuc n) b below =
    let less : b < suc n = omega (arith, below) in
    missing-bit bits width (negsuc n +ℤ pos b) (inl (omega (arith, ints, less)))

middle-bit : (bits : ℕ → Bool) (width size : ℕ) (d : ℤ) (i : ℕ) → i < bits_within width size d → far_bit bits width d (bits_below size d + i) ≡ bits (start_within d + i)
middle-bit bits width size (pos from) i below =
    let there : from + i < width = omega (arith, below) in
    let at : pos from +ℤ pos (0 + i) ≡ pos (from + i) = omega (arith, ints) in
    ap (λ d. bit_or_zero bits (place_within width d)) at ∙ ap (λ holds. bit_or_zero bits (if holds then Some (from + i) else None)) (lt-ltb (from + i) width there)
middle-bit bits width size (negsuc n) i below =
    let there : i < width = omega (arith, below) in
    let whole : min size (suc n) ≡ suc n = omega (arith, below) in
    let at : negsuc n +ℤ pos (min size (suc n) + i) ≡ pos (0 + i) = omega (arith, ints, whole) in
    ap (λ d. bit_or_zero bits (place_within width d)) at ∙ ap (λ holds. bit_or_zero bits (if holds then Some (0 + i) else None)) (lt-ltb (0 + i) width (omega (arith, there)))

high-bit : (bits : ℕ → Bool) (width size : ℕ) (d : ℤ) (j : ℕ) → bits_below size d + bits_within width size d + j < size
    → far_bit bits width d (bits_below size d + bits_within width size d + j) ≡ false
high-bit bits width size (pos from) j below =
    let past : width ≤ from + (0 + min size (width - from) + j) = omega (arith, below) in
    missing-bit bits width (pos from +ℤ pos (0 + min size (width - from) + j)) (inr (omega (arith, ints, past)))
high-bit bits width size (negsuc n) j below =
    let past : width + suc n ≤ min size (suc n) + min width (size - suc n) + j = omega (arith, below) in
    missing-bit bits width (negsuc n +ℤ pos (min size (suc n) + min width (size - suc n) + j)) (inr (omega (arith, ints, past)))

number-zeros : (n : ℕ) (f : ℕ → Bool) → ((b : ℕ) → b < n → f b ≡ false) → number n f ≡ 0
number-zeros n f none_set = number-same n f (λ b. false) none_set ∙ number-none n

-- all of the bits as the middle ones with zeros on both sides
pub padded : (bits : ℕ → Bool) (width size : ℕ) (d : ℤ) → bits_below size d + bits_within width size d ≤ size
    → number size (far_bit bits width d) ≡ number (bits_within width size d) (λ i. bits (start_within d + i)) * 2 ^ bits_below size d
padded bits width size d fits =
    let low = bits_below size d in
    let within = bits_within width size d in
    let high = size - (low + within) in
    let all : low + within + high ≡ size = omega (arith, fits) in
    let f = far_bit bits width d in
    let top : number high (λ j. f (low + within + j)) ≡ 0 = number-zeros high (λ j. f (low + within + j)) (λ j below. high-bit bits width size d j (omega (arith, below))) in
    let middle : number within (λ i. f (low + i)) ≡ number within (λ i. bits (start_within d + i)) =
    number-same within (λ i. f (low + i)) (λ i. bits (start_within d + i)) (λ i below. middle-bit bits width size d i below) in
    let bottom : number low f ≡ 0 = number-zeros low f (λ b below. low-bit bits width size d b below) in
    let one : number (low + within + high) f ≡ number high (λ j. f (low + within + j)) * 2 ^ (low + within) + number (low + within) f = number-halves (low + within) high f in
    let two : number (low + within) f ≡ number within (λ i. f (low + i)) * 2 ^ low + number low f = number-halves low within f in
    let nothing : 0 * 2 ^ (low + within) ≡ 0 = omega arith in
    let alone : 0 + number (low + within) f ≡ number (low + within) f = omega arith in
    let last : number within (λ i. bits (start_within d + i)) * 2 ^ low + 0 ≡ number within (λ i. bits (start_within d + i)) * 2 ^ low = omega arith in
    ap (λ n. number n f) (sym all) ∙ one
    ∙ ap (λ n. n * 2 ^ (low + within) + number (low + within) f) top
    ∙ ap (λ n. n + number (low + within) f) nothing
    ∙ alone
    ∙ two
    ∙ ap (λ n. n * 2 ^ low + number low f) middle
    ∙ ap (λ n. number within (λ i. bits (start_within d + i)) * 2 ^ low + n) bottom
    ∙ last

-- ---- zeros beside a part
-- what a run of zeros is by itself
abbrev zeros_of : ℕ → Sizing
zeros_of count = record { width = count; signed = false; constant = true; value = λ V size signed. 0 }

abbrev before_of : ℕ → List Sizing → List Sizing
before_of count es = if count == 0 then es else zeros_of count ∷ es

padding-meant : (signals : List Signal) (count : ℕ) (ts : List Typed) (es : List Sizing) → count ≤ 128 → MeantAll signals ts es
    → MeantAll signals (zeros_before count ts) (before_of count es)
padding-meant signals count ts es most meant = by (count == 0) refl
  where
    by : (holds : Bool) → (count == 0) ≡ holds
        → MeantAll signals (if holds then ts else constant count false 0 ∷ ts) (if holds then es else zeros_of count ∷ es)
    by true is = meant
    by false is = more (constant-meant signals count false 0 (record { least = not_zero count is; most = most }) (pow_pos count)) meant

padding-width : (count : ℕ) (es : List Sizing) → sizing.joined_width (before_of count es) ≡ count + sizing.joined_width es
padding-width count es = by (count == 0) refl
  where
    by : (holds : Bool) → (count == 0) ≡ holds → sizing.joined_width (if holds then es else zeros_of count ∷ es) ≡ count + sizing.joined_width es
    by true is = omega (arith, eqb-true count 0 is)
    by false is = sum_by-cons (λ part. part.width) (zeros_of count) es

-- zeros on the left change nothing, and those on the right shift
padding-left : (count : ℕ) (es : List Sizing) (V : Valuation) → joined_value 0 (before_of count es) V ≡ joined_value 0 es V
padding-left count es V = by (count == 0)
  where
    by : (holds : Bool) → joined_value 0 (if holds then es else zeros_of count ∷ es) V ≡ joined_value 0 es V
    by true = refl
    by false = let nothing : 0 * 2 ^ count + 0 ≡ 0 = omega arith in ap (λ n. joined_value n es V) nothing

padding-right : (count before : ℕ) (V : Valuation) → joined_value before (before_of count []) V ≡ before * 2 ^ count
padding-right count before V = by (count == 0) refl
  where
    by : (holds : Bool) → (count == 0) ≡ holds → joined_value before (if holds then [] else zeros_of count ∷ []) V ≡ before * 2 ^ count
    by true is =
        let one : 2 ^ count ≡ 1 = ap (λ n. 2 ^ n) (eqb-true count 0 is) in
        let same : before ≡ before * 1 = omega arith in
        same ∙ sym (ap (λ n. before * n) one)
    by false is = let same : before * 2 ^ count + 0 ≡ before * 2 ^ count = omega arith in same

-- ---- a part of a word
-- an array of words of a width and a range, with its sized address
pub record Addressed (signals : List Signal) : Type 0 where
  pub width : ℕ
  pub left : ℤ
  pub right : ℤ
  pub first : ℕ
  pub count : ℕ
  pub low : ℤ
  pub some : 1 ≤ count
  pub there : (k : ℕ) → k < count → IsThere signals width left right (first + k)
  pub wide : width ≤ 128
  pub index : Typed
  pub of : Sizing
  pub meant : Meant signals index of.width of.signed (λ V. of.value V of.width of.signed)

-- the bits of its word at its address
abbrev pub addressed_bits : {signals : List Signal} → Addressed signals → Valuation → ℕ → Bool
addressed_bits a V = word_bits V (word_at a.first a.count a.low (integer a.of V))

bits-fit : (width size : ℕ) (d : ℤ) → 1 ≤ bits_within width size d → bits_below size d + bits_within width size d ≤ size
bits-fit width size (pos from) some = omega arith
bits-fit width size (negsuc n) some = omega arith

bits-inside : (width size : ℕ) (d : ℤ) → 1 ≤ bits_within width size d → start_within d + bits_within width size d ≤ width
bits-inside width size (pos from) some = omega arith
bits-inside width size (negsuc n) some = omega arith

-- what is read of the word
abbrev read_of : (signals : List Signal) → Addressed signals → ℕ → ℤ → Sizing
read_of signals a size d =
    record { width = bits_within a.width size d; signed = false; constant = false; value = λ V w s. number (bits_within a.width size d) (λ i. addressed_bits a V (start_within d + i)) }

pub word_part-meant : (signals : List Signal) (a : Addressed signals) (size : ℕ) (d : ℤ) (signed : Bool) → Within size → 1 ≤ bits_within a.width size d
    → Meant signals (sized size signed (word_part a.first a.count a.low a.index a.width size d)) size signed (λ V. number size (far_bit (addressed_bits a V) a.width d))
word_part-meant signals a size d signed fits some = by (bits_within a.width size d == size) refl
  where
    read : (as_signed : Bool) → Meant signals (sized (bits_within a.width size d) as_signed (node.Word a.first a.count a.low a.index (start_within d) (bits_within a.width size d)))
        (bits_within a.width size d) as_signed (λ V. number (bits_within a.width size d) (λ i. addressed_bits a V (start_within d + i)))
    read as_signed =
        word-meant signals a.width a.left a.right a.first a.count a.low (start_within d) (bits_within a.width size d) a.index a.of as_signed
        (record { least = some; most = omega (arith, bits-inside a.width size d some, a.wide) }) (bits-inside a.width size d some) a.some a.there a.meant

    values : (V : Valuation) → number (bits_within a.width size d) (λ i. addressed_bits a V (start_within d + i)) * 2 ^ bits_below size d ≡ number size (far_bit (addressed_bits a V) a.width d)
    values V = sym (padded (addressed_bits a V) a.width size d (bits-fit a.width size d some))

    by : (holds : Bool) → (bits_within a.width size d == size) ≡ holds
        → Meant signals
        (sized size signed
        (if holds
        then node.Word a.first a.count a.low a.index (start_within d) (bits_within a.width size d)
        else node.Join
        (zeros_before (size - (bits_below size d + bits_within a.width size d))
        (sized (bits_within a.width size d) false (node.Word a.first a.count a.low a.index (start_within d) (bits_within a.width size d))
        ∷ zeros_before (bits_below size d) []
        )
        )
        )
        ) size signed (λ V. number size (far_bit (addressed_bits a V) a.width d))
    by true is =
        let same : bits_within a.width size d ≡ size = eqb-true (bits_within a.width size d) size is in
        let none_below : bits_below size d ≡ 0 = omega (arith, same, bits-fit a.width size d some) in
        let r = read signed in
        record {
          of_width = refl;
          of_sign = refl;
          means = λ V.
              ap (λ w. node_value signals V w (node.Word a.first a.count a.low a.index (start_within d) (bits_within a.width size d))) (sym same)
              ∙ r.means V
              ∙ unshifted (number (bits_within a.width size d) (λ i. addressed_bits a V (start_within d + i))) (bits_below size d) none_below
              ∙ values V;
          fits = ap (λ w. node_fits signals w signed (node.Word a.first a.count a.low a.index (start_within d) (bits_within a.width size d))) (sym same) ∙ r.fits;
        }
      where
        unshifted : (n k : ℕ) → k ≡ 0 → n ≡ n * 2 ^ k
        unshifted n k h = let one : n ≡ n * 1 = omega arith in one ∙ sym (ap (λ m. n * 2 ^ m) h)
    by false is =
        let es = before_of (size - (bits_below size d + bits_within a.width size d)) (read_of signals a size d ∷ before_of (bits_below size d) []) in
        let wide : sizing.joined_width es ≡ size = total in
        let j = join-meant signals
        (zeros_before (size - (bits_below size d + bits_within a.width size d))
        (sized (bits_within a.width size d) false (node.Word a.first a.count a.low a.index (start_within d) (bits_within a.width size d))
        ∷ zeros_before (bits_below size d) []
        )
        ) es signed (subst Within (sym wide) fits)
        (padding-meant signals (size - (bits_below size d + bits_within a.width size d))
        (sized (bits_within a.width size d) false (node.Word a.first a.count a.low a.index (start_within d) (bits_within a.width size d))
        ∷ zeros_before (bits_below size d) []
        ) (read_of signals a size d ∷ before_of (bits_below size d) []) (omega (arith, fits.most))
        (more (read false) (padding-meant signals (bits_below size d) [] [] (omega (arith, fits.most, bits-fit a.width size d some)) none))) in
        subst (λ w. Meant signals
        (sized w signed
        (node.Join
        (zeros_before (size - (bits_below size d + bits_within a.width size d))
        (sized (bits_within a.width size d) false (node.Word a.first a.count a.low a.index (start_within d) (bits_within a.width size d))
        ∷ zeros_before (bits_below size d) []
        )
        )
        )
        ) w signed (λ V. number size (far_bit (addressed_bits a V) a.width d))) wide
        (record { of_width = j.of_width; of_sign = j.of_sign; means = λ V. j.means V ∙ meaning V; fits = j.fits })
      where
        total : sizing.joined_width (before_of (size - (bits_below size d + bits_within a.width size d)) (read_of signals a size d ∷ before_of (bits_below size d) [])) ≡ size
        total =
            let one = padding-width (size - (bits_below size d + bits_within a.width size d)) (read_of signals a size d ∷ before_of (bits_below size d) []) in
            let two = sum_by-cons (λ part. part.width) (read_of signals a size d) (before_of (bits_below size d) []) in
            let three : sizing.joined_width (before_of (bits_below size d) []) ≡ bits_below size d + 0 = padding-width (bits_below size d) [] in
            omega (arith, one, two, three, bits-fit a.width size d some)

        meaning : (V : Valuation)
            → joined_value 0 (before_of (size - (bits_below size d + bits_within a.width size d)) (read_of signals a size d ∷ before_of (bits_below size d) [])) V
            ≡ number size (far_bit (addressed_bits a V) a.width d)
        meaning V =
            let word = number (bits_within a.width size d) (λ i. addressed_bits a V (start_within d + i)) in
            let nothing : 0 * 2 ^ bits_within a.width size d + word ≡ word = omega arith in
            padding-left (size - (bits_below size d + bits_within a.width size d)) (read_of signals a size d ∷ before_of (bits_below size d) []) V
            ∙ ap (λ n. joined_value n (before_of (bits_below size d) []) V) nothing
            ∙ padding-right (bits_below size d) word V
            ∙ values V
