-- Signals, the numbers that their bits mean, and nodes that are made one after another.
use Rattle.std.proofs.Common.{◌≡◌, ℕ, zero, suc, ◌+◌, ◌-◌, ◌*◌, ◌^◌, ◌<◌, ◌≤◌, Bool, true, false, List, length, refl, sym, ◌∙◌, ap, subst, arith, ◌⊎◌, inl, inr}
use Rattle.std.specs.Prelude.{nat_le, ◌&&◌, ◌==◌, if◌then◌else◌}
use Rattle.std.specs.List.{list_all}
use Rattle.std.specs.Int.{bit_at}
use Rattle.std.proofs.lemmas.Bool.{and_parts, and_from, ltb-true, leb-true, le-leb, cases_lt}
use Rattle.std.proofs.lemmas.Nat.Bits.{bit_at_cat_low, bit_at_cat_high}
use Rattle.loc_base.proofs.ShelfLists.{slice_get-some, Contains-at}
use Rattle.design_core.specs.declared.signal.Signal.{Signal}
use Rattle.design_core.specs.Valuation.{Valuation, bit, number, width_at, distance_of}
use Rattle.design_core.specs.Operator.{is_true, one_if}
use Rattle.design_core.specs.WellFormed.{is_width, spans, signal_fits, is_signal}
use Rattle.design_core.proofs.Widened.{list_all-member}
use Rattle.design_core.proofs.NumberLaws.{number-suc, number-below, number-same}
use Rattle.word_net.specs.declared.node.WordNode.{WordNode}
use Rattle.word_net.specs.Values.{Source}
use Rattle.word_net.specs.Build.{Made, Grown, Gives}
use Rattle.word_net.proofs.Meaning.{keep, grown-then}
use Rattle.synth_parts.specs.Expression.{left_at, right_at}
use Rattle.synth_parts.specs.Meaning.{Shows, ShowsBoth}
use Rattle.design_core.specs.After.{Updates}

-- ---- signals

-- a signal's width and range fit
pub signal-at : (signals : List Signal) (s : ℕ) → list_all signal_fits signals ≡ true → is_signal signals s ≡ true
    → (is_width (width_at signals s) ≡ true) × (spans (width_at signals s) (distance_of (left_at signals s) (right_at signals s) (left_at signals s)) ≡ true)
signal-at signals s fit there =
    let (signal, at) = slice_get-some signals s (ltb-true s (length signals) there) in
    let own = list_all-member signal_fits signals signal fit (Contains-at signals s signal at) in
    let both = and_parts (is_width signal.width && spans signal.width (distance_of signal.left signal.right signal.left)) _ own in
    let parts = and_parts (is_width signal.width) (spans signal.width (distance_of signal.left signal.right signal.left)) both.0 in
    rw at (parts.0, parts.1)

-- ---- numbers and their bits

same-bit : (x b y c : ℕ) → bit_at x b ≡ bit_at y c → bit x b ≡ bit y c
same-bit x b y c e = ap (λ n. n == 1) e

-- a bit of the number that some bits mean
pub bit-number : (w : ℕ) (f : ℕ → Bool) (b : ℕ) → b < w → bit (number w f) b ≡ f b
bit-number zero f b h = absurd (omega (arith, h))
bit-number (suc w) f b h = ap (λ n. bit n b) (number-suc w f) ∙ at (f w) refl (cases_lt b w) (λ low. bit-number w f b low)
  where
    high : (x : Bool) → f w ≡ x → number w f + (if x then 2 ^ w else 0) ≡ (if x then 1 else 0) * 2 ^ w + number w f
    high true e = omega arith
    high false e = omega arith

    lowest : (x : Bool) → bit (if x then 1 else 0) 0 ≡ x
    lowest true = refl
    lowest false = refl

    at : (x : Bool) → f w ≡ x → (b < w) ⊎ (w ≤ b) → (b < w → bit (number w f) b ≡ f b) → bit (number w f + (if x then 2 ^ w else 0)) b ≡ f b
    at x e (inl low) below =
        ap (λ n. bit n b) (high x e) ∙ same-bit ((if x then 1 else 0) * 2 ^ w + number w f) b (number w f) b (bit_at_cat_low (if x then 1 else 0) w (number w f) b low) ∙ below low
    at x e (inr top) below =
        let here : b ≡ w = omega (arith, h, top) in
        let none : b - w ≡ 0 = omega (arith, here) in
        ap (λ n. bit n b) (high x e)
        ∙ same-bit ((if x then 1 else 0) * 2 ^ w + number w f) b (if x then 1 else 0) 0
        (bit_at_cat_high (if x then 1 else 0) w (number w f) b (number-below w f) top ∙ ap (λ k. bit_at (if x then 1 else 0) k) none)
        ∙ lowest x ∙ sym e ∙ sym (ap f here)

-- the number that bits of a number mean, where all of them are below its width
pub number-bits : (w u from : ℕ) (f : ℕ → Bool) → from + u ≤ w → number u (λ b. bit (number w f) (from + b)) ≡ number u (λ b. f (from + b))
number-bits w u from f within = number-same u (λ b. bit (number w f) (from + b)) (λ b. f (from + b)) (λ b low. bit-number w f (from + b) (omega (arith, within, low)))

-- a truth value is true where it says so
pub true-one_if : (b : Bool) → is_true (one_if b) ≡ b
true-one_if true = refl
true-one_if false = refl

-- ---- nodes

-- nodes that are made in two steps
pub gives-then : {e : Source} {nodes mid : List WordNode} {m : Made} {w v : ℕ} → Grown nodes mid → Gives e mid m w v → Gives e nodes m w v
gives-then first next = record { grown = grown-then first next.grown; means = next.means }

-- the same with another value that is equal
pub gives-is : {e : Source} {nodes : List WordNode} {m : Made} {w v u : ℕ} → v ≡ u → Gives e nodes m w v → Gives e nodes m w u
gives-is {e} {nodes} {m} {w} same g = subst (λ n. Gives e nodes m w n) same g

-- a map keeps what it shows as the net grows
pub keep-shows : {e : Source} {signals : List Signal} {before after : List WordNode} {nodes_of : List ℕ} {V : Valuation}
    → Grown before after → Shows e signals before nodes_of V → Shows e signals after nodes_of V
keep-shows grown s = record { each = s.each; are = λ i within. keep grown (s.are i within) }

pub keep-both : {e : Source} {signals : List Signal} {nodes after : List WordNode} {now later : List ℕ} {u : Updates}
    → Grown nodes after → ShowsBoth e signals (record { nodes = nodes; now = now; later = later }) u
    → ShowsBoth e signals (record { nodes = after; now = now; later = later }) u
keep-both grown s = record { now = keep-shows grown s.now; later = keep-shows grown s.later }

-- ---- widths

pub width-bounds : (w : ℕ) → is_width w ≡ true → (1 ≤ w) × (w ≤ 128)
width-bounds w wide = let b = and_parts (nat_le 1 w) (nat_le w 128) wide in (leb-true 1 w b.0, leb-true w 128 b.1)

pub width-within : (w : ℕ) → 1 ≤ w → w ≤ 128 → is_width w ≡ true
width-within w low high = and_from (nat_le 1 w) (nat_le w 128) (le-leb 1 w low) (le-leb w 128 high)
