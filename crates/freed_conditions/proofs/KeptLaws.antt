-- What keeps a condition's value leaves the design's own bits, and where its place isn't freed, the net means what the condition does.
use Rattle.std.proofs.Common.{ℕ, ◌+◌, ◌-◌, ◌%◌, ◌^◌, ◌≡◌, ◌<◌, ◌≤◌, Bool, true, false, ◌&&◌, List, ◌++◌, length, refl, ap, ◌∙◌, sym, arith}
use Rattle.std.specs.Prelude.{◌==◌, nat_lt, nat_le}
use Rattle.std.proofs.lemmas.Bool.{and_parts, and_from, and_left, eq-eqb, ne_eqb, le-leb, lt-ltb, cond-true, cond-false}
use Rattle.std.proofs.Math.Nat.{mod-eq_of_lt}
use Rattle.design_core.specs.declared.signal.Signal.{Signal}
use Rattle.design_core.specs.declared.expression.Typed.{Typed}
use Rattle.design_core.specs.declared.expression.Node.{Node, end_of-Typed, more_of-Typed}
use Rattle.design_core.specs.declared.expression.Node.TheVariants.{Resize'}
use Rattle.design_core.specs.Valuation.{Valuation, bit, number, width_at}
use Rattle.design_core.specs.Operator.{is_true, one_if, resized}
use Rattle.design_core.specs.Value.{node_value, value}
use Rattle.design_core.specs.Store.{with_bits}
use Rattle.design_core.specs.After.{Choice, assigned, Updates, after}
use Rattle.design_core.specs.WellFormed.{is_width, node_fits, typed_fits}
use Rattle.design_core.proofs.NumberLaws.{number-same, number-bit}
use Rattle.design_core.proofs.ValueRange.{value-in_range}
use Rattle.freed_conditions.specs.Kept.{Next, truth, whole, kept, from_kept, kept_of, subject_of, keep}
use Rattle.freed_conditions.specs.Alike.{AgreeBelow, Alike}
use Rattle.freed_conditions.proofs.ValueAlike.{value-alike}

-- a bit of the whole signal that is stored
stored-bit : (M : Valuation) (h width : ℕ) (bits : ℕ → Bool) (b : ℕ) → b < width → with_bits M h 0 width (λ k. bits (0 + k)) h b ≡ bits b
stored-bit M h width bits b below =
    let within : (h == h && nat_le 0 b && nat_lt b (0 + width)) ≡ true =
    and_from (h == h && nat_le 0 b) (nat_lt b (0 + width)) (and_from (h == h) (nat_le 0 b) (eq-eqb h h refl) (le-leb 0 b (omega arith))) (lt-ltb b (0 + width) (omega arith)) in
    let at : 0 + (b - 0) ≡ b = omega arith in
    cond-true (h == h && nat_le 0 b && nat_lt b (0 + width)) (bits (0 + (b - 0))) (M h b) within ∙ ap bits at

-- a bit of another signal
other-bit : (M : Valuation) (h width : ℕ) (bits : ℕ → Bool) (s b : ℕ) → (s ≡ h → ⊥) → with_bits M h 0 width bits s b ≡ M s b
other-bit M h width bits s b other =
    cond-false (s == h && nat_le 0 b && nat_lt b (0 + width)) (bits (b - 0)) (M s b)
    (and_left (s == h && nat_le 0 b) (nat_lt b (0 + width)) (and_left (s == h) (nat_le 0 b) (ne_eqb s h other)))

-- the net holds what its place assigns
pub keep-value : (signals : List Signal) (choice : Choice) (n : Next) (e : Typed) (m : Updates) (width : ℕ) → width_at signals n.signal ≡ width
    → number width ((after signals choice (keep n e) m).now n.signal) ≡ assigned choice n.place (value signals m.now e) % 2 ^ width
keep-value signals choice n e m width is =
    let v : ℕ = assigned choice n.place (value signals m.now e) in
    number-same width ((after signals choice (keep n e) m).now n.signal) (bit v)
    (λ b below. ap (λ w. with_bits m.now n.signal 0 w (λ k. bit v (0 + k)) n.signal b) is ∙ stored-bit m.now n.signal width (bit v) b below)
    ∙ number-bit width v

-- and the bits of the signals before it are left
pub keep-alike : (signals : List Signal) (choice : Choice) (n : Next) (e : Typed) (count : ℕ) (m m' : Updates) → count ≤ n.signal
    → Alike count m' m → Alike count (after signals choice (keep n e) m') m
keep-alike signals choice n e count m m' above agree = record {
  now = record {
    same = λ s b below.
        other-bit m'.now n.signal (width_at signals n.signal) (λ k. bit (assigned choice n.place (value signals m'.now e)) (0 + k)) s b
        (λ here. absurd (omega arith)) ∙ agree.now.same s b below;
  };
  later = agree.later;
}

-- what a place that isn't freed assigns is what is computed
pub unfreed-assigned : (choice : Choice) (p v : ℕ) → choice.frees p ≡ false → assigned choice p v ≡ v
unfreed-assigned choice p v is = cond-false (choice.frees p) (choice.chosen p) v is

-- the arm that the net of a condition names is that of the value that its place assigns
pub kept_arm : (signals : List Signal) (choice : Choice) (n : Next) (e : Typed) (m : Updates) → width_at signals n.signal ≡ 1
    → is_true (value signals (after signals choice (keep n (truth e)) m).now (whole 1 false n.signal))
    ≡ is_true (assigned choice n.place (value signals m.now (truth e)) % 2 ^ 1)
kept_arm signals choice n e m is = ap is_true (keep-value signals choice n (truth e) m 1 is)

truth-bit : (t : Bool) → is_true (one_if t % 2 ^ 1) ≡ t
truth-bit true = refl
truth-bit false = refl

-- where the place isn't freed, it is the arm that the condition names
pub same_arm : (signals : List Signal) (choice : Choice) (n : Next) (e : Typed) (m : Updates) → width_at signals n.signal ≡ 1 → choice.frees n.place ≡ false
    → is_true (value signals (after signals choice (keep n (truth e)) m).now (whole 1 false n.signal)) ≡ is_true (value signals m.now e)
same_arm signals choice n e m is unfreed =
    kept_arm signals choice n e m is
    ∙ ap (λ v. is_true (v % 2 ^ 1)) (unfreed-assigned choice n.place (value signals m.now (truth e)) unfreed)
    ∙ truth-bit (is_true (value signals m.now e))

pub kept-fits : (signals : List Signal) (width : ℕ) (signed : Bool) (e : Node) → node_fits signals width signed e ≡ true → typed_fits signals (kept width signed e) ≡ true
kept-fits signals width signed (Resize' _ (more_of-Typed arg_width arg_signed arg end_of-Typed)) fits = (and_parts (is_width width) (node_fits signals arg_width arg_signed arg) fits).1
kept-fits signals width signed _ fits = fits

-- a subject goes by the net where that holds what is kept of it
pub from_kept-value : (signals : List Signal) (V : Valuation) (width : ℕ) (signed : Bool) (e : Node) (h : ℕ) (W : Valuation)
    → number (kept width signed e).width (V h) ≡ value signals W (kept width signed e)
    → value signals V (from_kept width signed e h) ≡ node_value signals W width e
from_kept-value signals V width signed (Resize' _ (more_of-Typed arg_width arg_signed arg end_of-Typed)) h W same = ap (resized width arg_signed arg_width) same
from_kept-value signals V width signed _ h W same = same

-- the same of the design's own signals, which are below the net
pub same_subject : (signals hidden : List Signal) (choice : Choice) (n : Next) (subject : Typed) (m m' : Updates) → typed_fits signals subject ≡ true
    → width_at (signals ++ hidden) n.signal ≡ (kept_of subject).width → choice.frees n.place ≡ false → AgreeBelow (length signals) m'.now m.now
    → value (signals ++ hidden) (after (signals ++ hidden) choice (keep n (kept_of subject)) m').now (subject_of subject n.signal) ≡ value signals m.now subject
same_subject signals hidden choice n subject m m' fits is unfreed agree =
    let more : List Signal = signals ++ hidden in
    let e : Typed = kept_of subject in
    let own : typed_fits signals e ≡ true = kept-fits signals subject.width subject.signed subject.node fits in
    let same : value more m'.now e ≡ value signals m.now e = value-alike signals hidden m'.now m.now e own agree in
    let range : value signals m.now e < 2 ^ e.width = value-in_range signals m.now e own in
    let small : value signals m.now e % 2 ^ e.width ≡ value signals m.now e = mod-eq_of_lt range in
    let holds : number e.width ((after more choice (keep n e) m').now n.signal) ≡ value more m'.now e =
    keep-value more choice n e m' e.width is
    ∙ ap (λ v. v % 2 ^ e.width) (unfreed-assigned choice n.place (value more m'.now e) unfreed ∙ same)
    ∙ small ∙ sym same in
    from_kept-value more (after more choice (keep n e) m').now subject.width subject.signed subject.node n.signal m'.now holds
    ∙ value-alike signals hidden m'.now m.now subject fits agree
