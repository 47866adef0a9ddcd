-- The first map shows what a cycle begins with: samples, register states, and 0.
use Rattle.std.proofs.Common.{◌≡◌, ℕ, zero, suc, ◌+◌, ◌<◌, ◌≤◌, Bool, true, false, not, List, [], ◌∷◌, ◌++◌, length, get_or, Some, refl, sym, ◌∙◌, ap, ap₂, subst, arith, append_assoc, length-append, ◌⊎◌, inl, inr}
use Rattle.std.specs.Prelude.{◌&&◌, ◌||◌, ◌==◌, if◌then◌else◌, slice_get}
use Rattle.std.specs.List.{list_all, list_any}
use Rattle.std.proofs.lemmas.Bool.{lt-ltb, eqb-true, cases_lt}
use Rattle.std.proofs.lemmas.Nat.{pow_pos}
use Rattle.std.proofs.lemmas.Nat.Bits.{bit_at-zero}
use Rattle.std.proofs.lemmas.Option.{get_or_from_slice_get}
use Rattle.std.proofs.lemmas.List.{get_or_append_left}
use Rattle.std.proofs.Math.Seq.{get_or-append_seam}
use Rattle.loc_base.specs.declared.bits.Bits.{Bits}
use Rattle.design_core.specs.declared.design.Design.{Design}
use Rattle.design_core.specs.Valuation.{Valuation, bit, number, width_at}
use Rattle.design_core.specs.After.{Choice}
use Rattle.design_core.specs.Drives.{is_register_bit, is_listed}
use Rattle.design_core.specs.Cycle.{sampled, before}
use Rattle.design_core.specs.WellFormed.{is_width, signal_fits, is_signal}
use Rattle.design_core.proofs.NumberLaws.{number-zero, number-suc, number-below, number-same}
use Rattle.word_net.specs.declared.node.Operation.TheVariants as operation
use Rattle.word_net.specs.declared.node.WordNode.{WordNode}
use Rattle.word_net.specs.Values.{Source}
use Rattle.word_net.specs.Build.{Made, made, pushed, Means, Grown, Gives}
use Rattle.word_net.proofs.Meaning.{keep, grown-then, grown-none, pushed-gives}
use Rattle.synth_parts.specs.Expression.{unsigned}
use Rattle.v_synth.specs.Clocked.{register_mask, has_state, place_in, inputs_made, masked_made, state_made, first_made, signals_made, begun_made}
use Rattle.v_synth.specs.Net.{states_from, states_of, cycle_source}
use Rattle.synth_parts.specs.Meaning.{ShowsIn, word_of}
use Rattle.synth_parts.proofs.Base.{signal-at, bit-number, gives-then, gives-is}

-- ---- numbers of no bits

zero-bit : (b : ℕ) → bit 0 b ≡ false
zero-bit b = ap (λ n. n == 1) (bit_at-zero b)

number-none : (w : ℕ) → number w (λ b. false) ≡ 0
number-none zero = number-zero (λ b. false)
number-none (suc w) = number-suc w (λ b. false) ∙ ap (λ n. n + 0) (number-none w)

-- bits whose number is 0 are false
pub no-bits : (w : ℕ) (f : ℕ → Bool) (b : ℕ) → (number w f == 0) ≡ true → b < w → f b ≡ false
no-bits w f b none low = sym (bit-number w f b low) ∙ ap (λ n. bit n b) (eqb-true (number w f) 0 none) ∙ zero-bit b

-- ---- the register bits of a word
pub masked-law : {e : Source} {nodes : List WordNode} {word : ℕ} (d : Design) (s : ℕ) (f : ℕ → Bool) → is_width (width_at d.signals.items s) ≡ true
    → Means e nodes word (width_at d.signals.items s) (number (width_at d.signals.items s) f)
    → Gives e nodes (masked_made d nodes s word) (width_at d.signals.items s) (number (width_at d.signals.items s) (λ b. is_register_bit d s b && f b))
unfolding masked_made
masked-law {e} {nodes} {word} d s f wide m =
    let w : ℕ = width_at d.signals.items s in
    let none = pushed-gives e nodes w (operation.Const 0) 0 wide (pow_pos w) refl in
    let mn : Made = pushed nodes w (operation.Const 0) in
    let kept = keep none.grown m in
    gives-then none.grown
    (pushed-gives e mn.nodes w (operation.Blend (register_mask d s) (unsigned word w) (unsigned mn.node w)) (number w (λ b. is_register_bit d s b && f b)) wide
    (record { there = kept.there; wide = refl }, record { there = none.means.there; wide = refl }, number-below w (is_register_bit d s))
    (ap₂ (λ x y. number w (λ b. if bit (register_mask d s) b then bit x b else bit y b)) kept.is none.means.is
    ∙ number-same w (λ b. if bit (register_mask d s) b then bit (number w f) b else bit 0 b) (λ b. is_register_bit d s b && f b)
    (λ b low. ap (λ t. if t then bit (number w f) b else bit 0 b) (bit-number w (is_register_bit d s) b low)
    ∙ ap₂ (λ x y. if is_register_bit d s b then x else y) (bit-number w f b low) (zero-bit b) ∙ as_and (is_register_bit d s b) (f b))))
  where
    as_and : (x y : Bool) → (if x then y else false) ≡ (x && y)
    as_and true y = refl
    as_and false y = refl

-- ---- inputs

-- the node of each input, the first of which has the number `place`
record AreInputs (e : Source) (d : Design) (v : ℕ → ℕ) (nodes : List WordNode) (place : ℕ) (inputs : List ℕ) (after : List WordNode) : Type 0 where
  grown : Grown nodes after
  are : (i s : ℕ) → slice_get inputs i ≡ Some s → Means e after (place + i) (width_at d.signals.items s) (v s)

inputs-law : {e : Source} (d : Design) (v : ℕ → ℕ) (inputs : List ℕ) (nodes : List WordNode) (place : ℕ) → length nodes ≡ place
    → ((i s : ℕ) → slice_get inputs i ≡ Some s → (e.inputs (place + i) ≡ v s) × (is_width (width_at d.signals.items s) ≡ true))
    → AreInputs e d v nodes place inputs (inputs_made d nodes place inputs)
unfolding inputs_made pushed
inputs-law {e} d v [] nodes place long given = record { grown = grown-none nodes; are = λ i s at. absurd (nothing i s at) }
  where
    nothing : (i s : ℕ) → slice_get [] i ≡ Some s → ⊥
    nothing i s at = cc
inputs-law {e} d v (input ∷ inputs) nodes place long given =
    let w : ℕ = width_at d.signals.items input in
    let here = given 0 input refl in
    let same : place + 0 ≡ place = omega arith in
    let g = pushed-gives e nodes w (operation.Input place) (v input) here.1 tt (ap e.inputs (sym same) ∙ here.0) in
    let m : Made = pushed nodes w (operation.Input place) in
    let rest = inputs-law {e = e} d v inputs m.nodes (place + 1) (omega (arith, long, length-append nodes (record { width = w; operation = operation.Input place } ∷ [])))
    (λ i s at. let next : place + 1 + i ≡ place + suc i = omega arith in let more = given (suc i) s at in (ap e.inputs next ∙ more.0, more.1)) in
    record { grown = grown-then g.grown rest.grown; are = λ i s at. each rest.are (keep rest.grown g.means) i s at }
  where
    each : ((i s : ℕ) → slice_get inputs i ≡ Some s → Means e (inputs_made d (pushed nodes (width_at d.signals.items input) (operation.Input place)).nodes (place + 1) inputs) (place + 1 + i) (width_at d.signals.items s) (v s))
        → Means e (inputs_made d (pushed nodes (width_at d.signals.items input) (operation.Input place)).nodes (place + 1) inputs) (length nodes) (width_at d.signals.items input) (v input)
        → (i s : ℕ) → slice_get (input ∷ inputs) i ≡ Some s
        → Means e (inputs_made d (pushed nodes (width_at d.signals.items input) (operation.Input place)).nodes (place + 1) inputs) (place + i) (width_at d.signals.items s) (v s)
    each later first zero s at =
        let same : input ≡ s = cc in
        let number_is : length nodes ≡ place + 0 = omega (arith, long) in
        subst (λ t. Means e (inputs_made d (pushed nodes (width_at d.signals.items input) (operation.Input place)).nodes (place + 1) inputs) (place + 0) (width_at d.signals.items t) (v t)) same
        (subst (λ n. Means e (inputs_made d (pushed nodes (width_at d.signals.items input) (operation.Input place)).nodes (place + 1) inputs) n (width_at d.signals.items input) (v input)) number_is first)
    each later first (suc i) s at =
        let next : place + 1 + i ≡ place + suc i = omega arith in
        subst (λ n. Means e (inputs_made d (pushed nodes (width_at d.signals.items input) (operation.Input place)).nodes (place + 1) inputs) n (width_at d.signals.items s) (v s)) next (later i s at)

-- the place of a number that stands in a list
place-in : (inputs : List ℕ) (s : ℕ) → list_any (λ input. input == s) inputs ≡ true → slice_get inputs (place_in inputs s) ≡ Some s
place-in [] s some = cc
place-in (input ∷ inputs) s some = at (input == s) refl some (λ later. place-in inputs s later)
  where
    at : (t : Bool) → (input == s) ≡ t → (t || list_any (λ input. input == s) inputs) ≡ true
        → (list_any (λ input. input == s) inputs ≡ true → slice_get inputs (place_in inputs s) ≡ Some s) → slice_get (input ∷ inputs) (if t then 0 else suc (place_in inputs s)) ≡ Some s
    at true is some later = ap Some (eqb-true input s is)
    at false is some later = later some

-- ---- signals

-- one signal
first-law : {nodes : List WordNode} (d : Design) (samples : List Bits) (state : Valuation) (choice : Choice) (s number_of : ℕ) → list_all signal_fits d.signals.items ≡ true → s < length d.signals.items
    → ((i t : ℕ) → slice_get d.inputs.items i ≡ Some t → Means (cycle_source d samples state choice) nodes i (width_at d.signals.items t) (number (width_at d.signals.items t) (sampled d.inputs.items samples t)))
    → (has_state d s ≡ true → get_or (states_of d) number_of 0 ≡ s)
    → Gives (cycle_source d samples state choice) nodes (first_made d nodes s number_of) (width_at d.signals.items s) (word_of d.signals.items (before d samples state) s)
unfolding first_made state_made
first-law {nodes} d samples state choice s number_of own there inputs numbered = at (is_listed d s) refl (has_state d s) refl
  where
    e : Source
    e = cycle_source d samples state choice

    w : ℕ
    w = width_at d.signals.items s

    wide : is_width w ≡ true
    wide = (signal-at d.signals.items s own (lt-ltb s (length d.signals.items) there)).0

    not-none : (x : Bool) → not x ≡ false → x ≡ true
    not-none true h = refl
    not-none false h = cc

    at : (t : Bool) → is_listed d s ≡ t → (u : Bool) → has_state d s ≡ u
        → Gives e nodes (if t then made nodes (place_in d.inputs.items s) else (if u then masked_made d (pushed nodes w (operation.State number_of)).nodes s (pushed nodes w (operation.State number_of)).node else pushed nodes w (operation.Const 0))) w
        (number w (λ b. if is_listed d s then sampled d.inputs.items samples s b else is_register_bit d s b && state s b))
    at true listed u has =
        let m = inputs (place_in d.inputs.items s) s (place-in d.inputs.items s listed) in
        record {
          grown = grown-none nodes;
          means = subst (λ v. Means e nodes (place_in d.inputs.items s) w v)
              (number-same w (sampled d.inputs.items samples s) (λ b. if is_listed d s then sampled d.inputs.items samples s b else is_register_bit d s b && state s b)
              (λ b low. ap (λ t. if t then sampled d.inputs.items samples s b else is_register_bit d s b && state s b) (sym listed))) m;
        }
    at false listed true has =
        let g = pushed-gives e nodes w (operation.State number_of) (number w (state s)) wide tt (ap (λ t. number (width_at d.signals.items t) (state t)) (numbered has)) in
        gives-is (number-same w (λ b. is_register_bit d s b && state s b) (λ b. if is_listed d s then sampled d.inputs.items samples s b else is_register_bit d s b && state s b)
        (λ b low. ap (λ t. if t then sampled d.inputs.items samples s b else is_register_bit d s b && state s b) (sym listed)))
        (gives-then g.grown (masked-law d s (state s) wide g.means))
    at false listed false has =
        let none : (register_mask d s == 0) ≡ true = not-none (register_mask d s == 0) has in
        pushed-gives e nodes w (operation.Const 0) (number w (λ b. if is_listed d s then sampled d.inputs.items samples s b else is_register_bit d s b && state s b)) wide (pow_pos w)
        (sym (number-same w (λ b. if is_listed d s then sampled d.inputs.items samples s b else is_register_bit d s b && state s b) (λ b. false)
        (λ b low. ap (λ t. if t then sampled d.inputs.items samples s b else is_register_bit d s b && state s b) listed
        ∙ ap (λ t. t && state s b) (no-bits w (is_register_bit d s) b none low))
        ∙ number-none w))

signals-law : (d : Design) (samples : List Bits) (state : Valuation) (choice : Choice) (more : ℕ) {nodes : List WordNode} (nodes_of : List ℕ) (number_of s : ℕ) (prefix : List ℕ)
    → list_all signal_fits d.signals.items ≡ true → s + more ≡ length d.signals.items
    → ((i t : ℕ) → slice_get d.inputs.items i ≡ Some t → Means (cycle_source d samples state choice) nodes i (width_at d.signals.items t) (number (width_at d.signals.items t) (sampled d.inputs.items samples t)))
    → states_of d ≡ prefix ++ states_from d s more → length prefix ≡ number_of → length nodes_of ≡ s
    → ((r : ℕ) → r < s → Means (cycle_source d samples state choice) nodes (get_or nodes_of r 0) (width_at d.signals.items r) (word_of d.signals.items (before d samples state) r))
    → ShowsIn (cycle_source d samples state choice) d.signals.items nodes (signals_made d nodes nodes_of number_of s more) (before d samples state)
unfolding signals_made
signals-law d samples state choice zero {nodes} nodes_of number_of s prefix own all inputs states long each are =
    record { grown = grown-none nodes; shows = record { each = omega (arith, each, all); are = λ r within. are r (omega (arith, within, all)) } }
signals-law d samples state choice (suc more) {nodes} nodes_of number_of s prefix own all inputs states long each are =
    let e : Source = cycle_source d samples state choice in
    let there : s < length d.signals.items = omega (arith, all) in
    let m : Made = first_made d nodes s number_of in
    let g = first-law d samples state choice s number_of own there inputs (λ has. numbered (has_state d s) refl has) in
    let (next_prefix, next_states, next_long) = next (has_state d s) refl in
    let rest = signals-law d samples state choice more (nodes_of ++ m.node ∷ []) (if has_state d s then number_of + 1 else number_of) (s + 1) next_prefix own (omega (arith, all))
    (λ i t at. keep g.grown (inputs i t at)) next_states next_long (omega (arith, length-append nodes_of (m.node ∷ []), each))
    (λ r low. here m.nodes m.node g.grown g.means r (cases_lt r s) low) in
    record { grown = grown-then g.grown rest.grown; shows = rest.shows }
  where
    e : Source
    e = cycle_source d samples state choice

    numbered : (t : Bool) → has_state d s ≡ t → t ≡ true → get_or (states_of d) number_of 0 ≡ s
    numbered true is yes_state =
        ap (λ xs. get_or xs number_of 0) states
        ∙ ap (λ t. get_or (prefix ++ (if t then s ∷ states_from d (s + 1) more else states_from d (s + 1) more)) number_of 0) is
        ∙ ap (λ n. get_or (prefix ++ s ∷ states_from d (s + 1) more) n 0) (sym long)
        ∙ get_or-append_seam prefix s (states_from d (s + 1) more) 0
    numbered false is yes_state = cc

    next : (t : Bool) → has_state d s ≡ t → (p : List ℕ) × (states_of d ≡ p ++ states_from d (s + 1) more) × (length p ≡ (if has_state d s then number_of + 1 else number_of))
    next true is = (
      prefix ++ s ∷ [],
      states ∙ ap (λ t. prefix ++ (if t then s ∷ states_from d (s + 1) more else states_from d (s + 1) more)) is ∙ sym (append_assoc prefix (s ∷ []) (states_from d (s + 1) more)),
      rw is (omega (arith, length-append prefix (s ∷ []), long)),
    )
    next false is =
        (prefix, states ∙ ap (λ t. prefix ++ (if t then s ∷ states_from d (s + 1) more else states_from d (s + 1) more)) is, rw is long)

    here : (after : List WordNode) (n : ℕ) → Grown nodes after → Means e after n (width_at d.signals.items s) (word_of d.signals.items (before d samples state) s)
        → (r : ℕ) → (r < s) ⊎ (s ≤ r) → r < s + 1 → Means e after (get_or (nodes_of ++ n ∷ []) r 0) (width_at d.signals.items r) (word_of d.signals.items (before d samples state) r)
    here after n grown m r (inl low) below =
        subst (λ k. Means e after k (width_at d.signals.items r) (word_of d.signals.items (before d samples state) r)) (sym (get_or_append_left nodes_of (n ∷ []) 0 r (omega (arith, low, each)))) (keep grown (are r low))
    here after n grown m r (inr high) below =
        let same : s ≡ r = omega (arith, high, below) in
        let last : get_or (nodes_of ++ n ∷ []) s 0 ≡ n = ap (λ k. get_or (nodes_of ++ n ∷ []) k 0) (sym each) ∙ get_or-append_seam nodes_of n [] 0 in
        subst (λ t. Means e after (get_or (nodes_of ++ n ∷ []) t 0) (width_at d.signals.items t) (word_of d.signals.items (before d samples state) t)) same
        (subst (λ k. Means e after k (width_at d.signals.items s) (word_of d.signals.items (before d samples state) s)) (sym last) m)

-- inputs, then signals
pub begun-law : (d : Design) (samples : List Bits) (state : Valuation) (choice : Choice) → list_all signal_fits d.signals.items ≡ true
    → ((i s : ℕ) → slice_get d.inputs.items i ≡ Some s → is_signal d.signals.items s ≡ true)
    → ShowsIn (cycle_source d samples state choice) d.signals.items [] (begun_made d) (before d samples state)
unfolding begun_made
begun-law d samples state choice own inputs =
    let v : ℕ → ℕ = λ s. number (width_at d.signals.items s) (sampled d.inputs.items samples s) in
    let i = inputs-law {e = cycle_source d samples state choice} d v d.inputs.items [] 0 refl
    (λ i s at. let plain : 0 + i ≡ i = omega arith in
    (ap (λ k. v (get_or d.inputs.items k 0)) plain ∙ ap v (get_or_from_slice_get d.inputs.items i s 0 at), (signal-at d.signals.items s own (inputs i s at)).0)) in
    let all = signals-law d samples state choice (length d.signals.items) [] 0 0 [] own (omega arith)
    (λ k s at. let plain : 0 + k ≡ k = omega arith in
    subst (λ n. Means (cycle_source d samples state choice) (inputs_made d [] 0 d.inputs.items) n (width_at d.signals.items s) (v s)) plain (i.are k s at))
    refl refl refl (λ r low. absurd (omega (arith, low))) in
    record { grown = grown-then i.grown all.grown; shows = all.shows }
