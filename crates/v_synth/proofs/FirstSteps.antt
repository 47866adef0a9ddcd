-- Steps of the first map: the places of inputs, and the signals one after another.
use Rattle.std.proofs.Common.{◌≡◌, ◌≢◌, ℕ, suc, ◌+◌, ◌-◌, ◌<◌, ◌≤◌, Bool, true, false, not, List, [], ◌∷◌, ◌++◌, length, get_or, set, drop, replicate, Option, Some, None, refl, sym, ◌∙◌, ap, ap₂, subst, arith, drop-cons, length-append, append_assoc, append-nil, ◌⊎◌, inl, inr}
use Rattle.std.specs.Prelude.{◌==◌, ◌||◌, if◌then◌else◌}
use Rattle.std.specs.List.{list_any}
use Rattle.std.proofs.lemmas.Bool.{eq-eqb, cases_eq}
use Rattle.std.proofs.lemmas.List.{drop_all, get_or-set_same, get_or-set_other, length-set, get_or-replicate}
use Rattle.loc_base.proofs.ShelfBools.{equal-false}
use Rattle.design_core.specs.declared.design.Design.{Design}
use Rattle.design_core.specs.Valuation.{width_at}
use Rattle.design_core.specs.Drives.{is_listed}
use Rattle.word_net.specs.declared.node.Operation.TheVariants as operation
use Rattle.word_net.specs.declared.node.WordNode.{WordNode}
use Rattle.word_net.specs.Build.{Made, made, pushed}
use Rattle.synth_parts.specs.Store.{nodes_made}
use Rattle.v_synth.specs.Clocked.{register_mask, has_state, place_in, state_made, first_made, inputs_made, signals_made, begun_made}
use Rattle.v_synth.specs.Net.{states_from, states_of}
use Rattle.v_synth.specs.Rows.{place_from, ArePlaces}

-- ---- places of inputs

place-is : (k : ℕ) (inputs : List ℕ) (s : ℕ) → place_from k inputs s ≡ (if list_any (λ input. input == s) inputs then Some (k + place_in inputs s) else None)
place-is k [] s = refl
place-is k (input ∷ inputs) s = at (input == s) (place-is (k + 1) inputs s)
  where
    at : (t : Bool) → place_from (k + 1) inputs s ≡ (if list_any (λ i. i == s) inputs then Some (k + 1 + place_in inputs s) else None)
        → (if t then Some k else place_from (k + 1) inputs s) ≡ (if t || list_any (λ i. i == s) inputs then Some (k + (if t then 0 else suc (place_in inputs s))) else None)
    at true later = let here : k ≡ k + 0 = omega arith in ap Some here
    at false later =
        let next : k + 1 + place_in inputs s ≡ k + suc (place_in inputs s) = omega arith in
        later ∙ ap (λ n. if list_any (λ i. i == s) inputs then Some n else None) next

pub places-none : (inputs : List ℕ) (count k : ℕ) → length inputs ≤ k → (row : List (Option ℕ)) → row ≡ replicate count None → length row ≡ count → ArePlaces k (drop k inputs) count row
places-none inputs count k past row is long =
    record { long = long; each = λ s within. ap (λ xs. get_or xs s None) is ∙ get_or-replicate count s None None within ∙ ap (λ xs. place_from k xs s) (sym (drop_all k inputs past)) }

pub places-next : (inputs : List ℕ) (count k : ℕ) (row : List (Option ℕ)) → k < length inputs → get_or inputs k 0 < count → ArePlaces (k + 1) (drop (k + 1) inputs) count row
    → ArePlaces k (drop k inputs) count (set row (get_or inputs k 0) (Some k))
places-next inputs count k row within inside so_far =
    record { long = length-set row (get_or inputs k 0) (Some k) ∙ so_far.long; each = λ s low. at s (cases_eq (get_or inputs k 0) s) low }
  where
    input : ℕ
    input = get_or inputs k 0

    front : drop k inputs ≡ input ∷ drop (k + 1) inputs
    front = let next : suc k ≡ k + 1 = omega arith in drop-cons inputs k 0 within ∙ ap (λ n. input ∷ drop n inputs) next

    at : (s : ℕ) → (input ≡ s) ⊎ (input ≡ s → ⊥) → s < count → get_or (set row input (Some k)) s None ≡ place_from k (drop k inputs) s
    at s (inl same) low =
        ap (λ t. get_or (set row input (Some k)) t None) (sym same) ∙ get_or-set_same row input (Some k) None (omega (arith, inside, so_far.long))
        ∙ sym (ap (λ xs. place_from k xs s) front ∙ ap (λ t. if t then Some k else place_from (k + 1) (drop (k + 1) inputs) s) (eq-eqb input s same))
    at s (inr apart) low =
        get_or-set_other row input s (Some k) None (λ e. apart (sym e)) ∙ so_far.each s low
        ∙ sym (ap (λ xs. place_from k xs s) front ∙ ap (λ t. if t then Some k else place_from (k + 1) (drop (k + 1) inputs) s) (equal-false input s apart))

-- ---- one signal

pub first-listed : (d : Design) (nodes : List WordNode) (s number place : ℕ) → Some place ≡ place_from 0 d.inputs.items s → made nodes place ≡ first_made d nodes s number
unfolding first_made
first-listed d nodes s number place is = at (is_listed d s) refl (is ∙ place-is 0 d.inputs.items s)
  where
    other : Made
    other = if has_state d s then state_made d nodes s number else pushed nodes (width_at d.signals.items s) (operation.Const 0)

    at : (t : Bool) → is_listed d s ≡ t → Some place ≡ (if is_listed d s then Some (0 + place_in d.inputs.items s) else None)
        → made nodes place ≡ (if is_listed d s then made nodes (place_in d.inputs.items s) else other)
    at true listed here =
        let found : Some place ≡ Some (0 + place_in d.inputs.items s) = here ∙ ap (λ t. if t then Some (0 + place_in d.inputs.items s) else None) listed in
        ap (made nodes) (some-same found ∙ plain) ∙ sym (ap (λ t. if t then made nodes (place_in d.inputs.items s) else other) listed)
      where
        some-same : {x y : ℕ} → Some x ≡ Some y → x ≡ y
        some-same e = ap (λ o. option_or o) e
          where
            option_or : Option ℕ → ℕ
            option_or None = 0
            option_or (Some x) = x

        plain : 0 + place_in d.inputs.items s ≡ place_in d.inputs.items s
        plain = omega arith
    at false listed here = absurd (none (here ∙ ap (λ t. if t then Some (0 + place_in d.inputs.items s) else None) listed))
      where
        none : Some place ≡ None → ⊥
        none e = cc

unlisted : (d : Design) (s : ℕ) → None ≡ place_from 0 d.inputs.items s → is_listed d s ≡ false
unlisted d s is = at (is_listed d s) refl (is ∙ place-is 0 d.inputs.items s)
  where
    at : (t : Bool) → is_listed d s ≡ t → None ≡ (if t then Some (0 + place_in d.inputs.items s) else None) → is_listed d s ≡ false
    at true listed here = absurd (none here)
      where
        none : {n : ℕ} → None ≡ Some n → ⊥
        none e = cc
    at false listed here = listed

has-state : (d : Design) (s mask : ℕ) → mask ≡ register_mask d s → mask ≢ 0 → has_state d s ≡ true
has-state d s mask is some = ap (λ m. not (m == 0)) (sym is) ∙ ap not (equal-false mask 0 some)

no-state : (d : Design) (s mask : ℕ) → mask ≡ register_mask d s → mask ≡ 0 → has_state d s ≡ false
no-state d s mask is none = ap (λ m. not (m == 0)) (sym is ∙ none)

pub first-state : (d : Design) (nodes : List WordNode) (s number mask : ℕ) (place : Option ℕ) → place ≡ place_from 0 d.inputs.items s → place ≡ None → mask ≡ register_mask d s → mask ≢ 0
    → state_made d nodes s number ≡ first_made d nodes s number
unfolding first_made
first-state d nodes s number mask place is none mask_is some =
    sym (rw (unlisted d s (sym none ∙ is)) (rw (has-state d s mask mask_is some) refl))

pub first-none : (d : Design) (nodes : List WordNode) (s number mask : ℕ) (place : Option ℕ) → place ≡ place_from 0 d.inputs.items s → place ≡ None → mask ≡ register_mask d s → mask ≡ 0
    → pushed nodes (width_at d.signals.items s) (operation.Const 0) ≡ first_made d nodes s number
unfolding first_made
first-none d nodes s number mask place is none mask_is nil =
    sym (rw (unlisted d s (sym none ∙ is)) (rw (no-state d s mask mask_is nil) refl))

pub ruleset signal_steps = (first-listed, first-state, first-none)

-- ---- all signals

pub signals-next : (d : Design) (nodes after : List WordNode) (nodes_of : List ℕ) (states s count n : ℕ) → s < count → made after n ≡ first_made d nodes s states
    → signals_made d nodes nodes_of states s (count - s) ≡ signals_made d after (nodes_of ++ n ∷ []) (if has_state d s then states + 1 else states) (s + 1) (count - (s + 1))
unfolding signals_made
signals-next d nodes after nodes_of states s count n low is =
    let left : count - s ≡ suc (count - (s + 1)) = omega (arith, low) in
    ap (signals_made d nodes nodes_of states s) left
    ∙ ap (λ (m : Made). signals_made d m.nodes (nodes_of ++ m.node ∷ []) (if has_state d s then states + 1 else states) (s + 1) (count - (s + 1))) (sym is)

pub signals-end : (d : Design) (nodes : List WordNode) (nodes_of : List ℕ) (states s count : ℕ) → s ≡ count → signals_made d nodes nodes_of states s (count - s) ≡ nodes_made nodes nodes_of
unfolding signals_made
signals-end d nodes nodes_of states s count end = let left : count - s ≡ 0 = omega (arith, end) in rw left refl

pub states-next : (d : Design) (states : List ℕ) (s count mask : ℕ) → s < count → mask ≡ register_mask d s → mask ≢ 0
    → states ++ states_from d s (count - s) ≡ (states ++ s ∷ []) ++ states_from d (s + 1) (count - (s + 1))
states-next d states s count mask low is some =
    let left : count - s ≡ suc (count - (s + 1)) = omega (arith, low) in
    let rest : List ℕ = states_from d (s + 1) (count - (s + 1)) in
    ap (λ k. states ++ states_from d s k) left
    ∙ ap (λ t. states ++ (if t then s ∷ rest else rest)) (has-state d s mask is some) ∙ sym (append_assoc states (s ∷ []) rest)

pub states-none : (d : Design) (states : List ℕ) (s count mask : ℕ) → s < count → mask ≡ register_mask d s → mask ≡ 0
    → states ++ states_from d s (count - s) ≡ states ++ states_from d (s + 1) (count - (s + 1))
states-none d states s count mask low is none =
    let left : count - s ≡ suc (count - (s + 1)) = omega (arith, low) in
    let rest : List ℕ = states_from d (s + 1) (count - (s + 1)) in
    ap (λ k. states ++ states_from d s k) left ∙ ap (λ t. states ++ (if t then s ∷ rest else rest)) (no-state d s mask is none)

pub states-end : (d : Design) (states : List ℕ) (s count : ℕ) → s ≡ count → states ++ states_from d s (count - s) ≡ states
states-end d states s count end = let left : count - s ≡ 0 = omega (arith, end) in ap (λ k. states ++ states_from d s k) left ∙ append-nil states

pub begun-all : (d : Design) (nodes : List WordNode) (count : ℕ) → nodes ≡ inputs_made d [] 0 d.inputs.items → count ≡ length d.signals.items
    → signals_made d nodes [] 0 0 (count - 0) ≡ begun_made d
unfolding begun_made
begun-all d nodes count is all =
    let whole : count - 0 ≡ length d.signals.items = omega (arith, all) in ap₂ (λ ns k. signals_made d ns [] 0 0 k) is whole

-- what is to be made is the same, and the states so far are as many as the registers so far
pub record BegunSoFar (d : Design) (nodes : List WordNode) (map states : List ℕ) (s : ℕ) : Type 0 where
  pub long : length map ≡ s
  pub few : length states ≤ s
  pub begun : begun_made d ≡ signals_made d nodes map (length states) s (length d.signals.items - s)
  pub registers : states_of d ≡ states ++ states_from d s (length d.signals.items - s)

pub begun-first : (d : Design) (nodes : List WordNode) → nodes ≡ inputs_made d [] 0 d.inputs.items → BegunSoFar d nodes [] [] 0
begun-first d nodes is =
    record {
      long = refl;
      few = omega arith;
      begun = sym (begun-all d nodes (length d.signals.items) is refl);
      registers = ap (states_from d 0) (sym minus);
    }
  where
    minus : length d.signals.items - 0 ≡ length d.signals.items
    minus = omega arith

pub begun-state : (d : Design) (nodes after : List WordNode) (map states : List ℕ) (s n mask : ℕ) → BegunSoFar d nodes map states s → s < length d.signals.items
    → made after n ≡ first_made d nodes s (length states) → mask ≡ register_mask d s → mask ≢ 0 → BegunSoFar d after (map ++ n ∷ []) (states ++ s ∷ []) (s + 1)
begun-state d nodes after map states s n mask so_far low is mask_is some =
    let count : ℕ = length d.signals.items in
    let more : length (states ++ s ∷ []) ≡ length states + 1 = length-append states (s ∷ []) in
    record {
      long = omega (arith, length-append map (n ∷ []), so_far.long);
      few = omega (arith, more, so_far.few);
      begun = so_far.begun ∙ signals-next d nodes after map (length states) s count n low is
          ∙ ap (λ t. signals_made d after (map ++ n ∷ []) (if t then length states + 1 else length states) (s + 1) (count - (s + 1))) (has-state d s mask mask_is some)
          ∙ ap (λ k. signals_made d after (map ++ n ∷ []) k (s + 1) (count - (s + 1))) (sym more);
      registers = so_far.registers ∙ states-next d states s count mask low mask_is some;
    }

pub begun-none : (d : Design) (nodes after : List WordNode) (map states : List ℕ) (s n mask : ℕ) → BegunSoFar d nodes map states s → s < length d.signals.items
    → made after n ≡ first_made d nodes s (length states) → mask ≡ register_mask d s → mask ≡ 0 → BegunSoFar d after (map ++ n ∷ []) states (s + 1)
begun-none d nodes after map states s n mask so_far low is mask_is none =
    let count : ℕ = length d.signals.items in
    record {
      long = omega (arith, length-append map (n ∷ []), so_far.long);
      few = omega (arith, so_far.few);
      begun = so_far.begun ∙ signals-next d nodes after map (length states) s count n low is
          ∙ ap (λ t. signals_made d after (map ++ n ∷ []) (if t then length states + 1 else length states) (s + 1) (count - (s + 1))) (no-state d s mask mask_is none);
      registers = so_far.registers ∙ states-none d states s count mask low mask_is none;
    }

pub begun-next : (d : Design) (nodes after : List WordNode) (map states map' states' : List ℕ) (s n mask : ℕ) → BegunSoFar d nodes map states s → s < length d.signals.items
    → made after n ≡ first_made d nodes s (length states) → mask ≡ register_mask d s → map' ≡ map ++ n ∷ [] → states' ≡ (if mask == 0 then states else states ++ s ∷ []) → BegunSoFar d after map' states' (s + 1)
begun-next d nodes after map states map' states' s n mask so_far low is mask_is grown added = at (cases_eq mask 0)
  where
    at : (mask ≡ 0) ⊎ (mask ≡ 0 → ⊥) → BegunSoFar d after map' states' (s + 1)
    at (inl nil) =
        let none : states' ≡ states = added ∙ ap (λ t. if t then states else states ++ s ∷ []) (eq-eqb mask 0 nil) in
        subst (λ xs. BegunSoFar d after xs states' (s + 1)) (sym grown) (subst (λ xs. BegunSoFar d after (map ++ n ∷ []) xs (s + 1)) (sym none) (begun-none d nodes after map states s n mask so_far low is mask_is nil))
    at (inr some) =
        let one : states' ≡ states ++ s ∷ [] = added ∙ ap (λ t. if t then states else states ++ s ∷ []) (equal-false mask 0 some) in
        subst (λ xs. BegunSoFar d after xs states' (s + 1)) (sym grown) (subst (λ xs. BegunSoFar d after (map ++ n ∷ []) xs (s + 1)) (sym one) (begun-state d nodes after map states s n mask so_far low is mask_is some))

pub begun-end : (d : Design) (nodes : List WordNode) (map states : List ℕ) (s : ℕ) → BegunSoFar d nodes map states s → s ≡ length d.signals.items
    → (nodes_made nodes map ≡ begun_made d) × (states ≡ states_of d) × (length map ≡ length d.signals.items)
begun-end d nodes map states s so_far end =
    (sym (so_far.begun ∙ signals-end d nodes map (length states) s (length d.signals.items) end), sym (so_far.registers ∙ states-end d states s (length d.signals.items) end), so_far.long ∙ end)

pub ruleset begin_steps = (begun-first, begun-next, begun-end)
