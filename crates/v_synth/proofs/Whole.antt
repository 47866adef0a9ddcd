-- The net of a design: its outputs and next states are those of each cycle.
use Rattle.std.proofs.Common.{◌≡◌, ℕ, zero, suc, ◌+◌, ◌<◌, ◌≤◌, Bool, true, false, not, List, [], ◌∷◌, ◌++◌, length, map, get_or, refl, sym, ◌∙◌, ap, ap₂, subst, arith, append_assoc, append-nil, ◌⊎◌, inl, inr}
use Rattle.std.specs.Prelude.{◌&&◌, ◌||◌, if◌then◌else◌, slice_get, Contains}
use Rattle.std.specs.Option.{option_map_or}
use Rattle.std.specs.List.{list_all, list_any}
use Rattle.std.proofs.lemmas.Bool.{and_parts, and_from, or_parts, or_cases, both_ways, lt-ltb, ltb-true, cases_Bool, cases_lt}
use Rattle.std.proofs.lemmas.Option.{slice_get_past}
use Rattle.loc_base.specs.declared.bits.Bits.{Bits}
use Rattle.loc_base.proofs.ShelfLists.{Contains-at}
use Rattle.design_core.specs.declared.signal.Signal.{Signal}
use Rattle.design_core.specs.declared.driver.Clocked.{Clocked}
use Rattle.design_core.specs.declared.design.Design.{Design}
use Rattle.design_core.specs.Valuation.{Valuation, number, width_at}
use Rattle.design_core.specs.After.{Choice}
use Rattle.design_core.specs.Drives.{driver_drives, is_driven, block_drives, is_register_bit, is_listed, is_reg}
use Rattle.design_core.specs.Cycle.{before, left_from, is_active, is_reset, Cycle}
use Rattle.design_core.specs.Steps.{with_reset, with_resets, with_body, with_bodies, computed_now, computed_next}
use Rattle.design_core.specs.Reads.{IsOrder}
use Rattle.design_core.specs.DrivenOnce.{IsDrivenOnce}
use Rattle.design_core.specs.WellFormed.{is_signal, signal_fits, is_input, input_fits, clocked_fits, IsWellFormed}
use Rattle.design_core.proofs.NumberLaws.{number-same}
use Rattle.design_core.proofs.Lists.{Contains-first, Contains-later}
use Rattle.design_core.proofs.Widened.{list_all-member}
use Rattle.design_core.proofs.CycleLaws.{list_any-none, cycle-unique}
use Rattle.design_core.proofs.CycleExists.{cycle-exists}
use Rattle.word_net.specs.declared.node.WordNode.{WordNode}
use Rattle.word_net.specs.Values.{Source, values}
use Rattle.word_net.specs.Fits.{AllFit}
use Rattle.word_net.specs.Build.{Made, Means, Grown}
use Rattle.word_net.proofs.Meaning.{keep, grown-then, grown-none}
use Rattle.synth_parts.specs.Store.{Nodes}
use Rattle.synth_parts.specs.Driver.{drivers_made}
use Rattle.v_synth.specs.Clocked.{has_state, begun_made, masked_made, resets_made, bodies_made}
use Rattle.v_synth.specs.Net.{states_from, states_of, nexts_made, net_of, cycle_source}
use Rattle.synth_parts.specs.Meaning.{Shows, word_of}
use Rattle.v_synth.specs.Matches.{OneNet, Matches}
use Rattle.synth_parts.proofs.Base.{signal-at, keep-shows}
use Rattle.synth_parts.proofs.Drivers.{AreQuiet, drivers-law}
use Rattle.v_synth.proofs.Begun.{masked-law, begun-law}
use Rattle.v_synth.proofs.Blocks.{resets-law, bodies-law}

-- ---- lists of nodes

-- each node of a list stands for a word of the signal beside it
pub data AllMean (e : Source) (signals : List Signal) (nodes : List WordNode) (f : ℕ → ℕ) : List ℕ → List ℕ → Type 0 where
  no_more : AllMean e signals nodes f [] []
  one_more : {n s : ℕ} {ns ss : List ℕ} → Means e nodes n (width_at signals s) (f s) → AllMean e signals nodes f ns ss → AllMean e signals nodes f (n ∷ ns) (s ∷ ss)

keep-all : {e : Source} {signals : List Signal} {before after : List WordNode} {f : ℕ → ℕ} {ns ss : List ℕ} → Grown before after → AllMean e signals before f ns ss → AllMean e signals after f ns ss
keep-all grown no_more = no_more
keep-all grown (one_more m ms) = one_more (keep grown m) (keep-all grown ms)

all-values : {e : Source} {signals : List Signal} {nodes : List WordNode} {f : ℕ → ℕ} {ns ss : List ℕ} → AllMean e signals nodes f ns ss
    → map (λ n. get_or (values e [] nodes) n 0) ns ≡ map f ss
all-values no_more = refl
all-values (one_more m ms) = ap₂ (λ x xs. x ∷ xs) m.is (all-values ms)

map-same : (f g : ℕ → ℕ) (ss : List ℕ) → ((s : ℕ) → f s ≡ g s) → map f ss ≡ map g ss
map-same f g [] same = refl
map-same f g (s ∷ ss) same = ap₂ (λ x xs. x ∷ xs) (same s) (map-same f g ss same)

-- the nodes of signals
outputs-law : {e : Source} {signals : List Signal} {nodes : List WordNode} {nodes_of : List ℕ} {V : Valuation} (ss : List ℕ) → list_all (is_signal signals) ss ≡ true → Shows e signals nodes nodes_of V
    → AllMean e signals nodes (word_of signals V) (map (λ s. get_or nodes_of s 0) ss) ss
outputs-law [] there shows = no_more
outputs-law {e} {signals} (s ∷ ss) there shows =
    let f = and_parts (is_signal signals s) (list_all (is_signal signals) ss) there in
    one_more (shows.are s (ltb-true s (length signals) f.0)) (outputs-law ss f.1 shows)

-- ---- next states

-- the register bits of a signal
pub register_word : Design → Valuation → ℕ → ℕ
register_word d N s = number (width_at d.signals.items s) (λ b. is_register_bit d s b && N s b)

record NextsIn (e : Source) (d : Design) (N : Valuation) (nodes : List WordNode) (next ss : List ℕ) (m : Nodes) : Type 0 where
  grown : Grown nodes m.nodes
  added : List ℕ
  is : m.each ≡ next ++ added
  are : AllMean e d.signals.items m.nodes (register_word d N) added ss

nexts-law : {e : Source} {nodes_of : List ℕ} {N : Valuation} (d : Design) (ss : List ℕ) {nodes : List WordNode} (next : List ℕ) → list_all signal_fits d.signals.items ≡ true → list_all (is_signal d.signals.items) ss ≡ true
    → Shows e d.signals.items nodes nodes_of N → NextsIn e d N nodes next ss (nexts_made d nodes_of nodes next ss)
unfolding nexts_made register_word
nexts-law d [] {nodes} next own there shows = record { grown = grown-none nodes; added = []; is = sym (append-nil next); are = no_more }
nexts-law {e} {nodes_of} {N} d (s ∷ ss) {nodes} next own there shows =
    let f = and_parts (is_signal d.signals.items s) (list_all (is_signal d.signals.items) ss) there in
    let g = masked-law d s (N s) (signal-at d.signals.items s own f.0).0 (shows.are s (ltb-true s (length d.signals.items) f.0)) in
    let m : Made = masked_made d nodes s (get_or nodes_of s 0) in
    let rest = nexts-law d ss (next ++ m.node ∷ []) own f.1 (keep-shows g.grown shows) in
    record {
      grown = grown-then g.grown rest.grown;
      added = m.node ∷ rest.added;
      is = rest.is ∙ append_assoc next (m.node ∷ []) rest.added;
      are = one_more (keep rest.grown g.means) rest.are;
    }

-- signals that have a state are signals
pub states-there : (d : Design) (s more : ℕ) → s + more ≡ length d.signals.items → list_all (is_signal d.signals.items) (states_from d s more) ≡ true
states-there d s zero all = refl
states-there d s (suc more) all =
    let rest = states-there d (s + 1) more (omega (arith, all)) in
    let here : is_signal d.signals.items s ≡ true = lt-ltb s (length d.signals.items) (omega (arith, all)) in
    at (has_state d s) here rest
  where
    at : (t : Bool) → is_signal d.signals.items s ≡ true → list_all (is_signal d.signals.items) (states_from d (s + 1) more) ≡ true
        → list_all (is_signal d.signals.items) (if t then s ∷ states_from d (s + 1) more else states_from d (s + 1) more) ≡ true
    at true here rest = and_from (is_signal d.signals.items s) (list_all (is_signal d.signals.items) (states_from d (s + 1) more)) here rest
    at false here rest = rest

-- ---- what bodies leave is the next state

if-all : (x y z a e : Bool) → x ≡ true → y ≡ true → z ≡ true → (if x && (y && z) then a else e) ≡ a
if-all x y z a e p q r = rw (p, q, r) refl

if-both : (x y z a e : Bool) → (x && z) ≡ false → (if x && (y && z) then a else e) ≡ e
if-both true true true a e p = cc
if-both true true false a e p = refl
if-both true false z a e p = refl
if-both false y z a e p = refl

if-second : (x y z a e : Bool) → y ≡ false → (if x && (y && z) then a else e) ≡ e
if-second true true z a e q = cc
if-second true false z a e q = refl
if-second false y z a e q = refl

bodies-value : (d : Design) (samples : List Bits) (state : Valuation) (choice : Choice) (V next : Valuation) → Cycle d samples state choice V next
    → (blocks : List Clocked) → ((block : Clocked) → Contains blocks block → Contains d.clocked.items block) → (N : Valuation) (s b : ℕ) → is_register_bit d s b ≡ true
    → (N s b ≡ next s b) ⊎ (list_any (λ block. not (is_active V block) && block_drives d.signals.items s b block) blocks ≡ true)
    → with_bodies d choice V blocks N s b ≡ next s b
bodies-value d samples state choice V next c [] within N s b register (inl same) = same
bodies-value d samples state choice V next c [] within N s b register (inr some) = absurd (both_ways false refl some)
bodies-value d samples state choice V next c (block ∷ blocks) within N s b register given =
    bodies-value d samples state choice V next c blocks (λ x member. within x (Contains-later block blocks x member)) (with_body d choice V block N) s b register (at (cases_Bool here) given)
  where
    here : Bool
    here = not (is_active V block) && block_drives d.signals.items s b block

    later : Bool
    later = list_any (λ block. not (is_active V block) && block_drives d.signals.items s b block) blocks

    left_value : Bool
    left_value = left_from d.signals.items choice block V block.body s b

    at : (here ≡ true) ⊎ (here ≡ false) → (N s b ≡ next s b) ⊎ (list_any (λ block. not (is_active V block) && block_drives d.signals.items s b block) (block ∷ blocks) ≡ true)
        → (with_body d choice V block N s b ≡ next s b) ⊎ (later ≡ true)
    at (inl passes) given =
        let parts = and_parts (not (is_active V block)) (block_drives d.signals.items s b block) passes in
        inl
        (if-all (not (is_active V block)) (is_register_bit d s b) (block_drives d.signals.items s b block) left_value (N s b) parts.0 register parts.1
        ∙ sym (c.next_clocked block s b (within block (Contains-first block blocks)) parts.0 parts.1 register))
    at (inr fails) (inl same) =
        inl (if-both (not (is_active V block)) (is_register_bit d s b) (block_drives d.signals.items s b block) left_value (N s b) fails ∙ same)
    at (inr fails) (inr some) = elim (or_cases here later some) [ inl passes ↦ absurd (both_ways here fails passes) | inr rest ↦ inr rest ]

-- no block drives a bit that neither those with an active reset nor the others drive
none-drives : (d : Design) (V : Valuation) (s b : ℕ) (blocks : List Clocked)
    → list_any (λ block. not (is_active V block) && block_drives d.signals.items s b block) blocks ≡ false
    → list_any (λ block. is_active V block && block_drives d.signals.items s b block) blocks ≡ false
    → list_any (block_drives d.signals.items s b) blocks ≡ false
none-drives d V s b [] quiet active = refl
none-drives d V s b (block ∷ blocks) quiet active =
    let q = or_parts (not (is_active V block) && block_drives d.signals.items s b block) (list_any (λ block. not (is_active V block) && block_drives d.signals.items s b block) blocks) quiet in
    let a = or_parts (is_active V block && block_drives d.signals.items s b block) (list_any (λ block. is_active V block && block_drives d.signals.items s b block) blocks) active in
    neither (is_active V block) (block_drives d.signals.items s b block) (list_any (block_drives d.signals.items s b) blocks) q.0 a.0 (none-drives d V s b blocks q.1 a.1)
  where
    neither : (x y z : Bool) → (not x && y) ≡ false → (x && y) ≡ false → z ≡ false → (y || z) ≡ false
    neither true true z p q r = cc
    neither true false z p q r = r
    neither false true z p q r = cc
    neither false false z p q r = r

-- begun with the values of the cycle
left-next : (d : Design) (samples : List Bits) (state : Valuation) (choice : Choice) (V next : Valuation) → Cycle d samples state choice V next → (s b : ℕ) → is_register_bit d s b ≡ true
    → with_bodies d choice V d.clocked.items V s b ≡ next s b
left-next d samples state choice V next c s b register =
    bodies-value d samples state choice V next c d.clocked.items (λ x member. member) V s b register (start (cases_Bool some))
  where
    some : Bool
    some = list_any (λ block. not (is_active V block) && block_drives d.signals.items s b block) d.clocked.items

    kept : (t : Bool) → is_reset d V s b ≡ t → some ≡ false → V s b ≡ next s b
    kept true reset none = sym (c.next_reset s b register reset)
    kept false reset none =
        c.register s b register (ap not reset)
        ∙ sym (c.next_kept s b register (ap not (none-drives d V s b d.clocked.items none reset)))

    start : (some ≡ true) ⊎ (some ≡ false) → (V s b ≡ next s b) ⊎ (some ≡ true)
    start (inl is) = inr is
    start (inr none) = inl (kept (is_reset d V s b) refl none)

next-word : (d : Design) (samples : List Bits) (state : Valuation) (choice : Choice) (V next : Valuation) → Cycle d samples state choice V next → (s : ℕ)
    → register_word d (with_bodies d choice V d.clocked.items V) s ≡ word_of d.signals.items next s
unfolding register_word
next-word d samples state choice V next c s =
    number-same (width_at d.signals.items s) (λ b. is_register_bit d s b && with_bodies d choice V d.clocked.items V s b) (next s) (λ b low. at b (is_register_bit d s b) refl)
  where
    at : (b : ℕ) (t : Bool) → is_register_bit d s b ≡ t → (is_register_bit d s b && with_bodies d choice V d.clocked.items V s b) ≡ next s b
    at b true is = ap (λ t. t && with_bodies d choice V d.clocked.items V s b) is ∙ left-next d samples state choice V next c s b is
    at b false is = ap (λ t. t && with_bodies d choice V d.clocked.items V s b) is ∙ sym (c.next_other s b (ap not is))

-- ---- bits of drivers are 0 before they are driven
resets-other : (d : Design) (choice : Choice) (E : Valuation) (blocks : List Clocked) (W : Valuation) (s b : ℕ) → is_register_bit d s b ≡ false → with_resets d choice E blocks W s b ≡ W s b
resets-other d choice E [] W s b none = refl
resets-other d choice E (block ∷ blocks) W s b none =
    resets-other d choice E blocks (with_reset d choice E block W) s b none
    ∙ if-second (is_active E block) (is_register_bit d s b) (block_drives d.signals.items s b block) (option_map_or (λ r. left_from d.signals.items choice block E r.values s b) block.reset false) (W s b) none

quiet-first : (d : Design) (order : List ℕ) (samples : List Bits) (state : Valuation) (choice : Choice) → IsDrivenOnce d
    → AreQuiet d order (with_resets d choice (before d samples state) d.clocked.items (before d samples state))
quiet-first d order samples state choice once i driver member at s b drives =
    let E : Valuation = before d samples state in
    let there = Contains-at d.drivers.items i driver at in
    let driven : is_driven d s b ≡ true = found (cases_Bool (is_driven d s b)) there in
    let register : is_register_bit d s b ≡ false = undriven (option_map_or (λ signal. is_reg signal.kind) (slice_get d.signals.items s) false) (is_driven d s b) driven in
    let listed : is_listed d s ≡ false = opposite (is_listed d s) (once.inputs driver s b there drives) in
    resets-other d choice E d.clocked.items E s b register
    ∙ rw listed (ap (λ t. t && state s b) register)
  where
    found : (is_driven d s b ≡ true) ⊎ (is_driven d s b ≡ false) → Contains d.drivers.items driver → is_driven d s b ≡ true
    found (inl yes_driven) there = yes_driven
    found (inr none) there = absurd (both_ways (driver_drives d.signals.items s b driver) (list_any-none (driver_drives d.signals.items s b) d.drivers.items driver there none) drives)

    undriven : (x y : Bool) → y ≡ true → (x && not y) ≡ false
    undriven true true is = refl
    undriven false true is = refl
    undriven x false is = cc

    opposite : (x : Bool) → not x ≡ true → x ≡ false
    opposite true h = cc
    opposite false h = refl

-- ---- the whole net

-- what is shown of it
pub record IsShown (d : Design) (order : List ℕ) (samples : List Bits) (state : Valuation) (choice : Choice) : Type 0 where
  pub grown : Grown [] (net_of d order).nodes
  pub outputs : AllMean (cycle_source d samples state choice) d.signals.items (net_of d order).nodes (word_of d.signals.items (computed_now d order samples state choice)) (net_of d order).outputs d.outputs.items
  pub next : AllMean (cycle_source d samples state choice) d.signals.items (net_of d order).nodes
      (register_word d (with_bodies d choice (computed_now d order samples state choice) d.clocked.items (computed_now d order samples state choice))) (net_of d order).next (states_of d)

pub input-there : (signals : List Signal) (s : ℕ) → input_fits signals s ≡ true → is_signal signals s ≡ true
input-there signals s fits = at (cases_lt s (length signals))
  where
    at : (s < length signals) ⊎ (length signals ≤ s) → is_signal signals s ≡ true
    at (inl low) = lt-ltb s (length signals) low
    at (inr high) = absurd (both_ways (input_fits signals s) (ap (λ o. option_map_or (λ signal. is_input signal.kind) o false) (slice_get_past signals s high)) fits)

pub net-shown : (d : Design) (order : List ℕ) (samples : List Bits) (state : Valuation) (choice : Choice) → IsWellFormed d → IsDrivenOnce d → IsOrder d order → IsShown d order samples state choice
unfolding net_of
net-shown d order samples state choice well once ordered =
    let E : Valuation = before d samples state in
    let V : Valuation = computed_now d order samples state choice in
    let blocks : (block : Clocked) → Contains d.clocked.items block → clocked_fits d block ≡ true = λ block member. list_all-member (clocked_fits d) d.clocked.items block well.clocked member in
    let first = begun-law d samples state choice well.signals
    (λ i s at. input-there d.signals.items s (list_all-member (input_fits d.signals.items) d.inputs.items s well.inputs (Contains-at d.inputs.items i s at))) in
    let registers = resets-law d d.clocked.items well.signals blocks first.shows first.shows in
    let mf : Nodes = begun_made d in
    let mr : Nodes = resets_made d mf.each mf.nodes mf.each d.clocked.items in
    let now = drivers-law d order well once ordered.distinct (quiet-first d order samples state choice once) registers.shows in
    let mv : Nodes = drivers_made d.signals.items d.drivers.items mr.nodes mr.each order in
    let left = bodies-law d d.clocked.items well.signals blocks now.shows now.shows in
    let ml : Nodes = bodies_made d mv.each mv.nodes mv.each d.clocked.items in
    let next = nexts-law d (states_of d) [] well.signals (states-there d 0 (length d.signals.items) (omega arith)) left.shows in
    let mn : Nodes = nexts_made d ml.each ml.nodes [] (states_of d) in
    record {
      grown = grown-then first.grown (grown-then registers.grown (grown-then now.grown (grown-then left.grown next.grown)));
      outputs = keep-all (grown-then left.grown next.grown) (outputs-law d.outputs.items well.outputs now.shows);
      next = subst (λ ns. AllMean (cycle_source d samples state choice) d.signals.items mn.nodes (register_word d (with_bodies d choice V d.clocked.items V)) ns (states_of d)) (sym next.is) next.are;
    }

-- the nodes fit
pub net-fits : (d : Design) (order : List ℕ) (samples : List Bits) (state : Valuation) (choice : Choice) → IsWellFormed d → IsDrivenOnce d → IsOrder d order → AllFit [] (net_of d order).nodes
net-fits d order samples state choice well once ordered = (net-shown d order samples state choice well once ordered).grown.fit tt

-- outputs and next states are those of each cycle
pub net-matches : (c : OneNet) → IsWellFormed c.design → IsDrivenOnce c.design → IsOrder c.design c.order → Cycle c.design c.samples c.state c.choice c.values c.next → Matches c
net-matches c well once ordered cycle =
    let d : Design = c.design in
    let V : Valuation = computed_now d c.order c.samples c.state c.choice in
    let shown = net-shown d c.order c.samples c.state c.choice well once ordered in
    let same = cycle-unique d c.order well ordered c.samples c.state c.choice V (computed_next d c.state c.choice V) c.values c.next (cycle-exists d c.order well once ordered c.samples c.state c.choice) cycle in
    let own : Cycle d c.samples c.state c.choice V c.next = subst (λ U. Cycle d c.samples c.state c.choice U c.next) (sym same.0) cycle in
    record {
      outputs = all-values shown.outputs ∙ ap (λ U. map (word_of d.signals.items U) d.outputs.items) same.0;
      next = all-values shown.next
          ∙ map-same (register_word d (with_bodies d c.choice V d.clocked.items V)) (word_of d.signals.items c.next) (states_of d) (λ s. next-word d c.samples c.state c.choice V c.next own s);
    }
