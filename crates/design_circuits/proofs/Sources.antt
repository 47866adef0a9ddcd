-- Nodes read what they are given, and nothing else.
use Rattle.std.proofs.Common.{◌≡◌, ◌≢◌, ℕ, zero, suc, ◌<◌, ◌^◌, ◌%◌, true, List, [], ◌∷◌, ◌++◌, length, map, get_or, AllPairs, Some, refl, sym, ◌∙◌, ap, subst, arith}
use Rattle.std.specs.Prelude.{◌==◌, if◌then◌else◌, slice_get}
use Rattle.std.specs.Option.{option_map_or}
use Rattle.std.proofs.Math.Nat.{mod-eq_of_lt}
use Rattle.std.proofs.Math.Path.{fun_ext}
use Rattle.std.proofs.lemmas.Bool.{and_parts, eqb-true, eq-eqb}
use Rattle.std.proofs.lemmas.List.{length-map}
use Rattle.std.proofs.lemmas.Option.{slice_get_within}
use Rattle.loc_base.specs.declared.bits.Bits.{Bits}
use Rattle.loc_base.specs.Bits.{width_of, value_of, value_of-range, bit_of}
use Rattle.loc_base.proofs.ShelfBools.{equal-false}
use Rattle.loc_base.proofs.ShelfLists.{slice_get-some}
use Rattle.loc_base.proofs.ShelfOptions.{Some-same}
use Rattle.design_core.specs.declared.signal.Signal.{Signal}
use Rattle.design_core.specs.After.{assigned}
use Rattle.design_core.specs.Cycle.{Cycle, sampled}
use Rattle.design_core.specs.DrivenOnce.{IsDrivenOnce}
use Rattle.design_core.specs.Reads.{IsOrder}
use Rattle.design_core.specs.TraceFits.{samples_fit}
use Rattle.design_core.specs.Valuation.{bit, number, width_at}
use Rattle.design_core.specs.WellFormed.{IsWellFormed}
use Rattle.design_core.proofs.Lists.{AllPairs-later}
use Rattle.design_core.proofs.NumberLaws.{number-bit, number-same}
use Rattle.word_net.specs.declared.node.Operation.{Operation}
use Rattle.word_net.specs.declared.node.Operation.TheVariants.{Const, Input, State, Free, Unary, Binary, Choose, Join, Repeat, Resize, Slice, Pick, Is, Put, PutPick, Blend}
use Rattle.word_net.specs.declared.node.WordNode.{WordNode}
use Rattle.word_net.specs.Given.{Given, number_at, source_of, HasWord, IsGiven, AreGiven}
use Rattle.word_net.specs.Values.{Source, read, operation_value, word_value, values, net_values}
use Rattle.synth_parts.specs.Meaning.{word_of}
use Rattle.v_synth.specs.Matches.{OneNet, IsNetOf, MeansCycle, value_in}
use Rattle.v_synth.specs.Net.{states_of, cycle_source}
use Rattle.v_synth.proofs.NetKeeps.{cycle-means}
use Rattle.design_circuits.specs.Widths.{HasWidths}
use Rattle.design_circuits.proofs.GivenWidths.{net-given}
use Rattle.design_circuits.specs.Evaluated.{Evaluated, IsGivenAs}

-- ---- two sources

-- two sources give an operation the same
pub record GiveSame (e f : Source) (op : Operation) : Type 0 where
  pub input : (i : ℕ) → op ≡ Input i → e.inputs i ≡ f.inputs i
  pub state : (i : ℕ) → op ≡ State i → e.states i ≡ f.states i
  pub choice : e.choice ≡ f.choice

value-same : (e f : Source) (known : List ℕ) (width : ℕ) (op : Operation) → GiveSame e f op → operation_value e known width op ≡ operation_value f known width op
value-same e f known width (Const word) same = refl
value-same e f known width (Input input) same = same.input input refl
value-same e f known width (State state) same = same.state state refl
value-same e f known width (Free place computed) same = ap (λ c. number width (bit (assigned c place (read known computed)))) same.choice
value-same e f known width (Unary op arg) same = refl
value-same e f known width (Binary op left right) same = refl
value-same e f known width (Choose test one other) same = refl
value-same e f known width (Join high low) same = refl
value-same e f known width (Repeat times part) same = refl
value-same e f known width (Resize arg) same = refl
value-same e f known width (Slice word from) same = refl
value-same e f known width (Pick word select) same = refl
value-same e f known width (Is index value) same = refl
value-same e f known width (Put old from size word offset) same = refl
value-same e f known width (PutPick old select word offset) same = refl
value-same e f known width (Blend mask one other) same = refl

pub values-same : (e f : Source) (known : List ℕ) (nodes : List WordNode) → ((i : ℕ) (node : WordNode) → slice_get nodes i ≡ Some node → GiveSame e f node.operation)
    → values e known nodes ≡ values f known nodes
unfolding values word_value
values-same e f known [] same = refl
values-same e f known (node ∷ nodes) same =
    ap (λ v. values e (known ++ v ∷ []) nodes) (value-same e f known node.width node.operation (same 0 node refl))
    ∙ values-same e f (known ++ word_value f known node ∷ []) nodes (λ i n at. same (suc i) n at)

-- ---- words by their numbers

number-read : (words : List Bits) (i : ℕ) → get_or (map value_of words) i 0 ≡ number_at words i
number-read [] i = refl
number-read (x ∷ words) zero = refl
number-read (x ∷ words) (suc i) = number-read words i

get_or-map : (f : ℕ → ℕ) (xs : List ℕ) (i : ℕ) → i < length xs → get_or (map f xs) i 0 ≡ f (get_or xs i 0)
get_or-map f [] i low = absurd (omega (arith, low))
get_or-map f (x ∷ xs) zero low = refl
get_or-map f (x ∷ xs) (suc i) low = get_or-map f xs i (omega (arith, low))

word-within : (words : List Bits) (i width : ℕ) → HasWord words i width → i < length words
word-within words i width has = omega (arith, slice_get_within (map width_of words) i width has, length-map words width_of)

-- ---- inputs

-- the sample at a place is that of the input there
sampled-at : (inputs : List ℕ) (samples : List Bits) (i : ℕ) (x : Bits) (b : ℕ) → AllPairs (λ one other. one ≢ other) inputs → i < length inputs → slice_get samples i ≡ Some x
    → sampled inputs samples (get_or inputs i 0) b ≡ bit_of x b
sampled-at [] samples i x b distinct low at = absurd (omega (arith, low))
sampled-at (input ∷ inputs) [] zero x b distinct low at = absurd cc
sampled-at (input ∷ inputs) [] (suc i) x b distinct low at = absurd cc
sampled-at (input ∷ inputs) (sample ∷ samples) zero x b distinct low at =
    ap (λ t. if t then bit_of sample b else sampled inputs samples input b) (eq-eqb input input refl) ∙ ap (λ s. bit_of s b) (Some-same at)
sampled-at (input ∷ inputs) (sample ∷ samples) (suc i) x b distinct low at =
    let apart : input ≢ get_or inputs i 0 = distinct 0 (suc i) 0 (omega arith) low in
    ap (λ t. if t then bit_of sample b else sampled inputs samples (get_or inputs i 0) b) (equal-false input (get_or inputs i 0) apart)
    ∙ sampled-at inputs samples i x b (AllPairs-later (λ one other. one ≢ other) input inputs distinct) (omega (arith, low)) at

-- a sample is that of an input, and has its width
sample-fits : (signals : List Signal) (inputs : List ℕ) (samples : List Bits) (i : ℕ) (x : Bits) → samples_fit signals inputs samples ≡ true → slice_get samples i ≡ Some x
    → (i < length inputs) × (width_of x ≡ width_at signals (get_or inputs i 0))
sample-fits signals [] [] zero x fits at = absurd cc
sample-fits signals [] [] (suc i) x fits at = absurd cc
sample-fits signals [] (sample ∷ samples) i x fits at = absurd cc
sample-fits signals (input ∷ inputs) [] i x fits at = absurd cc
sample-fits signals (input ∷ inputs) (sample ∷ samples) zero x fits at =
    let both = and_parts (width_of sample == width_at signals input) (samples_fit signals inputs samples) fits in
    (omega arith, ap width_of (sym (Some-same at)) ∙ eqb-true (width_of sample) (width_at signals input) both.0)
sample-fits signals (input ∷ inputs) (sample ∷ samples) (suc i) x fits at =
    let both = and_parts (width_of sample == width_at signals input) (samples_fit signals inputs samples) fits in
    let rest = sample-fits signals inputs samples i x both.1 at in (omega (arith, rest.0), rest.1)

pub input-is : (signals : List Signal) (inputs : List ℕ) (samples : List Bits) (i : ℕ) (x : Bits) → AllPairs (λ one other. one ≢ other) inputs → samples_fit signals inputs samples ≡ true → slice_get samples i ≡ Some x
    → number_at samples i ≡ number (width_at signals (get_or inputs i 0)) (sampled inputs samples (get_or inputs i 0))
input-is signals inputs samples i x distinct fits at =
    let fit = sample-fits signals inputs samples i x fits at in
    let low : value_of x % 2 ^ width_of x ≡ value_of x = mod-eq_of_lt (value_of-range x) in
    ap (λ o. option_map_or value_of o 0) at ∙ sym low ∙ sym (number-bit (width_of x) (value_of x)) ∙ ap (λ w. number w (bit (value_of x))) fit.1
    ∙ number-same (width_at signals (get_or inputs i 0)) (bit (value_of x)) (sampled inputs samples (get_or inputs i 0)) (λ b _. sym (sampled-at inputs samples i x b distinct fit.0 at))

-- ---- what the nodes of a net are given

abbrev begins : OneNet → Source
begins c = cycle_source c.design c.samples c.state c.choice

given-input : (c : OneNet) (g : Given) (i width : ℕ) → IsWellFormed c.design → IsGivenAs c g → HasWord g.inputs i width → (source_of g).inputs i ≡ (begins c).inputs i
given-input c g i width well begun has =
    let (x, at) = slice_get-some c.samples i (subst (λ xs. i < length xs) begun.inputs (word-within g.inputs i width has)) in
    ap (λ xs. number_at xs i) begun.inputs ∙ input-is c.design.signals.items c.design.inputs.items c.samples i x well.inputs_distinct begun.samples at

given-state : (c : OneNet) (g : Given) (i width : ℕ) → IsGivenAs c g → HasWord g.states i width → (source_of g).states i ≡ (begins c).states i
given-state c g i width begun has =
    let many : length g.states ≡ length (states_of c.design) = sym (length-map g.states value_of) ∙ ap length begun.states ∙ length-map (states_of c.design) (word_of c.design.signals.items c.state) in
    sym (number-read g.states i) ∙ ap (λ xs. get_or xs i 0) begun.states
    ∙ get_or-map (word_of c.design.signals.items c.state) (states_of c.design) i (omega (arith, many, word-within g.states i width has))

sources-same : (c : OneNet) (g : Given) (nodes : List WordNode) → IsWellFormed c.design → IsGivenAs c g → AreGiven g nodes → net_values (source_of g) nodes ≡ net_values (begins c) nodes
sources-same c g nodes well begun given =
    values-same (source_of g) (begins c) [] nodes
    (λ i node at. record {
      input = λ k is. given-input c g k node.width well begun (subst (IsGiven g node.width) is (given i node at));
      state = λ k is. given-state c g k node.width begun (subst (IsGiven g node.width) is (given i node at));
      choice = begun.choice;
    })

-- ---- outputs and next states

means : (of : Evaluated) → IsWellFormed of.cycle.design → IsDrivenOnce of.cycle.design → IsOrder of.cycle.design of.cycle.order → IsNetOf of.cycle.design of.cycle.order of.net
    → Cycle of.cycle.design of.cycle.samples of.cycle.state of.cycle.choice of.cycle.values of.cycle.next → MeansCycle of.cycle of.net
means of well once ordered is cycle = cycle-means of.cycle.design of.cycle.order of.net well once ordered is of.cycle refl refl cycle

node-value : (of : Evaluated) → IsWellFormed of.cycle.design → IsGivenAs of.cycle of.given → AreGiven of.given of.net.nodes → map value_of of.values ≡ net_values (source_of of.given) of.net.nodes
    → number_at of.values ≡ value_in of.cycle of.net
node-value of well begun given known =
    let all : map value_of of.values ≡ net_values (begins of.cycle) of.net.nodes = known ∙ sources-same of.cycle of.given of.net.nodes well begun given in
    fun_ext (λ n. sym (number-read of.values n) ∙ ap (λ vs. get_or vs n 0) all)

pub evaluated-outputs : (of : Evaluated) → IsWellFormed of.cycle.design → IsDrivenOnce of.cycle.design → IsOrder of.cycle.design of.cycle.order → IsNetOf of.cycle.design of.cycle.order of.net
    → Cycle of.cycle.design of.cycle.samples of.cycle.state of.cycle.choice of.cycle.values of.cycle.next → IsGivenAs of.cycle of.given → AreGiven of.given of.net.nodes
    → map value_of of.values ≡ net_values (source_of of.given) of.net.nodes
    → map (number_at of.values) of.net.outputs ≡ map (word_of of.cycle.design.signals.items of.cycle.values) of.cycle.design.outputs.items
evaluated-outputs of well once ordered is cycle begun given known =
    ap (λ f. map f of.net.outputs) (node-value of well begun given known) ∙ (means of well once ordered is cycle).outputs

pub evaluated-next : (of : Evaluated) → IsWellFormed of.cycle.design → IsDrivenOnce of.cycle.design → IsOrder of.cycle.design of.cycle.order → IsNetOf of.cycle.design of.cycle.order of.net
    → Cycle of.cycle.design of.cycle.samples of.cycle.state of.cycle.choice of.cycle.values of.cycle.next → IsGivenAs of.cycle of.given → AreGiven of.given of.net.nodes
    → map value_of of.values ≡ net_values (source_of of.given) of.net.nodes
    → map (number_at of.values) of.net.next ≡ map (word_of of.cycle.design.signals.items of.cycle.next) (states_of of.cycle.design)
evaluated-next of well once ordered is cycle begun given known =
    ap (λ f. map f of.net.next) (node-value of well begun given known) ∙ (means of well once ordered is cycle).next

-- all that a net of a design reads is given where each word has its width
pub widths-given : (of : Evaluated) → IsWellFormed of.cycle.design → IsOrder of.cycle.design of.cycle.order → IsNetOf of.cycle.design of.cycle.order of.net → HasWidths of.cycle.design of.given → AreGiven of.given of.net.nodes
widths-given of well ordered is widths = subst (AreGiven of.given) (sym is.nodes) (net-given of.cycle.design of.cycle.order of.given well ordered widths)
