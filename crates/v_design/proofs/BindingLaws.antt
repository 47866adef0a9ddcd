-- What instances bind, from its parts.
use Rattle.std.proofs.Common.{◌≡◌, inl, inr, ℕ, Bool, List, ◌++◌, map, Option, sym, ap, ◌∙◌}
use Rattle.std.specs.Prelude.{Result, Ok, Err}
use Rattle.design_core.specs.declared.signal.Signal.{Signal}
use Rattle.v_hierarchy.specs.Instances.{Instance}
use Rattle.bind_scopes.specs.Refuses.{Refuses}
use Rattle.v_binding.specs.declared.error.BindErr.{BindErr}
use Rattle.v_binding.specs.Steps.{◌>>=◌}
use Rattle.v_binding.specs.Blocks.{Frame}
use Rattle.v_binding.specs.Bound.{Bound}
use Rattle.v_binding.specs.Connections.{Socket}
use Rattle.v_binding.specs.Signals.{Numbered, Whole, signals_of}
use Rattle.v_binding.specs.Starts.{all_started}
use Rattle.v_binding.specs.Binding.{Binding, all_sockets, top_ports, clock_of, top_roots, nothing_bound, inputs_of, outputs_of, is_misnamed, bound_from, binding}

-- the lists of a design, once all items are bound
abbrev pub finished : Option (List ℕ) → Option ℕ → List Socket → List Numbered → Result Bound BindErr → Result Binding BindErr
finished name clock top numbered r = r >>= λ b. Ok (record {
  signals = all_started (b.declared ++ map (λ i. i.start) b.initial) numbered;
  numbered = numbered;
  inputs = inputs_of clock top;
  outputs = outputs_of top;
  misnamed = is_misnamed name clock;
  bound = b;
})

abbrev pub framed : List Numbered → Option ℕ → Frame
framed numbered clock = record { signals = map (λ n. n.signal) numbered; clock = clock }

pub binding_is : (is : List Instance) (name : Option (List ℕ)) (w : Whole) (ports : List (List Socket)) (top : List Socket) (clock : Option ℕ) (begun : Bound) (r : Result Bound BindErr)
    → w ≡ signals_of is → ports ≡ all_sockets is w.scopes → top ≡ top_ports ports → clock ≡ clock_of name top → begun ≡ nothing_bound (top_roots top)
    → bound_from (framed w.signals clock) is ports 0 is w.scopes begun ≡ r → binding is name ≡ finished name clock top w.signals r
binding_is is name w ports top clock begun r whole sockets first named nothing bound =
    sym (ap (λ x. finished name (clock_of name (top_ports (all_sockets is x.scopes))) (top_ports (all_sockets is x.scopes)) x.signals
    (bound_from (framed x.signals (clock_of name (top_ports (all_sockets is x.scopes)))) is (all_sockets is x.scopes) 0 is x.scopes (nothing_bound (top_roots (top_ports (all_sockets is x.scopes)))))) whole)
    ∙ sym (ap (λ x. finished name (clock_of name (top_ports x)) (top_ports x) w.signals
    (bound_from (framed w.signals (clock_of name (top_ports x))) is x 0 is w.scopes (nothing_bound (top_roots (top_ports x))))) sockets)
    ∙ sym (ap (λ x. finished name (clock_of name x) x w.signals (bound_from (framed w.signals (clock_of name x)) is ports 0 is w.scopes (nothing_bound (top_roots x)))) first)
    ∙ sym (ap (λ x. finished name x top w.signals (bound_from (framed w.signals x) is ports 0 is w.scopes (nothing_bound (top_roots top)))) named)
    ∙ sym (ap (λ x. finished name clock top w.signals (bound_from (framed w.signals clock) is ports 0 is w.scopes x)) nothing)
    ∙ ap (finished name clock top w.signals) bound

-- the lists of the code are those of the definition
pub finished_is : (name : Option (List ℕ)) (clock : Option ℕ) (top : List Socket) (numbered : List Numbered) (b : Bound) (signals : List Signal) (inputs outputs : List ℕ) (misnamed : Bool)
    → signals ≡ all_started (b.declared ++ map (λ i. i.start) b.initial) numbered → inputs ≡ inputs_of clock top → outputs ≡ outputs_of top → misnamed ≡ is_misnamed name clock
    → finished name clock top numbered (Ok b) ≡ Ok (record { signals = signals; numbered = numbered; inputs = inputs; outputs = outputs; misnamed = misnamed; bound = b })
finished_is name clock top numbered b signals inputs outputs misnamed is_signals is_inputs is_outputs is_named =
    sym (ap (λ x. Ok (record { signals = x; numbered = numbered; inputs = inputs; outputs = outputs; misnamed = misnamed; bound = b })) is_signals
    ∙ ap (λ x. Ok (record { signals = all_started (b.declared ++ map (λ i. i.start) b.initial) numbered; numbered = numbered; inputs = x; outputs = outputs; misnamed = misnamed; bound = b })) is_inputs
    ∙ ap (λ x. Ok (record { signals = all_started (b.declared ++ map (λ i. i.start) b.initial) numbered; numbered = numbered; inputs = inputs_of clock top; outputs = x; misnamed = misnamed; bound = b })) is_outputs
    ∙ ap (λ x. Ok (record { signals = all_started (b.declared ++ map (λ i. i.start) b.initial) numbered; numbered = numbered; inputs = inputs_of clock top; outputs = outputs_of top; misnamed = x; bound = b })) is_named)

pub refused_from : {A B : Type 0} (wanted : Result B BindErr) (r : Result A BindErr) (e : BindErr) → (r ≡ Err e → wanted ≡ Err e) → Refuses r e → Refuses wanted e
refused_from wanted r e carries (inl none) = inl none
refused_from wanted r e carries (inr is) = inr (carries is)
