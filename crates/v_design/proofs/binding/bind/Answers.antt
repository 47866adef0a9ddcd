use Rattle.std.proofs.Common.{◌≡◌, ◌<◌, ◌++◌, ℕ, length, map, sym, ap, ◌∙◌, subst}
use Rattle.std.specs.Prelude.{option_map, slice_get, Some, Result, Ok, Err}
use Rattle.v_hierarchy.specs.Views.{instance_of}
use Rattle.v_binding.specs.Steps.{through}
use Rattle.v_binding.specs.Starts.{started}
use Rattle.v_binding.specs.declared.error.BindErr.{BindErr}
use Rattle.v_binding.specs.Binding.{Binding, all_sockets, top_ports, bound_from}
use Rattle.bind_scopes.specs.Views.{scope_of, socket_of, numbered_of, whole_of}
use Rattle.bind_scopes.specs.Children.{numbers_from}
use Rattle.v_design.proofs.WalkLaws.{scopes_held}
use Rattle.v_design.proofs.BindingLaws.{binding_is, finished_is, framed}
use Rattle.v_design.proofs.binding.bind.Goals as goal

pub bound_all-requires-clause-all : goal.bound_all-requires-clause-all
bound_all-requires-clause-all c =
    let list = c.args.instances.now.list in
    record {
      scopes = ap length c.as_slice-5.ensures ∙ scopes_held c.in_ok-signals.signals.scopes (map numbered_of c.in_ok-signals.signals.signals) list c.in_ok-signals.ensures
          ∙ ap length (sym c.as_slice-4.ensures);
      ports = ap (map (map socket_of)) c.as_slice-6.ensures ∙ c.in_ok-ports.ensures
          ∙ ap (λ xs. all_sockets (map instance_of list) (map scope_of xs)) (c.as_slice.ensures ∙ sym c.as_slice-5.ensures)
          ∙ ap (λ xs. all_sockets (map instance_of xs) (map scope_of c.as_slice-5.result.now)) (sym c.as_slice-4.ensures);
      children = λ n within.
          ap (λ rows. slice_get rows n) c.as_slice-7.ensures ∙ c.in_ok-children.ensures n (subst (λ xs. n < length xs) c.as_slice-4.ensures within)
          ∙ ap (λ xs. Some (numbers_from n 0 (map instance_of xs))) (sym c.as_slice-4.ensures);
    }

pub returns-clause-ok : goal.returns-clause-ok
returns-clause-ok c =
    let list = c.args.instances.now.list in
    let is = map instance_of list in
    let name = option_map (λ n. n.now) c.args.clock in
    let whole = whole_of c.in_ok-signals.signals in
    let ports = map (map socket_of) c.in_ok-ports.ports in
    let top = map socket_of c.top_ports-top.result.now in
    let number = c.clock_of-number.result in
    let begun = c.in_ok-begun.begun in
    let bound = c.in-Ok.bound in
    let framing = c.new-frame.ensures ∙ ap (λ s. record { signals = s; clock = number }) (c.in_ok-signals_in.ensures ∙ ap (λ xs. map (λ n. n.signal) (map numbered_of xs)) c.as_slice-3.ensures) in
    let starting = c.all_started-started.ensures
    ∙ ap (λ ds. through started (ds ++ map (λ i. i.start) c.initial.result.now) c.into_signals.result) c.declared.ensures
    ∙ ap (λ starts. through started (bound.declared ++ map (λ i. i.start) starts) c.into_signals.result) c.initial.ensures
    ∙ ap (through started (bound.declared ++ map (λ i. i.start) bound.initial)) (c.into_signals.ensures ∙ ap (λ f. f.signals) framing) in
    binding_is is name whole ports top number begun (Ok bound) c.in_ok-signals.ensures
    (c.in_ok-ports.ensures ∙ ap (λ xs. all_sockets is (map scope_of xs)) c.as_slice.ensures)
    (c.top_ports-top.ensures ∙ ap (λ xs. top_ports (map (map socket_of) xs)) c.as_slice-2.ensures)
    c.clock_of-number.ensures c.in_ok-begun.ensures
    (ap (λ f. bound_from f is ports 0 is whole.scopes begun) (sym framing)
    ∙ ap (λ xs. bound_from c.new-frame.result (map instance_of xs) ports 0 (map instance_of xs) whole.scopes begun) (sym c.as_slice-4.ensures)
    ∙ ap (λ xs. bound_from c.new-frame.result (map instance_of c.as_slice-4.result.now) ports 0 (map instance_of c.as_slice-4.result.now) (map scope_of xs) begun) (sym c.as_slice-5.ensures)
    ∙ ap (λ xs. bound_from c.new-frame.result (map instance_of c.as_slice-4.result.now) (map (map socket_of) xs) 0 (map instance_of c.as_slice-4.result.now) (map scope_of c.as_slice-5.result.now) begun)
    (sym c.as_slice-6.ensures)
    ∙ c.in-Ok.ensures.ok)
    ∙ finished_is name number top whole.signals bound c.all_started-started.result c.in_ok-inputs.inputs c.in_ok-outputs.outputs c.is_misnamed.result
    starting c.in_ok-inputs.ensures c.in_ok-outputs.ensures c.is_misnamed.ensures
    ∙ ap {B = Result Binding BindErr} (λ ns. Ok (record {
      signals = c.all_started-started.result;
      numbered = map numbered_of ns;
      inputs = c.in_ok-inputs.inputs;
      outputs = c.in_ok-outputs.outputs;
      misnamed = c.is_misnamed.result;
      bound = bound;
    })) (sym c.replace-numbered.ensures.value)
