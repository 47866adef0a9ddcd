use Rattle.std.proofs.Common.{map, ◌∙◌, ap, ap₂}
use Rattle.bind_rules.specs.Beside.{clock_fault}
use Rattle.bind_scopes.specs.Views.{numbered_of}
use Rattle.v_design.specs.Views.{binding_of}
use Rattle.v_design.proofs.MeansLaws.{same-beside}
use Rattle.v_design.proofs.listed.design_of.Goals as goal

pub returns-clause-ok : goal.returns-clause-ok
returns-clause-ok c = record {
  is = record {
    lists = binding_of c.in_ok-signals.field-0;
    bound = c.in_ok-signals.ensures.ok;
    of = record {
      signals = c.into_vec.ensures;
      drivers = c.into_vec-2.ensures ∙ c.into_lists-places.ensures.drivers;
      clocked = c.into_vec-3.ensures ∙ c.into_lists-places.ensures.clocked;
      places = c.into_vec-4.ensures ∙ c.into_lists-places.ensures.places;
      inputs = c.into_vec-5.ensures;
      outputs = c.into_vec-6.ensures;
    };
  };
  beside = same-beside (c.in_ok-homes.ensures ∙ ap (λ ns. map (λ n. n.home) (map numbered_of ns)) c.as_slice.ensures)
      (c.in_ok-spans.ensures ∙ ap (λ ns. map (λ n. n.span) (map numbered_of ns)) c.as_slice-2.ensures)
      c.into_lists-places.ensures.initial_starts
      (c.clock_fault.ensures ∙ ap₂ (clock_fault _) c.into_lists-places.ensures.misclocked c.into_lists-places.ensures.clock_read);
}
