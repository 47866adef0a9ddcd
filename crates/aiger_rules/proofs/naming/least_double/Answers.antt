use Rattle.std.proofs.Common.{◌≡◌, ℕ, ◌+◌, ◌<◌, ◌∙◌, Bool, length, Some, None, if◌then◌else◌, ap, sym, subst, arith}
use Rattle.std.specs.Prelude.{slice_index}
use Rattle.loc_base.specs.NameTable.{has_number}
use Rattle.aiger_rules.specs.Naming.{is_double, IsLineOf, IsLeastOf}
use Rattle.aiger_rules.proofs.NamingSteps.{least-more}
use Rattle.aiger_rules.proofs.DoubleSteps.{met-next, double-found}
use Rattle.aiger_rules.proofs.naming.least_double.Goals as goal

pub loop-place-preserved : goal.loop-place-preserved
loop-place-preserved c =
    let names = c.args.names.now in
    let lines = c.args.lines.now in
    let place = c.loop-place.place in
    let within : place < length names = omega arith in
    let shared = has_number c.in_ok-shared.shared in
    let old = has_number c.loop-place.met in
    let name = c.row.result.now in
    let test : c.in_ok-again.again ≡ is_double names place =
    double-found shared old c.args.rows names lines place name c.in_ok-again.again within c.row.ensures c.requires.differ c.in_ok-shared.ensures
    c.loop-place.invariant.met c.in_ok-again.ensures.again in
    record {
      met = λ other known.
          c.in_ok-again.ensures.met other ∙ met-next shared old names place name within c.row.ensures c.loop-place.invariant.met other known;
      least = subst (IsLeastOf (IsLineOf (is_double names) (slice_index lines) (place + 1))) (sym c.lesser-least.ensures) (
          least-more (is_double names) (slice_index lines) place c.loop-place.least c.line_if.result c.loop-place.invariant.least
          (c.line_if.ensures ∙ ap (λ (b : Bool). if b then Some (slice_index lines place) else None) test)
          );
    }

pub returns : goal.returns
returns c =
    let here : c.loop-place.place ≡ length c.args.names.now = omega arith in
    let P : ℕ → Type 0 = λ n. IsLeastOf (IsLineOf (is_double c.args.names.now) (slice_index c.args.lines.now) n) c.loop-place.least in
    subst P here c.loop-place.invariant.least
