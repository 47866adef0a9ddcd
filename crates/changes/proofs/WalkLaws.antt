-- What a walk through a statement answers in other words, and the right sides of places.
use Rattle.std.proofs.Common.{◌≡◌, ◌≢◌, ◌≤◌, ℕ, Bool, true, false, ◌&&◌, List, ◌∷◌, ap, sym, ◌∙◌, refl, subst, arith, Option, Some, None, option_map}
use Rattle.std.specs.Prelude.{◌==◌, if◌then◌else◌, nat_le, IfSome}
use Rattle.std.specs.Option.{option_map_or, option_or}
use Rattle.std.specs.List.{list_all}
use Rattle.std.proofs.lemmas.Bool.{and_parts, cond-true, cond-false, eq-eqb, ne_eqb, leb-true}
use Rattle.loc_base.specs.declared.bits.Bits.{Bits}
use Rattle.design_core.specs.declared.signal.Signal.{Signal}
use Rattle.design_core.specs.declared.place.Place.{Place}
use Rattle.design_core.specs.declared.design.Design.{Design}
use Rattle.design_core.specs.declared.expression.Typed.{Typed}
use Rattle.design_core.specs.declared.statement.Part.{Part}
use Rattle.design_core.specs.declared.statement.Stmt.{Stmt}
use Rattle.design_core.specs.Explained.{place_width}
use Rattle.design_core.specs.Store.{parts_width}
use Rattle.design_core.specs.Valuation.{Valuation}
use Rattle.design_core.specs.After.{Choice, Updates, after}
use Rattle.design_core.specs.WellFormed.{assignment_fits, place_fits, typed_fits, is_width, part_fits}
use Rattle.design_core.specs.Words.{valuation_of}
use Rattle.design_core.proofs.Computed.{place_fits-at}
use Rattle.plain_values.specs.Evaluate.{after_list}
use Rattle.changes.specs.Execution.{Execution, executed_set, executed_in}
use Rattle.changes.specs.Lists.{executed_list}
use Rattle.changes.specs.Moments.{IsSide, Walks, as_updates, execution_with}

-- the same said in other words
pub walks-same : (d : Design) (p : ℕ) (one other : Option Execution) (leaves leaves' : Updates) (side : Option Typed)
    (now later : List Bits)
    → one ≡ other → leaves ≡ leaves' → Walks d p one leaves side now later → Walks d p other leaves' side now later
walks-same d p one other leaves leaves' side now later same left h =
    record { executes = h.executes ∙ same; fits = h.fits; left = λ none. h.left none ∙ left }

-- the width of a place that an assignment has
pub placed-width : (d : Design) (parts : List Part) (p : ℕ) → place_fits d.places.items (parts_width d.signals.items parts) p ≡ true
    → place_width d p ≡ parts_width d.signals.items parts
placed-width d parts p fits =
    let (place, at, width) = place_fits-at d.places.items (parts_width d.signals.items parts) p fits in
    ap (λ o. option_map_or (λ (q : Place). q.width) o 0) at ∙ width

-- an assignment that fits can be that of its place
pub is-placed : (d : Design) (parts : List Part) (e : Typed) (p : ℕ)
    → (assignment_fits d.signals.items parts e && place_fits d.places.items (parts_width d.signals.items parts) p) ≡ true
    → IsSide d p e
is-placed d parts e p fits =
    let signals : List Signal = d.signals.items in
    let wide : ℕ = parts_width signals parts in
    let all : Bool = list_all (part_fits signals) parts in
    let both = and_parts (assignment_fits signals parts e) (place_fits d.places.items wide p) fits in
    let last = and_parts (all && is_width wide && typed_fits signals e) (nat_le wide e.width) both.0 in
    let third = and_parts (all && is_width wide) (typed_fits signals e) last.0 in
    let second = and_parts all (is_width wide) third.0 in
    let low = and_parts (nat_le 1 wide) (nat_le wide 128) second.1 in
    let same : place_width d p ≡ wide = placed-width d parts p both.1 in
    record {
      typed = third.1;
      least = omega (arith, same, leb-true 1 wide low.0);
      most = omega (arith, same, leb-true wide e.width last.1);
    }
