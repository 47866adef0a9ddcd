-- The parts of a concatenation as a list.
use Rattle.std.proofs.Common.{◌≡◌, ℕ, ◌+◌, ◌*◌, ◌^◌, ◌<◌, ◌≤◌, List, [], ◌∷◌, length, ap, arith, ◌∙◌, sym, refl}
use Rattle.std.specs.Prelude.{Bool, ◌&&◌, ◌==◌, IsTrue}
use Rattle.std.specs.List.{list_all}
use Rattle.std.proofs.lemmas.Bool.Decides.{nat_tests}
use Rattle.design_core.specs.declared.signal.Signal.{Signal}
use Rattle.design_core.specs.declared.expression.Typed.{Typed}
use Rattle.design_core.specs.declared.expression.Node.{Row_of-Typed, end_of-Typed, more_of-Typed, items-the_row-Typed, items_hidden-the_row-Typed-1}
use Rattle.design_core.specs.declared.expression.Node.TheVariants.{Join}
use Rattle.design_core.specs.declared.expression.Node.TheBlock.{hidden-the_row-Typed-1}
use Rattle.design_core.specs.Valuation.{Valuation}
use Rattle.design_core.specs.Value.{node_value, joined}
use Rattle.design_core.specs.WellFormed.{is_width, node_fits, typed_fits, joined_width, parts_fit}
use Rattle.plain_values.specs.Evaluate.{join_parts, parts_sum}

joined-list : {shape : _} (signals : List Signal) (V : Valuation) (left : ℕ) (row : Row_of-Typed shape)
    → joined signals V left row ≡ join_parts signals V left (items-the_row-Typed shape row)
joined-list signals V left end_of-Typed = refl
joined-list signals V left (more_of-Typed width signed node rest) =
    joined-list signals V (left * 2 ^ width + node_value signals V width node) rest

pub fits-list : {shape : _} (signals : List Signal) (row : Row_of-Typed shape)
    → parts_fit signals row ≡ list_all (typed_fits signals) (items-the_row-Typed shape row)
fits-list signals end_of-Typed = refl
fits-list signals (more_of-Typed width signed node rest) = ap (λ b. node_fits signals width signed node && b) (fits-list signals rest)

pub width-list : {shape : _} (row : Row_of-Typed shape) → joined_width row ≡ parts_sum (items-the_row-Typed shape row)
width-list end_of-Typed = refl
width-list (more_of-Typed width signed node rest) = ap (λ n. width + n) (width-list rest)

-- a concatenation's value
pub join-value : (signals : List Signal) (V : Valuation) (width : ℕ) (parts : List Typed)
    → node_value signals V width (Join parts) ≡ join_parts signals V 0 parts
join-value signals V width parts =
    joined-list signals V 0 (hidden-the_row-Typed-1 parts)
    ∙ ap (join_parts signals V 0) (items_hidden-the_row-Typed-1 parts)

-- what is known of the parts of one that fits
pub record JoinFits (signals : List Signal) (size : ℕ) (parts : List Typed) : Type 0 where
  pub fits : IsTrue (list_all (typed_fits signals) parts)
  pub width : parts_sum parts ≡ size
  pub some : 0 < length parts
  pub most : size ≤ 128

not_empty : (parts : List Typed) (width : ℕ) → parts_sum parts ≡ width → 1 ≤ width → 0 < length parts
not_empty [] width e h = absurd (omega arith)
not_empty (part ∷ parts) width e h = omega arith

tests : (width sum : ℕ) (fits : Bool) → IsTrue (is_width width && sum == width && fits) → (1 ≤ width) × (width ≤ 128) × (sum ≡ width) × IsTrue fits
tests width sum fits h = grind (arith, nat_tests)

pub join-fits : (signals : List Signal) (width : ℕ) (signed : Bool) (parts : List Typed) → IsTrue (node_fits signals width signed (Join parts)) → JoinFits signals width parts
join-fits signals width signed parts h =
    let row = hidden-the_row-Typed-1 parts in
    let items = items_hidden-the_row-Typed-1 parts in
    let t = tests width (joined_width row) (parts_fit signals row) h in
    let sum : parts_sum parts ≡ width = sym (ap parts_sum items) ∙ sym (width-list row) ∙ t.2 in
    let all : parts_fit signals row ≡ list_all (typed_fits signals) parts = fits-list signals row ∙ ap (list_all (typed_fits signals)) items in
    record { fits = sym all ∙ t.3; width = sum; some = not_empty parts width sum t.0; most = t.1 }
