-- A full case takes an item.
use Rattle.std.proofs.Common.{ℕ, zero, suc, ◌^◌, ◌≡◌, ◌<◌, Bool, true, List, [], ◌∷◌, ap, sym, ◌∙◌, arith, ◌⊎◌, inl, inr}
use Rattle.std.specs.Prelude.{◌==◌, nat_le, bit_or}
use Rattle.std.specs.List.{list_any}
use Rattle.std.proofs.lemmas.Bool.{and_parts, or_cases, or_left, or_right, cases_order}
use Rattle.loc_base.specs.Bits.{value_of}
use Rattle.design_core.specs.declared.signal.Signal.{Signal}
use Rattle.design_core.specs.declared.expression.Typed.{Typed}
use Rattle.design_core.specs.declared.expression.Node.{Node, end_of-Typed, more_of-Typed}
use Rattle.design_core.specs.declared.expression.Node.TheVariants.{Resize'}
use Rattle.design_core.specs.declared.statement.Label.{Label}
use Rattle.design_core.specs.declared.statement.Stmt.{Row_of-CaseItem}
use Rattle.design_core.specs.Valuation.{Valuation}
use Rattle.design_core.specs.Value.{node_value, value}
use Rattle.design_core.specs.Constant.{is_constant, zeros}
use Rattle.design_core.specs.After.{matches}
use Rattle.design_core.specs.FullCase.{all_below, deciding_bits, decided, constant_matches, some_matches, is_full}
use Rattle.design_core.specs.WellFormed.{is_width, node_fits, typed_fits}
use Rattle.design_core.proofs.ValueAgrees.{constant-value}
use Rattle.design_core.proofs.ValueRange.{node_value-in_range}

all_below-at : (n : ℕ) (test : ℕ → Bool) (k : ℕ) → all_below n test ≡ true → k < n → test k ≡ true
unfolding all_below
all_below-at zero test k all below = absurd (omega arith)
all_below-at (suc n) test k all below =
    let parts = and_parts (test n) (all_below n test) all in
    at parts.0 (λ lt. all_below-at n test k parts.1 lt) (cases_order k n)
  where
    at : test n ≡ true → (k < n → test k ≡ true) → (k ≡ n) ⊎ ((k < n) ⊎ (n < k)) → test k ≡ true
    at here lower (inl same) = ap test same ∙ here
    at here lower (inr (inl lt)) = lower lt
    at here lower (inr (inr gt)) = absurd (omega arith)

-- a value that its bits decide
decided-at : (signals : List Signal) (V : Valuation) (width : ℕ) (signed : Bool) (e : Node) (test : ℕ → Bool) → node_fits signals width signed e ≡ true
    → all_below (2 ^ deciding_bits width e) (λ n. test (decided width e n)) ≡ true → test (node_value signals V width e) ≡ true
decided-at signals V width sign (Resize' x (more_of-Typed arg_width signed arg end_of-Typed)) test fits all =
    all_below-at (2 ^ arg_width) (λ n. test (decided width (Resize' x (more_of-Typed arg_width signed arg end_of-Typed)) n)) (node_value signals V arg_width arg) all
    (node_value-in_range signals V arg_width signed arg (and_parts (is_width width) (node_fits signals arg_width signed arg) fits).1)
decided-at signals V width sign e test fits all = all_below-at (2 ^ width) test (node_value signals V width e) all (node_value-in_range signals V width sign e fits)

-- in a full case some item has a constant label that is equal to the subject
pub is_full-matches : {shape : _} (signals : List Signal) (V : Valuation) (subject : Typed) (items : Row_of-CaseItem shape) → typed_fits signals subject ≡ true
    → is_full signals subject items ≡ true → some_matches signals (value signals V subject) items ≡ true
is_full-matches signals V subject items fits full =
    let bits : ℕ = deciding_bits subject.width subject.node in
    decided-at signals V subject.width subject.signed subject.node (λ n. some_matches signals n items) fits
    (and_parts (nat_le bits 8) (all_below (2 ^ bits) (λ n. some_matches signals (decided subject.width subject.node n) items)) full).1

-- a constant label that is equal to the subject is equal to it in each valuation
pub constant_matches-any : (signals : List Signal) (V : Valuation) (subject : ℕ) (labels : List Label)
    → list_any (constant_matches signals subject) labels ≡ true → list_any (matches signals V subject) labels ≡ true
constant_matches-any signals V subject [] some = some
constant_matches-any signals V subject (label ∷ labels) some =
    at (or_cases (constant_matches signals subject label) (list_any (constant_matches signals subject) labels) some)
    (λ later. constant_matches-any signals V subject labels later)
  where
    at : (constant_matches signals subject label ≡ true) ⊎ (list_any (constant_matches signals subject) labels ≡ true)
        → (list_any (constant_matches signals subject) labels ≡ true → list_any (matches signals V subject) labels ≡ true)
        → list_any (matches signals V subject) (label ∷ labels) ≡ true
    at (inl here) behind =
        let parts = and_parts (is_constant label.value.node) (matches signals zeros subject label) here in
        let same : matches signals zeros subject label ≡ matches signals V subject label =
        ap (λ v. bit_or subject (value_of label.wild) == bit_or v (value_of label.wild))
        (constant-value signals zeros V label.value.width label.value.node parts.0) in
        or_left (matches signals V subject label) (list_any (matches signals V subject) labels) (sym same ∙ parts.1)
    at (inr later) behind = or_right (matches signals V subject label) (list_any (matches signals V subject) labels) (behind later)
