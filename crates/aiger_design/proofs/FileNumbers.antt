-- The design of what a text has.
use Rattle.std.proofs.Common.{◌≡◌, ℕ, ◌+◌, ◌-◌, ◌<◌, ◌≤◌, Bool, true, false, ◌||◌, List, ◌++◌, map, length, Option, Some, None, refl, sym, ◌∙◌, ap, ap₂, subst, arith}
use Rattle.std.specs.Prelude.{nat_lt}
use Rattle.std.specs.List.{range_with_len}
use Rattle.std.specs.Option.{option_to_list}
use Rattle.std.proofs.lemmas.Bool.{ltb-false, true≢false}
use Rattle.std.proofs.lemmas.List.{length-append, length-map}
use Rattle.std.proofs.lemmas.List.FromFn.{length-range_with_len}
use Rattle.aiger_text.specs.declared.row.Counts.{Counts}
use Rattle.aiger_text.specs.declared.row.Row.{Row}
use Rattle.aiger_text.specs.Rows.{first_output}
use Rattle.design_core.specs.declared.design.Design.{Design}
use Rattle.aiger_design.specs.File.{IsDesignBy, IsDesignOf}
use Rattle.aiger_text.specs.Content.{Content}
use Rattle.aiger_rules.specs.Names.{port_name}
use Rattle.aiger_rules.specs.Ports.{left_out, rows_without, port_names}
use Rattle.aiger_design.specs.declared.numbering.Numbering.{Numbering}
use Rattle.aiger_design.specs.Numbering.{first_register, signal_count, is_too_large, numbering_of, IsSmall}

-- neither of three is true
pub record NoneOf (a b c : Bool) : Type 0 where
  pub first : a ≡ false
  pub second : b ≡ false
  pub third : c ≡ false

none-of : (a b c : Bool) → (a || b || c) ≡ false → NoneOf a b c
none-of true b c is = absurd (true≢false is)
none-of false true c is = absurd (true≢false is)
none-of false false true is = absurd (true≢false is)
none-of false false false is = record { first = refl; second = refl; third = refl }

-- how large a design is that is not too large
pub record IsHandled (n : Numbering) : Type 0 where
  pub places : n.counts.ands + n.counts.latches ≤ 65536
  pub signals : signal_count n ≤ 1048576
  pub drivers : n.counts.ands + n.counts.outputs + n.counts.latches ≤ 1048576

pub is-handled : (n : Numbering) → is_too_large n ≡ false → IsHandled n
is-handled n small =
    let none = none-of (nat_lt 65536 (n.counts.ands + n.counts.latches)) (nat_lt 1048576 (signal_count n)) (nat_lt 1048576 (n.counts.ands + n.counts.outputs + n.counts.latches)) small in
    record { places = ltb-false _ _ none.first; signals = ltb-false _ _ none.second; drivers = ltb-false _ _ none.third }

-- an input is left out where a clock is named alone
clock-named : (w : Content) (clock : Option (List ℕ)) → left_out w clock < w.counts.inputs → length (option_to_list clock) ≡ 1
clock-named w None below = absurd (omega (arith, below))
clock-named w (Some name) below = refl

pub is-small : (w : Content) (clock : Option (List ℕ)) (n : Numbering) → n ≡ numbering_of w clock → n.clocks ≤ 1 → n.left_out ≤ n.counts.inputs
    → is_too_large n ≡ false → IsSmall n
is-small w clock n is clocks out fits = record {
  clocks = clocks;
  out = out;
  named = subst (λ m. m.left_out < m.counts.inputs → m.clocks ≡ 1) (sym is) (clock-named w clock);
  few = (is-handled n fits).signals;
}

-- the names are as many as the inputs and the outputs
rows-long : (c : Counts) (out : ℕ) → length (rows_without c out) ≡ out + (c.inputs - (out + 1)) + c.outputs
rows-long c out =
    length-append (range_with_len 0 out ++ range_with_len (out + 1) (c.inputs - (out + 1))) (range_with_len (first_output c) c.outputs)
    ∙ ap₂ (λ a b. a + b) (
    length-append (range_with_len 0 out) (range_with_len (out + 1) (c.inputs - (out + 1)))
    ∙ ap₂ (λ a b. a + b) (length-range_with_len 0 out) (length-range_with_len (out + 1) (c.inputs - (out + 1)))
    )
    (length-range_with_len (first_output c) c.outputs)

pub names-long : (w : Content) (clock : Option (List ℕ)) (n : Numbering) (names : List (List ℕ)) → n ≡ numbering_of w clock → names ≡ port_names w clock
    → length names ≡ first_register n + n.counts.outputs
names-long w clock n names is named =
    subst (λ m. length names ≡ first_register m + m.counts.outputs) (sym is) (
    ap length named ∙ length-append (option_to_list clock) (map (port_name w) (rows_without w.counts (left_out w clock)))
    ∙ ap (λ k. length (option_to_list clock) + k)
    (length-map (rows_without w.counts (left_out w clock)) (port_name w) ∙ rows-long w.counts (left_out w clock)) ∙ omega arith
    )

-- the design of rows, numbers and names that are those of a content
pub design-of : (w : Content) (clock : Option (List ℕ)) (top : List ℕ) (rows : List Row) (n : Numbering) (names : List (List ℕ)) (d : Design) → rows ≡ w.rows
    → n ≡ numbering_of w clock → names ≡ port_names w clock → IsDesignBy rows n names top d → IsDesignOf w top clock d
design-of w clock top rows n names d same is named design =
    subst (λ rs. IsDesignBy rs (numbering_of w clock) (port_names w clock) top d) same
    (subst (λ m. IsDesignBy rows m (port_names w clock) top d) is (subst (λ ns. IsDesignBy rows n ns top d) named design))

pub ruleset meaning_steps = (is-small, names-long)
