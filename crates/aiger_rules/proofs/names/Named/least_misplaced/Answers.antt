use Rattle.std.proofs.Common.{◌≡◌, ℕ, ◌+◌, ◌∙◌, Bool, length, map, Some, None, if◌then◌else◌, refl, ap, ap₂, sym, subst, arith}
use Rattle.std.proofs.lemmas.List.{length-map}
use Rattle.aiger_text.specs.Symbols.{plain}
use Rattle.aiger_text.specs.Content.{content_of}
use Rattle.aiger_rules.specs.Naming.{is_misplaced, IsLineOf, IsLeastOf}
use Rattle.aiger_rules.specs.Ports.{symbol_line}
use Rattle.aiger_rules.proofs.NamingSteps.{misplaced-is, least-more}
use Rattle.aiger_rules.proofs.names.Named.least_misplaced.Goals as goal

pub overflow_add-line : goal.overflow_add-line
overflow_add-line c = omega (arith, ap length c.deref-symbol-items.ensures.value)

pub overflow_add-line-in-loop-place : goal.overflow_add-line-in-loop-place
overflow_add-line-in-loop-place c = omega (arith, ap length c.deref-symbol-items.ensures.value)

pub loop-place-preserved : goal.loop-place-preserved
loop-place-preserved c =
    let w = content_of c.args.self.now.content.now in
    let place = c.loop-place.place in
    let test : c.is_bad_symbol.result ≡ is_misplaced w place =
    misplaced-is w c.args.self.now.content.now.symbols.items c.deref-symbol-items.result.now place c.is_bad_symbol.result refl
    c.deref-symbol-items.ensures.value c.loop-place-test.true c.is_bad_symbol.ensures in
    let line : c.rows.result + place + 2 ≡ symbol_line w place = ap (λ (n : ℕ). n + place + 2) c.rows.ensures.count in
    subst (IsLeastOf (IsLineOf (is_misplaced w) (symbol_line w) (place + 1))) (sym c.lesser-least.ensures) (
    least-more (is_misplaced w) (symbol_line w) place c.loop-place.least c.line_if.result c.loop-place.invariant
    (c.line_if.ensures ∙ ap₂ (λ (b : Bool) (n : ℕ). if b then Some n else None) test line)
    )

pub returns : goal.returns
returns c =
    let w = content_of c.args.self.now.content.now in
    let symbols = c.args.self.now.content.now.symbols.items in
    let here : c.loop-place.place ≡ length (map plain symbols) =
    omega (arith, ap length c.deref-symbol-items.ensures.value, length-map symbols plain, c.loop-place.auto.place-end, c.loop-place-test.false) in
    let P : ℕ → Type 0 = λ n. IsLeastOf (IsLineOf (is_misplaced w) (symbol_line w) n) c.loop-place.least in
    subst P here c.loop-place.invariant
