use Rattle.std.proofs.Common.{◌≡◌, ◌∙◌, true, false, ap₂, sym, below_more, arith}
use Rattle.std.specs.Str.{bytes_eq}
use Rattle.aiger_text.specs.Content.{content_of}
use Rattle.aiger_rules.specs.Names.{port_name}
use Rattle.aiger_rules.proofs.PortSteps.{first_at-range}
use Rattle.aiger_rules.proofs.names.Named.input_named.Goals as goal

pub loop-row-preserved : goal.loop-row-preserved
loop-row-preserved c =
    let w = content_of c.args.self.now.content.now in
    let here : bytes_eq (port_name w c.loop-row.row) c.args.name.now ≡ false =
    sym (c.eq.ensures ∙ ap₂ bytes_eq (c.as_slice.ensures ∙ c.in_ok-own.ensures) c.as_bytes.ensures.same) ∙ c.if-eq.false in
    below_more _ _ c.loop-row.invariant here

pub returns-then-eq-clause-row : goal.returns-then-eq-clause-row
returns-then-eq-clause-row c =
    let w = content_of c.args.self.now.content.now in
    let here : bytes_eq (port_name w c.loop-row.row) c.args.name.now ≡ true =
    sym (c.eq.ensures ∙ ap₂ bytes_eq (c.as_slice.ensures ∙ c.in_ok-own.ensures) c.as_bytes.ensures.same) ∙ c.if-eq.true in
    sym (
    first_at-range (λ row. bytes_eq (port_name w row) c.args.name.now) 0 c.args.self.now.content.now.counts.inputs c.loop-row.row (omega arith) (omega arith) here
    c.loop-row.invariant
    )
