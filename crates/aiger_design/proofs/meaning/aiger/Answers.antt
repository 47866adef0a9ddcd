use Rattle.std.proofs.Common.{List, ◌∙◌, length, ap, sym, arith}
use Rattle.std.specs.Option.{option_copied}
use Rattle.aiger_text.specs.declared.row.Counts.{Counts}
use Rattle.aiger_text.specs.declared.row.Row.{Row}
use Rattle.aiger_text.specs.Rows.{row_count}
use Rattle.aiger_text.specs.Content.{content_of}
use Rattle.aiger_rules.specs.Literals.{definer}
use Rattle.aiger_design.specs.Numbering.{is_too_large}
use Rattle.aiger_design.proofs.FileNumbers.{is-small, names-long, design-of}
use Rattle.aiger_design.proofs.meaning.aiger.Goals as goal

pub design-requires-clause-stands : goal.design-requires-clause-stands
design-requires-clause-stands c =
    let w = content_of c.in_ok-content.content in
    let clock = option_copied c.args.clock in
    record {
      table = λ literal.
          c.in_ok-definers.ensures.definers literal ∙ ap (λ (rows : List Row). definer rows literal) (sym c.as_slice-rows.ensures.value);
      numbered = record {
        long = ap length c.as_slice-rows.ensures.value ∙ c.in_ok-content.ensures.ok.behind.rows.long ∙ sym (ap row_count c.numbering_of-numbering.ensures.counts);
        small = is-small w clock c.numbering_of-numbering.result c.numbering_of-numbering.ensures.is c.numbering_of-numbering.ensures.clocks
            (omega (arith, c.in_ok-ports.ensures.within, c.numbering_of-numbering.ensures.out, ap (λ (k : Counts). k.inputs) c.numbering_of-numbering.ensures.counts)) (sym c.is_too_large.ensures ∙ c.if-is_too_large.false);
      };
    }

pub design-requires-clause-long : goal.design-requires-clause-long
design-requires-clause-long c =
    names-long (content_of c.in_ok-content.content) (option_copied c.args.clock) c.numbering_of-numbering.result c.in_ok-ports.ports.names
    c.numbering_of-numbering.ensures.is c.in_ok-ports.ensures.names

pub returns-clause-ok : goal.returns-clause-ok
returns-clause-ok c =
    let w = content_of c.in_ok-content.content in
    let clock = option_copied c.args.clock in
    record {
      content = w;
      has = record {
        has = record { has = record { short = c.in_ok-content.ensures.short; written = c.in_ok-content.ensures.ok }; used = c.in_ok-definers.ensures.well };
        named = c.in_ok-ports.ensures.well;
      };
      fits = ap is_too_large (sym c.numbering_of-numbering.ensures.is) ∙ sym c.is_too_large.ensures ∙ c.if-is_too_large.false;
      is = design-of w clock c.args.top.now c.as_slice-rows.result.now c.numbering_of-numbering.result c.in_ok-ports.ports.names c.in_ok-design.design
          c.as_slice-rows.ensures.value c.numbering_of-numbering.ensures.is c.in_ok-ports.ensures.names c.in_ok-design.ensures;
    }
