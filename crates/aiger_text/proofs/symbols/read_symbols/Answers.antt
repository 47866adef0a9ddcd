use Rattle.std.proofs.Common.{◌≡◌, ◌+◌, ◌∙◌, length, ap, arith}
use Rattle.std.proofs.lemmas.List.{length_push}
use Rattle.aiger_text.specs.Lines.{lines}
use Rattle.aiger_text.proofs.SymbolSteps.{symbols-next, symbols-end}
use Rattle.aiger_text.proofs.symbols.read_symbols.Goals as goal

pub symbols-preserved : goal.symbols-preserved
symbols-preserved c =
    let pushed = c.in_ok-push-in-Symbol.ensures.items in
    let long : length c.push.new.self.items ≡ length c.symbols.symbols.items + 1 = ap length pushed ∙ length_push c.symbols.symbols.items c.in-Symbol.symbol in
    record {
      far = symbols-next (lines c.args.text.now) c.symbols.symbols.items c.push.new.self.items c.in-Symbol.symbol c.symbols.rest.now c.in-Symbol.behind.now
          c.symbols.invariant.far c.in-Symbol.ensures.0 c.in-Symbol.ensures.1 pushed;
      shorter = omega (arith, long, c.in-Symbol.ensures.2, c.symbols.invariant.shorter);
    }

pub returns-in-Other-clause-lacking : goal.returns-in-Other-clause-lacking
returns-in-Other-clause-lacking c =
    let end = symbols-end (lines c.args.text.now) c.symbols.symbols.items c.symbols.rest.now c.args.first c.symbols.invariant.far c.in-Other.ensures in
    let long : c.len.result ≡ length c.symbols.symbols.items = omega (arith, c.len.ensures, c.symbols.symbols.ok.0) in
    (end.0, end.1, omega (arith, end.2, long))
