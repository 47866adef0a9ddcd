use Rattle.v_lexer.proofs.SymbolRows.{symbol_alone, symbol_last, symbol_short, symbol_triple}
use Rattle.v_lexer.proofs.symbols.symbol_length.Goals as goal

pub returns-in-None : goal.returns-in-None
returns-in-None c = symbol_alone c.args.first c.args.rest.now c.in-None.ensures c.requires

pub returns-in-None-first_of : goal.returns-in-None-first_of
returns-in-None-first_of c = symbol_last c.args.first c.in-Some.second c.second_length-size.result c.args.rest.now c.in-Some.tail.now c.in-Some.ensures c.in-None-first_of.ensures c.requires c.second_length-size.ensures

pub returns-then-is_triple : goal.returns-then-is_triple
returns-then-is_triple c = symbol_triple c.args.first c.in-Some.second c.in-Some-first_of.third c.args.rest.now c.in-Some.tail.now _ c.in-Some.ensures c.in-Some-first_of.ensures (cc)

pub returns-else-is_triple : goal.returns-else-is_triple
returns-else-is_triple c = symbol_short c.args.first c.in-Some.second c.in-Some-first_of.third c.second_length-size.result c.args.rest.now c.in-Some.tail.now _ c.in-Some.ensures c.in-Some-first_of.ensures c.requires (cc) c.second_length-size.ensures
