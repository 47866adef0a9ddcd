-- How the fields of an unrolled form stand for what its contracts see; only private contracts cite it.
use Rattle.unroller.specs.declared.unrolled.Unrolled.TheInside.{Inside}
use Rattle.unroller.specs.Unrolls.{Unrolling}

abbrev pub unrolling : Inside → Unrolling
unrolling u = record {
  base = u.base;
  each = u.each;
  bits = u.bits;
  definitions = u.definitions.items;
  ends = u.ends;
  outputs = u.outputs;
  expected = u.expected;
  frees = u.frees;
  firsts = u.firsts;
}
